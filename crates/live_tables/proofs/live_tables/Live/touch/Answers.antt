use Rattle.std.proofs.Common.{sym, subst, ◌∙◌}
use Rattle.model.specs.declared.item.Item.TheVariants.{Touch}
use Rattle.world.specs.Steps.{done_with}
use Rattle.live_tables.specs.Represents.{Represents}
use Rattle.live_tables.specs.ByHoldsLemmas.{by_holds, from_holds}
use Rattle.live_tables.proofs.Stands.{on_ok, on_err, map_err}
use Rattle.live_tables.proofs.live_tables.Live.touch.Goals as goal

pub touch_by_holds-requires : goal.touch_by_holds-requires
touch_by_holds-requires c = let (w, o, tied, is) = c.requires in (w, o, by_holds w c.args.self.now tied c.if-self.true, is)

pub returns-then-self-clause-ok : goal.returns-then-self-clause-ok
returns-then-self-clause-ok c =
    on_ok c.touch_by_holds.result _ _ c.touch_by_holds.ensures.ok (λ touched w o tied is.
    from_holds (done_with w c.args.xid o (Touch c.args.sub)) c.touch_by_holds.new.self (touched w o (by_holds w c.args.self.now tied c.if-self.true) is)
    (c.touch_by_holds.ensures.made ∙ c.if-self.true))

pub returns-then-self-clause-err : goal.returns-then-self-clause-err
returns-then-self-clause-err c =
    map_err c.touch_by_holds.result _ _ c.touch_by_holds.ensures.err (λ left w o tied is.
    from_holds w c.touch_by_holds.new.self (left w o (by_holds w c.args.self.now tied c.if-self.true) is) (c.touch_by_holds.ensures.made ∙ c.if-self.true))

pub returns-then-sub-xid-clause-ok : goal.returns-then-sub-xid-clause-ok
returns-then-sub-xid-clause-ok c = rw c.if-sub-xid.true c.touch_alone.ensures.ok

pub make-requires : goal.make-requires
make-requires c = let (w, o, tied, is) = c.requires in (w, c.args.xid, o, tied, is)

pub returns-in_err-make-clause-err : goal.returns-in_err-make-clause-err
returns-in_err-make-clause-err c =
    on_err c.from_residual.result _ (λ w o tied is. subst (Represents w) (sym c.in_err-make.ensures.err) tied)

pub touch_by_holds-requires-2 : goal.touch_by_holds-requires-2
touch_by_holds-requires-2 c = let (w, o, tied, is) = c.requires in (w, o, c.in_ok-make.ensures.ok w tied, is)

pub returns-clause-ok : goal.returns-clause-ok
returns-clause-ok c =
    on_ok c.touch_by_holds-2.result _ _ c.touch_by_holds-2.ensures.ok (λ touched w o tied is.
    from_holds (done_with w c.args.xid o (Touch c.args.sub)) c.touch_by_holds-2.new.self (touched w o (c.in_ok-make.ensures.ok w tied) is)
    (c.touch_by_holds-2.ensures.made ∙ c.in_ok-make.ensures.made))

pub returns-clause-err : goal.returns-clause-err
returns-clause-err c =
    map_err c.touch_by_holds-2.result _ _ c.touch_by_holds-2.ensures.err (λ left w o tied is.
    from_holds w c.touch_by_holds-2.new.self (left w o (c.in_ok-make.ensures.ok w tied) is) (c.touch_by_holds-2.ensures.made ∙ c.in_ok-make.ensures.made))
