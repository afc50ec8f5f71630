use Rattle.std.proofs.Common.{rules, refl, sym, ap, subst, ◌∙◌}
use Rattle.live_tables.specs.declared.live_tables.Live.{Live}
use Rattle.live_tables.specs.Represents.{Represents}
use Rattle.live_tables.specs.ByHoldsLemmas.{by_holds, by_some}
use Rattle.live_tables.specs.ActLemmas.{has_stopped}
use Rattle.live_tables.specs.Tried.{HasTried}
use Rattle.live_tables.proofs.Refusals.{memory_refused, runs_there, tried_by_holds}
use Rattle.live_tables.proofs.live_tables.Live.try_change.Goals as goal

pub returns-then-is_some : goal.returns-then-is_some
returns-then-is_some c = record {
  tries = λ w o tied is.
      let some = by_some w c.args.self.now tied in
      (has_stopped w (record c.args.self.now { holds = some.0 }) some.1 (sym c.is_some.ensures ∙ c.if-is_some.true), refl);
  tied = λ w o tied is. tied;
  cause = tt;
  schema = refl;
}

pub try_by_holds-requires-clause-tied : goal.try_by_holds-requires-clause-tied
try_by_holds-requires-clause-tied c = let (w, o, tied, is) = c.requires.tied in (w, o, by_holds w c.args.self.now tied c.if-self.true, is)

pub returns-then-self : goal.returns-then-self
returns-then-self c =
    tried_by_holds c.args.self.now c.args.self.now c.try_by_holds.new.self c.args.xid c.args.sub c.args.c.now c.try_by_holds.result
    (λ w tied. by_holds w c.args.self.now tied c.if-self.true) refl (c.try_by_holds.ensures.made ∙ c.if-self.true) c.try_by_holds.ensures.tried

pub returns-then-sub-xid : goal.returns-then-sub-xid
returns-then-sub-xid c = rw c.if-sub-xid.true c.try_alone.ensures

pub make-requires : goal.make-requires
make-requires c = let (w, o, tied, is) = c.requires.tied in (w, c.args.xid, o, tied, is)

pub returns-in_err-make : goal.returns-in_err-make
returns-in_err-make c =
    subst (λ (m : Live). HasTried c.args.self.now m c.args.xid c.args.sub c.args.c.now c.from_residual.result) (sym c.in_err-make.ensures.err)
    (memory_refused Represents c.args.self.now (runs_there c.args.self.now (search rules)) c.args.xid c.args.sub c.args.c.now c.from_residual.result c.from_residual.ensures.1)

-- behind the making
pub try_by_holds-requires-2-clause-names : goal.try_by_holds-requires-2-clause-names
try_by_holds-requires-2-clause-names c = rw c.in_ok-make.ensures.same c.requires.names

pub try_by_holds-requires-2-clause-tied : goal.try_by_holds-requires-2-clause-tied
try_by_holds-requires-2-clause-tied c = let (w, o, tied, is) = c.requires.tied in (w, o, c.in_ok-make.ensures.ok w tied, is)

pub returns : goal.returns
returns c =
    tried_by_holds c.args.self.now c.make.new.self c.try_by_holds-2.new.self c.args.xid c.args.sub c.args.c.now c.try_by_holds-2.result
    c.in_ok-make.ensures.ok (ap (λ (m : Live). m.tables.schema) c.in_ok-make.ensures.same) (c.try_by_holds-2.ensures.made ∙ c.in_ok-make.ensures.made) c.try_by_holds-2.ensures.tried
