use Rattle.std.proofs.Common.{◌≡◌, [], ◌∷◌, ◌++◌, refl, sym, subst, ◌∙◌}
use Rattle.std.specs.Prelude.{◌==◌, if◌then◌else◌}
use Rattle.model.specs.declared.item.Item.TheVariants.{BackTo}
use Rattle.model.specs.Survivors.{before_savepoint, survivors, changes_of}
use Rattle.tokens.specs.Lists.{OpenList}
use Rattle.world.specs.World.{work}
use Rattle.world.specs.Steps.{GoesBack, done_with}
use Rattle.engine.specs.declared.events.Event.{Event}
use Rattle.engine.specs.declared.events.Event.TheVariants.{Done}
use Rattle.engine.specs.Events.{opened_by}
use Rattle.engine.specs.EventLemmas.{work_back}
use Rattle.engine.specs.Engine.{world_in}
use Rattle.engine.specs.StoreLemmas.{with_parts}
use Rattle.engine.proofs.StoreTickets.{its_ticket, met_call, seen_step, HasDone, item_done}
use Rattle.engine.proofs.store.Store.back_to.Goals as goal

pub back_to-requires : goal.back_to-requires
back_to-requires c = met_call c.t.inside.slip c.self.invariant c.number-xid.ensures c.meet.ensures.listed

done : (c : goal.Joined-this) → HasDone c.self.inside c.args.t.now (BackTo c.args.sub) (with_parts c.self.inside c.back_to.new.self c.grow.new.self)
done c =
    item_done c.back_to.new.self (BackTo c.args.sub) c.self.invariant (its_ticket c.t.view_is c.number-xid.ensures c.t.view_is c.meet.ensures.listed)
    (c.meet.ensures.slip ∙ c.t.view_is) c.meet.ensures.book c.grow.ensures.book c.back_to.ensures.schema c.back_to.ensures.tied

pub invariant_of-self : goal.invariant_of-self
invariant_of-self c = (done c).1

pub returns-clause-goes_back : goal.returns-clause-goes_back
returns-clause-goes_back c =
    seen_step c.self.invariant (its_ticket c.t.view_is c.number-xid.ensures c.t.view_is c.meet.ensures.listed) c.args.self.now c.self.view_is (λ _ w n o next. GoesBack w n o c.args.sub next)
    (λ w n o. done_with w n o (BackTo c.args.sub)) (world_in (with_parts c.self.inside c.back_to.new.self c.grow.new.self)) (done c).0 (λ w o tied is. refl)

-- what its ticket lists
longer : (c : goal.Joined-this) → c.grow.new.slip ≡ record c.args.t.now { list = c.args.t.now.list ++ Done (BackTo c.args.sub) ∷ [] }
longer c = c.grow.ensures.slip ∙ (λ i. let t = (c.meet.ensures.slip ∙ c.t.view_is) i in record t { list = t.list ++ Done (BackTo c.args.sub) ∷ [] })

pub returns-clause-as_though : goal.returns-clause-as_though
returns-clause-as_though c =
    subst (λ (t : OpenList Event). work t.number (opened_by t.list)
    ≡ changes_of (if c.args.sub == c.args.t.now.number then survivors c.args.t.now.number (opened_by c.args.t.now.list).items
    else before_savepoint c.args.sub (survivors c.args.t.now.number (opened_by c.args.t.now.list).items))) (sym (longer c))
    (work_back c.args.t.now.list c.args.t.now.number c.args.sub)
