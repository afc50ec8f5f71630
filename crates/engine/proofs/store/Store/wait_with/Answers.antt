use Rattle.std.proofs.Common.{◌≡◌, [], ◌∷◌, ◌++◌, ◌∙◌, ap}
use Rattle.std.specs.Prelude.{Ok}
use Rattle.tokens.specs.Lists.{with_list}
use Rattle.world.specs.Steps.{Held, wanting}
use Rattle.engine.specs.declared.events.Event.TheVariants.{Wants}
use Rattle.engine.specs.Events.{opened_by}
use Rattle.engine.specs.Engine.{Engine, world_in, Represents}
use Rattle.engine.specs.StoreLemmas.{with_parts, store_acted, runs_here}
use Rattle.engine.proofs.StoreTickets.{IsTicket, its_ticket, met_call, tied_after}
use Rattle.engine.proofs.store.Store.wait_with.Goals as goal

pub wait_with-requires-clause-running : goal.wait_with-requires-clause-running
wait_with-requires-clause-running c =
    runs_here (world_in c.self.inside) c.self.inside.live c.self.invariant.tied (ap (λ (e : Engine). e.world.stopped) c.self.view_is ∙ c.requires.running)

pub wait_with-requires-clause-tied : goal.wait_with-requires-clause-tied
wait_with-requires-clause-tied c = met_call c.t.inside.slip c.self.invariant c.number-xid.ensures c.meet.ensures.listed

-- the world that the call leads to, and that it is the store's
moved : (c : goal.After-wait_with) → (world_in (with_parts c.self.inside c.wait_with.new.self c.record_act.new.book)
    ≡ wanting (world_in c.self.inside) c.args.t.now.number (opened_by c.args.t.now.list) c.args.sub c.args.change)
    × Represents (with_parts c.self.inside c.wait_with.new.self c.record_act.new.book)
moved c =
    let its : IsTicket c.self.inside c.args.t.now c.number-xid.result = its_ticket c.t.view_is c.number-xid.ensures c.t.view_is c.meet.ensures.listed in
    store_acted c.self.inside c.self.invariant c.args.t.now.number c.args.t.now.list its.listed c.wait_with.new.self c.record_act.new.book
    c.args.sub c.args.change (Ok (Held c.number-xid.result)) c.wait_with.ensures.schema
    (c.record_act.ensures.book
    ∙ (λ i. let t = (c.meet.ensures.slip ∙ c.t.view_is) i in with_list (c.meet.ensures.book i) t.number (t.list ++ Wants c.args.sub c.args.change ∷ [])))
    (tied_after c.self.invariant its (λ w n o. wanting w n o c.args.sub c.args.change) c.wait_with.new.self c.wait_with.ensures.tied)

pub invariant_of-self : goal.invariant_of-self
invariant_of-self c = (moved c).1

pub returns-clause-world : goal.returns-clause-world
returns-clause-world c =
    (moved c).0 ∙ ap (λ (e : Engine). wanting e.world c.args.t.now.number (opened_by c.args.t.now.list) c.args.sub c.args.change) c.self.view_is
