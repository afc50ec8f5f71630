use Rattle.std.proofs.Common.{◌≡◌, ◌++◌, ◌∙◌, ℕ, ap}
use Rattle.tokens.specs.Lists.{with_list}
use Rattle.world.specs.World.{Opened, World}
use Rattle.live_tables.specs.Tried.{Tries, after_try}
use Rattle.engine.specs.Events.{opened_by, tried_events}
use Rattle.engine.specs.Engine.{Engine, world_in, Represents}
use Rattle.engine.specs.StoreLemmas.{with_parts, store_tried}
use Rattle.engine.proofs.StoreTickets.{IsTicket, its_ticket, met_call, tied_after, seen_step}
use Rattle.engine.proofs.store.Store.try_change.Goals as goal

pub try_change-answer-requires-clause-tied : goal.try_change-answer-requires-clause-tied
try_change-answer-requires-clause-tied c = met_call c.t.inside.slip c.self.invariant c.number-xid.ensures c.meet.ensures.listed

module _ (c : goal.After-record_try) where
  -- the world that the call leads to, and that it is the store's
  abbrev later : World → ℕ → Opened → World
  later w n o = after_try w n o c.args.sub c.args.c.now c.try_change-answer.result

  moved : (world_in (with_parts c.self.inside c.try_change-answer.new.self c.record_try.new.book) ≡ later (world_in c.self.inside) c.args.t.now.number (opened_by c.args.t.now.list))
      × Represents (with_parts c.self.inside c.try_change-answer.new.self c.record_try.new.book)
  moved =
      let its : IsTicket c.self.inside c.args.t.now c.number-xid.result = its_ticket c.t.view_is c.number-xid.ensures c.t.view_is c.meet.ensures.listed in
      store_tried c.self.inside c.self.invariant c.args.t.now.number c.args.t.now.list its.listed c.try_change-answer.new.self c.record_try.new.book
      c.args.sub c.args.c.now c.try_change-answer.result c.try_change-answer.ensures.schema
      (c.record_try.ensures.book
      ∙ (λ i. let t = (c.meet.ensures.slip ∙ c.t.view_is) i in with_list (c.meet.ensures.book i) t.number (t.list ++ tried_events c.args.sub c.args.c.now c.try_change-answer.result)))
      (tied_after c.self.invariant its later c.try_change-answer.new.self c.try_change-answer.ensures.tied)

pub invariant_of-self : goal.invariant_of-self
invariant_of-self c = (moved c).1

pub returns-clause-tries : goal.returns-clause-tries
returns-clause-tries c =
    seen_step c.self.invariant (its_ticket c.t.view_is c.number-xid.ensures c.t.view_is c.meet.ensures.listed) c.args.self.now c.self.view_is (λ schema w n o next. Tries schema w n o c.args.sub c.args.c.now c.try_change-answer.result next)
    (later c) (world_in (with_parts c.self.inside c.try_change-answer.new.self c.record_try.new.book)) (moved c).0 c.try_change-answer.ensures.tries

pub returns-clause-world : goal.returns-clause-world
returns-clause-world c =
    (moved c).0 ∙ ap (λ (e : Engine). after_try e.world c.args.t.now.number (opened_by c.args.t.now.list) c.args.sub c.args.c.now c.try_change-answer.result) c.self.view_is
