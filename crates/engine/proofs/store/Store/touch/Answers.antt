use Rattle.std.proofs.Common.{◌≡◌, ◌++◌, ◌∙◌, ℕ}
use Rattle.tokens.specs.Lists.{with_list}
use Rattle.world.specs.World.{Opened, World}
use Rattle.world.specs.Steps.{Touches}
use Rattle.live_tables.specs.Answers.{told_call, after_touch}
use Rattle.engine.specs.Events.{opened_by, touch_events}
use Rattle.engine.specs.Engine.{world_in, Represents}
use Rattle.engine.specs.StoreLemmas.{with_parts, store_touched}
use Rattle.engine.proofs.StoreTickets.{IsTicket, its_ticket, met_call, tied_after, seen_step}
use Rattle.engine.proofs.store.Store.touch.Goals as goal

pub touch_live-answer-requires : goal.touch_live-answer-requires
touch_live-answer-requires c = met_call c.t.inside.slip c.self.invariant c.number-xid.ensures c.meet.ensures.listed

module _ (c : goal.After-record_touch) where
  -- the world that the call leads to, and that it is the store's
  abbrev later : World → ℕ → Opened → World
  later w n o = after_touch w n o c.args.sub (told_call c.touch_live-answer.result)

  moved : (world_in (with_parts c.self.inside c.touch_live-answer.new.live c.record_touch.new.book) ≡ later (world_in c.self.inside) c.args.t.now.number (opened_by c.args.t.now.list))
      × Represents (with_parts c.self.inside c.touch_live-answer.new.live c.record_touch.new.book)
  moved =
      let its : IsTicket c.self.inside c.args.t.now c.number-xid.result = its_ticket c.t.view_is c.number-xid.ensures c.t.view_is c.meet.ensures.listed in
      store_touched c.self.inside c.self.invariant c.args.t.now.number c.args.t.now.list its.listed c.touch_live-answer.new.live c.record_touch.new.book
      c.args.sub (told_call c.touch_live-answer.result) c.touch_live-answer.ensures.schema
      (c.record_touch.ensures.book
      ∙ (λ i. let t = (c.meet.ensures.slip ∙ c.t.view_is) i in with_list (c.meet.ensures.book i) t.number (t.list ++ touch_events c.args.sub (told_call c.touch_live-answer.result))))
      (tied_after c.self.invariant its later c.touch_live-answer.new.live c.touch_live-answer.ensures.tied)

pub invariant_of-self : goal.invariant_of-self
invariant_of-self c = (moved c).1

pub returns-clause-touches : goal.returns-clause-touches
returns-clause-touches c =
    seen_step c.self.invariant (its_ticket c.t.view_is c.number-xid.ensures c.t.view_is c.meet.ensures.listed) c.args.self.now c.self.view_is (λ _ w n o next. Touches w n o c.args.sub (told_call c.touch_live-answer.result) next)
    (later c) (world_in (with_parts c.self.inside c.touch_live-answer.new.live c.record_touch.new.book)) (moved c).0 c.touch_live-answer.ensures.touches
