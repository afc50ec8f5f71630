use Rattle.std.proofs.Common.{◌≡◌, ◌++◌, ◌∙◌, ℕ}
use Rattle.tokens.specs.Lists.{with_list}
use Rattle.world.specs.World.{Opened, World}
use Rattle.world.specs.Steps.{Acts}
use Rattle.live_tables.specs.Answers.{told, after_act}
use Rattle.engine.specs.Events.{opened_by, events_of}
use Rattle.engine.specs.Engine.{world_in, Represents}
use Rattle.engine.specs.StoreLemmas.{with_parts, store_acted}
use Rattle.engine.proofs.StoreTickets.{IsTicket, its_ticket, met_call, tied_after, seen_step}
use Rattle.engine.proofs.store.Store.act.Goals as goal

pub act-answer-requires-clause-tied : goal.act-answer-requires-clause-tied
act-answer-requires-clause-tied c = met_call c.t.inside.slip c.self.invariant c.number-xid.ensures c.meet.ensures.listed

module _ (c : goal.After-record_act) where
  -- the world that the call leads to, and that it is the store's
  abbrev later : World → ℕ → Opened → World
  later w n o = after_act w n o c.args.sub c.args.c.now (told c.act-answer.result)

  moved : (world_in (with_parts c.self.inside c.act-answer.new.self c.record_act.new.book) ≡ later (world_in c.self.inside) c.args.t.now.number (opened_by c.args.t.now.list))
      × Represents (with_parts c.self.inside c.act-answer.new.self c.record_act.new.book)
  moved =
      let its : IsTicket c.self.inside c.args.t.now c.number-xid.result = its_ticket c.t.view_is c.number-xid.ensures c.t.view_is c.meet.ensures.listed in
      store_acted c.self.inside c.self.invariant c.args.t.now.number c.args.t.now.list its.listed c.act-answer.new.self c.record_act.new.book
      c.args.sub c.args.c.now (told c.act-answer.result) c.act-answer.ensures.schema
      (c.record_act.ensures.book
      ∙ (λ i. let t = (c.meet.ensures.slip ∙ c.t.view_is) i in with_list (c.meet.ensures.book i) t.number (t.list ++ events_of c.args.sub c.args.c.now (told c.act-answer.result))))
      (tied_after c.self.invariant its later c.act-answer.new.self c.act-answer.ensures.tied)

pub invariant_of-self : goal.invariant_of-self
invariant_of-self c = (moved c).1

pub returns-clause-acts : goal.returns-clause-acts
returns-clause-acts c =
    seen_step c.self.invariant (its_ticket c.t.view_is c.number-xid.ensures c.t.view_is c.meet.ensures.listed) c.args.self.now c.self.view_is (λ schema w n o next. Acts schema w n o c.args.sub c.args.c.now (told c.act-answer.result) next)
    (later c) (world_in (with_parts c.self.inside c.act-answer.new.self c.record_act.new.book)) (moved c).0 c.act-answer.ensures.acts
