use Rattle.std.proofs.Common.{ℕ, subst}
use Rattle.std.proofs.lemmas.Option.{IfSome_then}
use Rattle.world.specs.Settled.{WaitsFor}
use Rattle.engine.specs.Events.{opened_by}
use Rattle.engine.specs.Engine.{Engine, world_in}
use Rattle.engine.proofs.StoreTickets.{IsTicket, its_ticket, open_under}
use Rattle.engine.proofs.store.Store.holder_of.Goals as goal

pub holder_of-requires : goal.holder_of-requires
holder_of-requires c = record { tied = (world_in c.self.inside, c.self.invariant.tied) }

module _ (c : goal.After-holder_of) where
  its : IsTicket c.self.inside c.args.t.now c.number-xid.result
  its = its_ticket c.t.view_is c.number-xid.ensures c.t.view_is c.meet.ensures.listed

  abbrev Waits : Engine → ℕ → ℕ → Type 0
  Waits e n holder = WaitsFor e.schema e.world n (opened_by c.args.t.now.list) holder

  -- what the live part says under the number that was read is so of the ticket's transaction, as callers see it
  seen : (P : Type 0 → Type 0) (holder : ℕ)
      → P (WaitsFor c.self.inside.live.tables.schema (world_in c.self.inside) c.number-xid.result (opened_by c.args.t.now.list) holder)
      → P (Waits c.args.self.now c.args.t.now.number holder)
  seen P holder is =
      subst (λ (e : Engine). P (Waits e c.args.t.now.number holder)) c.self.view_is
      (subst (λ n. P (WaitsFor c.self.inside.live.tables.schema (world_in c.self.inside) n (opened_by c.args.t.now.list) holder)) its.number is)

pub returns-clause-held : goal.returns-clause-held
returns-clause-held c =
    IfSome_then c.holder_of.result c.holder_of.ensures.held (λ holder waits.
    seen c (λ (T : Type 0). T) holder
    (waits (world_in c.self.inside) (opened_by c.args.t.now.list) c.self.invariant.tied (open_under c.self.invariant (its c))))

pub returns-clause-free : goal.returns-clause-free
returns-clause-free c = λ none holder.
    seen c (λ (T : Type 0). ¬ T) holder
    (c.holder_of.ensures.free none (world_in c.self.inside) (opened_by c.args.t.now.list) c.self.invariant.tied (open_under c.self.invariant (its c)) holder)
