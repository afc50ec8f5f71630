use Rattle.std.proofs.Common.{◌≡◌, ℕ, ◌+◌, ◌-◌, ◌^◌, List, [], ◌∷◌, ◌++◌, sym, ap, subst, ◌∙◌}
use Rattle.std.specs.Prelude.{min}
use Rattle.model.specs.declared.item.Item.{Item}
use Rattle.model.specs.declared.item.Item.TheVariants.{Last}
use Rattle.tokens.specs.Half.{Half}
use Rattle.worker.specs.declared.outbox.OutboxEvent.{OutboxEvent}
use Rattle.worker.specs.declared.outbox.OutboxEvent.TheVariants.{Given as WasGiven}
use Rattle.dispatch.specs.Handle.{going, handle_model, IsHandle, HasCount, AddsTo}
use Rattle.dispatch.proofs.Giving.{still_handle, added, same_name, counted_more, counted_last}
use Rattle.dispatch.proofs.handle.WorkerHandle.give.Given.{Over}
use Rattle.dispatch.proofs.handle.WorkerHandle.give.Goals as goal
use Rattle.dispatch.proofs.handle.WorkerHandle.give.Goals.{After-give, In_ok-give}

-- it is a worker as before, whatever was answered
still : (g : Over) (c : After-give g) → IsHandle (g.L.RingNames.ring c.self.inside.number) (g.L.OutboxNames.outbox c.self.inside.number) c.self.inside.xid c.give.new.token c.self.inside.taker c.self.inside.back c.self.inside.collected
still g c =
    let l = c.self.inside in
    still_handle l.number l.xid l.token.list l.taker l.back l.collected c.args.self.now c.self.view_is (g.L.RingNames.ring l.number) (g.L.OutboxNames.outbox l.number) l.token c.give.new.token c.requires.goes.0 c.requires.goes.1 c.requires.away
    (same_name c.give.result c.args.item l.token c.give.new.token c.give.ensures.ok c.give.ensures.err) c.self.invariant.0

-- the item was given, which the worker's half of the outbox tells
told : (g : Over) (c : In_ok-give g) → c.give.new.token.list ≡ c.self.inside.token.list ++ WasGiven c.args.item ∷ []
told g c = ap (λ (h : Half OutboxEvent). h.list) c.in_ok-give.ensures.ok

-- so the worker has one item more
adds : (g : Over) (c : In_ok-give g) → AddsTo c.args.self.now c.args.item (handle_model c.self.inside.number c.self.inside.xid c.give.new.token.list c.self.inside.taker c.self.inside.back c.self.inside.collected)
adds g c =
    let l = c.self.inside in
    subst (λ (events : List OutboxEvent). AddsTo c.args.self.now c.args.item (handle_model l.number l.xid events l.taker l.back l.collected)) (sym (told g c))
    (added l.number l.xid l.token.list l.taker l.back l.collected c.args.self.now c.self.view_is c.args.item c.requires.goes.0 c.requires.goes.1 c.requires.away)

pub invariant_of-self : goal.invariant_of-self
invariant_of-self g c =
    let l = c.self.inside in (
      still g (goal.at.invariant_of-self g c).After-give,
      subst (λ (token : Half OutboxEvent). HasCount (going l.xid token.list l.taker l.back) (l.xid, l.count)) (sym c.in_err-give.ensures.err) c.self.invariant.1,
    )

-- an item of the transaction was given
pub invariant_of-self-then-is_own : goal.invariant_of-self-then-is_own
invariant_of-self-then-is_own g c =
    let l = c.self.inside in
    let own : c.args.item ≡ Last → ⊥ = λ is. c.if-is_own.ensures (c.item.ensures.same ∙ is) in (
      still g (goal.at.invariant_of-self-then-is_own g c).After-give,
      subst (λ (n : ℕ). HasCount (going l.xid c.give.new.token.list l.taker l.back) (l.xid, n)) (sym c.saturating_add-self-inside.ensures)
          (subst (λ (events : List OutboxEvent). HasCount (going l.xid events l.taker l.back) (l.xid, min (l.count + 1) (2 ^ 64 - 1))) (sym (told g (goal.at.invariant_of-self-then-is_own g c).In_ok-give))
          (counted_more l.number l.xid l.token.list l.taker l.back l.collected c.args.self.now c.self.view_is c.args.item l.count c.requires.goes.0 c.requires.goes.1 c.requires.away own c.self.invariant.1)),
    )

-- that the commit was read was given
pub invariant_of-self-else-is_own : goal.invariant_of-self-else-is_own
invariant_of-self-else-is_own g c =
    let l = c.self.inside in
    let last : c.args.item ≡ Last = sym c.item.ensures.same ∙ c.if-is_own.ensures in (
      still g (goal.at.invariant_of-self-else-is_own g c).After-give,
      subst (λ (events : List OutboxEvent). HasCount (going l.xid events l.taker l.back) (l.xid, l.count))
          (sym (told g (goal.at.invariant_of-self-else-is_own g c).In_ok-give ∙ ap (λ (i : Item). l.token.list ++ WasGiven i ∷ []) last))
          (counted_last l.number l.xid l.token.list l.taker l.back l.collected c.args.self.now c.self.view_is l.count c.requires.goes.0 c.requires.goes.1 c.requires.away c.self.invariant.1),
    )

pub returns-then-is_own-clause-ok : goal.returns-then-is_own-clause-ok
returns-then-is_own-clause-ok g c = adds g (goal.at.returns-then-is_own-clause-ok g c).In_ok-give

pub returns-else-is_own-clause-ok : goal.returns-else-is_own-clause-ok
returns-else-is_own-clause-ok g c = adds g (goal.at.returns-else-is_own-clause-ok g c).In_ok-give
