use Rattle.std.proofs.Common.{◌≡◌, ◌∙◌, ℕ, ◌+◌, ◌<◌, [], ◌∷◌, ◌++◌, Option, None, IsSomeAnd, length, refl, sym, ap, subst, arith, length-append}
use Rattle.std.specs.List.{Contains}
use Rattle.std.specs.declared.sync.MutexGuard.{MutexGuard}
use Rattle.std.proofs.lemmas.List.{get_or_append_left}
use mathlib.Core.Logic.{dite}
use native.Mathlib.Decide.{ℕ_discrete}
use Rattle.table_locks.specs.Lending.{Guards, state_of, state_at}
use Rattle.table_locks.specs.Reading.{IsLockedAt}
use Rattle.table_locks.specs.TableStates.{TableState}
use Rattle.table_locks.proofs.store.Store.lock_named.Goals as goal

last_place : (guards : Guards) (guard : Option (MutexGuard TableState)) → state_at (guards ++ guard ∷ []) (length guards) ≡ state_of guard
last_place [] guard = refl
last_place (other ∷ guards) guard = last_place guards guard

module _ (guards : Guards) (guard : Option (MutexGuard TableState)) (table : ℕ) (places : length guards ≡ table) (k : ℕ) where
  locked_here : k ≡ table → IsSomeAnd (state_of guard) (λ s. s.number ≡ table) → IsLockedAt (guards ++ guard ∷ []) k
  locked_here here is =
      subst (λ (found : Option TableState). IsSomeAnd found (λ s. s.number ≡ k))
      (sym (ap (state_at (guards ++ guard ∷ [])) (here ∙ sym places) ∙ last_place guards guard))
      (subst (λ (n : ℕ). IsSomeAnd (state_of guard) (λ s. s.number ≡ n)) (sym here) is)

  locked_before : k < table → IsLockedAt guards k → IsLockedAt (guards ++ guard ∷ []) k
  locked_before before is =
      subst (λ (found : Option TableState). IsSomeAnd found (λ s. s.number ≡ k))
      (sym (ap state_of (get_or_append_left guards (guard ∷ []) None k (omega (arith, before, places))))) is

pub loop-table-preserved : goal.loop-table-preserved
loop-table-preserved g c =
    let l = c.loop-table in
    let guards = l.guards.items in
    let guard = c.lock_if.result in
    let items = c.in_ok-push.ensures.items in
    record {
      places = ap length items ∙ length-append guards (guard ∷ []) ∙ ap (λ n. n + 1) l.invariant.places;
      locked = λ k below named.
          subst (λ (now : Guards). IsLockedAt now k) (sym items)
          (dite (ℕ_discrete k l.table)
          (λ here. locked_here guards guard l.table l.invariant.places k here
          (c.lock_if.ensures (c.names.ensures (subst (Contains c.args.tables.now) here named))))
          (λ apart.
          let before : k < l.table = omega (arith, below, apart) in
          locked_before guards guard l.table l.invariant.places k before (l.invariant.locked k before named)));
    }
