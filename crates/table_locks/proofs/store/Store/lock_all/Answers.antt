use Rattle.std.proofs.Common.{rules, ◌≡◌, ◌+◌, ◌<◌, ◌∙◌, ℕ, Some, IsSomeAnd, length, sym, ap, subst, arith}
use Rattle.std.specs.Prelude.{Option, slice_set}
use Rattle.std.proofs.lemmas.List.{length-set}
use Rattle.std.specs.declared.sync.MutexGuard.{MutexGuard}
use Rattle.std.specs.Sync.Mutex.{mutex_guard_value}
use mathlib.Core.Logic.{dite}
use native.Mathlib.Decide.{ℕ_discrete}
use Rattle.table_locks.specs.Lending.{Guards, state_at}
use Rattle.table_locks.specs.LendingLemmas.{state_here, state_beside}
use Rattle.table_locks.specs.Reading.{IsLockedAt}
use Rattle.table_locks.specs.TableStates.{TableState}
use Rattle.table_locks.proofs.store.Store.lock_all.Goals as goal

-- one more is locked
locked_more : (guards : Guards) (table : ℕ) (guard : MutexGuard TableState) → table < length guards → (mutex_guard_value guard).number ≡ table
    → ((k : ℕ) → k < table → IsLockedAt guards k) → (k : ℕ) → k < table + 1 → IsLockedAt (slice_set guards table (Some guard)) k
locked_more guards table guard room its before k below = dite (ℕ_discrete k table)
    (λ here.
    subst (λ (found : Option TableState). IsSomeAnd found (λ s. s.number ≡ k))
    (sym (ap (state_at (slice_set guards table (Some guard))) here ∙ state_here guards table (Some guard) room)) (its ∙ sym here))
    (λ apart.
    subst (λ (found : Option TableState). IsSomeAnd found (λ s. s.number ≡ k)) (sym (state_beside guards table (Some guard) k apart))
    (before k (omega (arith, below, apart))))

pub loop-table-preserved : goal.loop-table-preserved
loop-table-preserved g c =
    let l = c.loop-table in
    let room : l.table < length l.guards = search rules in
    record {
      locked = locked_more l.guards l.table c.lock_table.result room c.lock_table.ensures l.invariant.locked;
      long = length-set l.guards l.table (Some c.lock_table.result) ∙ l.invariant.long;
    }
