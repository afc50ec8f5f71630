-- What is learned under one lock after another, each guard taken out of its place and put back.
--     same_states, same_put      the same lies under the locks, at first and once a guard is back in its place
--     state_there, there_put      what lies under the guard that is in a place; something does under each, once one is back
--     none_met, one_met      what is met under the locks of the first so many tables, and of one more
--     noted_before      a clash that is noted under these locks was noted there before
--     none_noted, held_noted      none is to be where nothing stopped the store, nor where one that waits did
--     noted_by      the table of a clash that stopped the store knows of it
use Rattle.std.specs.Prelude.{◌≡◌, ℕ, ◌+◌, ◌<◌, List, Option, Some, None, IsSome, IsSomeAnd, length, slice_index_or, slice_set, refl}
use Rattle.std.proofs.Common.{sym, ◌∙◌, ap, subst, arith}
use Rattle.std.proofs.lemmas.List.{get_or_default, length-set}
use Rattle.std.proofs.lemmas.Option.{none-some}
use Rattle.std.specs.declared.sync.MutexGuard.{MutexGuard}
use mathlib.Core.Logic.{dite}
use native.Mathlib.Decide.{ℕ_discrete}
use Rattle.model.specs.declared.change.Change.{Change}
use Rattle.model.specs.Effect.{ClashCause}
use Rattle.model.specs.Rows.{Rows, Schema}
use Rattle.tokens.specs.Half.{Name}
use Rattle.world.specs.World.{Stop, ByClash, ByHold}
use Rattle.world_parts.specs.ByTable.{IsIn}
use Rattle.engine.specs.declared.events.LineEvent.{LineEvent}
use Rattle.table_parts.specs.Part.{Part}
use Rattle.parted_store.specs.Lent.{OpenTicket}
use Rattle.table_locks.specs.Lending.{Guards, state_of, state_at}
use Rattle.table_locks.specs.LendingLemmas.{state_here, state_beside}
use Rattle.table_locks.specs.TableStates.{TableState}
use Rattle.table_locks.specs.Whole.{IsMetIn, IsMetAt, WantsIn, IsNotedIn, IsNotedBy, AreSameStates}

-- ---- guards

pub same_states : (guards : Guards) → AreSameStates guards guards
same_states guards = (λ i. refl, refl)

pub same_put : (guards now : Guards) (place : ℕ) (guard : Option (MutexGuard TableState)) → AreSameStates guards now → place < length now
    → state_of guard ≡ state_at now place → AreSameStates guards (slice_set now place guard)
same_put guards now place guard same room is = (
  λ i. dite (ℕ_discrete i place)
      (λ here.
      ap (state_at (slice_set now place guard)) here ∙ state_here now place guard room ∙ is ∙ ap (state_at now) (sym here) ∙ same.0 i)
      (λ apart. state_beside now place guard i apart ∙ same.0 i),
  length-set now place guard ∙ same.1,
)

pub state_there : (guards : Guards) (place : ℕ) (guard : Option (MutexGuard TableState)) → place < length guards
    → state_of (slice_index_or guards place guard) ≡ state_at guards place
state_there guards place guard room = ap state_of (get_or_default guards place guard None room)

pub there_put : (guards : Guards) (count place : ℕ) (guard : Option (MutexGuard TableState)) → ((table : ℕ) → table < count → IsSome (state_at guards table))
    → place < length guards → IsSome (state_of guard) → (table : ℕ) → table < count → IsSome (state_at (slice_set guards place guard) table)
there_put guards count place guard before room some table below = dite (ℕ_discrete table place)
    (λ here. subst IsSome (sym (ap (state_at (slice_set guards place guard)) here ∙ state_here guards place guard room)) some)
    (λ apart. subst IsSome (sym (state_beside guards place guard table apart)) (before table below))

-- ---- tables

module _ (shares : ℕ → Name) (tables : Name) (schema : Schema) (start : Rows) (line : List LineEvent) (tickets : List OpenTicket) (guards : Guards) where
  -- under the locks of the first so many tables
  abbrev pub MetBelow : ℕ → Type 0
  MetBelow count = (table : ℕ) → table < count → IsMetAt shares tables schema start line tickets table (state_at guards table)

  pub none_met : MetBelow 0
  none_met table below = absurd (omega (arith, below))

  met_at : (table : ℕ) (found : Option TableState) → IsSomeAnd found (λ s. s.number ≡ table)
      → ((s : TableState) → found ≡ Some s → (p : Part) × IsMetIn shares tables schema start line tickets s.number s p)
      → IsMetAt shares tables schema start line tickets table found
  met_at table None number met = absurd number
  met_at table (Some s) number met =
      let told = met s refl in
      (s, told.0, refl, subst (λ n. IsMetIn shares tables schema start line tickets n s told.0) number told.1)

  pub one_met : (count : ℕ) → IsSomeAnd (state_at guards count) (λ s. s.number ≡ count)
      → ((s : TableState) → state_at guards count ≡ Some s → (p : Part) × IsMetIn shares tables schema start line tickets s.number s p) → MetBelow count
      → MetBelow (count + 1)
  one_met count number met before table below = dite (ℕ_discrete table count)
      (λ here.
      subst (λ n. IsMetAt shares tables schema start line tickets n (state_at guards n)) (sym here) (met_at count (state_at guards count) number met))
      (λ apart. before table (omega (arith, below, apart)))

-- ---- a clash

pub noted_before : (count : ℕ) (tickets : List OpenTicket) (guards now : Guards) (stopped : Option Stop) → AreSameStates guards now
    → IsNotedBy count tickets now stopped → IsNotedBy count tickets guards stopped
noted_before count tickets guards now stopped same noted xid c cause is =
    let told = noted xid c cause is in
    (told.0, told.1, told.2, sym (same.0 told.0) ∙ told.3, told.4)

pub noted_by : (count : ℕ) (tickets : List OpenTicket) (guards : Guards) (table : ℕ) (s : TableState) (xid : ℕ) (c : Change) (cause : ClashCause)
    → table < count → state_at guards table ≡ Some s → s.number ≡ table → s.stopped ≡ Some (ByClash xid c cause)
    → IsNotedIn tickets s.stopped xid c s.number s → IsNotedBy count tickets guards (Some (ByClash xid c cause))
noted_by count tickets guards table s xid c cause below there number stopped noted other d reason is =
    let same_xid : xid ≡ other = cc in
    let same_change : c ≡ d = cc in (
      table,
      s,
      below,
      there,
      record {
        inside = subst (λ n. IsIn n d) number (subst (IsIn s.number) same_change noted.inside);
        noted = stopped;
        wants = λ i t at number_is. subst (λ n. WantsIn n t) number (noted.wants i t at (number_is ∙ sym same_xid));
      },
    )

pub none_noted : (count : ℕ) (tickets : List OpenTicket) (guards : Guards) → IsNotedBy count tickets guards None
none_noted count tickets guards xid c cause is = absurd (none-some (ByClash xid c cause) is)

pub held_noted : (count : ℕ) (tickets : List OpenTicket) (guards : Guards) (waiter holder : ℕ)
    → IsNotedBy count tickets guards (Some (ByHold waiter holder))
held_noted count tickets guards waiter holder xid c cause is = absurd cc
