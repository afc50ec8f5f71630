-- What stopped the store, and whether nothing goes on in it, where all is one world again.
--     IsNoted, TellsNoted      a change clashed and stopped the world, and its transaction wants one still; an answer tells the clash, or
--         that none is noted
--     TellsStill      the same by the tickets
--     IsFound      what is found where all is one world
--     TellsHolder, TellsHeld      whom a transaction waits for, where nothing goes on; of the one that is asked for, if one is
use Rattle.std.specs.Prelude.{◌≡◌, ℕ, List, Option, Some, None, IsSome, slice_get}
use Rattle.std.specs.FinMap.{get}
use Rattle.model.specs.declared.change.Change.{Change}
use Rattle.model.specs.Effect.{ClashCause}
use Rattle.model.specs.Rows.{Rows, Schema}
use Rattle.change.specs.declared.outcome.Clash.{Clash}
use Rattle.world.specs.Steps.{IsStuck}
use Rattle.world.specs.World.{Opened, Stop, ByClash, World}
use Rattle.live_tables.specs.Answers.{cause_of}
use Rattle.engine.specs.declared.events.LineEvent.{LineEvent}
use Rattle.engine.specs.Events.{opened_by}
use Rattle.parted_store.specs.Lent.{OpenTicket}
use Rattle.table_locks.specs.Whole.{whole, IsWhole}

-- A change of a transaction that is open in the world clashed so and stopped the world, and it wants one still.
abbrev pub IsNoted : World → ClashCause → Type 0
IsNoted w cause =
    (xid : ℕ) × (done : Opened) × (c : Change) × (get w.opened xid ≡ Some done) × (w.stopped ≡ Some (ByClash xid c cause)) × IsSome done.wants

-- The clash is the one that is noted; or none is.
abbrev pub TellsNoted : World → Option Clash → Type 0
TellsNoted w (Some clash) = (cause : ClashCause) × (cause_of clash ≡ Some cause) × IsNoted w cause
TellsNoted w None = (cause : ClashCause) → ¬ (IsNoted w cause)

-- By the tickets: one is of the transaction whose clash stopped the store, and tells that it wants something; or none does.
abbrev pub TellsStill : List OpenTicket → Option Stop → Option Clash → Type 0
TellsStill tickets stopped (Some clash) =
    (i : ℕ) × (t : OpenTicket) × (c : Change) × (cause : ClashCause) × (slice_get tickets i ≡ Some t) × (cause_of clash ≡ Some cause)
    × (stopped ≡ Some (ByClash t.number c cause)) × IsSome (opened_by t.events).wants
TellsStill tickets stopped None =
    (i : ℕ) (t : OpenTicket) (c : Change) (cause : ClashCause) → slice_get tickets i ≡ Some t → stopped ≡ Some (ByClash t.number c cause)
    → (opened_by t.events).wants ≡ None

-- The transaction waits for the holder, and nothing goes on, given how many items were sent to each; or that is so of no
-- holder.
abbrev pub TellsHolder : Schema → World → List (ℕ × ℕ) → ℕ → Option ℕ → Type 0
TellsHolder schema w sent xid (Some holder) = IsStuck schema w sent xid holder
TellsHolder schema w sent xid None = (holder : ℕ) → ¬ (IsStuck schema w sent xid holder)

-- So it is of the one that is asked for, if one is.
abbrev pub TellsHeld : Schema → World → List (ℕ × ℕ) → Option ℕ → Option ℕ → Type 0
TellsHeld schema w sent (Some xid) answer = TellsHolder schema w sent xid answer
TellsHeld schema w sent None answer = Unit {0}

-- What is found of a store where all is one world: that is one that a run may have, the clash is told that is noted in it, and whom
-- the waiter waits for, where nothing goes on.
pub record IsFound (schema : Schema) (start : Rows) (line : List LineEvent) (tickets : List OpenTicket) (sent : List (ℕ × ℕ)) (waiter : Option ℕ)
    (stopped : Option Stop) (clash : Option Clash) (holder : Option ℕ) : Type 0 where
  pub is_whole : IsWhole schema start line tickets stopped
  pub noted : TellsNoted (whole schema start line tickets stopped) clash
  pub held : TellsHeld schema (whole schema start line tickets stopped) sent waiter holder
