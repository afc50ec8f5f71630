-- Why a run without threads ends.
--     LastStep      the last item that was handled, and what the others led to
--     RefusesNext, NextClashes      what the next message ends a run by
--     IsNextCause, IsLastCause      why the next item ends it; why the last does, which was handled
--     AreAllSent, LastIsCut      which status updates went out: all, or all but a part of the last
--     HasGoneWell      no device failed
--     CouldNotSend, HadNoMemoryToSend, IsSendCause      an update that was due ends a run
--     CouldNotRead, IsOver, IsInputCause      the input ends it
--     HasNotClashed, LastClashed      no change clashed; one that the last item brought did
--     IsCause      why a run ends, for each end
use Rattle.std.specs.Prelude.{◌≡◌, ℕ, true, List, [], ◌∷◌, ◌++◌, map, Option, Some, None, ◌⊎◌}
use Rattle.std.specs.Io.KnownBytes.{Appends}
use Rattle.model.specs.Rows.{Rows, Schema, keys_of}
use Rattle.change.specs.declared.outcome.Clash.{Clash}
use Rattle.change.specs.declared.outcome.Clash.TheVariants as clashes
use Rattle.frames.specs.declared.fault.FrameFault.{FrameFault}
use Rattle.frames.specs.declared.fault.FrameFault.TheVariants.{Device}
use Rattle.frames.specs.declared.item.CopyItem.{CopyItem}
use Rattle.frames.specs.declared.item.CopyItem.TheVariants.{Wal, Keepalive, Done}
use Rattle.frames.specs.Stream.{ending_of}
use Rattle.frames.specs.Reads.{fault_at_end, AtEndOf}
use Rattle.frames.specs.Device.{HasWorked, HasFailedLast}
use Rattle.session.specs.declared.fault.Refused.{Refused}
use Rattle.session.specs.declared.fault.Refused.TheVariants as refusals
use Rattle.session.specs.State.{Setting, State}
use Rattle.session.specs.Lawful.{Admits, Refuses}
use Rattle.messages.specs.declared.message.Message.{Message}
use Rattle.run.specs.declared.end.End.{End}
use Rattle.run.specs.declared.end.End.TheVariants as ends
use Rattle.engine.specs.FirstClash.{ClashesIn}
use Rattle.model.specs.Accepted.{AreAccepted}
use Rattle.run.specs.Commits.{committed_changes, all_changes}
use Rattle.run.specs.Devices.{DeviceState}
use Rattle.run.specs.Progress.{Progress, start_progress, commits_from, Handles, Leads}
use Rattle.run.specs.Progress.{Update, status_bytes}
use Rattle.run.specs.StreamPart.{StreamPart}

-- the keys' columns of each table of the catalog
abbrev pub schema_of : Setting → Schema
schema_of g = map keys_of g.catalog

-- The last of these items led from one progress, which the others led to, to this one.
pub record LastStep (g : Setting) (handled : List CopyItem) (p : Progress) : Type 0 where
  pub before : List CopyItem
  pub item : CopyItem
  pub split : handled ≡ before ++ item ∷ []
  pub past : Progress
  pub lawful : Leads g start_progress before past
  pub step : Handles g past item p

-- ---- what the next message does

-- the next item is a payload with this
abbrev pub IsNext : List CopyItem → (List ℕ → Type 0) → Type 0
IsNext [] P = ⊥
IsNext (Wal first last payload ∷ items) P = P payload
IsNext (Keepalive last reply ∷ items) P = ⊥
IsNext (Done ∷ items) P = ⊥

-- The session refuses the next payload so.
abbrev pub RefusesNext : Setting → State → List CopyItem → Refused → Type 0
RefusesNext g s rest refused = IsNext rest (λ payload. Refuses g s payload refused)

-- The next message commits a streamed transaction, of whose changes the first that clashes does so.
abbrev pub NextClashes : Setting → Rows → State → List CopyItem → Clash → Type 0
NextClashes g rows s rest clash =
    IsNext rest
    (λ payload. (m : Message) × (t : State) × Admits g s payload m t × (commits_from s t ≡ true)
    × ClashesIn (schema_of g) rows (all_changes t) clash)

-- Why a run ends at the next item, which is not handled.
abbrev pub IsNextCause : Setting → Rows → State → List CopyItem → End → Type 0
IsNextCause g rows s rest ends.Clean = ⊥
IsNextCause g rows s rest (ends.Frame fault) = ⊥
IsNextCause g rows s rest (ends.Msg fault) = RefusesNext g s rest (refusals.Msg fault)
IsNextCause g rows s rest (ends.Session fault) = RefusesNext g s rest (refusals.Session fault)
IsNextCause g rows s rest (ends.Rel fault) = RefusesNext g s rest (refusals.Rel fault)
IsNextCause g rows s rest (ends.Unique table key) =
    NextClashes g rows s rest (clashes.Unique table key)
IsNextCause g rows s rest (ends.NullKey table) = NextClashes g rows s rest (clashes.NullKey table)
-- without threads no transaction holds what another needs
IsNextCause g rows s rest (ends.HeldKey xid holder) = ⊥
IsNextCause g rows s rest ends.OutOfMemory = Unit {0}

-- ---- what the last item did

-- Why a run ends behind the item that led to this state: it brought a change into the transaction
-- that was begun, the first that clashes, and it clashes so.
abbrev pub IsLastCause : Setting → Rows → State → End → Type 0
IsLastCause g rows s (ends.Unique table key) =
    ClashesIn (schema_of g) rows (all_changes s) (clashes.Unique table key)
IsLastCause g rows s (ends.NullKey table) =
    ClashesIn (schema_of g) rows (all_changes s) (clashes.NullKey table)
IsLastCause g rows s end = ⊥

-- ---- a run that handled this part of its stream

module _ {g : Setting} {old new : DeviceState} (part : StreamPart g old new) where
  -- All status updates were sent, and the writer never failed.
  abbrev pub AreAllSent : Type 0
  AreAllSent =
      HasWorked old.writer new.writer
      × Appends old.sent new.sent (status_bytes part.progress.updates part.times)

  -- All status updates but the last were sent, which the last item brought, and of that one the
  -- writer took this.
  pub record LastIsCut : Type 0 where
    pub last : LastStep g part.handled part.progress
    pub update : Update
    pub due : part.progress.updates ≡ last.past.updates ++ update ∷ []
    pub taken : List ℕ
    pub unsent : List ℕ
    pub frame : status_bytes part.progress.updates part.times
        ≡ status_bytes last.past.updates part.times ++ taken ++ unsent
    pub sent : Appends old.sent new.sent (status_bytes last.past.updates part.times ++ taken)

  -- No device failed, and all status updates were sent.
  pub record HasGoneWell : Type 0 where
    pub read : HasWorked old.reader new.reader
    pub sent : AreAllSent

  -- The update that the last item brought could not be sent: the writer failed in its last call,
  -- and never before.
  pub record CouldNotSend : Type 0 where
    pub read : HasWorked old.reader new.reader
    pub failed : HasFailedLast old.writer new.writer
    pub cut : LastIsCut

  -- Memory was refused for the update that the last item brought, of which nothing was sent.
  pub record HadNoMemoryToSend : Type 0 where
    pub read : HasWorked old.reader new.reader
    pub written : HasWorked old.writer new.writer
    pub cut : LastIsCut
    pub nothing : cut.taken ≡ []

  -- Why an update that was due ends the run.
  abbrev pub IsSendCause : End → Type 0
  IsSendCause (ends.Frame Device) = CouldNotSend
  IsSendCause ends.OutOfMemory = HadNoMemoryToSend
  IsSendCause end = ⊥

  -- The reader failed in its last call, and never before; all items of what it gave were handled.
  pub record CouldNotRead : Type 0 where
    pub all_handled : part.rest ≡ []
    pub failed : HasFailedLast old.reader new.reader
    pub sent : AreAllSent

  -- The input is over: all items were handled, and this is the fault of an input that ends here, if
  -- there is one.
  pub record IsOver (why : Option FrameFault) : Type 0 where
    pub well : HasGoneWell
    pub all_handled : part.rest ≡ []
    pub fault : fault_at_end (ending_of part.bytes) ≡ why
    pub asked : AtEndOf (ending_of part.bytes) new.unread

  -- Why the input ends the run.
  abbrev pub IsInputCause : End → Type 0
  IsInputCause ends.Clean = IsOver None
  IsInputCause (ends.Frame Device) = CouldNotRead
  IsInputCause (ends.Frame fault) = IsOver (Some fault)
  IsInputCause ends.OutOfMemory = HasGoneWell
  IsInputCause end = ⊥

-- This table is for a run without threads, at its first cause; `IsThreadedCause` of `run_laws` is
-- for one with workers. Two are kept on purpose, tied by the laws `run_is_without_workers`,
-- `ends_at_first_cause` and `first_cause_is_without_threads` there.
module _ {g : Setting} {old new : DeviceState} (rows : Rows) (part : StreamPart g old new) where
  -- No change clashed.
  abbrev pub HasNotClashed : Type 0
  HasNotClashed = AreAccepted (schema_of g) rows (all_changes part.progress.state)

  -- A change that the last item brought into the transaction that was begun clashed, the first that
  -- did; it was not committed.
  pub record LastClashed (end : End) : Type 0 where
    pub last : LastStep g part.handled part.progress
    pub clear : AreAccepted (schema_of g) rows (all_changes last.past.state)
    pub committed : AreAccepted (schema_of g) rows (committed_changes part.progress.state)
    pub why : IsLastCause g rows part.progress.state end
    pub well : HasGoneWell part

  -- Why a run ends.
  abbrev pub IsCause : End → Type 0
  IsCause ends.Clean = HasNotClashed × IsOver part None
  IsCause (ends.Frame Device) = HasNotClashed × (CouldNotRead part ⊎ CouldNotSend part)
  IsCause (ends.Frame fault) = HasNotClashed × IsOver part (Some fault)
  IsCause ends.OutOfMemory = HasNotClashed × (HasGoneWell part ⊎ HadNoMemoryToSend part)
  IsCause end =
      (HasNotClashed × HasGoneWell part × IsNextCause g rows part.progress.state part.rest end)
      ⊎ LastClashed end
