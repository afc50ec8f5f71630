-- What the answers of a store's calls tell of its world.
--     cause_of      why a change clashes, as the world says it; want of memory is no clash
--     told_clash, told      what came of a change, as the world says it
--     told_fault, told_call      what came of a call that tries no change
--     after_act, after_open, after_touch      the world after a call that tried a change; that opens; that names a
--         subtransaction
--     after_stop      the world after the call that stops one in which all wait
--     told_stop      what stopped a store, as its world says it
--     stop_of, TellsWhatStopped      what the caller is told of it
--     HasCause      it was not want of memory
--     TellsCause, IsNoClash      nor is that told as a clash; a fault that is no clash
--     verdict_of, TellsVerdict      what a change that clashed comes to; a clash that is told has a cause, and no fault is one
use Rattle.std.specs.Prelude.{◌≡◌, ℕ, Option, Some, None, IsSome, Result, Ok, Err}
use Rattle.model.specs.declared.change.Change as change_type
use Rattle.model.specs.declared.item.Item.TheVariants.{Change, Touch}
use Rattle.model.specs.Effect.{ClashCause, NullKey, Unique}
use Rattle.change.specs.declared.outcome.Clash as clash_type
use Rattle.change.specs.declared.outcome.Clash.TheVariants.{Unique as UniqueClash, NullKey as NullKeyClash, OutOfMemory as NoMemoryClash}
use Rattle.world.specs.World.{Opened, Stop, ByClash, ByHold, World}
use Rattle.world.specs.Steps.{Fault, Acted, IsDone, IsSkipped, Held, Clashed, AlreadyOpen, TooManyOpen, Stopped, OutOfMemory, opened_with, done_with, wanting}
use Rattle.live_tables.specs.declared.answers.Acted as acted_type
use Rattle.live_tables.specs.declared.answers.Acted.TheVariants.{Done as DoneAnswer, Skipped as SkippedAnswer, Held as HeldAnswer}
use Rattle.live_tables.specs.declared.answers.EngineFault as fault_type
use Rattle.live_tables.specs.declared.answers.EngineFault.TheVariants.{AlreadyOpen as AlreadyOpenFault, TooManyOpen as TooManyOpenFault, Clash as ClashFault, Stopped as StoppedFault, OutOfMemory as NoMemory}
use Rattle.live_tables.specs.declared.answers.Verdict as verdict_type
use Rattle.live_tables.specs.declared.answers.Verdict.TheVariants.{Acted as ActedVerdict, Clashes as ClashVerdict}
use Rattle.live_tables.specs.declared.answers.Stop as stop_type
use Rattle.live_tables.specs.declared.answers.Stop.TheVariants.{Clash as ClashStop, Held as HeldStop}
use Rattle.live_tables.specs.declared.live_tables.Stopped as stopped_type
use Rattle.live_tables.specs.declared.live_tables.Stopped.TheVariants.{Clash as StoppedByClash, Held as StoppedByHold}

-- why a change clashes, as the world says it; want of memory is no clash
abbrev pub cause_of : clash_type.Clash → Option ClashCause
cause_of (UniqueClash table key) = Some (Unique table key)
cause_of (NullKeyClash table) = Some (NullKey table)
cause_of NoMemoryClash = None

-- a clash as the world says it; without a cause memory was refused
abbrev pub told_clash : Option ClashCause → Result Acted Fault
told_clash (Some cause) = Ok (Clashed cause)
told_clash None = Err OutOfMemory

-- why a call was refused, as the world says it; one that tries no change is refused by no clash
abbrev pub told_fault : fault_type.EngineFault → Fault
told_fault AlreadyOpenFault = AlreadyOpen
told_fault TooManyOpenFault = TooManyOpen
told_fault (ClashFault clash) = OutOfMemory
told_fault StoppedFault = Stopped
told_fault NoMemory = OutOfMemory

-- what came of a call that tries no change, as the world says it
abbrev pub told_call : {X : Type 0} → Result X fault_type.EngineFault → Result (Unit {0}) Fault
told_call (Ok x) = Ok tt
told_call (Err fault) = Err (told_fault fault)

-- what came of a change, as the world says it
abbrev pub told : Result acted_type.Acted fault_type.EngineFault → Result Acted Fault
told (Ok DoneAnswer) = Ok IsDone
told (Ok SkippedAnswer) = Ok IsSkipped
told (Ok (HeldAnswer holder)) = Ok (Held holder)
told (Err AlreadyOpenFault) = Err AlreadyOpen
told (Err TooManyOpenFault) = Err TooManyOpen
told (Err (ClashFault clash)) = told_clash (cause_of clash)
told (Err StoppedFault) = Err Stopped
told (Err NoMemory) = Err OutOfMemory

-- the world after a call that tried a change, by what came of it
abbrev pub after_act : World → ℕ → Opened → ℕ → change_type.Change → Result Acted Fault → World
after_act w xid o sub c (Ok IsDone) = done_with w xid o (Change sub c)
after_act w xid o sub c (Ok IsSkipped) = done_with w xid o (Change sub c)
after_act w xid o sub c (Ok (Held holder)) = wanting w xid o sub c
after_act w xid o sub c (Ok (Clashed cause)) = record (wanting w xid o sub c) { stopped = Some (ByClash xid c cause) }
after_act w xid o sub c (Err fault) = w

-- the world after a call that opens a transaction, by what came of it
abbrev pub after_open : World → ℕ → Result (Unit {0}) Fault → World
after_open w xid (Ok u) = opened_with w xid
after_open w xid (Err fault) = w

-- the world after a call that names a subtransaction, by what came of it
abbrev pub after_touch : World → ℕ → Opened → ℕ → Result (Unit {0}) Fault → World
after_touch w xid o sub (Ok u) = done_with w xid o (Touch sub)
after_touch w xid o sub (Err fault) = w

-- the world after the call that stops one in which all wait, by the holder that it answers
abbrev pub after_stop : World → ℕ → Option ℕ → World
after_stop w waiter (Some holder) = record w { stopped = Some (ByHold waiter holder) }
after_stop w waiter None = w

-- what stopped a store, as its world says it
abbrev pub stop_for : ℕ → change_type.Change → Option ClashCause → Option Stop
stop_for xid c (Some cause) = Some (ByClash xid c cause)
stop_for xid c None = None

-- the same of what the store noted, with the clash that it found
abbrev pub told_stop : Option stopped_type.Stopped → Option Stop
told_stop (Some (StoppedByClash xid c clash)) = stop_for xid c (cause_of clash)
told_stop (Some (StoppedByHold waiter holder)) = Some (ByHold waiter holder)
told_stop None = None

-- what stopped a store, as its caller is told it
abbrev pub stop_of : stopped_type.Stopped → stop_type.Stop
stop_of (StoppedByClash xid c clash) = ClashStop xid clash
stop_of (StoppedByHold waiter holder) = HeldStop waiter holder

-- the answer says what stopped a world; of a change that clashed its transaction and why
abbrev pub TellsWhatStopped : Option stop_type.Stop → Option Stop → Type 0
TellsWhatStopped None stopped = stopped ≡ None
TellsWhatStopped (Some (ClashStop xid clash)) stopped =
    (c : change_type.Change) × (cause : ClashCause) × (cause_of clash ≡ Some cause) × (stopped ≡ Some (ByClash xid c cause))
TellsWhatStopped (Some (HeldStop waiter holder)) stopped = stopped ≡ Some (ByHold waiter holder)

-- what stopped a store was not want of memory
abbrev pub HasCause : stopped_type.Stopped → Type 0
HasCause (StoppedByClash xid c clash) = IsSome (cause_of clash)
HasCause (StoppedByHold waiter holder) = Unit {0}

-- a clash that is told has a cause; want of memory is told as such
abbrev pub TellsCause : Result acted_type.Acted fault_type.EngineFault → Type 0
TellsCause (Ok acted) = Unit {0}
TellsCause (Err (ClashFault clash)) = IsSome (cause_of clash)
TellsCause (Err AlreadyOpenFault) = Unit {0}
TellsCause (Err TooManyOpenFault) = Unit {0}
TellsCause (Err StoppedFault) = Unit {0}
TellsCause (Err NoMemory) = Unit {0}

-- a fault that is no clash
abbrev pub IsNoClash : fault_type.EngineFault → Type 0
IsNoClash (ClashFault clash) = ⊥
IsNoClash AlreadyOpenFault = Unit {0}
IsNoClash TooManyOpenFault = Unit {0}
IsNoClash StoppedFault = Unit {0}
IsNoClash NoMemory = Unit {0}

-- what a change comes to that clashed, or for which memory was refused
abbrev pub verdict_of : clash_type.Clash → Result verdict_type.Verdict fault_type.EngineFault
verdict_of (UniqueClash table key) = Ok (ClashVerdict (UniqueClash table key))
verdict_of (NullKeyClash table) = Ok (ClashVerdict (NullKeyClash table))
verdict_of NoMemoryClash = Err NoMemory

-- a clash that is told has a cause, and no fault is a clash
abbrev pub TellsVerdict : Result verdict_type.Verdict fault_type.EngineFault → Type 0
TellsVerdict (Ok (ActedVerdict acted)) = Unit {0}
TellsVerdict (Ok (ClashVerdict clash)) = IsSome (cause_of clash)
TellsVerdict (Err fault) = IsNoClash fault
