-- The steps inside the reader: a frame is taken off, then all whole frames, then a piece.
use Rattle.std.specs.Prelude.{◌≡◌, ℕ, Bool, true, false, List, Result, Ok, Err}
use Rattle.frames.specs.declared.fault.FrameFault.{FrameFault}
use Rattle.frames.specs.declared.fault.FrameFault.TheVariants.{OutOfMemory}
use Rattle.frames.specs.declared.reader.State.{State}
use Rattle.frames.specs.declared.reader.State.TheVariants as state
use Rattle.frames.specs.declared.wire.Taken.{Taken}
use Rattle.frames.specs.declared.wire.Taken.TheVariants as taken
use Rattle.frames.specs.Stream.{Part, Refused, Skipped, Given, Closing, front, Ending, Waits, Closed, Broken}
use Rattle.frames.specs.Reads.{IsStreamFault}

-- a fact that want of memory takes the place of
abbrev pub UnlessMemory : FrameFault → Type 0 → Type 0
UnlessMemory OutOfMemory P = Unit {0}
UnlessMemory fault P = P

-- the first frame was taken off old, and new is left
abbrev pub TakesFrame : Result Taken FrameFault → List ℕ → List ℕ → Type 0
TakesFrame (Ok taken.Part) old new = (front old ≡ Part) × (new ≡ old)
TakesFrame (Ok taken.Skipped) old new = front old ≡ Skipped new
TakesFrame (Ok (taken.Given item)) old new = front old ≡ Given item new
TakesFrame (Ok taken.Closing) old new = front old ≡ Closing
TakesFrame (Err fault) old new = UnlessMemory fault (front old ≡ Refused fault)

-- where a reader stands that took all whole frames off: its answer says whether CopyDone was among them
abbrev pub ending_after : Result Bool FrameFault → List ℕ → Ending
ending_after (Ok true) rest = Closed
ending_after (Ok false) rest = Waits rest
ending_after (Err fault) rest = Broken fault

-- where a reader stands, with these bytes of a frame that isn't whole
abbrev pub ending_in : State → List ℕ → Ending
ending_in state.Reading rest = Waits rest
ending_in state.Done rest = Closed
ending_in (state.Failed fault) rest = Broken fault

-- a state that a piece leads to
abbrev pub IsStreamState : State → Type 0
IsStreamState state.Reading = Unit {0}
IsStreamState state.Done = Unit {0}
IsStreamState (state.Failed fault) = IsStreamFault fault
