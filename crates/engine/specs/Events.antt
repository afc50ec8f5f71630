-- What the lists of tickets and of the line tell of a world.
--     after_event, opened_by      what an open transaction has done, by the events of its list
--     opened_in      the open transactions, by their lists
--     past_of, commits_in      the commits, by the events of the line
--     ends_in      where the log goes on behind each of them
--     open_after, is_open_in      whether a transaction is open, by the events of the line
--     world_of      the world that start, line, lists and stop tell
--     refusal_events, events_of, touch_events      what a call appends to its transaction's list: one that was refused,
--         one that tried a change, one that named a subtransaction
--     tried_events      one that tried a change, where a clash is told alone
use Rattle.std.specs.Prelude.{ℕ, Bool, true, false, List, [], ◌∷◌, ◌++◌, Option, Some, None, Result, Ok, Err, map, fold, flat_map, if◌then◌else◌}
use Rattle.std.specs.Ordering.{nat_cmp}
use Rattle.std.specs.FinMap as finite
use Rattle.std.specs.FinMap.{FinMap}
use Rattle.model.specs.declared.change.Change as change_type
use Rattle.model.specs.declared.item.Item.TheVariants.{Change, Touch}
use Rattle.model.specs.Rows.{Rows, Schema}
use Rattle.model.specs.Effect.{serial}
use Rattle.savepoint.specs.Adopted.{adopted}
use Rattle.tokens.specs.Lists.{ListMap}
use Rattle.world.specs.World.{is_xid, Opened, Past, OpenOnes, Stop, World, changes_in}
use Rattle.world.specs.Steps.{Fault, AlreadyOpen, TooManyOpen, Stopped, OutOfMemory, Acted, IsDone, IsSkipped, Held, Clashed}
use Rattle.live_tables.specs.declared.answers.EngineFault.{EngineFault}
use Rattle.live_tables.specs.declared.answers.Verdict.{Verdict}
use Rattle.live_tables.specs.declared.answers.Verdict.TheVariants.{Acted as ActedVerdict, Clashes}
use Rattle.live_tables.specs.Answers.{told, told_fault}
use Rattle.engine.specs.declared.events.Event.{Event}
use Rattle.engine.specs.declared.events.Event.TheVariants.{Done, Wants, Adopted, FoundStopped, FoundNoMemory}
use Rattle.engine.specs.declared.events.LineEvent.{LineEvent}
use Rattle.engine.specs.declared.events.LineEvent.TheVariants.{Opened as WasOpened, Committed as WasCommitted, Aborted as WasAborted}

-- what an open transaction has done once one more event has come
abbrev pub after_event : Opened → Event → Opened
after_event o (Done item) = record { items = o.items ++ item ∷ []; wants = None }
after_event o (Wants sub change) = record o { wants = Some (sub, change) }
after_event o (Adopted sub) = record { items = adopted sub o.items; wants = None }
after_event o FoundStopped = o
after_event o FoundNoMemory = o

-- what it has done, by all events of its list
abbrev pub opened_by : List Event → Opened
opened_by events = fold after_event (record { items = []; wants = None }) events

-- a finite map with each value altered
abbrev pub map_values : {X Y : Type 0} → (X → Y) → FinMap nat_cmp X → FinMap nat_cmp Y
map_values g m = finite.from_entries (map (λ e. (e.0, g e.1)) (finite.entries m))

-- the open transactions, by their lists
abbrev pub opened_in : ListMap Event → OpenOnes
opened_in lists = map_values opened_by lists

-- the commit that an event of the line tells, if it tells one
abbrev pub past_of : LineEvent → List Past
past_of (WasOpened xid) = []
past_of (WasCommitted xid items info) = record { xid = xid; items = items; info = info } ∷ []
past_of (WasAborted xid) = []

-- the commits, by the events of the line
abbrev pub commits_in : List LineEvent → List Past
commits_in line = flat_map past_of line

-- where the log goes on behind each commit, in order
abbrev pub ends_in : List LineEvent → List ℕ
ends_in line = map (λ (p : Past). p.info.end) (commits_in line)

-- whether a transaction is open once one more event of the line has come
abbrev pub open_after : ℕ → Bool → LineEvent → Bool
open_after xid was (WasOpened other) = if is_xid xid other then true else was
open_after xid was (WasCommitted other items info) = if is_xid xid other then false else was
open_after xid was (WasAborted other) = if is_xid xid other then false else was

-- whether a transaction is open, by all events of the line
abbrev pub is_open_in : List LineEvent → ℕ → Bool
is_open_in line xid = fold (open_after xid) false line

-- the world that start, line, lists and stop tell
abbrev pub world_of : Schema → Rows → List LineEvent → ListMap Event → Option Stop → World
world_of schema start line lists stopped = record {
  start = start;
  committed = serial schema start (changes_in (commits_in line));
  line = commits_in line;
  opened = opened_in lists;
  stopped = stopped;
}

-- what a call that was refused appends to its transaction's list
abbrev pub refusal_events : Fault → List Event
refusal_events AlreadyOpen = []
refusal_events TooManyOpen = []
refusal_events Stopped = FoundStopped ∷ []
refusal_events OutOfMemory = FoundNoMemory ∷ []

-- what a call that tried a change appends to it, by what came of it
abbrev pub events_of : ℕ → change_type.Change → Result Acted Fault → List Event
events_of sub c (Ok IsDone) = Done (Change sub c) ∷ []
events_of sub c (Ok IsSkipped) = Done (Change sub c) ∷ []
events_of sub c (Ok (Held holder)) = Wants sub c ∷ []
events_of sub c (Ok (Clashed cause)) = Wants sub c ∷ []
events_of sub c (Err fault) = refusal_events fault

-- what a call that tried a change appends to it, where a clash is told alone
abbrev pub tried_events : ℕ → change_type.Change → Result Verdict EngineFault → List Event
tried_events sub c (Ok (ActedVerdict acted)) = events_of sub c (told (Ok acted))
tried_events sub c (Ok (Clashes clash)) = []
tried_events sub c (Err fault) = refusal_events (told_fault fault)

-- what a call that named a subtransaction appends to it, by what came of it
abbrev pub touch_events : ℕ → Result (Unit {0}) Fault → List Event
touch_events sub (Ok u) = Done (Touch sub) ∷ []
touch_events sub (Err fault) = refusal_events fault
