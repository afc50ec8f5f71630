-- The end of a run with workers, where all is in one hand: the store, its line, and the ticket of each open transaction.
--     Hand, EachHeld      slots in which tickets lie; a fact of each transaction there
--     held_in      the transactions in hand
--     AreOpenIn, AreGone      each is open in the world, with what its ticket tells; by the line none is open
--     waiter_in      the transaction that an end says waits
--     HasFinished      at which world a run ended
--     AreInHand, AreGiven      what a leader has of its transactions as the run ends; how many items were given to each
use Rattle.std.specs.Prelude.{◌≡◌, ◌≢◌, ℕ, true, false, ◌-◌, ◌^◌, ◌<◌, List, [], ◌∷◌, length, map, All, Contains, Option, Some, None, IfSome, is_some}
use Rattle.std.specs.FinMap.{get}
use Rattle.model.specs.declared.item.Item.{Item}
use Rattle.model.specs.Rows.{Rows, Schema}
use Rattle.model.specs.Effect.{serial}
use Rattle.world.specs.World.{World, changes_in}
use Rattle.world_parts.specs.Led.{IsLed}
use Rattle.engine.specs.declared.events.LineEvent.{LineEvent}
use Rattle.engine.specs.Events.{commits_in, is_open_in}
use Rattle.frames.specs.declared.item.CopyItem.{CopyItem}
use Rattle.session.specs.State.{Spooled, Open, State, Setting}
use Rattle.run.specs.declared.end.End.{End}
use Rattle.run.specs.declared.end.End.TheVariants as ends
use Rattle.run_laws.specs.Threads.{IsWork, done_by_commit}
use Rattle.table_locks.specs.Noted.{IsNoted}
use Rattle.dispatch.specs.Standing.{Own}
use Rattle.leader.specs.Threads.{KeepsToWork}
use Rattle.leader.specs.Decided.{IsDecided}

-- ---- what is in hand

-- slots in which the tickets of open transactions lie, each as the transaction that it tells
abbrev pub Hand : Type 0
Hand = List (Option Own)

-- this is so of each
abbrev pub EachHeld : (Own → Type 0) → Hand → Type 0
EachHeld P hand = All (λ slot. IfSome slot P) hand

-- the transactions in hand, one after another
abbrev pub held_in : Hand → List Own
held_in [] = []
held_in (None ∷ hand) = held_in hand
held_in (Some h ∷ hand) = h ∷ held_in hand

-- ---- how the end is decided

-- Each transaction in hand is open in the world, and has done there what its ticket tells.
abbrev pub AreOpenIn : World → Hand → Type 0
AreOpenIn w hand = EachHeld (λ h. get w.opened h.xid ≡ Some h.done) hand

-- By the line none of them is open any more.
abbrev pub AreGone : List LineEvent → Hand → Type 0
AreGone line hand = EachHeld (λ h. is_open_in line h.xid ≡ false) hand

-- the transaction that the end says waits, if it says so
abbrev pub waiter_in : End → Option ℕ
waiter_in (ends.HeldKey xid holder) = Some xid
waiter_in end = None

-- A world, each part of which parts of calls lead to from the start rows, has the commits of the line. In it just those
-- are open that the line tells, each with what its ticket tells. There the end was decided.
pub record HasFinished (schema : Schema) (start : Rows) (line : List LineEvent) (hand : Hand) (given : List (ℕ × ℕ)) (proposed end : End)
    : Type 0 where
  pub world : World
  pub led : IsLed schema start world
  pub commits : world.line ≡ commits_in line
  pub committed : world.committed ≡ serial schema start (changes_in world.line)
  pub opened : (xid : ℕ) → is_open_in line xid ≡ is_some (get world.opened xid)
  pub stood : AreOpenIn world hand
  pub decided : IsDecided schema world (IsNoted world) given proposed end

-- ---- what a leader has as a run ends, with these items left

-- The line's commits are those of the state. Each transaction in hand is open there, and keeps to its work. By the line
-- no other is open, and of those in the state each that isn't spooled.
pub record AreInHand (g : Setting) (s : State) (rest : List CopyItem) (line : List LineEvent) (hand : Hand) : Type 0 where
  pub commits : commits_in line ≡ map done_by_commit s.past
  pub held : EachHeld (λ h. (o : Open) × (get s.transactions h.xid ≡ Some o) × KeepsToWork g s rest h.xid o h.done) hand
  pub all : (xid : ℕ) → is_open_in line xid ≡ true → (h : Own) × Contains hand (Some h) × (h.xid ≡ xid)
  pub streamed : (xid : ℕ) (o : Open) → get s.transactions xid ≡ Some o → o.way ≢ Spooled → is_open_in line xid ≡ true

-- Each count that is given of a transaction of the state is of all of its work. The last number of a u64 is no count.
abbrev pub AreGiven : Setting → State → List CopyItem → List (ℕ × ℕ) → Type 0
AreGiven g s rest given =
    (xid count : ℕ) (o : Open) → Contains given (xid, count) → count < 2 ^ 64 - 1 → get s.transactions xid ≡ Some o
    → (work : List Item) → IsWork g s rest xid o.way o.items work → count ≡ length work
