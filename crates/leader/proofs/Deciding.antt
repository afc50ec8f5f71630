-- The end of a run: which tickets are in hand, what becomes of their transactions, and the end that is decided.
--     held_more      the transactions in hand, with one slot more
--     each_all      what is so at each place is so of all
--     from_held      what is so of each transaction in hand
--     is_stopped      what is told stopped the world
--     aborted_line, closed_here, closed_still, gone_still      the line behind an abort
use Rattle.std.proofs.Common.{◌≡◌, ℕ, suc, Bool, true, false, List, [], ◌∷◌, ◌++◌, Option, Some, None, refl, ap, ◌∙◌, append-nil}
use Rattle.std.specs.Prelude.{All, IsSome, IfSome, is_some, slice_get, if◌then◌else◌}
use Rattle.std.proofs.lemmas.Grind.{flat_map-append, fold-append}
use Rattle.std.proofs.lemmas.List.Elements.{All-cons, All-nil, All-head, All-tail}
use Rattle.world.specs.World.{World, is_xid}
use Rattle.engine.specs.declared.events.LineEvent.{LineEvent}
use Rattle.engine.specs.declared.events.LineEvent.TheVariants.{Aborted as WasAborted}
use Rattle.engine.specs.Events.{past_of, commits_in, open_after, is_open_in}
use Rattle.live_tables.specs.declared.answers.Stop.{Stop}
use Rattle.live_tables.specs.declared.answers.Stop.TheVariants as stops
use Rattle.live_tables.specs.Answers.{TellsWhatStopped}
use Rattle.dispatch.specs.Standing.{Own}
use Rattle.dispatch.proofs.Numbers.{same_self}
use Rattle.leader.specs.Ending.{Hand, EachHeld, held_in}

-- ---- what is in hand

pub held_more : (hand : Hand) (slot : Option Own) → held_in (hand ++ slot ∷ []) ≡ held_in hand ++ held_in (slot ∷ [])
held_more [] slot = refl
held_more (None ∷ hand) slot = held_more hand slot
held_more (Some h ∷ hand) slot = ap (λ (hs : List Own). h ∷ hs) (held_more hand slot)

pub each_all : {X : Type 0} (P : X → Type 0) (xs : List X) → ((i : ℕ) (x : X) → slice_get xs i ≡ Some x → P x) → All P xs
each_all P [] each = All-nil P
each_all P (x ∷ xs) each = All-cons P x xs (each 0 x refl) (each_all P xs (λ i y at. each (suc i) y at))

module _ (P : Own → Type 0) where
  abbrev Of : Option Own → Type 0
  Of slot = IfSome slot P

  pub from_held : (hand : Hand) → All P (held_in hand) → EachHeld P hand
  from_held [] all = All-nil Of
  from_held (None ∷ hand) all = All-cons Of None hand tt (from_held hand all)
  from_held (Some h ∷ hand) all =
      All-cons Of (Some h) hand (All-head P h (held_in hand) all) (from_held hand (All-tail P h (held_in hand) all))

-- ---- the end

-- what is told stopped the world
pub is_stopped : (w : World) (stop : Stop) → TellsWhatStopped (Some stop) w.stopped → IsSome w.stopped
is_stopped w (stops.Clash xid clash) (c, cause, is, stopped) = ap is_some stopped
is_stopped w (stops.Held waiter holder) stopped = ap is_some stopped

-- ---- an abort

-- the line tells of no commit more
pub aborted_line : (line : List LineEvent) (xid : ℕ) → commits_in (line ++ WasAborted xid ∷ []) ≡ commits_in line
aborted_line line xid = flat_map-append past_of line (WasAborted xid ∷ []) ∙ append-nil (commits_in line)

-- of which transactions are open behind it
open_behind : (line : List LineEvent) (xid q : ℕ) → is_open_in (line ++ WasAborted xid ∷ []) q ≡ (if is_xid q xid then false else is_open_in line q)
open_behind line xid q = fold-append (open_after q) false line (WasAborted xid ∷ [])

-- that transaction is closed
pub closed_here : (line : List LineEvent) (xid : ℕ) → is_open_in (line ++ WasAborted xid ∷ []) xid ≡ false
closed_here line xid = open_behind line xid xid ∙ ap (λ (b : Bool). if b then false else is_open_in line xid) (same_self xid)

-- and so stays each that was
pub closed_still : (line : List LineEvent) (xid q : ℕ) → is_open_in line q ≡ false → is_open_in (line ++ WasAborted xid ∷ []) q ≡ false
closed_still line xid q was = open_behind line xid q ∙ by_test (is_xid q xid)
  where
    by_test : (b : Bool) → (if b then false else is_open_in line q) ≡ false
    by_test true = refl
    by_test false = was

pub gone_still : (line : List LineEvent) (xid : ℕ) (hs : List Own) → All (λ (h : Own). is_open_in line h.xid ≡ false) hs
    → All (λ (h : Own). is_open_in (line ++ WasAborted xid ∷ []) h.xid ≡ false) hs
gone_still line xid hs gone = λ k d below. closed_still line xid _ (gone k d below)
