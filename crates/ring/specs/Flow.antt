-- The rule of a ring's table: what has gone through the ring, and what its words, its slots and the
-- views of its two seats then are. It holds between any two steps.
--     Course      what has gone through
--     head_of, tail_of      how many items were acknowledged and sent over the ring's whole life
--     Counts, Slots      the words; the slots
--     SenderKnows, TakerKnows, Seats      what a seat's view says
--     Flow      the rule
use Rattle.std.specs.Prelude.{◌≡◌, ℕ, ◌+◌, ◌%◌, ◌^◌, ◌<◌, ◌≤◌, Bool, true, false, List, ◌∷◌, ◌++◌, length, slice_index, Option, Some, None}
use mathlib.Core.Option.{some}
use mathlib.Core.Option as maybe
use lib.ListN.{get_elem?}
use Rattle.atomic_table.specs.Table.{State}
use Rattle.ring.specs.declared.protocol.View.{View}
use Rattle.ring.specs.declared.protocol.TheConstants.{HEAD, TAIL, DOOM, WORDS}

-- since the ring was made or reopened
pub record Course (T : Type 0) : Type 0 where
  pub before : ℕ  -- how many items were sent and acknowledged before that
  pub acked : List T
  pub left : List T  -- sent and not acknowledged
  pub dooms : Bool
  pub writing : Bool  -- the slot behind the last item is out with the sender
  pub reading : Bool  -- the slot of the first item that is left is out with the taker

module _ {T : Type 0} where
  -- how many items were acknowledged over the ring's whole life
  abbrev pub head_of : Course T → ℕ
  head_of c = c.before + length c.acked

  -- how many were sent
  abbrev pub tail_of : Course T → ℕ
  tail_of c = c.before + length (c.acked ++ c.left)

-- the number that a word has for a yes or no
abbrev pub worth : Bool → ℕ
worth false = 0
worth true = 1

-- the words: what was acknowledged and sent over the ring's life, and whether the taker is doomed
pub record Counts {T : Type 0} (words : List ℕ) (c : Course T) : Type 0 where
  pub wide : length words ≡ WORDS
  pub head_is : slice_index words HEAD ≡ head_of c
  pub tail_is : slice_index words TAIL ≡ tail_of c
  pub doom_is : slice_index words DOOM ≡ worth c.dooms
  pub far : tail_of c ≤ 2 ^ 63

-- from the slot of the head on, round the ring: the items that are left, and behind them free slots
pub record Slots {T : Type 0} (n : ℕ) (homes : List (maybe.Option (Option T))) (head : ℕ) (left : List T)
    (writing reading : Bool) : Type 0 where
  pub wide : length homes ≡ n
  pub some_slot : 0 < n
  pub fits : length left ≤ n
  pub room : writing ≡ true → length left < n
  pub full : (p : ℕ) (x : T) → get_elem? left p ≡ some x → (reading ≡ true → 0 < p)
      → get_elem? homes ((head + p) % n) ≡ some (some (Some x))
  pub free : (p : ℕ) → length left ≤ p → p < n → (writing ≡ true → length left < p)
      → get_elem? homes ((head + p) % n) ≡ some (some None)

-- What the sender knows is true: what was sent, and no more acknowledged than there was.
pub record SenderSees {T : Type 0} (c : Course T) (before : ℕ) (sent : List T) (counted : ℕ)
    (dooms writing : Bool) : Type 0 where
  pub before_is : before ≡ c.before
  pub sent_is : sent ≡ c.acked ++ c.left
  pub counted_is : counted ≤ length c.acked
  pub dooms_is : dooms ≡ c.dooms
  pub writing_is : writing ≡ c.writing

-- a taken item is the first of those that are left, and its slot is out
abbrev pub Holds : {T : Type 0} → Bool → List T → Option T → Type 0
Holds reading left None = reading ≡ false
Holds {T} reading left (Some x) = (reading ≡ true) × ((others : List T) × (left ≡ x ∷ others))

-- What the taker knows is true: what was acknowledged, and no more sent than there was.
pub record TakerSees {T : Type 0} (c : Course T) (before : ℕ) (acked : List T) (known : ℕ)
    (doomed : Bool) (taken : Option T) : Type 0 where
  pub before_is : before ≡ c.before
  pub acked_is : acked ≡ c.acked
  pub known_is : known ≤ length (c.acked ++ c.left)
  pub doomed_is : doomed ≡ true → c.dooms ≡ true
  pub taken_is : Holds c.reading c.left taken

module _ {T : Type 0} where
  -- what a view says of the sender's end is true
  abbrev pub SenderKnows : Course T → View T → Type 0
  SenderKnows c v = SenderSees c v.sent_before v.sent v.counted v.dooms v.writing

  -- and of the taker's
  abbrev pub TakerKnows : Course T → View T → Type 0
  TakerKnows c v = TakerSees c v.acked_before v.acked v.known v.doomed v.taken

-- one seat at most sends, and one takes; both may be one seat, where the ends met
pub record Seats {T : Type 0} (views : List (View T)) (c : Course T) : Type 0 where
  pub sender : ℕ
  pub taker : ℕ
  pub of_sender : (i : ℕ) (v : View T) → get_elem? views i ≡ some v → v.sends ≡ true → (i ≡ sender) × SenderKnows c v
  pub of_taker : (i : ℕ) (v : View T) → get_elem? views i ≡ some v → v.takes ≡ true → (i ≡ taker) × TakerKnows c v

-- The words, the slots and the seats agree on one course of the ring.
pub record Flow {T : Type 0} (s : State (Option T) (View T)) : Type 0 where
  pub course : Course T
  pub count : ℕ
  pub counts : Counts s.words course
  pub slots : Slots count s.homes (head_of course) course.left course.writing course.reading
  pub seats : Seats s.views course
