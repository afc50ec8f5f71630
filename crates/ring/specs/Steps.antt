-- What each step on a ring's words tells the seat that makes it.
--     opened      the view of the seat that a new ring has: nothing was sent, and it has both ends
--     sender_of, taker_of, met, spent      a view cut in two, joined, and what a join leaves behind
--     counted, sought, sent_next, dooms_now      the steps of a sender
--     took_next, acked_next, heard      the steps of a taker
--     compared, undoomed      those of a seat that has both ends
--     by_number      one of three
--     never      no step
--     look_tells, take_tells, put_tells      what a load, a load that takes a slot, and a store tell, by the word
use Rattle.std.specs.Prelude.{◌≡◌, ℕ, zero, suc, ◌+◌, ◌%◌, ◌^◌, ◌<◌, ◌≤◌, ◌⊎◌, Bool, true, false, List, [], ◌∷◌, ◌++◌, length, Option, Some, None, MatchOption}
use Rattle.atomic_table.specs.Table.{Me, Step, rest}
use Rattle.ring.specs.declared.protocol.View.{View}
use Rattle.ring.specs.Flow.{worth}

-- of the step, the seat before, the number found and the seat after
abbrev pub StepRule : Type 0 → Type 1
StepRule T = Step (Option T) → Me (Option T) (View T) → ℕ → Me (Option T) (View T) → Type 0

module _ {T : Type 0} where
  -- the view of both ends of a new ring
  abbrev pub opened : View T
  opened = record {
    sends = true;
    takes = true;
    sent_before = 0;
    sent = [];
    counted = 0;
    looks = 0;
    dooms = false;
    writing = false;
    acked_before = 0;
    acked = [];
    known = 0;
    doomed = false;
    taken = None;
  }

  -- both ends begin again behind all that was sent
  abbrev pub sender_of : View T → View T
  sender_of v = record opened { takes = false; sent_before = v.sent_before + length v.sent }

  -- the taker's part of it
  abbrev pub taker_of : View T → View T
  taker_of v = record opened { sends = false; acked_before = v.sent_before + length v.sent }

  -- what the seat knows that was cut
  abbrev pub spent : View T
  spent = record opened { sends = false; takes = false }

  -- a taker's view v takes in a sender's view w
  abbrev pub met : View T → View T → View T
  met v w = record w {
    takes = true;
    acked_before = v.acked_before;
    acked = v.acked;
    known = v.known;
    doomed = v.doomed;
    taken = v.taken;
  }

  -- the head shows `a` acknowledged items: no fewer than before, no more than were sent, and at most
  -- the capacity behind them
  pub record SeesHead (st : Step (Option T)) (v : View T) (n a : ℕ) : Type 0 where
    pub shows : n ≡ v.sent_before + a
    pub grows : v.counted ≤ a
    pub behind : a ≤ length v.sent
    pub near : length v.sent ≤ a + st.slots

  -- the sender looks once more how many were acknowledged
  abbrev pub counted : StepRule T
  counted st m n m' = (a : ℕ) × SeesHead st m.0 n a × (m' ≡ (record m.0 { counted = a; looks = m.0.looks + 1 }, m.1))

  -- where there is room, the slot behind the last item is taken
  abbrev pub sought : StepRule T
  sought st m n m' =
      (a : ℕ) × SeesHead st m.0 n a
      × (length m.0.sent < a + st.slots → m.0.sent_before + length m.0.sent < 2 ^ 63
      → m' ≡ (
        record m.0 { counted = a; looks = m.0.looks + 1; writing = true },
        ((m.0.sent_before + length m.0.sent) % st.slots, None) ∷ m.1,
      ))
      × ((length m.0.sent ≡ a + st.slots) ⊎ (2 ^ 63 ≤ m.0.sent_before + length m.0.sent)
      → m' ≡ (record m.0 { counted = a; looks = m.0.looks + 1 }, m.1))

  -- the item that was written is sent, and its slot with it
  abbrev pub sent_next : StepRule T
  sent_next st m n m' = (x : T) × (k : ℕ) × (m.1 ≡ (k, Some x) ∷ rest m.1)
      × (m' ≡ (record m.0 { sent = m.0.sent ++ x ∷ []; writing = false }, rest m.1))

  -- the sender dooms the taker
  abbrev pub dooms_now : StepRule T
  dooms_now st m n m' = m' ≡ (record m.0 { dooms = true }, m.1)

  -- the tail shows `b` sent items, and where one of them is not acknowledged the first such is taken
  pub record SeesTail (st : Step (Option T)) (v : View T) (n b : ℕ) : Type 0 where
    pub shows : n ≡ v.acked_before + b
    pub grows : v.known ≤ b
    pub ahead : length v.acked ≤ b
    pub near : b ≤ length v.acked + st.slots
    pub far : n ≤ 2 ^ 63

  -- where an item is left, the slot of the first such is taken
  abbrev pub took_next : StepRule T
  took_next st m n m' =
      (b : ℕ) × SeesTail st m.0 n b
      × (length m.0.acked < b
      → (x : T) × (others : List T) × (m.0.sends ≡ true → m.0.sent ≡ m.0.acked ++ x ∷ others)
      × (m' ≡ (
        record m.0 { known = b; taken = Some x },
        ((m.0.acked_before + length m.0.acked) % st.slots, Some x) ∷ m.1,
      )))
      × (b ≤ length m.0.acked → (m' ≡ (record m.0 { known = b }, m.1)) × (m.0.sends ≡ true → m.0.sent ≡ m.0.acked))

  -- the item that was taken is acknowledged, and its slot given back
  abbrev pub acked_next : StepRule T
  acked_next st m n m' = (x : T) × (m.0.taken ≡ Some x)
      × (m' ≡ (record m.0 { acked = m.0.acked ++ x ∷ []; taken = None }, rest m.1))

  -- once it has heard of its doom, it hears of it again
  abbrev pub heard : StepRule T
  heard st m n m' = (b : Bool) × (n ≡ worth b) × (m.0.doomed ≡ true → b ≡ true)
      × (m' ≡ (record m.0 { doomed = b }, m.1))

  -- what was acknowledged and what is left are what was sent, and neither end has seen more than there was
  pub record Agrees (st : Step (Option T)) (v : View T) : Type 0 where
    pub left : List T
    pub parts : v.sent ≡ v.acked ++ left
    pub near : length left ≤ st.slots
    pub next : MatchOption v.taken (Unit {0}) (λ x. (others : List T) × (left ≡ x ∷ others))
    pub doomed : v.doomed ≡ true → v.dooms ≡ true
    pub counted : v.counted ≤ length v.acked
    pub known : v.known ≤ length v.sent
    pub begun : v.acked_before ≡ v.sent_before
    pub far : v.sent_before + length v.sent ≤ 2 ^ 63

  -- both ends in one hand compare what they have seen
  abbrev pub compared : StepRule T
  compared st m n m' = Agrees st m.0 × (m' ≡ m)

  -- both ends in one hand take a doom back
  abbrev pub undoomed : StepRule T
  undoomed st m n m' = m' ≡ (record m.0 { dooms = false; doomed = false }, m.1)

-- the first of three for 0, as of the words the head, the second for 1, as the tail, and else the third
abbrev pub by_number : {A : Type 1} → ℕ → A → A → A → A
by_number zero first second third = first
by_number (suc zero) first second third = second
by_number (suc (suc _)) first second third = third

module _ {T : Type 0} where
  -- no such step is made
  abbrev pub never : StepRule T
  never _ _ _ _ = ⊥

  -- a load by which no slot changes hands
  abbrev pub look_tells : StepRule T
  look_tells st = by_number st.word counted compared heard st

  -- a load that takes a slot, where there is one
  abbrev pub take_tells : StepRule T
  take_tells st = by_number st.word sought took_next never st

  -- a store; the sender dooms by a 1, and both ends take the doom back by a 0
  abbrev pub put_tells : StepRule T
  put_tells st = by_number st.word acked_next sent_next (by_number st.first undoomed dooms_now never) st
