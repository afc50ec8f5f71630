-- What is known of a ring at each of its ends, and where both ends are in one hand; and what a call
-- makes of it.
--     Sending, Taking, Meeting      what the sender knows, the taker, and whoever holds both ends
--     SentThrough, HasNoRoom      what the sender knows before and after a call; why an item is refused
--     Looked, Acknowledged, Heard, Waited      the same for the taker
--     Meets, HandsOut      where both ends meet; an item that was left is handed out
--     AtStart      a ring that is new or reopened
use Rattle.std.specs.Prelude.{◌≡◌, ℕ, ◌+◌, ◌^◌, ◌<◌, ◌≤◌, ◌⊎◌, Bool, true, false, List, [], ◌∷◌, ◌++◌, length, Option, None, Some, MatchOption}
use Rattle.atomic_table.specs.Seated.{TableId}

-- the items that were sent since the ring was made or reopened, oldest first
pub record Sending (T : Type 0) : Type 0 where
  pub ring : TableId  -- which ring it is; `ring.slots` is its capacity
  pub before : ℕ  -- how many items were sent over the ring's life before
  pub sent : List T
  pub counted : ℕ  -- how many acknowledged ones the sender saw when it last looked
  pub looks : ℕ  -- how many times it has looked
  pub dooms : Bool  -- whether it doomed the taker

-- the items that were acknowledged since then, oldest first
pub record Taking (T : Type 0) : Type 0 where
  pub ring : TableId
  pub acked : List T
  pub taken : Option T  -- the item that is taken and not acknowledged yet
  pub known : ℕ  -- how many sent ones the taker has seen
  pub doomed : Bool  -- whether it has seen that it is doomed

-- what was sent, what the taker acknowledged, and what is left to be handed out
pub record Meeting (T : Type 0) : Type 0 where
  pub ring : TableId
  pub before : ℕ
  pub sent : List T
  pub acked : List T
  pub left : List T

module _ {T : Type 0} where
  -- it has looked once more how many were acknowledged, which leave no more than the capacity, and has sent these items
  pub record SentThrough (old new : Sending T) (items : List T) : Type 0 where
    pub ring : new.ring ≡ old.ring
    pub before : new.before ≡ old.before
    pub sent : new.sent ≡ items
    pub dooms : new.dooms ≡ old.dooms
    pub looked : new.looks ≡ old.looks + 1
    pub grows : old.counted ≤ new.counted
    pub behind : new.counted ≤ length new.sent
    pub near : length new.sent ≤ new.counted + new.ring.slots

  -- every slot has an item that the sender did not see acknowledged as it last looked, or a ring's life is over
  abbrev pub HasNoRoom : Sending T → Type 0
  HasNoRoom s = (length s.sent ≡ s.counted + s.ring.slots) ⊎ (2 ^ 63 ≤ s.before + length s.sent)

  -- an item is taken where the taker has seen one that is not acknowledged, and a taken one stays
  pub record Looked (old new : Taking T) : Type 0 where
    pub ring : new.ring ≡ old.ring
    pub acked : new.acked ≡ old.acked
    pub doomed : new.doomed ≡ old.doomed
    pub grows : old.known ≤ new.known
    pub stays : MatchOption old.taken (Unit {0}) (λ x. new.taken ≡ Some x)
    pub first : MatchOption new.taken (new.known ≤ length new.acked) (λ _. length new.acked < new.known)
    pub near : new.known ≤ length new.acked + new.ring.slots

  -- the taken item is acknowledged
  pub record Acknowledged (old new : Taking T) : Type 0 where
    pub ring : new.ring ≡ old.ring
    pub acked : MatchOption old.taken (Unit {0}) (λ x. new.acked ≡ old.acked ++ x ∷ [])
    pub taken : new.taken ≡ None
    pub known : new.known ≡ old.known
    pub doomed : new.doomed ≡ old.doomed

  -- it hears whether it is doomed, and a doom once heard stays
  pub record Heard (old new : Taking T) (answer : Bool) : Type 0 where
    pub ring : new.ring ≡ old.ring
    pub acked : new.acked ≡ old.acked
    pub taken : new.taken ≡ old.taken
    pub known : new.known ≡ old.known
    pub doomed : new.doomed ≡ answer
    pub stays : old.doomed ≡ true → new.doomed ≡ true

  -- it has looked some times, and heard some times whether it is doomed
  pub record Waited (old new : Taking T) : Type 0 where
    pub ring : new.ring ≡ old.ring
    pub acked : new.acked ≡ old.acked
    pub grows : old.known ≤ new.known
    pub stays : MatchOption old.taken (Unit {0}) (λ x. new.taken ≡ Some x)
    pub doomed : old.doomed ≡ true → new.doomed ≡ true

  -- what was acknowledged and what is left are what was sent, and neither end had seen more than there was
  pub record Meets (s : Sending T) (t : Taking T) (m : Meeting T) : Type 0 where
    pub ring : m.ring ≡ t.ring
    pub before : m.before ≡ s.before
    pub sent : m.sent ≡ s.sent
    pub acked : m.acked ≡ t.acked
    pub parts : s.sent ≡ t.acked ++ m.left
    pub near : length m.left ≤ t.ring.slots
    pub next : MatchOption t.taken (Unit {0}) (λ x. (others : List T) × (m.left ≡ x ∷ others))
    pub doomed : t.doomed ≡ true → s.dooms ≡ true
    pub counted : s.counted ≤ length t.acked
    pub known : t.known ≤ length s.sent

  -- the first item that is left is handed out
  pub record HandsOut (old new : Meeting T) (item : Option T) : Type 0 where
    pub ring : new.ring ≡ old.ring
    pub before : new.before ≡ old.before
    pub sent : new.sent ≡ old.sent
    pub acked : new.acked ≡ old.acked
    pub left : MatchOption item ((old.left ≡ []) × (new.left ≡ [])) (λ x. old.left ≡ x ∷ new.left)

  -- nothing was sent, acknowledged or doomed yet
  pub record AtStart (ring : TableId) (base : ℕ) (s : Sending T) (t : Taking T) : Type 0 where
    pub sends : s.ring ≡ ring
    pub before : s.before ≡ base
    pub sent : s.sent ≡ []
    pub counted : s.counted ≡ 0
    pub dooms : s.dooms ≡ false
    pub takes : t.ring ≡ ring
    pub acked : t.acked ≡ []
    pub taken : t.taken ≡ None
    pub known : t.known ≡ 0
    pub doomed : t.doomed ≡ false
