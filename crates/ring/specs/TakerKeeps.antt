-- The fields of a `Taker`.
use Rattle.std.specs.Prelude.{◌≡◌, ℕ, ◌+◌, ◌%◌, ◌^◌, ◌<◌, ◌≤◌, true, List, [], ◌∷◌, length, Option, None, Some}
use Rattle.std.specs.Arc.{arc_value}
use Rattle.ring.specs.declared.taker.Taker.TheInside.{Inside}
use Rattle.ring.specs.Seat.{IsSeated}
use Rattle.ring.specs.Ends.{Taking}

-- the slots that are out with a taker: that of the item that it took, now empty
abbrev pub out_of : {T : Type 0} → ℕ → Option T → List (ℕ × Option T)
out_of k None = []
out_of k (Some x) = (k, None) ∷ []

-- an item is taken exactly where the taker has seen more than it acknowledged, and may be acknowledged
abbrev pub MayAck : {T : Type 0} → Option T → ℕ → ℕ → ℕ → Type 0
MayAck None head acked known = Unit {0}
MayAck (Some x) head acked known = (acked < known) × (head < 2 ^ 63)

module _ {T : Type 0} where
  -- a taker as its callers see it
  abbrev pub taking : Inside T → Taking T
  taking a = let v = a.seat.me.0 in record {
    ring = a.seat.table_id;
    acked = v.acked;
    taken = v.taken;
    known = v.known;
    doomed = v.doomed;
  }

  -- its seat is at its table and takes, and the item that it took lies in its field
  pub record IsTaker (a : Inside T) : Type 0 where
    pub seated : IsSeated (arc_value a.table).shared.table_id a.seat.table_id a.slots
    pub takes : a.seat.me.0.takes ≡ true
    pub item : a.item ≡ a.seat.me.0.taken
    pub head : a.head ≡ a.seat.me.0.acked_before + length a.seat.me.0.acked
    pub out : a.seat.me.1 ≡ out_of (a.head % a.slots) a.item
    pub next : MayAck a.item a.head (length a.seat.me.0.acked) a.seat.me.0.known
    pub near : a.seat.me.0.known ≤ length a.seat.me.0.acked + a.slots
