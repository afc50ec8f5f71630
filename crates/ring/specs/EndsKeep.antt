-- The fields of an `Ends`.
use Rattle.std.specs.Prelude.{◌≡◌, ◌+◌, ◌%◌, ◌^◌, ◌≤◌, true, false, List, ◌∷◌, ◌++◌, length, take, drop, MatchOption}
use Rattle.std.specs.Arc.{arc_value}
use Rattle.ring.specs.declared.ends.Ends.TheInside.{Inside}
use Rattle.ring.specs.Seat.{IsSeated}
use Rattle.ring.specs.Ends.{Meeting}
use Rattle.ring.specs.TakerKeeps.{out_of}

module _ {T : Type 0} where
  -- the seat acknowledges each item that is handed out, behind those that the taker acknowledged
  abbrev pub meeting : Inside T → Meeting T
  meeting a = let v = a.seat.me.0 in record {
    ring = a.seat.table_id;
    before = v.sent_before;
    sent = v.sent;
    acked = take a.acked v.acked;
    left = drop (length v.acked) v.sent;
  }

  -- its seat is at the table of both ends and has the views of both
  pub record IsEnds (a : Inside T) : Type 0 where
    pub seated : IsSeated (arc_value a.table).shared.table_id a.seat.table_id a.slots
    pub spare : a.seat.table_id ≡ (arc_value a.spare).shared.table_id
    pub sends : a.seat.me.0.sends ≡ true
    pub takes : a.seat.me.0.takes ≡ true
    pub idle : a.seat.me.0.writing ≡ false
    pub item : a.item ≡ a.seat.me.0.taken
    pub base : a.base ≡ a.seat.me.0.sent_before
    pub begun : a.seat.me.0.acked_before ≡ a.seat.me.0.sent_before
    pub head : a.head ≡ a.base + length a.seat.me.0.acked
    pub far : a.base + length a.seat.me.0.sent ≤ 2 ^ 63
    pub counted : a.acked ≤ length a.seat.me.0.acked
    pub parts : a.seat.me.0.sent ≡ a.seat.me.0.acked ++ drop (length a.seat.me.0.acked) a.seat.me.0.sent
    pub next : MatchOption a.item (Unit {0})
        (λ x. (others : List T) × (a.seat.me.0.sent ≡ a.seat.me.0.acked ++ x ∷ others))
    pub out : a.seat.me.1 ≡ out_of (a.head % a.slots) a.item
