-- The fields of a `Sender`.
use Rattle.std.specs.Prelude.{◌≡◌, ◌+◌, ◌^◌, ◌≤◌, true, false, [], length}
use Rattle.std.specs.Arc.{arc_value}
use Rattle.ring.specs.declared.sender.Sender.TheInside.{Inside}
use Rattle.ring.specs.Seat.{IsSeated}
use Rattle.ring.specs.Ends.{Sending}

module _ {T : Type 0} where
  -- a sender as its callers see it
  abbrev pub sending : Inside T → Sending T
  sending a = let v = a.seat.me.0 in record {
    ring = a.seat.table_id;
    before = v.sent_before;
    sent = v.sent;
    counted = v.counted;
    looks = v.looks;
    dooms = v.dooms;
  }

  -- its seat is at its table and sends, no slot is out with it, and its counts are those of its view
  pub record IsSender (a : Inside T) : Type 0 where
    pub seated : IsSeated (arc_value a.table).shared.table_id a.seat.table_id a.slots
    pub sends : a.seat.me.0.sends ≡ true
    pub idle : a.seat.me.0.writing ≡ false
    pub empty : a.seat.me.1 ≡ []
    pub base : a.base ≡ a.seat.me.0.sent_before
    pub tail : a.tail ≡ a.base + length a.seat.me.0.sent
    pub far : a.tail ≤ 2 ^ 63
