-- What each end of a ring keeps of its seat.
use Rattle.std.specs.Prelude.{◌≡◌, ℕ, ◌<◌}
use Rattle.atomic_table.specs.Seated.{TableId}
use Rattle.ring.specs.declared.protocol.TheConstants.{WORDS}

-- the seat is at this table, which is a ring's, and the end counts with its slots, of which there are some
pub record IsSeated (table seat : TableId) (count : ℕ) : Type 0 where
  pub here : seat ≡ table
  pub words : seat.words ≡ WORDS
  pub slots : count ≡ seat.slots
  pub some_slot : 0 < count
