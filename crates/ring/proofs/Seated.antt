-- The seat of an end, at the table of its ring.
use Rattle.std.proofs.Common.{◌≡◌, ℕ, ap, sym, ◌∙◌, subst}
use Rattle.atomic_table.specs.Seated.{TableId}
use Rattle.ring.specs.Seat.{IsSeated}

-- the end counts with all slots of the table
pub all_slots : {table seat : TableId} {count : ℕ} → IsSeated table seat count → count ≡ table.slots
all_slots seated = seated.slots ∙ ap (λ t. t.slots) seated.here

-- a seat at the same table is seated too
pub seated_again : {table seat other : TableId} {count : ℕ} → other ≡ seat → IsSeated table seat count → IsSeated table other count
seated_again {table = table} {count = count} same seated = subst (λ t. IsSeated table t count) (sym same) seated
