-- The holds of a transaction that was alone and held nothing, made from its changes and their inverses.
--     IsMadeOf      what is held after changes, beside each cell what stood there
--     TakesNext      one change more is taken, by the inverse that comes next
--     IsSoFar      what is held once some of the changes are taken, and the log of the others
use Rattle.std.specs.Prelude.{◌≡◌, ℕ, suc, ◌≤◌, List, [], length, take, drop, slice_get, option_to_list, if◌then◌else◌}
use Rattle.std.specs.Map.{keys_of}
use Rattle.model.specs.declared.change.Change.{Change}
use Rattle.model.specs.declared.cell.Cell.{Cell}
use Rattle.model.specs.Rows.{Rows, Schema}
use Rattle.model.specs.Effect.{serial}
use Rattle.model.specs.Footprint.{held_cells}
use Rattle.change.specs.declared.inverse.Inverse.{Inverse}
use Rattle.change.specs.Footprint.{looked_row, footprint_at}
use Rattle.undo.specs.LogOf.{IsLogOf}
use Rattle.undo.specs.Next.{next_row, has_next}
use Rattle.keyholds.specs.Holds.{with_holds}
use Rattle.live_tables.specs.declared.before_image.BeforeImage.{BeforeImage}
use Rattle.live_tables.specs.Held.{HasSameCells}
use Rattle.live_tables.specs.BeforeImages.{AreBeforeImages, AreToStand}

-- what is held after these changes, made on these rows, beside each cell what stood there
pub record IsMadeOf (schema : Schema) (committed : Rows) (cs : List Change) (is : List Inverse) (held : List (Cell × BeforeImage)) : Type 0 where
  pub same : HasSameCells (keys_of held) (held_cells schema committed cs)
  pub before_image : AreBeforeImages committed is [] held

-- the inverse with this number, if there is one
abbrev pub inverse_at : List Inverse → ℕ → List Inverse
inverse_at is count = option_to_list (slice_get is count)

-- The cells of a change are held too, with what stood there, by the inverse with this number; and the number of the one behind.
pub record TakesNext (schema : Schema) (is : List Inverse) (xid count : ℕ) (c : Change) (old new : ℕ → List (Cell × BeforeImage)) (n : ℕ) : Type 0 where
  pub more : List (Cell × BeforeImage)
  pub its : keys_of more ≡ footprint_at schema c (looked_row c (next_row (inverse_at is count)))
  pub stand : AreToStand (next_row (inverse_at is count)) count (keys_of (old xid)) more
  pub own : new xid ≡ with_holds (old xid) more
  pub counted : n ≡ (if has_next c (looked_row c (next_row (inverse_at is count))) then suc count else count)

-- What is held once these changes are taken by so many inverses, and the others are the log of those that are left.
pub record IsSoFar (schema : Schema) (committed : Rows) (cs rest : List Change) (is : List Inverse) (count : ℕ) (held : List (Cell × BeforeImage)) : Type 0 where
  pub made : IsMadeOf schema committed cs (take count is) held
  pub log : IsLogOf schema (serial schema committed cs) rest (drop count is)
  pub within : count ≤ length is
