-- What parts of a world are reached by parts of steps.
--     PartStep, PartReaches      what a call does to a table's part; such calls one after another
--     IsReachedByParts      a world of which each part is reached so
--     HasReachedPart      the part of a table is a world that calls reach
use Rattle.std.specs.Prelude.{ℕ}
use Rattle.model.specs.Rows.{Rows, Schema}
use Rattle.world.specs.World.{World, starting}
use Rattle.world.specs.Steps.{Step, Reaches}
use Rattle.world_parts.specs.ByTable.{rows_at}
use Rattle.world_parts.specs.Lines.{HasLine}
use Rattle.world_parts.specs.Marks.{HasPart}

-- Some call in some world that has this part and its line does this to it.
pub data PartStep (schema : Schema) (table : ℕ) (part : World) : World → Type 0 where
  part_step : (w next new : World) → HasPart table w part → HasLine table w part
      → Step schema w next → HasPart table next new → HasLine table next new
      → PartStep schema table part new

-- such calls, one after another
pub data PartReaches (schema : Schema) (table : ℕ) (from : World) : World → Type 0 where
  at_start : PartReaches schema table from from
  by_step : (part new : World) → PartReaches schema table from part → PartStep schema table part new
      → PartReaches schema table from new

-- Each part of the world is reached so from the table's start rows. Calls of one table may come in another order than
-- those of another.
pub record IsReachedByParts (schema : Schema) (start : Rows) (w : World) : Type 0 where
  pub parts : (table : ℕ)
      → (part : World) × HasPart table w part × HasLine table w part
      × PartReaches schema table (starting (rows_at table start)) part

-- The part of the table is a world that calls of its own reach, from the table's start rows.
abbrev pub HasReachedPart : Schema → Rows → World → ℕ → Type 0
HasReachedPart schema start w table =
    (part : World) × HasPart table w part × HasLine table w part × Reaches schema (starting (rows_at table start)) part
