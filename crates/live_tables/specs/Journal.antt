-- The rows after entries of a journal.
--     rows_after      the rows after the changes of entries, one entry after the other
use Rattle.std.specs.Prelude.{List, fold}
use Rattle.model.specs.Rows.{Rows, Schema}
use Rattle.model.specs.Effect.{serial}
use Rattle.world.specs.World.{Entry}

-- the rows after the changes of entries, one entry after the other
abbrev pub rows_after : Schema → Rows → List Entry → Rows
rows_after schema rows entries = fold (λ (r : Rows) (e : Entry). serial schema r e.changes) rows entries
