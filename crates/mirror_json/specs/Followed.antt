-- The rows of tables that follow commits.
--     rows_behind      those with the changes of commits made
--     rows_undone      those with a log taken back
use Rattle.std.specs.Prelude.{List, map, flat_map}
use Rattle.model.specs.Rows.{Rows, Schema}
use Rattle.model.specs.Effect.{serial, all_back}
use Rattle.world.specs.World.{Entry}
use Rattle.indexes.specs.Content.{Content}
use Rattle.change.specs.Inverse.{edits_of}
use Rattle.undo.specs.Undo.{Log}

-- the rows behind commits: their changes are made one after another, skipped ones too
abbrev pub rows_behind : Schema → Rows → List Entry → Rows
rows_behind schema rows commits = serial schema rows (flat_map (λ (e : Entry). e.changes) commits)

-- the rows before what is logged: its inverses are put back, the last of them first
abbrev pub rows_undone : Content → Log → Rows
rows_undone tables log = all_back tables.rows (map edits_of log.inverses)
