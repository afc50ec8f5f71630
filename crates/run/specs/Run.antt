-- What a run leaves, as a function of the bytes that it read.
--     IsRun      a run: the items up to the first cause of an end, and the commits among them
use Rattle.std.specs.Prelude.{◌≡◌, map}
use Rattle.model.specs.Rows.{Rows}
use Rattle.model.specs.Effect.{serial}
use Rattle.session.specs.State.{Setting}
use Rattle.run.specs.declared.outcome.Outcome.{Outcome}
use Rattle.engine.specs.Engine.{entry_in}
use Rattle.run.specs.Commits.{commits, committed_changes, commit_ends}
use Rattle.model.specs.Beginning.{last_end}
use Rattle.run.specs.Cause.{schema_of, IsCause}
use Rattle.run.specs.Devices.{DeviceState}
use Rattle.run.specs.StreamPart.{StreamPart}

-- A run from these rows: it handled the items up to the first cause of an end, and what is left are
-- the commits among them, applied in their order.
pub record IsRun (g : Setting) (rows : Rows) (old new : DeviceState) (o : Outcome) : Type 0 where
  pub part : StreamPart g old new
  pub cause : IsCause rows part o.end
  pub journal : map entry_in o.journal.items ≡ commits part.progress.state
  pub position : o.position ≡ last_end (commit_ends part.progress.state.past)
  pub tables : o.tables.rows ≡ serial (schema_of g) rows (committed_changes part.progress.state)
  pub schema : o.tables.schema ≡ schema_of g
