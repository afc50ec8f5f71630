use Rattle.std.specs.FinMap.{entries}
use Rattle.std.specs.Map.{values_of}
use Rattle.live_tables.specs.Merged.{merged}
use Rattle.live_tables.proofs.MergeSteps.{IsMerging}
use Rattle.live_tables.proofs.TableRows.{keyed}
use Rattle.live_tables.proofs.merging.merge_rows.Given as goal

abbrev pub invariant-loop-row : goal.invariant-loop-row
invariant-loop-row l =
    IsMerging l.tables.schema l.table (values_of (merged (keyed l.table (entries l.tables.rows)) l.fn.stands.entries)) l.rows.items l.left.entries l.row-iterator
