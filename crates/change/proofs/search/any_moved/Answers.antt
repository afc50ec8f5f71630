use Rattle.std.proofs.Common.{arith}
use Rattle.change.specs.Reading.{read_row}
use Rattle.change.proofs.Numbered.{moved_series}
use Rattle.change.proofs.Searching.{passes_here, passes_later}
use Rattle.change.proofs.search.any_moved.Goals as goal

pub returns-then-any_moved_values : goal.returns-then-any_moved_values
returns-then-any_moved_values g c =
    passes_here (g.T.CellTest.passes c.args.test.now) (moved_series c.args.table (read_row c.args.old) (read_row c.args.new)) c.args.t.now.schema c.args.table c.loop-index.index (omega arith)
    c.unique_columns-columns.result.now c.unique_columns-columns.ensures c.any_moved_values.result _ c.any_moved_values.ensures c.if-any_moved_values.true c.loop-index.invariant

pub loop-index-preserved : goal.loop-index-preserved
loop-index-preserved g c =
    passes_later (g.T.CellTest.passes c.args.test.now) (moved_series c.args.table (read_row c.args.old) (read_row c.args.new)) c.args.t.now.schema c.args.table c.loop-index.index (omega arith)
    c.unique_columns-columns.result.now c.unique_columns-columns.ensures c.any_moved_values.result _ c.any_moved_values.ensures c.if-any_moved_values.false c.loop-index.invariant
