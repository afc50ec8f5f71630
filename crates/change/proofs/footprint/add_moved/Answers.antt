use Rattle.std.proofs.Common.{arith}
use Rattle.change.specs.Reading.{read_row}
use Rattle.change.proofs.Numbered.{moved_series, one_more, no_more}
use Rattle.change.proofs.footprint.add_moved.Goals as goal

pub returns : goal.returns
returns c =
    no_more (moved_series c.args.table (read_row c.args.old) (read_row c.args.new)) c.args.t.now.schema c.args.table c.loop-index.index (omega arith) c.loop-index.cells.items _ c.loop-index.invariant

pub loop-index-preserved : goal.loop-index-preserved
loop-index-preserved c =
    one_more (moved_series c.args.table (read_row c.args.old) (read_row c.args.new)) c.args.t.now.schema c.args.table c.loop-index.index (omega arith)
    c.unique_columns-columns.result.now c.unique_columns-columns.ensures c.loop-index.cells.items c.add_moved_values.new.cells.items _ c.in_ok-add_moved_values.ensures
    c.loop-index.invariant
