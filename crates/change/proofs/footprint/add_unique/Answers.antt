use Rattle.std.proofs.Common.{◌+◌, ◌++◌, ◌∙◌, ap, arith}
use Rattle.model.specs.Cells.{unique_cell}
use Rattle.change.proofs.Numbered.{unique_series, one_more, no_more}
use Rattle.change.proofs.footprint.add_unique.Goals as goal

pub returns : goal.returns
returns g c =
    no_more (unique_series c.args.table (g.R.ReadRow.read c.args.row.now)) c.args.t.now.schema c.args.table c.loop-index.index (omega arith) c.loop-index.cells.items _ c.loop-index.invariant

pub loop-index-preserved : goal.loop-index-preserved
loop-index-preserved g c =
    one_more (unique_series c.args.table (g.R.ReadRow.read c.args.row.now)) c.args.t.now.schema c.args.table c.loop-index.index (omega arith)
    c.unique_columns-columns.result.now c.unique_columns-columns.ensures c.loop-index.cells.items c.add_values.new.cells.items _
    (c.in_ok-add_values.ensures ∙ ap (λ values. c.loop-index.cells.items ++ unique_cell c.args.table (c.loop-index.index + 1) values) c.in_ok-values.ensures)
    c.loop-index.invariant
