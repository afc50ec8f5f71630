use Rattle.std.proofs.Common.{sym, ◌∙◌}
use Rattle.change.specs.Reading.{read_row}
use Rattle.change.proofs.Searching.{values_there}
use Rattle.change.proofs.search.any_values.Goals as goal

pub returns-then-has_values : goal.returns-then-has_values
returns-then-has_values g c =
    c.test.ensures
    ∙ values_there c.args.columns.now (read_row c.args.row) (sym c.has_values.ensures ∙ c.if-has_values.true) (g.T.CellTest.passes c.args.test.now) c.args.table c.args.number
