use Rattle.std.specs.Ordering.{is_eq}
use Rattle.std.proofs.Common.{sym, ◌∙◌, ap}
use Rattle.change.specs.Reading.{read_row}
use Rattle.change.proofs.Searching.{key_there}
use Rattle.change.proofs.reading.has_key.Goals as goal

pub returns-then-has_values : goal.returns-then-has_values
returns-then-has_values c =
    c.is_eq.ensures ∙ ap is_eq c.compare_key.ensures
    ∙ key_there c.args.columns.now (read_row c.args.row) (sym c.has_values.ensures ∙ c.if-has_values.true) c.args.key.now
