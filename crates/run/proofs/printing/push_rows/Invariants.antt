use Rattle.std.proofs.Common.{◌≡◌, ◌++◌}
use Rattle.std.specs.List.{flat_map}
use Rattle.run.specs.Report.{row_text}
use Rattle.run.proofs.printing.push_rows.Given as goal

-- with the text of the rows that are left it is the text of all
abbrev pub invariant-loop-row : goal.invariant-loop-row
invariant-loop-row l = l.text.items ++ flat_map row_text l.row-iterator ≡ l.fn.text.items ++ flat_map row_text l.fn.rows
