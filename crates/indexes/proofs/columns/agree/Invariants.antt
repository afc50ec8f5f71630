use Rattle.std.proofs.Common.{◌≡◌, drop}
use Rattle.model.specs.Rows.{values_in}
use Rattle.indexes.proofs.columns.agree.Given as goal

-- the columns so far agree, so the rest decide
abbrev pub invariant-loop-column : goal.invariant-loop-column
invariant-loop-column l =
    values_in (drop l.column-index l.columns) l.row ≡ values_in (drop l.column-index l.columns) l.other → values_in l.columns l.row ≡ values_in l.columns l.other
