use Rattle.std.proofs.Common.{◌≡◌, drop, map}
use Rattle.std.specs.List.{list_any}
use Rattle.model.specs.declared.cell.Cell.TheVariants.{Whole}
use Rattle.change.proofs.search.any_wipe.Given as goal

-- none so far passes, so the tables that are left decide
abbrev pub invariant-loop-table : goal.invariant-loop-table
invariant-loop-table g l = list_any (g.T.CellTest.passes l.test) (map Whole (drop l.table-index l.tables)) ≡ list_any (g.T.CellTest.passes l.test) (map Whole l.tables)
