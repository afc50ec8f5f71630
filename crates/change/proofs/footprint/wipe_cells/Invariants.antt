use Rattle.std.proofs.Common.{◌≡◌, ◌≤◌, length, map, take, vec_len, vec_capacity}
use Rattle.model.specs.declared.cell.Cell.TheVariants.{Whole}
use Rattle.change.proofs.footprint.wipe_cells.Given as goal

-- the tables so far, and room for the others
abbrev pub invariant-loop-table : goal.invariant-loop-table
invariant-loop-table l =
    (l.cells.items ≡ map Whole (take l.table-index l.tables)) × (vec_len l.cells ≡ l.table-index) × (length l.tables ≤ vec_capacity l.cells)
