use Rattle.std.specs.Prelude.{All, take}
use Rattle.keyholds.specs.Holds.{cells_held, IsFreeCell}
use Rattle.keyholds.proofs.holds.Holds.free_for.Given as goal

-- no other transaction has any of the cells so far
abbrev pub invariant-loop-cell : goal.invariant-loop-cell
invariant-loop-cell g l = All (IsFreeCell (cells_held l.self) l.xid) (take l.cell-index l.cells)
