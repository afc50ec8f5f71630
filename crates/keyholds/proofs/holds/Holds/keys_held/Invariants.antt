use Rattle.keyholds.specs.Holds.{cells_held}
use Rattle.keyholds.proofs.Keys.{AreGathered}
use Rattle.keyholds.proofs.holds.Holds.keys_held.Given as goal

-- the keys of the lists so far are gathered
abbrev pub invariant-loop-list : goal.invariant-loop-list
invariant-loop-list g l = AreGathered l.table (cells_held l.self) l.list-iterator l.keys.items
