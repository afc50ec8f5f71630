use Rattle.std.proofs.Common.{take}
use Rattle.std.specs.Map.{keys_of}
use Rattle.keyholds.specs.Lists.{AddsKeys}
use Rattle.keyholds.proofs.holds.push_keys.Given as goal

abbrev pub invariant-loop-cell : goal.invariant-loop-cell
invariant-loop-cell g l = AddsKeys l.table (keys_of (take l.cell-index l.list)) l.initial.keys.items l.keys.items
