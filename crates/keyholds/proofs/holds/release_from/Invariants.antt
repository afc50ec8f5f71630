use Rattle.std.proofs.Common.{◌≡◌, ℕ, List, take, length}
use Rattle.std.specs.Map.{keys_of}
use Rattle.model.specs.declared.cell.Cell.{Cell}
use Rattle.keyholds.specs.Addresses.{AreAddresses, with_cells}
use Rattle.keyholds.proofs.holds.release_from.Given as goal

-- the addresses are those of the cells that are left, the first ones
abbrev pub invariant-loop : goal.invariant-loop
invariant-loop g l = record {
  front : take l.mark l.list.items ≡ take l.mark l.fn.list.items;
  placed : (held : ℕ → List Cell) → held l.xid ≡ keys_of l.fn.list.items → AreAddresses held l.fn.addresses → AreAddresses (with_cells held l.xid (keys_of l.list.items)) l.addresses;
}

abbrev pub decreases-loop : goal.decreases-loop
decreases-loop g l = length l.list.items
