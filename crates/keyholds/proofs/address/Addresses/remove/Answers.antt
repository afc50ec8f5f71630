use Rattle.std.proofs.Common.{subst}
use Rattle.std.specs.Prelude.{None}
use Rattle.std.specs.HashMap.{Updates}
use Rattle.std.specs.Ordering.{eq_by_cmp}
use Rattle.model.specs.CellOrder.{cell_cmp}
use Rattle.keyholds.proofs.Addressing.{removes_address}
use Rattle.keyholds.proofs.address.Addresses.remove.Goals as goal

pub returns : goal.returns
returns c =
    removes_address c.args.cell.now c.table.result c.table.ensures c.args.self.now _ c.args.xid
    (subst (λ cell. Updates (eq_by_cmp cell_cmp) c.args.self.now.addresses c.remove.new.self cell None) c.of.ensures c.remove.ensures.updates) c.remove_one.ensures
