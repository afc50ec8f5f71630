use Rattle.std.proofs.Common.{sym, ◌∙◌, subst}
use Rattle.std.specs.Prelude.{Some}
use Rattle.std.specs.HashMap.{Updates}
use Rattle.std.specs.Ordering.{eq_by_cmp}
use Rattle.model.specs.CellOrder.{cell_cmp}
use Rattle.keyholds.proofs.Addressing.{adds_address, at_ok}
use Rattle.keyholds.proofs.address.Addresses.add.Goals as goal

pub returns-clause-ok : goal.returns-clause-ok
returns-clause-ok c =
    adds_address c.args.cell c.table-table.result c.table-table.ensures c.args.self.now _ c.args.address
    (subst (λ cell. Updates (eq_by_cmp cell_cmp) c.args.self.now.addresses c.insert.new.self cell (Some c.args.address)) c.of-cell.ensures
    (at_ok c.insert.result _ (sym c.is_err.ensures.value ∙ c.if-is_err.false) c.insert.ensures.updates))
    c.in_ok-add.ensures.ok
