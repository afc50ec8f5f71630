use Rattle.std.proofs.Common.{sym}
use Rattle.std.proofs.lemmas.Result.{err_from_is_err_and}
use Rattle.relcache.proofs.Planned.{planned_update-patch_fault, planned_update-key_fault, planned_update-set}
use Rattle.relcache.proofs.planning.plan_update.Goals as goal

pub returns-in_err-patch : goal.returns-in_err-patch
returns-in_err-patch c =
    let fault = err_from_is_err_and c.from_residual-in_err-patch.result c.from_residual-in_err-patch.ensures.1 in
    rw (fault.1, fault.2) (planned_update-patch_fault c.args.m.now c.args.lookup.now c.args.new.now _ (sym c.in_ok-fields.ensures) (sym c.in_ok-count_columns.ensures) (sym c.in_ok-count_columns-2.ensures) _ c.in_err-patch.ensures)

pub returns-in_err-key : goal.returns-in_err-key
returns-in_err-key c =
    let fault = err_from_is_err_and c.from_residual-in_err-key.result c.from_residual-in_err-key.ensures.1 in
    let looked_up = rw c.columns.ensures.value at c.in_err-key.ensures in
    rw (fault.1, fault.2) (planned_update-key_fault c.args.m.now c.args.lookup.now c.args.new.now _ (sym c.in_ok-fields.ensures) (sym c.in_ok-count_columns.ensures) (sym c.in_ok-count_columns-2.ensures) _ _ c.in_ok-patch.ensures looked_up)

pub returns : goal.returns
returns c =
    let looked_up = rw c.columns.ensures.value at c.in_ok-key.ensures in
    rw c.table.ensures (planned_update-set c.args.m.now c.args.lookup.now c.args.new.now _ (sym c.in_ok-fields.ensures) (sym c.in_ok-count_columns.ensures) (sym c.in_ok-count_columns-2.ensures) _ _ c.in_ok-patch.ensures looked_up)
