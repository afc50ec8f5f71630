use Rattle.std.proofs.Common.{sym}
use Rattle.std.proofs.lemmas.Result.{err_from_is_err_and}
use Rattle.relcache.proofs.Planned.{planned_insert-row, planned_insert-fault}
use Rattle.relcache.proofs.planning.plan_insert.Goals as goal

pub returns-in_err-row : goal.returns-in_err-row
returns-in_err-row c =
    let fault = err_from_is_err_and c.from_residual-in_err-row.result c.from_residual-in_err-row.ensures.1 in
    rw (fault.1, fault.2) (planned_insert-fault c.args.m.now c.args.new.now (sym c.in_ok-count_columns.ensures) _ c.in_err-row.ensures)

pub returns : goal.returns
returns c =
    rw c.table.ensures (planned_insert-row c.args.m.now c.args.new.now (sym c.in_ok-count_columns.ensures) _ c.in_ok-row.ensures)
