use Rattle.std.proofs.Common.{Some}
use Rattle.dispatch.specs.Standing.{IsStoreEnd}
use Rattle.dispatch.proofs.Trying.{if_err}
use Rattle.dispatch.proofs.transactions.Transactions.look_held.Goals as goal

pub returns-in_err-running : goal.returns-in_err-running
returns-in_err-running g c =
    if_err c.from_residual.result c.in_err-running.field-0.0 (IsStoreEnd (Some c.args.xid)) c.from_residual.ensures.1
    (c.in_err-running.ensures (Some c.args.xid))
