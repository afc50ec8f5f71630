use Rattle.std.proofs.Common.{Some}
use Rattle.dispatch.specs.Standing.{IsStoreEnd}
use Rattle.dispatch.proofs.Trying.{if_err}
use Rattle.dispatch.proofs.transactions.Transactions.finish.Goals as goal

pub returns-in_err-send-clause-err : goal.returns-in_err-send-clause-err
returns-in_err-send-clause-err g c = if_err c.from_residual.result c.in_err-send.field-0.0 (IsStoreEnd (Some c.args.xid)) c.from_residual.ensures.1 (c.in_err-send.ensures.err (Some c.args.xid))
