use Rattle.std.proofs.Common.{Some}
use Rattle.worker.specs.WorkingLemmas.{waits_there}
use Rattle.dispatch.proofs.transactions.Transactions.try_change.Goals as goal

pub act-requires-clause-waits : goal.act-requires-clause-waits
act-requires-clause-waits g c table nothing = waits_there _ c.args.sub c.args.change.now c.requires.next table nothing

pub returns-in-Err-clause-end : goal.returns-in-Err-clause-end
returns-in-Err-clause-end g c = c.end_refused.ensures (Some c.args.ticket.now.number)
