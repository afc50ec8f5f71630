use Rattle.std.proofs.Common.{ap}
use Rattle.std.specs.Prelude.{Err}
use Rattle.engine.specs.Events.{opened_by}
use Rattle.worker.specs.WorkingLemmas.{waits_there}
use Rattle.worker.proofs.Refusals.{comes_change, refused_change}
use Rattle.worker.proofs.tries.try_change.Goals as goal

pub act-requires-clause-waits : goal.act-requires-clause-waits
act-requires-clause-waits g c table nothing =
    waits_there (opened_by c.args.ticket.now.events).wants c.args.sub c.args.change.now c.requires.next table nothing

pub returns-in-Err-clause-comes : goal.returns-in-Err-clause-comes
returns-in-Err-clause-comes g c =
    let refused = c.in-Err in
    comes_change c.args.ticket.now.events c.args.sub c.args.change.now c.act.new.ticket.events c.end_refused.result refused.fault refused.ensures.events
    c.end_refused.ensures refused.ensures.fault

pub returns-in-Err-clause-why : goal.returns-in-Err-clause-why
returns-in-Err-clause-why g c =
    let refused = c.in-Err in
    refused_change g.N.StoreNames.schema g.N.StoreNames.start c.act.new.ticket.number c.args.ticket.now.events c.args.sub c.args.change.now
    c.act.new.ticket.events c.end_refused.result refused.fault refused.ensures.events c.end_refused.ensures refused.ensures.fault
    (λ clash is. refused.ensures.clashes clash (ap Err is))
