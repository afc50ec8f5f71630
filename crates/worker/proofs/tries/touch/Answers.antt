use Rattle.worker.proofs.Refusals.{comes_touch, refused_touch, refusal_told}
use Rattle.worker.proofs.tries.touch.Goals as goal

pub end_refused-requires : goal.end_refused-requires
end_refused-requires g c = refusal_told c.in-Err.fault c.in-Err.ensures.fault

pub returns-in-Err-clause-comes : goal.returns-in-Err-clause-comes
returns-in-Err-clause-comes g c =
    let refused = c.in-Err in
    comes_touch c.args.ticket.now.events c.args.sub c.touch.new.ticket.events c.end_refused.result refused.fault refused.ensures.events c.end_refused.ensures
    refused.ensures.fault

pub returns-in-Err-clause-why : goal.returns-in-Err-clause-why
returns-in-Err-clause-why g c =
    let refused = c.in-Err in
    refused_touch g.N.StoreNames.schema g.N.StoreNames.start c.touch.new.ticket.number c.args.ticket.now.events c.touch.new.ticket.events
    c.end_refused.result refused.fault refused.ensures.events c.end_refused.ensures refused.ensures.fault
