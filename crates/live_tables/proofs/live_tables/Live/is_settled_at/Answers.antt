use Rattle.std.proofs.Common.{sym, true≢false}
use Rattle.live_tables.specs.StopLemmas.{settled_by, unsettled_by, unsettled, wants_named}
use Rattle.live_tables.proofs.live_tables.Live.is_settled_at.Goals as goal

pub find_holder-requires-clause-named : goal.find_holder-requires-clause-named
find_holder-requires-clause-named c =
    let (w, tied) = c.requires.tied in
    wants_named w c.args.self.now tied c.args.xid c.args.transaction.now c.requires.found

pub returns-clause-settled : goal.returns-clause-settled
returns-clause-settled c =
    settled_by c.args.self.now c.args.sent.now c.args.xid c.args.transaction.now c.find_holder.result c.is_some.result c.is_some.ensures c.find_holder.ensures.held

pub returns-clause-unsettled : goal.returns-clause-unsettled
returns-clause-unsettled c = λ no w tied.
    unsettled w c.args.self.now tied c.args.sent.now c.args.xid c.args.transaction.now c.requires.found
    (λ counted. true≢false (sym (c.if-is_counted.ensures.1 counted)))
    (unsettled_by c.args.self.now c.args.sent.now c.args.xid c.args.transaction.now c.find_holder.result c.is_some.result c.is_some.ensures c.find_holder.ensures.free no)
