use Rattle.dispatch.proofs.Turning.{begun_by}
use Rattle.dispatch.proofs.transactions.Transactions.begin.Goals as goal

pub returns-clause-ok : goal.returns-clause-ok
returns-clause-ok g c =
    let t = c.self.inside in
    begun_by _ t.line.list c.open_in.new.line.list t.workers.items t.begun c.args.self.now c.self.view_is c.requires c.in_ok-ticket.ticket c.args.xid
    c.in_ok-ticket.ensures.ok c.in_ok-ticket.ensures.ticket
