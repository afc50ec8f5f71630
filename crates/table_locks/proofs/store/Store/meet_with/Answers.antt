use Rattle.std.proofs.Common.{rules, ◌≡◌, List, length, subst}
use Rattle.parted_store.specs.Lent.{OpenTicket}
use Rattle.table_locks.specs.Stuck.{TellsStuck}
use Rattle.table_locks.specs.StuckLemmas.{met_now, tells_noted, tells_held}
use Rattle.table_locks.specs.WholeLemmas.{is_whole}
use Rattle.table_locks.proofs.store.Store.meet_with.Goals as goal

pub returns-clause-whole : goal.returns-clause-whole
returns-clause-whole g c =
    let n = g.N.StoreNames in
    let line = c.args.line.now.list in
    let tickets = c.args.tickets.now in
    let now = c.meet_whole-stop.new.guards in
    let count : c.len-tables.result ≡ length n.schema = search rules in
    let (stopped, tells, met_before, still) = c.meet_whole-stop.ensures.whole in
    let met = met_now n.shares n.tables n.schema n.start line tickets _ now stopped c.meet_whole-stop.ensures.guards met_before in (
      stopped,
      tells,
      record {
        is_whole = is_whole n.shares n.tables n.schema n.start line tickets now stopped met;
        noted = tells_noted n.shares n.tables n.schema n.start line tickets now stopped met _ still;
        held =
            tells_held n.shares n.tables n.schema n.start line tickets now stopped met c.args.sent.now c.args.waiter _ (λ xid is.
            subst (λ many. TellsStuck now many tickets c.args.sent.now xid c.find_stuck-holder.result) count
            (subst (λ (ts : List OpenTicket). TellsStuck now c.len-tables.result ts c.args.sent.now xid c.find_stuck-holder.result)
            c.meet_whole-stop.ensures.tickets (c.find_stuck-holder.ensures.stuck xid is)));
      },
    )
