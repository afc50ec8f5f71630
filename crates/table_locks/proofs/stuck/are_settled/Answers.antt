use Rattle.std.proofs.Common.{rules, ◌≡◌, ◌<◌, ◌∙◌, ℕ, List, Some, arith, length, slice_index_or, refl, sym, ap, subst}
use Rattle.std.specs.Prelude.{slice_get, slice_set}
use Rattle.std.proofs.lemmas.List.{set-get_or}
use Rattle.std.proofs.lemmas.Option.{slice_get-get_or}
use Rattle.parted_store.specs.Lent.{OpenTicket}
use Rattle.table_locks.specs.GuardLemmas.{same_states}
use Rattle.table_locks.specs.MeetingLemmas.{none_below, one_below, each_of}
use Rattle.table_locks.specs.Stuck.{IsSettledAt}
use Rattle.table_locks.specs.StuckLemmas.{settled_before, nowhere_before, states_on}
use Rattle.table_locks.proofs.stuck.are_settled.Goals as goal

pub loop-i-init : goal.loop-i-init
loop-i-init g c = record {
  same = same_states c.args.guards.now;
  tickets = refl;
  settled = none_below (IsSettledAt c.args.guards.now c.args.tables c.args.sent.now) c.args.tickets.now;
}

pub returns-then-not-is_settled-clause-unsettled : goal.returns-then-not-is_settled-clause-unsettled
returns-then-not-is_settled-clause-unsettled g c not =
    let l = c.loop-i in
    let it : OpenTicket = slice_index_or l.tickets l.i c.index-tickets-i.result in
    let room : l.i < length l.tickets = search rules in
    let at : slice_get c.args.tickets.now l.i ≡ Some it =
    ap (λ (ts : List OpenTicket). slice_get ts l.i) (sym l.invariant.tickets) ∙ slice_get-get_or l.tickets l.i c.index-tickets-i.result room in
    let unsettled = c.is_settled.ensures.unsettled c.if-not-is_settled.true in
    (l.i, it, at, (unsettled.0, nowhere_before c.args.guards.now l.guards l.invariant.same c.args.tables it unsettled.1))

pub loop-i-preserved : goal.loop-i-preserved
loop-i-preserved g c =
    let l = c.loop-i in
    let it : OpenTicket = slice_index_or l.tickets l.i c.index-tickets-i.result in
    let room : l.i < length l.tickets = search rules in
    let at : slice_get c.args.tickets.now l.i ≡ Some it =
    ap (λ (ts : List OpenTicket). slice_get ts l.i) (sym l.invariant.tickets) ∙ slice_get-get_or l.tickets l.i c.index-tickets-i.result room in
    record {
      same = states_on c.args.guards.now l.guards l.invariant.same c.is_settled.new.guards c.is_settled.ensures.guards;
      tickets = ap (slice_set l.tickets l.i) c.is_settled.ensures.ticket ∙ set-get_or l.tickets l.i c.index-tickets-i.result ∙ l.invariant.tickets;
      settled =
          one_below (IsSettledAt c.args.guards.now c.args.tables c.args.sent.now) c.args.tickets.now l.i it at l.invariant.settled
          (settled_before c.args.guards.now l.guards l.invariant.same c.args.tables c.args.sent.now it
          (c.is_settled.ensures.settled c.if-not-is_settled.false));
    }

pub returns-clause-settled : goal.returns-clause-settled
returns-clause-settled g c so =
    let l = c.loop-i in
    let long : length l.tickets ≡ length c.args.tickets.now = ap length l.invariant.tickets in
    let ends : l.i ≡ length l.tickets = search rules in
    each_of (IsSettledAt c.args.guards.now c.args.tables c.args.sent.now) c.args.tickets.now l.i (omega (arith, ends, long)) l.invariant.settled
