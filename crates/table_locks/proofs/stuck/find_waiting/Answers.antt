use Rattle.std.proofs.Common.{rules, ◌≡◌, ◌<◌, ◌∙◌, ℕ, List, Some, arith, length, slice_index_or, refl, sym, ap, subst}
use Rattle.std.specs.Prelude.{slice_get, slice_set}
use Rattle.std.proofs.lemmas.List.{set-get_or}
use Rattle.std.proofs.lemmas.Option.{slice_get-get_or}
use Rattle.parted_store.specs.JournalLemmas.{none_there}
use Rattle.parted_store.specs.Lent.{OpenTicket}
use Rattle.table_locks.specs.GuardLemmas.{same_states}
use Rattle.table_locks.specs.MeetingLemmas.{none_below, one_below, each_of}
use Rattle.table_locks.specs.Stuck.{WaitsNowhere}
use Rattle.table_locks.specs.StuckLemmas.{told_waiting, nowhere_before, states_on}
use Rattle.table_locks.proofs.stuck.find_waiting.Goals as goal

pub loop-i-init : goal.loop-i-init
loop-i-init g c = record {
  same = same_states c.args.guards.now;
  tickets = refl;
  nowhere = none_below (λ (t : OpenTicket). t.number ≡ c.args.xid → WaitsNowhere c.args.guards.now c.args.tables t) c.args.tickets.now;
}

pub returns-then-is_some-clause-waiting : goal.returns-then-is_some-clause-waiting
returns-then-is_some-clause-waiting g c =
    let l = c.loop-i in
    let it : OpenTicket = slice_index_or l.tickets l.i c.index-tickets-i.result in
    let room : l.i < length l.tickets = search rules in
    let at : slice_get c.args.tickets.now l.i ≡ Some it =
    ap (λ (ts : List OpenTicket). slice_get ts l.i) (sym l.invariant.tickets) ∙ slice_get-get_or l.tickets l.i c.index-tickets-i.result room in
    told_waiting c.args.guards.now l.guards l.invariant.same c.args.tables c.args.tickets.now c.args.xid l.i it at c.holder_if-holder.result
    (sym c.is_some.ensures ∙ c.if-is_some.true) c.holder_if-holder.ensures.held

pub loop-i-preserved : goal.loop-i-preserved
loop-i-preserved g c =
    let l = c.loop-i in
    let it : OpenTicket = slice_index_or l.tickets l.i c.index-tickets-i.result in
    let room : l.i < length l.tickets = search rules in
    let at : slice_get c.args.tickets.now l.i ≡ Some it =
    ap (λ (ts : List OpenTicket). slice_get ts l.i) (sym l.invariant.tickets) ∙ slice_get-get_or l.tickets l.i c.index-tickets-i.result room in
    let none = none_there c.holder_if-holder.result (sym c.is_some.ensures ∙ c.if-is_some.false) in
    record {
      same = states_on c.args.guards.now l.guards l.invariant.same c.holder_if-holder.new.guards c.holder_if-holder.ensures.guards;
      tickets = ap (slice_set l.tickets l.i) c.holder_if-holder.ensures.ticket ∙ set-get_or l.tickets l.i c.index-tickets-i.result ∙ l.invariant.tickets;
      nowhere =
          one_below (λ (t : OpenTicket). t.number ≡ c.args.xid → WaitsNowhere c.args.guards.now c.args.tables t) c.args.tickets.now l.i it at
          l.invariant.nowhere
          (λ same. nowhere_before c.args.guards.now l.guards l.invariant.same c.args.tables it (c.holder_if-holder.ensures.free none same));
    }

pub returns-clause-waiting : goal.returns-clause-waiting
returns-clause-waiting g c =
    let l = c.loop-i in
    let long : length l.tickets ≡ length c.args.tickets.now = ap length l.invariant.tickets in
    let ends : l.i ≡ length l.tickets = search rules in
    each_of (λ (t : OpenTicket). t.number ≡ c.args.xid → WaitsNowhere c.args.guards.now c.args.tables t) c.args.tickets.now l.i
    (omega (arith, ends, long)) l.invariant.nowhere
