use Rattle.std.proofs.Common.{rules, ◌≡◌, ◌<◌, ◌≤◌, ◌∙◌, arith, length, refl, sym, ap, subst}
use Rattle.std.proofs.lemmas.Option.{IfSome_then}
use Rattle.parted_store.specs.JournalLemmas.{none_there}
use Rattle.parted_store.specs.Lent.{OpenTicket, WaitsIn}
use Rattle.table_locks.specs.GuardLemmas.{same_states, same_put, state_there}
use Rattle.table_locks.specs.Lending.{state_at}
use Rattle.table_locks.specs.StuckLemmas.{none_waits, one_waits, nowhere_within}
use Rattle.table_locks.proofs.stuck.holder_among.Goals as goal

pub loop-table-init : goal.loop-table-init
loop-table-init g c = record {
  same = same_states c.args.guards.now;
  ticket = refl;
  nowhere = none_waits c.args.guards.now c.args.ticket.now;
}

pub returns-then-is_some-clause-held : goal.returns-then-is_some-clause-held
returns-then-is_some-clause-held g c =
    let l = c.loop-table in
    let call = c.holder_at-holder in
    let room : l.table < length l.guards = search rules in
    let place = state_there l.guards l.table c.index-guards-table.result room in
    IfSome_then call.result call.ensures.held (λ holder told. (
      l.table,
      told.0,
      told.1,
      c.loop-table-test.true,
      sym (l.invariant.same.0 l.table) ∙ sym place ∙ told.2,
      told.3,
      subst (λ (t : OpenTicket). WaitsIn told.1 t.shares holder) l.invariant.ticket told.4,
    ))

pub loop-table-preserved : goal.loop-table-preserved
loop-table-preserved g c =
    let l = c.loop-table in
    let guards = c.args.guards.now in
    let call = c.holder_at-holder in
    let room : l.table < length l.guards = search rules in
    let there : state_at l.guards l.table ≡ state_at guards l.table = l.invariant.same.0 l.table in
    let place = state_there l.guards l.table c.index-guards-table.result room in
    let none = none_there call.result (sym c.is_some.ensures ∙ c.if-is_some.false) in
    record {
      same = same_put guards l.guards l.table call.new.place l.invariant.same room (call.ensures.place ∙ place);
      ticket = call.ensures.ticket ∙ l.invariant.ticket;
      nowhere =
          one_waits guards c.args.ticket.now l.table (λ s p at part holder waits.
          call.ensures.free none s p (place ∙ there ∙ at) part holder
          (subst (λ (t : OpenTicket). WaitsIn p t.shares holder) (sym l.invariant.ticket) waits)) l.invariant.nowhere;
    }

pub returns-clause-free : goal.returns-clause-free
returns-clause-free g c none =
    let l = c.loop-table in
    let ends : c.args.tables ≤ l.table = search rules in
    nowhere_within c.args.guards.now c.args.ticket.now l.table c.args.tables ends l.invariant.nowhere
