use Rattle.std.proofs.Common.{rules, ◌≡◌, ◌<◌, ◌∙◌, Some, length, refl, sym, subst}
use Rattle.std.specs.Prelude.{List}
use Rattle.table_parts.specs.Part.{Part}
use Rattle.parted_store.specs.Lent.{OpenTicket}
use Rattle.table_locks.specs.GuardLemmas.{same_states, same_put, state_there, none_met, one_met}
use Rattle.table_locks.specs.Journals.{JournalState}
use Rattle.table_locks.specs.Lending.{state_at}
use Rattle.table_locks.specs.TableStates.{TableState}
use Rattle.table_locks.specs.Whole.{AreTickets, IsMetIn}
use Rattle.table_locks.proofs.journal.Journal.meet_tables.Goals as goal

pub loop-table-init : goal.loop-table-init
loop-table-init g c =
    let n = g.N.StoreNames in
    record {
      same = same_states c.args.guards.now;
      journal = refl;
      tickets = refl;
      met = none_met n.shares n.tables n.schema n.start c.args.self.now.part.line.list c.args.tickets.now c.args.guards.now;
    }

pub meet_place_in-requires-clause-tickets : goal.meet_place_in-requires-clause-tickets
meet_place_in-requires-clause-tickets g c =
    subst (AreTickets g.N.StoreNames.shares g.N.StoreNames.schema) (sym c.loop-table.invariant.tickets) c.requires.tickets

pub loop-table-preserved : goal.loop-table-preserved
loop-table-preserved g c =
    let n = g.N.StoreNames in
    let l = c.loop-table in
    let guards = c.args.guards.now in
    let line = c.args.self.now.part.line.list in
    let tickets = c.args.tickets.now in
    let room : l.table < length l.guards = search rules in
    let there : state_at l.guards l.table ≡ state_at guards l.table = l.invariant.same.0 l.table in
    let place = state_there l.guards l.table c.index-guards-table.result room in
    let met : (s : TableState) → state_at guards l.table ≡ Some s → (p : Part) × IsMetIn n.shares n.tables n.schema n.start line tickets s.number s p =
    λ s at.
    subst (λ (j : JournalState). (p : Part) × IsMetIn n.shares n.tables n.schema n.start j.part.line.list tickets s.number s p) l.invariant.journal
    (subst (λ (ts : List OpenTicket). (p : Part) × IsMetIn n.shares n.tables n.schema n.start l.self.part.line.list ts s.number s p) l.invariant.tickets
    (c.meet_place_in.ensures.met s (place ∙ there ∙ at))) in
    record {
      same = same_put guards l.guards l.table c.meet_place_in.new.place l.invariant.same room (c.meet_place_in.ensures.place ∙ place);
      journal = c.meet_place_in.ensures.same ∙ l.invariant.journal;
      tickets = c.meet_place_in.ensures.tickets ∙ l.invariant.tickets;
      met =
          one_met n.shares n.tables n.schema n.start line tickets guards l.table (c.requires.locked l.table c.loop-table-test.true) met
          l.invariant.met;
    }
