use Rattle.std.proofs.Common.{◌≡◌, ◌∙◌, List, [], sym, ap, subst}
use Rattle.tokens.specs.Half.{Half}
use Rattle.world_parts.specs.Lines.{line_at}
use Rattle.engine.specs.declared.events.LineEvent.{LineEvent}
use Rattle.engine.specs.Events.{commits_in}
use Rattle.parted_store.specs.Journal.{JournalPart}
use Rattle.parted_store.specs.Lent.{OpenTicket}
use Rattle.table_locks.specs.GuardLemmas.{noted_before}
use Rattle.table_locks.specs.Noted.{TellsStill}
use Rattle.table_locks.specs.Whole.{AreAllOpen, AreMetIn, IsNotedBy}
use Rattle.table_locks.proofs.journal.Journal.meet_whole.Goals as goal

pub returns-clause-whole : goal.returns-clause-whole
returns-clause-whole g c =
    let n = g.N.StoreNames in
    let guards = c.args.guards.now in
    let tickets = c.args.tickets.now in
    let line_is : c.meet.new.self.line.list ≡ c.args.line.now.list =
    ap (λ (j : JournalPart). j.line.list) c.meet.ensures.same ∙ ap (λ (h : Half LineEvent). h.list) (sym c.meet.ensures.met) in
    let told = c.meet_stop-noted.ensures.noted in (
      told.0,
      told.1,
      record {
        tickets_are = c.recall_each.ensures;
        open_are = subst (λ (line : List LineEvent). AreAllOpen line tickets) line_is (c.are_all_open.ensures c.if-not-are_all_open.false);
        met = subst (λ (line : List LineEvent). AreMetIn n.shares n.tables n.schema n.start line tickets guards) line_is c.meet_tables.ensures.met;
        beyond = λ table past.
            subst (λ (line : Half LineEvent). line_at table (commits_in line.list) ≡ []) (sym c.meet.ensures.met) (c.self.invariant.beyond table past);
        noted =
            subst (λ count. IsNotedBy count tickets guards told.0) c.requires.tables
            (noted_before c.args.tables tickets guards c.meet_tables.new.guards told.0 c.meet_tables.ensures.guards
            (subst (λ (ts : List OpenTicket). IsNotedBy c.args.tables ts c.meet_tables.new.guards told.0) c.meet_tables.ensures.tickets told.2));
      },
      subst (λ (ts : List OpenTicket). TellsStill ts told.0 c.meet_stop-noted.result) c.meet_tables.ensures.tickets told.3,
    )
