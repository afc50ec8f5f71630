use Rattle.std.proofs.Common.{◌≡◌, Some, refl, subst}
use Rattle.table_parts.specs.Part.{Part}
use Rattle.table_locks.specs.Journals.{JournalState}
use Rattle.table_locks.specs.TableStates.{TableState, Fits}
use Rattle.table_locks.specs.Whole.{HasAll, IsMetIn}
use Rattle.table_locks.proofs.journal.Journal.meet_in.Goals as goal

pub returns-clause-met : goal.returns-clause-met
returns-clause-met g c =
    let n = g.N.StoreNames in
    let s : TableState = c.args.table.now in
    let told =
    subst (λ (t : TableState). (p : Part) × (t.part ≡ Some p) × Fits n.shares n.tables n.schema n.start t p × HasAll c.args.tickets.now p)
    c.meet.ensures.same c.meet_tickets.ensures.part in (
      told.0,
      subst (λ (j : JournalState). IsMetIn n.shares n.tables n.schema n.start j.part.line.list c.args.tickets.now s.number s told.0) c.self.view_is
          (record {
            number = refl;
            part = told.1;
            fits = told.2;
            commits = c.self.invariant.lists s.number s.commits.list c.meet.ensures.listed;
            has = told.3;
          }),
    )
