use Rattle.std.proofs.Common.{subst}
use Rattle.table_locks.specs.Journals.{JournalState}
use Rattle.table_locks.specs.Reading.{told_world, HasState}
use Rattle.table_locks.specs.ReadingLemmas.{state_told}
use Rattle.table_locks.proofs.journal.Journal.meet_table.Goals as goal

pub returns-clause-has : goal.returns-clause-has
returns-clause-has g c =
    let n = g.N.StoreNames in
    let s = c.args.table.now in
    subst (λ (j : JournalState). HasState (told_world n.schema n.start j.part.line.list s) s) c.self.view_is
    (state_told n.shares n.tables n.schema n.start s c.recall_invariant.ensures n.line n.tables _ c.self.invariant c.meet.ensures.listed)
