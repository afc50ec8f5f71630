use Rattle.std.proofs.Common.{sym, ap, ◌∙◌}
use Rattle.engine.specs.Events.{commits_in}
use Rattle.live_tables.specs.Journal.{rows_after}
use Rattle.live_tables.specs.JournalLemmas.{entries_are_serial}
use Rattle.leader.proofs.threads.shut.Goals as goal

pub returns-clause-shut : goal.returns-clause-shut
returns-clause-shut g c =
    let schema = g.N.StoreNames.schema in
    let start = g.N.StoreNames.start in
    let close = c.close-tables.ensures in
    record {
      journal = close.entries;
      tables = close.rows ∙ sym (ap (rows_after schema start) close.entries ∙ entries_are_serial schema start (commits_in c.args.line.list));
      schema = close.schema;
    }
