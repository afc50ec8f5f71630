-- The names of the store and its parts.
use Rattle.table_locks.specs.Starts.{tickets_in}
use Rattle.leader.proofs.threads.run_tables.Given as goal

abbrev pub ghosts-run_made : goal.ghosts-run_made
ghosts-run_made g a = record {
  shares = tickets_in a.made;
  line = a.made.journal.part.line.name;
  tables = a.made.journal.tables.name;
  schema = a.made.blank.schema;
  start = g.B.StartRows.start;
}
