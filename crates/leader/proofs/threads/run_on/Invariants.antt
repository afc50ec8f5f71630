-- The name of the rows with which the run starts.
use Rattle.leader.proofs.threads.run_on.Given as goal

abbrev pub ghosts-run_tables : goal.ghosts-run_tables
ghosts-run_tables g a = record { start = a.start.rows }
