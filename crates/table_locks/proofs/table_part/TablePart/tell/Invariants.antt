-- What the call appends to the table's list, which proofs alone know.
use Rattle.world_parts.specs.Lines.{commit_at}
use Rattle.table_locks.specs.Ending.{past_by}
use Rattle.table_locks.proofs.table_part.TablePart.tell.Given as goal

abbrev pub ghosts-tell_commit : goal.ghosts-tell_commit
ghosts-tell_commit g a = record { items = commit_at a.commits.now.number (past_by a.ticket.now a.info) }
