-- What the call appends to the line, which proofs alone know.
use Rattle.std.proofs.Common.{[], ◌∷◌}
use Rattle.engine.specs.declared.events.LineEvent.TheVariants.{Committed}
use Rattle.engine.specs.Events.{opened_by}
use Rattle.parted_store.proofs.journal.tell_commit.Given as goal

abbrev pub ghosts-grow_commit : goal.ghosts-grow_commit
ghosts-grow_commit a = record { items = Committed a.xid (opened_by a.events.now).items a.info ∷ [] }
