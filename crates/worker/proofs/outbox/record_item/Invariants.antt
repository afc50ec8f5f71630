-- What is listed, which proofs alone know.
use Rattle.std.proofs.Common.{[], ◌∷◌}
use Rattle.worker.specs.declared.outbox.OutboxEvent.TheVariants.{Given}
use Rattle.worker.proofs.outbox.record_item.Given as goal

abbrev pub ghosts-grow_item : goal.ghosts-grow_item
ghosts-grow_item g a = record { items = Given a.item.now ∷ [] }
