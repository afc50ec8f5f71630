-- What the call appends to its transaction's list, which proofs alone know.
use Rattle.std.proofs.Common.{[], ◌∷◌}
use Rattle.model.specs.declared.item.Item.TheVariants.{Touch}
use Rattle.engine.specs.declared.events.Event.TheVariants.{Done}
use Rattle.parted_store.proofs.touching.tell_touch.Given as goal

abbrev pub ghosts-grow_touch : goal.ghosts-grow_touch
ghosts-grow_touch a = record { items = Done (Touch a.sub) ∷ [] }
