-- What the call appends to its transaction's list, which proofs alone know.
use Rattle.std.proofs.Common.{[], ◌∷◌}
use Rattle.model.specs.declared.item.Item.TheVariants.{BackTo}
use Rattle.engine.specs.declared.events.Event.TheVariants.{Done}
use Rattle.parted_store.proofs.back.tell_back.Given as goal

abbrev pub ghosts-grow_back : goal.ghosts-grow_back
ghosts-grow_back a = record { items = Done (BackTo a.sub) ∷ [] }
