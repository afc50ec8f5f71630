-- What the call appends to its transaction's list, which proofs alone know.
use Rattle.std.proofs.Common.{[], ◌∷◌}
use Rattle.engine.specs.declared.events.Event.TheVariants.{Wants}
use Rattle.parted_store.proofs.clashing.tell_wanted.Given as goal

abbrev pub ghosts-grow_wanted : goal.ghosts-grow_wanted
ghosts-grow_wanted a = record { items = Wants a.sub a.c.now ∷ [] }
