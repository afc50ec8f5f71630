-- What the call appends to its transaction's list, which proofs alone know.
use Rattle.engine.specs.Events.{events_of}
use Rattle.parted_store.specs.Acting.{as_told}
use Rattle.parted_store.proofs.acting.tell.Given as goal

abbrev pub ghosts-grow_act : goal.ghosts-grow_act
ghosts-grow_act a = record { items = events_of a.sub a.c.now (as_told a.answer.now) }
