-- What the call appends to its transaction's list, which proofs alone know.
use Rattle.engine.specs.Events.{tried_events}
use Rattle.engine.proofs.as_part.record_try.Given as goal

abbrev pub ghosts-grow_try : goal.ghosts-grow_try
ghosts-grow_try a = record { items = tried_events a.sub a.c.now a.answer.now }
