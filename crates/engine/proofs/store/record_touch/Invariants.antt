-- What the call appends to its transaction's list, which proofs alone know.
use Rattle.live_tables.specs.Answers.{told_call}
use Rattle.engine.specs.Events.{touch_events}
use Rattle.engine.proofs.store.record_touch.Given as goal

abbrev pub ghosts-grow_touch : goal.ghosts-grow_touch
ghosts-grow_touch a = record { items = touch_events a.sub (told_call a.answer.now) }
