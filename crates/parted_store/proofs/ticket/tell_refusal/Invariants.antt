-- What the call appends to its transaction's list, which proofs alone know.
use Rattle.live_tables.specs.Answers.{told_fault}
use Rattle.engine.specs.Events.{refusal_events}
use Rattle.parted_store.proofs.ticket.tell_refusal.Given as goal

abbrev pub ghosts-grow_refusal : goal.ghosts-grow_refusal
ghosts-grow_refusal a = record { items = refusal_events (told_fault a.fault.now) }
