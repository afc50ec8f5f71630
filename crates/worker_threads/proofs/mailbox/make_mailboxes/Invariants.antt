-- The invariant of `make_mailboxes`'s loop.
use Rattle.std.proofs.Common.{◌≡◌, length}
use Rattle.worker_threads.proofs.mailbox.make_mailboxes.Given as goal

abbrev pub invariant-loop : goal.invariant-loop
invariant-loop g l = length l.mailboxes.items ≡ l.counter
