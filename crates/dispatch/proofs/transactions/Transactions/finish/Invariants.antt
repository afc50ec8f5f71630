use Rattle.std.proofs.Common.{◌≡◌}
use Rattle.dispatch.proofs.transactions.Transactions.finish.Given as goal

abbrev pub invariant-loop : goal.invariant-loop
invariant-loop g l = l.self ≡ l.initial.self
