use Rattle.std.proofs.Common.{◌≡◌, ◌+◌, length}
use Rattle.engine.proofs.entry.Changes.len.Given as goal

abbrev pub invariant-loop-change : goal.invariant-loop-change
invariant-loop-change l = l.count + length l._change-iterator ≡ length l.self
