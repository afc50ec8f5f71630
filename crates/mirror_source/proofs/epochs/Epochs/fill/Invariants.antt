use Rattle.std.proofs.Common.{◌≡◌}
use Rattle.mirror_source.proofs.epochs.Epochs.fill.Given as goal

abbrev pub invariant-loop : goal.invariant-loop
invariant-loop g l = record {
  left : l.self.left ≡ l.fn.self.left;
  failures : l.self.failures ≡ l.fn.self.failures;
}
