use Rattle.std.proofs.Common.{◌≡◌}
use Rattle.std.specs.Prelude.{slice_get}
use Rattle.engine.proofs.entry.Changes.get.Given as goal

abbrev pub invariant-loop-change : goal.invariant-loop-change
invariant-loop-change l = slice_get l.change-iterator l.before ≡ slice_get l.self l.fn.index
