use Rattle.std.proofs.Common.{◌≡◌, drop}
use Rattle.model.specs.Hashing as spec
use Rattle.model.proofs.hashing.hash_values.Given as goal

abbrev pub invariant-loop-value : goal.invariant-loop-value
invariant-loop-value l = spec.hash_values l.hash (drop l.value-index l.values) ≡ spec.hash_of l.values
