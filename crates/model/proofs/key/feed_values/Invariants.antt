use Rattle.std.proofs.Common.{◌≡◌, drop}
use Rattle.std.specs.List.{fold}
use Rattle.model.specs.HasherInput.{key_writes}
use Rattle.model.proofs.key.feed_values.Given as goal

-- the values that are left lead to where all of them lead
abbrev pub invariant-loop-value : goal.invariant-loop-value
invariant-loop-value g l = fold g.S.Hasher.write l.state (key_writes (drop l.value-index l.values)) ≡ fold g.S.Hasher.write l.fn.state (key_writes l.values)
