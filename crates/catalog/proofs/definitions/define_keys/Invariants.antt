use Rattle.std.proofs.Common.{◌≡◌, map, take}
use Rattle.catalog.specs.Definitions.{key_from}
use Rattle.catalog.proofs.definitions.define_keys.Given as goal

abbrev pub invariant-loop-key : goal.invariant-loop-key
invariant-loop-key l = l.definitions.items ≡ map (key_from l.columns) (take l.key-index l.keys)
