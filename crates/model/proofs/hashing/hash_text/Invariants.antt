use Rattle.std.proofs.Common.{◌≡◌, drop}
use Rattle.model.specs.Hashing as spec
use Rattle.model.proofs.hashing.hash_text.Given as goal

abbrev pub invariant-loop-byte : goal.invariant-loop-byte
invariant-loop-byte l = spec.hash_bytes l.hash (drop l.byte-index l.text) ≡ spec.hash_bytes l.fn.hash l.text
