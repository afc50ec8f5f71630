use Rattle.std.proofs.Common.{◌≡◌, drop}
use Rattle.relcache.specs.Mapping.{has_twice}
use Rattle.relcache.proofs.resolve.has_twice.Given as goal

-- no column before this one is published again
abbrev pub invariant-loop-place : goal.invariant-loop-place
invariant-loop-place l = has_twice l.sent ≡ has_twice (drop l.place l.sent)
