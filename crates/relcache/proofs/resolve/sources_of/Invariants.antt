use Rattle.std.proofs.Common.{◌≡◌, ◌++◌, drop}
use Rattle.relcache.specs.Mapping.{sources_of}
use Rattle.relcache.proofs.resolve.sources_of.Given as goal

-- the sources so far, before those of the columns that are left
abbrev pub invariant-loop-place : goal.invariant-loop-place
invariant-loop-place l = sources_of l.sent l.columns l.defaults ≡ l.sources.items ++ sources_of l.sent (drop l.place l.columns) (drop l.place l.defaults)
