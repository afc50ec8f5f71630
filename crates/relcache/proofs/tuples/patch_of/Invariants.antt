use Rattle.relcache.specs.Planning.{column_patch}
use Rattle.relcache.proofs.Each.{EachSoFar}
use Rattle.relcache.proofs.tuples.patch_of.Given as goal

abbrev pub invariant-loop-source : goal.invariant-loop-source
invariant-loop-source l = EachSoFar (column_patch l.tuple) l.sources l.source-index l.patch
