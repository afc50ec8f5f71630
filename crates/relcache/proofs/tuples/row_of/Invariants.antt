use Rattle.relcache.specs.Planning.{column_value}
use Rattle.relcache.proofs.Each.{EachSoFar}
use Rattle.relcache.proofs.tuples.row_of.Given as goal

abbrev pub invariant-loop-source : goal.invariant-loop-source
invariant-loop-source l = EachSoFar (column_value l.tuple) l.sources l.source-index l.row
