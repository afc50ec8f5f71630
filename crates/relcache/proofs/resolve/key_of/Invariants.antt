use Rattle.relcache.specs.Mapping.{key_field_at}
use Rattle.relcache.proofs.Each.{EachSoFar}
use Rattle.relcache.proofs.resolve.key_of.Given as goal

abbrev pub invariant-loop-number : goal.invariant-loop-number
invariant-loop-number l = EachSoFar (key_field_at l.sent l.columns) l.numbers l.number-index l.fields.items
