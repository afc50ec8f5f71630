use Rattle.relcache.proofs.Lookup.{KeySoFar}
use Rattle.relcache.proofs.tuples.lookup_key.Given as goal

abbrev pub invariant-loop-field : goal.invariant-loop-field
invariant-loop-field l = KeySoFar l.fields l.tuple l.field-index l.values.items l.has_null
