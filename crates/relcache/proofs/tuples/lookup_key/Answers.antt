use Rattle.std.proofs.lemmas.Result.{err_from_is_err_and}
use Rattle.relcache.proofs.Lookup.{KeySoFar-fault, KeySoFar-value, KeySoFar-null}
use Rattle.relcache.proofs.tuples.lookup_key.Goals as goal
use Rattle.relcache.proofs.tuples.lookup_key.Goals.{in-Some+in_ok-to_value-in-Some+in_ok-push-in-Some, in-None}

pub returns-in_err-value : goal.returns-in_err-value
returns-in_err-value c =
    let fault = err_from_is_err_and c.from_residual-in_err-value.result c.from_residual-in_err-value.ensures.1 in
    rw (fault.1, fault.2) (KeySoFar-fault c.args.fields.now c.args.tuple.now c.loop-field.field-index c.loop-field.values.items c.loop-field.has_null _ _ c.loop-field-test.true c.in_err-value.ensures c.loop-field.invariant)

pub loop-field-preserved : goal.loop-field-preserved
loop-field-preserved c =
    elim c.match-branch-3.branch [
      | in-Some+in_ok-to_value-in-Some+in_ok-push-in-Some w ↦
          let gives = rw w.in-Some.is at c.in_ok-value.ensures in
          rw (w.values-is, w.has_null-is, w.in_ok-push-in-Some.ensures.items, w.in_ok-to_value-in-Some.ensures) (KeySoFar-value c.args.fields.now c.args.tuple.now c.loop-field.field-index c.loop-field.values.items c.loop-field.has_null _ _ c.loop-field-test.true gives c.loop-field.invariant)
      | in-None w ↦
          let gives = rw w.in-None.is at c.in_ok-value.ensures in
          rw (w.values-is, w.has_null-is) (KeySoFar-null c.args.fields.now c.args.tuple.now c.loop-field.field-index c.loop-field.values.items c.loop-field.has_null _ c.loop-field-test.true gives c.loop-field.invariant)
    ]
