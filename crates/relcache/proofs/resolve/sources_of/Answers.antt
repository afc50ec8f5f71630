use Rattle.relcache.proofs.Sources.{sources_of-next}
use Rattle.relcache.proofs.resolve.sources_of.Goals as goal

pub loop-place-preserved : goal.loop-place-preserved
loop-place-preserved c =
    let is_source = rw c.default_at.ensures at c.in_ok-source.ensures in
    rw (c.in_ok-push.ensures.items, is_source) (sources_of-next c.args.sent.now c.columns-columns.result.now c.defaults-defaults.result.now c.loop-place.place c.index-columns-place.result c.loop-place.sources.items _ c.loop-place-test.true c.index-columns-place.is c.loop-place.invariant)
