use Rattle.relcache.proofs.Fitting.{resolved-fits}
use Rattle.relcache.proofs.cache.RelCache.resolve.Goals as goal

pub returns-clause-fits : goal.returns-clause-fits
returns-clause-fits c =
    let is_resolved = rw c.tables.ensures.value at c.in_ok-mapping.ensures in
    rw c.in_ok-new.ensures.ok (resolved-fits c.args.cat.now c.args.self.now c.args.oid _ is_resolved)
