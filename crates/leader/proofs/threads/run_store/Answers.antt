use Rattle.std.proofs.Common.{length, sym, ap, subst}
use Rattle.std.specs.Prelude.{All}
use Rattle.run.specs.Settings.{setting_of}
use Rattle.leader.specs.Watching.{KnowsRun}
use Rattle.leader.proofs.Leaving.{none_run}
use Rattle.leader.proofs.Watched.{known_at_start}
use Rattle.leader.proofs.threads.run_store.Goals as goal

pub returns-in-Err-clause-run : goal.returns-in-Err-clause-run
returns-in-Err-clause-run g c =
    none_run (setting_of (length c.args.gates.items) c.args.config.now c.args.catalog.now) g.N.StoreNames.start g.N.StoreNames.schema c.args.devices.now c.args.line.list c.shut-outcome.result
    c.shut-outcome.ensures.shut c.requires.keys c.requires.none c.shut-outcome.ensures.position c.shut-outcome.ensures.end

-- they are handed back as they came
pub returns-in-Err-clause-knows : goal.returns-in-Err-clause-knows
returns-in-Err-clause-knows g c =
    subst (All (KnowsRun g.V.Watch.knows g.N.StoreNames.schema g.N.StoreNames.start c.args.audience.loader.skip c.shut-outcome.result)) (sym (ap (λ v. v.items) c.into_watches.ensures))
    (known_at_start g.V.Watch.knows g.N.StoreNames.schema g.N.StoreNames.start c.args.audience.loader.skip c.args.audience.watches.items c.shut-outcome.result c.requires.knows)
