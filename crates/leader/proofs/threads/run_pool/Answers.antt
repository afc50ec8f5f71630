use Rattle.std.proofs.Common.{length, sym, ap, subst, ◌∙◌}
use Rattle.std.specs.Prelude.{All}
use Rattle.tokens.specs.Half.{Half}
use Rattle.engine.specs.declared.events.LineEvent.{LineEvent}
use Rattle.run.specs.Settings.{setting_of}
use Rattle.leader.specs.WithWorkers.{LeavesLine}
use Rattle.leader.specs.Watching.{KnowsRun}
use Rattle.leader.proofs.Leaving.{left_run, none_run}
use Rattle.leader.proofs.Watched.{known_at_start}
use Rattle.leader.proofs.threads.run_pool.Goals as goal

pub returns-clause-run : goal.returns-clause-run
returns-clause-run g c =
    let left = c.lead_beside-finished.result.0 in
    let ends : LeavesLine (setting_of (length c.args.mailboxes.items) c.args.config c.args.catalog.now) g.N.StoreNames.start c.args.devices.now c.lead_beside-finished.new.devices left.line.list left.position left.end
    = rw c.deref-3.ensures.value at c.lead_beside-finished.ensures.ends in
    left_run (setting_of (length c.args.mailboxes.items) c.args.config c.args.catalog.now) g.N.StoreNames.start g.N.StoreNames.schema c.args.devices.now c.lead_beside-finished.new.devices left.line.list left.position left.end c.shut_shared-2.result.0
    ends c.shut_shared-2.ensures.shut c.requires.keys c.shut_shared-2.ensures.position c.shut_shared-2.ensures.end

-- where memory was refused nothing was read, and the line is that of a new store
pub returns-in_default-clause-run : goal.returns-in_default-clause-run
returns-in_default-clause-run g c =
    none_run (setting_of (length c.args.mailboxes.items) c.args.config c.args.catalog.now) g.N.StoreNames.start g.N.StoreNames.schema c.args.devices.now c.make_watchers.new.line.list c.shut_shared.result.0
    c.shut_shared.ensures.shut c.requires.keys (ap (λ (h : Half LineEvent). h.list) c.make_watchers.ensures.line ∙ c.requires.none) c.shut_shared.ensures.position c.shut_shared.ensures.end

pub returns-in-Err-clause-run : goal.returns-in-Err-clause-run
returns-in-Err-clause-run g c =
    none_run (setting_of (length c.args.mailboxes.items) c.args.config c.args.catalog.now) g.N.StoreNames.start g.N.StoreNames.schema c.args.devices.now c.make_watchers.new.line.list c.shut.result
    c.shut.ensures.shut c.requires.keys (ap (λ (h : Half LineEvent). h.list) c.make_watchers.ensures.line ∙ c.requires.none) c.shut.ensures.position c.shut.ensures.end

-- they are handed back as they came
pub returns-in-Err-clause-knows : goal.returns-in-Err-clause-knows
returns-in-Err-clause-knows g c =
    subst (All (KnowsRun g.V.Watch.knows g.N.StoreNames.schema g.N.StoreNames.start g.L.RunNames.skip c.shut.result)) (sym (ap (λ v. v.items) c.in-Err.ensures.back))
    (known_at_start g.V.Watch.knows g.N.StoreNames.schema g.N.StoreNames.start g.L.RunNames.skip c.args.audience.watches.items c.shut.result c.requires.knows)
