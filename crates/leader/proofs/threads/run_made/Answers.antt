use Rattle.std.proofs.Common.{[], length, refl, sym, ap, subst, ◌∙◌}
use Rattle.std.specs.Prelude.{All}
use Rattle.model.specs.Rows.{Schema}
use Rattle.run.specs.Settings.{setting_of}
use Rattle.world_parts.specs.ByTable.{rows_at}
use Rattle.table_locks.specs.Starts.{AreOver, AreKnown, AreNames}
use Rattle.leader.specs.Watching.{KnowsRun}
use Rattle.leader.proofs.Leaving.{shut_at_start, none_run}
use Rattle.leader.proofs.Watched.{known_at_start}
use Rattle.leader.proofs.threads.run_made.Goals as goal

-- it is handed back as it was made
pub into_tables-requires : goal.into_tables-requires
into_tables-requires g c =
    let N = g.N.StoreNames in
    let is = subst (AreNames N.shares N.line N.tables N.schema N.start) (sym c.in-Err.ensures) c.requires.names in
    record {
      over = (λ number. rows_at number N.start, subst (λ (keys : Schema). AreOver keys (λ number. rows_at number N.start) c.in-Err.made.tables) (sym is.keys) is.over);
      long = is.long ∙ ap (λ (keys : Schema). length keys) (sym is.keys);
    }

pub returns-in-Err-clause-run : goal.returns-in-Err-clause-run
returns-in-Err-clause-run g c =
    let N = g.N.StoreNames in
    let is = subst (AreNames N.shares N.line N.tables N.schema N.start) (sym c.in-Err.ensures) c.requires.names in
    let left = c.unread.ensures in
    let back = c.into_tables.ensures in
    let rows =
    back.rows N.start (subst (λ (keys : Schema). AreOver keys (λ number. rows_at number N.start) c.in-Err.made.tables) (sym is.keys) is.over)
    (subst (λ (keys : Schema). AreKnown keys N.start) (sym is.keys) is.known) in
    none_run (setting_of (length c.args.gates.items) c.args.config.now c.args.catalog.now) N.start N.schema c.args.devices.now [] c.unread.result
    (shut_at_start N.schema N.start c.unread.result left.journal (ap (λ t. t.rows) left.tables ∙ rows) (ap (λ t. t.schema) left.tables ∙ back.schema ∙ is.keys))
    c.requires.keys refl left.position left.end

pub returns-in-Err-clause-knows : goal.returns-in-Err-clause-knows
returns-in-Err-clause-knows g c =
    subst (All (KnowsRun g.V.Watch.knows g.N.StoreNames.schema g.N.StoreNames.start c.args.audience.loader.skip c.unread.result)) (sym (ap (λ v. v.items) c.into_watches.ensures))
    (known_at_start g.V.Watch.knows g.N.StoreNames.schema g.N.StoreNames.start c.args.audience.loader.skip c.args.audience.watches.items c.unread.result c.requires.knows)
