use Rattle.std.proofs.Common.{[], length, refl, sym, ap, subst, ◌∙◌}
use Rattle.std.specs.Prelude.{All}
use Rattle.model.specs.Rows.{Rows, Schema, IsValid}
use Rattle.run.specs.Settings.{setting_of}
use Rattle.world_parts.specs.ByTable.{rows_at}
use Rattle.table_locks.specs.StartLemmas.{can_name}
use Rattle.table_locks.specs.Starts.{AreOver, AreKnown}
use Rattle.leader.specs.WithWorkers.{IsRunByWorkers}
use Rattle.leader.specs.Watching.{KnowsStart, KnowsRun}
use Rattle.leader.proofs.Leaving.{shut_at_start, none_run}
use Rattle.leader.proofs.Watched.{known_at_start}
use Rattle.leader.proofs.threads.run_tables.Goals as goal

pub run_made-requires-clause-names : goal.run_made-requires-clause-names
run_made-requires-clause-names g c = λ lives within.
    let made = c.in-Ok.ensures in
    let m = c.in-Ok.made in
    let rows = g.B.StartRows.start in
    can_name m.blank.schema rows m
    (subst (λ (keys : Schema). AreOver keys (λ number. rows_at number rows) m.tables) (sym made.blank)
    (subst (λ (start : Rows). AreOver c.args.start.schema (λ number. rows_at number start) m.tables) c.requires.start made.over))
    (made.long ∙ ap (λ (keys : Schema). length keys) (sym made.blank)) refl
    (subst (λ (keys : Schema). AreKnown keys rows) (sym made.blank) (subst (AreKnown c.args.start.schema) c.requires.start c.of_tables.ensures.known))

pub run_made-requires-clause-valid : goal.run_made-requires-clause-valid
run_made-requires-clause-valid g c = λ lives within.
    subst (λ (keys : Schema). IsValid keys g.B.StartRows.start) (sym c.in-Ok.ensures.blank) (subst (IsValid c.args.start.schema) c.requires.start c.requires.valid)

pub run_made-requires-clause-knows : goal.run_made-requires-clause-knows
run_made-requires-clause-knows g c = λ lives within.
    let Knows : Schema → Rows → Type 0 = λ keys rows. All (KnowsStart g.V.Watch.knows keys rows c.args.audience.loader.skip) c.args.audience.watches.items in
    subst (λ (keys : Schema). Knows keys g.B.StartRows.start) (sym c.in-Ok.ensures.blank) (subst (Knows c.args.start.schema) c.requires.start c.requires.knows)

pub returns-in-Ok-clause-run : goal.returns-in-Ok-clause-run
returns-in-Ok-clause-run g c =
    subst (λ (rows : Rows). IsRunByWorkers (setting_of (length c.args.gates.items) c.args.config.now c.args.catalog.now) rows c.args.devices.now c.run_made.new.devices c.run_made.result.0)
    (sym c.requires.start) c.run_made.ensures.run

pub returns-in-Ok-clause-knows : goal.returns-in-Ok-clause-knows
returns-in-Ok-clause-knows g c =
    let Knows : Schema → Rows → Type 0 = λ keys rows. All (KnowsRun g.V.Watch.knows keys rows c.args.audience.loader.skip c.run_made.result.0) c.run_made.result.1.items in
    subst (Knows c.args.start.schema) (sym c.requires.start) (subst (λ (keys : Schema). Knows keys g.B.StartRows.start) c.in-Ok.ensures.blank c.run_made.ensures.knows)

-- memory was refused: the tables are left as they came
pub returns-in-Err-clause-run : goal.returns-in-Err-clause-run
returns-in-Err-clause-run g c =
    let left = c.unread.ensures in
    none_run (setting_of (length c.args.gates.items) c.args.config.now c.args.catalog.now) c.args.start.rows c.args.start.schema c.args.devices.now [] c.unread.result
    (shut_at_start c.args.start.schema c.args.start.rows c.unread.result left.journal (ap (λ t. t.rows) left.tables ∙ c.in-Err.ensures.rows) (ap (λ t. t.schema) left.tables ∙ c.in-Err.ensures.schema))
    c.requires.keys refl left.position left.end

pub returns-in-Err-clause-knows : goal.returns-in-Err-clause-knows
returns-in-Err-clause-knows g c =
    subst (All (KnowsRun g.V.Watch.knows c.args.start.schema c.args.start.rows c.args.audience.loader.skip c.unread.result)) (sym (ap (λ v. v.items) c.into_watches.ensures))
    (known_at_start g.V.Watch.knows c.args.start.schema c.args.start.rows c.args.audience.loader.skip c.args.audience.watches.items c.unread.result c.requires.knows)
