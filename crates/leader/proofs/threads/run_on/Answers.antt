use Rattle.std.proofs.Common.{◌≡◌, ◌+◌, ◌<◌, ◌≤◌, [], ℕ, List, length, map, min, refl, sym, ap, subst, ◌∙◌, arith}
use Rattle.std.specs.Prelude.{All}
use Rattle.std.proofs.lemmas.Grind.{common_steps}
use Rattle.std.proofs.lemmas.List.{length-map, length-take}
use Rattle.model.specs.Definition.{Definition}
use Rattle.model.specs.Rows.{Rows, Schema, keys_of}
use Rattle.run.specs.Settings.{setting_of}
use Rattle.run.specs.declared.end.End.TheVariants as ends
use Rattle.run.specs.declared.outcome.Config.{Config}
use Rattle.run.specs.declared.outcome.Outcome.{Outcome}
use Rattle.run.specs.Devices.{DeviceState}
use Rattle.leader.specs.WithWorkers.{IsRunByWorkers, RunsBy}
use Rattle.leader.specs.Watching.{KnowsStart, KnowsRun}
use Rattle.leader.proofs.Leaving.{shut_at_start, none_run, runs_by}
use Rattle.leader.proofs.Watched.{known_at_start}
use Rattle.leader.proofs.threads.run_on.Goals as goal
use Rattle.leader.proofs.threads.run_on.Goals.{else-is_empty-via-then-is_empty+else-is_empty-2, else-is_empty-via-else-is_empty}

-- a run that ended before a byte was read
unread_run : (n v : ℕ) (catalog : List Definition) (config : Config) (keys : Schema) (rows : Rows) (devices : DeviceState) (o : Outcome) → 0 < n + v
    → o.journal.items ≡ [] → o.tables.rows ≡ rows → o.tables.schema ≡ keys → keys ≡ map keys_of catalog → o.position ≡ 0 → o.end ≡ ends.OutOfMemory
    → RunsBy n v catalog config rows devices devices o
unread_run n v catalog config keys rows devices o some none tables schema same position end =
    runs_by n v catalog config rows devices devices o some
    (none_run (setting_of n config catalog) rows keys devices [] o (shut_at_start keys rows o none tables schema) same refl position end)

pub returns-in-Err-clause-run : goal.returns-in-Err-clause-run
returns-in-Err-clause-run g c =
    let n = min c.args.config.now.workers (length c.args.gates.items) in
    let v = length c.args.watchers.items in
    let count : length c.truncate.new.self.items ≡ n = ap length c.truncate.ensures.items ∙ length-take c.args.config.now.workers c.args.gates.items in
    let some : 0 < n + v = elim c.else-is_empty.branch [
      | else-is_empty-via-then-is_empty+else-is_empty-2 w ↦ grind (arith, common_steps, w.if-is_empty-2)
      | else-is_empty-via-else-is_empty w ↦ grind (arith, common_steps, count, w.if-is_empty)
    ] in
    unread_run n v c.args.catalog.now c.args.config.now c.args.start.schema c.args.start.rows c.args.devices.now c.unread.result some
    c.unread.ensures.journal (ap (λ t. t.rows) c.unread.ensures.tables) (ap (λ t. t.schema) c.unread.ensures.tables) c.requires.catalog c.unread.ensures.position c.unread.ensures.end

pub returns-in-Err-clause-knows : goal.returns-in-Err-clause-knows
returns-in-Err-clause-knows g c =
    rw c.in-Err.ensures.back
    (known_at_start g.V.Watch.knows c.args.start.schema c.args.start.rows c.args.config.now.skip c.args.watchers.items c.unread.result c.requires.knows)

-- a catalog has few tables
pub run_tables-requires-clause-few : goal.run_tables-requires-clause-few
run_tables-requires-clause-few g c = λ lives within.
    subst (λ n. n ≤ 1024) (sym (ap length c.requires.catalog ∙ length-map c.args.catalog.now keys_of)) c.tables-tables.ensures.valid.tables_limit

pub run_tables-requires-clause-knows : goal.run_tables-requires-clause-knows
run_tables-requires-clause-knows g c = λ lives within.
    subst (λ skip. All (KnowsStart g.V.Watch.knows c.args.start.schema c.args.start.rows skip) c.in-Ok.audience.watches.items) (sym c.in-Ok.ensures.skip)
    (subst (All (KnowsStart g.V.Watch.knows c.args.start.schema c.args.start.rows c.args.config.now.skip)) (sym (ap (λ ws. ws.items) c.in-Ok.ensures.watches)) c.requires.knows)

pub returns-clause-run : goal.returns-clause-run
returns-clause-run g c =
    let n = min c.args.config.now.workers (length c.args.gates.items) in
    let v = length c.args.watchers.items in
    let count : length c.truncate.new.self.items ≡ n = ap length c.truncate.ensures.items ∙ length-take c.args.config.now.workers c.args.gates.items in
    let some : 0 < n + v = elim c.else-is_empty.branch [
      | else-is_empty-via-then-is_empty+else-is_empty-2 w ↦ grind (arith, common_steps, w.if-is_empty-2)
      | else-is_empty-via-else-is_empty w ↦ grind (arith, common_steps, count, w.if-is_empty)
    ] in
    runs_by n v c.args.catalog.now c.args.config.now c.args.start.rows c.args.devices.now c.run_tables.new.devices c.run_tables.result.0 some
    (subst (λ m. IsRunByWorkers (setting_of m c.args.config.now c.args.catalog.now) c.args.start.rows c.args.devices.now c.run_tables.new.devices c.run_tables.result.0) count
    c.run_tables.ensures.run)

pub returns-clause-knows : goal.returns-clause-knows
returns-clause-knows g c =
    subst (λ skip. All (KnowsRun g.V.Watch.knows c.args.start.schema c.args.start.rows skip c.run_tables.result.0) c.run_tables.result.1.items) c.in-Ok.ensures.skip
    c.run_tables.ensures.knows
