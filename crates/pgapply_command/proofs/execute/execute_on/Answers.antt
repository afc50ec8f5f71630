use Rattle.std.proofs.Common.{◌≡◌, ℕ, List, length, min, refl, sym, ap, subst, ◌∙◌, arith, inl, inr}
use Rattle.std.specs.FinMap as finite
use Rattle.model.specs.Rows.{Rows}
use Rattle.model.specs.Definition.{Definition}
use Rattle.run.specs.declared.outcome.Config.{Config}
use Rattle.run.specs.declared.outcome.Outcome.{Outcome}
use Rattle.run.specs.Devices.{DeviceState}
use Rattle.leader.specs.WithWorkers.{RunsBy}
use Rattle.pgapply_command.specs.Ending.{HasRun, workers_of}
use Rattle.pgapply_command.proofs.execute.execute_on.Goals as goal
use Rattle.pgapply_command.proofs.execute.execute_on.Goals.{then-spooled, else-spooled}

-- a run by as many workers from the same rows, over the same devices, that nobody watched
same_run : (n m v : ℕ) (catalog : List Definition) (config : Config) (rows first : Rows) (old new left : DeviceState) (o outcome : Outcome) → m ≡ n → v ≡ 0 → rows ≡ first → left ≡ new → outcome ≡ o
    → RunsBy n v catalog config rows old new o → RunsBy m 0 catalog config first old left outcome
same_run n m v catalog config rows first old new left o outcome count none from devices is run =
    subst (λ (k : ℕ). RunsBy k 0 catalog config first old left outcome) (sym count)
    (subst (λ (w : ℕ). RunsBy n w catalog config first old left outcome) none
    (subst (λ (r : Rows). RunsBy n v catalog config r old left outcome) from
    (subst (λ (d : DeviceState). RunsBy n v catalog config rows old d outcome) (sym devices)
    (subst (λ (p : Outcome). RunsBy n v catalog config rows old new p) (sym is) run))))

pub returns : goal.returns
returns g c =
    let config = c.args.config.now in
    let run : RunsBy (workers_of c.args.spooled config) 0 c.in-Ok.catalog config finite.empty c.args.devices.now c.if-spooled.devices c.if-spooled.outcome = elim c.if-spooled.branch [
      | then-spooled w ↦ same_run 0 (workers_of c.args.spooled config) 0 c.in-Ok.catalog config c.in-Ok-empty_tables.start.rows finite.empty c.args.devices.now w.run_spooled_on-outcome.new.devices c.if-spooled.devices w.run_spooled_on-outcome.result c.if-spooled.outcome
          (ap (λ b. workers_of b config) w.if-spooled.true) refl c.in-Ok-empty_tables.ensures.rows w.devices-is w.outcome-is w.run_spooled_on-outcome.ensures
      | else-spooled w ↦
          let count : config.workers ≡ min config.workers (length c.in-Ok-open_gates.gates.items) = omega (arith, c.in-Ok-open_gates.ensures) in
          same_run (min config.workers (length c.in-Ok-open_gates.gates.items)) (workers_of c.args.spooled config) (length w.new-watchers.result.items) c.in-Ok.catalog config c.in-Ok-empty_tables.start.rows finite.empty c.args.devices.now w.run_on-outcome.new.devices c.if-spooled.devices w.run_on-outcome.result.0 c.if-spooled.outcome
          (ap (λ b. workers_of b config) w.if-spooled.false ∙ count) (ap length w.new-watchers.ensures.items) c.in-Ok-empty_tables.ensures.rows w.devices-is w.outcome-is w.run_on-outcome.ensures.run
    ] in
    let ran : HasRun (λ definitions outcome. ∥ g.L.Hearer.has_heard_end definitions outcome c.hear_end.new.self ∥₁) (workers_of c.args.spooled config) c.args.catalog.now config c.args.devices.now c.if-spooled.devices = record {
      definitions = c.in-Ok.catalog;
      catalog = c.in-Ok.ensures.catalog;
      outcome = c.if-spooled.outcome;
      run = run;
      heard = c.hear_end.ensures;
    } in
    elim c.tell-ended.ensures [
      | inl told ↦ inr (inl (record { ran = ran; told = record { report = told.report; said = told.said } }))
      | inr none ↦ inr (inr (record { when = inr ran; said = none }))
    ]
