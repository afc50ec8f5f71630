use Rattle.std.proofs.Common.{◌≡◌, ℕ, List, [], length, min, refl, sym, ap, subst}
use Rattle.std.specs.Prelude.{All}
use Rattle.std.proofs.lemmas.List.Elements.{All-cons, All-nil}
use Rattle.std.specs.FinMap as finite
use Rattle.model.specs.Rows.{Rows}
use Rattle.catalog.specs.Definition.{Definition}
use Rattle.run.specs.declared.end.End.TheVariants.{Clean}
use Rattle.run.specs.declared.outcome.Config.{Config}
use Rattle.run.specs.declared.outcome.Outcome.{Outcome}
use Rattle.run.specs.Devices.{DeviceState}
use Rattle.leader.specs.WithWorkers.{RunsBy}
use Rattle.leader.specs.Watching.{KnowsStart}
use Rattle.cache_example.specs.Accounts.{IsKeptFrom}
use Rattle.cache_example.proofs.keep.Goals as goal

-- a run with one gate and one desk, from empty tables
kept : (n v : ℕ) (definitions : List Definition) (config : Config) (rows : Rows) (given left : DeviceState) (o : Outcome) → n ≡ 1 → v ≡ 1 → rows ≡ finite.empty
    → RunsBy (min config.workers n) v definitions config rows given left o → o.end ≡ Clean → IsKeptFrom (min config.workers 1) 1 definitions config given o.tables.rows
kept n v definitions config rows given left o gate desk none run clean = record {
  left = left;
  outcome = o;
  run = subst (λ (k : ℕ). RunsBy (min config.workers k) 1 definitions config finite.empty given left o) gate
      (subst (λ (k : ℕ). RunsBy (min config.workers n) k definitions config finite.empty given left o) desk
      (subst (λ (r : Rows). RunsBy (min config.workers n) v definitions config r given left o) none run));
  clean = clean;
  same = refl;
}

-- the desk knows whatever reader it is lent
pub run-outcome-requires-clause-knows : goal.run-outcome-requires-clause-knows
run-outcome-requires-clause-knows g c = λ lifetimes within.
    let Starts = KnowsStart g.D.Watch.knows c.in_ok-start.start.schema c.in_ok-start.start.rows c.args.config.now.skip in
    subst (All Starts) (sym c.in_ok-desks.ensures) (All-cons Starts c.args.desk [] (λ s unseen. c.requires s) (All-nil Starts))

pub returns-in-Clean : goal.returns-in-Clean
returns-in-Clean g c = kept _ _ _ _ _ _ c.run-outcome.ensures.0 c.run-outcome.result (ap length c.in_ok-gates.ensures) (ap length c.in_ok-desks.ensures) c.in_ok-start.ensures.rows c.run-outcome.ensures.1 c.in-Clean.is
