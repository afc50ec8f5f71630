use Rattle.std.proofs.Common.{ℕ, List, subst, inl, inr}
use Rattle.catalog.specs.declared.fault.CatalogFault.{CatalogFault}
use Rattle.catalog.specs.Definition.{Definition}
use Rattle.run.specs.declared.outcome.Config.{Config}
use Rattle.run.specs.declared.outcome.Outcome.{Outcome}
use Rattle.run.specs.Devices.{DeviceState}
use Rattle.pgapply_command.specs.declared.execute.Ended.{Ended}
use Rattle.pgapply_command.specs.Ending.{HasRun, Executes, workers_of}
use Rattle.pgapply_command.proofs.execute.execute.Goals as goal

-- whatever was heard, a command ended so
module _ (HeardFault : CatalogFault → Type 0) (HeardEnd : List Definition → Outcome → Type 0)
    (workers : ℕ) (bytes : List ℕ) (config : Config) (given left : DeviceState) where
  unheard_run : HasRun HeardEnd workers bytes config given left → HasRun (λ definitions outcome. Unit {0}) workers bytes config given left
  unheard_run ran = record {
    definitions = ran.definitions;
    catalog = ran.catalog;
    outcome = ran.outcome;
    run = ran.run;
    heard = tt;
  }

  unheard : (old new : List ℕ) (ended : Ended) → Executes HeardFault HeardEnd workers bytes config given left old new ended
      → Executes (λ fault. Unit {0}) (λ definitions outcome. Unit {0}) workers bytes config given left old new ended
  unfolding unheard_run
  unheard old new ended (inl refused) = inl (record {
    fault = refused.fault;
    faulty = refused.faulty;
    heard = tt;
    said = refused.said;
    unused = refused.unused;
    nothing = refused.nothing;
  })
  unheard old new ended (inr (inl reported)) = inr (inl (record { ran = unheard_run reported.ran; told = reported.told }))
  unheard old new ended (inr (inr lacks)) = inr (inr (record {
    when = elim lacks.when [
      | inl unused ↦ inl unused
      | inr ran ↦ inr (unheard_run ran)
    ];
    said = lacks.said;
  }))

pub returns : goal.returns
returns g c = (
  c.execute_on.new.devices,
  subst (λ (given : DeviceState). Executes (λ fault. Unit {0}) (λ definitions outcome. Unit {0}) (workers_of c.args.spooled c.args.config.now)
      c.args.catalog.now c.args.config.now given c.execute_on.new.devices c.args.out.now.items c.execute_on.new.out.items c.execute_on.result)
      c.new-devices.ensures (unheard _ _ _ _ _ _ _ _ _ _ c.execute_on.ensures),
)
