use Rattle.std.proofs.Common.{◌≡◌, ℕ, zero, suc, List, map}
use Rattle.model.specs.Rows.{Rows, keys_of}
use Rattle.model.specs.Definition.{Definition}
use Rattle.run.specs.declared.outcome.Config.{Config}
use Rattle.run.specs.declared.outcome.Outcome.{Outcome}
use Rattle.run.specs.Devices.{DeviceState}
use Rattle.leader.specs.WithWorkers.{RunsBy}
use Rattle.run_tests.proofs.tests.runs.run_all.Goals as goal

-- a run leaves tables of the catalog, by as many workers as it may be
of_catalog : (n v : ℕ) (catalog : List Definition) (config : Config) (rows : Rows) (old new : DeviceState) (o : Outcome)
    → RunsBy n v catalog config rows old new o → o.tables.schema ≡ map keys_of catalog
of_catalog zero zero catalog config rows old new o ran = ran.schema
of_catalog zero (suc v) catalog config rows old new o ran = ran.run.schema
of_catalog (suc n) v catalog config rows old new o ran = ran.run.schema

-- each watcher knows any reader
pub run-requires-clause-knows : goal.run-requires-clause-knows
run-requires-clause-knows g c = λ lifetimes within k d below s unseen. c.requires.knows _ s

pub returns : goal.returns
returns g c = of_catalog _ _ _ _ _ _ _ _ c.run.ensures.1
