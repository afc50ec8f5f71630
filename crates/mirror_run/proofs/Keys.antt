-- The tables that a run leaves.
--     keys_behind      they have the keys of the catalog
use Rattle.std.proofs.Common.{◌≡◌, ℕ, zero, suc, List, map}
use Rattle.model.specs.Rows.{Rows, keys_of}
use Rattle.model.specs.Definition.{Definition}
use Rattle.run.specs.declared.outcome.Config.{Config}
use Rattle.run.specs.declared.outcome.Outcome.{Outcome}
use Rattle.run.specs.Devices.{DeviceState}
use Rattle.leader.specs.WithWorkers.{RunsBy}

pub keys_behind : (n v : ℕ) (catalog : List Definition) (config : Config) (rows : Rows) (old new : DeviceState) (o : Outcome)
    → RunsBy n v catalog config rows old new o → o.tables.schema ≡ map keys_of catalog
keys_behind zero zero catalog config rows old new o runs = runs.schema
keys_behind zero (suc v) catalog config rows old new o runs = runs.run.schema
keys_behind (suc n) v catalog config rows old new o runs = runs.run.schema
