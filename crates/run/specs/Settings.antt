-- What the session of a run is given.
use Rattle.std.specs.Prelude.{ℕ, List}
use Rattle.model.specs.Definition.{Definition}
use Rattle.session.specs.State.{Setting}
use Rattle.run.specs.declared.outcome.Config.{Config}

-- the setting of a run with so many workers, by its configuration, over these tables
abbrev pub setting_of : ℕ → Config → List Definition → Setting
setting_of workers config catalog = record {
  workers = workers;
  spool = config.spool;
  skip = config.skip;
  catalog = catalog;
}
