-- The law of runs one behind another, as a statement. `src/laws.rt` names it, so that the check proves it.
--     told      the commits that a run left, as they are told
--     IsSomeRun      a run by some workers, beside some watchers, over some devices
--     GoesOn      what a run leaves from the rows that another left
use Rattle.std.specs.Prelude.{◌≡◌, ℕ, List, ◌++◌, map}
use Rattle.model.specs.Rows.{Rows}
use Rattle.model.specs.Definition.{Definition}
use Rattle.world.specs.World.{Entry}
use Rattle.engine.specs.Engine.{entry_in}
use Rattle.run.specs.declared.outcome.Config.{Config}
use Rattle.run.specs.declared.outcome.Outcome.{Outcome}
use Rattle.run.specs.Devices.{DeviceState}
use Rattle.leader.specs.WithWorkers.{RunsBy}

-- the commits that a run left, as they are told
abbrev pub told : Outcome → List Entry
told o = map entry_in o.journal.items

-- A run of this catalog left this from these rows, by some workers, beside some watchers, over some devices.
pub record IsSomeRun (catalog : List Definition) (rows : Rows) (o : Outcome) : Type 0 where
  pub workers : ℕ
  pub watchers : ℕ
  pub config : Config
  pub old : DeviceState
  pub new : DeviceState
  pub runs : RunsBy workers watchers catalog config rows old new o

-- A run from the rows that another left leaves what any one run does whose commits are those of both.
abbrev pub GoesOn : Type 0
GoesOn =
    (catalog : List Definition) (rows : Rows) (first second whole : Outcome)
    → IsSomeRun catalog rows first → IsSomeRun catalog first.tables.rows second → IsSomeRun catalog rows whole
    → told whole ≡ told first ++ told second → whole.tables.rows ≡ second.tables.rows
