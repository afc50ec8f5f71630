-- A store that is given up while transactions are open.
--     IsAborted      some of the open transactions were aborted
--     IsShut      all of them were
use Rattle.std.specs.Prelude.{◌≡◌}
use Rattle.std.specs.FinMap as finite
use Rattle.model.specs.Rows.{Schema}
use Rattle.world.specs.World.{World}
use Rattle.world.specs.Steps.{Reaches}

-- Calls lead from the first world to the second, and altered no more than which transactions are open.
pub record IsAborted (schema : Schema) (w v : World) : Type 0 where
  pub reached : Reaches schema w v
  pub start : v.start ≡ w.start
  pub committed : v.committed ≡ w.committed
  pub line : v.line ≡ w.line
  pub stopped : v.stopped ≡ w.stopped

-- They did, and no transaction is open in the second.
pub record IsShut (schema : Schema) (w v : World) : Type 0 where
  pub aborted : IsAborted schema w v
  pub none : v.opened ≡ finite.empty
