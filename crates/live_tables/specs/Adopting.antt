-- The world once a subtransaction has adopted the last change of an open transaction.
use Rattle.std.specs.Prelude.{ℕ, None}
use Rattle.std.specs.FinMap.{insert}
use Rattle.savepoint.specs.Adopted.{adopted}
use Rattle.world.specs.World.{Opened, World}

abbrev pub adopted_with : World → ℕ → Opened → ℕ → World
adopted_with w xid o sub = record w { opened = insert w.opened xid (record { items = adopted sub o.items; wants = None }) }
