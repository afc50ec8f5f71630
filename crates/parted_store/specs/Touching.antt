-- An item that changes no row.
--     IsTouched      a part in every world in which it was, once the ticket's transaction has such an item
--     IsRefusal      a fault for which it is refused: Stopped or OutOfMemory
use Rattle.std.specs.Prelude.{ℕ, Result}
use Rattle.world.specs.World.{World}
use Rattle.world.specs.Steps.{Fault}
use Rattle.live_tables.specs.declared.answers.EngineFault.{EngineFault}
use Rattle.live_tables.specs.declared.answers.EngineFault.TheVariants.{AlreadyOpen, TooManyOpen, Clash, Stopped, OutOfMemory}
use Rattle.live_tables.specs.Answers.{after_touch}
use Rattle.engine.specs.Events.{opened_by}
use Rattle.table_parts.specs.Part.{Part}
use Rattle.parted_store.specs.Lent.{OpenTicket, HasTable, HasTicket}

-- the part in every world in which it was, by what came of the call
abbrev pub IsTouched : OpenTicket → ℕ → Result (Unit {0}) Fault → Part → Part → Type 0
IsTouched t sub answer p q =
    (w : World) → HasTable w p → HasTicket w t → HasTable (after_touch w t.number (opened_by t.events) sub answer) q

-- a fault for which it is refused
abbrev pub IsRefusal : EngineFault → Type 0
IsRefusal AlreadyOpen = ⊥
IsRefusal TooManyOpen = ⊥
IsRefusal (Clash clash) = ⊥
IsRefusal Stopped = Unit {0}
IsRefusal OutOfMemory = Unit {0}
