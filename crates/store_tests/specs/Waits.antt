-- Where the transaction of a ticket waits.
--     Rests      nowhere
--     WaitsIn      in no table but this
use Rattle.std.specs.Prelude.{◌≡◌, ◌≢◌, ℕ, List, []}
use Rattle.engine.specs.declared.events.Event.{Event}
use Rattle.engine.specs.Events.{opened_by}
use Rattle.world_parts.specs.ByTable.{changes_at}
use Rattle.world_parts.specs.Parts.{wanted_by}

-- it wants no change
abbrev pub Rests : List Event → Type 0
Rests events = wanted_by (opened_by events).wants ≡ []

-- none of another table
abbrev pub WaitsIn : ℕ → List Event → Type 0
WaitsIn table events = (other : ℕ) → other ≢ table → changes_at other (wanted_by (opened_by events).wants) ≡ []
