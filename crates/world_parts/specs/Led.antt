-- What is so of the world of a run.
--     IsLed      each part of it is reached by parts of calls, and it is sound
use Rattle.std.specs.Prelude.{◌≡◌}
use Rattle.model.specs.Rows.{Rows, Schema, IsValid}
use Rattle.world.specs.World.{World}
use Rattle.world_parts.specs.Reached.{IsReachedByParts}
use Rattle.world_parts.specs.Sound.{IsSound}

-- Each part of the world is reached by parts of calls from these rows, and from valid rows it keeps what every world
-- keeps that calls reach. That there are such calls is all that locks keep of them, and not which.
pub record IsLed (schema : Schema) (start : Rows) (w : World) : Type 0 where
  pub starts : w.start ≡ start
  pub parts : ∥ IsReachedByParts schema start w ∥₁
  pub sound : IsValid schema start → ∥ IsSound schema w ∥₁
