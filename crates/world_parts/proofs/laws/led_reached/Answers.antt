use Rattle.world_parts.specs.LedLemmas.{led_reached}
use Rattle.world_parts.proofs.laws.led_reached.Goals as goal

pub returns : goal.returns
returns c = led_reached
