use Rattle.world_parts.specs.LedLemmas.{led_by_parts}
use Rattle.world_parts.proofs.laws.led_by_parts.Goals as goal

pub returns : goal.returns
returns c = led_by_parts
