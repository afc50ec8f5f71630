use Rattle.world_parts.specs.LedLemmas.{led_step}
use Rattle.world_parts.proofs.laws.led_by_step.Goals as goal

pub returns : goal.returns
returns c = led_step
