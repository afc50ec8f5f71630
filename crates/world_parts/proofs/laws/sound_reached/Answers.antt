use Rattle.world_parts.specs.SoundLemmas.{sound_reached}
use Rattle.world_parts.proofs.laws.sound_reached.Goals as goal

pub returns : goal.returns
returns c = sound_reached
