use Rattle.world_parts.specs.SoundLemmas.{sound_alike}
use Rattle.world_parts.proofs.laws.sound_alike.Goals as goal

pub returns : goal.returns
returns c = sound_alike
