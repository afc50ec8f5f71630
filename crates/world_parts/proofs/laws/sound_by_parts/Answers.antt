use Rattle.world_parts.specs.SoundPartLemmas.{sound_by_parts}
use Rattle.world_parts.proofs.laws.sound_by_parts.Goals as goal

pub returns : goal.returns
returns c = sound_by_parts
