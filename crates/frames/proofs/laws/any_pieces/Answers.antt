use Rattle.frames.proofs.Streams.{reading-append}
use Rattle.frames.proofs.laws.any_pieces.Goals as goal

pub returns : goal.returns
returns c = reading-append
