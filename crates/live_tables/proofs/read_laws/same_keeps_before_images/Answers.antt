use Rattle.live_tables.specs.BeforeImageCallLemmas.{same_keeps_before_images}
use Rattle.live_tables.proofs.read_laws.same_keeps_before_images.Goals as goal

pub returns : goal.returns
returns c = same_keeps_before_images
