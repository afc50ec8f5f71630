use Rattle.live_tables.specs.BeforeImageCallLemmas.{skip_keeps_before_images}
use Rattle.live_tables.proofs.read_laws.skip_keeps_before_images.Goals as goal

pub returns : goal.returns
returns c = skip_keeps_before_images
