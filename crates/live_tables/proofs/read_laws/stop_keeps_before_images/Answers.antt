use Rattle.live_tables.specs.BeforeImageCallLemmas.{stop_keeps_before_images}
use Rattle.live_tables.proofs.read_laws.stop_keeps_before_images.Goals as goal

pub returns : goal.returns
returns c = stop_keeps_before_images
