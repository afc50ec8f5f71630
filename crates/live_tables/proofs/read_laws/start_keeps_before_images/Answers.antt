use Rattle.live_tables.specs.BeforeImageCallLemmas.{start_keeps_before_images}
use Rattle.live_tables.proofs.read_laws.start_keeps_before_images.Goals as goal

pub returns : goal.returns
returns c = start_keeps_before_images
