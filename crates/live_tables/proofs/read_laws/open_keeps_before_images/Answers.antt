use Rattle.live_tables.specs.BeforeImageCallLemmas.{open_keeps_before_images}
use Rattle.live_tables.proofs.read_laws.open_keeps_before_images.Goals as goal

pub returns : goal.returns
returns c = open_keeps_before_images
