use Rattle.live_tables.specs.BeforeImageCallLemmas.{done_keeps_before_images}
use Rattle.live_tables.proofs.read_laws.done_keeps_before_images.Goals as goal

pub returns : goal.returns
returns c = done_keeps_before_images
