use Rattle.live_tables.specs.BeforeImageCallLemmas.{abort_keeps_before_images}
use Rattle.live_tables.proofs.read_laws.abort_keeps_before_images.Goals as goal

pub returns : goal.returns
returns c = abort_keeps_before_images
