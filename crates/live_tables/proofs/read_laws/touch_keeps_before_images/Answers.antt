use Rattle.live_tables.specs.BeforeImageCallLemmas.{touch_keeps_before_images}
use Rattle.live_tables.proofs.read_laws.touch_keeps_before_images.Goals as goal

pub returns : goal.returns
returns c = touch_keeps_before_images
