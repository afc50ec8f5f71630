use Rattle.live_tables.specs.BeforeImageCallLemmas.{rollback_keeps_before_images}
use Rattle.live_tables.proofs.read_laws.rollback_keeps_before_images.Goals as goal

pub returns : goal.returns
returns c = rollback_keeps_before_images
