use Rattle.live_tables.specs.CellLemmas.{before_image_is_held}
use Rattle.live_tables.proofs.read_laws.before_image_is_held.Goals as goal

pub returns : goal.returns
returns c = before_image_is_held
