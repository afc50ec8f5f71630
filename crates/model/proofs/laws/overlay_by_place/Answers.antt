use Rattle.model.specs.EditLemmas.{get_overlay}
use Rattle.model.proofs.laws.overlay_by_place.Goals as goal

pub returns : goal.returns
returns c = get_overlay
