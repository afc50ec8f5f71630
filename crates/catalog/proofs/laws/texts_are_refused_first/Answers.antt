use Rattle.catalog.proofs.Texts.{catalog_of_first}
use Rattle.catalog.proofs.laws.texts_are_refused_first.Goals as goal

pub returns : goal.returns
returns c = catalog_of_first
