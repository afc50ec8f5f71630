use Rattle.catalog.proofs.Texts.{catalog_of_defines}
use Rattle.catalog.proofs.laws.catalogs_have_what_is_described.Goals as goal

pub returns : goal.returns
returns c = catalog_of_defines
