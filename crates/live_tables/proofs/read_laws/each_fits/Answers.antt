use Rattle.live_tables.specs.ReadLemmas.{each_fits}
use Rattle.live_tables.proofs.read_laws.each_fits.Goals as goal

pub returns : goal.returns
returns c = each_fits
