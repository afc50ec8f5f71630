use Rattle.live_tables.specs.WaitLemmas.{passes_live_tells}
use Rattle.live_tables.proofs.read_laws.passes_live_tells.Goals as goal

pub returns : goal.returns
returns c = passes_live_tells
