use Rattle.std.proofs.Common.{refl}
use Rattle.parted_store.specs.KeptLemmas.{keeps_stopped}
use Rattle.parted_store.proofs.journal.Journal.stop_by_clash.Goals as goal

pub invariant_of-self : goal.invariant_of-self
invariant_of-self c = keeps_stopped c.self.inside _ c.self.invariant refl refl refl c.requires
