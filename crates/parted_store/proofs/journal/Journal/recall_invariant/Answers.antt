use Rattle.std.proofs.Common.{◌∷◌, subst}
use Rattle.std.specs.List.Sorted.{IsStrictlyIncreasing}
use Rattle.engine.specs.Events.{ends_in}
use Rattle.parted_store.specs.Journal.{JournalPart}
use Rattle.parted_store.proofs.journal.Journal.recall_invariant.Goals as goal

pub returns : goal.returns
returns c = subst (λ (j : JournalPart). IsStrictlyIncreasing (0 ∷ ends_in j.line.list)) c.self.view_is c.self.invariant.rising
