use Rattle.std.proofs.Common.{ap, ◌∙◌}
use Rattle.std.specs.Prelude.{is_some}
use Rattle.parted_store.specs.Journal.{JournalPart}
use Rattle.parted_store.specs.KeptLemmas.{told_some}
use Rattle.parted_store.proofs.journal.Journal.is_stopped.Goals as goal

pub returns : goal.returns
returns c = c.is_some.ensures ∙ told_some c.self.inside.stopped c.self.invariant.caused ∙ ap (λ (j : JournalPart). is_some j.stopped) c.self.view_is
