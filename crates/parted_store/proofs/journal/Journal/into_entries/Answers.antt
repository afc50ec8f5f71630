use Rattle.std.proofs.Common.{ap, ◌∙◌}
use Rattle.std.specs.Prelude.{map}
use Rattle.world.specs.World.{entry_of}
use Rattle.engine.specs.Events.{commits_in}
use Rattle.parted_store.specs.Journal.{JournalPart}
use Rattle.parted_store.proofs.journal.Journal.into_entries.Goals as goal

pub returns : goal.returns
returns c = c.self.invariant.told ∙ ap (λ (j : JournalPart). map entry_of (commits_in j.line.list)) c.self.view_is
