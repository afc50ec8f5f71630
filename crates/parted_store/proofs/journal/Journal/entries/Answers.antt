use Rattle.std.proofs.Common.{List, ap, ◌∙◌}
use Rattle.std.specs.Prelude.{map}
use Rattle.world.specs.World.{entry_of}
use Rattle.engine.specs.declared.entry.Entry.{Entry}
use Rattle.engine.specs.Engine.{entry_in}
use Rattle.engine.specs.Events.{commits_in}
use Rattle.parted_store.specs.Journal.{JournalPart}
use Rattle.parted_store.proofs.journal.Journal.entries.Goals as goal

pub returns : goal.returns
returns c =
    ap (λ (entries : List Entry). map entry_in entries) c.as_slice.ensures.value ∙ c.self.invariant.told
    ∙ ap (λ (j : JournalPart). map entry_of (commits_in j.line.list)) c.self.view_is
