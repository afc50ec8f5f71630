use Rattle.std.proofs.Common.{ap, ◌∙◌}
use Rattle.engine.specs.Events.{is_open_in}
use Rattle.parted_store.specs.Journal.{JournalPart}
use Rattle.parted_store.proofs.journal.Journal.is_open.Goals as goal

pub returns : goal.returns
returns c =
    c.contains.ensures ∙ c.self.invariant.opened c.args.xid ∙ ap (λ (j : JournalPart). is_open_in j.line.list c.args.xid) c.self.view_is
