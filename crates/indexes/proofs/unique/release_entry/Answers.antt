use Rattle.std.specs.Prelude.{Some}
use Rattle.std.proofs.Common.{sym, ◌∙◌, ap}
use Rattle.indexes.specs.Unique.{number_in}
use Rattle.indexes.proofs.Entries.{entry_dropped}
use Rattle.indexes.proofs.unique.release_entry.Goals as goal

pub returns-in-Some-None : goal.returns-in-Some-None
returns-in-Some-None c =
    entry_dropped c.args.entries.now c.remove.new.self c.args.key.now (ap number_in (sym c.in-Some-None.ensures.value ∙ ap Some c.in-Some-None.field-0-is))
    c.remove.ensures.updates.1 c.remove.ensures.updates.2
