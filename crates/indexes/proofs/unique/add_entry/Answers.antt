use Rattle.std.specs.Prelude.{None}
use Rattle.std.proofs.Common.{ap}
use Rattle.indexes.specs.Unique.{number_in}
use Rattle.indexes.proofs.Entries.{entry_kept}
use Rattle.indexes.proofs.unique.add_entry.Goals as goal

pub returns-clause-kept : goal.returns-clause-kept
returns-clause-kept c =
    entry_kept c.args.entries.now c.insert.new.self c.args.values None c.in_ok-insert.ensures.updates.1 c.in_ok-insert.ensures.updates.2 (ap number_in c.requires)
