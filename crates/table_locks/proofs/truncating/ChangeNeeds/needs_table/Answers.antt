use Rattle.std.proofs.Common.{ℕ, ◌∙◌, ap, sym}
use Rattle.std.specs.List.{list_any}
use Rattle.std.specs.Prelude.{◌==◌}
use Rattle.model.specs.declared.change.Change.{Change}
use Rattle.table_locks.specs.Truncating.{wipes_table}
use Rattle.table_locks.specs.TruncatingLemmas.{named_as}
use Rattle.table_locks.proofs.truncating.ChangeNeeds.needs_table.Goals as goal

pub returns-in-Wipe : goal.returns-in-Wipe
returns-in-Wipe c =
    c.contains.ensures.value ∙ ap (list_any (λ (other : ℕ). other == c.args.table)) c.ids.ensures ∙ named_as c.in-Wipe.tables c.args.table
    ∙ ap (λ (d : Change). wipes_table d c.args.table) (sym c.in-Wipe.is)
