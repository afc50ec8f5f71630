use Rattle.std.specs.Prelude.{IfNone}
use Rattle.std.proofs.Common.{subst}
use Rattle.model.specs.declared.key.Key.{Key}
use Rattle.indexes.specs.Table.{TableContent, IsDuplicate, unique_at}
use Rattle.indexes.proofs.lazy.LazyTable.find_duplicate.Goals as goal

pub returns-clause-missed : goal.returns-clause-missed
returns-clause-missed c =
    subst (λ (t : TableContent). IfNone c.find_duplicate.result ((key : Key) → ¬ IsDuplicate t.rows (unique_at t.keys c.args.number) key c.args.row.now)) c.shown.ensures c.find_duplicate.ensures.missed
