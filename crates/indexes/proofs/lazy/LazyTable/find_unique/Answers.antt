use Rattle.std.specs.Prelude.{IfNone}
use Rattle.std.proofs.Common.{subst}
use Rattle.model.specs.declared.key.Key.{Key}
use Rattle.indexes.specs.Table.{TableContent, HasValues, unique_at}
use Rattle.indexes.proofs.lazy.LazyTable.find_unique.Goals as goal

pub returns-clause-missed : goal.returns-clause-missed
returns-clause-missed c =
    subst (λ (t : TableContent). IfNone c.find_unique.result ((key : Key) → ¬ HasValues t.rows (unique_at t.keys c.args.number) key c.args.values.now)) c.shown.ensures c.find_unique.ensures.missed
