use Rattle.std.proofs.Common.{◌∙◌, ap, subst}
use Rattle.indexes.specs.Content.{Content}
use Rattle.model.specs.Rows.{Schema}
use Rattle.world_parts.specs.ByTable.{rows_at}
use Rattle.table_locks.specs.StartLemmas.{over_none_of}
use Rattle.table_locks.specs.Starts.{AreOver}
use Rattle.table_locks.proofs.made.Made.new.Goals as goal

pub returns-in-Ok-clause-over : goal.returns-in-Ok-clause-over
returns-in-Ok-clause-over c =
    let start : Content = c.in_ok-copy.field-0 in
    let tables = c.in-Ok.made.0.tables in
    let copied = c.in_ok-copy.ensures in
    over_none_of c.args.empty.now.schema start.rows tables (ap (λ (t : Content). t.rows) copied ∙ c.requires.empty)
    (subst (λ (keys : Schema). AreOver keys (λ number. rows_at number start.rows) tables) (ap (λ (t : Content). t.schema) copied) c.in-Ok.ensures.over)
