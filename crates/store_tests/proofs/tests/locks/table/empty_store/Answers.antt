use Rattle.store_tests.proofs.Names.{has_names}
use Rattle.store_tests.proofs.tests.locks.table.empty_store.Goals as goal

pub returns-in-Ok-clause-names : goal.returns-in-Ok-clause-names
returns-in-Ok-clause-names c =
    let start = c.in_ok-empty_tables.field-0 in
    has_names start.schema start.rows c.in-Ok.made.0 c.in_ok-empty_tables.ensures.empty c.in-Ok.ensures.over c.in-Ok.ensures.long c.in-Ok.ensures.blank
