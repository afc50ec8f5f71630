use Rattle.std.proofs.Common.{◌≡◌, subst}
use Rattle.std.specs.Prelude.{IfOk}
use Rattle.model.specs.TableRows.{rows_of_table}
use Rattle.world.specs.World.{World}
use Rattle.world_parts.specs.Lines.{HasLine, rows_until}
use Rattle.table_parts.specs.Part.{Part}
use Rattle.table_parts.proofs.Until.{within_line, commits_told, until_lifts}
use Rattle.table_parts.proofs.part.Part.rows_until.Goals as goal

pub rows_after-requires-clause-reached : goal.rows_after-requires-clause-reached
rows_after-requires-clause-reached c =
    within_line c.journal.result.now c.self.inside.store.world.line c.journal.ensures.journal c.count_until-count.result c.count_until-count.ensures.within

pub returns-clause-reads : goal.returns-clause-reads
returns-clause-reads c =
    let part = c.self.inside.store.world in
    subst (λ (p : Part). (w : World) → HasLine p.number w p.store.world
    → IfOk c.rows_after.result (λ rows. rows.items ≡ rows_of_table (rows_until p.store.schema w c.args.position) p.number)) c.self.view_is
    (until_lifts c.self.inside.store.schema c.self.inside.number part c.count_until-count.result c.args.position
    (commits_told c.journal.result.now part.line c.journal.ensures.journal c.count_until-count.result c.args.position c.count_until-count.ensures.until)
    c.rows_after.result c.rows_after.ensures.reads)
