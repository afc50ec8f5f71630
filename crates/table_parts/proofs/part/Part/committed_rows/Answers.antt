use Rattle.std.proofs.Common.{subst}
use Rattle.std.specs.Prelude.{IfOk, ◌≡◌}
use Rattle.model.specs.TableRows.{rows_of_table}
use Rattle.world.specs.World.{World}
use Rattle.world_parts.specs.Marks.{HasPart}
use Rattle.table_parts.specs.Part.{Part}
use Rattle.table_parts.proofs.Lifting.{rows_lift}
use Rattle.table_parts.proofs.part.Part.committed_rows.Goals as goal

pub returns-clause-reads : goal.returns-clause-reads
returns-clause-reads c =
    subst (λ (p : Part). (w : World) → HasPart p.number w p.store.world → IfOk c.committed_rows.result (λ rows. rows.items ≡ rows_of_table w.committed p.number)) c.self.view_is
    (rows_lift c.self.inside.number c.self.inside.store.world c.committed_rows.result c.committed_rows.ensures.reads)
