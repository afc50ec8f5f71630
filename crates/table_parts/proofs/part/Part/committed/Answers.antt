use Rattle.std.proofs.Common.{subst}
use Rattle.world.specs.World.{World}
use Rattle.world.specs.Steps.{ReadsCommitted}
use Rattle.world_parts.specs.Marks.{HasPart}
use Rattle.table_parts.specs.Part.{Part}
use Rattle.table_parts.proofs.Lifting.{read_lifts}
use Rattle.table_parts.proofs.part.Part.committed.Goals as goal

pub returns-clause-reads : goal.returns-clause-reads
returns-clause-reads c =
    subst (λ (p : Part). (w : World) → HasPart p.number w p.store.world → ReadsCommitted w (p.number, c.args.key.now) c.committed.result) c.self.view_is
    (read_lifts c.self.inside.number c.self.inside.store.world c.args.key.now c.committed.result c.committed.ensures.reads)
