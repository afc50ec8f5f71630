use Rattle.std.proofs.Common.{subst}
use Rattle.world.specs.World.{World}
use Rattle.world.specs.Steps.{ReadsLive}
use Rattle.world_parts.specs.Marks.{HasPart}
use Rattle.table_parts.specs.Part.{Part}
use Rattle.table_parts.proofs.Lifting.{live_lifts}
use Rattle.table_parts.proofs.part.Part.live.Goals as goal

pub returns-clause-reads : goal.returns-clause-reads
returns-clause-reads c =
    subst (λ (p : Part). (w : World) → HasPart p.number w p.store.world → ReadsLive p.store.schema w (p.number, c.args.key.now) c.live.result) c.self.view_is
    (λ w has. live_lifts c.self.inside.store.schema c.self.inside.number w c.self.inside.store.world has c.args.key.now c.live.result c.live.ensures.reads)
