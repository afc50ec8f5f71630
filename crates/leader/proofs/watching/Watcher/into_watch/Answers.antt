use Rattle.std.proofs.Common.{refl}
use Rattle.std.proofs.Math.Logic.{∥∥₁_map}
use Rattle.leader.proofs.watching.Watcher.into_watch.Goals as goal

pub returns-clause-knows : goal.returns-clause-knows
returns-clause-knows g c =
    let w = c.args.self in
    ∥∥₁_map w.known (λ knows. (
      record { schema = g.N.StoreNames.schema; start = g.N.StoreNames.start; line = w.seen; published = w.loader },
      knows,
      record { schema = refl; start = refl; commits = c.look.ensures.begins; skip = w.skip; published = c.meet.ensures.published },
    ))
