use Rattle.std.proofs.Common.{true, refl}
use Rattle.world.specs.World.{starting}
use Rattle.live_tables.specs.ByHoldsLemmas.{from_holds}
use Rattle.live_tables.specs.EndedLemmas.{tied_at_start}
use Rattle.live_tables.proofs.live_tables.Live.new.Goals as goal

pub returns-clause-tied : goal.returns-clause-tied
returns-clause-tied c =
    from_holds (starting c.args.tables.rows) _
    (tied_at_start c.args.tables c.new.result true c.new-2.result c.recall_invariant.ensures.valid c.new.ensures c.new-2.ensures.empty) refl
