use Rattle.std.specs.BTreeMap as tree
use Rattle.model.specs.Footprint.{footprint}
use Rattle.live_tables.specs.StopLemmas.{FollowsFrom, IsApartFrom}
use Rattle.live_tables.proofs.live_tables.Live.cell_holder.Given as goal

abbrev pub invariant-loop-holder : goal.invariant-loop-holder
invariant-loop-holder l =
    FollowsFrom (IsApartFrom l.self l.xid (footprint l.self.tables.schema l.self.tables.rows l.change)) l.holder-iterator (tree.keys l.self.transactions)
