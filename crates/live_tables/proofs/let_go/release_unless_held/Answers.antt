use Rattle.std.proofs.Common.{sym}
use Rattle.keyholds.specs.Holds.{cells_held}
use Rattle.live_tables.proofs.LettingGo.{alone_released, held_stays}
use Rattle.live_tables.proofs.let_go.release_unless_held.Goals as goal

pub returns-then-not-overlaps_one : goal.returns-then-not-overlaps_one
returns-then-not-overlaps_one c =
    alone_released (cells_held c.args.holds.now c.args.xid) c.args.cell.now c.args.tables.now c.release.new.self (sym c.if-not-overlaps_one.ensures) c.release.ensures

pub returns-else-not-overlaps_one : goal.returns-else-not-overlaps_one
returns-else-not-overlaps_one c = held_stays (cells_held c.args.holds.now c.args.xid) c.args.cell.now c.args.tables.now (sym c.if-not-overlaps_one.ensures)
