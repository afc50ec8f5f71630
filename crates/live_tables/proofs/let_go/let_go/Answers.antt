use Rattle.keyholds.specs.Holds.{holds_of}
use Rattle.live_tables.proofs.LettingGo.{begun, goes_on, at_end}
use Rattle.live_tables.proofs.let_go.let_go.Goals as goal

pub loop-cell-init : goal.loop-cell-init
loop-cell-init c = begun c.args.mark c.args.xid (holds_of c.args.holds.now) c.args.tables.now

pub loop-cell-preserved-in-Some : goal.loop-cell-preserved-in-Some
loop-cell-preserved-in-Some c =
    goes_on c.args.mark c.args.xid (holds_of c.args.holds.now) (holds_of c.loop-cell.holds) (holds_of c.release_last.new.self) c.args.tables.now c.loop-cell.tables
    c.release_unless_held.new.tables c.loop-cell.invariant c.in-Some.cell c.in-Some.ensures.own c.in-Some.ensures.others c.release_unless_held.ensures

pub loop-cell-preserved-in-Some-2 : goal.loop-cell-preserved-in-Some-2
loop-cell-preserved-in-Some-2 c =
    goes_on c.args.mark c.args.xid (holds_of c.args.holds.now) (holds_of c.loop-cell.holds) (holds_of c.release_last.new.self) c.args.tables.now c.loop-cell.tables
    c.release_unless_held.new.tables c.loop-cell.invariant c.in-Some.cell c.in-Some.ensures.own c.in-Some.ensures.others c.release_unless_held.ensures

pub loop-cell-preserved : goal.loop-cell-preserved
loop-cell-preserved c =
    goes_on c.args.mark c.args.xid (holds_of c.args.holds.now) (holds_of c.loop-cell.holds) (holds_of c.release_last.new.self) c.args.tables.now c.loop-cell.tables
    c.release_unless_held.new.tables c.loop-cell.invariant c.in-Some.cell c.in-Some.ensures.own c.in-Some.ensures.others c.release_unless_held.ensures

pub returns-clause-released : goal.returns-clause-released
returns-clause-released c =
    (at_end c.args.mark c.args.xid (holds_of c.args.holds.now) (holds_of c.loop-cell.holds) c.args.tables.now c.loop-cell.tables c.loop-cell.invariant c.in_default.ensures.own.0).1
