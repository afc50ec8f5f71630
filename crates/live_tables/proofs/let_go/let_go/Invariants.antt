use Rattle.std.proofs.Common.{length}
use Rattle.keyholds.specs.Holds.{holds_of}
use Rattle.live_tables.proofs.LettingGo.{IsUnderWay}
use Rattle.live_tables.proofs.let_go.let_go.Given as goal

abbrev pub invariant-loop-cell : goal.invariant-loop-cell
invariant-loop-cell l = IsUnderWay l.mark l.xid (holds_of l.fn.holds) (holds_of l.holds) l.fn.tables l.tables

abbrev pub decreases-loop-cell : goal.decreases-loop-cell
decreases-loop-cell l = length (holds_of l.holds l.xid)
