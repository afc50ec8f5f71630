use Rattle.std.proofs.Common.{take, map}
use Rattle.change.specs.Edits.{laid_together}
use Rattle.change.specs.Inverse.{rows_held}
use Rattle.change.specs.Laid.{IsLaidUnder}
use Rattle.change.proofs.laying.lay_each.Given as goal

-- what the tables so far held lies under what was known
abbrev pub invariant-loop-emptied : goal.invariant-loop-emptied
invariant-loop-emptied l = IsLaidUnder l.fn.known l.table (laid_together (map rows_held (take l.emptied-index l.wiped))) l.known
