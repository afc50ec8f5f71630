use Rattle.std.proofs.Common.{take, map}
use Rattle.change.specs.Edits.{laid_together}
use Rattle.change.specs.Inverse.{edits_of}
use Rattle.change.specs.Laid.{IsLaidUnder}
use Rattle.undo.proofs.log.lay_all.Given as goal

-- what the inverses so far put back lies under what was known
abbrev pub invariant-loop-inverse : goal.invariant-loop-inverse
invariant-loop-inverse l = IsLaidUnder l.fn.known l.table (laid_together (map edits_of (take l.inverse-index l.inverses))) l.known
