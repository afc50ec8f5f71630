use Rattle.std.proofs.Common.{take}
use Rattle.change.specs.Edits.{laid_together}
use Rattle.change.specs.Laid.{IsLaidUnder}
use Rattle.engine.specs.Engine.{edits_behind}
use Rattle.engine.proofs.rows_after.lay_entries.Given as goal

-- what stood before the entries so far lies under what was known
abbrev pub invariant-loop-entry : goal.invariant-loop-entry
invariant-loop-entry l = IsLaidUnder l.fn.known l.table (laid_together (edits_behind (take l.entry-index l.entries))) l.known
