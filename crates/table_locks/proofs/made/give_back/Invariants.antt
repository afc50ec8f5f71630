use Rattle.std.proofs.Common.{◌≡◌, vec_len}
use Rattle.table_locks.specs.Starts.{AreBack}
use Rattle.table_locks.proofs.made.give_back.Given as goal

-- the rows of the parts behind those that are left came back
abbrev pub invariant-loop-part : goal.invariant-loop-part
invariant-loop-part l = (l.start.schema ≡ l.initial.start.schema) × AreBack l.initial.start.rows l.initial.tables.items l.tables.items l.start.rows

abbrev pub decreases-loop-part : goal.decreases-loop-part
decreases-loop-part l = vec_len l.tables
