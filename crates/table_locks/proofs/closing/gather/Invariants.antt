use Rattle.std.proofs.Common.{◌≡◌, ◌≤◌, List, length, vec_len}
use Rattle.world.specs.World.{Past}
use Rattle.table_locks.specs.Closing.{AreLists, AreMoved}
use Rattle.table_locks.proofs.closing.gather.Given as goal

-- the rows of the tables whose locks are gone are moved
abbrev pub invariant-loop-lock : goal.invariant-loop-lock
invariant-loop-lock g l = record {
  locks : length l.locks.items ≤ length g.N.StoreNames.schema;
  keys : l.all.schema ≡ g.N.StoreNames.schema;
  book : l.book ≡ l.initial.book;
  moved : (commits : List Past) → AreLists g.N.StoreNames.schema l.initial.book commits
      → AreMoved g.N.StoreNames.schema g.N.StoreNames.start commits (length l.locks.items) l.all.rows;
}

abbrev pub decreases-loop-lock : goal.decreases-loop-lock
decreases-loop-lock g l = vec_len l.locks
