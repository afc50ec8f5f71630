-- The names of a store that is made of empty tables.
--     HasNames      what it is made of has names, by which it may be called
use Rattle.std.specs.FinMap as finite
use Rattle.table_locks.specs.Starts.{MadeStore, AreNames, tickets_in}

abbrev pub HasNames : MadeStore → Type 0
HasNames m = AreNames (tickets_in m) m.journal.part.line.name m.journal.tables.name m.blank.schema finite.empty m
