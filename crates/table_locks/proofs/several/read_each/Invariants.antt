use Rattle.std.proofs.Common.{◌≡◌, List, take, map}
use Rattle.model.specs.TableRows.{rows_of_table}
use Rattle.engine.specs.declared.events.LineEvent.{LineEvent}
use Rattle.table_locks.specs.Reading.{seen_world, rows_in, HasEach}
use Rattle.table_locks.proofs.several.read_each.Given as goal

-- those of the tables so far
abbrev pub invariant-loop-table : goal.invariant-loop-table
invariant-loop-table g l =
    (line : List LineEvent) → HasEach g.N.StoreNames.schema g.N.StoreNames.start line l.guards
    → map rows_in l.rows.items ≡ map (rows_of_table (seen_world g.N.StoreNames.schema g.N.StoreNames.start line).committed) (take l.table-index l.tables)
