use Rattle.std.proofs.Common.{◌≡◌, ◌++◌, take}
use Rattle.std.specs.List.{flat_map, enumerate_from}
use Rattle.run.specs.Report.{numbered_text}
use Rattle.run.proofs.printing.push_tables.Given as goal

-- the tables so far
abbrev pub invariant-loop-table : goal.invariant-loop-table
invariant-loop-table l =
    l.text.items ≡ l.fn.text.items ++ flat_map (numbered_text l.tables.rows) (take l.table (enumerate_from 0 l.definitions))
