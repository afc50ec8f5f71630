use Rattle.std.proofs.Common.{◌≡◌, ◌≤◌, length, vec_len, vec_capacity}
use Rattle.world_parts.specs.ByTable.{rows_at}
use Rattle.table_locks.specs.Starts.{AreBegun, AreOver, AreLeft}
use Rattle.table_locks.proofs.made.Made.of_tables.Given as goal

-- nothing has happened in the tables so far, whose rows were taken out
abbrev pub invariant-loop-number : goal.invariant-loop-number
invariant-loop-number l = record {
  begun : AreBegun l.book l.tables.items;
  over : AreOver l.initial.start.schema (λ number. rows_at number l.initial.start.rows) l.tables.items;
  places : length l.tables.items ≡ l.number;
  counted : vec_len l.tables ≡ l.number;
  room : length l.initial.start.schema ≤ vec_capacity l.tables;
  keys : l.start.schema ≡ l.initial.start.schema;
  rows : AreLeft l.initial.start.rows l.number l.start.rows;
}
