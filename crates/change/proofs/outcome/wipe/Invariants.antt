use Rattle.std.proofs.Common.{◌≡◌, ◌≤◌, take, length, vec_len, vec_capacity}
use Rattle.change.proofs.Wiping.{IsWiped}
use Rattle.change.proofs.outcome.wipe.Given as goal

-- the tables named so far are emptied, and there is room to note the others
abbrev pub invariant-loop-table : goal.invariant-loop-table
invariant-loop-table l = record {
  far : IsWiped l.fn.t l.t (take l.table-index l.tables) l.wiped.items;
  len : vec_len l.wiped ≡ l.table-index;
  room : length l.tables ≤ vec_capacity l.wiped;
}
