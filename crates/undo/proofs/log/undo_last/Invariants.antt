use Rattle.std.proofs.Common.{◌≡◌, ◌≤◌, take, drop, map, vec_len, vec_capacity}
use Rattle.model.specs.Effect.{all_back}
use Rattle.indexes.specs.Content.{KeepsCells}
use Rattle.change.specs.Inverse.{edits_of}
use Rattle.undo.specs.Undo.{content_undone, CanUndo}
use Rattle.undo.proofs.log.undo_last.Given as goal

-- what is left to put back leads to the same tables
abbrev pub invariant-loop-inverses : goal.invariant-loop-inverses
invariant-loop-inverses l = record {
  above : l.mark ≤ vec_len l.inverses;
  left : take l.mark l.inverses.items ≡ take l.mark l.fn.inverses.items;
  rows : all_back l.t.rows (map edits_of (drop l.mark l.inverses.items)) ≡ all_back l.fn.t.rows (map edits_of (drop l.mark l.fn.inverses.items));
  can : CanUndo l.t (drop l.mark l.inverses.items);
  room : KeepsCells (content_undone l.fn.t (drop l.mark l.fn.inverses.items)).room (content_undone l.t (drop l.mark l.inverses.items)).room;
  schema : l.t.schema ≡ l.fn.t.schema;
  capacity : vec_capacity l.inverses ≡ vec_capacity l.fn.inverses;
}

abbrev pub decreases-loop-inverses : goal.decreases-loop-inverses
decreases-loop-inverses l = vec_len l.inverses
