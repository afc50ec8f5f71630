use Rattle.std.proofs.Common.{◌≡◌, map, vec_len}
use Rattle.model.specs.Effect.{all_back}
use Rattle.indexes.specs.Content.{KeepsCells}
use Rattle.change.specs.Inverse.{rows_held, room_unwiped, CanUnwipe}
use Rattle.change.proofs.inverse.unwipe_all.Given as goal

-- what is left to give back leads to the same tables
abbrev pub invariant-loop-last : goal.invariant-loop-last
invariant-loop-last l = record {
  schema : l.t.schema ≡ l.fn.t.schema;
  rows : all_back l.t.rows (map rows_held l.wiped.items) ≡ all_back l.fn.t.rows (map rows_held l.fn.wiped.items);
  room : KeepsCells (room_unwiped l.fn.t.room l.fn.wiped.items) (room_unwiped l.t.room l.wiped.items);
  can : CanUnwipe l.t l.wiped.items;
}

abbrev pub decreases-loop-last : goal.decreases-loop-last
decreases-loop-last l = vec_len l.wiped
