use Rattle.std.proofs.Common.{◌≡◌, take, drop, Contains}
use Rattle.model.specs.declared.cell.Cell.{Cell}
use Rattle.indexes.specs.Content.{KeepsCells}
use Rattle.undo.specs.Undo.{AreKnownAll, all_settled, AreSettled}
use Rattle.undo.proofs.log.settle_all.Given as goal

-- the cells of the inverses so far are given up, and no others
abbrev pub invariant-loop-inverse : goal.invariant-loop-inverse
invariant-loop-inverse l = record {
  rows : l.t.rows ≡ l.fn.t.rows;
  schema : l.t.schema ≡ l.fn.t.schema;
  known : AreKnownAll l.fn.t.schema (drop l.inverse-index l.inverses);
  gone : AreSettled l.fn.t.schema l.fn.t.rows l.t.room (take l.inverse-index l.inverses);
  fewer : KeepsCells l.t.room l.fn.t.room;
  others : (c : Cell) → ¬ Contains (all_settled l.fn.t.schema (take l.inverse-index l.inverses)) c → Contains l.fn.t.room c → Contains l.t.room c;
}
