use Rattle.std.proofs.Common.{◌≡◌, map, take}
use Rattle.model.specs.Effect.{all_back, serial}
use Rattle.model.specs.Survivors.{changes_of}
use Rattle.model.specs.Accepted.{AreAccepted}
use Rattle.change.specs.Inverse.{edits_of}
use Rattle.undo.specs.Undo.{CanUndo}
use Rattle.engine.proofs.open_work.apply_each.Given as goal

-- the items so far were applied, and can be undone
abbrev pub invariant-loop-item : goal.invariant-loop-item
invariant-loop-item l = record {
  schema : l.tables.schema ≡ l.fn.tables.schema;
  done : l.tables.rows ≡ serial l.fn.tables.schema l.fn.tables.rows (changes_of (take l.item-index l.items));
  clear : AreAccepted l.fn.tables.schema l.fn.tables.rows (changes_of (take l.item-index l.items));
  base : all_back l.tables.rows (map edits_of l.undo.inverses) ≡ all_back l.fn.tables.rows (map edits_of l.fn.undo.inverses);
  can_undo : CanUndo l.tables l.undo.inverses;
}
