use Rattle.std.proofs.Common.{◌≡◌, map, drop}
use Rattle.model.specs.Effect.{all_back, serial}
use Rattle.change.specs.Inverse.{edits_of}
use Rattle.undo.specs.Undo.{CanUndo}
use Rattle.mirror_json.specs.Lines.{AppendsLines}
use Rattle.mirror_json.proofs.json_lines.follow.Given as goal

abbrev pub invariant-loop-change : goal.invariant-loop-change
invariant-loop-change l = record {
  schema : l.tables.schema ≡ l.fn.tables.schema;
  rows : serial l.fn.tables.schema l.tables.rows (drop l.change-index l.commit.changes) ≡ serial l.fn.tables.schema l.fn.tables.rows l.commit.changes;
  lines : AppendsLines l.fn.lines.items l.lines.items;
  base : all_back l.tables.rows (map edits_of l.log.inverses) ≡ all_back l.fn.tables.rows (map edits_of l.fn.log.inverses);
  can : CanUndo l.tables l.log.inverses;
}
