use Rattle.std.proofs.Common.{◌≡◌, [], map, drop}
use Rattle.model.specs.Effect.{all_back, serial}
use Rattle.change.specs.Inverse.{edits_of}
use Rattle.undo.specs.Undo.{CanUndo}
use Rattle.mirror_json.specs.Lines.{AppendsLines}
use Rattle.mirror_json.proofs.Following.{changes_of}
use Rattle.mirror_json.proofs.json_lines.append_all.Given as goal

abbrev pub invariant-loop-commit : goal.invariant-loop-commit
invariant-loop-commit l = record {
  schema : l.tables.schema ≡ l.fn.tables.schema;
  rows : serial l.fn.tables.schema l.tables.rows (changes_of (drop l.commit-index l.commits)) ≡ serial l.fn.tables.schema l.fn.tables.rows (changes_of l.commits);
  lines : AppendsLines [] l.lines.items;
  base : all_back l.tables.rows (map edits_of l.log.inverses) ≡ all_back l.fn.tables.rows (map edits_of l.fn.log.inverses);
  can : CanUndo l.tables l.log.inverses;
}
