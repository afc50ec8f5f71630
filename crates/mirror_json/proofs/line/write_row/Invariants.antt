use Rattle.std.proofs.Common.{◌≡◌}
use Rattle.mirror_json.proofs.line.write_row.Given as goal

abbrev pub invariant-loop-number : goal.invariant-loop-number
invariant-loop-number l = l.writer.before ≡ l.fn.writer.before
