use Rattle.std.proofs.Common.{◌≡◌}
use Rattle.mirror_json.proofs.line.write_key.Given as goal

abbrev pub invariant-loop-place : goal.invariant-loop-place
invariant-loop-place l = l.writer.before ≡ l.fn.writer.before
