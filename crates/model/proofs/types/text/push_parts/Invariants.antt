use Rattle.std.proofs.Common.{◌≡◌, ◌++◌, length}
use Rattle.model.specs.Types.Text.{escaped_text}
use Rattle.model.proofs.types.text.push_parts.Given as goal

abbrev pub invariant-loop-byte : goal.invariant-loop-byte
invariant-loop-byte l = l.out.items ++ escaped_text l.rest ≡ l.fn.out.items ++ escaped_text l.bytes

abbrev pub decreases-loop-byte : goal.decreases-loop-byte
decreases-loop-byte l = length l.rest
