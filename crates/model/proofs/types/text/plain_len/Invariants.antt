use Rattle.std.proofs.Common.{◌≡◌, take}
use Rattle.model.specs.Types.Text.{escaped_text}
use Rattle.model.proofs.types.text.plain_len.Given as goal

abbrev pub invariant-loop-at : goal.invariant-loop-at
invariant-loop-at l = escaped_text (take l.at l.bytes) ≡ take l.at l.bytes
