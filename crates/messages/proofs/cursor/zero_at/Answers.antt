use Rattle.std.proofs.Common.{sym, eq-eqb, arith}
use Rattle.std.proofs.lemmas.List.Sums.{position_or_len_is}
use Rattle.messages.specs.Field.{is_zero}
use Rattle.messages.proofs.cursor.zero_at.Goals as goal

pub returns-then-b-eq0 : goal.returns-then-b-eq0
returns-then-b-eq0 c = sym (position_or_len_is is_zero c.args.bytes.now c.loop-i.i 0 (omega arith) c.loop-i.invariant (λ _. eq-eqb _ _ c.if-b-eq0.true))

pub returns : goal.returns
returns c = sym (position_or_len_is is_zero c.args.bytes.now _ 0 (omega arith) (λ k lt. c.loop-i.invariant k (omega arith)) (λ lt. absurd (omega arith)))
