use Rattle.std.specs.Prelude.{ℕ, List, length}
use Rattle.std.proofs.Common.{ap, subst, arith}
use Rattle.std.specs.Map.{keys_of}
use Rattle.model.specs.declared.key.Key.{Key}
use Rattle.rows.proofs.KeyOrders.{ascends_in_order, length-numbers_left}
use Rattle.rows.proofs.Runs.{Ascends}
use Rattle.rows.proofs.key_order.KeyOrder.numbers.Goals as goal

pub returns-clause-ordered : goal.returns-clause-ordered
returns-clause-ordered c =
    subst (λ (es : List (Key × ℕ)). Ascends (keys_of es)) c.self.view_is
    (ascends_in_order c.self.inside.run.items c.self.inside.beside.entries c.self.invariant c.iter-beside.ensures.ordered)

pub returns-clause-fits : goal.returns-clause-fits
returns-clause-fits c =
    omega (
      arith,
      length-numbers_left c.as_slice.result.now c.next-ahead.result c.iter-beside.result c.next-ahead.new.self c.next-ahead.ensures.steps,
      ap length c.as_slice.ensures.value,
      ap length c.iter-beside.ensures.rest,
      c.self.invariant.fits,
    )
