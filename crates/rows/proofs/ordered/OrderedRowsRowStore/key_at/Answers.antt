use Rattle.std.specs.Prelude.{◌≡◌, ℕ, Option, Some, None, IfNone}
use Rattle.std.proofs.Common.{◌∙◌, ap}
use Rattle.slab.specs.Slab as slab
use Rattle.std.specs.FinMap.{FinMap, get}
use Rattle.model.specs.declared.key.Key.{Key}
use Rattle.model.specs.Key.{key_cmp}
use Rattle.std.specs.Borrow.{Bor}
use Rattle.std.specs.Option.{option_copied}
use Rattle.rows.specs.Kept.{Kept}
use Rattle.rows.proofs.ordered.OrderedRowsRowStore.key_at.Goals as goal

missed : (o : Option (Bor Key)) (slots : FinMap key_cmp ℕ) (number : ℕ) (at : Option Key) → option_copied o ≡ at → ((key : Key) → get slots key ≡ Some number → at ≡ Some key) → IfNone o ((key : Key) → get slots key ≡ Some number → ⊥)
missed None slots number at is named = λ key e. let there = named key e in absurd cc
missed (Some r) slots number at is named = tt

pub returns-clause-missed : goal.returns-clause-missed
returns-clause-missed c =
    missed c.get.result c.args.self.now.slots c.args.number (slab.get c.self.inside.keys c.args.number) c.get.ensures
    (λ key e. c.self.invariant.named key c.args.number (ap (λ (k : Kept). get k.slots key) c.self.view_is ∙ e))
