use Rattle.std.specs.Prelude.{◌≡◌, ℕ, Option, Some, None, IfNone, IfSome}
use Rattle.std.proofs.Common.{sym, ◌∙◌, ap}
use Rattle.std.specs.Borrow.{Bor}
use Rattle.std.specs.FinMap.{FinMap, get}
use Rattle.std.specs.Option.{option_copied}
use Rattle.model.specs.declared.key.Key.{Key}
use Rattle.model.specs.Key.{key_cmp}
use Rattle.rows.specs.Hashed.{key_of}
use Rattle.rows.specs.Kept.{Kept}
use Rattle.slab.specs.Slab as slab
use Rattle.rows.proofs.HashedSlots.{get-keys}
use Rattle.rows.proofs.hashed.HashedRows.key_at.Goals as goal

missed : (o : Option (Bor Key)) (slots : FinMap key_cmp ℕ) (number : ℕ) (at : Option Key) → option_copied o ≡ at → ((key : Key) → get slots key ≡ Some number → at ≡ Some key) → IfNone o ((key : Key) → get slots key ≡ Some number → ⊥)
missed None slots number at is named = λ key e. let there = named key e in absurd cc
missed (Some r) slots number at is named = tt

there : (o : Option (Bor Key)) (slots : FinMap key_cmp ℕ) (number : ℕ) (at : Option Key) → option_copied o ≡ at → ((key : Key) → at ≡ Some key → get slots key ≡ Some number) → IfSome o (λ key. get slots key.now ≡ Some number)
there None slots number at is names = tt
there (Some r) slots number at is names = names r.now (sym is)

pub returns-clause-found : goal.returns-clause-found
returns-clause-found g c =
    there c.key_in.result c.args.self.now.slots c.args.number (key_of (slab.get c.self.inside.slots c.args.number)) c.key_in.ensures
    (λ key e. ap (λ (k : Kept). get k.slots key) (sym c.self.view_is) ∙ c.self.invariant.named.names key c.args.number (get-keys c.self.inside.slots c.args.number ∙ e))

pub returns-clause-missed : goal.returns-clause-missed
returns-clause-missed g c =
    missed c.key_in.result c.args.self.now.slots c.args.number (key_of (slab.get c.self.inside.slots c.args.number)) c.key_in.ensures
    (λ key e. sym (get-keys c.self.inside.slots c.args.number) ∙ c.self.invariant.named.named key c.args.number (ap (λ (k : Kept). get k.slots key) c.self.view_is ∙ e))
