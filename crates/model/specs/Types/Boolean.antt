-- The type bool: a truth.
use Rattle.std.specs.Prelude.{◌≡◌, ◌⊎◌, ◌↔◌, ℕ, codes, Bool, true, false, cond, List, Option, Some, None, if◌then◌else◌, refl}
use Rattle.std.proofs.Common.{inl, inr, sym, ap, ◌∙◌, ⊎_elim}
use Rattle.std.specs.Ordering.{nat_cmp}
use Rattle.std.specs.declared.cmp.Ordering.TheVariants.{Equal}
use Rattle.std.specs.Str.{bytes_eq}
use Rattle.std.proofs.lemmas.Option.{same_Some}
use Rattle.std.proofs.lemmas.Slice.Eq.{bytes_eq-Decides}
use Rattle.model.specs.declared.value.Value.{Value}
use Rattle.model.specs.declared.value.Value.TheVariants.{Int as IntValue, Text as TextValue, Bool as BoolValue}

-- ---- how it is read

-- true for `t`, false for `f`
abbrev pub bool_of : List ℕ → Option Bool
bool_of text = if bytes_eq text (codes "t") then Some true else (if bytes_eq text (codes "f") then Some false else None)

-- the text is `t` and the truth true, or `f` and false
abbrev pub SpellsBool : List ℕ → Bool → Type 0
SpellsBool text truth = ((text ≡ codes "t") × (truth ≡ true)) ⊎ ((text ≡ codes "f") × (truth ≡ false))

-- ---- how it is printed

-- `t` for true, `f` for false
abbrev pub bool_text : Bool → List ℕ
bool_text true = codes "t"
bool_text false = codes "f"

-- ---- by what it is ordered

-- 1 for true; 0 for false and for another value
abbrev pub truth_of : Value → ℕ
truth_of (IntValue n) = 0
truth_of (TextValue t) = 0
truth_of (BoolValue b) = cond b 1 0

-- truths that tie are equal
pub truth_exact : (b c : Bool) → nat_cmp (cond b 1 0) (cond c 1 0) ≡ Equal → b ≡ c
truth_exact true true e = refl
truth_exact true false e = cc
truth_exact false true e = cc
truth_exact false false e = refl

-- ---- what is spelled is read, and what is printed is read again

by_tests : (text : List ℕ) (truth t f : Bool) → bytes_eq text (codes "t") ≡ t → bytes_eq text (codes "f") ≡ f → cond t (Some true) (cond f (Some false) None) ≡ Some truth → SpellsBool text truth
by_tests text truth true f is_t is_f e = inl ((bytes_eq-Decides text (codes "t")).0 is_t, sym (same_Some _ _ e))
by_tests text truth false true is_t is_f e = inr ((bytes_eq-Decides text (codes "f")).0 is_f, sym (same_Some _ _ e))
by_tests text truth false false is_t is_f e = cc

-- a text is read as the truth that it spells
pub bool_spelled : (text : List ℕ) (truth : Bool) → (bool_of text ≡ Some truth) ↔ SpellsBool text truth
bool_spelled text truth = (
  by_tests text truth _ _ refl refl,
  ⊎_elim (λ t. ap bool_of t.0 ∙ ap Some (sym t.1)) (λ f. ap bool_of f.0 ∙ ap Some (sym f.1)),
)

-- what is printed of a truth is read as it
pub bool_printed : (truth : Bool) → bool_of (bool_text truth) ≡ Some truth
bool_printed true = refl
bool_printed false = refl
