-- A slot is made for a key that had none, or memory for it is refused.
use Rattle.std.specs.Prelude.{◌≡◌, ℕ, List, Some, None, Result, Ok, Err, IfOk, OnErr}
use Rattle.std.proofs.Common.{sym, ◌∙◌, ap, subst}
use Rattle.std.specs.FinMap.{FinMap, get, insert}
use Rattle.slab.specs.Slab.{Slab, SameValues}
use Rattle.model.specs.declared.key.Key.{Key}
use Rattle.model.specs.Key.{key_cmp}
use Rattle.rows.specs.declared.ordered.Slot.{Slot}
use Rattle.rows.specs.Kept.{KeepsSlots}
use Rattle.rows.specs.KeyLemmas.{get_inserted}
use Rattle.rows.specs.Ordered.{IsNamed, AddsName}
use Rattle.rows.specs.Slots.{found, row_at, number_at, rows_in, numbers_in, SameBeside}
use Rattle.rows.proofs.Names.{named_again, named_after_insert}
use Rattle.rows.proofs.Slots.{found-none, numbers_in-same, numbers_in-added, rows_in-same, slots_kept_by_insert}

-- an empty slot with this number was made at the key
abbrev pub IsMade : List (Key × Slot) → Slab Key → Slab Key → Key → ℕ → Type 0
IsMade fs old new key number = (found fs key ≡ Some (record { number = number; row = None })) × AddsName old new number key

-- a slot was made, or refused: rows and slots are as they were, but for the one that was made
pub record MakesSlot (es fs : List (Key × Slot)) (new : Slab Key) (key : Key) {E : Type 0} (r : Result ℕ E) : Type 0 where
  pub named : IsNamed (numbers_in fs) new
  pub rows : rows_in fs ≡ rows_in es
  pub slots : KeepsSlots (numbers_in es) (numbers_in fs)
  pub number : IfOk r (λ number. get (numbers_in fs) key ≡ Some number)

module _ (es fs : List (Key × Slot)) (old new : Slab Key) (key : Key) (beside : SameBeside es fs key)
    (absent : get (numbers_in es) key ≡ None) (was : IsNamed (numbers_in es) old) where
  none : found es key ≡ None
  none = found-none es key absent

  numbers : (number : ℕ) → IsMade fs old new key number → numbers_in fs ≡ insert (numbers_in es) key number
  numbers number made = numbers_in-added es fs key beside number (ap number_at made.0)

  same_numbers : found fs key ≡ None → numbers_in fs ≡ numbers_in es
  same_numbers gone = numbers_in-same es fs key beside (ap number_at (gone ∙ sym none))

  pub made_slot : {E : Type 0} (r : Result ℕ E) → IfOk r (IsMade fs old new key) → OnErr r ((found fs key ≡ None) × SameValues old new) → MakesSlot es fs new key r
  made_slot (Ok number) made refused = record {
    named = subst (λ (m : FinMap key_cmp ℕ). IsNamed m new) (sym (numbers number made))
        (named_after_insert (numbers_in es) old new was number made.1.beside key made.1.free absent made.1.here);
    rows = rows_in-same es fs key beside (ap row_at made.0 ∙ sym (ap row_at none));
    slots = λ other n e. ap (λ (m : FinMap key_cmp ℕ). get m other) (numbers number made) ∙ slots_kept_by_insert (numbers_in es) key number absent other n e;
    number = ap (λ (m : FinMap key_cmp ℕ). get m key) (numbers number made) ∙ get_inserted (numbers_in es) key number;
  }
  made_slot (Err e) made refused = record {
    named = subst (λ (m : FinMap key_cmp ℕ). IsNamed m new) (sym (same_numbers refused.0)) (named_again (numbers_in es) old new was refused.1);
    rows = rows_in-same es fs key beside (ap row_at refused.0 ∙ sym (ap row_at none));
    slots = λ other n at. ap (λ (m : FinMap key_cmp ℕ). get m other) (same_numbers refused.0) ∙ at;
    number = tt;
  }
