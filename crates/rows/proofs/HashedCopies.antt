-- Slots by number that were copied, or moved where there is more room.
use Rattle.std.specs.Prelude.{◌≡◌, ℕ, List, [], ◌∷◌, Option, Some, None, refl, slice_index_or}
use Rattle.std.proofs.Common.{sym, ◌∙◌, ap, subst}
use Rattle.std.specs.FinMap.{FinMap}
use Rattle.std.specs.List.{AllZip}
use Rattle.std.specs.Map.{lookup}
use Rattle.std.specs.Ordering.{eq_by_cmp}
use Rattle.std.specs.HashMap as hash
use Rattle.std.specs.HashMap.{HashMap}
use Rattle.std.proofs.lemmas.List.Elements.{same_from_all_zip}
use Rattle.slab.specs.Slab as slab
use Rattle.slab.specs.Slab.{Slab, IsSlotClone, IsSlabClone}
use Rattle.model.specs.declared.key.Key.{Key}
use Rattle.model.specs.Key.{key_cmp}
use Rattle.rows.specs.KeyedSlot.{KeyedSlot}
use Rattle.rows.specs.declared.ordered.Slot.{Slot}
use Rattle.rows.specs.Hashed.{row_of, key_of, number_for, slot_by, seen, keys_in, kept_by, IsFound, SameNumbers}
use Rattle.rows.specs.Kept.{Kept}
use Rattle.rows.specs.Ordered.{IsNamed}
use Rattle.rows.specs.Slots.{rows_in, numbers_in}
use Rattle.rows.proofs.HashedSlots.{same_keys}
use Rattle.rows.proofs.Names.{named_again}

-- entries that are copied one by one are the same
pub same_entries : {K X : Type 0} (es fs : List (K × X)) → AllZip (λ (p q : K × X). (q.0 ≡ p.0) × (q.1 ≡ p.1)) es fs → fs ≡ es
same_entries {K} {X} es fs all =
    same_from_all_zip (λ (p q : K × X). (q.0 ≡ p.0) × (q.1 ≡ p.1)) es fs all (λ x y same. λ i. (same.0 i, same.1 i))

same_slot : (old new : Option KeyedSlot) → IsSlotClone (λ (s other : KeyedSlot). other ≡ s) old new → new ≡ old
same_slot None new is = is
same_slot (Some s) None is = absurd is
same_slot (Some s) (Some t) is = ap Some is

-- slots that are copied one by one are the same
pub same_slots : (s t : Slab KeyedSlot) → IsSlabClone (λ (s other : KeyedSlot). other ≡ s) s t → (n : ℕ) → slab.get t n ≡ slab.get s n
same_slots s t copied n =
    ap (λ (slots : List (Option KeyedSlot)). slice_index_or slots n None)
    (same_from_all_zip (IsSlotClone (λ (s other : KeyedSlot). other ≡ s)) s.slots t.slots copied.slots same_slot)

module _ (s t : Slab KeyedSlot) (same : (n : ℕ) → slab.get t n ≡ slab.get s n) where
  seen_same : (es : List (Key × ℕ)) → seen t es ≡ seen s es
  seen_same [] = refl
  seen_same (e ∷ es) =
      let slot = ap (λ (b : Option KeyedSlot). (let at : Slot = record { number = e.1; row = row_of b } in at)) (same e.1) in
      ap (λ (x : Slot). (e.0, x) ∷ seen t es) slot ∙ ap (λ (xs : List (Key × Slot)). (e.0, slot_by s e.1) ∷ xs) (seen_same es)

  seen_copied : (es fs : List (Key × ℕ)) → fs ≡ es → seen t fs ≡ seen s es
  seen_copied es fs order = ap (seen t) order ∙ seen_same es

  pub kept_copied : (es fs : List (Key × ℕ)) → fs ≡ es → kept_by t fs ≡ kept_by s es
  kept_copied es fs order = ap (λ (xs : List (Key × Slot)). (let k : Kept = record { rows = rows_in xs; slots = numbers_in xs } in k)) (seen_copied es fs order)

  -- the hashes find the same numbers
  pub found_again : {S : Type 0} (before after : HashMap Key ℕ S) (es : List (Key × ℕ)) → IsFound before es s
      → SameNumbers (hash.get (eq_by_cmp key_cmp) before) (hash.get (eq_by_cmp key_cmp) after) → IsFound after es t
  found_again before after es was hashes = record {
    named = subst (λ (m : FinMap key_cmp ℕ). IsNamed m (keys_in t)) (sym (ap numbers_in (seen_same es)))
        (named_again (numbers_in (seen s es)) (keys_in s) (keys_in t) was.named (λ n. same_keys s t n (ap key_of (same n))));
    hashed = λ key. hashes key ∙ was.hashed key;
  }

  pub found_copied : {S : Type 0} (before after : HashMap Key ℕ S) (es fs : List (Key × ℕ)) → IsFound before es s → after.entries ≡ before.entries → fs ≡ es → IsFound after fs t
  found_copied before after es fs was hashes order = record {
    named = subst (λ (m : FinMap key_cmp ℕ). IsNamed m (keys_in t)) (sym (ap numbers_in (seen_copied es fs order)))
        (named_again (numbers_in (seen s es)) (keys_in s) (keys_in t) was.named (λ n. same_keys s t n (ap key_of (same n))));
    hashed = λ key.
        ap (λ (xs : List (Key × ℕ)). lookup (eq_by_cmp key_cmp key) xs) hashes ∙ was.hashed key
        ∙ ap (λ (xs : List (Key × ℕ)). number_for xs key) (sym order);
  }
