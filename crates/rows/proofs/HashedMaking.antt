-- A slot is made for a key that had none, or memory for it is refused; a slot is dropped; and a row
-- is put into a slot, or taken.
use Rattle.std.specs.Prelude.{◌≡◌, ℕ, List, cond, Option, Some, None, Result, Ok, Err, IfOk, OnErr, is_some, IsSome, if◌then◌else◌, refl}
use Rattle.std.proofs.Common.{sym, ◌∙◌, ap, subst}
use Rattle.std.specs.Ordering.{eq_by_cmp}
use Rattle.std.specs.FinMap.{FinMap, get, remove}
use Rattle.std.specs.HashMap as hash
use Rattle.std.specs.HashMap.{HashMap}
use Rattle.slab.specs.Slab as slab
use Rattle.slab.specs.Slab.{Slab, SameValues}
use Rattle.model.specs.declared.key.Key.{Key}
use Rattle.model.specs.declared.row.Row.{Row}
use Rattle.model.specs.Key.{key_cmp}
use Rattle.rows.specs.KeyedSlot.{KeyedSlot}
use Rattle.rows.specs.Hashed.{number_for, seen, keys_in, IsFound, DropsSlot, number_to_drop, Unnumbers, SetsRow, SameKeys, GivesNumber}
use Rattle.rows.specs.Ordered.{IsNamed}
use Rattle.rows.specs.Slots.{found, row_at, number_at, rows_in, numbers_in, number_of_empty, with_row, with_row_at, SameBeside}
use Rattle.rows.proofs.HashedSlots.{get-numbers, add_beside, add_here, add_name, same_beside, same_found, same_names, drop_beside, drop_here, drop_others, drop_name, set_beside, set_here, set_keys}
use Rattle.rows.proofs.Making.{IsMade, MakesSlot, made_slot}
use Rattle.rows.proofs.Names.{named_again, named_after_settle}
use Rattle.rows.proofs.Slots.{rows_in-same, numbers_in-same}
use Rattle.rows.proofs.Slots as slots_by_key

module _ {S : Type 0} (before after : HashMap Key ℕ S) (es fs : List (Key × ℕ)) (s t : Slab KeyedSlot) (key : Key) (was : IsFound before es s) where
  module _ {E : Type 0} (r : Result ℕ E) (absent : get (numbers_in (seen s es)) key ≡ None) (beside : SameBeside (seen s es) (seen t fs) key)
      (made : IfOk r (IsMade (seen t fs) (keys_in s) (keys_in t) key))
      (refused : OnErr r ((found (seen t fs) key ≡ None) × SameValues (keys_in s) (keys_in t)))
      (hashed : (q : Key) → hash.get (eq_by_cmp key_cmp) after q ≡ number_for fs q) where
    making : MakesSlot (seen s es) (seen t fs) (keys_in t) key r
    making = made_slot (seen s es) (seen t fs) (keys_in s) (keys_in t) key beside absent was.named r made refused

    both : IsFound after fs t × MakesSlot (seen s es) (seen t fs) (keys_in t) key r
    both = (record { named = making.named; hashed = hashed }, making)

  -- nothing changed
  kept_same : {E : Type 0} (r : Result ℕ E) → SameKeys before after es fs s t → IfOk r (λ n. get (numbers_in (seen s es)) key ≡ Some n)
      → IsFound after fs t × MakesSlot (seen s es) (seen t fs) (keys_in t) key r
  kept_same r same told =
      let at = same_found s t es fs key same.slots same.order key in
      let beside = same_beside s t es fs key same.slots same.order in
      let numbers = numbers_in-same (seen s es) (seen t fs) key beside (ap number_at at) in
      let named = subst (λ (m : FinMap key_cmp ℕ). IsNamed m (keys_in t)) (sym numbers) (named_again (numbers_in (seen s es)) (keys_in s) (keys_in t) was.named (same_names s t es fs key same.slots same.order)) in (
        record { named = named; hashed = λ q. same.hashed q ∙ was.hashed q ∙ sym (same.order q) },
        record {
          named = named;
          rows = rows_in-same (seen s es) (seen t fs) key beside (ap row_at at);
          slots = λ other n e. ap (λ (m : FinMap key_cmp ℕ). get m other) numbers ∙ e;
          number = subst (λ (m : FinMap key_cmp ℕ). IfOk r (λ n. get m key ≡ Some n)) (sym numbers) told;
        },
      )

  module _ {E : Type 0} where
    -- by the number that was found before
    by_found : (was_found : Option ℕ) → hash.get (eq_by_cmp key_cmp) before key ≡ was_found → (r : Result ℕ E)
        → IfOk r (GivesNumber was_found before after es fs s t key) → OnErr r (SameKeys before after es fs s t)
        → IsFound after fs t × MakesSlot (seen s es) (seen t fs) (keys_in t) key r
    by_found was_found is (Err e) gives same = kept_same (Err e) same tt
    by_found None is (Ok n) adds same =
        both (Ok n) (get-numbers s es key ∙ sym (was.hashed key) ∙ is) (add_beside s t es fs key n was.named adds.slots adds.order)
        (add_here s t es fs key n was.named adds.slots adds.order, add_name s t es fs key n was.named adds.slots adds.order) tt
        (λ q. adds.hashed q ∙ ap (cond (eq_by_cmp key_cmp key q) (Some n)) (was.hashed q) ∙ sym (adds.order q))
    by_found (Some m) is (Ok n) finds same = kept_same (Ok n) finds.1 (get-numbers s es key ∙ sym (was.hashed key) ∙ is ∙ ap Some (sym finds.0))

    -- a slot was found or made, or memory was refused, and the hashes find the same numbers
    pub slot_given : (r : Result ℕ E) → IfOk r (GivesNumber (hash.get (eq_by_cmp key_cmp) before key) before after es fs s t key) → OnErr r (SameKeys before after es fs s t)
        → IsFound after fs t × MakesSlot (seen s es) (seen t fs) (keys_in t) key r
    slot_given = by_found (hash.get (eq_by_cmp key_cmp) before key) refl

  hashed_dropped : (dropped : Option ℕ) → Unnumbers (number_for es) (number_for fs) key dropped
      → Unnumbers (hash.get (eq_by_cmp key_cmp) before) (hash.get (eq_by_cmp key_cmp) after) key dropped
      → (q : Key) → hash.get (eq_by_cmp key_cmp) after q ≡ number_for fs q
  hashed_dropped None order hashes = λ q. hashes q ∙ was.hashed q ∙ sym (order q)
  hashed_dropped (Some n) order hashes = λ q. hashes q ∙ ap (cond (eq_by_cmp key_cmp key q) None) (was.hashed q) ∙ sym (order q)

  module _ (drops : DropsSlot s t (number_to_drop s (number_for es key)))
      (order : Unnumbers (number_for es) (number_for fs) key (number_to_drop s (number_for es key))) where
    pub settled_rows : rows_in (seen t fs) ≡ rows_in (seen s es)
    settled_rows =
        slots_by_key.rows_in-settled (seen s es) (seen t fs) key (drop_beside s t es fs key was.named drops order) (drop_here s t es fs key was.named drops order)

    pub settled_numbers : numbers_in (seen t fs) ≡ if is_some (get (rows_in (seen s es)) key) then numbers_in (seen s es) else remove (numbers_in (seen s es)) key
    settled_numbers =
        slots_by_key.numbers_in-settled (seen s es) (seen t fs) key (drop_beside s t es fs key was.named drops order) (drop_here s t es fs key was.named drops order)

    pub found_after_settle : Unnumbers (hash.get (eq_by_cmp key_cmp) before) (hash.get (eq_by_cmp key_cmp) after) key (number_to_drop s (number_for es key)) → IsFound after fs t
    found_after_settle hashes = record {
      named = subst (λ (m : FinMap key_cmp ℕ). IsNamed m (keys_in t)) (sym settled_numbers)
          (named_after_settle (numbers_in (seen s es)) (keys_in s) (keys_in t) was.named key (is_some (get (rows_in (seen s es)) key)) (number_of_empty (found (seen s es) key))
          (slots_by_key.number_dropped (seen s es) key) (drop_others s t es fs key was.named drops order) (drop_name s t es fs key was.named drops order));
      hashed = hashed_dropped (number_to_drop s (number_for es key)) order hashes;
    }

module _ (s t : Slab KeyedSlot) (es : List (Key × ℕ)) (key : Key) (number : ℕ) (row : Option Row)
    (named : IsNamed (numbers_in (seen s es)) (keys_in s)) (has : get (numbers_in (seen s es)) key ≡ Some number) (sets : SetsRow s t number row) where
  beside : SameBeside (seen s es) (seen t es) key
  beside = set_beside s t es key number row named has sets

  here : found (seen t es) key ≡ with_row_at row (found (seen s es) key)
  here = set_here s t es key number row named has sets

  pub set_numbers : numbers_in (seen t es) ≡ numbers_in (seen s es)
  set_numbers = slots_by_key.numbers_in-set (seen s es) (seen t es) key beside row here

  pub set_names : IsNamed (numbers_in (seen t es)) (keys_in t)
  set_names =
      subst (λ (m : FinMap key_cmp ℕ). IsNamed m (keys_in t)) (sym set_numbers)
      (named_again (numbers_in (seen s es)) (keys_in s) (keys_in t) named (set_keys s t es key number row named has sets))

  rows_by : (r : Option Row) → row ≡ r → rows_in (seen t es) ≡ with_row (rows_in (seen s es)) key r
  rows_by None is = slots_by_key.rows_in-taken (seen s es) (seen t es) key beside row here is
  rows_by (Some new) is = slots_by_key.rows_in-set (seen s es) (seen t es) key beside row here new is (subst (λ (o : Option ℕ). IsSome o) (sym has) refl)

  pub set_rows : rows_in (seen t es) ≡ with_row (rows_in (seen s es)) key row
  set_rows = rows_by row refl
