-- A step at each index of a table, one more of them done.
use Rattle.std.specs.Prelude.{◌≡◌, ◌≢◌, ℕ, suc, ◌+◌, ◌<◌, ◌≤◌, List, ◌∷◌, Option, Some, None, length, refl, ◌⊎◌, slice_index_or, slice_set, take, drop, ◌++◌, is_some, Bool, true, false, if◌then◌else◌}
use Rattle.std.proofs.Common.{zero, sym, ◌∙◌, ap, subst, inl, inr, arith}
use Rattle.std.specs.Global.{Vec}
use Rattle.std.proofs.lemmas.List.{get_or-set_same, get_or-set_other, take_at}
use Rattle.std.proofs.Math.ListN.{length-set}
use Rattle.std.proofs.lemmas.Option.{slice_get-get_or}
use Rattle.indexes.specs.declared.unique.Unique.{Unique}
use Rattle.model.specs.declared.key.Key.{Key}
use Rattle.model.specs.declared.row.Row.{Row}
use Rattle.model.specs.Rows.{values_in}
use Rattle.indexes.specs.Unique.{entry_at, held, held_by, number_in, with_number, KeepsSlots, Sets, Puts, is_used, EachStep}
use Rattle.indexes.proofs.Entries.{sets_keep, none_of_false}
use Rattle.indexes.proofs.Indexing.{has_or_not}

before_or_after : (k i : ℕ) → (k < i + 1) ⊎ (i < k)
before_or_after k i = grind arith

pub same_or_not : (n m : ℕ) → (n ≡ m) ⊎ (n ≢ m)
same_or_not n m = grind arith

-- within a list the default does not matter
pub any_default : (us : List Unique) (i : ℕ) (d e : Unique) → i < length us → slice_index_or us i d ≡ slice_index_or us i e
any_default us i d e l = let one = slice_get-get_or us i d l in let two = slice_get-get_or us i e l in cc

module _ (Step : Unique → Unique → Type 0) (olds now : List Unique) (i : ℕ) (within : i < length now)
    (left : (k : ℕ) (d : Unique) → i ≤ k → slice_index_or now k d ≡ slice_index_or olds k d)
    (item new : Unique) where
  pub left_after : (k : ℕ) (d : Unique) → i < k → slice_index_or (slice_set now i new) k d ≡ slice_index_or olds k d
  left_after k d lt = get_or-set_other now i k new d (λ same. absurd (omega arith)) ∙ left k d (omega arith)

  pub left_more : (k : ℕ) (d : Unique) → i + 1 ≤ k → slice_index_or (slice_set now i new) k d ≡ slice_index_or olds k d
  left_more k d le = get_or-set_other now i k new d (λ same. absurd (omega arith)) ∙ left k d (omega arith)

  pub new_there : (k : ℕ) (d : Unique) → k ≡ i → slice_index_or (slice_set now i new) k d ≡ new
  new_there k d same = ap (λ j. slice_index_or (slice_set now i new) j d) same ∙ get_or-set_same now i new d within

  old_there : (k : ℕ) (d : Unique) → k ≡ i → slice_index_or now i item ≡ slice_index_or olds k d
  old_there k d same = any_default now i item d within ∙ left i d (omega arith) ∙ ap (λ j. slice_index_or olds j d) (sym same)

  pub done_more : ((k : ℕ) (d : Unique) → k < i → Step (slice_index_or olds k d) (slice_index_or now k d)) → Step (slice_index_or now i item) new
      → (k : ℕ) (d : Unique) → k < i + 1 → Step (slice_index_or olds k d) (slice_index_or (slice_set now i new) k d)
  done_more done step k d lt = elim (same_or_not k i) [
    | inl same ↦ subst (λ (u : Unique). Step (slice_index_or olds k d) u) (sym (new_there k d same)) (subst (λ (u : Unique). Step u new) (old_there k d same) step)
    | inr differs ↦ subst (λ (u : Unique). Step (slice_index_or olds k d) u) (sym (get_or-set_other now i k new d differs)) (done k d (omega arith))
  ]

  pub each_more : (P : Unique → Type 0) → ((k : ℕ) (d : Unique) → k < i → P (slice_index_or now k d)) → P new
      → (k : ℕ) (d : Unique) → k < i + 1 → P (slice_index_or (slice_set now i new) k d)
  each_more P done there k d lt = elim (same_or_not k i) [
    | inl same ↦ subst P (sym (new_there k d same)) there
    | inr differs ↦ subst P (sym (get_or-set_other now i k new d differs)) (done k d (omega arith))
  ]

itself : (u : Unique) → KeepsSlots u u
itself u = record { columns = refl; entries = record { numbers = λ values. refl; entries = λ values some. some } }

module _ (Step : Unique → Unique → Type 0) (same : (u : Unique) → Step u u) (olds now : List Unique) (i : ℕ) (within : i < length now)
    (left : (k : ℕ) (d : Unique) → i ≤ k → slice_index_or now k d ≡ slice_index_or olds k d) (item new : Unique) where
  -- where the loop stopped, those behind it are as they were
  all_stepped : ((k : ℕ) (d : Unique) → k < i → Step (slice_index_or olds k d) (slice_index_or now k d)) → Step (slice_index_or now i item) new
      → length now ≡ length olds → EachStep Step olds (slice_set now i new)
  all_stepped done step long = record {
    long = length-set now i new ∙ long;
    each = λ k d lt. elim (before_or_after k i) [
      | inl before ↦ done_more Step olds now i within left item new done step k d before
      | inr after ↦ subst (λ (u : Unique). Step (slice_index_or olds k d) u) (sym (left_after Step olds now i within left item new k d after)) (same (slice_index_or olds k d))
    ];
  }

-- one index took a step, and the others are as they were
pub one_stepped : (Step : Unique → Unique → Type 0) → ((u : Unique) → Step u u) → (us : List Unique) (i : ℕ) → i < length us → (item new : Unique) → Step (slice_index_or us i item) new → EachStep Step us (slice_set us i new)
one_stepped Step same us i within item new step = all_stepped Step same us us i within (λ k d l. refl) item new (λ k d l. same (slice_index_or us k d)) step refl

pub all_kept : (olds now : List Unique) (i : ℕ) (within : i < length now) (left : (k : ℕ) (d : Unique) → i ≤ k → slice_index_or now k d ≡ slice_index_or olds k d)
    (item new : Unique) → ((k : ℕ) (d : Unique) → k < i → KeepsSlots (slice_index_or olds k d) (slice_index_or now k d)) → KeepsSlots (slice_index_or now i item) new
    → length now ≡ length olds → EachStep KeepsSlots olds (slice_set now i new)
all_kept = all_stepped KeepsSlots itself

-- ---- numbers put, and taken away again

-- the first index takes a step, and each of the others does
pub step_before : (Step : Unique → Unique → Type 0) (u v : Unique) (us vs : List Unique) → Step u v → EachStep Step us vs → EachStep Step (u ∷ us) (v ∷ vs)
step_before Step u v us vs first rest = record { long = ap suc rest.long; each = by_place }
  where
    by_place : (k : ℕ) (d : Unique) → k < suc (length us) → Step (slice_index_or (u ∷ us) k d) (slice_index_or (v ∷ vs) k d)
    by_place zero d l = first
    by_place (suc k) d l = rest.each k d (omega arith)

-- where no key is told, it is not used
pub not_told : (used : Bool) (key : ℕ) → (if used then Some key else None) ≡ None → used ≡ false
not_told true key e = absurd cc
not_told false key e = refl

emptied : (o : Option (Option ℕ)) → number_in (with_number None o) ≡ None
emptied None = refl
emptied (Some number) = refl

-- a number that came where none was is taken away again
pub taken_away : (row : Row) (number : ℕ) (u v w : Unique) → is_used row u ≡ false → Puts row number u v → Sets row None v w → KeepsSlots u w
taken_away row number u v w unused puts sets =
    let columns_is : v.columns ≡ u.columns = puts.columns in
    let here : (values : Key) → values_in u.columns row ≡ Some values → entry_at w.entries values ≡ with_number None (entry_at v.entries values) =
    λ values has. sets.entries.here values (ap (λ cs. values_in cs row) columns_is ∙ has) in
    let beside : (values : Key) → values_in u.columns row ≢ Some values → entry_at w.entries values ≡ entry_at v.entries values =
    λ values differs. sets.entries.beside values (λ has. differs (ap (λ cs. values_in cs row) (sym columns_is) ∙ has)) in
    let free : (values : Key) → values_in u.columns row ≡ Some values → held u.entries values ≡ None =
    λ values has. none_of_false (held u.entries values) (ap (λ o. is_some (held_by u.entries o)) (sym has) ∙ unused) in
    record {
      columns = sets.columns ∙ puts.columns;
      entries = record {
        numbers = λ values. elim (has_or_not (values_in u.columns row) values) [
          | inl has ↦ ap number_in (here values has) ∙ emptied (entry_at v.entries values) ∙ sym (free values has)
          | inr has_not ↦ ap number_in (beside values has_not) ∙ puts.entries.beside values has_not
        ];
        entries = λ values some. sets_keep v.columns row None v.entries w.entries sets.entries values (puts.entries.entries values some);
      };
    }

-- ---- a slice of all of a vector

pub whole_step : (Step : Unique → Unique → Type 0) (v : Vec Unique) (olds news : List Unique) → olds ≡ v.items → EachStep Step olds news → EachStep Step v.items (take v.len (news ++ drop (length news) v.items))
whole_step Step v olds news is steps =
    let at : EachStep Step v.items news = subst (λ (us : List Unique). EachStep Step us news) is steps in
    subst (λ (us : List Unique). EachStep Step v.items us) (sym (take_at news (drop (length news) v.items) v.len (at.long ∙ sym v.ok.0))) at
