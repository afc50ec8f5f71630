-- A key among those of a run: at which place it stands, that it stands at none, or that it is above all.
use Rattle.std.specs.Prelude.{◌≡◌, ℕ, zero, suc, ◌+◌, ◌-◌, ◌<◌, Bool, true, false, cond, List, [], ◌∷◌, ◌++◌, length, Option, Some, None, refl, slice_get, slice_set, slice_index_or}
use Rattle.std.proofs.Common.{sym, ◌∙◌, ap, subst, arith}
use Rattle.std.proofs.lemmas.List.{get_or-map}
use Rattle.std.proofs.lemmas.List.Sorted.{searchable_from_sorted}
use Rattle.std.proofs.lemmas.Map.Entries.{lookup_at_gap}
use Rattle.std.proofs.lemmas.Map.Keys.{Less-from_sorted}
use Rattle.std.proofs.lemmas.Option.{get_or_from_slice_get, slice_get_within, slice_get-get_or}
use Rattle.std.specs.BTreeMap.{is_at}
use Rattle.std.specs.List.Sorted.{IsStrictlySortedBy, IsSortedBy, IsNonDecreasingBy, IsPartitionPoint}
use Rattle.std.specs.Map.{keys_of, lookup, set_value}
use Rattle.std.specs.Ordering.{is_lt, is_eq, eq_by_cmp, ordering_index, ordering_reverse}
use Rattle.std.specs.declared.cmp.Ordering.TheVariants.{Less, Equal, Greater}
use Rattle.std.proofs.lemmas.Cmp.{tied_back, alike_right}
use Rattle.model.specs.declared.key.Key.{Key}
use Rattle.model.specs.Key.{key_cmp, key_cmp_total}
use Rattle.rows.specs.Hashed.{number_for}
use Rattle.rows.specs.Run.{live_at, live}
use Rattle.rows.proofs.Runs.{IsBelow, Ascends, below_all, below_live, not_found, found_at, number_at, found_past}

-- ---- a key above all

ascends_alone : (first key : Key) → key_cmp first key ≡ Less → Ascends (first ∷ key ∷ [])
unfolding IsStrictlySortedBy
ascends_alone first key less = ((less, tt), (tt, tt))

ascends_before : (first second : Key) (keys : List Key) → key_cmp first second ≡ Less → Ascends (second ∷ keys) → Ascends (first ∷ second ∷ keys)
unfolding IsStrictlySortedBy
ascends_before first second keys less ascends = ((less, below_all first second keys less ascends.0), ascends)

first_two : (first second : Key) (keys : List Key) → Ascends (first ∷ second ∷ keys) → (key_cmp first second ≡ Less) × Ascends (second ∷ keys)
unfolding IsStrictlySortedBy
first_two first second keys ascends = (ascends.0.0, ascends.1)

one_less : (n : ℕ) → suc (suc n) - 1 ≡ suc (suc n - 1)
one_less n = omega arith

module _ {X : Type 0} (key : Key) (last : Key × X) (less : key_cmp last.0 key ≡ Less) where
  -- a key above the last of keys that ascend
  pub ascends_pushed : (run : List (Key × X)) → Ascends (keys_of run) → slice_get run (length run - 1) ≡ Some last → Ascends (keys_of run ++ key ∷ [])
  ascends_pushed [] ascends is = absurd cc
  ascends_pushed (e ∷ []) ascends is = ascends_alone e.0 key (let same : e ≡ last = cc in subst (λ (f : Key × X). key_cmp f.0 key ≡ Less) (sym same) less)
  ascends_pushed (e ∷ f ∷ es) ascends is =
      let parts = first_two e.0 f.0 (keys_of es) ascends in
      let behind = subst (λ n. slice_get (e ∷ f ∷ es) n ≡ Some last) (one_less (length es)) is in
      ascends_before e.0 f.0 (keys_of es ++ key ∷ []) parts.0 (ascends_pushed (f ∷ es) parts.1 behind)

pub ascends_alone_behind : {X : Type 0} (key : Key) (run : List (Key × X)) → slice_get run (length run - 1) ≡ None → Ascends (keys_of run ++ key ∷ [])
unfolding IsStrictlySortedBy
ascends_alone_behind key [] none = (tt, tt)
ascends_alone_behind key (e ∷ es) none = absurd (let some = slice_get-get_or (e ∷ es) (length (e ∷ es) - 1) e (omega arith) in cc)

-- ---- a key at a place

below_place : (key : Key) (run : List (Key × Option ℕ)) (i : ℕ) (d : Key × Option ℕ) → IsBelow key (keys_of run) → i < length run → key_cmp key (slice_index_or run i d).0 ≡ Less
below_place key [] i d below within = absurd (omega arith)
below_place key (e ∷ es) zero d below within = below.0
below_place key (e ∷ es) (suc i) d below within = below_place key es i d below.1 (omega arith)

differs : (key other : Key) → key_cmp other key ≡ Less → eq_by_cmp key_cmp key other ≡ false
differs key other less = ap is_eq (key_cmp_total.antisymm key other ∙ ap ordering_reverse less)

ties : (key other : Key) → key_cmp other key ≡ Equal → eq_by_cmp key_cmp key other ≡ true
ties key other equal = ap is_eq (tied_back key_cmp_total other key equal)

-- the key before a place is apart from the one there
before_place : (key : Key) (e : Key × Option ℕ) (es : List (Key × Option ℕ)) (i : ℕ) (d : Key × Option ℕ) → IsBelow e.0 (keys_of es) → i < length es
    → key_cmp (slice_index_or es i d).0 key ≡ Equal → eq_by_cmp key_cmp key e.0 ≡ false
before_place key e es i d below within equal =
    let less = below_place e.0 es i d below within in
    let there : key_cmp e.0 key ≡ Less = sym (alike e.0) ∙ less in
    differs key e.0 there
  where
    alike : (k : Key) → key_cmp k (slice_index_or es i d).0 ≡ key_cmp k key
    alike k = alike_right key_cmp_total (slice_index_or es i d).0 key k equal

module _ (key : Key) (d : Key × Option ℕ) where
  number_here : (at : Key) (number : Option ℕ) (es : List (Key × ℕ)) → eq_by_cmp key_cmp key at ≡ true → number_for es key ≡ None → number_for (live_at at number es) key ≡ number
  number_here at None es is none = none
  number_here at (Some n) es is none = ap (λ b. cond b (Some n) (number_for es key)) is

  -- the number at a key's place is the key's
  pub number_at_place : (run : List (Key × Option ℕ)) (i : ℕ) → Ascends (keys_of run) → i < length run → key_cmp (slice_index_or run i d).0 key ≡ Equal
      → number_for (live run) key ≡ (slice_index_or run i d).1
  unfolding IsStrictlySortedBy
  number_at_place [] i ascends within equal = absurd (omega arith)
  number_at_place (e ∷ es) zero ascends within equal =
      number_here e.0 e.1 (live es) (ties key e.0 equal)
      (not_found key (live es) (below_same e.0 (keys_of (live es)) equal (below_live e.0 es ascends.0)))
    where
      below_same : (other : Key) (keys : List Key) → key_cmp other key ≡ Equal → IsBelow other keys → IsBelow key keys
      below_same other [] tied below = tt
      below_same other (k ∷ keys) tied below = (sym (key_cmp_total.congr other key k tied) ∙ below.0, below_same other keys tied below.1)
  number_at_place (e ∷ es) (suc i) ascends within equal =
      number_at e.0 e.1 (live es) key
      ∙ ap (λ b. found_at b e.1 (number_for (live es) key)) (before_place key e es i d ascends.0 (omega arith) equal)
      ∙ found_past e.1 (number_for (live es) key)
      ∙ number_at_place es i ascends.1 (omega arith) equal

  -- no number at a key's place is none for the key
  pub set_at_place : (run : List (Key × Option ℕ)) (i : ℕ) → Ascends (keys_of run) → i < length run → key_cmp (slice_index_or run i d).0 key ≡ Equal
      → slice_set run i ((slice_index_or run i d).0, None) ≡ set_value (is_at (key_cmp key)) run None
  unfolding IsStrictlySortedBy
  set_at_place [] i ascends within equal = absurd (omega arith)
  set_at_place (e ∷ es) zero ascends within equal =
      sym (ap (λ b. cond b ((e.0, None) ∷ es) (e ∷ set_value (is_at (key_cmp key)) es None)) (ties key e.0 equal))
  set_at_place (e ∷ es) (suc i) ascends within equal =
      ap (λ xs. e ∷ xs) (set_at_place es i ascends.1 (omega arith) equal)
      ∙ sym (ap (λ b. cond b ((e.0, None) ∷ es) (e ∷ set_value (is_at (key_cmp key)) es None)) (before_place key e es i d ascends.0 (omega arith) equal))

-- ---- a key at no place

not_below : (lower upper : Key) → key_cmp lower upper ≡ Less → is_lt (key_cmp upper lower) ≡ false
not_below lower upper less = ap is_lt (key_cmp_total.antisymm upper lower ∙ ap ordering_reverse less)

sorted_by_keys : (run : List (Key × Option ℕ)) → Ascends (keys_of run) → IsSortedBy (λ a b. is_lt (key_cmp a.0 b.0)) run
sorted_by_keys run ascends k d from within =
    let less = Less-from_sorted key_cmp (keys_of run) k (k + 1) d.0 ascends (omega arith) (omega (arith, length_keys run)) in
    not_below (slice_index_or run k d).0 (slice_index_or run (k + 1) d).0
    (subst (λ (lower : Key). key_cmp lower (slice_index_or run (k + 1) d).0 ≡ Less) (get_or-map (λ (e : Key × Option ℕ). e.0) run k d d.0 (omega arith))
    (subst (λ (upper : Key). key_cmp (slice_index_or (keys_of run) k d.0) upper ≡ Less) (get_or-map (λ (e : Key × Option ℕ). e.0) run (k + 1) d d.0 within) less))
  where
    length_keys : (es : List (Key × Option ℕ)) → length (keys_of es) ≡ length es
    length_keys [] = refl
    length_keys (e ∷ es) = omega (arith, length_keys es)

-- a search by a key can halve a run
pub searchable : (run : List (Key × Option ℕ)) (key : Key) → Ascends (keys_of run) → IsNonDecreasingBy (λ e. ordering_index (key_cmp e.0 key)) run
searchable run key ascends = searchable_from_sorted key_cmp_total (λ (e : Key × Option ℕ). e.0) run key (sorted_by_keys run ascends)

-- where a search ends between the keys below and those above, the key is at no place
pub none_at_gap : (run : List (Key × Option ℕ)) (key : Key) (i : ℕ) → Ascends (keys_of run)
    → IsPartitionPoint (λ (e : Key × Option ℕ). key_cmp e.0 key ≡ Less) (λ e. key_cmp e.0 key ≡ Greater) run i → lookup (is_at (key_cmp key)) run ≡ None
none_at_gap run key i ascends parts =
    lookup_at_gap key_cmp_total key run i ascends
    (λ j e under is.
    let less = subst (λ (f : Key × Option ℕ). key_cmp f.0 key ≡ Less) (get_or_from_slice_get run j e e is) (parts.0 j e (omega arith) under) in
    key_cmp_total.antisymm key e.0 ∙ ap ordering_reverse less)
    (λ e is.
    let greater = subst (λ (f : Key × Option ℕ). key_cmp f.0 key ≡ Greater) (get_or_from_slice_get run i e e is) (parts.1 i e (omega arith) (slice_get_within run i e is)) in
    key_cmp_total.antisymm key e.0 ∙ ap ordering_reverse greater)

passed : {X : Type 0} (b : Bool) (x : X) (found : Option X) → cond b (Some x) found ≡ None → (b ≡ false) × (found ≡ None)
passed true x found is = absurd cc
passed false x found is = (refl, is)

module _ (key : Key) where
  pub number_at_no_place : (run : List (Key × Option ℕ)) → lookup (is_at (key_cmp key)) run ≡ None → number_for (live run) key ≡ None
  number_at_no_place [] none = refl
  number_at_no_place (e ∷ es) none =
      let past = passed (is_at (key_cmp key) e.0) e.1 (lookup (is_at (key_cmp key)) es) none in
      number_at e.0 e.1 (live es) key ∙ ap (λ b. found_at b e.1 (number_for (live es) key)) past.0
      ∙ found_past e.1 (number_for (live es) key) ∙ number_at_no_place es past.1

  pub set_at_no_place : (run : List (Key × Option ℕ)) → lookup (is_at (key_cmp key)) run ≡ None → run ≡ set_value (is_at (key_cmp key)) run None
  set_at_no_place [] none = refl
  set_at_no_place (e ∷ es) none =
      let past = passed (is_at (key_cmp key) e.0) e.1 (lookup (is_at (key_cmp key)) es) none in
      ap (λ xs. e ∷ xs) (set_at_no_place es past.1)
      ∙ sym (ap (λ b. cond b ((e.0, None) ∷ es) (e ∷ set_value (is_at (key_cmp key)) es None)) past.0)
