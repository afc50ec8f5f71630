-- The open transactions as a list.
--     got_same, got_other, gone_same, gone_other      what a map of them answers after an insert or a remove
--     reordered_back, reordered_map      lists in another order, the other way round and item by item
--     listed_with, listed_without      a listing once a transaction is there, and once it is gone
--     each_found, keys_differ      each item of the entries is in the map, and no two have one xid
use Rattle.std.specs.Prelude.{◌≡◌, ◌≢◌, ℕ, true, false, cond, T, List, [], ◌∷◌, map, Some, None, refl, ◌⊎◌}
use Rattle.std.proofs.Common.{sym, ◌∙◌, ap, subst, inl, inr, true≢false}
use Rattle.std.specs.List.{AllByRecursion}
use Rattle.std.specs.declared.cmp.Ordering.{Ordering}
use Rattle.std.specs.declared.cmp.Ordering.TheVariants.{Less, Equal, Greater}
use Rattle.std.specs.Ordering.{nat_cmp, is_lt, is_eq}
use Rattle.std.specs.Cmp.{nat_cmp_total, eq_by_cmp_equiv}
use Rattle.std.specs.FinMap.{FinMap, get, insert, remove, entries, find, put, is_sorted, entries_sorted, entries-insert, get-entries, get-insert, get-remove, same_map, nat_cmp-IsAntisymmetric}
use Rattle.std.specs.FinMap.Entries.{below_all, by_order}
use Rattle.std.proofs.lemmas.Map.Views.{tells_apart}
use Rattle.model.specs.TakenLemmas.{first_T, second_T}
use Rattle.world.specs.World.{is_xid}
use Rattle.world.specs.Live.{Reordered, same, under, swapped, through}

-- ---- xids

same_xid : (xid : ℕ) → is_xid xid xid ≡ true
same_xid = (eq_by_cmp_equiv nat_cmp_total).refl

xid_is : (xid other : ℕ) → is_xid xid other ≡ true → xid ≡ other
xid_is = tells_apart nat_cmp-IsAntisymmetric

other_xid : (xid other : ℕ) → xid ≢ other → is_xid xid other ≡ false
other_xid xid other apart =
    elim (is_xid xid other) as (λ b. is_xid xid other ≡ b → b ≡ false) [ true ↦ λ e. absurd (apart (xid_is xid other e)) | false ↦ λ e. refl ] refl

pub xid_cases : (xid other : ℕ) → (xid ≡ other) ⊎ (xid ≢ other)
xid_cases xid other =
    elim (is_xid xid other) as (λ b. is_xid xid other ≡ b → (xid ≡ other) ⊎ (xid ≢ other)) [
      | true ↦ λ e. inl (xid_is xid other e)
      | false ↦ λ e. inr (λ s. true≢false (sym (same_xid xid) ∙ ap (is_xid xid) s ∙ e))
    ] refl

-- ---- a map by xid

module _ {X : Type 0} (m : FinMap nat_cmp X) (xid : ℕ) where
  pub got_same : (x : X) → get (insert m xid x) xid ≡ Some x
  got_same x = get-insert nat_cmp_total m xid x xid ∙ ap (λ b. cond b (Some x) (get m xid)) (same_xid xid)

  pub got_other : (x : X) (other : ℕ) → other ≢ xid → get (insert m xid x) other ≡ get m other
  got_other x other apart =
      get-insert nat_cmp_total m xid x other ∙ ap (λ b. cond b (Some x) (get m other)) (other_xid other xid apart)

  pub gone_same : get (remove m xid) xid ≡ None
  gone_same = get-remove nat_cmp_total m xid xid ∙ ap (λ b. cond b None (get m xid)) (same_xid xid)

  pub gone_other : (other : ℕ) → other ≢ xid → get (remove m xid) other ≡ get m other
  gone_other other apart =
      get-remove nat_cmp_total m xid other ∙ ap (λ b. cond b None (get m other)) (other_xid other xid apart)

pub same_by_xid : {X : Type 0} (m n : FinMap nat_cmp X) → ((xid : ℕ) → get m xid ≡ get n xid) → m ≡ n
same_by_xid m n alike = same_map nat_cmp_total nat_cmp-IsAntisymmetric m n alike

-- what is there is what is left without it, and it
pub there_again : {X : Type 0} (m : FinMap nat_cmp X) (xid : ℕ) (x : X) → get m xid ≡ Some x
    → m ≡ insert (remove m xid) xid x
there_again m xid x is = same_by_xid m (insert (remove m xid) xid x) (λ other.
    elim (xid_cases other xid) [
      | inl at ↦ ap (get m) at ∙ is ∙ sym (got_same (remove m xid) xid x) ∙ ap (get (insert (remove m xid) xid x)) (sym at)
      | inr apart ↦ sym (got_other (remove m xid) xid x other apart ∙ gone_other m xid other apart)
    ])

pub removed_again : {X : Type 0} (m : FinMap nat_cmp X) (xid : ℕ) (x : X) → remove (insert m xid x) xid ≡ remove m xid
removed_again m xid x = same_by_xid (remove (insert m xid x) xid) (remove m xid) (λ other.
    elim (xid_cases other xid) [
      | inl at ↦ ap (get (remove (insert m xid x) xid)) at ∙ gone_same (insert m xid x) xid ∙ sym (ap (get (remove m xid)) at ∙ gone_same m xid)
      | inr apart ↦ gone_other (insert m xid x) xid other apart ∙ got_other m xid x other apart ∙ sym (gone_other m xid other apart)
    ])

-- where none is there, nothing is removed
pub none_removed : {X : Type 0} (m : FinMap nat_cmp X) (xid : ℕ) → get m xid ≡ None → remove m xid ≡ m
none_removed m xid none = same_by_xid (remove m xid) m (λ other.
    elim (xid_cases other xid) [
      | inl at ↦ ap (get (remove m xid)) at ∙ gone_same m xid ∙ sym (ap (get m) at ∙ none)
      | inr apart ↦ gone_other m xid other apart
    ])

-- ---- lists in another order

pub reordered_back : {A : Type 0} (xs ys : List A) → Reordered xs ys → Reordered ys xs
reordered_back _ _ same = same
reordered_back _ _ (under x {xs = xs} {ys = ys} rest) = under x (reordered_back xs ys rest)
reordered_back _ _ (swapped x y xs) = swapped y x xs
reordered_back _ _ (through {xs = xs} {ys = ys} {zs = zs} first rest) =
    through (reordered_back ys zs rest) (reordered_back xs ys first)

pub reordered_map : {A B : Type 0} (f : A → B) (xs ys : List A) → Reordered xs ys → Reordered (map f xs) (map f ys)
reordered_map f _ _ same = same
reordered_map f _ _ (under x {xs = xs} {ys = ys} rest) = under (f x) (reordered_map f xs ys rest)
reordered_map f _ _ (swapped x y xs) = swapped (f x) (f y) (map f xs)
reordered_map f _ _ (through {xs = xs} {ys = ys} {zs = zs} first rest) =
    through (reordered_map f xs ys first) (reordered_map f ys zs rest)

-- an entry whose key is new, put in its place
put_listed : {X : Type 0} (xid : ℕ) (x : X) (es : List (ℕ × X)) → find nat_cmp xid es ≡ None
    → Reordered ((xid, x) ∷ es) (put nat_cmp xid x es)
put_listed xid x [] none = same
put_listed {X} xid x (e ∷ es) none =
    elim (nat_cmp xid e.0) as (λ o. cond (is_eq o) (Some e.1) (find nat_cmp xid es) ≡ None
    → Reordered ((xid, x) ∷ e ∷ es) (by_order o ((xid, x) ∷ e ∷ es) ((e.0, x) ∷ es) (e ∷ put nat_cmp xid x es))) [
      | Less ↦ λ not. same
      | Equal ↦ λ not. absurd (not_none e.1 (sym not))
      | Greater ↦ λ not. through (swapped (xid, x) e es) (under e (put_listed xid x es not))
    ] none
  where
    not_none : (y : X) → ¬ (None ≡ Some y)
    not_none y h = cc

module _ {X : Type 0} (m : FinMap nat_cmp X) (xid : ℕ) (x : X) where
  pub listed_with : get m xid ≡ None → Reordered ((xid, x) ∷ entries m) (entries (insert m xid x))
  listed_with none =
      subst (λ (es : List (ℕ × X)). Reordered ((xid, x) ∷ entries m) es) (sym (entries-insert nat_cmp_total m xid x))
      (put_listed xid x (entries m) (sym (get-entries m xid) ∙ none))

  -- the one that is there, and then the others
  pub listed_first : get m xid ≡ Some x → Reordered ((xid, x) ∷ entries (remove m xid)) (entries m)
  listed_first is =
      subst (λ (n : FinMap nat_cmp X). Reordered ((xid, x) ∷ entries (remove m xid)) (entries n))
      (sym (there_again m xid x is)) (with_again)
    where
      with_again : Reordered ((xid, x) ∷ entries (remove m xid)) (entries (insert (remove m xid) xid x))
      with_again =
          subst (λ (es : List (ℕ × X)). Reordered ((xid, x) ∷ entries (remove m xid)) es)
          (sym (entries-insert nat_cmp_total (remove m xid) xid x))
          (put_listed xid x (entries (remove m xid)) (sym (get-entries (remove m xid) xid) ∙ gone_same m xid))

-- ---- entries

less_differs : (xid other : ℕ) → T (is_lt (nat_cmp xid other)) → xid ≢ other
less_differs xid other less e =
    let itself : is_eq (nat_cmp xid xid) ≡ true = same_xid xid in
    let now : T (is_lt (nat_cmp xid xid)) = subst (λ n. T (is_lt (nat_cmp xid n))) (sym e) less in
    both (nat_cmp xid xid) itself now
  where
    both : (o : Ordering) → is_eq o ≡ true → T (is_lt o) → ⊥
    both Less e l = true≢false (sym e)
    both Equal e l = l
    both Greater e l = l

all_above : {X : Type 0} (xid : ℕ) (es : List (ℕ × X)) → T (below_all nat_cmp xid es)
    → AllByRecursion (λ (f : ℕ × X). xid ≢ f.0) es
all_above xid [] below = tt
all_above xid (e ∷ es) below = (less_differs xid e.0 (first_T _ _ below), all_above xid es (second_T _ _ below))

-- no two have one xid
abbrev pub KeysDiffer : {X : Type 0} → List (ℕ × X) → Type 0
KeysDiffer [] = Unit {0}
KeysDiffer {X} (e ∷ es) = AllByRecursion (λ (f : ℕ × X). e.0 ≢ f.0) es × KeysDiffer es

sorted_differ : {X : Type 0} (es : List (ℕ × X)) → T (is_sorted nat_cmp es) → KeysDiffer es
sorted_differ [] sorted = tt
sorted_differ (e ∷ es) sorted = (all_above e.0 es (first_T _ _ sorted), sorted_differ es (second_T _ _ sorted))

pub keys_differ : {X : Type 0} (m : FinMap nat_cmp X) → KeysDiffer (entries m)
keys_differ m = sorted_differ (entries m) (entries_sorted m)

found_past : {X : Type 0} (e : ℕ × X) (es fs : List (ℕ × X)) → AllByRecursion (λ (f : ℕ × X). e.0 ≢ f.0) fs
    → AllByRecursion (λ (f : ℕ × X). find nat_cmp f.0 es ≡ Some f.1) fs
    → AllByRecursion (λ (f : ℕ × X). find nat_cmp f.0 (e ∷ es) ≡ Some f.1) fs
found_past e es [] apart found = tt
found_past e es (f ∷ fs) apart found =
    (ap (λ b. cond b (Some e.1) (find nat_cmp f.0 es)) (other_xid f.0 e.0 (λ s. apart.0 (sym s))) ∙ found.0, found_past e es fs apart.1 found.1)

all_found : {X : Type 0} (es : List (ℕ × X)) → KeysDiffer es
    → AllByRecursion (λ (e : ℕ × X). find nat_cmp e.0 es ≡ Some e.1) es
all_found [] differ = tt
all_found (e ∷ es) differ =
    (ap (λ b. cond b (Some e.1) (find nat_cmp e.0 es)) (same_xid e.0), found_past e es es differ.0 (all_found es differ.1))

-- each is in the map
pub each_found : {X : Type 0} (m : FinMap nat_cmp X) → AllByRecursion (λ (e : ℕ × X). get m e.0 ≡ Some e.1) (entries m)
each_found {X} m = found (entries m) (all_found (entries m) (keys_differ m))
  where
    found : (es : List (ℕ × X)) → AllByRecursion (λ (e : ℕ × X). find nat_cmp e.0 (entries m) ≡ Some e.1) es
        → AllByRecursion (λ (e : ℕ × X). get m e.0 ≡ Some e.1) es
    found [] all = tt
    found (e ∷ es) all = (get-entries m e.0 ∙ all.0, found es all.1)
