-- Sums over the open transactions, as one is opened, changed or closed.
use Rattle.std.proofs.Common.{◌≡◌, ℕ, ◌+◌, true, List, [], ◌∷◌, Some, None, cond, refl, sym, ap, ◌∙◌, arith, ⊎_elim}
use Rattle.std.specs.Prelude.{sum_by}
use Rattle.std.specs.Ordering.{nat_cmp, is_eq, eq_by_cmp}
use Rattle.std.specs.declared.cmp.Ordering.{Ordering}
use Rattle.std.specs.declared.cmp.Ordering.TheVariants.{Less, Equal, Greater}
use Rattle.std.specs.Cmp.{nat_cmp_total}
use Rattle.std.specs.FinMap as map
use Rattle.std.specs.FinMap.{FinMap, find, put, nat_cmp-IsAntisymmetric}
use Rattle.std.specs.FinMap.Entries.{by_order}
use Rattle.std.proofs.lemmas.Bool.{cases_Bool}
use Rattle.std.proofs.lemmas.Bool.Decides.{nat_tests}
use Rattle.std.proofs.lemmas.List.Sums.{sum_by-cons}

equal_from_is_eq : (o : Ordering) → is_eq o ≡ true → o ≡ Equal
equal_from_is_eq Less e = cc
equal_from_is_eq Equal e = refl
equal_from_is_eq Greater e = cc

-- keys that tie are the same
pub same_key : (q k : ℕ) → eq_by_cmp nat_cmp q k ≡ true → q ≡ k
same_key q k e = nat_cmp-IsAntisymmetric q k (equal_from_is_eq (nat_cmp q k) e)

sum_by-put : {X : Type 0} (f : ℕ × X → ℕ) (k : ℕ) (v : X) (es : List (ℕ × X)) → find nat_cmp k es ≡ None → sum_by f (put nat_cmp k v es) ≡ f (k, v) + sum_by f es
sum_by-put f k v [] none = sum_by-cons f (k, v) []
sum_by-put {X} f k v (e ∷ es) none = by_cases (sum_by-put f k v es) (nat_cmp k e.0) refl
  where
    by_cases : (find nat_cmp k es ≡ None → sum_by f (put nat_cmp k v es) ≡ f (k, v) + sum_by f es) → (o : Ordering) → nat_cmp k e.0 ≡ o → sum_by f (put nat_cmp k v (e ∷ es)) ≡ f (k, v) + sum_by f (e ∷ es)
    by_cases others Less h = ap (λ o. sum_by f (by_order o ((k, v) ∷ e ∷ es) ((e.0, v) ∷ es) (e ∷ put nat_cmp k v es))) h ∙ sum_by-cons f (k, v) (e ∷ es)
    by_cases others Equal h = let found : Some e.1 ≡ None = ap (λ o. cond (is_eq o) (Some e.1) (find nat_cmp k es)) (sym h) ∙ none in cc
    by_cases others Greater h =
        let later : find nat_cmp k es ≡ None = ap (λ o. cond (is_eq o) (Some e.1) (find nat_cmp k es)) (sym h) ∙ none in
        let rest = others later in
        let one = sum_by-cons f e es in
        let more = sum_by-cons f e (put nat_cmp k v es) in
        let sums : sum_by f (e ∷ put nat_cmp k v es) ≡ f (k, v) + sum_by f (e ∷ es) = omega arith in
        ap (λ o. sum_by f (by_order o ((k, v) ∷ e ∷ es) ((e.0, v) ∷ es) (e ∷ put nat_cmp k v es))) h ∙ sums

-- ---- a map without a key, and with it again

pub insert-remove : {X : Type 0} (m : FinMap nat_cmp X) (k : ℕ) (w : X) → map.insert (map.remove m k) k w ≡ map.insert m k w
insert-remove {X} m k w = map.same_map nat_cmp_total nat_cmp-IsAntisymmetric _ _ (λ q.
    map.get-insert nat_cmp_total (map.remove m k) k w q
    ∙ ⊎_elim
    (λ same. rw same)
    (λ apart. rw apart (map.get-remove nat_cmp_total m k q ∙ rw apart))
    (cases_Bool (eq_by_cmp nat_cmp q k))
    ∙ sym (map.get-insert nat_cmp_total m k w q))

pub insert_same : {X : Type 0} (m : FinMap nat_cmp X) (k : ℕ) (v : X) → map.get m k ≡ Some v → map.insert m k v ≡ m
insert_same {X} m k v has = map.same_map nat_cmp_total nat_cmp-IsAntisymmetric _ _ (λ q.
    map.get-insert nat_cmp_total m k v q
    ∙ ⊎_elim
    (λ same. rw same (sym (ap (map.get m) (same_key q k same) ∙ has)))
    (λ apart. rw apart)
    (cases_Bool (eq_by_cmp nat_cmp q k)))

pub ties_itself : (n : ℕ) → eq_by_cmp nat_cmp n n ≡ true
ties_itself n = grind (arith, nat_tests)

get-remove_same : {X : Type 0} (m : FinMap nat_cmp X) (k : ℕ) → map.get (map.remove m k) k ≡ None
get-remove_same m k = map.get-remove nat_cmp_total m k k ∙ rw (ties_itself k)

pub get-insert_same : {X : Type 0} (m : FinMap nat_cmp X) (k : ℕ) (v : X) → map.get (map.insert m k v) k ≡ Some v
get-insert_same m k v = map.get-insert nat_cmp_total m k v k ∙ rw (ties_itself k)

pub insert-insert : {X : Type 0} (m : FinMap nat_cmp X) (k : ℕ) (v w : X) → map.insert (map.insert m k v) k w ≡ map.insert m k w
insert-insert {X} m k v w = map.same_map nat_cmp_total nat_cmp-IsAntisymmetric _ _ (λ q.
    map.get-insert nat_cmp_total (map.insert m k v) k w q
    ∙ ⊎_elim
    (λ same. rw same)
    (λ apart. rw apart (map.get-insert nat_cmp_total m k v q ∙ rw apart))
    (cases_Bool (eq_by_cmp nat_cmp q k))
    ∙ sym (map.get-insert nat_cmp_total m k w q))

-- ---- sums

pub total-insert_absent : {X : Type 0} (f : ℕ × X → ℕ) (m : FinMap nat_cmp X) (k : ℕ) (v : X) → map.get m k ≡ None → sum_by f (map.entries (map.insert m k v)) ≡ f (k, v) + sum_by f (map.entries m)
total-insert_absent f m k v none = ap (sum_by f) (map.entries-insert nat_cmp_total m k v) ∙ sum_by-put f k v (map.entries m) (sym (map.get-entries m k) ∙ none)

pub total-insert : {X : Type 0} (f : ℕ × X → ℕ) (m : FinMap nat_cmp X) (k : ℕ) (w : X) → sum_by f (map.entries (map.insert m k w)) ≡ f (k, w) + sum_by f (map.entries (map.remove m k))
total-insert f m k w = ap (λ n. sum_by f (map.entries n)) (sym (insert-remove m k w)) ∙ total-insert_absent f (map.remove m k) k w (get-remove_same m k)

pub total-remove : {X : Type 0} (f : ℕ × X → ℕ) (m : FinMap nat_cmp X) (k : ℕ) (v : X) → map.get m k ≡ Some v → sum_by f (map.entries m) ≡ f (k, v) + sum_by f (map.entries (map.remove m k))
total-remove f m k v has = sym (ap (λ n. sum_by f (map.entries n)) (insert_same m k v has)) ∙ total-insert f m k v
