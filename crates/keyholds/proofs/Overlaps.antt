-- Which cells overlap, and counts of the cells of a list.
use Rattle.std.specs.Prelude.{◌≡◌, ◌≢◌, ℕ, ◌+◌, ◌<◌, ◌==◌, ◌&&◌, Bool, true, false, cond, List, [], ◌∷◌, length, Some, refl, ◌⊎◌, slice_get, Contains, count_by, zero, suc}
use Rattle.std.proofs.Common.{sym, ◌∙◌, ap, subst, inl, inr, arith, zero-add}
use Rattle.std.proofs.lemmas.Grind.{common_steps}
use Rattle.std.proofs.lemmas.Option.{slice_get_read, slice_get_within, get_or_from_slice_get}
use Rattle.std.proofs.lemmas.List.Sums.{sum_by-append}
use Rattle.std.specs.Cmp.{nat_eq_equiv, eq_by_cmp_equiv}
use Rattle.std.proofs.lemmas.Map.Views.{tells_apart, exact_unsigned_eq}
use Rattle.model.specs.declared.key.Key.{Key}
use Rattle.model.specs.declared.cell.Cell.{Cell}
use Rattle.model.specs.declared.cell.Cell.TheVariants.{Row, Uniq, Whole}
use Rattle.model.specs.Key.{key_cmp_total}
use Rattle.model.specs.ExactLemmas.{key_cmp_exact}
use Rattle.model.specs.Cells.{table_of, overlaps, same_key}
use Rattle.keyholds.proofs.Ties.{tied_self}

-- ---- addresses in a list

pub contains_at : {X : Type 0} (xs : List X) (i : ℕ) (x : X) → slice_get xs i ≡ Some x → Contains xs x
contains_at xs i x e = (i, slice_get_within xs i x e, get_or_from_slice_get xs i x x e)

pub at_contains : {X : Type 0} (xs : List X) (x : X) (h : Contains xs x) → slice_get xs h.0 ≡ Some x
at_contains xs x h = slice_get_read xs (length xs) h.0 x refl h.1 (sym h.2)

pub contains_next : {X : Type 0} (y : X) (xs : List X) (x : X) → Contains xs x → Contains (y ∷ xs) x
contains_next y xs x h = contains_at (y ∷ xs) (suc h.0) x (at_contains xs x h)

-- ---- how many elements pass a test

pub count_by-cons : {X : Type 0} (p : X → Bool) (x : X) (xs : List X) → count_by p (x ∷ xs) ≡ cond (p x) 1 0 + count_by p xs
count_by-cons p x xs = sum_by-append (λ y. cond (p y) 1 0) (x ∷ []) xs ∙ ap (λ n. n + count_by p xs) (zero-add (cond (p x) 1 0))

one_passes : {X : Type 0} (p : X → Bool) (x : X) (xs : List X) (b : Bool) → p x ≡ b → 0 < cond b 1 0 + count_by p xs → (p x ≡ true) ⊎ (0 < count_by p xs)
one_passes p x xs true e h = inl e
one_passes p x xs false e h = inr (omega (arith, h))

-- some element passes
pub some_counted : {X : Type 0} (p : X → Bool) (xs : List X) → 0 < count_by p xs → (x : X) × Contains xs x × (p x ≡ true)
some_counted p [] h = absurd (omega (arith, h))
some_counted p (x ∷ xs) h = elim (one_passes p x xs (p x) refl (subst (λ n. 0 < n) (count_by-cons p x xs) h)) [
  | inl e ↦ (x, contains_at (x ∷ xs) 0 x refl, e)
  | inr rest ↦ let found = some_counted p xs rest in (found.0, contains_next x xs found.0 found.1, found.2)
]

none_passes : (b : Bool) (n : ℕ) → cond b 1 0 + n ≡ 0 → (b ≡ false) × (n ≡ 0)
none_passes true n e = absurd (omega (arith, e))
none_passes false n e = (refl, omega (arith, e))

-- no element passes
pub none_counted_at : {X : Type 0} (p : X → Bool) (xs : List X) → count_by p xs ≡ 0 → (i : ℕ) (x : X) → slice_get xs i ≡ Some x → p x ≡ false
none_counted_at p [] e i x at = absurd cc
none_counted_at p (y ∷ ys) e zero x at = let first = (none_passes (p y) (count_by p ys) (sym (count_by-cons p y ys) ∙ e)).0 in grind (arith, common_steps)
none_counted_at p (y ∷ ys) e (suc i) x at = none_counted_at p ys (none_passes (p y) (count_by p ys) (sym (count_by-cons p y ys) ∙ e)).1 i x at

-- ---- cells

same_table : (n : ℕ) → (n == n) ≡ true
same_table n = nat_eq_equiv.refl n

all_true : {a b : Bool} → a ≡ true → b ≡ true → (a && b) ≡ true
all_true {b = b} e f = ap (λ x. x && b) e ∙ f

pub overlaps_itself : (cell : Cell) → overlaps cell cell ≡ true
overlaps_itself (Row table key) = all_true (same_table table) (tied_self key_cmp_total key)
overlaps_itself (Uniq table number values) = all_true (same_table table) (all_true (same_table number) (tied_self key_cmp_total values))
overlaps_itself (Whole table) = same_table table

pub overlaps_whole : (cell : Cell) → overlaps cell (Whole (table_of cell)) ≡ true
overlaps_whole (Row table key) = same_table table
overlaps_whole (Uniq table number values) = same_table table
overlaps_whole (Whole table) = same_table table

both : (a b : Bool) → (a && b) ≡ true → (a ≡ true) × (b ≡ true)
both true b e = (refl, e)
both false b e = absurd cc

same_number : (n m : ℕ) → (n == m) ≡ true → n ≡ m
same_number = exact_unsigned_eq

same_keys : (key other : Key) → same_key key other ≡ true → key ≡ other
same_keys = tells_apart key_cmp_exact

-- a cell that is no whole table overlaps itself and its table alone
pub overlap_cases : (cell d : Cell) → ((table : ℕ) → cell ≢ Whole table) → overlaps cell d ≡ true → (d ≡ cell) ⊎ (d ≡ Whole (table_of cell))
overlap_cases (Row t k) (Row u l) apart e = let h = both (t == u) (same_key k l) e in inl (λ i. Row (sym (same_number t u h.0) i) (sym (same_keys k l h.1) i))
overlap_cases (Row t k) (Uniq u j l) apart e = absurd cc
overlap_cases (Row t k) (Whole u) apart e = inr (ap Whole (sym (same_number t u e)))
overlap_cases (Uniq t n k) (Row u l) apart e = absurd cc
overlap_cases (Uniq t n k) (Uniq u m l) apart e =
    let h = both (t == u) ((n == m) && same_key k l) e in
    let g = both (n == m) (same_key k l) h.1 in
    inl (λ i. Uniq (sym (same_number t u h.0) i) (sym (same_number n m g.0) i) (sym (same_keys k l g.1) i))
overlap_cases (Uniq t n k) (Whole u) apart e = inr (ap Whole (sym (same_number t u e)))
overlap_cases (Whole t) d apart e = absurd (apart t refl)

-- a cell that overlaps another lies in its table
pub overlaps_above : (cell d : Cell) → overlaps cell d ≡ true → overlaps (Whole (table_of cell)) d ≡ true
overlaps_above (Row t k) (Row u l) e = (both (t == u) (same_key k l) e).0
overlaps_above (Row t k) (Uniq u m l) e = absurd cc
overlaps_above (Row t k) (Whole u) e = e
overlaps_above (Uniq t n k) (Row u l) e = absurd cc
overlaps_above (Uniq t n k) (Uniq u m l) e = (both (t == u) ((n == m) && same_key k l) e).0
overlaps_above (Uniq t n k) (Whole u) e = e
overlaps_above (Whole t) d e = e

both_symm : (a b c d : Bool) → a ≡ c → b ≡ d → (a && b) ≡ (c && d)
both_symm a b c d e f = λ i. e i && f i

number_symm : (n m : ℕ) → (n == m) ≡ (m == n)
number_symm = nat_eq_equiv.symm

keys_symm : (k l : Key) → same_key k l ≡ same_key l k
keys_symm = (eq_by_cmp_equiv key_cmp_total).symm

pub overlaps_symm : (c d : Cell) → overlaps c d ≡ overlaps d c
overlaps_symm (Row t k) (Row u l) = both_symm (t == u) (same_key k l) (u == t) (same_key l k) (number_symm t u) (keys_symm k l)
overlaps_symm (Row t k) (Uniq u m l) = refl
overlaps_symm (Row t k) (Whole u) = number_symm t u
overlaps_symm (Uniq t n k) (Row u l) = refl
overlaps_symm (Uniq t n k) (Uniq u m l) =
    both_symm (t == u) ((n == m) && same_key k l) (u == t) ((m == n) && same_key l k) (number_symm t u)
    (both_symm (n == m) (same_key k l) (m == n) (same_key l k) (number_symm n m) (keys_symm k l))
overlaps_symm (Uniq t n k) (Whole u) = number_symm t u
overlaps_symm (Whole t) (Row u l) = number_symm t u
overlaps_symm (Whole t) (Uniq u m l) = number_symm t u
overlaps_symm (Whole t) (Whole u) = number_symm t u
