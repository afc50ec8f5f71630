-- The rows of one table, among those of all tables, are its own in the order of their keys.
use Rattle.std.specs.Prelude.{◌≡◌, ℕ, suc, ◌+◌, ◌<◌, ◌==◌, Bool, true, false, ◌&&◌, List, [], ◌∷◌, ◌++◌, map, filter, Some, refl, slice_get, T}
use Rattle.std.proofs.Common.{zero, sym, ◌∙◌, ap, subst, arith, append-nil}
use Rattle.std.specs.Ordering.{is_lt, nat_cmp, ordering_then}
use Rattle.std.specs.Cmp.{nat_cmp_is, nat_cmp_total, tied_itself}
use Rattle.std.specs.declared.cmp.Ordering.{Ordering}
use Rattle.std.specs.declared.cmp.Ordering.TheVariants.{Less, Equal}
use Rattle.std.specs.FinMap.{entries, entries_sorted, values, is_sorted}
use Rattle.std.specs.FinMap.Entries.{below_all}
use Rattle.std.proofs.lemmas.Bool.{eq-eqb, ne_eqb}
use Rattle.std.proofs.lemmas.List.Elements.{filter-append}
use Rattle.model.specs.declared.key.Key.{Key}
use Rattle.model.specs.declared.row.Row.{Row}
use Rattle.model.specs.Key.{key_cmp}
use Rattle.model.specs.ExactLemmas.{place_cmp_exact}
use Rattle.model.specs.Rows.{Place, place_cmp, place_cmp_total}
use Rattle.model.specs.SortedEntriesLemmas.{entries-from_entries}
use Rattle.model.specs.TableRows.{is_in_table, rows_of_table}
use Rattle.indexes.specs.Table.{TableContent}
use Rattle.indexes.specs.Gathered.{placed, rows_of}

-- ---- the rows of all tables stand in the order of their places

-- each at its place in the table with this number
abbrev at_table : ℕ → List (Key × Row) → List (Place × Row)
at_table number es = map (λ e. ((number, e.0), e.1)) es

both : (a b : Bool) → T a → T b → T (a && b)
both true b p q = q
both false b p q = p

first : (a b : Bool) → T (a && b) → T a
first true b p = tt
first false b p = p

second : (a b : Bool) → T (a && b) → T b
second true b p = p
second false b p = absurd p

same_number : (n : ℕ) → nat_cmp n n ≡ Equal
same_number n = tied_itself nat_cmp_total n

lower_number : (m n : ℕ) → m < n → nat_cmp m n ≡ Less
lower_number m n l = sym (nat_cmp_is m n Less l)

-- in one table, by the key
place_below : (n : ℕ) (key other : Key) → T (is_lt (key_cmp key other)) → T (is_lt (place_cmp (n, key) (n, other)))
place_below n key other below = subst (λ (r : Ordering). T (is_lt (ordering_then r (key_cmp key other)))) (sym (same_number n)) below

place_in_later : (m n : ℕ) (key other : Key) → m < n → T (is_lt (place_cmp (m, key) (n, other)))
place_in_later m n key other l = subst (λ (r : Ordering). T (is_lt (ordering_then r (key_cmp key other)))) (sym (lower_number m n l)) tt

below_own : (n : ℕ) (key : Key) (es : List (Key × Row)) (rest : List (Place × Row)) → T (below_all key_cmp key es) → T (below_all place_cmp (n, key) rest)
    → T (below_all place_cmp (n, key) (at_table n es ++ rest))
below_own n key [] rest below later = later
below_own n key (e ∷ es) rest below later = both _ _ (place_below n key e.0 (first _ _ below)) (below_own n key es rest (second _ _ below) later)

below_others : (m n : ℕ) (key : Key) (es : List (Key × Row)) (rest : List (Place × Row)) → m < n → T (below_all place_cmp (m, key) rest)
    → T (below_all place_cmp (m, key) (at_table n es ++ rest))
below_others m n key [] rest l later = later
below_others m n key (e ∷ es) rest l later = both _ _ (place_in_later m n key e.0 l) (below_others m n key es rest l later)

below_placed : (m n : ℕ) (key : Key) (ts : List TableContent) → m < n → T (below_all place_cmp (m, key) (placed n ts))
below_placed m n key [] l = tt
below_placed m n key (t ∷ ts) l = below_others m n key (entries t.rows) (placed (suc n) ts) l (below_placed m (suc n) key ts (omega arith))

sorted_onto : (n : ℕ) (es : List (Key × Row)) (rest : List (Place × Row)) → T (is_sorted key_cmp es) → ((key : Key) → T (below_all place_cmp (n, key) rest)) → T (is_sorted place_cmp rest)
    → T (is_sorted place_cmp (at_table n es ++ rest))
sorted_onto n [] rest own later sorted = sorted
sorted_onto n (e ∷ es) rest own later sorted =
    both _ _ (below_own n e.0 es rest (first _ _ own) (later e.0)) (sorted_onto n es rest (second _ _ own) later sorted)

sorted_placed : (n : ℕ) (ts : List TableContent) → T (is_sorted place_cmp (placed n ts))
sorted_placed n [] = tt
sorted_placed n (t ∷ ts) =
    sorted_onto n (entries t.rows) (placed (suc n) ts) (entries_sorted t.rows) (λ key. below_placed n (suc n) key ts (omega arith)) (sorted_placed (suc n) ts)

entries_placed : (ts : List TableContent) → entries (rows_of ts) ≡ placed 0 ts
entries_placed ts = entries-from_entries place_cmp_total place_cmp_exact (placed 0 ts) (sorted_placed 0 ts)

-- ---- those of one table

all_own : (n : ℕ) (es : List (Key × Row)) → filter (is_in_table n) (at_table n es) ≡ at_table n es
all_own n [] = refl
all_own n (e ∷ es) = rw (eq-eqb n n refl) (ap (λ (fs : List (Place × Row)). ((n, e.0), e.1) ∷ fs) (all_own n es))

none_own : (m n : ℕ) (es : List (Key × Row)) → (n == m) ≡ false → filter (is_in_table m) (at_table n es) ≡ []
none_own m n [] differs = refl
none_own m n (e ∷ es) differs = rw differs (none_own m n es differs)

rows_at_table : (n : ℕ) (es : List (Key × Row)) → map (λ (e : Place × Row). e.1) (at_table n es) ≡ map (λ (e : Key × Row). e.1) es
rows_at_table n [] = refl
rows_at_table n (e ∷ es) = ap (λ (rows : List Row). e.1 ∷ rows) (rows_at_table n es)

none_later : (m n : ℕ) (ts : List TableContent) → m < n → filter (is_in_table m) (placed n ts) ≡ []
none_later m n [] l = refl
none_later m n (t ∷ ts) l =
    filter-append (is_in_table m) (at_table n (entries t.rows)) (placed (suc n) ts)
    ∙ ap (λ (fs : List (Place × Row)). fs ++ filter (is_in_table m) (placed (suc n) ts)) (none_own m n (entries t.rows) (ne_eqb n m (λ e. absurd (omega arith))))
    ∙ none_later m (suc n) ts (omega arith)

own_placed : (n : ℕ) (ts : List TableContent) (i m : ℕ) (t : TableContent) → m ≡ n + i → slice_get ts i ≡ Some t
    → filter (is_in_table m) (placed n ts) ≡ at_table m (entries t.rows)
own_placed n [] i m t is at = absurd cc
own_placed n (s ∷ ts) zero m t is at =
    let here : n ≡ m = omega arith in
    let same : s ≡ t = cc in
    filter-append (is_in_table m) (at_table n (entries s.rows)) (placed (suc n) ts)
    ∙ ap (λ (fs : List (Place × Row)). filter (is_in_table m) (at_table n (entries s.rows)) ++ fs) (none_later m (suc n) ts (omega arith))
    ∙ append-nil _
    ∙ subst (λ (j : ℕ). filter (is_in_table m) (at_table j (entries s.rows)) ≡ at_table m (entries s.rows)) (sym here) (all_own m (entries s.rows))
    ∙ ap (λ (u : TableContent). at_table m (entries u.rows)) same
own_placed n (s ∷ ts) (suc i) m t is at =
    filter-append (is_in_table m) (at_table n (entries s.rows)) (placed (suc n) ts)
    ∙ ap (λ (fs : List (Place × Row)). fs ++ filter (is_in_table m) (placed (suc n) ts)) (none_own m n (entries s.rows) (ne_eqb n m (λ e. absurd (omega arith))))
    ∙ own_placed (suc n) ts i m t (omega arith) at

pub rows_of_table-gathered : (ts : List TableContent) (i : ℕ) (t : TableContent) → slice_get ts i ≡ Some t → rows_of_table (rows_of ts) i ≡ values t.rows
rows_of_table-gathered ts i t at =
    ap (λ (es : List (Place × Row)). map (λ (e : Place × Row). e.1) (filter (is_in_table i) es)) (entries_placed ts)
    ∙ ap (map (λ (e : Place × Row). e.1)) (own_placed 0 ts i i t (omega arith) at) ∙ rows_at_table i (entries t.rows)
