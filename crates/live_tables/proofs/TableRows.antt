-- The rows of one table among all, by their keys.
--     keyed, get_keyed, table_sorted, values_keyed      the entries of a table, in the order of their keys, and the row at each
--     found, ordered      a map in this order, as a list of entries
--     rows_by_keys      the row at each key tells the rows of the table
use Rattle.std.specs.Prelude.{◌≡◌, ℕ, ◌&&◌, Bool, true, false, cond, List, [], ◌∷◌, Some, refl, map, filter, T}
use Rattle.std.proofs.Common.{sym, ◌∙◌, ap, subst, true≢false}
use Rattle.std.specs.Ordering.{nat_cmp, eq_by_cmp, is_eq, is_lt, ordering_then}
use Rattle.std.specs.Cmp.{nat_cmp_total, tied_itself}
use Rattle.std.specs.declared.cmp.Ordering.{Ordering}
use Rattle.std.specs.declared.cmp.Ordering.TheVariants.{Less, Equal, Greater}
use Rattle.std.specs.List.{AllByRecursion}
use Rattle.std.specs.List.Sorted.{IsStrictlySortedBy}
use Rattle.std.specs.Map.{keys_of, values_of, lookup}
use Rattle.std.specs.FinMap.{nat_cmp-IsAntisymmetric, find, get, entries, entries_sorted, get-entries, is_sorted}
use Rattle.std.specs.FinMap.Entries.{below_all, same_entries}
use Rattle.std.proofs.lemmas.Bool.{eq-eqb}
use Rattle.std.proofs.lemmas.Map.Views.{exact_unsigned_eq}
use Rattle.model.specs.declared.key.Key.{Key}
use Rattle.model.specs.declared.row.Row.{Row}
use Rattle.model.specs.Key.{key_cmp, key_cmp_total}
use Rattle.model.specs.ExactLemmas.{key_cmp_exact}
use Rattle.model.specs.Rows.{Place, Rows, place_cmp}
use Rattle.model.specs.TableRows.{is_in_table, rows_of_table}
use Rattle.model.specs.TakenLemmas.{first_T, second_T}

-- ---- the entries of a table, by their keys alone

-- each that stands in the table, under its key
pub keyed : ℕ → List (Place × Row) → List (Key × Row)
keyed table [] = []
keyed table (e ∷ es) = cond (is_in_table table e) ((e.0.1, e.1) ∷ keyed table es) (keyed table es)

pub both : (a b : Bool) → T a → T b → T (a && b)
both true b p q = q
both false b p q = p

-- within a table places are in the order of their keys
within : (table : ℕ) (key other : Key) → place_cmp (table, key) (table, other) ≡ key_cmp key other
within table key other = ap (λ (r : Ordering). ordering_then r (key_cmp key other)) (tied_itself nat_cmp_total table)

in_table : (table : ℕ) (e : Place × Row) → is_in_table table e ≡ true → e.0.0 ≡ table
in_table table e is = exact_unsigned_eq e.0.0 table is

place_of : (table : ℕ) (e : Place × Row) → is_in_table table e ≡ true → (key : Key) → place_cmp (table, key) e.0 ≡ key_cmp key e.0.1
place_of table e is key = ap (λ (t : ℕ). place_cmp (table, key) (t, e.0.1)) (in_table table e is) ∙ within table key e.0.1

below_keyed : (table : ℕ) (key : Key) (es : List (Place × Row)) → T (below_all place_cmp (table, key) es) → T (below_all key_cmp key (keyed table es))
unfolding keyed
below_keyed table key [] below = tt
below_keyed table key (e ∷ es) below =
    let rest = below_keyed table key es (second_T _ _ below) in
    elim (is_in_table table e) as (λ b. is_in_table table e ≡ b → T (below_all key_cmp key (cond b ((e.0.1, e.1) ∷ keyed table es) (keyed table es)))) [
      | true ↦ λ is. both _ _ (subst (λ (r : Ordering). T (is_lt r)) (place_of table e is key) (first_T _ _ below)) rest
      | false ↦ λ is. rest
    ] refl

keyed_sorted : (table : ℕ) (es : List (Place × Row)) → T (is_sorted place_cmp es) → T (is_sorted key_cmp (keyed table es))
unfolding keyed
keyed_sorted table [] sorted = tt
keyed_sorted table (e ∷ es) sorted =
    let rest = keyed_sorted table es (second_T _ _ sorted) in
    elim (is_in_table table e) as (λ b. is_in_table table e ≡ b → T (is_sorted key_cmp (cond b ((e.0.1, e.1) ∷ keyed table es) (keyed table es)))) [
      | true ↦ λ is.
          both _ _ (below_keyed table e.0.1 es (subst (λ (t : ℕ). T (below_all place_cmp (t, e.0.1) es)) (in_table table e is) (first_T _ _ sorted))) rest
      | false ↦ λ is. rest
    ] refl

-- a place of another table is another place
elsewhere : (table : ℕ) (e : Place × Row) → is_in_table table e ≡ false → (key : Key) → eq_by_cmp place_cmp (table, key) e.0 ≡ false
elsewhere table e differs key = by (nat_cmp table e.0.0) refl
  where
    apart : nat_cmp table e.0.0 ≡ Equal → ⊥
    apart ties = let same : table ≡ e.0.0 = nat_cmp-IsAntisymmetric table e.0.0 ties in true≢false (sym (eq-eqb e.0.0 table (sym same)) ∙ differs)

    by : (r : Ordering) → nat_cmp table e.0.0 ≡ r → is_eq (ordering_then (nat_cmp table e.0.0) (key_cmp key e.0.1)) ≡ false
    by Less is = ap (λ (r : Ordering). is_eq (ordering_then r (key_cmp key e.0.1))) is
    by Equal is = absurd (apart is)
    by Greater is = ap (λ (r : Ordering). is_eq (ordering_then r (key_cmp key e.0.1))) is

find_keyed : (table : ℕ) (key : Key) (es : List (Place × Row)) → find key_cmp key (keyed table es) ≡ find place_cmp (table, key) es
unfolding keyed
find_keyed table key [] = refl
find_keyed table key (e ∷ es) =
    let rest = find_keyed table key es in
    elim (is_in_table table e) as (λ b. is_in_table table e ≡ b → find key_cmp key (cond b ((e.0.1, e.1) ∷ keyed table es) (keyed table es)) ≡ cond (eq_by_cmp place_cmp (table, key) e.0) (Some e.1) (find place_cmp (table, key) es)) [
      | true ↦ λ is.
          ap (cond (eq_by_cmp key_cmp key e.0.1) (Some e.1)) rest
          ∙ ap (λ (r : Ordering). cond (is_eq r) (Some e.1) (find place_cmp (table, key) es)) (sym (place_of table e is key))
      | false ↦ λ is. rest ∙ ap (λ (b : Bool). cond b (Some e.1) (find place_cmp (table, key) es)) (sym (elsewhere table e is key))
    ] refl

pub values_keyed : (table : ℕ) (es : List (Place × Row)) → values_of (keyed table es) ≡ map (λ (e : Place × Row). e.1) (filter (is_in_table table) es)
unfolding keyed
values_keyed table [] = refl
values_keyed table (e ∷ es) =
    elim (is_in_table table e) as (λ b. map (λ (f : Key × Row). f.1) (cond b ((e.0.1, e.1) ∷ keyed table es) (keyed table es)) ≡ map (λ (f : Place × Row). f.1) (cond b (e ∷ filter (is_in_table table) es) (filter (is_in_table table) es))) [
      | true ↦ ap (λ (rows : List Row). e.1 ∷ rows) (values_keyed table es)
      | false ↦ values_keyed table es
    ]

-- what stands at a key of the table
pub get_keyed : (rows : Rows) (table : ℕ) (key : Key) → find key_cmp key (keyed table (entries rows)) ≡ get rows (table, key)
get_keyed rows table key = find_keyed table key (entries rows) ∙ sym (get-entries rows (table, key))

-- the entries of a table are in the order of their keys
pub table_sorted : (rows : Rows) (table : ℕ) → T (is_sorted key_cmp (keyed table (entries rows)))
table_sorted rows table = keyed_sorted table (entries rows) (entries_sorted rows)

-- ---- maps in the order of their keys

module _ {X : Type 0} where
  pub found : (key : Key) (es : List (Key × X)) → lookup (λ (k : Key). is_eq (key_cmp key k)) es ≡ find key_cmp key es
  found key [] = refl
  found key (e ∷ es) = ap (cond (eq_by_cmp key_cmp key e.0) (Some e.1)) (found key es)

  below_first : (key : Key) (es : List (Key × X)) → AllByRecursion (λ k. key_cmp key k ≡ Less) (keys_of es) → T (below_all key_cmp key es)
  below_first key [] below = tt
  below_first key (e ∷ es) below = both _ _ (subst (λ (r : Ordering). T (is_lt r)) (sym below.0) tt) (below_first key es below.1)

  pub ordered : (es : List (Key × X)) → IsStrictlySortedBy key_cmp (keys_of es) → T (is_sorted key_cmp es)
  unfolding IsStrictlySortedBy
  ordered [] sorted = tt
  ordered (e ∷ es) sorted = both _ _ (below_first e.0 es sorted.0) (ordered es sorted.1)

-- rows in the order of their keys that have at each key the row of the table are those of the table
pub rows_by_keys : (es : List (Key × Row)) → T (is_sorted key_cmp es) → (rows : Rows) (table : ℕ)
    → ((key : Key) → find key_cmp key es ≡ get rows (table, key)) → values_of es ≡ rows_of_table rows table
rows_by_keys es sorted rows table same =
    ap values_of
    (same_entries key_cmp key_cmp_total key_cmp_exact es (keyed table (entries rows)) sorted (keyed_sorted table (entries rows) (entries_sorted rows))
    (λ key. same key ∙ sym (get_keyed rows table key)))
    ∙ values_keyed table (entries rows)
