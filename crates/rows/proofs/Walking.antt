-- The rows in slots, one after another, are those of the map that the slots are seen as.
use Rattle.std.specs.Prelude.{◌≡◌, ℕ, suc, ◌≤◌, length, Bool, true, false, cond, ◌&&◌, List, [], ◌∷◌, map, Option, Some, None, refl, T}
use Rattle.std.proofs.Common.{arith, sym, ◌∙◌, ap, subst}
use Rattle.std.specs.Ordering.{is_lt, is_eq}
use Rattle.std.specs.declared.cmp.Ordering.{Ordering}
use Rattle.std.specs.declared.cmp.Ordering.TheVariants.{Less}
use Rattle.std.specs.List.{cons_option, AllByRecursion}
use Rattle.std.specs.List.Sorted.{IsStrictlySortedBy}
use Rattle.std.specs.Map.{keys_of, values_of}
use Rattle.std.specs.FinMap.{FinMap, get, insert, entries, values, from_entries, is_sorted}
use Rattle.std.specs.FinMap.Entries.{below_all}
use Rattle.model.specs.declared.key.Key.{Key}
use Rattle.model.specs.declared.row.Row.{Row}
use Rattle.model.specs.Key.{key_cmp, key_cmp_total}
use Rattle.model.specs.ExactLemmas.{key_cmp_exact}
use Rattle.model.specs.SortedEntriesLemmas.{entries-from_entries}
use Rattle.rows.specs.declared.ordered.Slot.{Slot}
use Rattle.rows.specs.Slots.{found, row_at, with_row, rows_in, rows_among}
use Rattle.rows.specs.KeyLemmas.{get_removed, get_beside_remove, same_at_and_beside}
use Rattle.rows.proofs.Slots.{get-rows_in}

-- the rows that lie in slots, by their keys
abbrev filled_at : Key → Option Row → List (Key × Row) → List (Key × Row)
filled_at key None es = es
filled_at key (Some row) es = (key, row) ∷ es

abbrev filled : List (Key × Slot) → List (Key × Row)
filled [] = []
filled (e ∷ es) = filled_at e.0 e.1.row (filled es)

both : (a b : Bool) → T a → T b → T (a && b)
both true b p q = q
both false b p q = p

below_at : (key other : Key) (row : Option Row) (es : List (Key × Row)) → key_cmp key other ≡ Less → T (below_all key_cmp key es) → T (below_all key_cmp key (filled_at other row es))
below_at key other None es less below = below
below_at key other (Some row) es less below = both _ _ (subst (λ (r : Ordering). T (is_lt r)) (sym less) tt) below

below_filled : (key : Key) (es : List (Key × Slot)) → AllByRecursion (λ other. key_cmp key other ≡ Less) (keys_of es) → T (below_all key_cmp key (filled es))
below_filled key [] below = tt
below_filled key (e ∷ es) below = below_at key e.0 e.1.row (filled es) below.0 (below_filled key es below.1)

sorted_at : (key : Key) (row : Option Row) (es : List (Key × Row)) → T (below_all key_cmp key es) → T (is_sorted key_cmp es) → T (is_sorted key_cmp (filled_at key row es))
sorted_at key None es below sorted = sorted
sorted_at key (Some row) es below sorted = both _ _ below sorted

sorted_filled : (es : List (Key × Slot)) → IsStrictlySortedBy key_cmp (keys_of es) → T (is_sorted key_cmp (filled es))
unfolding IsStrictlySortedBy
sorted_filled [] ordered = tt
sorted_filled (e ∷ es) ordered = sorted_at e.0 e.1.row (filled es) (below_filled e.0 es ordered.0) (sorted_filled es ordered.1)

missed : (key : Key) (es : List (Key × Slot)) → AllByRecursion (λ other. key_cmp key other ≡ Less) (keys_of es) → found es key ≡ None
missed key [] below = refl
missed key (e ∷ es) below = ap (λ r. cond (is_eq r) (Some e.1) (found es key)) below.0 ∙ missed key es below.1

made_of_at : (key : Key) (row : Option Row) (es : List (Key × Row)) (rows : FinMap key_cmp Row) → rows ≡ from_entries es → get rows key ≡ None → with_row rows key row ≡ from_entries (filled_at key row es)
made_of_at key None es rows is absent =
    same_at_and_beside _ _ key (get_removed rows key ∙ sym absent) (λ q apart. get_beside_remove rows key q apart) ∙ is
made_of_at key (Some row) es rows is absent = ap (λ (m : FinMap key_cmp Row). insert m key row) is

made_of_filled : (es : List (Key × Slot)) → IsStrictlySortedBy key_cmp (keys_of es) → rows_in es ≡ from_entries (filled es)
unfolding IsStrictlySortedBy
made_of_filled [] ordered = refl
made_of_filled (e ∷ es) ordered =
    made_of_at e.0 e.1.row (filled es) (rows_in es) (made_of_filled es ordered.1) (get-rows_in es e.0 ∙ ap row_at (missed e.0 es ordered.0))

values_at : (key : Key) (row : Option Row) (es : List (Key × Row)) (rows : List Row) → map (λ (e : Key × Row). e.1) es ≡ rows → map (λ (e : Key × Row). e.1) (filled_at key row es) ≡ cons_option row rows
values_at key None es rows is = is
values_at key (Some row) es rows is = ap (λ rs. row ∷ rs) is

values_of_filled : (es : List (Key × Slot)) → map (λ (e : Key × Row). e.1) (filled es) ≡ rows_among (values_of es)
values_of_filled [] = refl
values_of_filled (e ∷ es) = values_at e.0 e.1.row (filled es) (rows_among (values_of es)) (values_of_filled es)

pub rows_among-values : (es : List (Key × Slot)) → IsStrictlySortedBy key_cmp (keys_of es) → rows_among (values_of es) ≡ values (rows_in es)
rows_among-values es ordered =
    sym (values_of_filled es)
    ∙ ap (map (λ (e : Key × Row). e.1)) (sym (ap entries (made_of_filled es ordered) ∙ entries-from_entries key_cmp_total key_cmp_exact (filled es) (sorted_filled es ordered)))

one_more_or_none : (row : Option Row) (rows : List Row) (n : ℕ) → length rows ≤ n → length (cons_option row rows) ≤ suc n
one_more_or_none None rows n le = omega arith
one_more_or_none (Some row) rows n le = omega arith

-- there are no more rows than slots
pub length-rows_among : (slots : List Slot) → length (rows_among slots) ≤ length slots
length-rows_among [] = omega arith
length-rows_among (s ∷ slots) = one_more_or_none s.row (rows_among slots) (length slots) (length-rows_among slots)
