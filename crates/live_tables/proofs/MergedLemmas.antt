-- Two lists in the order of their keys, merged, are in this order, and have at each key what stands there.
use Rattle.std.specs.Prelude.{◌≡◌, Bool, true, false, cond, List, [], ◌∷◌, Option, Some, None, refl, T}
use Rattle.std.proofs.Common.{sym, ◌∙◌, ap, subst}
use Rattle.std.specs.Ordering.{eq_by_cmp, is_lt, ordering_reverse}
use Rattle.std.specs.declared.cmp.Ordering.{Ordering}
use Rattle.std.specs.declared.cmp.Ordering.TheVariants.{Less, Equal, Greater}
use Rattle.std.specs.FinMap.{find, is_sorted}
use Rattle.std.specs.FinMap.Entries.{below_all, by_order}
use Rattle.std.proofs.lemmas.Map.Views.{tells_apart}
use Rattle.model.specs.declared.key.Key.{Key}
use Rattle.model.specs.declared.row.Row.{Row}
use Rattle.model.specs.Key.{key_cmp, key_cmp_total}
use Rattle.model.specs.ExactLemmas.{key_cmp_exact}
use Rattle.change.specs.OwnKeys.{less, find_below}
use Rattle.live_tables.specs.Merged.{or_row, kept, kept_each, around, merged}
use Rattle.model.specs.TakenLemmas.{first_T, second_T}
use Rattle.live_tables.proofs.TableRows.{both}

is_less : (r : Ordering) → r ≡ Less → T (is_lt r)
is_less r e = subst (λ (o : Ordering). T (is_lt o)) (sym e) tt

turned : (key other : Key) → key_cmp key other ≡ Greater → key_cmp other key ≡ Less
turned key other e = key_cmp_total.antisymm other key ∙ ap ordering_reverse e

module _ {X : Type 0} where
  below_more : (k l : Key) (es : List (Key × X)) → key_cmp k l ≡ Less → T (below_all key_cmp l es) → T (below_all key_cmp k es)
  below_more k l [] lt below = tt
  below_more k l (e ∷ es) lt below =
      both _ _ (is_less _ (key_cmp_total.trans k l e.0 lt (less _ (first_T _ _ below)))) (below_more k l es lt (second_T _ _ below))

-- ---- in order

below_kept : (k key : Key) (o : Option Row) (es : List (Key × Row)) → T (is_lt (key_cmp k key)) → T (below_all key_cmp k es) → T (below_all key_cmp k (kept key o es))
below_kept k key None es lt below = below
below_kept k key (Some row) es lt below = both _ _ lt below

below_kept_each : (k : Key) (hs : List (Key × Option Row)) → T (below_all key_cmp k hs) → T (below_all key_cmp k (kept_each hs))
below_kept_each k [] below = tt
below_kept_each k (h ∷ hs) below = below_kept k h.0 h.1 (kept_each hs) (first_T _ _ below) (below_kept_each k hs (second_T _ _ below))

below_around : (k : Key) (e : Key × Row) (others : List (Key × Option Row) → List (Key × Row)) → T (is_lt (key_cmp k e.0))
    → ((gs : List (Key × Option Row)) → T (below_all key_cmp k gs) → T (below_all key_cmp k (others gs)))
    → (hs : List (Key × Option Row)) → T (below_all key_cmp k hs) → T (below_all key_cmp k (around e others hs))
below_around k e others lt rest [] under = both _ _ lt (rest [] tt)
below_around k e others lt rest (g ∷ gs) under =
    elim (key_cmp g.0 e.0) as (λ r. T (below_all key_cmp k (by_order r (kept g.0 g.1 (around e others gs)) (kept g.0 g.1 (others gs)) (e ∷ others (g ∷ gs))))) [
      | Less ↦ below_kept k g.0 g.1 (around e others gs) (first_T _ _ under) (below_around k e others lt rest gs (second_T _ _ under))
      | Equal ↦ below_kept k g.0 g.1 (others gs) (first_T _ _ under) (rest gs (second_T _ _ under))
      | Greater ↦ both _ _ lt (rest (g ∷ gs) under)
    ]

below_merged : (k : Key) (es : List (Key × Row)) → T (below_all key_cmp k es) → (hs : List (Key × Option Row)) → T (below_all key_cmp k hs) → T (below_all key_cmp k (merged es hs))
below_merged k [] below hs under = below_kept_each k hs under
below_merged k (e ∷ es) below hs under = below_around k e (merged es) (first_T _ _ below) (below_merged k es (second_T _ _ below)) hs under

sorted_kept : (key : Key) (o : Option Row) (es : List (Key × Row)) → T (below_all key_cmp key es) → T (is_sorted key_cmp es) → T (is_sorted key_cmp (kept key o es))
sorted_kept key None es below sorted = sorted
sorted_kept key (Some row) es below sorted = both _ _ below sorted

sorted_kept_each : (hs : List (Key × Option Row)) → T (is_sorted key_cmp hs) → T (is_sorted key_cmp (kept_each hs))
sorted_kept_each [] sorted = tt
sorted_kept_each (h ∷ hs) sorted = sorted_kept h.0 h.1 (kept_each hs) (below_kept_each h.0 hs (first_T _ _ sorted)) (sorted_kept_each hs (second_T _ _ sorted))

sorted_around : (e : Key × Row) (es : List (Key × Row)) → T (below_all key_cmp e.0 es)
    → ((gs : List (Key × Option Row)) → T (is_sorted key_cmp gs) → T (is_sorted key_cmp (merged es gs)))
    → (hs : List (Key × Option Row)) → T (is_sorted key_cmp hs) → T (is_sorted key_cmp (around e (merged es) hs))
sorted_around e es below rest [] order = both _ _ (below_merged e.0 es below [] tt) (rest [] tt)
sorted_around e es below rest (g ∷ gs) order =
    elim (key_cmp g.0 e.0) as (λ r. key_cmp g.0 e.0 ≡ r → T (is_sorted key_cmp (by_order r (kept g.0 g.1 (around e (merged es) gs)) (kept g.0 g.1 (merged es gs)) (e ∷ merged es (g ∷ gs))))) [
      | Less ↦ λ is.
          sorted_kept g.0 g.1 (around e (merged es) gs)
          (below_merged g.0 (e ∷ es) (both _ _ (is_less _ is) (below_more g.0 e.0 es is below)) gs (first_T _ _ order)) (sorted_around e es below rest gs (second_T _ _ order))
      | Equal ↦ λ is.
          sorted_kept g.0 g.1 (merged es gs)
          (below_merged g.0 es (subst (λ (k : Key). T (below_all key_cmp k es)) (sym (key_cmp_exact g.0 e.0 is)) below) gs (first_T _ _ order)) (rest gs (second_T _ _ order))
      | Greater ↦ λ is.
          let lt = turned g.0 e.0 is in
          both _ _ (below_merged e.0 es below (g ∷ gs) (both _ _ (is_less _ lt) (below_more e.0 g.0 gs lt (first_T _ _ order)))) (rest (g ∷ gs) order)
    ] refl

pub merged_sorted : (es : List (Key × Row)) → T (is_sorted key_cmp es) → (hs : List (Key × Option Row)) → T (is_sorted key_cmp hs) → T (is_sorted key_cmp (merged es hs))
merged_sorted [] sorted hs order = sorted_kept_each hs order
merged_sorted (e ∷ es) sorted hs order = sorted_around e es (first_T _ _ sorted) (merged_sorted es (second_T _ _ sorted)) hs order

-- ---- what stands at each key

-- at the key itself what stands there, and none of the others, which are above it
find_kept : (q key : Key) (o : Option Row) (es : List (Key × Row)) (under : Option (Option Row)) (row : Option Row) → T (below_all key_cmp key es)
    → (eq_by_cmp key_cmp q key ≡ false → find key_cmp q es ≡ or_row under row)
    → find key_cmp q (kept key o es) ≡ or_row (cond (eq_by_cmp key_cmp q key) (Some o) under) row
find_kept q key None es under row below rest =
    elim (eq_by_cmp key_cmp q key) as (λ b. eq_by_cmp key_cmp q key ≡ b → find key_cmp q es ≡ or_row (cond b (Some None) under) row) [
      | true ↦ λ is. find_below q es (subst (λ (k : Key). T (below_all key_cmp k es)) (sym (tells_apart key_cmp_exact q key is)) below)
      | false ↦ λ is. rest is
    ] refl
find_kept q key (Some found) es under row below rest =
    elim (eq_by_cmp key_cmp q key) as (λ b. eq_by_cmp key_cmp q key ≡ b → cond b (Some found) (find key_cmp q es) ≡ or_row (cond b (Some (Some found)) under) row) [
      | true ↦ λ is. refl
      | false ↦ λ is. rest is
    ] refl

find_kept_each : (q : Key) (hs : List (Key × Option Row)) → T (is_sorted key_cmp hs) → find key_cmp q (kept_each hs) ≡ or_row (find key_cmp q hs) None
find_kept_each q [] sorted = refl
find_kept_each q (h ∷ hs) sorted =
    find_kept q h.0 h.1 (kept_each hs) (find key_cmp q hs) None (below_kept_each h.0 hs (first_T _ _ sorted)) (λ _. find_kept_each q hs (second_T _ _ sorted))

find_around : (q : Key) (e : Key × Row) (es : List (Key × Row)) → T (below_all key_cmp e.0 es)
    → ((gs : List (Key × Option Row)) → T (is_sorted key_cmp gs) → find key_cmp q (merged es gs) ≡ or_row (find key_cmp q gs) (find key_cmp q es))
    → (hs : List (Key × Option Row)) → T (is_sorted key_cmp hs) → find key_cmp q (around e (merged es) hs) ≡ or_row (find key_cmp q hs) (find key_cmp q (e ∷ es))
find_around q e es below rest [] order = ap (cond (eq_by_cmp key_cmp q e.0) (Some e.1)) (rest [] tt)
find_around q e es below rest (g ∷ gs) order =
    elim (key_cmp g.0 e.0) as (λ r. key_cmp g.0 e.0 ≡ r → find key_cmp q (by_order r (kept g.0 g.1 (around e (merged es) gs)) (kept g.0 g.1 (merged es gs)) (e ∷ merged es (g ∷ gs)))
    ≡ or_row (find key_cmp q (g ∷ gs)) (find key_cmp q (e ∷ es))) [
      | Less ↦ λ is.
          find_kept q g.0 g.1 (around e (merged es) gs) (find key_cmp q gs) (find key_cmp q (e ∷ es))
          (below_merged g.0 (e ∷ es) (both _ _ (is_less _ is) (below_more g.0 e.0 es is below)) gs (first_T _ _ order)) (λ _. find_around q e es below rest gs (second_T _ _ order))
      | Equal ↦ λ is.
          find_kept q g.0 g.1 (merged es gs) (find key_cmp q gs) (find key_cmp q (e ∷ es))
          (below_merged g.0 es (subst (λ (k : Key). T (below_all key_cmp k es)) (sym (key_cmp_exact g.0 e.0 is)) below) gs (first_T _ _ order))
          (λ apart. rest gs (second_T _ _ order)
          ∙ ap (λ (b : Bool). or_row (find key_cmp q gs) (cond b (Some e.1) (find key_cmp q es))) (sym (ap (eq_by_cmp key_cmp q) (sym (key_cmp_exact g.0 e.0 is)) ∙ apart)))
      | Greater ↦ λ is.
          let lt = turned g.0 e.0 is in
          let above : T (below_all key_cmp e.0 (g ∷ gs)) = both _ _ (is_less _ lt) (below_more e.0 g.0 gs lt (first_T _ _ order)) in
          ap (cond (eq_by_cmp key_cmp q e.0) (Some e.1)) (rest (g ∷ gs) order)
          ∙ (elim (eq_by_cmp key_cmp q e.0) as (λ b. eq_by_cmp key_cmp q e.0 ≡ b → cond b (Some e.1) (or_row (find key_cmp q (g ∷ gs)) (find key_cmp q es)) ≡ or_row (find key_cmp q (g ∷ gs)) (cond b (Some e.1) (find key_cmp q es))) [
            | true ↦ λ same. ap (λ (o : Option (Option Row)). or_row o (Some e.1))
                (sym (find_below q (g ∷ gs) (subst (λ (k : Key). T (below_all key_cmp k (g ∷ gs))) (sym (tells_apart key_cmp_exact q e.0 same)) above)))
            | false ↦ λ differs. refl
          ] refl)
    ] refl

pub find_merged : (q : Key) (es : List (Key × Row)) → T (is_sorted key_cmp es) → (hs : List (Key × Option Row)) → T (is_sorted key_cmp hs)
    → find key_cmp q (merged es hs) ≡ or_row (find key_cmp q hs) (find key_cmp q es)
find_merged q [] sorted hs order = find_kept_each q hs order
find_merged q (e ∷ es) sorted hs order = find_around q e es (first_T _ _ sorted) (find_merged q es (second_T _ _ sorted)) hs order
