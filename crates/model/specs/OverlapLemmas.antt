-- The laws of cells that overlap.
--     overlaps_either_way, shares_either_way      one cell overlaps the other, and the other the one
--     shares_append, append_shares, ..      cells of two lists together
--     free_of_each, apart_first, apart_rest      what lists that share no cell say of their cells
--     place_free_of_one      of two lists that share no cell, one has none that overlaps a place
use Rattle.std.specs.Prelude.{◌≡◌, ℕ, ◌==◌, Bool, true, false, ◌&&◌, ◌||◌, List, [], ◌∷◌, ◌++◌, refl, ◌⊎◌}
use Rattle.std.proofs.Common.{sym, ◌∙◌, ap, inl, inr, true≢false, rules}
use Rattle.std.specs.List.{list_any, AllByRecursion}
use Rattle.std.specs.Cmp.{eq_by_cmp_equiv}
use Rattle.std.proofs.lemmas.Bool.{cases_Bool}
use Rattle.std.proofs.lemmas.List.Folds.{list_any-append}
use Rattle.model.specs.declared.key.Key.{Key}
use Rattle.model.specs.declared.cell.Cell.{Cell}
use Rattle.model.specs.declared.cell.Cell.TheVariants.{Row, Uniq, Whole}
use Rattle.model.specs.Key.{key_cmp_total}
use Rattle.model.specs.TakenLemmas.{first_true, second_true, both_true, number_is}
use Rattle.model.specs.Cells.{overlaps, same_key}
use Rattle.model.specs.Footprint.{shares_cell}

-- ---- tests of an or, and of an and

pub neither_first : (a b : Bool) → (a || b) ≡ false → a ≡ false
neither_first true b e = e
neither_first false b e = refl

pub neither_second : (a b : Bool) → (a || b) ≡ false → b ≡ false
neither_second true b e = absurd (true≢false e)
neither_second false b e = e

pub neither : (a b : Bool) → a ≡ false → b ≡ false → (a || b) ≡ false
neither a b p q = ap (λ x. x || b) p ∙ q

or_second : (a b : Bool) → b ≡ true → (a || b) ≡ true
or_second true b e = refl
or_second false b e = e

-- ---- two cells

same_number_back : (n m : ℕ) → (n == m) ≡ (m == n)
same_number_back n m = search rules

same_key_back : (k l : Key) → same_key k l ≡ same_key l k
same_key_back = (eq_by_cmp_equiv key_cmp_total).symm

-- keys that are the same as one are the same
same_keys : (k l m : Key) → same_key k l ≡ true → same_key k m ≡ same_key l m
same_keys = (eq_by_cmp_equiv key_cmp_total).congr

pub overlaps_either_way : (cell other : Cell) → overlaps cell other ≡ overlaps other cell
overlaps_either_way (Row t k) (Row u l) =
    ap (λ b. b && same_key k l) (same_number_back t u) ∙ ap (λ b. (u == t) && b) (same_key_back k l)
overlaps_either_way (Row t k) (Uniq u i v) = refl
overlaps_either_way (Row t k) (Whole u) = same_number_back t u
overlaps_either_way (Uniq t i v) (Row u l) = refl
overlaps_either_way (Uniq t i v) (Uniq u j w) =
    ap (λ b. b && ((i == j) && same_key v w)) (same_number_back t u)
    ∙ ap (λ b. (u == t) && (b && same_key v w)) (same_number_back i j)
    ∙ ap (λ b. (u == t) && ((j == i) && b)) (same_key_back v w)
overlaps_either_way (Uniq t i v) (Whole u) = same_number_back t u
overlaps_either_way (Whole t) (Row u l) = same_number_back t u
overlaps_either_way (Whole t) (Uniq u j w) = same_number_back t u
overlaps_either_way (Whole t) (Whole u) = same_number_back t u

-- two cells that overlap one place overlap each other
meet_at_place : (t : ℕ) (k : Key) (cell other : Cell) → overlaps (Row t k) cell ≡ true
    → overlaps (Row t k) other ≡ true → overlaps cell other ≡ true
meet_at_place t k (Row u l) (Row v m) p q =
    both_true (u == v) (same_key l m)
    (ap (λ n. n == v) (sym (number_is t u (first_true _ _ p))) ∙ first_true _ _ q)
    (sym (same_keys k l m (second_true _ _ p)) ∙ second_true _ _ q)
meet_at_place t k (Row u l) (Uniq v i w) p q = absurd (true≢false (sym q))
meet_at_place t k (Row u l) (Whole v) p q = ap (λ n. n == v) (sym (number_is t u (first_true _ _ p))) ∙ q
meet_at_place t k (Uniq u i w) other p q = absurd (true≢false (sym p))
meet_at_place t k (Whole u) (Row v m) p q = ap (λ n. n == v) (sym (number_is t u p)) ∙ first_true _ _ q
meet_at_place t k (Whole u) (Uniq v i w) p q = absurd (true≢false (sym q))
meet_at_place t k (Whole u) (Whole v) p q = ap (λ n. n == v) (sym (number_is t u p)) ∙ q

-- ---- two lists of cells

pub shares_append : (cells more others : List Cell)
    → shares_cell (cells ++ more) others ≡ (shares_cell cells others || shares_cell more others)
shares_append cells more others = list_any-append (λ cell. list_any (overlaps cell) others) cells more

-- no cell of the list overlaps the first of the others, nor any of the rest
pub apart_first : (cells : List Cell) (other : Cell) (others : List Cell)
    → shares_cell cells (other ∷ others) ≡ false → list_any (overlaps other) cells ≡ false
apart_first [] other others e = refl
apart_first (cell ∷ cells) other others e =
    neither _ _
    (overlaps_either_way other cell ∙ neither_first _ _ (neither_first _ _ e))
    (apart_first cells other others (neither_second _ _ e))

pub apart_rest : (cells : List Cell) (other : Cell) (others : List Cell) → shares_cell cells (other ∷ others) ≡ false
    → shares_cell cells others ≡ false
apart_rest [] other others e = refl
apart_rest (cell ∷ cells) other others e =
    neither _ _ (neither_second _ _ (neither_first _ _ e)) (apart_rest cells other others (neither_second _ _ e))

pub shares_either_way : (cells others : List Cell) → shares_cell cells others ≡ false → shares_cell others cells ≡ false
shares_either_way cells [] e = refl
shares_either_way cells (other ∷ others) e =
    neither _ _ (apart_first cells other others e) (shares_either_way cells others (apart_rest cells other others e))

pub apart_from_first : (cells others more : List Cell) → shares_cell cells (others ++ more) ≡ false
    → shares_cell cells others ≡ false
apart_from_first cells others more e =
    shares_either_way others cells
    (neither_first _ _ (sym (shares_append others more cells) ∙ shares_either_way cells (others ++ more) e))

-- each cell of the others is free of the list
pub free_of_each : (cells others : List Cell) → shares_cell cells others ≡ false
    → AllByRecursion (λ other. list_any (overlaps other) cells ≡ false) others
free_of_each cells [] e = tt
free_of_each cells (other ∷ others) e =
    (apart_first cells other others e, free_of_each cells others (apart_rest cells other others e))

-- ---- a place

-- a cell that overlaps a place overlaps a cell of each list that has one at the place
meets_list : (t : ℕ) (k : Key) (cell : Cell) (others : List Cell) → overlaps (Row t k) cell ≡ true
    → list_any (overlaps (Row t k)) others ≡ true
    → list_any (overlaps cell) others ≡ true
meets_list t k cell [] p q = absurd (true≢false (sym q))
meets_list t k cell (other ∷ others) p q =
    elim (cases_Bool (overlaps (Row t k) other)) [
      | inl is ↦ ap (λ b. b || list_any (overlaps cell) others) (meet_at_place t k cell other p is)
      | inr not ↦ or_second _ _ (meets_list t k cell others p (ap (λ b. b || list_any (overlaps (Row t k)) others) (sym not) ∙ q))
    ]

both_at_place : (t : ℕ) (k : Key) (cells others : List Cell) → list_any (overlaps (Row t k)) cells ≡ true
    → list_any (overlaps (Row t k)) others ≡ true
    → shares_cell cells others ≡ true
both_at_place t k [] others p q = absurd (true≢false (sym p))
both_at_place t k (cell ∷ cells) others p q =
    elim (cases_Bool (overlaps (Row t k) cell)) [
      | inl is ↦ ap (λ b. b || shares_cell cells others) (meets_list t k cell others is q)
      | inr not ↦ or_second _ _ (both_at_place t k cells others (ap (λ b. b || list_any (overlaps (Row t k)) cells) (sym not) ∙ p) q)
    ]

pub place_free_of_one : (t : ℕ) (k : Key) (cells others : List Cell) → shares_cell cells others ≡ false
    → (list_any (overlaps (Row t k)) cells ≡ false) ⊎ (list_any (overlaps (Row t k)) others ≡ false)
place_free_of_one t k cells others apart =
    elim (cases_Bool (list_any (overlaps (Row t k)) cells)) [
      | inr free ↦ inl free
      | inl is ↦
          elim (cases_Bool (list_any (overlaps (Row t k)) others)) [
            | inr free ↦ inr free
            | inl too ↦ absurd (true≢false (sym (both_at_place t k cells others is too) ∙ apart))
          ]
    ]
