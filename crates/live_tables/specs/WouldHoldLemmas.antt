-- What a change would take, where its transaction is alone and holds nothing.
--     before_image_for, would_take      what would lie beside a cell; the cells of a change, each with that
--     would_cells, would_stand      these are its cells, and that is what is to lie beside them
use Rattle.std.proofs.Common.{◌≡◌, ℕ, ◌||◌, ◌==◌, Bool, true, false, List, [], ◌∷◌, map, refl, sym, ap, subst, ◌∙◌, inl, inr, arith, true≢false}
use Rattle.std.specs.Prelude.{if◌then◌else◌}
use Rattle.std.specs.List.{Contains, list_any}
use Rattle.std.specs.Map.{keys_of}
use Rattle.std.specs.FinMap.{get}
use Rattle.std.proofs.lemmas.Bool.{cases_Bool, eq-eqb, eqb-true}
use Rattle.model.specs.declared.cell.Cell.{Cell}
use Rattle.model.specs.declared.cell.Cell.TheVariants.{Row, Uniq, Whole}
use Rattle.model.specs.Rows.{Rows}
use Rattle.change.specs.InverseLemmas.{contains_first, contains_here, contains_later}
use Rattle.live_tables.specs.declared.before_image.BeforeImage.{BeforeImage}
use Rattle.live_tables.specs.declared.before_image.BeforeImage.TheVariants.{Row as BeforeImageRow, Wiped, Other}
use Rattle.live_tables.specs.BeforeImages.{IsToStand, AreToStand}

abbrev is_table : ℕ → Cell → Bool
is_table table (Row other key) = false
is_table table (Uniq other number values) = false
is_table table (Whole other) = other == table

abbrev pub has_table : List Cell → ℕ → Bool
has_table cells table = list_any (is_table table) cells

table_is : (table : ℕ) (cell : Cell) → is_table table cell ≡ true → cell ≡ Whole table
table_is table (Row other key) is = absurd cc
table_is table (Uniq other number values) is = absurd cc
table_is table (Whole other) is = ap Whole (eqb-true other table is)

table_found : (cells : List Cell) (table : ℕ) → has_table cells table ≡ true → Contains cells (Whole table)
table_found [] table is = absurd cc
table_found (cell ∷ cells) table is =
    elim (cases_Bool (is_table table cell)) [
      | inl here ↦ subst (λ (c : Cell). Contains (cell ∷ cells) c) (table_is table cell here) (contains_here cell cells)
      | inr not_here ↦ contains_later cell cells (Whole table) (table_found cells table (sym (ap (λ b. b || has_table cells table) not_here) ∙ is))
    ]

table_not_found : (cells : List Cell) (table : ℕ) → has_table cells table ≡ false → ¬ Contains cells (Whole table)
table_not_found [] table is there = omega (arith, there.1)
table_not_found (cell ∷ cells) table is there =
    elim (contains_first cell cells (Whole table) there) [
      | inl same ↦ true≢false (sym (ap (λ b. b || has_table cells table) (ap (is_table table) same ∙ eq-eqb table table refl)) ∙ is)
      | inr later ↦ table_not_found cells table (second (is_table table cell) (has_table cells table) is) later
    ]
  where
    second : (a b : Bool) → (a || b) ≡ false → b ≡ false
    second true b e = absurd cc
    second false b e = e

-- what would lie beside a cell
abbrev pub before_image_for : Rows → ℕ → List Cell → Cell → BeforeImage
before_image_for rows count cells (Row table key) = if has_table cells table then Other else BeforeImageRow (get rows (table, key))
before_image_for rows count cells (Uniq table number values) = Other
before_image_for rows count cells (Whole table) = Wiped count

abbrev pub would_take : Rows → ℕ → List Cell → List Cell → List (Cell × BeforeImage)
would_take rows count cells more = map (λ (cell : Cell). (cell, before_image_for rows count cells cell)) more

pub would_cells : (rows : Rows) (count : ℕ) (cells more : List Cell) → keys_of (would_take rows count cells more) ≡ more
would_cells rows count cells [] = refl
would_cells rows count cells (cell ∷ more) = ap (λ (l : List Cell). cell ∷ l) (would_cells rows count cells more)

would_stand_at : (rows : Rows) (count : ℕ) (cells : List Cell) (cell : Cell) → IsToStand (get rows) count cells cell (before_image_for rows count cells cell)
would_stand_at rows count cells (Row table key) = by (has_table cells table) refl
  where
    by : (b : Bool) → has_table cells table ≡ b → IsToStand (get rows) count cells (Row table key) (if b then Other else BeforeImageRow (get rows (table, key)))
    by true is = table_found cells table is
    by false is = (refl, table_not_found cells table is)
would_stand_at rows count cells (Uniq table number values) = tt
would_stand_at rows count cells (Whole table) = refl

pub would_stand : (rows : Rows) (count : ℕ) (cells more : List Cell) → AreToStand (get rows) count cells (would_take rows count cells more)
would_stand rows count cells [] cell before_image its new = absurd (omega (arith, its.1))
would_stand rows count cells (first ∷ more) cell before_image its new =
    elim (contains_first (first, before_image_for rows count cells first) (would_take rows count cells more) (cell, before_image) its) [
      | inl same ↦
          subst (λ (h : Cell × BeforeImage). IsToStand (get rows) count cells h.0 h.1) same (would_stand_at rows count cells first)
      | inr later ↦ would_stand rows count cells more cell before_image later new
    ]
