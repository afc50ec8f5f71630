-- Cells of each unique key, one key after another, as a loop by their numbers gathers them.
use Rattle.std.specs.Prelude.{◌≡◌, ℕ, suc, ◌+◌, ◌<◌, ◌≤◌, List, [], ◌∷◌, ◌++◌, length, drop, refl}
use Rattle.std.proofs.Common.{sym, ◌∙◌, ap, drop-cons, drop_of_length-le, add-one}
use Rattle.std.proofs.lemmas.List.{append_assoc, append-nil}
use Rattle.std.proofs.lemmas.Option.{unwrap_or-slice_get}
use Rattle.model.specs.declared.cell.Cell.{Cell}
use Rattle.model.specs.declared.row.Row.{Row as Record}
use Rattle.model.specs.Rows.{Schema, keys_at, values_in}
use Rattle.model.specs.Cells.{unique_cell, unique_cells}
use Rattle.model.specs.Footprint.{moved_cell, moved_cells}
use Rattle.indexes.specs.Content.{unique_columns}
use Rattle.change.proofs.Clashes.{columns_at}

-- the cells of one unique key, by its number and columns, and those of keys numbered from a number
pub record Series : Type 0 where
  pub of_key : ℕ → List ℕ → List Cell
  pub of_keys : ℕ → List (List ℕ) → List Cell
  pub of_none : (n : ℕ) → of_keys n [] ≡ []
  pub of_first : (n : ℕ) (columns : List ℕ) (uniques : List (List ℕ)) → of_keys n (columns ∷ uniques) ≡ of_key n columns ++ of_keys (suc n) uniques

-- those of a row's values
abbrev pub unique_series : ℕ → Record → Series
unique_series table row = record {
  of_key = λ n columns. unique_cell table n (values_in columns row);
  of_keys = unique_cells table row;
  of_none = λ n. refl;
  of_first = λ n columns uniques. refl;
}

-- those of the values that an old row and a new one do not both have
abbrev pub moved_series : ℕ → Record → Record → Series
moved_series table old new = record {
  of_key = λ n columns. moved_cell table n (values_in columns old) (values_in columns new);
  of_keys = moved_cells table old new;
  of_none = λ n. refl;
  of_first = λ n columns uniques. refl;
}

module _ (s : Series) (schema : Schema) (table i : ℕ) where
  abbrev uniques : List (List ℕ)
  uniques = (keys_at schema table).uniques

  -- the cells of the unique keys after the first i
  abbrev left : List Cell
  left = s.of_keys (i + 1) (drop i uniques)

  -- the same without those of the next one
  abbrev behind : List Cell
  behind = s.of_keys ((i + 1) + 1) (drop (i + 1) uniques)

  -- the next unique key
  pub next_key : i < length uniques → (columns : List ℕ) → columns ≡ unique_columns schema table (i + 1) → left ≡ s.of_key (i + 1) columns ++ behind
  next_key below columns is =
      ap (s.of_keys (i + 1)) (drop-cons uniques i [] below)
      ∙ s.of_first (i + 1) _ (drop (suc i) uniques)
      ∙ ap (λ (c : List ℕ). s.of_key (i + 1) c ++ s.of_keys (suc (i + 1)) (drop (suc i) uniques))
      (sym (unwrap_or-slice_get uniques i []) ∙ sym (columns_at schema table i) ∙ sym is)
      ∙ ap (λ n. s.of_key (i + 1) columns ++ s.of_keys n (drop (suc i) uniques)) (sym (add-one (i + 1)))
      ∙ ap (λ n. s.of_key (i + 1) columns ++ s.of_keys ((i + 1) + 1) (drop n uniques)) (sym (add-one i))

  -- once its cells are gathered, those that are left are of the keys behind it
  pub one_more : i < length uniques → (columns : List ℕ) → columns ≡ unique_columns schema table (i + 1)
      → (before after all : List Cell) → after ≡ before ++ s.of_key (i + 1) columns → before ++ left ≡ all → after ++ behind ≡ all
  one_more below columns is before after all added so_far =
      ap (λ (cells : List Cell). cells ++ behind) added ∙ append_assoc before (s.of_key (i + 1) columns) behind
      ∙ ap (λ (cells : List Cell). before ++ cells) (sym (next_key below columns is)) ∙ so_far

  -- past the last none is left
  pub no_more : length uniques ≤ i → (cells all : List Cell) → cells ++ left ≡ all → cells ≡ all
  no_more past cells all so_far =
      sym (append-nil cells)
      ∙ ap (λ (rest : List Cell). cells ++ rest) (sym (ap (s.of_keys (i + 1)) (drop_of_length-le uniques past) ∙ s.of_none (i + 1)))
      ∙ so_far
