-- A test of cells over those of a change, as a search goes through them.
use Rattle.std.specs.Prelude.{◌≡◌, ℕ, ◌+◌, ◌<◌, Bool, true, false, ◌||◌, List, Option, Some, None, is_some, length, drop, refl}
use Rattle.std.specs.List.{list_any}
use Rattle.std.specs.Ordering.{is_eq}
use Rattle.std.proofs.Common.{sym, ◌∙◌, ap}
use Rattle.std.proofs.lemmas.List.Folds.{list_any-append}
use Rattle.model.specs.declared.key.Key.{Key}
use Rattle.model.specs.declared.row.Row.{Row as Record}
use Rattle.model.specs.declared.cell.Cell.{Cell}
use Rattle.model.specs.declared.cell.Cell.TheVariants.{Row, Uniq}
use Rattle.model.specs.Key.{key_cmp}
use Rattle.model.specs.Rows.{Schema, keys_at, values_in, is_key}
use Rattle.model.specs.Cells.{row_cell, unique_cell}
use Rattle.indexes.specs.Columns.{present}
use Rattle.indexes.specs.Content.{unique_columns}
use Rattle.indexes.proofs.Entries.{present_is}
use Rattle.change.proofs.Numbered.{Series, next_key}

-- ---- a key that is there

some_of : (o : Option Key) → is_some o ≡ true → (k : Key) × (o ≡ Some k)
some_of None is = cc
some_of (Some k) is = (k, refl)

or_false : (b : Bool) → b ≡ (b || false)
or_false true = refl
or_false false = refl

module _ (columns : List ℕ) (row : Record) (there : is_some (values_in columns row) ≡ true) where
  -- the values are those of a key
  pub key_there : (key : Key) → is_eq (key_cmp (present columns row) key) ≡ is_key (values_in columns row) key
  key_there key =
      let found = some_of (values_in columns row) there in
      ap (λ (k : Key). is_eq (key_cmp k key)) (present_is columns row found.0 found.1) ∙ ap (λ (o : Option Key). is_key o key) (sym found.1)

  module _ (P : Cell → Bool) (table : ℕ) where
    pub place_there : P (Row table (present columns row)) ≡ list_any P (row_cell table (values_in columns row))
    place_there =
        let found = some_of (values_in columns row) there in
        ap (λ (k : Key). P (Row table k)) (present_is columns row found.0 found.1) ∙ or_false (P (Row table found.0))
        ∙ ap (λ (o : Option Key). list_any P (row_cell table o)) (sym found.1)

    pub values_there : (number : ℕ) → P (Uniq table number (present columns row)) ≡ list_any P (unique_cell table number (values_in columns row))
    values_there number =
        let found = some_of (values_in columns row) there in
        ap (λ (k : Key). P (Uniq table number k)) (present_is columns row found.0 found.1) ∙ or_false (P (Uniq table number found.0))
        ∙ ap (λ (o : Option Key). list_any P (unique_cell table number o)) (sym found.1)

-- ---- the unique keys, one after another

module _ (P : Cell → Bool) (s : Series) (schema : Schema) (table i : ℕ) where
  -- whether one of the cells of the unique keys after the first i passes
  abbrev left : Bool
  left = list_any P (s.of_keys (i + 1) (drop i (keys_at schema table).uniques))

  -- the same without those of the next one
  abbrev behind : Bool
  behind = list_any P (s.of_keys ((i + 1) + 1) (drop (i + 1) (keys_at schema table).uniques))

  -- one of the next one passes, or one behind it
  both : i < length (keys_at schema table).uniques → (columns : List ℕ) → columns ≡ unique_columns schema table (i + 1) → (found : Bool)
      → found ≡ list_any P (s.of_key (i + 1) columns) → left ≡ (found || behind)
  both below columns is found tells =
      ap (list_any P) (next_key s schema table i below columns is)
      ∙ list_any-append P (s.of_key (i + 1) columns) (s.of_keys ((i + 1) + 1) (drop (i + 1) (keys_at schema table).uniques))
      ∙ ap (λ b. b || behind) (sym tells)

  -- one that passes is found
  pub passes_here : i < length (keys_at schema table).uniques → (columns : List ℕ) → columns ≡ unique_columns schema table (i + 1)
      → (found whole : Bool) → found ≡ list_any P (s.of_key (i + 1) columns) → found ≡ true → left ≡ whole → true ≡ whole
  passes_here below columns is found whole tells so far = sym (both below columns is found tells ∙ ap (λ b. b || behind) so) ∙ far

  -- none of this key passes, so those behind it decide
  pub passes_later : i < length (keys_at schema table).uniques → (columns : List ℕ) → columns ≡ unique_columns schema table (i + 1)
      → (found whole : Bool) → found ≡ list_any P (s.of_key (i + 1) columns) → found ≡ false → left ≡ whole → behind ≡ whole
  passes_later below columns is found whole tells so far = sym (both below columns is found tells ∙ ap (λ b. b || behind) so) ∙ far
