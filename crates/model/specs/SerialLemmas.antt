-- Changes one after another, and two lists of them that share no cell.
--     leaves_free_cell, leaves_cells      changes leave the cells that they don't hold
--     alike_after_all, same_held, same_inverses, same_accepted      where rows are the same in what changes hold, the changes do the same
--     same_past, held_past, inverses_past, accepted_past      so they do past changes that share no cell with them
--     either_first, changes_commute      two lists that share no cell come in either order
--     undone_past      changes are undone past others that share no cell with them, and the others' stay
--     held_append, accepted_append      one list after another
use Rattle.std.specs.Prelude.{◌≡◌, false, List, [], ◌∷◌, ◌++◌, refl}
use Rattle.std.proofs.Common.{sym, ◌∙◌, ap, inl, inr, append_assoc, append-nil}
use Rattle.std.specs.List.{list_any}
use Rattle.std.specs.FinMap.{get}
use Rattle.std.proofs.lemmas.List.Folds.{list_any-append}
use Rattle.model.specs.declared.change.Change.{Change}
use Rattle.model.specs.declared.cell.Cell.{Cell}
use Rattle.model.specs.declared.cell.Cell.TheVariants.{Row}
use Rattle.model.specs.Rows.{Place, Rows, Schema, IsValid}
use Rattle.model.specs.Effect.{Edits, outcome, effect, inverse, serial, inverses, all_back}
use Rattle.model.specs.EditLemmas.{same_rows}
use Rattle.model.specs.EffectLemmas.{effect_valid, serial_valid, all_back_serial}
use Rattle.model.specs.Cells.{overlaps}
use Rattle.model.specs.Footprint.{footprint, held_cells, shares_cell}
use Rattle.model.specs.CellContents.{SameAt, AreSame}
use Rattle.model.specs.Accepted.{AreAccepted}
use Rattle.model.specs.OverlapLemmas.{neither_first, neither_second, free_of_each, shares_either_way, place_free_of_one}
use Rattle.model.specs.FrameLemmas.{Each, each_of_first, each_of_second, same_at_itself, same_at_back, same_through, leaves_free}
use Rattle.model.specs.AlikeLemmas.{same_footprint, same_outcome, same_inverse, alike_after}

-- each cell for which the one holds is one for which the other does
pub each_so : (P Q : Cell → Type 0) → ((cell : Cell) → P cell → Q cell) → (cells : List Cell) → Each P cells
    → Each Q cells
each_so P Q so [] all = tt
each_so P Q so (cell ∷ cells) all = (so cell all.0, each_so P Q so cells all.1)

pub same_back : (schema : Schema) (rows others : Rows) (cells : List Cell) → AreSame schema rows others cells
    → AreSame schema others rows cells
same_back schema rows others =
    each_so (SameAt schema rows others) (SameAt schema others rows) (same_at_back schema rows others)

-- ---- what changes leave

pub leaves_free_cell : (schema : Schema) (rows : Rows) (cs : List Change) (cell : Cell)
    → list_any (overlaps cell) (held_cells schema rows cs) ≡ false
    → SameAt schema rows (serial schema rows cs) cell
leaves_free_cell schema rows [] cell free = same_at_itself schema rows cell
leaves_free_cell schema rows (c ∷ cs) cell free =
    let parts = sym (list_any-append (overlaps cell) (footprint schema rows c) (held_cells schema (effect schema rows c) cs)) ∙ free in
    same_through schema rows (effect schema rows c) (serial schema (effect schema rows c) cs) cell
    (leaves_free schema rows c cell (neither_first _ _ parts))
    (leaves_free_cell schema (effect schema rows c) cs cell (neither_second _ _ parts))

pub leaves_cells : (schema : Schema) (rows : Rows) (cs : List Change) (cells : List Cell)
    → shares_cell (held_cells schema rows cs) cells ≡ false
    → AreSame schema rows (serial schema rows cs) cells
leaves_cells schema rows cs cells apart =
    each_so (λ cell. list_any (overlaps cell) (held_cells schema rows cs) ≡ false)
    (SameAt schema rows (serial schema rows cs))
    (leaves_free_cell schema rows cs) cells (free_of_each (held_cells schema rows cs) cells apart)

-- ---- where rows are the same in what changes hold

module _ (schema : Schema) where
  rest_same : (rows others : Rows) → IsValid schema rows → IsValid schema others → (c : Change) (cs : List Change)
      → AreSame schema rows others (held_cells schema rows (c ∷ cs))
      → AreSame schema (effect schema rows c) (effect schema others c) (held_cells schema (effect schema rows c) cs)
  rest_same rows others valid valid_too c cs same =
      each_so (SameAt schema rows others) (SameAt schema (effect schema rows c) (effect schema others c))
      (alike_after schema rows others valid valid_too c (each_of_first (SameAt schema rows others) (footprint schema rows c) _ same))
      (held_cells schema (effect schema rows c) cs)
      (each_of_second (SameAt schema rows others) (footprint schema rows c) _ same)

  pub alike_after_all : (rows others : Rows) → IsValid schema rows → IsValid schema others → (cs : List Change)
      → AreSame schema rows others (held_cells schema rows cs) → (cell : Cell) → SameAt schema rows others cell
      → SameAt schema (serial schema rows cs) (serial schema others cs) cell
  alike_after_all rows others valid valid_too [] same cell before = before
  alike_after_all rows others valid valid_too (c ∷ cs) same cell before =
      alike_after_all (effect schema rows c) (effect schema others c) (effect_valid schema rows c valid)
      (effect_valid schema others c valid_too) cs
      (rest_same rows others valid valid_too c cs same) cell
      (alike_after schema rows others valid valid_too c (each_of_first (SameAt schema rows others) (footprint schema rows c) _ same) cell before)

  pub same_held : (rows others : Rows) → IsValid schema rows → IsValid schema others → (cs : List Change)
      → AreSame schema rows others (held_cells schema rows cs) → held_cells schema rows cs ≡ held_cells schema others cs
  same_held rows others valid valid_too [] same = refl
  same_held rows others valid valid_too (c ∷ cs) same =
      ap (λ cells. cells ++ held_cells schema (effect schema rows c) cs)
      (same_footprint schema rows others c (each_of_first (SameAt schema rows others) (footprint schema rows c) _ same))
      ∙ ap (λ cells. footprint schema others c ++ cells)
      (same_held (effect schema rows c) (effect schema others c) (effect_valid schema rows c valid) (effect_valid schema others c valid_too) cs
      (rest_same rows others valid valid_too c cs same))

  pub same_inverses : (rows others : Rows) → IsValid schema rows → IsValid schema others → (cs : List Change)
      → AreSame schema rows others (held_cells schema rows cs) → inverses schema rows cs ≡ inverses schema others cs
  same_inverses rows others valid valid_too [] same = refl
  same_inverses rows others valid valid_too (c ∷ cs) same =
      ap (λ (i : Edits). i ∷ inverses schema (effect schema rows c) cs)
      (same_inverse schema rows others valid valid_too c (each_of_first (SameAt schema rows others) (footprint schema rows c) _ same))
      ∙ ap (λ is. inverse schema others c ∷ is)
      (same_inverses (effect schema rows c) (effect schema others c) (effect_valid schema rows c valid) (effect_valid schema others c valid_too) cs
      (rest_same rows others valid valid_too c cs same))

  pub same_accepted : (rows others : Rows) → IsValid schema rows → IsValid schema others → (cs : List Change)
      → AreSame schema rows others (held_cells schema rows cs) → AreAccepted schema rows cs
      → AreAccepted schema others cs
  same_accepted rows others valid valid_too [] same accepted = tt
  same_accepted rows others valid valid_too (c ∷ cs) same accepted = (
    λ cause is. accepted.0 cause
        (same_outcome schema rows others valid valid_too c (each_of_first (SameAt schema rows others) (footprint schema rows c) _ same) ∙ is),
    same_accepted (effect schema rows c) (effect schema others c) (effect_valid schema rows c valid)
        (effect_valid schema others c valid_too) cs
        (rest_same rows others valid valid_too c cs same) accepted.1,
  )

-- ---- past changes that share no cell

module _ (schema : Schema) (rows : Rows) (valid : IsValid schema rows) (cs others : List Change)
    (apart : shares_cell (held_cells schema rows cs) (held_cells schema rows others) ≡ false) where
  pub same_past : AreSame schema rows (serial schema rows others) (held_cells schema rows cs)
  same_past =
      leaves_cells schema rows others (held_cells schema rows cs)
      (shares_either_way (held_cells schema rows cs) (held_cells schema rows others) apart)

  pub held_past : held_cells schema rows cs ≡ held_cells schema (serial schema rows others) cs
  held_past =
      same_held schema rows (serial schema rows others) valid (serial_valid schema rows others valid) cs same_past

  pub inverses_past : inverses schema rows cs ≡ inverses schema (serial schema rows others) cs
  inverses_past =
      same_inverses schema rows (serial schema rows others) valid (serial_valid schema rows others valid) cs same_past

  pub accepted_past : AreAccepted schema rows cs → AreAccepted schema (serial schema rows others) cs
  accepted_past =
      same_accepted schema rows (serial schema rows others) valid (serial_valid schema rows others valid) cs same_past

  -- a cell that the others leave has the same after these, past the others or not
  pub cell_past : (cell : Cell) → list_any (overlaps cell) (held_cells schema rows others) ≡ false
      → SameAt schema (serial schema rows cs) (serial schema (serial schema rows others) cs) cell
  cell_past cell free =
      alike_after_all schema rows (serial schema rows others) valid
      (serial_valid schema rows others valid) cs same_past cell
      (leaves_free_cell schema rows others cell free)

module _ (schema : Schema) (rows : Rows) (valid : IsValid schema rows) (cs others : List Change)
    (apart : shares_cell (held_cells schema rows cs) (held_cells schema rows others) ≡ false) where
  -- at a place that the first list leaves
  row_left : (p : Place) → list_any (overlaps (Row p.0 p.1)) (held_cells schema rows cs) ≡ false
      → get (serial schema (serial schema rows cs) others) p ≡ get (serial schema (serial schema rows others) cs) p
  row_left p free =
      sym (cell_past schema rows valid others cs (shares_either_way (held_cells schema rows cs) (held_cells schema rows others) apart) (Row p.0 p.1) free)
      ∙ leaves_free_cell schema (serial schema rows others) cs (Row p.0 p.1)
      (ap (list_any (overlaps (Row p.0 p.1))) (sym (held_past schema rows valid cs others apart)) ∙ free)

-- two lists that share no cell come in either order
pub either_first : (schema : Schema) (rows : Rows) → IsValid schema rows → (cs others : List Change)
    → shares_cell (held_cells schema rows cs) (held_cells schema rows others) ≡ false
    → serial schema (serial schema rows cs) others ≡ serial schema (serial schema rows others) cs
either_first schema rows valid cs others apart = same_rows _ _ (λ p.
    elim (place_free_of_one p.0 p.1 (held_cells schema rows cs) (held_cells schema rows others) apart) [
      | inl free ↦ row_left schema rows valid cs others apart p free
      | inr free ↦ sym (row_left schema rows valid others cs (shares_either_way (held_cells schema rows cs) (held_cells schema rows others) apart) p free)
    ])

pub lists_keep_theirs : (schema : Schema) (rows : Rows) → IsValid schema rows → (cs others : List Change)
    → shares_cell (held_cells schema rows cs) (held_cells schema rows others) ≡ false
    → (held_cells schema rows cs ≡ held_cells schema (serial schema rows others) cs) ×
    (inverses schema rows cs ≡ inverses schema (serial schema rows others) cs)
lists_keep_theirs schema rows valid cs others apart =
    (held_past schema rows valid cs others apart, inverses_past schema rows valid cs others apart)

-- two changes
pub changes_commute : (schema : Schema) (rows : Rows) → IsValid schema rows → (c other : Change)
    → shares_cell (footprint schema rows c) (footprint schema rows other) ≡ false
    → (effect schema (effect schema rows c) other ≡ effect schema (effect schema rows other) c)
    × (outcome schema (effect schema rows other) c ≡ outcome schema rows c)
    × (footprint schema (effect schema rows other) c ≡ footprint schema rows c)
changes_commute schema rows valid c other apart =
    let one : (d : Change) → held_cells schema rows (d ∷ []) ≡ footprint schema rows d = λ d. append-nil (footprint schema rows d) in
    let lists : shares_cell (held_cells schema rows (c ∷ [])) (held_cells schema rows (other ∷ [])) ≡ false =
    ap (λ cells. shares_cell cells (held_cells schema rows (other ∷ []))) (one c) ∙ ap (shares_cell (footprint schema rows c)) (one other) ∙ apart in
    let alike : AreSame schema rows (effect schema rows other) (footprint schema rows c) =
    each_of_first (SameAt schema rows (effect schema rows other)) (footprint schema rows c) []
    (same_past schema rows valid (c ∷ []) (other ∷ []) lists) in (
      either_first schema rows valid (c ∷ []) (other ∷ []) lists,
      sym (same_outcome schema rows (effect schema rows other) valid (effect_valid schema rows other valid) c alike),
      sym (same_footprint schema rows (effect schema rows other) c alike),
    )

-- changes are undone past others that share no cell with them
pub undone_past : (schema : Schema) (rows : Rows) → IsValid schema rows → (cs others : List Change)
    → shares_cell (held_cells schema rows cs) (held_cells schema rows others) ≡ false
    → all_back (serial schema (serial schema rows cs) others) (inverses schema rows cs) ≡ serial schema rows others
undone_past schema rows valid cs others apart =
    ap (λ (r : Rows). all_back r (inverses schema rows cs)) (either_first schema rows valid cs others apart)
    ∙ ap (all_back (serial schema (serial schema rows others) cs)) (inverses_past schema rows valid cs others apart)
    ∙ all_back_serial schema (serial schema rows others) cs

-- ---- one list after another

pub held_append : (schema : Schema) (rows : Rows) (cs more : List Change)
    → held_cells schema rows (cs ++ more) ≡ held_cells schema rows cs ++ held_cells schema (serial schema rows cs) more
held_append schema rows [] more = refl
held_append schema rows (c ∷ cs) more =
    ap (λ cells. footprint schema rows c ++ cells) (held_append schema (effect schema rows c) cs more)
    ∙ sym (append_assoc (footprint schema rows c) (held_cells schema (effect schema rows c) cs) (held_cells schema (serial schema (effect schema rows c) cs) more))

pub inverses_append : (schema : Schema) (rows : Rows) (cs more : List Change)
    → inverses schema rows (cs ++ more) ≡ inverses schema rows cs ++ inverses schema (serial schema rows cs) more
inverses_append schema rows [] more = refl
inverses_append schema rows (c ∷ cs) more =
    ap (λ is. inverse schema rows c ∷ is) (inverses_append schema (effect schema rows c) cs more)

pub accepted_append : (schema : Schema) (rows : Rows) (cs more : List Change) → AreAccepted schema rows cs
    → AreAccepted schema (serial schema rows cs) more
    → AreAccepted schema rows (cs ++ more)
accepted_append schema rows [] more first rest = rest
accepted_append schema rows (c ∷ cs) more first rest =
    (first.0, accepted_append schema (effect schema rows c) cs more first.1 rest)

pub accepted_first : (schema : Schema) (rows : Rows) (cs more : List Change) → AreAccepted schema rows (cs ++ more)
    → AreAccepted schema rows cs
accepted_first schema rows [] more all = tt
accepted_first schema rows (c ∷ cs) more all = (all.0, accepted_first schema (effect schema rows c) cs more all.1)
