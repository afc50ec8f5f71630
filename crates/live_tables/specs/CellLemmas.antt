-- The cells of what is held, and of changes.
use Rattle.std.proofs.Common.{◌≡◌, ℕ, suc, ◌<◌, ◌≤◌, ◌⊎◌, Bool, true, false, List, [], ◌∷◌, ◌++◌, length, take, Option, Some, None, refl, sym, ap, subst, ◌∙◌, arith}
use Rattle.std.specs.Prelude.{◌↔◌, All, if◌then◌else◌}
use Rattle.std.specs.List.{Contains}
use Rattle.std.specs.Map.{keys_of}
use Rattle.std.specs.FinMap.{get}
use Rattle.std.proofs.lemmas.List.{take-map}
use Rattle.std.proofs.lemmas.List.Elements.{All-nil, All-cons, All-append, All-map}
use Rattle.std.proofs.lemmas.Map.Entries.{length-keys_of}
use Rattle.model.specs.declared.key.Key.{Key}
use Rattle.model.specs.declared.row.Row.{Row as Record}
use Rattle.model.specs.declared.change.Change.TheVariants.{Put, Set, Remove, Wipe}
use Rattle.model.specs.declared.patch.ColumnPatch.{ColumnPatch}
use Rattle.model.specs.declared.cell.Cell.{Cell}
use Rattle.model.specs.declared.cell.Cell.TheVariants.{Row, Uniq, Whole}
use Rattle.model.specs.Rows.{Rows, Schema, keys_at, values_in, key_of, is_key}
use Rattle.model.specs.Effect.{patch_row}
use Rattle.model.specs.Cells.{table_of, row_cell, unique_cell, unique_cells}
use Rattle.model.specs.Footprint.{footprint, both_have, moved_cell, moved_cells, new_place, replaced_cells, removed_cells}
use Rattle.savepoint.specs.declared.mark.Mark.{Mark}
use Rattle.keyholds.proofs.HoldsLemmas.{taking_adds, taking_keeps_held}
use Rattle.live_tables.specs.declared.before_image.BeforeImage.{BeforeImage}
use Rattle.live_tables.specs.Held.{up_to_held}
use Rattle.live_tables.specs.BeforeImages.{TakesBeforeImages, up_to_before_image}
use Rattle.live_tables.specs.ReadStatements.{BeforeImageIsHeld, CellsAreKnown}

-- ---- of what is held

module _ (live : Rows) (cells : List Cell) (count : ℕ) (held : ℕ → List (Cell × BeforeImage)) (xid : ℕ) (new : ℕ → List (Cell × BeforeImage)) (takes : TakesBeforeImages live cells count held xid new) where
  taken : (cell : Cell) → Contains (keys_of (new xid)) cell ↔ (Contains (keys_of (held xid)) cell ⊎ Contains cells cell)
  taken cell =
      subst (λ (cs : List Cell). Contains (keys_of (new xid)) cell ↔ (Contains (keys_of (held xid)) cell ⊎ Contains cs cell)) takes.its
      (subst (λ (hs : List (Cell × BeforeImage)). Contains (keys_of hs) cell ↔ (Contains (keys_of (held xid)) cell ⊎ Contains (keys_of takes.more) cell)) (sym takes.at.here)
      (taking_adds (held xid) takes.more cell))

  front : take (length (keys_of (held xid))) (keys_of (new xid)) ≡ keys_of (held xid)
  front =
      ap (λ (n : ℕ). take n (keys_of (new xid))) (length-keys_of (held xid))
      ∙ take-map (λ (h : Cell × BeforeImage). h.0) (length (held xid)) (new xid)
      ∙ ap (λ (hs : List (Cell × BeforeImage)). keys_of (take (length (held xid)) hs)) takes.at.here
      ∙ ap keys_of (taking_keeps_held (held xid) takes.more)

-- a front of a list that is as long as another has so many at least
long_front : {X : Type 0} (xs ys : List X) → take (length xs) ys ≡ xs → length xs ≤ length ys
long_front [] ys e = omega arith
long_front (x ∷ xs) [] e = absurd cc
long_front (x ∷ xs) (y ∷ ys) e = let rest = long_front xs ys (let tails : take (length xs) ys ≡ xs = cc in tails) in omega (arith, rest)

cells_up_to : (mark : Option Mark) (held : List (Cell × BeforeImage)) → keys_of (up_to_before_image mark held) ≡ up_to_held mark (keys_of held)
cells_up_to None held = refl
cells_up_to (Some m) held = sym (take-map (λ (h : Cell × BeforeImage). h.0) m.held held)

pub before_image_is_held : BeforeImageIsHeld
before_image_is_held = record {
  taken = taken;
  front = λ live cells count held xid new takes.
      let first = front live cells count held xid new takes in
      (first, long_front (keys_of (held xid)) (keys_of (new xid)) first);
  back = λ held xid mark new at.
      record { here = ap keys_of at.here ∙ cells_up_to mark (held xid); beside = λ other differs. ap keys_of (at.beside other differs) };
  gone = λ held xid new at. record { here = ap keys_of at.here; beside = λ other differs. ap keys_of (at.beside other differs) };
}

-- ---- of changes

module _ (count table : ℕ) (known : table < count) where
  abbrev AreKnown : List Cell → Type 0
  AreKnown cells = All (λ (cell : Cell). table_of cell < count) cells

  none_known : AreKnown []
  none_known = All-nil (λ (cell : Cell). table_of cell < count)

  one_known : (cell : Cell) → table_of cell < count → AreKnown (cell ∷ [])
  one_known cell is = All-cons (λ (c : Cell). table_of c < count) cell [] is none_known

  both_known : (cells more : List Cell) → AreKnown cells → AreKnown more → AreKnown (cells ++ more)
  both_known = All-append (λ (cell : Cell). table_of cell < count)

  row_known : (key : Option Key) → AreKnown (row_cell table key)
  row_known None = none_known
  row_known (Some key) = one_known (Row table key) known

  unique_known : (number : ℕ) (values : Option Key) → AreKnown (unique_cell table number values)
  unique_known number None = none_known
  unique_known number (Some values) = one_known (Uniq table number values) known

  uniques_known : (row : Record) (number : ℕ) (uniques : List (List ℕ)) → AreKnown (unique_cells table row number uniques)
  uniques_known row number [] = none_known
  uniques_known row number (columns ∷ uniques) =
      both_known (unique_cell table number (values_in columns row)) (unique_cells table row (suc number) uniques)
      (unique_known number (values_in columns row)) (uniques_known row (suc number) uniques)

  moved_by_known : (number : ℕ) (old new : Option Key) (b : Bool)
      → AreKnown (if b then [] else unique_cell table number old ++ unique_cell table number new)
  moved_by_known number old new true = none_known
  moved_by_known number old new false =
      both_known (unique_cell table number old) (unique_cell table number new) (unique_known number old) (unique_known number new)

  moved_known : (old new : Record) (number : ℕ) (uniques : List (List ℕ)) → AreKnown (moved_cells table old new number uniques)
  moved_known old new number [] = none_known
  moved_known old new number (columns ∷ uniques) =
      both_known (moved_cell table number (values_in columns old) (values_in columns new)) (moved_cells table old new (suc number) uniques)
      (moved_by_known number (values_in columns old) (values_in columns new) (both_have (values_in columns old) (values_in columns new)))
      (moved_known old new (suc number) uniques)

  place_known : (key : Option Key) (b : Bool) → AreKnown (if b then [] else row_cell table key)
  place_known key true = none_known
  place_known key false = row_known key

  replaced_known : (schema : Schema) (key : Key) (patch : List ColumnPatch) (old : Option Record) → AreKnown (replaced_cells schema table key patch old)
  replaced_known schema key patch None = none_known
  replaced_known schema key patch (Some old) =
      both_known (new_place table key (key_of schema table (patch_row patch old))) (moved_cells table old (patch_row patch old) 1 (keys_at schema table).uniques)
      (place_known (key_of schema table (patch_row patch old)) (is_key (key_of schema table (patch_row patch old)) key))
      (moved_known old (patch_row patch old) 1 (keys_at schema table).uniques)

  removed_known : (schema : Schema) (old : Option Record) → AreKnown (removed_cells schema table old)
  removed_known schema None = none_known
  removed_known schema (Some old) = uniques_known old 1 (keys_at schema table).uniques

pub cells_are_known : CellsAreKnown
unfolding footprint
cells_are_known schema rows (Put table row) known =
    both_known (length schema) table known (row_cell table (key_of schema table row)) (unique_cells table row 1 (keys_at schema table).uniques)
    (row_known (length schema) table known (key_of schema table row)) (uniques_known (length schema) table known row 1 (keys_at schema table).uniques)
cells_are_known schema rows (Set table key patch) known =
    All-cons (λ (cell : Cell). table_of cell < length schema) (Row table key) (replaced_cells schema table key patch (get rows (table, key))) known
    (replaced_known (length schema) table known schema key patch (get rows (table, key)))
cells_are_known schema rows (Remove table key) known =
    All-cons (λ (cell : Cell). table_of cell < length schema) (Row table key) (removed_cells schema table (get rows (table, key))) known
    (removed_known (length schema) table known schema (get rows (table, key)))
cells_are_known schema rows (Wipe tables) known = All-map (λ (cell : Cell). table_of cell < length schema) Whole tables known
