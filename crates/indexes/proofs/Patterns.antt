-- A table's pattern: it has no row and no room, so nothing can be taken from it.
use Rattle.std.specs.Prelude.{◌≡◌, ℕ, suc, List, [], ◌∷◌, ◌++◌, length, map, Option, Some, None, refl, IsSome, option_map}
use Rattle.std.proofs.Common.{sym, ◌∙◌, ap, subst, arith}
use Rattle.std.specs.List.{Contains, AllByRecursion}
use Rattle.std.specs.Map.{keys_of}
use Rattle.std.specs.FinMap.{get, empty, entries, get-empty, len-empty, len-entries}
use Rattle.model.specs.declared.key.Key.{Key}
use Rattle.model.specs.declared.row.Row.{Row as Record}
use Rattle.model.specs.Key.{key_cmp}
use Rattle.model.specs.Rows.{values_in}
use Rattle.indexes.specs.declared.unique.Unique.{Unique}
use Rattle.indexes.specs.Unique.{HasNone}
use Rattle.indexes.specs.Table.{Spot, TableContent, KeepsSpots, spots_of, ReleasesSpot}
use Rattle.indexes.specs.Indexed.{entry_spots, room_of}
use Rattle.indexes.specs.Lazy.{shown}
use Rattle.indexes.proofs.Elements.{elem_contains}
use Rattle.indexes.proofs.Room.{key_spot}

-- indexes without entries have no room
no_spots : (number : ℕ) (us : List Unique) → AllByRecursion HasNone us → entry_spots number us ≡ []
no_spots number [] all = refl
no_spots number (u ∷ us) all =
    let spots : List (Key × Option ℕ) → List Spot = λ es. map (λ values. (number, values)) (keys_of es) in
    ap (λ es. spots es ++ entry_spots (suc number) us) all.0 ∙ no_spots (suc number) us all.1

no_length : {X : Type 0} (xs : List X) → length xs ≡ 0 → xs ≡ []
no_length [] e = refl
no_length (x ∷ xs) e = absurd (omega arith)

no_slots : entries (empty {X = ℕ} {R = key_cmp}) ≡ []
no_slots = no_length _ (sym (len-entries empty) ∙ len-empty key_cmp ℕ)

-- nor has a table that has just begun
pub no_room : (us : List Unique) → AllByRecursion HasNone us → room_of (record { rows = empty; slots = empty }) us ≡ []
no_room us all = ap (λ es. map (λ key. (0, key)) (map (λ e. e.0) es) ++ entry_spots 1 us) no_slots ∙ no_spots 1 us all

none_there : (o : Option Record) → o ≡ None → IsSome o → ⊥
none_there None e some = absurd cc
none_there (Some row) e some = absurd cc

-- what a table reads as is what was made, and its pattern where nothing was
module _ {X : Type 0} (value : X → TableContent) (pattern : TableContent) (made : Option X) (t : TableContent) (v : shown pattern (option_map value made) ≡ t) where
  pub shown_made : (it : X) → made ≡ Some it → value it ≡ t
  shown_made it is = ap (λ (m : Option X). shown pattern (option_map value m)) (sym is) ∙ v

  pub shown_pattern : made ≡ None → pattern ≡ t
  shown_pattern is = ap (λ (m : Option X). shown pattern (option_map value m)) (sym is) ∙ v

  pub shown_no_room : pattern.room ≡ [] → made ≡ None → t.room ≡ []
  shown_no_room none is = subst (λ (s : TableContent). s.room ≡ []) (shown_pattern is) none

  pub shown_no_rows : pattern.rows ≡ empty → made ≡ None → t.rows ≡ empty
  shown_no_rows none is = subst (λ (s : TableContent). s.rows ≡ empty) (shown_pattern is) none

module _ (t : TableContent) where
  pub no_spot : (s : Spot) → t.room ≡ [] → Contains t.room s → ⊥
  no_spot s none has = elem_contains [] s (subst (λ (ss : List Spot). Contains ss s) none has)

  -- so there is no room for a row
  pub no_place : (row : Record) (key : Key) → t.room ≡ [] → values_in t.keys.primary row ≡ Some key → KeepsSpots (spots_of t.keys row) t.room → ⊥
  no_place row key none own room = no_spot (0, key) none (room (0, key) (key_spot t.keys row key own))

  pub no_row : (key : Key) → t.rows ≡ empty → IsSome (get t.rows key) → ⊥
  no_row key none there =
      none_there (get t.rows key) (ap (λ m. get m key) none ∙ get-empty {X = Record} key_cmp key) there

  pub nothing_released : (s : Spot) → t.room ≡ [] → ReleasesSpot t t s
  nothing_released s none = record {
    keys = refl;
    rows = refl;
    gone = λ free has. no_spot s none has;
    fewer = λ other has. has;
    others = λ other differs has. has;
  }
