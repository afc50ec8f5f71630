-- Two lists in the order of their keys, merged: rows, and what stands at some keys in their place.
--     or_row, AreMerged      what stands at a key goes before the row there; rows where it does at each key
--     kept, kept_each      the rows among what stands at keys
--     around, merged      a row, and what stands at keys, before rows; all of them
--     row_list      a row, or none, as a list
--     PutsUpTo, PutsRest      what stands at the keys up to one, and at all that are left, comes behind rows
--     AreLaid      what is committed at some keys goes beneath what is known
use Rattle.std.specs.Prelude.{◌≡◌, ◌⊎◌, ℕ, List, [], ◌∷◌, ◌++◌, Option, Some, None, Bool, if◌then◌else◌}
use Rattle.std.specs.List.{Contains}
use Rattle.std.specs.Map.{values_of}
use Rattle.std.specs.BTreeMap as tree
use Rattle.std.specs.BTreeMap.{BTreeMap}
use Rattle.std.specs.FinMap.{get}
use Rattle.std.specs.FinMap.Entries.{by_order}
use Rattle.model.specs.declared.key.Key.{Key}
use Rattle.model.specs.declared.row.Row.{Row}
use Rattle.model.specs.Key.{key_cmp}
use Rattle.model.specs.Rows.{Rows}
use Rattle.model.specs.TableRows.{rows_of_table}
use Rattle.change.specs.Edits.{or_else}
use Rattle.change.specs.Laid.{known_at}

-- what stands at a key, if that is known, and else the row there
abbrev pub or_row : Option (Option Row) → Option Row → Option Row
or_row None row = row
or_row (Some stands) row = stands

-- They are the rows of the table, in key order, in any rows where what stands at a key goes before the row there.
abbrev pub AreMerged : Rows → ℕ → BTreeMap Key (Option Row) → List Row → Type 0
AreMerged live table stands rows =
    (all : Rows) → ((key : Key) → or_row (tree.get key_cmp stands key) (get live (table, key)) ≡ get all (table, key)) → rows ≡ rows_of_table all table

-- the row at a key, if one stands there, before others
abbrev pub kept : Key → Option Row → List (Key × Row) → List (Key × Row)
kept key None rows = rows
kept key (Some row) rows = (key, row) ∷ rows

-- the rows that stand at keys
abbrev pub kept_each : List (Key × Option Row) → List (Key × Row)
kept_each [] = []
kept_each (h ∷ hs) = kept h.0 h.1 (kept_each hs)

-- What stands at the keys below a row's, then the row, unless its key is among them, and then what the others give.
abbrev pub around : Key × Row → (List (Key × Option Row) → List (Key × Row)) → List (Key × Option Row) → List (Key × Row)
around e others [] = e ∷ others []
around e others (h ∷ hs) = by_order (key_cmp h.0 e.0) (kept h.0 h.1 (around e others hs)) (kept h.0 h.1 (others hs)) (e ∷ others (h ∷ hs))

-- rows, but at some keys what stands there, in the order of the keys
abbrev pub merged : List (Key × Row) → List (Key × Option Row) → List (Key × Row)
merged [] hs = kept_each hs
merged (e ∷ es) hs = around e (merged es) hs

-- a row, or none, as a list
abbrev pub row_list : Option Row → List Row
row_list None = []
row_list (Some row) = row ∷ []

-- What stands at the keys up to this one comes behind rows, and the other keys are left: what is to come then is the row at the
-- key, unless the key itself was found, and the others.
abbrev pub PutsUpTo : Key → List Row → List (Key × Option Row) → Bool → List Row → List (Key × Option Row) → Type 0
PutsUpTo key rows stands found new left =
    (e : Key × Row) (others : List (Key × Option Row) → List (Key × Row)) → e.0 ≡ key
    → rows ++ values_of (around e others stands) ≡ new ++ values_of (if found then others left else e ∷ others left)

-- what stands at all these keys comes behind rows
abbrev pub PutsRest : List Row → List (Key × Option Row) → List Row → Type 0
PutsRest rows stands new = new ≡ rows ++ values_of (kept_each stands)

-- What was known stays; of these keys it is known now what is committed there, and of no others anything.
abbrev pub AreLaid : Rows → ℕ → List Key → BTreeMap Key (Option Row) → BTreeMap Key (Option Row) → Type 0
AreLaid committed table keys old new =
    (key : Key) → (known_at new key ≡ or_else (known_at old key) (Some (get committed (table, key)))) ⊎ ((known_at new key ≡ known_at old key) × ¬ Contains keys key)
