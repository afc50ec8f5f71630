-- What a change does to the rows, by looking through all of them, and what takes it back.
--     Edits      places, and the row that is to stand at each, or none.        overlay, rows_under      the rows after edits; what takes them back
--     AreApart      edits that share no place
--     outcome      Done with its edits, or Skip, or a conflict with its cause
--     effect, inverse, back      the rows after a change; what stood where it edits; the rows with that put back
--     serial, inverses      the rows after changes, one after another; what takes each of them back
--     all_back      the rows with inverses put back, the last of them first
use Rattle.std.specs.Prelude.{◌≡◌, ◌⊎◌, ℕ, suc, ◌==◌, Bool, false, List, [], ◌∷◌, Option, Some, None, if◌then◌else◌, map, filter}
use Rattle.std.specs.List.{list_any}
use Rattle.std.specs.FinMap as map
use Rattle.std.specs.FinMap.{FinMap}
use Rattle.model.specs.declared.key.Key.{Key}
use Rattle.model.specs.declared.row.Row.{Row}
use Rattle.model.specs.declared.change.Change.{Change}
use Rattle.model.specs.declared.change.Change.TheVariants.{Put, Set, Remove, Wipe}
use Rattle.model.specs.declared.patch.ColumnPatch.{ColumnPatch}
use Rattle.model.specs.Patch.{patch_value}
use Rattle.model.specs.Rows.{Place, place_cmp, Rows, Schema, keys_at, values_in, key_of, are_taken}

-- ---- edits

-- places, and the row that is to stand at each, or none
abbrev pub Edits : Type 0
Edits = FinMap place_cmp (Option Row)

-- the rows with this row, or none, at the place
abbrev pub put_at : Rows → Place → Option Row → Rows
put_at rows place None = map.remove rows place
put_at rows place (Some row) = map.insert rows place row

-- the rows with these put at their places; at one place the first of these has the say
abbrev pub put_all : List (Place × Option Row) → Rows → Rows
put_all [] rows = rows
put_all (e ∷ es) rows = put_at (put_all es rows) e.0 e.1

-- the rows with these put at their places
abbrev pub overlay : Rows → Edits → Rows
overlay rows edits = put_all (map.entries edits) rows

-- what stands at the places of the edits
abbrev pub rows_under : Rows → Edits → Edits
rows_under rows edits = map.from_entries (map (λ (e : Place × Option Row). (e.0, map.get rows e.0)) (map.entries edits))

-- the edit of a single place
abbrev pub one_edit : Place → Option Row → Edits
one_edit place row = map.insert map.empty place row

-- at each place one of the two has no edit
abbrev pub AreApart : Edits → Edits → Type 0
AreApart edits others = (p : Place) → (map.get edits p ≡ None) ⊎ (map.get others p ≡ None)

-- ---- what a change does

-- why a row may not stand in its table: a null in its primary key, or the least key that clashes
-- (0 is the primary key, 1 upwards the unique keys)
pub data ClashCause : Type 0 where
  NullKey : (table : ℕ) → ClashCause
  Unique : (table key : ℕ) → ClashCause

-- what a change comes to: it is done with these edits, skipped, or refused for a conflict
pub data Outcome : Type 0 where
  Done : (edits : Edits) → Outcome
  Skip : Outcome
  Clashes : (cause : ClashCause) → Outcome

-- some row of the table agrees with this one in these columns, none of which is null here
abbrev pub are_taken_unless_null : Rows → ℕ → List ℕ → Option Key → Bool
are_taken_unless_null rows table columns None = false
are_taken_unless_null rows table columns (Some values) = are_taken rows table columns values

-- the least of these unique keys, numbered from `number`, in which the row agrees with another
abbrev pub first_taken : Rows → ℕ → Row → ℕ → List (List ℕ) → Option ℕ
first_taken rows table row number [] = None
first_taken rows table row number (columns ∷ uniques) =
    if are_taken_unless_null rows table columns (values_in columns row) then Some number else first_taken rows table row (suc number) uniques

-- a change is done with these edits, unless a key was found taken: then it clashes there
abbrev pub unless_taken : ℕ → Option ℕ → Edits → Outcome
unless_taken table (Some number) edits = Clashes (Unique table number)
unless_taken table None edits = Done edits

-- a row comes to this key, after these edits: refused for a null in it, or for the least key taken
abbrev pub row_outcome_at : Schema → Rows → Edits → ℕ → Row → Option Key → Outcome
row_outcome_at schema rows edits table row None = Clashes (NullKey table)
row_outcome_at schema rows edits table row (Some key) =
    if map.contains_key rows (table, key)
    then Clashes (Unique table 0)
    else unless_taken table (first_taken rows table row 1 (keys_at schema table).uniques) (map.insert edits (table, key) (Some row))

-- a row comes into its table, after these edits
abbrev pub row_outcome : Schema → Rows → Edits → ℕ → Row → Outcome
row_outcome schema rows edits table row = row_outcome_at schema rows edits table row (key_of schema table row)

-- a row after an update; a column past the patch's end is kept
abbrev pub patch_row : List ColumnPatch → Row → Row
patch_row [] row = row
patch_row (p ∷ ps) [] = []
patch_row (p ∷ ps) (v ∷ row) = patch_value p v ∷ patch_row ps row

-- the row at the place is replaced: it is looked up before the new one is checked, against all rows but itself
abbrev pub set_outcome : Schema → Rows → Place → List ColumnPatch → Option Row → Outcome
set_outcome schema rows place patch None = Skip
set_outcome schema rows place patch (Some old) =
    row_outcome schema (map.remove rows place) (one_edit place None) place.0 (patch_row patch old)

-- the row at the place goes; skipped where none stands there
abbrev pub remove_outcome : Place → Option Row → Outcome
remove_outcome place None = Skip
remove_outcome place (Some row) = Done (one_edit place None)

-- the rows of these tables
abbrev pub is_wiped : List ℕ → Place × Row → Bool
is_wiped tables e = list_any (λ table. e.0.0 == table) tables

-- the edit that takes a row from its place
abbrev pub row_cleared : Place × Row → Place × Option Row
row_cleared e = (e.0, None)

-- the edits that empty these tables
abbrev pub wipe_edits : Rows → List ℕ → Edits
wipe_edits rows tables = map.from_entries (map row_cleared (filter (is_wiped tables) (map.entries rows)))

-- what a change comes to in these rows
abbrev pub outcome : Schema → Rows → Change → Outcome
outcome schema rows (Put table row) = row_outcome schema rows map.empty table row
outcome schema rows (Set table key patch) = set_outcome schema rows (table, key) patch (map.get rows (table, key))
outcome schema rows (Remove table key) = remove_outcome (table, key) (map.get rows (table, key))
outcome schema rows (Wipe tables) = Done (wipe_edits rows tables)

-- ---- effect, inverse, back

-- the edits of a change that is done; none if it is skipped or refused
abbrev pub edits_of : Outcome → Edits
edits_of (Done edits) = edits
edits_of Skip = map.empty
edits_of (Clashes cause) = map.empty

-- the rows after a change; one that is skipped or clashes leaves them
abbrev pub effect : Schema → Rows → Change → Rows
effect schema rows c = overlay rows (edits_of (outcome schema rows c))

-- what stood where the change edits
abbrev pub inverse : Schema → Rows → Change → Edits
inverse schema rows c = rows_under rows (edits_of (outcome schema rows c))

-- the rows with what stood put back
abbrev pub back : Rows → Edits → Rows
back rows inverse = overlay rows inverse

-- the rows after changes, one after another
abbrev pub serial : Schema → Rows → List Change → Rows
serial schema rows [] = rows
serial schema rows (c ∷ cs) = serial schema (effect schema rows c) cs

-- the inverses of changes, oldest first
abbrev pub inverses : Schema → Rows → List Change → List Edits
inverses schema rows [] = []
inverses schema rows (c ∷ cs) = inverse schema rows c ∷ inverses schema (effect schema rows c) cs

-- the rows with inverses put back, the last of them first
abbrev pub all_back : Rows → List Edits → Rows
all_back rows [] = rows
all_back rows (inverse ∷ inverses) = back (all_back rows inverses) inverse
