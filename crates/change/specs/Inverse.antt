-- What takes a change back, and when it can be put back.
--     rows_held, edits_of      the rows of an emptied table as edits; what an inverse puts back, as edits
--     row_by_inverse      the row that it puts back at a place
--     AsLeft      the tables are where the inverse alters them as its change left them
--     HasItsRoom, room_back      the room that an inverse needs; the room that is there once it is put back
--     CanUnwipe, CanPutBack      when tables can get back what they held, and a change be taken back
use Rattle.std.specs.Prelude.{◌≡◌, ℕ, ◌<◌, ◌==◌, not, Bool, filter, List, [], ◌∷◌, ◌++◌, Option, Some, None, map, length, unwrap_or, IsSome}
use Rattle.std.specs.FinMap as map_of
use Rattle.std.specs.FinMap.{get, remove, entries}
use Rattle.model.specs.declared.key.Key.{Key}
use Rattle.model.specs.declared.row.Row.{Row}
use Rattle.model.specs.declared.cell.Cell.{Cell}
use Rattle.model.specs.Rows.{Place, Rows, Schema, keys_at, IsValid}
use Rattle.model.specs.Effect.{Edits, one_edit, back, all_back}
use Rattle.model.specs.Cells.{table_of}
use Rattle.indexes.specs.Content.{Content, HasRoom}
use Rattle.indexes.specs.Table.{cells_in}
use Rattle.change.specs.declared.inverse.Wiped.{Wiped}
use Rattle.change.specs.declared.inverse.Inverse.{Inverse}
use Rattle.change.specs.declared.inverse.Inverse.TheVariants.{Take, Put, Replace, Move, Unwipe}
use Rattle.change.specs.Edits.{laid_together}

-- the rows that an emptied table held, each at its place
abbrev pub rows_held : Wiped → Edits
rows_held w = map_of.from_entries (map (λ (e : Key × Row). ((w.table, e.0), Some e.1)) (entries w.contents.rows))

-- what stood where the change altered the tables
abbrev pub edits_of : Inverse → Edits
edits_of (Take table key) = one_edit (table, key) None
edits_of (Put table key row) = one_edit (table, key) (Some row)
edits_of (Replace table key row) = one_edit (table, key) (Some row)
edits_of (Move table keys row) = map_of.insert (one_edit (table, keys.value.new_key) None) (table, keys.value.key) (Some row)
edits_of (Unwipe wiped) = laid_together (map rows_held wiped.items)

-- the row that an inverse puts back at a place, or none
abbrev pub row_by_inverse : Inverse → Place → Option Row
row_by_inverse inverse place = unwrap_or (get (edits_of inverse) place) None

-- the room that is there once a table has what it held
abbrev pub is_elsewhere : ℕ → Cell → Bool
is_elsewhere table cell = not (table_of cell == table)

-- the room once an emptied table has what it held: its own cells of before, and those of other tables
abbrev pub room_with : List Cell → Wiped → List Cell
room_with room w = cells_in w.table w.contents ++ filter (is_elsewhere w.table) room

-- the room once all of these emptied tables have what they held, the last of them first
abbrev pub room_unwiped : List Cell → List Wiped → List Cell
room_unwiped room [] = room
room_unwiped room (w ∷ ws) = room_with (room_unwiped room ws) w

-- the room once an inverse is put back; it changes only where emptied tables get theirs back
abbrev pub room_back : List Cell → Inverse → List Cell
room_back room (Take table key) = room
room_back room (Put table key row) = room
room_back room (Replace table key row) = room
room_back room (Move table keys row) = room
room_back room (Unwipe wiped) = room_unwiped room wiped.items

-- a row of the table stands at the key, or none does
abbrev pub HasRow : Rows → ℕ → Key → Type 0
HasRow rows table key = IsSome (get rows (table, key))

-- no row of the table stands at the key
abbrev pub HasNoRow : Rows → ℕ → Key → Type 0
HasNoRow rows table key = get rows (table, key) ≡ None

-- no row of the table stands
abbrev pub HasNoRows : Rows → ℕ → Type 0
HasNoRows rows table = (key : Key) → get rows (table, key) ≡ None

-- each table is empty once those that were emptied after it have what they held
abbrev pub AreEmpty : Rows → List Wiped → Type 0
AreEmpty rows [] = Unit {0}
AreEmpty rows (w ∷ ws) = AreEmpty rows ws × HasNoRows (all_back rows (map rows_held ws)) w.table

-- the table is one of the schema, and what it held is of its keys
abbrev pub BelongsTo : Schema → Wiped → Type 0
BelongsTo schema w = (w.table < length schema) × (w.contents.keys ≡ keys_at schema w.table)

-- the emptied tables are all of the schema, and what each held is of its keys
abbrev pub AreKnown : Schema → List Wiped → Type 0
AreKnown schema [] = Unit {0}
AreKnown schema (w ∷ ws) = AreKnown schema ws × BelongsTo schema w

-- emptied tables can get back what they held: they are known, and each is empty when its turn comes
pub record CanUnwipe (t : Content) (wiped : List Wiped) : Type 0 where
  pub known : AreKnown t.schema wiped
  pub empty : AreEmpty t.rows wiped

-- the tables are known
abbrev pub IsKnown : Schema → Inverse → Type 0
IsKnown schema (Take table key) = table < length schema
IsKnown schema (Put table key row) = table < length schema
IsKnown schema (Replace table key row) = table < length schema
IsKnown schema (Move table keys row) = table < length schema
IsKnown schema (Unwipe wiped) = AreKnown schema wiped.items

-- where the change altered the tables, they are as it left them: with a row, with none, or empty
abbrev pub AsLeft : Rows → Inverse → Type 0
AsLeft rows (Take table key) = HasRow rows table key
AsLeft rows (Put table key row) = HasNoRow rows table key
AsLeft rows (Replace table key row) = HasRow rows table key
AsLeft rows (Move table keys row) = HasRow rows table keys.value.new_key × HasNoRow (remove rows (table, keys.value.new_key)) table keys.value.key
AsLeft rows (Unwipe wiped) = AreEmpty rows wiped.items

-- the cells of the row that is put back have a slot; emptied tables bring theirs
abbrev pub HasItsRoom : Schema → List Cell → Inverse → Type 0
HasItsRoom schema room (Take table key) = Unit {0}
HasItsRoom schema room (Put table key row) = HasRoom room schema table row
HasItsRoom schema room (Replace table key row) = HasRoom room schema table row
HasItsRoom schema room (Move table keys row) = HasRoom room schema table row
HasItsRoom schema room (Unwipe wiped) = Unit {0}

-- the change can be taken back: the tables are as it left them where it altered them, they are valid once what stood is back, and its room is there
pub record CanPutBack (t : Content) (inverse : Inverse) : Type 0 where
  pub known : IsKnown t.schema inverse
  pub as_left : AsLeft t.rows inverse
  pub valid : IsValid t.schema (back t.rows (edits_of inverse))
  pub room : HasItsRoom t.schema t.room inverse
