-- The change that a row message asks for, by the mapping of its relation.
use Rattle.std.specs.Prelude.{◌==◌, List, length, Option, Some, None, option_and_then, option_map, Result, Ok, ok_or, slice_get}
use Rattle.messages.specs.declared.tuple.Column.{Column}
use Rattle.messages.specs.declared.tuple.Column.TheVariants.{Null, Unchanged, Text}
use Rattle.messages.specs.declared.tuple.OldTuple.{OldTuple}
use Rattle.messages.specs.declared.tuple.OldTuple.TheVariants.{Key as OldKey, Full as OldRow}
use Rattle.messages.specs.declared.row.RowMessage.{RowMessage}
use Rattle.messages.specs.declared.row.RowMessage.TheVariants.{Insert, Update, Delete}
use Rattle.model.specs.declared.table_def.ColumnType.{ColumnType}
use Rattle.model.specs.declared.value.Value.{Value}
use Rattle.model.specs.declared.change.Change.{Change}
use Rattle.model.specs.declared.change.Change.TheVariants.{Put, Set, Remove}
use Rattle.model.specs.declared.patch.ColumnPatch.{ColumnPatch}
use Rattle.model.specs.declared.patch.ColumnPatch.TheVariants.{Keep, Null as BecomesNull, Value as Becomes}
use Rattle.relcache.specs.declared.fault.RelFault.{RelFault}
use Rattle.relcache.specs.declared.fault.RelFault.TheVariants.{KeyNotSent, ColumnCount, BadValue, NullKey}
use Rattle.relcache.specs.declared.mapping.Field.{Field}
use Rattle.relcache.specs.declared.mapping.ColumnSource.{ColumnSource}
use Rattle.relcache.specs.declared.mapping.ColumnSource.TheVariants.{Sent, Default}
use Rattle.relcache.specs.Mapping.{Mapped}
use Rattle.relcache.specs.Steps.{◌>>=◌, require, each}
use Rattle.model.specs.Types.{value_of}

-- ---- what a tuple says

-- the value of a column that must be sent, or null; nothing where it is unchanged, or no value of the type
abbrev pub sent_value : ColumnType → Column → Option (Option Value)
sent_value kind Null = Some None
sent_value kind Unchanged = None
sent_value kind (Text text) = option_map (λ value. Some value) (value_of kind text)

-- what an update does to a column; nothing where the text is no value of the type
abbrev pub sent_patch : ColumnType → Column → Option ColumnPatch
sent_patch kind Null = Some BecomesNull
sent_patch kind Unchanged = Some Keep
sent_patch kind (Text text) = option_map Becomes (value_of kind text)

-- what the field's column of the tuple says
abbrev pub field_value : List Column → Field → Option (Option Value)
field_value tuple field = option_and_then (sent_value field.kind) (slice_get tuple field.place)

-- what the field's column of the tuple asks of an update
abbrev pub field_patch : List Column → Field → Option ColumnPatch
field_patch tuple field = option_and_then (sent_patch field.kind) (slice_get tuple field.place)

-- ---- rows, patches and keys

-- a column of an inserted row: as sent, or else the default
abbrev pub column_value : List Column → ColumnSource → Option (Option Value)
column_value tuple (Sent field) = field_value tuple field
column_value tuple (Default value) = Some value

-- a column of an updated row: as sent, or else kept
abbrev pub column_patch : List Column → ColumnSource → Option ColumnPatch
column_patch tuple (Sent field) = field_patch tuple field
column_patch tuple (Default value) = Some Keep

-- the inserted row, if all of its values can be read
abbrev pub row_of : Mapped → List Column → Option (List (Option Value))
row_of m tuple = each (column_value tuple) m.columns

-- the patch of an update, if all of its values can be read
abbrev pub patch_of : Mapped → List Column → Option (List ColumnPatch)
patch_of m tuple = each (column_patch tuple) m.columns

-- The key that a row is looked up by: refused where the value of a key column is bad, and then where
-- one is null. The tuple's other columns are not read.
abbrev pub lookup_key : List Field → List Column → Result (List Value) RelFault
lookup_key fields tuple = do
  values ← ok_or (each (field_value tuple) fields) BadValue
  ok_or (each (λ value. value) values) NullKey

-- ---- the change

-- the columns of an old tuple, be it a key or a whole row
abbrev pub old_columns : OldTuple → List Column
old_columns (OldKey tuple) = tuple
old_columns (OldRow tuple) = tuple

-- an update looks its row up by the old tuple if one was sent, and otherwise by the new one
abbrev pub lookup_tuple : Option OldTuple → List Column → List Column
lookup_tuple None new = new
lookup_tuple (Some old) new = old_columns old

-- refused where a tuple has another number of columns than the relation
abbrev pub counted : Mapped → List Column → Result (Unit {0}) RelFault
counted m tuple = require (length tuple == m.published) ColumnCount

-- the change of an insert, which puts the row
abbrev pub planned_insert : Mapped → List Column → Result Change RelFault
planned_insert m new = do
  count ← counted m new
  row ← ok_or (row_of m new) BadValue
  Ok (Put m.table row)

-- the change of an update, which sets the row that is looked up
abbrev pub planned_update : Mapped → List Column → List Column → Result Change RelFault
planned_update m lookup new = do
  fields ← ok_or m.key KeyNotSent
  lookup_count ← counted m lookup
  count ← counted m new
  patch ← ok_or (patch_of m new) BadValue
  key ← lookup_key fields lookup
  Ok (Set m.table key patch)

-- the change of a delete, which removes the row that is looked up
abbrev pub planned_delete : Mapped → List Column → Result Change RelFault
planned_delete m old = do
  fields ← ok_or m.key KeyNotSent
  count ← counted m old
  key ← lookup_key fields old
  Ok (Remove m.table key)

-- The change of a row message, or the first of these faults over the whole message: a column of the
-- primary key is not flagged as key, a tuple has another number of columns, a value is bad, a row is
-- looked up by a null.
abbrev pub planned : Mapped → RowMessage → Result Change RelFault
planned m (Insert new) = planned_insert m new
planned m (Update old new) = planned_update m (lookup_tuple old new) new
planned m (Delete old) = planned_delete m (old_columns old)
