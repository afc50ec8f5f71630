-- What an update does to a row, column by column, and the row that it leaves.
use Rattle.std.specs.Prelude.{ℕ, Bool, true, false, List, Option, Some, None, if◌then◌else◌, map, slice_get, unwrap_or}
use Rattle.std.specs.List.{list_any}
use Rattle.model.specs.declared.value.Value.{Value as Single}
use Rattle.model.specs.declared.patch.ColumnPatch.{ColumnPatch}
use Rattle.model.specs.declared.patch.ColumnPatch.TheVariants.{Keep, Null, Value}
use Rattle.model.specs.declared.patch.ColumnPatchRef.{ColumnPatchRef}
use Rattle.model.specs.declared.patch.ColumnPatchRef.TheVariants.{Keep as KeepRef, Null as NullRef, Value as ValueIs}
use Rattle.model.specs.ValueRef.{read_value}

-- what is done to a column, as it is read
abbrev pub read_column : ColumnPatchRef → ColumnPatch
read_column KeepRef = Keep
read_column NullRef = Null
read_column (ValueIs value) = Value (read_value value)

-- what an update does to a column; one past its end is kept
abbrev pub column_at : List ColumnPatch → ℕ → ColumnPatch
column_at patch number = unwrap_or (slice_get patch number) Keep

-- a column after an update
abbrev pub patch_value : ColumnPatch → Option Single → Option Single
patch_value Keep old = old
patch_value Null old = None
patch_value (Value new) old = Some new

-- the row that an update leaves of nulls
abbrev pub row_given : List ColumnPatch → List (Option Single)
row_given patch = map (λ column. patch_value column None) patch

-- the column is kept
abbrev pub is_kept : ColumnPatch → Bool
is_kept Keep = true
is_kept Null = false
is_kept (Value new) = false

-- the row that an update of all columns leaves; none where it keeps one
abbrev pub all_given : List ColumnPatch → Option (List (Option Single))
all_given patch = if list_any is_kept patch then None else Some (row_given patch)
