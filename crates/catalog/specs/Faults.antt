-- What is wrong with the tables that a document describes.
use Rattle.std.specs.Prelude.{ℕ, Bool, true, false, not, ◌&&◌, ◌||◌, ◌==◌, nat_lt, List, [], ◌∷◌, length, Option, Some, None, if◌then◌else◌}
use Rattle.std.specs.List.{list_any, list_all}
use Rattle.std.specs.Str.{bytes_eq}
use Rattle.model.specs.declared.table_def.ColumnType.{ColumnType}
use Rattle.model.specs.declared.table_def.ColumnType.TheVariants.{Int, Text, Bool as Truth}
use Rattle.model.specs.declared.value.Value.{Value}
use Rattle.model.specs.declared.value.Value.TheVariants.{Int as IntValue, Text as TextValue, Bool as TruthValue}
use Rattle.catalog.specs.declared.draft.DefaultDraft.{DefaultDraft}
use Rattle.catalog.specs.declared.draft.DefaultDraft.TheVariants.{Missing, Given, OtherKind}
use Rattle.catalog.specs.declared.draft.ColumnDraft.{ColumnDraft}
use Rattle.catalog.specs.declared.fault.CatalogFault.{CatalogFault}
use Rattle.catalog.specs.declared.fault.CatalogFault.TheVariants.{DuplicateTable, DuplicateColumn, NoPrimaryKey, KeyColumnUnknown, BadDefault, OverLimit}
use Rattle.catalog.specs.declared.draft.TableDraft.{TableDraft}

-- an element of the list is the same as a later one
abbrev pub repeats : {A : Type 0} → (A → A → Bool) → List A → Bool
repeats same [] = false
repeats same (x ∷ xs) = list_any (same x) xs || repeats same xs

-- the list has no element
abbrev pub is_empty : {A : Type 0} → List A → Bool
is_empty xs = length xs == 0

-- the tables have one namespace and one name
abbrev pub same_table : TableDraft → TableDraft → Bool
same_table t u = bytes_eq t.namespace u.namespace && bytes_eq t.name u.name

-- the columns have one name
abbrev pub same_column : ColumnDraft → ColumnDraft → Bool
same_column c d = bytes_eq c.name d.name

-- two columns of the table have one name
abbrev pub repeats_column : TableDraft → Bool
repeats_column t = repeats same_column t.columns

-- the table has no primary key, or an empty one
abbrev pub lacks_primary : TableDraft → Bool
lacks_primary t = is_empty t.primary

-- a column of the table has the name
abbrev pub has_column : List ColumnDraft → List ℕ → Bool
has_column columns name = list_any (λ c. bytes_eq name c.name) columns

-- the names are those of columns, and none stands twice
abbrev pub names_columns : List ColumnDraft → List (List ℕ) → Bool
names_columns columns names = list_all (has_column columns) names && not (repeats bytes_eq names)

-- a unique key is empty, or not one of columns of the table, each once
abbrev pub is_unknown_unique : List ColumnDraft → List (List ℕ) → Bool
is_unknown_unique columns names = is_empty names || not (names_columns columns names)

-- a key of the table is not one of its columns, each once, or a unique key is empty
abbrev pub has_unknown_key : TableDraft → Bool
has_unknown_key t = not (names_columns t.columns t.primary) || list_any (is_unknown_unique t.columns) t.uniques

-- the value is one of the type
abbrev pub is_of_type : ColumnType → Value → Bool
is_of_type Int (IntValue n) = true
is_of_type Text (TextValue text) = true
is_of_type Truth (TruthValue b) = true
is_of_type _ _ = false

-- a default that is given and is no value of the column's type
abbrev pub is_bad_default : ColumnDraft → Bool
is_bad_default c = is_bad c.kind c.default
  where
    is_bad : ColumnType → DefaultDraft → Bool
    is_bad kind Missing = false
    is_bad kind (Given value) = not (is_of_type kind value)
    is_bad kind OtherKind = true

-- a default of the table is not of its column's type
abbrev pub has_bad_default : TableDraft → Bool
has_bad_default t = list_any is_bad_default t.columns

-- the table has more than 1600 columns or 16 unique keys
abbrev pub is_over_limit : TableDraft → Bool
is_over_limit t = nat_lt 1600 (length t.columns) || nat_lt 16 (length t.uniques)

-- there are more than 1024 tables, or one is over a limit
abbrev pub are_over_limit : List TableDraft → Bool
are_over_limit ts = nat_lt 1024 (length ts) || list_any is_over_limit ts

-- the least fault that applies to the tables, if one does
unfoldable pub first_fault : List TableDraft → Option CatalogFault
first_fault ts =
    if repeats same_table ts then Some DuplicateTable
    else (if list_any repeats_column ts then Some DuplicateColumn
    else (if list_any lacks_primary ts then Some NoPrimaryKey
    else (if list_any has_unknown_key ts then Some KeyColumnUnknown
    else (if list_any has_bad_default ts then Some BadDefault
    else (if are_over_limit ts then Some OverLimit
    else None)))))
