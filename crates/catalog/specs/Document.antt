-- What a TOML document says of tables: its fields and their kinds, and nothing of what they mean.
use Rattle.std.specs.Prelude.{ℕ, codes, Bool, true, false, not, ◌&&◌, ◌==◌, List, [], ◌∷◌, length, Option, Some, None, option_and_then, if◌then◌else◌}
use Rattle.std.specs.List.{list_any}
use Rattle.std.specs.Str.{bytes_eq}
use Rattle.toml.specs.Data.{Data, string, integer, boolean, Items, no_items, item, Members, no_members, member, get_member, as_str, as_array, as_table}
use Rattle.model.specs.declared.table_def.ColumnType.{ColumnType}
use Rattle.model.specs.declared.table_def.ColumnType.TheVariants.{Int, Text, Bool as Truth}
use Rattle.model.specs.declared.value.Value.TheVariants.{Int as IntValue, Text as TextValue, Bool as TruthValue}
use Rattle.catalog.specs.declared.draft.DefaultDraft.{DefaultDraft}
use Rattle.catalog.specs.declared.draft.DefaultDraft.TheVariants.{Missing, Given, OtherKind}
use Rattle.catalog.specs.declared.draft.ColumnDraft.{ColumnDraft}
use Rattle.catalog.specs.declared.draft.TableDraft.{TableDraft}

-- the next step with what the first gives, if it gives something
infixl 10 ◌>>=◌
abbrev pub ◌>>=◌ : {A B : Type 0} → Option A → (A → Option B) → Option B
o >>= f = option_and_then f o

-- the value, where the test passes
abbrev pub provided : {A : Type 0} → Bool → Option A → Option A
provided true o = o
provided false o = None

-- each item as f reads it; none where f can't read one
abbrev pub each : {A : Type 0} → (Data → Option A) → Items → Option (List A)
each f no_items = Some []
each f (item d ds) = do
  x ← f d
  xs ← each f ds
  Some (x ∷ xs)

-- an array, with each item as f reads it
abbrev pub array_of : {A : Type 0} → (Data → Option A) → Data → Option (List A)
array_of f d = as_array d >>= each f

-- a value that has to be there, as f reads it
abbrev pub required : {A : Type 0} → (Data → Option A) → Option Data → Option A
required f o = option_and_then f o

-- a value that may be missing, as f reads it
abbrev pub optional : {A : Type 0} → A → (Data → Option A) → Option Data → Option A
optional missing f None = Some missing
optional missing f (Some d) = f d

-- no member has another key than these
abbrev pub has_only : List (List ℕ) → Members → Bool
has_only keys no_members = true
has_only keys (member k d ms) = list_any (bytes_eq k) keys && has_only keys ms

-- the members of a table that has no other keys than these
abbrev pub fields_of : List (List ℕ) → Data → Option Members
fields_of keys d = as_table d >>= (λ ms. provided (has_only keys ms) (Some ms))

-- a name is not empty and has no zero byte
abbrev pub is_name : List ℕ → Bool
is_name text = not (length text == 0) && not (list_any (λ byte. byte == 0) text)

-- a string that is a name
abbrev pub name_of : Data → Option (List ℕ)
name_of d = as_str d >>= (λ text. provided (is_name text) (Some text))

-- the type that a word stands for
abbrev pub type_named : List ℕ → Option ColumnType
type_named text =
    if bytes_eq text (codes "int") then Some Int
    else (if bytes_eq text (codes "text") then Some Text
    else (if bytes_eq text (codes "bool") then Some Truth
    else None))

-- a column's type: a string that stands for one
abbrev pub type_of : Data → Option ColumnType
type_of d = as_str d >>= type_named

-- an integer, a string and a boolean are values; other kinds are not
abbrev pub given : Data → DefaultDraft
given (integer n) = Given (IntValue n)
given (string text) = Given (TextValue text)
given (boolean b) = Given (TruthValue b)
given _ = OtherKind

-- a default, which may be missing
abbrev pub default_of : Option Data → DefaultDraft
default_of None = Missing
default_of (Some d) = given d

-- a column: `name`, `type`, and `default` where it has one
unfoldable pub column_in : Members → Option ColumnDraft
column_in ms = do
  name ← required name_of (get_member (codes "name") ms)
  kind ← required type_of (get_member (codes "type") ms)
  Some (record { name = name; kind = kind; default = default_of (get_member (codes "default") ms) })

-- the fields that a column may have
abbrev pub column_keys : List (List ℕ)
column_keys = codes "name" ∷ codes "type" ∷ codes "default" ∷ []

-- a column, which has no other fields
unfoldable pub column_of : Data → Option ColumnDraft
column_of d = fields_of column_keys d >>= column_in

-- a key: the names of its columns
abbrev pub key_of : Data → Option (List (List ℕ))
key_of = array_of as_str

-- a table: `namespace`, `name` and `column`, and `primary` and `unique` where it has them
unfoldable pub table_in : Members → Option TableDraft
table_in ms = do
  namespace ← required name_of (get_member (codes "namespace") ms)
  name ← required name_of (get_member (codes "name") ms)
  columns ← required (array_of column_of) (get_member (codes "column") ms)
  primary ← optional [] key_of (get_member (codes "primary") ms)
  uniques ← optional [] (array_of key_of) (get_member (codes "unique") ms)
  Some (record {
    namespace = namespace;
    name = name;
    columns = columns;
    primary = primary;
    uniques = uniques;
  })

-- the fields that a table may have
abbrev pub table_keys : List (List ℕ)
table_keys = codes "namespace" ∷ codes "name" ∷ codes "primary" ∷ codes "unique" ∷ codes "column" ∷ []

-- a table, which has no other fields
unfoldable pub table_of : Data → Option TableDraft
table_of d = fields_of table_keys d >>= table_in

-- a document: the array `table`, and nothing else; without it there are no tables
unfoldable pub tables_of : Members → Option (List TableDraft)
tables_of doc =
    provided (has_only (codes "table" ∷ []) doc)
    (optional [] (array_of table_of) (get_member (codes "table") doc))
