-- The mapping of a relation: where the value of each column of the subscriber's table comes from
-- (PostgreSQL manual: Logical Replication, Subscription: tables and columns are matched by name).
use Rattle.std.specs.Prelude.{ℕ, codes, Bool, false, not, ◌&&◌, ◌||◌, List, [], ◌∷◌, length, Option, Some, None, option_and_then, option_map, Result, Ok, ok_or, slice_get, position}
use Rattle.std.specs.List.{list_any, list_all}
use Rattle.std.specs.Str.{bytes_eq}
use Rattle.model.specs.declared.table_def.Column.{Column}
use Rattle.model.specs.declared.value.Value.{Value}
use Rattle.model.specs.Definition.{Definition}
use Rattle.relcache.specs.declared.fault.RelFault.{RelFault}
use Rattle.relcache.specs.declared.fault.RelFault.TheVariants.{UnknownRelation, TableMissing, ColumnMissing, ColumnCount}
use Rattle.relcache.specs.declared.published.PublishedColumn.{PublishedColumn}
use Rattle.relcache.specs.declared.mapping.Field.{Field}
use Rattle.relcache.specs.declared.mapping.ColumnSource.{ColumnSource}
use Rattle.relcache.specs.declared.mapping.ColumnSource.TheVariants.{Sent, Default}
use Rattle.relcache.specs.Published.{Published, Relations, relation_of}
use Rattle.relcache.specs.Steps.{◌>>=◌, require, each}

-- What planning a row needs of a table: its place in the catalog; how many columns are published; for
-- each column of the table, in its order, where its value comes from; and the fields of the primary
-- key in its order, if all of its columns are flagged as key by the relation.
pub record Mapped : Type 0 where
  pub table : ℕ
  pub published : ℕ
  pub columns : List ColumnSource
  pub key : Option (List Field)

-- the mapping of these parts, in that order
abbrev pub made_of : ℕ → ℕ → List ColumnSource → Option (List Field) → Mapped
made_of table published columns key = record { table = table; published = published; columns = columns; key = key }

-- ---- the table

-- an empty namespace means pg_catalog
abbrev pub namespace_of : List ℕ → List ℕ
namespace_of [] = codes "pg_catalog"
namespace_of (c ∷ cs) = c ∷ cs

-- the table has the relation's namespace and name
abbrev pub is_table_of : Published → Definition → Bool
is_table_of r table = bytes_eq table.namespace (namespace_of r.namespace) && bytes_eq table.name r.name

-- the relation's table, after its place, if there is one
abbrev pub table_of : Published → List Definition → Option (ℕ × Definition)
table_of r tables =
    option_and_then (λ place. option_map (λ table. (place, table)) (slice_get tables place)) (position (is_table_of r) tables)

-- ---- the columns

-- the published column has this name
abbrev pub is_named : List ℕ → PublishedColumn → Bool
is_named name column = bytes_eq column.name name

-- the table has a column of this published column's name
abbrev pub has_column : List Column → PublishedColumn → Bool
has_column columns sent = list_any (λ (column : Column). bytes_eq column.name sent.name) columns

-- some name stands twice
abbrev pub has_twice : List PublishedColumn → Bool
has_twice [] = false
has_twice (column ∷ columns) = list_any (is_named column.name) columns || has_twice columns

-- a value of this column's type, in this place of the tuple
abbrev pub field_at : Column → ℕ → Field
field_at column place = record { place = place; kind = column.kind }

-- the field of the published column of that name, if there is one
abbrev pub field_of : List PublishedColumn → Column → Option Field
field_of sent column = option_map (field_at column) (position (is_named column.name) sent)

-- the field, if there is one, or else the default
abbrev pub sent_or : Option Value → Option Field → ColumnSource
sent_or default None = Default default
sent_or default (Some field) = Sent field

-- that field, or else the default
abbrev pub source_of : List PublishedColumn → Column → Option Value → ColumnSource
source_of sent column default = sent_or default (field_of sent column)

-- where the value of each of the table's columns comes from; a column without a default is null
abbrev pub sources_of : List PublishedColumn → List Column → List (Option Value) → List ColumnSource
sources_of sent [] defaults = []
sources_of sent (column ∷ columns) [] = source_of sent column None ∷ sources_of sent columns []
sources_of sent (column ∷ columns) (default ∷ defaults) = source_of sent column default ∷ sources_of sent columns defaults

-- ---- the primary key

-- it has this name, and is flagged as key
abbrev pub is_key_named : List ℕ → PublishedColumn → Bool
is_key_named name column = is_named name column && column.is_key

-- the published column of that name, if it is flagged as key
abbrev pub key_field_of : List PublishedColumn → Column → Option Field
key_field_of sent column = option_map (field_at column) (position (is_key_named column.name) sent)

-- the same of the table's column of this number
abbrev pub key_field_at : List PublishedColumn → List Column → ℕ → Option Field
key_field_at sent columns number = option_and_then (key_field_of sent) (slice_get columns number)

-- the field of each of the primary key's columns, if all are flagged as key
abbrev pub key_of : List PublishedColumn → Definition → Option (List Field)
key_of sent table = each (key_field_at sent table.columns) table.primary

-- ---- the mapping

-- the mapping of a relation to this table, in this place of the catalog
abbrev pub mapped : Published → ℕ × Definition → Mapped
mapped r t = record {
  table = t.0;
  published = length r.columns;
  columns = sources_of r.columns t.1.columns t.1.defaults;
  key = key_of r.columns t.1;
}

-- the mapping of a relation: there is its table, which has all published columns, and none is named twice
abbrev pub map_relation : List Definition → Published → Result Mapped RelFault
map_relation definitions r = do
  t ← ok_or (table_of r definitions) TableMissing
  found ← require (list_all (has_column t.1.columns) r.columns) ColumnMissing
  once ← require (not (has_twice r.columns)) ColumnCount
  Ok (mapped r t)

-- The mapping of an OID's relation, or the first of these faults: no relation was learnt for it, there is
-- no such table, a published column is not in the table, a column is named twice.
abbrev pub resolved : List Definition → Relations → ℕ → Result Mapped RelFault
resolved definitions relations oid = ok_or (relation_of relations oid) UnknownRelation >>= map_relation definitions
