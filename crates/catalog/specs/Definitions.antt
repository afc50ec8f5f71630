-- The definitions of tables that drafts make.
use Rattle.std.specs.Prelude.{ℕ, List, map, Option, Some, None}
use Rattle.std.specs.List.{position_or_len}
use Rattle.std.specs.Str.{bytes_eq}
use Rattle.model.specs.declared.value.Value.{Value}
use Rattle.model.specs.declared.table_def.Column.{Column}
use Rattle.model.specs.Definition.{Definition}
use Rattle.catalog.specs.declared.draft.DefaultDraft.{DefaultDraft}
use Rattle.catalog.specs.declared.draft.DefaultDraft.TheVariants.{Missing, Given, OtherKind}
use Rattle.catalog.specs.declared.draft.ColumnDraft.{ColumnDraft}
use Rattle.catalog.specs.declared.draft.TableDraft.{TableDraft}

-- a column, with the name and the type that are described
abbrev pub column_from : ColumnDraft → Column
column_from c = record { name = c.name; kind = c.kind }

-- a column without a default is null by default
abbrev pub value_given : DefaultDraft → Option Value
value_given Missing = None
value_given (Given value) = Some value
value_given OtherKind = None

-- a column's default
abbrev pub default_from : ColumnDraft → Option Value
default_from c = value_given c.default

-- the number of the column with the name, from 0
abbrev pub column_number : List ColumnDraft → List ℕ → ℕ
column_number columns name = position_or_len (λ c. bytes_eq name c.name) columns

-- a key: the number of the column of each of its names
abbrev pub key_from : List ColumnDraft → List (List ℕ) → List ℕ
key_from columns names = map (column_number columns) names

-- the definition of the table that is described
abbrev pub definition_from : TableDraft → Definition
definition_from t = record {
  namespace = t.namespace;
  name = t.name;
  columns = map column_from t.columns;
  defaults = map default_from t.columns;
  primary = key_from t.columns t.primary;
  uniques = map (key_from t.columns) t.uniques;
}
