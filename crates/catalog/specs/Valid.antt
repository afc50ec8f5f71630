-- Which lists of tables are a valid catalog.
use Rattle.std.specs.Prelude.{◌≡◌, ◌≢◌, ℕ, ◌<◌, ◌≤◌, IsTrue, List, length, Option, Some, None, All}
use Rattle.std.specs.List.{AllPairs, AllZip}
use Rattle.model.specs.declared.table_def.ColumnType.{ColumnType}
use Rattle.model.specs.declared.value.Value.{Value}
use Rattle.model.specs.Definition.{Definition}
use Rattle.catalog.specs.Document.{is_name}
use Rattle.catalog.specs.Faults.{is_of_type}

-- a key has a column, each of its numbers is a column's, and none stands twice
pub record IsKey (columns : ℕ) (key : List ℕ) : Type 0 where
  pub has_column : 0 < length key
  pub in_range : All (λ n. n < columns) key
  pub distinct : AllPairs (λ m n. m ≢ n) key

-- a default is null or a value of the column's type
abbrev pub IsDefaultOf : ColumnType → Option Value → Type 0
IsDefaultOf kind None = Unit {0}
IsDefaultOf kind (Some value) = IsTrue (is_of_type kind value)

-- a table of a valid catalog
pub record IsValidTable (t : Definition) : Type 0 where
  pub namespace_named : IsTrue (is_name t.namespace)
  pub named : IsTrue (is_name t.name)
  pub columns_named : All (λ c. IsTrue (is_name c.name)) t.columns
  pub columns_distinct : AllPairs (λ c d. c.name ≢ d.name) t.columns
  pub columns_limit : length t.columns ≤ 1600
  pub primary_key : IsKey (length t.columns) t.primary
  pub unique_keys : All (IsKey (length t.columns)) t.uniques
  pub uniques_limit : length t.uniques ≤ 16
  pub defaults_fit : AllZip (λ c default. IsDefaultOf c.kind default) t.columns t.defaults

-- the definitions of tables, in the order of their places
abbrev pub Definitions : Type 0
Definitions = List Definition

-- a valid catalog
pub record IsValid (ts : Definitions) : Type 0 where
  pub tables_valid : All IsValidTable ts
  pub tables_distinct : AllPairs (λ t u. t.namespace ≡ u.namespace → t.name ≢ u.name) ts
  pub tables_limit : length ts ≤ 1024
