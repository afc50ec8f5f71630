-- What a table's definition says.
use Rattle.std.specs.Prelude.{ℕ, List, Option}
use Rattle.model.specs.declared.value.Value.{Value}
use Rattle.model.specs.declared.table_def.Column.{Column}

-- a table's definition: its names, columns with a default each, and keys by column numbers
pub record Definition : Type 0 where
  pub namespace : List ℕ
  pub name : List ℕ
  pub columns : List Column
  pub defaults : List (Option Value)
  pub primary : List ℕ
  pub uniques : List (List ℕ)
