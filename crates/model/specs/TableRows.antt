-- The rows of one table among all, in the order of their keys.
use Rattle.std.specs.Prelude.{ℕ, ◌==◌, Bool, List, map, filter}
use Rattle.std.specs.FinMap.{entries}
use Rattle.model.specs.declared.row.Row.{Row}
use Rattle.model.specs.Rows.{Place, Rows}

-- the row stands in the table
abbrev pub is_in_table : ℕ → Place × Row → Bool
is_in_table table e = e.0.0 == table

-- each row that stands in the table, once
abbrev pub rows_of_table : Rows → ℕ → List Row
rows_of_table rows table = map (λ (e : Place × Row). e.1) (filter (is_in_table table) (entries rows))
