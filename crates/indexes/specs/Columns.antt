-- The values that a row has in some columns, nulls left out: what an index is asked for.
use Rattle.std.specs.Prelude.{ℕ, List, [], ◌∷◌, ◌++◌, Option, Some, None}
use Rattle.model.specs.declared.value.Value.{Value}
use Rattle.model.specs.declared.key.Key.{Key}
use Rattle.model.specs.declared.row.Row.{Row}
use Rattle.model.specs.Rows.{value_at}

-- a key with the value first; a null adds nothing
abbrev pub before_key : Option Value → Key → Key
before_key None values = values
before_key (Some v) values = v ∷ values

-- a row's values in these columns, nulls left out
abbrev pub present : List ℕ → Row → Key
present [] row = []
present (column ∷ columns) row = before_key (value_at row column) (present columns row)

-- values, and a key behind them, if there is one
abbrev pub behind : List Value → Option Key → Option Key
behind front None = None
behind front (Some rest) = Some (front ++ rest)
