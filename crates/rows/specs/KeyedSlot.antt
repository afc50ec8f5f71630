-- A slot of a hashed store, whichever way its row is kept.
use Rattle.std.specs.Prelude.{Option}
use Rattle.model.specs.declared.key.Key.{Key}
use Rattle.model.specs.declared.row.Row.{Row}

-- a place for a row, with its key
pub record KeyedSlot : Type 0 where
  pub key : Key
  pub row : Option Row
