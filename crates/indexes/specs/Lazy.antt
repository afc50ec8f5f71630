-- A table that isn't there until it is written to.
use Rattle.std.specs.Prelude.{◌≡◌, [], Option, Some, None}
use Rattle.std.specs.FinMap.{empty}
use Rattle.indexes.specs.Table.{TableContent, IsSound}

-- what it reads as: the table that was made, or else its pattern
abbrev pub shown : TableContent → Option TableContent → TableContent
shown pattern None = pattern
shown pattern (Some made) = made

-- the pattern is an empty table without room, and what was made has its keys
pub record IsLazy (pattern : TableContent) (made : Option TableContent) : Type 0 where
  pub sound : IsSound pattern
  pub no_rows : pattern.rows ≡ empty
  pub no_room : pattern.room ≡ []
  pub keys : (shown pattern made).keys ≡ pattern.keys
