-- What a cache of accounts answers, and what it is kept from.
--     email_columns      the columns of the email's unique key
--     HasAccounts      the first table is there, with a unique key
--     HasEmail      a row of the accounts has this email
--     IsKeptFrom      the rows that the commits of a stream leave
use Rattle.std.specs.Prelude.{◌≡◌, ℕ, ◌<◌, List, [], ◌∷◌, Some, length}
use Rattle.std.specs.FinMap as finite
use Rattle.model.specs.declared.key.Key.{Key}
use Rattle.model.specs.declared.row.Row.{Row}
use Rattle.model.specs.declared.value.Value.TheVariants.{Text}
use Rattle.model.specs.Rows.{Rows, Schema, keys_at, values_in}
use Rattle.indexes.specs.Content.{Content, unique_columns}
use Rattle.catalog.specs.Definition.{Definition}
use Rattle.run.specs.declared.end.End.TheVariants.{Clean}
use Rattle.run.specs.declared.outcome.Config.{Config}
use Rattle.run.specs.declared.outcome.Outcome.{Outcome}
use Rattle.run.specs.Devices.{DeviceState}
use Rattle.leader.specs.WithWorkers.{RunsBy}

-- the columns of the email's unique key
abbrev pub email_columns : Schema → List ℕ
email_columns schema = unique_columns schema 0 1

-- The first table is there, and has a unique key.
pub record HasAccounts (schema : Schema) : Type 0 where
  pub there : 0 < length schema
  pub unique : 0 < length (keys_at schema 0).uniques

-- the row is one of the accounts, and its email is this
abbrev pub HasEmail : Content → List ℕ → Row → Type 0
HasEmail tables email row =
    (key : Key) × (finite.get tables.rows (0, key) ≡ Some row) × (values_in (email_columns tables.schema) row ≡ Some (Text email ∷ []))

-- The rows are what the commits of a stream leave that a run by so many workers, beside so many watchers, read to a clean end,
-- from empty tables: `RunsBy` says which commits these are, and that they are applied one after another.
pub record IsKeptFrom (workers watchers : ℕ) (definitions : List Definition) (config : Config) (given : DeviceState) (rows : Rows) : Type 0 where
  pub left : DeviceState
  pub outcome : Outcome
  pub run : RunsBy workers watchers definitions config finite.empty given left outcome
  pub clean : outcome.end ≡ Clean
  pub same : rows ≡ outcome.tables.rows
