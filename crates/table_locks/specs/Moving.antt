-- Rows of one table that are moved out of tables and into them.
--     SameBeside      the rows of each other table stay
use Rattle.std.specs.Prelude.{◌≡◌, ◌≢◌, ℕ}
use Rattle.model.specs.Rows.{Rows}
use Rattle.world_parts.specs.ByTable.{rows_at}

-- the rows of each other table stay
abbrev pub SameBeside : ℕ → Rows → Rows → Type 0
SameBeside number old new = (table : ℕ) → table ≢ number → rows_at table new ≡ rows_at table old
