-- The shares that an open transaction has in the tables' parts.
--     Share, Shares      a ticket of a table's part; those of a transaction, by table
--     share_of      the share of a table, if there is one
--     TakesShare      the share of a table was taken out, and no other
use Rattle.std.specs.Prelude.{◌≡◌, ◌≢◌, ℕ, List, Option, None, slice_index_or}
use Rattle.tokens.specs.Lists.{OpenList}
use Rattle.engine.specs.declared.events.Event.{Event}

-- a ticket of a table's part
abbrev pub Share : Type 0
Share = OpenList Event

-- those of a transaction, by table
abbrev pub Shares : Type 0
Shares = List (Option Share)

-- the share of a table, if there is one
abbrev pub share_of : Shares → ℕ → Option Share
share_of shares table = slice_index_or shares table None

-- the share of a table was taken out, and no other
abbrev pub TakesShare : Shares → ℕ → Shares → Type 0
TakesShare shares table new =
    (share_of new table ≡ None) × ((other : ℕ) → other ≢ table → share_of new other ≡ share_of shares other)
