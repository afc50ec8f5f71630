-- Where the row at a place is read that is to lie beside it.
--     row_read      the row that is read there
--     CanRead      a table that can be read
use Rattle.std.specs.Prelude.{ℕ, ◌<◌, Option, length, option_map, option_to_list}
use Rattle.std.specs.FinMap.{get}
use Rattle.model.specs.declared.row.Row.{Row}
use Rattle.model.specs.Rows.{Place}
use Rattle.undo.specs.Next.{next_row}
use Rattle.live_tables.specs.declared.row_source.RowSource.{RowSource}
use Rattle.live_tables.specs.declared.row_source.RowSource.TheVariants.{Live, Next}

-- the row that is read at a place: the live one, or the one that the next inverse puts back
abbrev pub row_read : RowSource → Place → Option Row
row_read (Live tables) = get tables.now.rows
row_read (Next next) = next_row (option_to_list (option_map (λ i. i.now) next))

-- the live tables have the table; of an inverse any can be asked for
abbrev pub CanRead : RowSource → ℕ → Type 0
CanRead (Live tables) table = table < length tables.now.schema
CanRead (Next next) table = Unit {0}
