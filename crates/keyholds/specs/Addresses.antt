-- Where each cell that is held stands.
--     address_at      where a cell stands, if it is held
--     AreAddresses      each cell of each list, and no other, has its address, and each table its counts
--     with_cells      the lists, with another one for a transaction
use Rattle.std.specs.Prelude.{◌≡◌, ◌≢◌, ℕ, ◌+◌, ◌-◌, ◌==◌, Bool, true, false, List, Option, Some, None, if◌then◌else◌, slice_get, count_by}
use Rattle.std.specs.HashMap as hash
use Rattle.std.specs.Ordering.{eq_by_cmp}
use Rattle.model.specs.declared.cell.Cell.{Cell}
use Rattle.model.specs.Cells.{table_of}
use Rattle.model.specs.CellOrder.{cell_cmp}
use Rattle.keyholds.specs.declared.address.Address.{Address}
use Rattle.keyholds.specs.declared.address.Addresses.{Addresses}
use Rattle.keyholds.specs.Counts.{count_in, SetsCount, SameCounts}
use Rattle.keyholds.specs.Holds.{AreDisjoint}

-- where a cell stands, if it is held
abbrev pub address_at : Addresses → Cell → Option Address
address_at addresses = hash.get (eq_by_cmp cell_cmp) addresses.addresses

-- how many cells of a list lie in a table
abbrev pub count_of_table : ℕ → List Cell → ℕ
count_of_table table cells = count_by (λ c. table == table_of c) cells

-- each cell of each transaction's list stands at its address, and nothing else does
pub record AreAddresses (held : ℕ → List Cell) (addresses : Addresses) : Type 0 where
  pub at : (xid index : ℕ) (cell : Cell) → slice_get (held xid) index ≡ Some cell → address_at addresses cell ≡ Some (record { xid = xid; index = index })
  pub found : (cell : Cell) (address : Address) → address_at addresses cell ≡ Some address → slice_get (held address.xid) address.index ≡ Some cell
  pub counted : (table xid : ℕ) → count_in addresses.counts.counts table xid ≡ count_of_table table (held xid)
  pub apart : AreDisjoint held

-- the lists, with another one for a transaction
abbrev pub with_cells : (ℕ → List Cell) → ℕ → List Cell → ℕ → List Cell
with_cells held xid cells other = if other == xid then cells else held other

-- No cell is held.
pub record HasNoAddresses (addresses : Addresses) : Type 0 where
  pub none : (cell : Cell) → address_at addresses cell ≡ None
  pub zero : (table xid : ℕ) → count_in addresses.counts.counts table xid ≡ 0

-- no other transaction has just this cell
abbrev pub IsAlone : ℕ → Cell → Addresses → Type 0
IsAlone xid cell addresses = (address : Address) → address_at addresses cell ≡ Some address → address.xid ≡ xid

-- another transaction has just this cell
pub record IsHeldAt (xid : ℕ) (cell : Cell) (addresses : Addresses) (holder : ℕ) : Type 0 where
  pub another : holder ≢ xid
  pub index : ℕ
  pub at : address_at addresses cell ≡ Some (record { xid = holder; index = index })

-- whether this transaction has just this cell
abbrev pub TellsAt : ℕ → Cell → Addresses → Bool → Type 0
TellsAt holder cell addresses true = (index : ℕ) × (address_at addresses cell ≡ Some (record { xid = holder; index = index }))
TellsAt holder cell addresses false = (address : Address) → address_at addresses cell ≡ Some address → address.xid ≢ holder

-- a cell is at an address, and the transaction's count in its table is one more
pub record AddsAddress (cell : Cell) (address : Address) (old new : Addresses) : Type 0 where
  pub here : address_at new cell ≡ Some address
  pub beside : (other : Cell) → other ≢ cell → address_at new other ≡ address_at old other
  pub count : SetsCount (table_of cell) address.xid (count_in old.counts.counts (table_of cell) address.xid + 1) old.counts.counts new.counts.counts

-- a cell is at no address, and the transaction's count in its table is one less
pub record RemovesAddress (cell : Cell) (xid : ℕ) (old new : Addresses) : Type 0 where
  pub here : address_at new cell ≡ None
  pub beside : (other : Cell) → other ≢ cell → address_at new other ≡ address_at old other
  pub count : SetsCount (table_of cell) xid (count_in old.counts.counts (table_of cell) xid - 1) old.counts.counts new.counts.counts

-- Each cell is held as it was.
pub record SameAddresses (old new : Addresses) : Type 0 where
  pub addresses : (cell : Cell) → address_at new cell ≡ address_at old cell
  pub counts : SameCounts old.counts.counts new.counts.counts
