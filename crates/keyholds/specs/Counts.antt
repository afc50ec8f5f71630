-- How many cells each transaction holds in each table.
--     count_in      of a transaction in a table
--     SetsCount, SameCounts      one count is another number; none is
use Rattle.std.specs.Prelude.{◌≡◌, ◌≢◌, ℕ, unwrap_or}
use Rattle.std.specs.Ordering.{nat_cmp, ordering_then}
use Rattle.std.specs.BTreeMap as tree
use Rattle.std.specs.BTreeMap.{BTreeMap}
use Rattle.std.specs.declared.cmp.Ordering.{Ordering}

-- a table and a transaction: by table, and then by transaction
abbrev pub pair_cmp : ℕ × ℕ → ℕ × ℕ → Ordering
pair_cmp x y = ordering_then (nat_cmp x.0 y.0) (nat_cmp x.1 y.1)

-- how many cells of a table a transaction holds
abbrev pub count_in : BTreeMap (ℕ × ℕ) ℕ → ℕ → ℕ → ℕ
count_in counts table xid = unwrap_or (tree.get pair_cmp counts (table, xid)) 0

-- the count of a transaction in a table is another number, and no other count changes
pub record SetsCount (table xid count : ℕ) (old new : BTreeMap (ℕ × ℕ) ℕ) : Type 0 where
  pub here : count_in new table xid ≡ count
  pub tables : (other_table other : ℕ) → other_table ≢ table → count_in new other_table other ≡ count_in old other_table other
  pub others : (other_table other : ℕ) → other ≢ xid → count_in new other_table other ≡ count_in old other_table other

-- no count changes
abbrev pub SameCounts : BTreeMap (ℕ × ℕ) ℕ → BTreeMap (ℕ × ℕ) ℕ → Type 0
SameCounts old new = (table xid : ℕ) → count_in new table xid ≡ count_in old table xid
