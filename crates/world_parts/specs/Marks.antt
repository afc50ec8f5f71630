-- Savepoints, cut by table. No table can be told of a savepoint that is set while another table is worked on. So a change
-- goes to its table under the name of the latest mark, in place of its own subtransaction.
--     marks_with, marks_in      the subtransactions that have a mark, the latest first
--     latest, mark_for, under      the latest mark; that of one more change; each change under the latest mark as it comes
--     marked_at, items_at      of these the changes of one table; the items that are told to the table
--     is_kept, AreKept, before_dropped      a rollback leaves the mark, and those of these; the changes before the first whose mark it drops
--     AreMarked      of each transaction the part has just these items
--     IsFirstDropped      the first dropped mark among those of a table
--     HasPart      the part of a table, with just these items
--     CutsTo, CutsNothing      what a rollback drops of a table
--     AreDropped      the marks that a rollback drops
use Rattle.std.specs.Prelude.{◌≡◌, ◌⊎◌, ℕ, ◌==◌, Bool, true, false, ◌||◌, List, [], ◌∷◌, Option, Some, None, map, flat_map, take_while, if◌then◌else◌}
use Rattle.std.specs.List.{AllByRecursion, list_any}
use Rattle.std.specs.FinMap.{get}
use Rattle.model.specs.declared.change.Change as change_type
use Rattle.model.specs.declared.item.Item.{Item}
use Rattle.model.specs.declared.item.Item.TheVariants.{Change, Touch, BackTo, Last}
use Rattle.model.specs.Survivors.{survivors, before_savepoint}
use Rattle.world.specs.World.{Opened, World}
use Rattle.world_parts.specs.ByTable.{change_at}
use Rattle.world_parts.specs.Parts.{IsPartOf}

-- ---- marks

-- the subtransaction has a mark
abbrev pub is_marked : ℕ → List ℕ → Bool
is_marked sub marks = list_any (λ mark. sub == mark) marks

-- once an item names the subtransaction: the first one sets its mark, and the top transaction has none
abbrev pub marks_with : ℕ → List ℕ → ℕ → List ℕ
marks_with top marks sub = if (sub == top) || is_marked sub marks then marks else sub ∷ marks

-- once these items have come
abbrev pub marks_in : ℕ → List ℕ → List Item → List ℕ
marks_in top marks [] = marks
marks_in top marks (Change sub c ∷ items) = marks_in top (marks_with top marks sub) items
marks_in top marks (Touch sub ∷ items) = marks_in top (marks_with top marks sub) items
marks_in top marks (BackTo sub ∷ items) = marks_in top marks items
marks_in top marks (Last ∷ items) = marks_in top marks items

-- the latest mark, or the top transaction
abbrev pub latest : ℕ → List ℕ → ℕ
latest top [] = top
latest top (mark ∷ marks) = mark

-- ---- changes under marks

-- a change, and the mark under which it is
abbrev pub Marked : Type 0
Marked = ℕ × change_type.Change

-- the changes of items, each under the latest mark that stands as it comes
abbrev pub under : ℕ → List ℕ → List Item → List Marked
under top marks [] = []
under top marks (Change sub c ∷ items) =
    (latest top (marks_with top marks sub), c) ∷ under top (marks_with top marks sub) items
under top marks (Touch sub ∷ items) = under top (marks_with top marks sub) items
under top marks (BackTo sub ∷ items) = under top marks items
under top marks (Last ∷ items) = under top marks items

-- what one is in a table
abbrev pub marked_in : ℕ → Marked → List Marked
marked_in table m = map (λ c. (m.0, c)) (change_at table m.1)

-- what they are in a table
abbrev pub marked_at : ℕ → List Marked → List Marked
marked_at table ms = flat_map (marked_in table) ms

-- the item that is told to the table
abbrev pub told_of : Marked → Item
told_of m = Change m.0 m.1

-- the items that are told to a table, where these of a transaction survive
abbrev pub items_at : ℕ → ℕ → List Item → List Item
items_at table top items = map told_of (marked_at table (under top [] items))

-- the mark under which a change of the subtransaction comes, behind these items
abbrev pub mark_for : ℕ → ℕ → List Item → ℕ
mark_for top sub items = latest top (marks_with top (marks_in top [] items) sub)

-- ---- a rollback

-- it leaves the mark: that of the top transaction, or one that stood before
abbrev pub is_kept : ℕ → List ℕ → ℕ → Bool
is_kept top kept mark = (mark == top) || is_marked mark kept

-- the changes before the first whose mark is dropped
abbrev pub before_dropped : ℕ → List ℕ → List Marked → List Marked
before_dropped top kept ms = take_while (λ (m : Marked). is_kept top kept m.0) ms

-- the marks that a rollback of the subtransaction leaves
abbrev pub kept_by : ℕ → ℕ → List Item → List ℕ
kept_by top sub items = marks_in top [] (before_savepoint sub items)

-- The mark is dropped, and none before it.
abbrev pub IsFirstDropped : ℕ → List ℕ → ℕ → List Marked → Type 0
IsFirstDropped top kept mark [] = ⊥
IsFirstDropped top kept mark (m ∷ ms) =
    ((m.0 ≡ mark) × (is_kept top kept mark ≡ false)) ⊎ ((is_kept top kept m.0 ≡ true) × IsFirstDropped top kept mark ms)

-- each of these is under a mark that is kept
abbrev pub AreKept : ℕ → List ℕ → List Marked → Type 0
AreKept top kept ms = AllByRecursion (λ (m : Marked). is_kept top kept m.0 ≡ true) ms

-- ---- of a world and a part

-- the items of a transaction that survive; none where it isn't open
abbrev pub survivors_if : ℕ → Option Opened → List Item
survivors_if xid None = []
survivors_if xid (Some o) = survivors xid o.items

-- what the part has of each transaction are the items that were told to the table
abbrev pub AreMarked : ℕ → World → World → Type 0
AreMarked table w part =
    (xid : ℕ) → survivors_if xid (get part.opened xid) ≡ items_at table xid (survivors_if xid (get w.opened xid))

-- It is the part of the table, and has just these items.
abbrev pub HasPart : ℕ → World → World → Type 0
HasPart table w part = IsPartOf table w part × AreMarked table w part

-- A rollback of the subtransaction drops of the table the changes from the first on that is under this mark; or nothing.
abbrev pub CutsTo : ℕ → ℕ → ℕ → List Item → ℕ → Type 0
CutsTo table top sub items mark =
    ((sub == top) ≡ false) × IsFirstDropped top (kept_by top sub items) mark (marked_at table (under top [] items))

abbrev pub CutsNothing : ℕ → ℕ → ℕ → List Item → Type 0
CutsNothing table top sub items =
    ((sub == top) ≡ true)
    ⊎ (((sub == top) ≡ false) × AreKept top (kept_by top sub items) (marked_at table (under top [] items)))

-- These marks, and no others, are the ones that a rollback of the subtransaction drops, where these items survived.
pub record AreDropped (top sub : ℕ) (items : List Item) (marks : List ℕ) : Type 0 where
  pub all : (mark : ℕ) → is_marked mark (marks_in top [] items) ≡ true → is_kept top (kept_by top sub items) mark ≡ false
      → is_marked mark marks ≡ true
  pub alone : (mark : ℕ) → is_marked mark marks ≡ true → is_kept top (kept_by top sub items) mark ≡ false
