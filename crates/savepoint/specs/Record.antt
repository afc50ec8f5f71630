-- What an open transaction has done and can take back, as its callers see it.
--     Record      the top transaction, the items that no rollback has dropped, the marks, the inverses, and room
--     with_mark_unless_top      the marks with one for the subtransaction; the top transaction gets none
--     HasMark      the subtransaction has its mark
--     OthersAreNamed, AllAreNamed      each other that has one is named by an item; each that has one
--     inverses_since, inverses_before      those of the changes from a subtransaction's savepoint on, and the others
use Rattle.std.specs.Prelude.{◌≢◌, ℕ, ◌==◌, List, [], Option, Some, None, IsSome, IsTrue, if◌then◌else◌, take, drop}
use Rattle.std.specs.List.{list_any}
use Rattle.change.specs.declared.inverse.Inverse.{Inverse}
use Rattle.undo.specs.Undo.{Log}
use Rattle.model.specs.declared.item.Item.{Item}
use Rattle.savepoint.specs.declared.mark.Mark.{Mark}
use Rattle.model.specs.Survivors.{is_of}
use Rattle.savepoint.specs.Savepoints.{mark_at, with_mark}

-- what an open transaction has done and can take back, as its callers see it
pub record Record : Type 0 where
  pub top : ℕ
  pub survivors : List Item  -- the items that no rollback has dropped
  pub marks : List (ℕ × Mark)  -- of its subtransactions, in the order in which they were set
  pub log : Log  -- the inverses of the survivors' changes
  pub room : ℕ  -- how many more items can be added without memory

-- the marks with one for the subtransaction; the one that it has stays, and the top transaction gets none
abbrev pub with_mark_unless_top : ℕ → ℕ → Mark → List (ℕ × Mark) → List (ℕ × Mark)
with_mark_unless_top top sub mark marks = if sub == top then marks else with_mark sub mark marks

-- the subtransaction has its mark, or is the top transaction, which needs none
abbrev pub HasMark : Record → ℕ → Type 0
HasMark r sub = sub ≢ r.top → IsSome (mark_at sub r.marks)

-- each subtransaction that has a mark, but perhaps this one, is named by an item
abbrev pub OthersAreNamed : Record → ℕ → Type 0
OthersAreNamed r sub = (other : ℕ) → other ≢ sub → IsSome (mark_at other r.marks) → IsTrue (list_any (is_of other) r.survivors)

-- each subtransaction that has a mark is named by an item: so it is but between `note` and the item that it is for
abbrev pub AllAreNamed : Record → Type 0
AllAreNamed r = (other : ℕ) → IsSome (mark_at other r.marks) → IsTrue (list_any (is_of other) r.survivors)

-- the inverses that were added after the mark; none without a mark
abbrev pub after_mark : Option Mark → List Inverse → List Inverse
after_mark None inverses = []
after_mark (Some mark) inverses = drop mark.undo inverses

-- the inverses that were there at the mark; all of them without a mark
abbrev pub up_to_mark : Option Mark → List Inverse → List Inverse
up_to_mark None inverses = inverses
up_to_mark (Some mark) inverses = take mark.undo inverses

-- the inverses of the changes from the subtransaction's savepoint on; none if it has none
abbrev pub inverses_since : ℕ → Record → List Inverse
inverses_since sub r = after_mark (mark_at sub r.marks) r.log.inverses

-- and those of the changes before
abbrev pub inverses_before : ℕ → Record → List Inverse
inverses_before sub r = up_to_mark (mark_at sub r.marks) r.log.inverses
