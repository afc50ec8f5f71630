-- The savepoints of a transaction: a list of subtransactions, each with its mark, in the order in which
-- they were set. Each subtransaction has one at most.
use Rattle.std.specs.Prelude.{◌≡◌, ℕ, ◌-◌, ◌==◌, List, [], ◌∷◌, ◌++◌, Option, Some, not, is_some, if◌then◌else◌, take_while, map, length, slice_get}
use Rattle.std.specs.Map.{lookup}
use Rattle.model.specs.declared.item.Item.{Item}
use Rattle.model.specs.declared.item.Item.TheVariants.{Change, Touch, BackTo, Last}
use Rattle.model.specs.Survivors.{before_savepoint_by}
use Rattle.std.specs.Ordering.{nat_cmp}
use Rattle.std.specs.BTreeMap.{BTreeMap, get}

-- a subtransaction's mark, if it has one
abbrev pub mark_at : {M : Type 0} → ℕ → List (ℕ × M) → Option M
mark_at sub marks = lookup (λ named. named == sub) marks

-- the marks with one for the subtransaction; the one that it has stays
abbrev pub with_mark : {M : Type 0} → ℕ → M → List (ℕ × M) → List (ℕ × M)
with_mark sub mark marks = if is_some (mark_at sub marks) then marks else marks ++ (sub, mark) ∷ []

-- the marks that were set before the subtransaction's; all of them if it has none
abbrev pub before_mark : {M : Type 0} → ℕ → List (ℕ × M) → List (ℕ × M)
before_mark {M} sub marks = take_while (λ (m : ℕ × M). not (m.0 == sub)) marks

-- the subtransactions, in the order of their marks
abbrev pub subs_of : {M : Type 0} → List (ℕ × M) → List ℕ
subs_of {M} marks = map (λ (m : ℕ × M). m.0) marks

-- the subtransaction of the last mark, if there is one
abbrev pub latest_sub : {M : Type 0} → List (ℕ × M) → Option ℕ
latest_sub marks = slice_get (subs_of marks) (length marks - 1)

-- the marks once an item has come: the first item that names a subtransaction sets its savepoint
abbrev pub with_mark_of : {M : Type 0} → Item → M → List (ℕ × M) → List (ℕ × M)
with_mark_of (Change sub c) mark marks = with_mark sub mark marks
with_mark_of (Touch sub) mark marks = with_mark sub mark marks
with_mark_of (BackTo sub) mark marks = marks
with_mark_of Last mark marks = marks

-- the marks once items have come, each item beside the mark that a savepoint there has
abbrev pub with_marks_of : {M : Type 0} → List (ℕ × M) → List (Item × M) → List (ℕ × M)
with_marks_of marks [] = marks
with_marks_of marks (i ∷ items) = with_marks_of (with_mark_of i.0 i.1 marks) items

-- the savepoints of items
abbrev pub savepoints : {M : Type 0} → List (Item × M) → List (ℕ × M)
savepoints items = with_marks_of [] items

-- the items before the subtransaction's savepoint, each still beside its mark
abbrev pub before_first : {M : Type 0} → ℕ → List (Item × M) → List (Item × M)
before_first {M} sub items = before_savepoint_by (λ (i : Item × M). i.0) sub items

-- The map has just the index of each subtransaction's mark.
pub record HasIndexes {M : Type 0} (indexes : BTreeMap ℕ ℕ) (marks : List (ℕ × M)) : Type 0 where
  pub named : (sub index : ℕ) → get nat_cmp indexes sub ≡ Some index → slice_get (subs_of marks) index ≡ Some sub
  pub found : (sub index : ℕ) → slice_get (subs_of marks) index ≡ Some sub → get nat_cmp indexes sub ≡ Some index
