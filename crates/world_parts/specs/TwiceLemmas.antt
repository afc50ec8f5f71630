-- What was cut to a table stays as it is when it is cut to the table once more. So a part of a part is a part of the world.
--     rows_twice, changes_twice, items_twice      rows, changes, and items that were told
--     part_of_part, own_part, line_of_part      a part of a part; a part of itself
--     reached_of_each      a world is reached by parts of calls where each of its parts is reached by calls
use Rattle.std.specs.Prelude.{◌≡◌, ℕ, ◌==◌, Bool, true, false, ◌||◌, List, [], ◌∷◌, ◌++◌, ⊤, map, if◌then◌else◌, refl}
use Rattle.std.proofs.Common.{sym, ◌∙◌, ap, subst}
use Rattle.std.specs.FinMap.{get}
use Rattle.model.specs.declared.change.Change as change_type
use Rattle.model.specs.declared.change.Change.TheVariants.{Put, Set, Remove, Wipe}
use Rattle.model.specs.declared.item.Item.{Item}
use Rattle.model.specs.declared.item.Item.TheVariants.{Change, Touch, BackTo, Last}
use Rattle.model.specs.Rows.{Rows, Schema}
use Rattle.model.specs.OverlapLemmas.{neither, neither_first, neither_second}
use Rattle.model.specs.TakenLemmas.{same_number}
use Rattle.world.specs.World.{World, starting}
use Rattle.world.specs.Steps.{Reaches}
use Rattle.world_parts.specs.ByTable.{names_table, rows_at, only_if, change_at, changes_at, IsIn}
use Rattle.world_parts.specs.ByTableLemmas.{get_rows_here, same_tables}
use Rattle.world_parts.specs.Parts.{work_if, wanted_if}
use Rattle.world_parts.specs.Marks.{Marked, is_marked, marks_with, latest, marked_at, under, told_of, items_at, survivors_if, HasPart}
use Rattle.world_parts.specs.MarkLemmas.{or_true}
use Rattle.world_parts.specs.Lines.{HasLine}
use Rattle.world_parts.specs.Reached.{PartReaches, IsReachedByParts, HasReachedPart}
use Rattle.world_parts.specs.ReachedLemmas.{reached_by_parts}

-- ---- rows and changes

pub rows_twice : (table : ℕ) (rows : Rows) → rows_at table (rows_at table rows) ≡ rows_at table rows
rows_twice table rows = same_tables table (rows_at table rows) rows (get_rows_here table rows)

-- one change of the table, or none
data AtMostOne (table : ℕ) : List change_type.Change → Type 0 where
  none_here : AtMostOne table []
  one_here : (c : change_type.Change) → IsIn table c → AtMostOne table (c ∷ [])

one_if : (table : ℕ) (c : change_type.Change) (b : Bool) → (b ≡ true → IsIn table c) → AtMostOne table (only_if b c)
one_if table c true is = one_here c (is refl)
one_if table c false is = none_here

truncated_itself : (table : ℕ) → IsIn table (Wipe (table ∷ []))
truncated_itself table = ap (λ b. only_if (b || false) (Wipe (table ∷ []))) (same_number table)

at_most_one : (table : ℕ) (c : change_type.Change) → AtMostOne table (change_at table c)
at_most_one table (Put at row) = one_if table (Put at row) (at == table) (ap (λ b. only_if b (Put at row)))
at_most_one table (Set at key patch) = one_if table (Set at key patch) (at == table) (ap (λ b. only_if b (Set at key patch)))
at_most_one table (Remove at key) = one_if table (Remove at key) (at == table) (ap (λ b. only_if b (Remove at key)))
at_most_one table (Wipe tables) = one_if table (Wipe (table ∷ [])) (names_table tables table) (λ named. truncated_itself table)

one_twice : (table : ℕ) (cut cs : List change_type.Change) → AtMostOne table cut → changes_at table cs ≡ cs
    → changes_at table (cut ++ cs) ≡ cut ++ cs
one_twice table _ cs none_here rest = rest
one_twice table _ cs (one_here c is) rest = ap (λ cut. cut ++ changes_at table cs) is ∙ ap (λ ds. c ∷ ds) rest

pub changes_twice : (table : ℕ) (cs : List change_type.Change) → changes_at table (changes_at table cs) ≡ changes_at table cs
changes_twice table [] = refl
changes_twice table (c ∷ cs) =
    one_twice table (change_at table c) (changes_at table cs) (at_most_one table c) (changes_twice table cs)

-- ---- marks

-- some of the marks, in their order
data ArePicked : List ℕ → List ℕ → Type 0 where
  picked_none : ArePicked [] []
  picked : (mark : ℕ) (some marks : List ℕ) → ArePicked some marks → ArePicked (mark ∷ some) (mark ∷ marks)
  passed_by : (mark : ℕ) (some marks : List ℕ) → ArePicked some marks → ArePicked some (mark ∷ marks)

-- each mark is of a subtransaction, and stands once
abbrev AreApart : ℕ → List ℕ → Type 0
AreApart top [] = ⊤
AreApart top (mark ∷ marks) = (((mark == top) || is_marked mark marks) ≡ false) × AreApart top marks

still_apart : (top : ℕ) (marks : List ℕ) (sub : ℕ) → AreApart top marks → AreApart top (marks_with top marks sub)
still_apart top marks sub apart = by ((sub == top) || is_marked sub marks) refl
  where
    by : (b : Bool) → ((sub == top) || is_marked sub marks) ≡ b → AreApart top (if b then marks else sub ∷ marks)
    by true has = apart
    by false new = (new, apart)

still_picked : (top : ℕ) (some marks : List ℕ) (sub : ℕ) → ArePicked some marks → ArePicked some (marks_with top marks sub)
still_picked top some marks sub are = by ((sub == top) || is_marked sub marks)
  where
    by : (b : Bool) → ArePicked some (if b then marks else sub ∷ marks)
    by true = are
    by false = passed_by sub some marks are

unmarked_too : (mark : ℕ) (some marks : List ℕ) → ArePicked some marks → is_marked mark marks ≡ false → is_marked mark some ≡ false
unmarked_too mark _ _ picked_none not = refl
unmarked_too mark _ _ (picked other some marks are) not =
    neither _ _ (neither_first _ _ not) (unmarked_too mark some marks are (neither_second _ _ not))
unmarked_too mark some _ (passed_by other _ marks are) not = unmarked_too mark some marks are (neither_second _ _ not)

-- the latest mark is among those that are picked, and the latest of them
abbrev HasLatest : ℕ → List ℕ → List ℕ → Type 0
HasLatest top some marks = ArePicked some marks × (latest top some ≡ latest top marks)

module _ (top mark : ℕ) (some marks : List ℕ) where
  has_latest : (b : Bool) → ((mark == top) || is_marked mark some) ≡ b
      → HasLatest top (if b then some else mark ∷ some) marks → HasLatest top (marks_with top some mark) marks
  has_latest true is has = rw is has
  has_latest false is has = rw is has

-- so it is once a change was told under the latest of all
latest_told : (top : ℕ) (some marks : List ℕ) → AreApart top marks → ArePicked some marks
    → HasLatest top (marks_with top some (latest top marks)) marks
latest_told top _ _ apart picked_none =
    has_latest top top [] [] true (ap (λ b. b || false) (same_number top)) (picked_none, refl)
latest_told top _ _ apart (picked mark some marks are) =
    has_latest top mark (mark ∷ some) (mark ∷ marks) true
    (or_true (mark == top) (is_marked mark (mark ∷ some)) (ap (λ b. b || is_marked mark some) (same_number mark)))
    (picked mark some marks are, refl)
latest_told top some _ apart (passed_by mark _ marks are) =
    has_latest top mark some (mark ∷ marks) false
    (neither _ _ (neither_first _ _ apart.0) (unmarked_too mark some marks are (neither_second _ _ apart.0)))
    (picked mark some marks are, refl)

-- ---- items that were told

module _ (table top : ℕ) (marks : List ℕ) (apart : AreApart top marks) (rest : List Marked)
    (rest_told : (some : List ℕ) → ArePicked some marks → marked_at table (under top some (map told_of rest)) ≡ rest)
    (some : List ℕ) (are : ArePicked some marks) where
  change_told : (cut : List change_type.Change) → AtMostOne table cut
      → marked_at table (under top some (map told_of (map (λ c. (latest top marks, c)) cut ++ rest)))
      ≡ map (λ c. (latest top marks, c)) cut ++ rest
  change_told _ none_here = rest_told some are
  change_told _ (one_here c is) =
      let has = latest_told top some marks apart are in
      let now : List ℕ = marks_with top some (latest top marks) in
      ap (λ cut. map (λ d. (latest top now, d)) cut ++ marked_at table (under top now (map told_of rest))) is
      ∙ ap (λ mark. (mark, c) ∷ marked_at table (under top now (map told_of rest))) has.1
      ∙ ap (λ ms. (latest top marks, c) ∷ ms) (rest_told now has.0)

told_twice : (table top : ℕ) (marks : List ℕ) (items : List Item) → AreApart top marks → (some : List ℕ) → ArePicked some marks
    → marked_at table (under top some (map told_of (marked_at table (under top marks items)))) ≡ marked_at table (under top marks items)
told_twice table top marks [] apart some are = refl
told_twice table top marks (Change sub c ∷ items) apart some are =
    change_told table top (marks_with top marks sub) (still_apart top marks sub apart)
    (marked_at table (under top (marks_with top marks sub) items))
    (told_twice table top (marks_with top marks sub) items (still_apart top marks sub apart))
    some (still_picked top some marks sub are) (change_at table c) (at_most_one table c)
told_twice table top marks (Touch sub ∷ items) apart some are =
    told_twice table top (marks_with top marks sub) items (still_apart top marks sub apart) some (still_picked top some marks sub are)
told_twice table top marks (BackTo sub ∷ items) apart some are = told_twice table top marks items apart some are
told_twice table top marks (Last ∷ items) apart some are = told_twice table top marks items apart some are

pub items_twice : (table top : ℕ) (items : List Item) → items_at table top (items_at table top items) ≡ items_at table top items
items_twice table top items = ap (map told_of) (told_twice table top [] items tt [] picked_none)

-- ---- parts

module _ (table : ℕ) (w part : World) where
  -- a part is its own
  pub own_part : HasPart table w part → HasPart table part part
  own_part has = (
    record {
      committed = has.0.committed ∙ sym (rows_twice table w.committed) ∙ ap (rows_at table) (sym has.0.committed);
      work = λ xid.
          has.0.work xid ∙ sym (changes_twice table (work_if xid (get w.opened xid))) ∙ ap (changes_at table) (sym (has.0.work xid));
      wanted = λ xid.
          has.0.wanted xid ∙ sym (changes_twice table (wanted_if (get w.opened xid))) ∙ ap (changes_at table) (sym (has.0.wanted xid));
    },
    λ xid. has.1 xid ∙ sym (items_twice table xid (survivors_if xid (get w.opened xid))) ∙ ap (items_at table xid) (sym (has.1 xid)),
  )

module _ (table : ℕ) (w part other : World) where
  pub part_of_part : HasPart table w part → HasPart table part other → HasPart table w other
  part_of_part has again = (
    record {
      committed = again.0.committed ∙ ap (rows_at table) has.0.committed ∙ rows_twice table w.committed;
      work = λ xid.
          again.0.work xid ∙ ap (changes_at table) (has.0.work xid) ∙ changes_twice table (work_if xid (get w.opened xid));
      wanted = λ xid.
          again.0.wanted xid ∙ ap (changes_at table) (has.0.wanted xid) ∙ changes_twice table (wanted_if (get w.opened xid));
    },
    λ xid. again.1 xid ∙ ap (items_at table xid) (has.1 xid) ∙ items_twice table xid (survivors_if xid (get w.opened xid)),
  )

  pub line_of_part : HasLine table w part → HasLine table part other → HasLine table w other
  line_of_part has again = record {
    start = again.start ∙ ap (rows_at table) has.start ∙ rows_twice table w.start;
    line = again.line ∙ has.line;
  }

-- ---- all calls

module _ (schema : Schema) (start : Rows) (w : World) where
  part_reached : (table : ℕ) (part : World) → HasPart table w part → HasLine table w part
      → Reaches schema (starting (rows_at table start)) part
      → (other : World) × HasPart table w other × HasLine table w other
      × PartReaches schema table (starting (rows_at table start)) other
  part_reached table part has line led =
      let found = (reached_by_parts schema (rows_at table start) part led).parts table in (
        found.0,
        part_of_part table w part found.0 has found.1,
        line_of_part table w part found.0 line found.2,
        subst (λ (rows : Rows). PartReaches schema table (starting rows) found.0) (rows_twice table start) found.3,
      )

  pub reached_of_each : ((table : ℕ) → HasReachedPart schema start w table) → IsReachedByParts schema start w
  reached_of_each each = record {
    parts = λ table. let h = each table in part_reached table h.0 h.1 h.2 h.3;
  }
