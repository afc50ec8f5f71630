-- What follows of savepoints that are cut by table.
--     works_told, no_work, work_of_marked      the part has the table's changes
--     cut_at, one_cut      a rollback drops of a table what is under the marks that it drops; one mark says so
--     told_with      one more change is told under the latest mark
--     back_here, back_nowhere      a rollback in the part, where a mark of it is dropped, and where none is
--     back_by_each, own_dropped      one to each mark that is dropped, in any order; the subtransaction's own is among them
--     nothing_told, cuts_nothing      where nothing was done in the table, nothing is told to it, and nothing dropped of it
use Rattle.std.specs.Prelude.{◌≡◌, ℕ, ◌==◌, Bool, true, false, cond, ◌||◌, not, List, [], ◌∷◌, ◌++◌, Option, Some, None, map, take_while, if◌then◌else◌, refl}
use Rattle.std.proofs.Common.{sym, ◌∙◌, ap, inl, inr, true≢false, append-nil, append_assoc}
use Rattle.std.proofs.lemmas.Bool.{cases_Bool}
use Rattle.std.proofs.lemmas.List.{map-append}
use Rattle.std.proofs.lemmas.List.Sums.{take_while-cons}
use Rattle.std.specs.List.{AllByRecursion, list_any}
use Rattle.std.specs.FinMap.{get}
use Rattle.model.specs.declared.change.Change as change_type
use Rattle.model.specs.declared.item.Item.{Item}
use Rattle.model.specs.declared.item.Item.TheVariants.{Change, Touch, BackTo, Last}
use Rattle.model.specs.Cut.{StartsAt}
use Rattle.model.specs.Survivors.{is_of, survivors, before_savepoint, changes_of}
use Rattle.model.specs.SurvivorLemmas.{cut_before, survivors_with}
use Rattle.model.specs.OverlapLemmas.{neither, neither_first, neither_second}
use Rattle.model.specs.TakenLemmas.{number_is, same_number}
use Rattle.world.specs.World.{Opened, World}
use Rattle.world_parts.specs.ByTable.{change_at, changes_at}
use Rattle.world_parts.specs.ByTableLemmas.{turned}
use Rattle.world_parts.specs.Marks.{is_marked, marks_with, marks_in, latest, Marked, under, marked_in, marked_at, told_of, items_at, is_kept, before_dropped, kept_by, IsFirstDropped, AreKept, AreDropped, CutsNothing, mark_for, survivors_if, AreMarked}
use Rattle.world_parts.specs.Parts.{work_if}

-- ---- the changes under marks are the changes

changes_told : (ms : List Marked) → changes_of (map told_of ms) ≡ map (λ (m : Marked). m.1) ms
changes_told [] = refl
changes_told (m ∷ ms) = ap (λ cs. m.1 ∷ cs) (changes_told ms)

changes_under : (top : ℕ) (marks : List ℕ) (items : List Item) → map (λ (m : Marked). m.1) (under top marks items) ≡ changes_of items
changes_under top marks [] = refl
changes_under top marks (Change sub c ∷ items) = ap (λ cs. c ∷ cs) (changes_under top (marks_with top marks sub) items)
changes_under top marks (Touch sub ∷ items) = changes_under top (marks_with top marks sub) items
changes_under top marks (BackTo sub ∷ items) = changes_under top marks items
changes_under top marks (Last ∷ items) = changes_under top marks items

unmarked : (mark : ℕ) (cs : List change_type.Change) → map (λ (m : Marked). m.1) (map (λ c. (mark, c)) cs) ≡ cs
unmarked mark [] = refl
unmarked mark (c ∷ cs) = ap (λ ds. c ∷ ds) (unmarked mark cs)

changes_marked : (table : ℕ) (ms : List Marked)
    → map (λ (m : Marked). m.1) (marked_at table ms) ≡ changes_at table (map (λ (m : Marked). m.1) ms)
changes_marked table [] = refl
changes_marked table (m ∷ ms) =
    map-append (λ (n : Marked). n.1) (marked_in table m) (marked_at table ms)
    ∙ ap (λ cs. cs ++ map (λ (n : Marked). n.1) (marked_at table ms)) (unmarked m.0 (change_at table m.1))
    ∙ ap (λ cs. change_at table m.1 ++ cs) (changes_marked table ms)

changes_at_told : (table top : ℕ) (items : List Item) → changes_of (items_at table top items) ≡ changes_at table (changes_of items)
changes_at_told table top items =
    changes_told (marked_at table (under top [] items)) ∙ changes_marked table (under top [] items)
    ∙ ap (changes_at table) (changes_under top [] items)

work_as : (xid : ℕ) (open_one : Option Opened) → work_if xid open_one ≡ changes_of (survivors_if xid open_one)
work_as xid None = refl
work_as xid (Some o) = refl

-- where these items were told, what was done of them is the table's
pub works_told : (table top : ℕ) (open_one : Option Opened) (items : List Item) → survivors_if top open_one ≡ items_at table top items
    → work_if top open_one ≡ changes_at table (changes_of items)
works_told table top open_one items told = work_as top open_one ∙ ap changes_of told ∙ changes_at_told table top items

pub no_work : (xid : ℕ) (open_one : Option Opened) → survivors_if xid open_one ≡ [] → work_if xid open_one ≡ []
no_work xid open_one nothing = work_as xid open_one ∙ ap changes_of nothing

-- the part has the table's changes
pub work_of_marked : (table : ℕ) (w part : World) → AreMarked table w part → (xid : ℕ)
    → work_if xid (get part.opened xid) ≡ changes_at table (work_if xid (get w.opened xid))
work_of_marked table w part are xid =
    works_told table xid (get part.opened xid) (survivors_if xid (get w.opened xid)) (are xid)
    ∙ ap (changes_at table) (sym (work_as xid (get w.opened xid)))

-- ---- one list after another

marks_both : (top : ℕ) (marks : List ℕ) (items more : List Item)
    → marks_in top marks (items ++ more) ≡ marks_in top (marks_in top marks items) more
marks_both top marks [] more = refl
marks_both top marks (Change sub c ∷ items) more = marks_both top (marks_with top marks sub) items more
marks_both top marks (Touch sub ∷ items) more = marks_both top (marks_with top marks sub) items more
marks_both top marks (BackTo sub ∷ items) more = marks_both top marks items more
marks_both top marks (Last ∷ items) more = marks_both top marks items more

under_both : (top : ℕ) (marks : List ℕ) (items more : List Item)
    → under top marks (items ++ more) ≡ under top marks items ++ under top (marks_in top marks items) more
under_both top marks [] more = refl
under_both top marks (Change sub c ∷ items) more =
    ap (λ ms. (latest top (marks_with top marks sub), c) ∷ ms) (under_both top (marks_with top marks sub) items more)
under_both top marks (Touch sub ∷ items) more = under_both top (marks_with top marks sub) items more
under_both top marks (BackTo sub ∷ items) more = under_both top marks items more
under_both top marks (Last ∷ items) more = under_both top marks items more

marked_both : (table : ℕ) (ms more : List Marked) → marked_at table (ms ++ more) ≡ marked_at table ms ++ marked_at table more
marked_both table [] more = refl
marked_both table (m ∷ ms) more =
    ap (λ ns. marked_in table m ++ ns) (marked_both table ms more)
    ∙ sym (append_assoc (marked_in table m) (marked_at table ms) (marked_at table more))

-- ---- the marks of what stands before a savepoint, and of what stands behind it

pub or_true : (a b : Bool) → b ≡ true → (a || b) ≡ true
or_true true b e = refl
or_true false b e = e

-- a mark stays, whatever item comes
stays_with : (top : ℕ) (marks : List ℕ) (sub mark : ℕ) (b : Bool) → is_marked mark marks ≡ true
    → is_marked mark (if b then marks else sub ∷ marks) ≡ true
stays_with top marks sub mark true e = e
stays_with top marks sub mark false e = or_true (mark == sub) (is_marked mark marks) e

stays_in : (top : ℕ) (marks : List ℕ) (items : List Item) (mark : ℕ) → is_marked mark marks ≡ true
    → is_marked mark (marks_in top marks items) ≡ true
stays_in top marks [] mark e = e
stays_in top marks (Change sub c ∷ items) mark e =
    stays_in top (marks_with top marks sub) items mark (stays_with top marks sub mark ((sub == top) || is_marked sub marks) e)
stays_in top marks (Touch sub ∷ items) mark e =
    stays_in top (marks_with top marks sub) items mark (stays_with top marks sub mark ((sub == top) || is_marked sub marks) e)
stays_in top marks (BackTo sub ∷ items) mark e = stays_in top marks items mark e
stays_in top marks (Last ∷ items) mark e = stays_in top marks items mark e

-- the latest mark is among those that are kept, where all are
latest_kept : (top : ℕ) (marks kept : List ℕ) → ((mark : ℕ) → is_marked mark marks ≡ true → is_marked mark kept ≡ true)
    → is_kept top kept (latest top marks) ≡ true
latest_kept top [] kept stay = ap (λ b. b || is_marked top kept) (same_number top)
latest_kept top (mark ∷ marks) kept stay =
    or_true (mark == top) (is_marked mark kept) (stay mark (ap (λ b. b || is_marked mark marks) (same_number mark)))

-- each change is under one of the marks that the items leave
abbrev AreUnder : (ℕ → Bool) → Bool → List Marked → Type 0
AreUnder test answer ms = AllByRecursion (λ (m : Marked). test m.0 ≡ answer) ms

first_under : (top : ℕ) (marks : List ℕ) (items : List Item)
    → AreUnder (is_kept top (marks_in top marks items)) true (under top marks items)
first_under top marks [] = tt
first_under top marks (Change sub c ∷ items) = (
  latest_kept top (marks_with top marks sub) (marks_in top (marks_with top marks sub) items) (stays_in top (marks_with top marks sub) items),
  first_under top (marks_with top marks sub) items,
)
first_under top marks (Touch sub ∷ items) = first_under top (marks_with top marks sub) items
first_under top marks (BackTo sub ∷ items) = first_under top marks items
first_under top marks (Last ∷ items) = first_under top marks items

in_rest : (sub : ℕ) (marks kept : List ℕ) → is_marked sub (marks ++ kept) ≡ false → is_marked sub kept ≡ false
in_rest sub [] kept e = e
in_rest sub (mark ∷ marks) kept e = in_rest sub marks kept (neither_second (sub == mark) (is_marked sub (marks ++ kept)) e)

-- the marks over the kept ones, of which the latest is not kept
record IsOver (top : ℕ) (kept marks : List ℕ) : Type 0 where
  first : ℕ
  more : List ℕ
  are : marks ≡ first ∷ more ++ kept
  dropped : is_kept top kept first ≡ false

still_over : (top : ℕ) (kept marks : List ℕ) (sub : ℕ) → IsOver top kept marks → IsOver top kept (marks_with top marks sub)
still_over top kept marks sub over = by_set ((sub == top) || is_marked sub marks) refl
  where
    by_set : (b : Bool) → ((sub == top) || is_marked sub marks) ≡ b → IsOver top kept (if b then marks else sub ∷ marks)
    by_set true e = over
    by_set false e = record {
      first = sub;
      more = over.first ∷ over.more;
      are = ap (λ ms. sub ∷ ms) over.are;
      dropped = neither (sub == top) (is_marked sub kept) (neither_first _ _ e)
          (in_rest sub (over.first ∷ over.more) kept (ap (is_marked sub) (sym over.are) ∙ neither_second _ _ e));
    }

latest_over : (top : ℕ) (kept marks : List ℕ) → IsOver top kept marks → is_kept top kept (latest top marks) ≡ false
latest_over top kept marks over = ap (λ ms. is_kept top kept (latest top ms)) over.are ∙ over.dropped

-- behind the savepoint each change is under a mark that is dropped
rest_under : (top : ℕ) (kept marks : List ℕ) (items : List Item) → IsOver top kept marks
    → AreUnder (is_kept top kept) false (under top marks items)
rest_under top kept marks [] over = tt
rest_under top kept marks (Change sub c ∷ items) over = (
  latest_over top kept (marks_with top marks sub) (still_over top kept marks sub over),
  rest_under top kept (marks_with top marks sub) items (still_over top kept marks sub over),
)
rest_under top kept marks (Touch sub ∷ items) over =
    rest_under top kept (marks_with top marks sub) items (still_over top kept marks sub over)
rest_under top kept marks (BackTo sub ∷ items) over = rest_under top kept marks items over
rest_under top kept marks (Last ∷ items) over = rest_under top kept marks items over

not_with : (top sub : ℕ) (marks : List ℕ) (named : ℕ) (b : Bool) → (named == sub) ≡ false → is_marked sub marks ≡ false
    → is_marked sub (if b then marks else named ∷ marks) ≡ false
not_with top sub marks named true apart none = none
not_with top sub marks named false apart none =
    neither (sub == named) (is_marked sub marks) (turned sub named ∙ apart) none

-- where no item names a subtransaction it has no mark
not_marked : (top sub : ℕ) (marks : List ℕ) (items : List Item) → list_any (is_of sub) items ≡ false → is_marked sub marks ≡ false
    → is_marked sub (marks_in top marks items) ≡ false
not_marked top sub marks [] unnamed none = none
not_marked top sub marks (Change named c ∷ items) unnamed none =
    not_marked top sub (marks_with top marks named) items (neither_second _ _ unnamed)
    (not_with top sub marks named ((named == top) || is_marked named marks) (neither_first _ _ unnamed) none)
not_marked top sub marks (Touch named ∷ items) unnamed none =
    not_marked top sub (marks_with top marks named) items (neither_second _ _ unnamed)
    (not_with top sub marks named ((named == top) || is_marked named marks) (neither_first _ _ unnamed) none)
not_marked top sub marks (BackTo named ∷ items) unnamed none = not_marked top sub marks items unnamed none
not_marked top sub marks (Last ∷ items) unnamed none = not_marked top sub marks items unnamed none

-- ---- a cut between

before_step : (top : ℕ) (kept : List ℕ) (m : Marked) (ms : List Marked) (b : Bool) → is_kept top kept m.0 ≡ b
    → before_dropped top kept (m ∷ ms) ≡ cond b (m ∷ before_dropped top kept ms) []
before_step top kept m ms b e =
    take_while-cons (λ (n : Marked). is_kept top kept n.0) m ms ∙ ap (λ x. cond x (m ∷ before_dropped top kept ms) []) e

-- where the first part is under marks that are kept, and the rest under dropped ones, the cut is between
cut_between : (top : ℕ) (kept : List ℕ) (ms more : List Marked) → AreUnder (is_kept top kept) true ms
    → AreUnder (is_kept top kept) false more → before_dropped top kept (ms ++ more) ≡ ms
cut_between top kept [] [] first rest = refl
cut_between top kept [] (m ∷ more) first rest = before_step top kept m more false rest.0
cut_between top kept (m ∷ ms) more first rest =
    before_step top kept m (ms ++ more) true first.0 ∙ ap (λ ns. m ∷ ns) (cut_between top kept ms more first.1 rest)

-- the same of one table
each_at : (test : ℕ → Bool) (answer : Bool) (mark : ℕ) (cs : List change_type.Change) → test mark ≡ answer
    → (ms : List Marked) → AreUnder test answer ms → AreUnder test answer (map (λ c. (mark, c)) cs ++ ms)
each_at test answer mark [] is ms all = all
each_at test answer mark (c ∷ cs) is ms all = (is, each_at test answer mark cs is ms all)

under_at : (table : ℕ) (test : ℕ → Bool) (answer : Bool) (ms : List Marked) → AreUnder test answer ms
    → AreUnder test answer (marked_at table ms)
under_at table test answer [] all = tt
under_at table test answer (m ∷ ms) all =
    each_at test answer m.0 (change_at table m.1) all.0 (marked_at table ms) (under_at table test answer ms all.1)

-- ---- a rollback, cut by table

-- with the item that names it the subtransaction's mark is over the kept ones
over_with : (top sub : ℕ) (kept : List ℕ) (named : ℕ) → (sub == top) ≡ false → is_marked sub kept ≡ false → (named == sub) ≡ true
    → IsOver top kept (marks_with top kept named)
over_with top sub kept named not_top none is =
    let same : named ≡ sub = number_is named sub is in
    record {
      first = sub;
      more = [];
      are = ap (marks_with top kept) same ∙ ap (λ b. if b then kept else sub ∷ kept) (neither (sub == top) (is_marked sub kept) not_top none);
      dropped = neither (sub == top) (is_marked sub kept) not_top none;
    }

behind : (top sub : ℕ) (kept : List ℕ) (items : List Item) → (sub == top) ≡ false → is_marked sub kept ≡ false → StartsAt sub items
    → AreUnder (is_kept top kept) false (under top kept items)
behind top sub kept [] not_top none starts = tt
behind top sub kept (Change named c ∷ items) not_top none starts =
    let over : IsOver top kept (marks_with top kept named) = over_with top sub kept named not_top none starts in
    (latest_over top kept (marks_with top kept named) over, rest_under top kept (marks_with top kept named) items over)
behind top sub kept (Touch named ∷ items) not_top none starts =
    rest_under top kept (marks_with top kept named) items (over_with top sub kept named not_top none starts)
behind top sub kept (BackTo named ∷ items) not_top none starts = absurd (true≢false (sym starts))
behind top sub kept (Last ∷ items) not_top none starts = absurd (true≢false (sym starts))

-- A rollback drops of a table just its changes from the first on that is under a mark which the rollback drops.
pub cut_at : (table top sub : ℕ) (items : List Item) → (sub == top) ≡ false
    → before_dropped top (kept_by top sub items) (marked_at table (under top [] items))
    ≡ marked_at table (under top [] (before_savepoint sub items))
cut_at table top sub items not_top =
    let cut = cut_before sub items in
    let kept : List ℕ = kept_by top sub items in
    let before : List Item = before_savepoint sub items in
    ap (λ is. before_dropped top kept (marked_at table (under top [] is))) cut.1.both
    ∙ ap (λ ms. before_dropped top kept (marked_at table ms)) (under_both top [] before cut.0)
    ∙ ap (before_dropped top kept) (marked_both table (under top [] before) (under top kept cut.0))
    ∙ cut_between top kept (marked_at table (under top [] before)) (marked_at table (under top kept cut.0))
    (under_at table (is_kept top kept) true (under top [] before) (first_under top [] before))
    (under_at table (is_kept top kept) false (under top kept cut.0)
    (behind top sub kept cut.0 not_top (not_marked top sub [] before cut.1.unnamed refl) cut.1.starts))

-- ---- in the part

before_mark : (mark : ℕ) (m : Marked) (ms : List Marked) (b : Bool) → (m.0 == mark) ≡ b
    → before_savepoint mark (map told_of (m ∷ ms)) ≡ cond (not b) (told_of m ∷ before_savepoint mark (map told_of ms)) []
before_mark mark m ms b e =
    take_while-cons (λ i. not (is_of mark i)) (told_of m) (map told_of ms)
    ∙ ap (λ x. cond (not x) (told_of m ∷ before_savepoint mark (map told_of ms)) []) e

-- a kept mark is another than one that is dropped
kept_differs : (top : ℕ) (kept : List ℕ) (mark other : ℕ) → is_kept top kept other ≡ true → is_kept top kept mark ≡ false
    → (other == mark) ≡ false
kept_differs top kept mark other is not_kept =
    elim (cases_Bool (other == mark)) [
      | inr differs ↦ differs
      | inl same ↦ absurd (true≢false (sym is ∙ ap (is_kept top kept) (number_is other mark same) ∙ not_kept))
    ]

dropped_mark : (top : ℕ) (kept : List ℕ) (mark : ℕ) (ms : List Marked) → IsFirstDropped top kept mark ms → is_kept top kept mark ≡ false
dropped_mark top kept mark [] first = absurd first
dropped_mark top kept mark (m ∷ ms) (inl here) = here.1
dropped_mark top kept mark (m ∷ ms) (inr later) = dropped_mark top kept mark ms later.1

-- a rollback to the first dropped mark is the cut by all of them
pub one_cut : (top : ℕ) (kept : List ℕ) (mark : ℕ) (ms : List Marked) → IsFirstDropped top kept mark ms
    → before_savepoint mark (map told_of ms) ≡ map told_of (before_dropped top kept ms)
one_cut top kept mark [] first = absurd first
one_cut top kept mark (m ∷ ms) (inl here) =
    before_mark mark m ms true (ap (λ n. n == mark) here.0 ∙ same_number mark)
    ∙ sym (ap (map told_of) (before_step top kept m ms false (ap (is_kept top kept) here.0 ∙ here.1)))
one_cut top kept mark (m ∷ ms) (inr later) =
    before_mark mark m ms false (kept_differs top kept mark m.0 later.0 (dropped_mark top kept mark ms later.1))
    ∙ ap (λ is. told_of m ∷ is) (one_cut top kept mark ms later.1)
    ∙ sym (ap (map told_of) (before_step top kept m ms true later.0))

-- where none is dropped all stay
pub none_cut : (top : ℕ) (kept : List ℕ) (ms : List Marked) → AreKept top kept ms → before_dropped top kept ms ≡ ms
none_cut top kept [] all = refl
none_cut top kept (m ∷ ms) all = before_step top kept m ms true all.0 ∙ ap (λ ns. m ∷ ns) (none_cut top kept ms all.1)

after_back : (top sub : ℕ) (items : List Item) → (sub == top) ≡ false
    → survivors top (items ++ BackTo sub ∷ []) ≡ before_savepoint sub (survivors top items)
after_back top sub items not_top =
    survivors_with top items (BackTo sub) ∙ ap (λ b. if b then survivors top items else before_savepoint sub (survivors top items)) not_top

module _ (table top sub : ℕ) (items mine : List Item) (not_top : (sub == top) ≡ false)
    (told : survivors top mine ≡ items_at table top (survivors top items)) where
  abbrev kept : List ℕ
  kept = kept_by top sub (survivors top items)

  abbrev theirs : List Marked
  theirs = marked_at table (under top [] (survivors top items))

  cut_told : items_at table top (survivors top (items ++ BackTo sub ∷ [])) ≡ map told_of (before_dropped top kept theirs)
  cut_told =
      ap (items_at table top) (after_back top sub items not_top)
      ∙ ap (map told_of) (sym (cut_at table top sub (survivors top items) not_top))

  -- a rollback in the part to the first mark that is dropped
  pub back_here : (mark : ℕ) → IsFirstDropped top kept mark theirs
      → survivors top (mine ++ BackTo mark ∷ []) ≡ items_at table top (survivors top (items ++ BackTo sub ∷ []))
  back_here mark first =
      after_back top mark mine (neither_first (mark == top) (is_marked mark kept) (dropped_mark top kept mark theirs first))
      ∙ ap (before_savepoint mark) told ∙ one_cut top kept mark theirs first ∙ sym cut_told

  -- none in a part that has no such mark
  pub back_nowhere : AreKept top kept theirs
      → survivors top mine ≡ items_at table top (survivors top (items ++ BackTo sub ∷ []))
  back_nowhere all = told ∙ ap (map told_of) (sym (none_cut top kept theirs all)) ∙ sym cut_told

-- ---- a rollback in the part, to each mark that is dropped

-- the changes before the first that is under this mark; before the first that is under one of these
abbrev before_one : ℕ → List Marked → List Marked
before_one mark ms = take_while (λ (m : Marked). not (m.0 == mark)) ms

abbrev before_any : List ℕ → List Marked → List Marked
before_any marks ms = take_while (λ (m : Marked). not (is_marked m.0 marks)) ms

one_step : (mark : ℕ) (m : Marked) (ms : List Marked) (b : Bool) → (m.0 == mark) ≡ b
    → before_one mark (m ∷ ms) ≡ cond (not b) (m ∷ before_one mark ms) []
one_step mark m ms b e =
    take_while-cons (λ (n : Marked). not (n.0 == mark)) m ms ∙ ap (λ x. cond (not x) (m ∷ before_one mark ms) []) e

any_step : (marks : List ℕ) (m : Marked) (ms : List Marked) (b : Bool) → is_marked m.0 marks ≡ b
    → before_any marks (m ∷ ms) ≡ cond (not b) (m ∷ before_any marks ms) []
any_step marks m ms b e =
    take_while-cons (λ (n : Marked). not (is_marked n.0 marks)) m ms ∙ ap (λ x. cond (not x) (m ∷ before_any marks ms) []) e

before_none : (ms : List Marked) → before_any [] ms ≡ ms
before_none [] = refl
before_none (m ∷ ms) = any_step [] m ms false refl ∙ ap (λ ns. m ∷ ns) (before_none ms)

-- a cut by one mark, and then by others, is one by all
cut_twice : (mark : ℕ) (marks : List ℕ) (ms : List Marked) → before_any marks (before_one mark ms) ≡ before_any (mark ∷ marks) ms
cut_twice mark marks [] = refl
cut_twice mark marks (m ∷ ms) =
    elim (cases_Bool (m.0 == mark)) [
      | inl here ↦
          ap (before_any marks) (one_step mark m ms true here)
          ∙ sym (any_step (mark ∷ marks) m ms true (ap (λ b. b || is_marked m.0 marks) here))
      | inr apart ↦
          ap (before_any marks) (one_step mark m ms false apart)
          ∙ any_step marks m (before_one mark ms) (is_marked m.0 marks) refl
          ∙ ap (λ ns. cond (not (is_marked m.0 marks)) (m ∷ ns) []) (cut_twice mark marks ms)
          ∙ sym (any_step (mark ∷ marks) m ms (is_marked m.0 marks) (ap (λ b. b || is_marked m.0 marks) apart))
    ]

-- a rollback to one mark
one_told : (mark : ℕ) (ms : List Marked) → before_savepoint mark (map told_of ms) ≡ map told_of (before_one mark ms)
one_told mark [] = refl
one_told mark (m ∷ ms) =
    elim (cases_Bool (m.0 == mark)) [
      | inl here ↦ before_mark mark m ms true here ∙ sym (ap (map told_of) (one_step mark m ms true here))
      | inr apart ↦
          before_mark mark m ms false apart ∙ ap (λ is. told_of m ∷ is) (one_told mark ms)
          ∙ sym (ap (map told_of) (one_step mark m ms false apart))
    ]

-- one to each of these
each_told : (top : ℕ) (marks : List ℕ) (mine : List Item) (ms : List Marked) → survivors top mine ≡ map told_of ms
    → ((mark : ℕ) → is_marked mark marks ≡ true → (mark == top) ≡ false)
    → survivors top (mine ++ map BackTo marks) ≡ map told_of (before_any marks ms)
each_told top [] mine ms told others =
    ap (survivors top) (append-nil mine) ∙ told ∙ ap (map told_of) (sym (before_none ms))
each_told top (mark ∷ marks) mine ms told others =
    let not_top : (mark == top) ≡ false = others mark (ap (λ b. b || is_marked mark marks) (same_number mark)) in
    let once : survivors top (mine ++ BackTo mark ∷ []) ≡ map told_of (before_one mark ms) =
    after_back top mark mine not_top ∙ ap (before_savepoint mark) told ∙ one_told mark ms in
    ap (survivors top) (sym (append_assoc mine (BackTo mark ∷ []) (map BackTo marks)))
    ∙ each_told top marks (mine ++ BackTo mark ∷ []) (before_one mark ms) once
    (λ other is. others other (or_true (other == mark) (is_marked other marks) is))
    ∙ ap (map told_of) (cut_twice mark marks ms)

-- a mark that stands is kept, or it is dropped
stands_or_top : (top : ℕ) (all kept : List ℕ) (mark : ℕ) → is_kept top all mark ≡ true → is_kept top kept mark ≡ false
    → is_marked mark all ≡ true
stands_or_top top all kept mark is dropped =
    sym (ap (λ b. b || is_marked mark all) (neither_first (mark == top) (is_marked mark kept) dropped)) ∙ is

-- where each change is under a mark that stands, a cut by the dropped ones is that of the rollback
same_cut : (top sub : ℕ) (items : List Item) (marks : List ℕ) → AreDropped top sub items marks → (ms : List Marked)
    → AreUnder (is_kept top (marks_in top [] items)) true ms → before_any marks ms ≡ before_dropped top (kept_by top sub items) ms
same_cut top sub items marks are [] stand = refl
same_cut top sub items marks are (m ∷ ms) stand =
    elim (cases_Bool (is_kept top (kept_by top sub items) m.0)) [
      | inl kept ↦
          any_step marks m ms false (not_dropped kept) ∙ ap (λ ns. m ∷ ns) (same_cut top sub items marks are ms stand.1)
          ∙ sym (before_step top (kept_by top sub items) m ms true kept)
      | inr dropped ↦
          any_step marks m ms true
          (are.all m.0 (stands_or_top top (marks_in top [] items) (kept_by top sub items) m.0 stand.0 dropped) dropped)
          ∙ sym (before_step top (kept_by top sub items) m ms false dropped)
    ]
  where
    not_dropped : is_kept top (kept_by top sub items) m.0 ≡ true → is_marked m.0 marks ≡ false
    not_dropped kept =
        elim (cases_Bool (is_marked m.0 marks)) [
          | inl is ↦ absurd (true≢false (sym kept ∙ are.alone m.0 is))
          | inr none ↦ none
        ]

module _ (table top sub : ℕ) (items mine : List Item) (not_top : (sub == top) ≡ false)
    (told : survivors top mine ≡ items_at table top (survivors top items)) where
  pub back_by_each : (marks : List ℕ) → AreDropped top sub (survivors top items) marks
      → survivors top (mine ++ map BackTo marks) ≡ items_at table top (survivors top (items ++ BackTo sub ∷ []))
  back_by_each marks are =
      let they : List Marked = marked_at table (under top [] (survivors top items)) in
      each_told top marks mine they told
      (λ mark is. neither_first (mark == top) (is_marked mark (kept_by top sub (survivors top items))) (are.alone mark is))
      ∙ ap (map told_of)
      (same_cut top sub (survivors top items) marks are they
      (under_at table (is_kept top (marks_in top [] (survivors top items))) true (under top [] (survivors top items))
      (first_under top [] (survivors top items))))
      ∙ sym (cut_told table top sub items mine not_top told)

-- its own mark is dropped
pub own_dropped : (top sub : ℕ) (items : List Item) → (sub == top) ≡ false → is_kept top (kept_by top sub items) sub ≡ false
own_dropped top sub items not_top =
    neither (sub == top) (is_marked sub (kept_by top sub items)) not_top
    (not_marked top sub [] (before_savepoint sub items) (cut_before sub items).1.unnamed refl)

-- ---- where nothing was done

nothing_marked : (ms : List Marked) → map (λ (m : Marked). m.1) ms ≡ [] → map told_of ms ≡ []
nothing_marked [] none = refl
nothing_marked (m ∷ ms) none = cc

pub nothing_told : (table top : ℕ) (items : List Item) → changes_at table (changes_of items) ≡ [] → items_at table top items ≡ []
nothing_told table top items none =
    nothing_marked (marked_at table (under top [] items))
    (changes_marked table (under top [] items) ∙ ap (changes_at table) (changes_under top [] items) ∙ none)

-- ---- one more item

module _ (table top sub : ℕ) (items mine : List Item) (told : survivors top mine ≡ items_at table top (survivors top items)) where
  marked_once : (c : change_type.Change)
      → items_at table top (survivors top (items ++ Change sub c ∷ []))
      ≡ items_at table top (survivors top items) ++ map told_of (marked_in table (mark_for top sub (survivors top items), c))
  marked_once c =
      ap (items_at table top) (survivors_with top items (Change sub c))
      ∙ ap (λ ms. map told_of (marked_at table ms)) (under_both top [] (survivors top items) (Change sub c ∷ []))
      ∙ ap (map told_of) (marked_both table (under top [] (survivors top items)) ((mark_for top sub (survivors top items), c) ∷ []))
      ∙ map-append told_of (marked_at table (under top [] (survivors top items))) (marked_in table (mark_for top sub (survivors top items), c) ++ [])
      ∙ ap (λ ms. items_at table top (survivors top items) ++ map told_of ms) (append-nil (marked_in table (mark_for top sub (survivors top items), c)))

  -- a change is told under the latest mark
  pub told_with : (c cut : change_type.Change) → change_at table c ≡ cut ∷ []
      → survivors top (mine ++ Change (mark_for top sub (survivors top items)) cut ∷ [])
      ≡ items_at table top (survivors top (items ++ Change sub c ∷ []))
  told_with c cut is =
      survivors_with top mine (Change (mark_for top sub (survivors top items)) cut)
      ∙ ap (λ more. more ++ Change (mark_for top sub (survivors top items)) cut ∷ []) told
      ∙ ap (λ cs. items_at table top (survivors top items) ++ map told_of (map (λ d. (mark_for top sub (survivors top items), d)) cs)) (sym is)
      ∙ sym (marked_once c)

  -- a change of other tables is not
  pub told_beside : (c : change_type.Change) → change_at table c ≡ []
      → survivors top mine ≡ items_at table top (survivors top (items ++ Change sub c ∷ []))
  told_beside c not =
      told ∙ sym (append-nil (items_at table top (survivors top items)))
      ∙ ap (λ cs. items_at table top (survivors top items) ++ map told_of (map (λ d. (mark_for top sub (survivors top items), d)) cs)) (sym not)
      ∙ sym (marked_once c)

  -- nor is an item that changes no row
  pub told_touch : survivors top mine ≡ items_at table top (survivors top (items ++ Touch sub ∷ []))
  told_touch =
      told ∙ ap (λ ms. map told_of (marked_at table ms))
      (sym (append-nil (under top [] (survivors top items))) ∙ sym (under_both top [] (survivors top items) (Touch sub ∷ [])))
      ∙ ap (items_at table top) (sym (survivors_with top items (Touch sub)))

kept_nothing : (top : ℕ) (kept : List ℕ) (ms : List Marked) → map told_of ms ≡ [] → AreKept top kept ms
kept_nothing top kept [] none = tt
kept_nothing top kept (m ∷ ms) none = absurd (none_here none)
  where
    none_here : map told_of (m ∷ ms) ≡ [] → ⊥
    none_here e = cc

pub cuts_nothing : (table top sub : ℕ) (items : List Item) → changes_at table (changes_of items) ≡ [] → CutsNothing table top sub items
cuts_nothing table top sub items none =
    elim (cases_Bool (sub == top)) [
      | inl is_top ↦ inl is_top
      | inr not_top ↦ inr (not_top, kept_nothing top (kept_by top sub items) (marked_at table (under top [] items)) (nothing_told table top items none))
    ]
