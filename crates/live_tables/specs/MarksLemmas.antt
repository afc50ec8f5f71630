-- What the marks of savepoints tell of the cells held there.
--     unmarked_whole      the items before the savepoint of a subtransaction that has none are all
--     marks_fresh, marks_same, marks_more, marks_cut, marks_past      as items come and go, and others commit
use Rattle.std.proofs.Common.{◌≡◌, ◌≢◌, ℕ, ◌≤◌, ◌==◌, ◌⊎◌, false, List, [], ◌∷◌, ◌++◌, length, take, Some, refl, sym, ap, subst, ◌∙◌, arith, inl, inr, is_some}
use Rattle.std.specs.Prelude.{if◌then◌else◌}
use Rattle.std.proofs.lemmas.Bool.{cases_eq, eq-eqb, ne_eqb}
use Rattle.std.proofs.lemmas.List.{length-take-le}
use Rattle.model.specs.declared.change.Change as change_type
use Rattle.model.specs.declared.cell.Cell.{Cell}
use Rattle.model.specs.declared.item.Item.{Item}
use Rattle.model.specs.Rows.{Rows, Schema, IsValid}
use Rattle.model.specs.Effect.{serial}
use Rattle.model.specs.Footprint.{held_cells, shares_cell}
use Rattle.model.specs.Survivors.{is_of, before_savepoint, changes_of}
use Rattle.model.specs.SurvivorLemmas.{changes_of_both, cut_before}
use Rattle.model.specs.SerialLemmas.{held_append, held_past}
use Rattle.model.specs.OverlapLemmas.{neither_first, shares_append}
use Rattle.savepoint.specs.declared.mark.Mark.{Mark}
use Rattle.savepoint.specs.Savepoints.{mark_at, with_mark, before_mark}
use Rattle.savepoint.specs.Record.{Record, with_mark_unless_top, AllAreNamed}
use Rattle.savepoint.proofs.Cutting.{none_from, before_mark-noted_same, before_mark-noted_marked}
use Rattle.savepoint.proofs.Indexed.{take-take}
use Rattle.savepoint.proofs.Marked.{marked_before, noted_or_old, before-last, before-behind, before_before, marked-marks_of}
use Rattle.live_tables.specs.KeptRecords.{HasLogs}
use Rattle.live_tables.specs.Held.{HasSameCells, HasHeldMarks}

-- a subtransaction that has no savepoint is named by no item
pub unmarked_whole : (schema : Schema) (committed : Rows) (xid : ℕ) (r : Record) → HasLogs schema committed xid r → (sub : ℕ) → sub ≢ xid
    → is_some (mark_at sub r.marks) ≡ false → before_savepoint sub r.survivors ≡ r.survivors
unmarked_whole schema committed xid r logs sub below none =
    logs.marked.unmarked sub below
    (none_from (mark_at sub logs.points) (sym (marked-marks_of sub logs.points) ∙ ap (λ (ms : List (ℕ × Mark)). is_some (mark_at sub ms)) (sym logs.marks) ∙ none))

no_mark : (sub : ℕ) (m : Mark) → ¬ (mark_at sub [] ≡ Some m)
no_mark sub m at = cc

pub marks_fresh : (schema : Schema) (committed : Rows) (r : Record) → r.marks ≡ [] → (cells : List Cell) → HasHeldMarks schema committed r cells
marks_fresh schema committed r none cells = record {
  within = λ sub m at. absurd (no_mark sub m (ap (mark_at sub) (sym none) ∙ at));
  before = λ sub m at. absurd (no_mark sub m (ap (mark_at sub) (sym none) ∙ at));
  rising = λ sub other p q at there. absurd (no_mark sub p (ap (mark_at sub) (sym none) ∙ at));
}

-- the same marks over the same items
pub marks_same : (schema : Schema) (committed : Rows) (r s : Record) (cells : List Cell) → s.survivors ≡ r.survivors → s.marks ≡ r.marks
    → HasHeldMarks schema committed r cells → HasHeldMarks schema committed s cells
marks_same schema committed r s cells items marks had = record {
  within = λ sub m at. had.within sub m (ap (mark_at sub) (sym marks) ∙ at);
  before = λ sub m at.
      subst (λ (js : List Item). HasSameCells (take m.held cells) (held_cells schema committed (changes_of (before_savepoint sub js)))) (sym items)
      (had.before sub m (ap (mark_at sub) (sym marks) ∙ at));
  rising = λ sub other p q at there.
      let were = had.rising sub other p q (ap (mark_at sub) (sym marks) ∙ at) (ap (λ (ms : List (ℕ × Mark)). mark_at other (before_mark sub ms)) (sym marks) ∙ there) in
      (were.0, ap (λ (js : List Item). before_savepoint other (before_savepoint sub js)) items ∙ were.1 ∙ ap (before_savepoint other) (sym items));
}

-- ---- one more item, and cells behind those that were held

module _ (schema : Schema) (committed : Rows) (xid : ℕ) (r s : Record) (cells more : List Cell) (had : HasHeldMarks schema committed r cells)
    (its : HasSameCells cells (held_cells schema committed (changes_of r.survivors))) (sub : ℕ) (item : Item)
    (names : (other : ℕ) → is_of other item ≡ (sub == other)) (named : AllAreNamed r) (items : s.survivors ≡ r.survivors ++ item ∷ [])
    (front : take (length cells) more ≡ cells) (longer : length cells ≤ length more) where
  -- a savepoint that was there
  old_items : (other : ℕ) (m : Mark) → mark_at other r.marks ≡ Some m → before_savepoint other (r.survivors ++ item ∷ []) ≡ before_savepoint other r.survivors
  old_items other m at = before-behind other r.survivors (item ∷ []) (named other (ap is_some at))

  old_cells : (m : Mark) → m.held ≤ length cells → take m.held more ≡ take m.held cells
  old_cells m below = sym (take-take m.held (length cells) more below) ∙ ap (take m.held) front

  old_before : (other : ℕ) (m : Mark) → mark_at other r.marks ≡ Some m
      → HasSameCells (take m.held more) (held_cells schema committed (changes_of (before_savepoint other (r.survivors ++ item ∷ []))))
  old_before other m at =
      subst (λ (js : List Item). HasSameCells (take m.held more) (held_cells schema committed (changes_of js))) (sym (old_items other m at))
      (subst (λ (cs : List Cell). HasSameCells cs (held_cells schema committed (changes_of (before_savepoint other r.survivors)))) (sym (old_cells m (had.within other m at))) (had.before other m at))

  old_rising : (one other : ℕ) (p q : Mark) → mark_at one r.marks ≡ Some p → mark_at other (before_mark one r.marks) ≡ Some q
      → (q.held ≤ p.held) × (before_savepoint other (before_savepoint one (r.survivors ++ item ∷ [])) ≡ before_savepoint other (r.survivors ++ item ∷ []))
  old_rising one other p q at there =
      let were = had.rising one other p q at there in
      (were.0, ap (before_savepoint other) (old_items one p at) ∙ were.1 ∙ sym (old_items other q (marked_before one other r.marks q there)))

  -- of the top transaction, which sets no savepoint
  marks_more_top : s.marks ≡ r.marks → HasHeldMarks schema committed s more
  marks_more_top marks = record {
    within = λ other m at. let below = had.within other m (ap (mark_at other) (sym marks) ∙ at) in omega arith;
    before = λ other m at.
        subst (λ (js : List Item). HasSameCells (take m.held more) (held_cells schema committed (changes_of (before_savepoint other js)))) (sym items)
        (old_before other m (ap (mark_at other) (sym marks) ∙ at));
    rising = λ one other p q at there.
        subst (λ (js : List Item). (q.held ≤ p.held) × (before_savepoint other (before_savepoint one js) ≡ before_savepoint other js)) (sym items)
        (old_rising one other p q (ap (mark_at one) (sym marks) ∙ at) (ap (λ (ms : List (ℕ × Mark)). mark_at other (before_mark one ms)) (sym marks) ∙ there));
  }

  module _ (mark : Mark) (held : mark.held ≡ length cells) (whole : is_some (mark_at sub r.marks) ≡ false → before_savepoint sub r.survivors ≡ r.survivors)
      (marks : s.marks ≡ with_mark sub mark r.marks) where
    abbrev IsNew : ℕ → Mark → Type 0
    IsNew other m = (sub ≡ other) × (is_some (mark_at sub r.marks) ≡ false) × (mark ≡ m)

    found : (other : ℕ) (m : Mark) → mark_at other s.marks ≡ Some m → IsNew other m ⊎ (mark_at other r.marks ≡ Some m)
    found other m at = noted_or_old sub other mark m r.marks (ap (mark_at other) (sym marks) ∙ at)

    new_items : is_some (mark_at sub r.marks) ≡ false → before_savepoint sub (r.survivors ++ item ∷ []) ≡ r.survivors
    new_items none = before-last sub r.survivors item (names sub ∙ eq-eqb sub sub refl) ∙ whole none

    new_before : (other : ℕ) (m : Mark) → IsNew other m
        → HasSameCells (take m.held more) (held_cells schema committed (changes_of (before_savepoint other (r.survivors ++ item ∷ []))))
    new_before other m new =
        subst (λ (n : ℕ). HasSameCells (take m.held more) (held_cells schema committed (changes_of (before_savepoint n (r.survivors ++ item ∷ []))))) new.0
        (subst (λ (k : Mark). HasSameCells (take k.held more) (held_cells schema committed (changes_of (before_savepoint sub (r.survivors ++ item ∷ []))))) new.2
        (subst (λ (js : List Item). HasSameCells (take mark.held more) (held_cells schema committed (changes_of js))) (sym (new_items new.1))
        (subst (λ (cs : List Cell). HasSameCells cs (held_cells schema committed (changes_of r.survivors))) (sym (ap (λ (n : ℕ). take n more) held ∙ front)) its)))

    new_rising : (one other : ℕ) (p q : Mark) → IsNew one p → mark_at other (before_mark one s.marks) ≡ Some q
        → (q.held ≤ p.held) × (before_savepoint other (before_savepoint one (r.survivors ++ item ∷ [])) ≡ before_savepoint other (r.survivors ++ item ∷ []))
    new_rising one other p q new there =
        let behind : before_mark one s.marks ≡ r.marks =
        ap (λ (n : ℕ). before_mark n s.marks) (sym new.0) ∙ ap (before_mark sub) marks ∙ before_mark-noted_same sub mark r.marks new.1 in
        let was : mark_at other r.marks ≡ Some q = ap (mark_at other) (sym behind) ∙ there in
        let below = had.within other q was in
        let top : p.held ≡ length cells = ap (λ (k : Mark). k.held) (sym new.2) ∙ held in (
          subst (λ (n : ℕ). q.held ≤ n) (sym top) below,
          ap (λ (n : ℕ). before_savepoint other (before_savepoint n (r.survivors ++ item ∷ []))) (sym new.0)
              ∙ ap (before_savepoint other) (new_items new.1) ∙ sym (old_items other q was),
        )

    -- of a subtransaction, which sets one here if it has none
    marks_more_sub : HasHeldMarks schema committed s more
    marks_more_sub = record {
      within = λ other m at.
          elim (found other m at) [
            | inl new ↦ let top : m.held ≡ length cells = ap (λ (k : Mark). k.held) (sym new.2) ∙ held in subst (λ (n : ℕ). n ≤ length more) (sym top) longer
            | inr was ↦ let below = had.within other m was in omega arith
          ];
      before = λ other m at.
          subst (λ (js : List Item). HasSameCells (take m.held more) (held_cells schema committed (changes_of (before_savepoint other js)))) (sym items)
          (elim (found other m at) [
            | inl new ↦ new_before other m new
            | inr was ↦ old_before other m was
          ]);
      rising = λ one other p q at there.
          subst (λ (js : List Item). (q.held ≤ p.held) × (before_savepoint other (before_savepoint one js) ≡ before_savepoint other js)) (sym items)
          (elim (found one p at) [
            | inl new ↦ new_rising one other p q new there
            | inr was ↦
                old_rising one other p q was
                (ap (mark_at other) (sym (ap (before_mark one) marks ∙ before_mark-noted_marked one sub mark r.marks (ap is_some was))) ∙ there)
          ]);
    }

  -- whichever it is
  pub marks_more : (mark : Mark) → mark.held ≡ length cells → (sub ≢ xid → is_some (mark_at sub r.marks) ≡ false → before_savepoint sub r.survivors ≡ r.survivors)
      → s.marks ≡ with_mark_unless_top xid sub mark r.marks → HasHeldMarks schema committed s more
  marks_more mark held whole marks =
      elim (cases_eq sub xid) [
        | inl same ↦ marks_more_top (marks ∙ ap (λ b. if b then r.marks else with_mark sub mark r.marks) (eq-eqb sub xid same))
        | inr below ↦ marks_more_sub mark held (whole below) (marks ∙ ap (λ b. if b then r.marks else with_mark sub mark r.marks) (ne_eqb sub xid below))
      ]

-- ---- a rollback

-- to a savepoint: the cells held there are left
pub marks_cut : (schema : Schema) (committed : Rows) (r s : Record) (cells : List Cell) → HasHeldMarks schema committed r cells → (sub : ℕ) (m : Mark)
    → mark_at sub r.marks ≡ Some m → s.survivors ≡ before_savepoint sub r.survivors → s.marks ≡ before_mark sub r.marks
    → HasHeldMarks schema committed s (take m.held cells)
marks_cut schema committed r s cells had sub m at items marks = record {
  within = λ other q there.
      let below = had.rising sub other m q at (here other q there) in
      let long = length-take-le m.held cells (had.within sub m at) in
      subst (λ (n : ℕ). q.held ≤ n) (sym long) below.0;
  before = λ other q there.
      let below = had.rising sub other m q at (here other q there) in
      subst (λ (js : List Item). HasSameCells (take q.held (take m.held cells)) (held_cells schema committed (changes_of (before_savepoint other js)))) (sym items)
      (subst (λ (js : List Item). HasSameCells (take q.held (take m.held cells)) (held_cells schema committed (changes_of js))) (sym below.1)
      (subst (λ (cs : List Cell). HasSameCells cs (held_cells schema committed (changes_of (before_savepoint other r.survivors)))) (sym (take-take q.held m.held cells below.0))
      (had.before other q (marked_before sub other r.marks q (here other q there)))));
  rising = λ one other p q first then_there.
      let was = here one p first in
      let behind : mark_at other (before_mark one (before_mark sub r.marks)) ≡ Some q = ap (λ (ms : List (ℕ × Mark)). mark_at other (before_mark one ms)) (sym marks) ∙ then_there in
      let old : mark_at other (before_mark one r.marks) ≡ Some q = ap (mark_at other) (sym (before_before sub one r.marks p was)) ∙ behind in
      let were = had.rising one other p q (marked_before sub one r.marks p was) old in (
        were.0,
        ap (λ (js : List Item). before_savepoint other (before_savepoint one js)) items
            ∙ ap (before_savepoint other) (had.rising sub one m p at was).1 ∙ were.1
            ∙ sym (had.rising sub other m q at (marked_before one other (before_mark sub r.marks) q behind)).1
            ∙ ap (before_savepoint other) (sym items),
      );
}
  where
    here : (other : ℕ) (q : Mark) → mark_at other s.marks ≡ Some q → mark_at other (before_mark sub r.marks) ≡ Some q
    here other q there = ap (mark_at other) (sym marks) ∙ there

-- ---- others commit

pub marks_past : (schema : Schema) (rows : Rows) → IsValid schema rows → (r : Record) (cells : List Cell) (others : List change_type.Change)
    → shares_cell (held_cells schema rows (changes_of r.survivors)) (held_cells schema rows others) ≡ false → HasHeldMarks schema rows r cells
    → HasHeldMarks schema (serial schema rows others) r cells
marks_past schema rows valid r cells others apart had = record {
  within = had.within;
  before = λ sub m at.
      subst (HasSameCells (take m.held cells)) (held_past schema rows valid (changes_of (before_savepoint sub r.survivors)) others (apart_before sub)) (had.before sub m at);
  rising = had.rising;
}
  where
    apart_before : (sub : ℕ) → shares_cell (held_cells schema rows (changes_of (before_savepoint sub r.survivors))) (held_cells schema rows others) ≡ false
    apart_before sub =
        let cut = cut_before sub r.survivors in
        let first = changes_of (before_savepoint sub r.survivors) in
        let rest = changes_of cut.0 in
        neither_first _ _
        (sym (shares_append (held_cells schema rows first) (held_cells schema (serial schema rows first) rest) (held_cells schema rows others))
        ∙ ap (λ cells. shares_cell cells (held_cells schema rows others))
        (sym (held_append schema rows first rest) ∙ ap (held_cells schema rows) (sym (ap changes_of cut.1.both ∙ changes_of_both (before_savepoint sub r.survivors) cut.0)))
        ∙ apart)
