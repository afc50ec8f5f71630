-- The savepoints of a record, as items come and go.
use Rattle.std.proofs.Common.{◌≡◌, ◌≢◌, ℕ, zero, suc, ◌≤◌, ◌==◌, ◌⊎◌, true, false, not, List, [], ◌∷◌, ◌++◌, length, take, drop, Option, Some, None, refl, sym, ap, subst, ◌∙◌, arith, inl, inr, ⊎_elim, is_some}
use Rattle.std.specs.Prelude.{IsSome, IsTrue, if◌then◌else◌, Result, Ok, Err, OnOk, OnErr}
use Rattle.model.specs.declared.memory.OutOfMemory.{OutOfMemory}
use Rattle.std.specs.List.{list_any}
use Rattle.std.specs.Option.{option_map}
use Rattle.std.proofs.lemmas.Bool.{cases_Bool, cases_eq, eq-eqb, eqb-true, ne_eqb}
use Rattle.std.proofs.lemmas.List.{length-append, length-take-le, take-append-le}
use Rattle.std.proofs.lemmas.List.Sums.{take_while-cons}
use Rattle.std.proofs.lemmas.Grind.{common_steps}
use Rattle.std.proofs.Math.Seq.{take-length}
use Rattle.change.specs.declared.inverse.Inverse.{Inverse}
use Rattle.model.specs.declared.item.Item.{Item}
use Rattle.model.specs.declared.item.Item.TheVariants.{Change, Touch, BackTo, Last}
use Rattle.savepoint.specs.declared.mark.Mark.{Mark}
use Rattle.savepoint.specs.declared.record.CutPoint.{CutPoint}
use Rattle.model.specs.Survivors.{is_of, before_savepoint, after_item}
use Rattle.savepoint.specs.Savepoints.{mark_at, before_mark, with_mark}
use Rattle.savepoint.specs.declared.record.TxRecord.TheInside.{Inside}
use Rattle.savepoint.specs.Record.{Record, with_mark_unless_top, HasMark, OthersAreNamed, AllAreNamed, after_mark, up_to_mark, inverses_since, inverses_before}
use Rattle.savepoint.specs.RecordInside.{IsMarked, marks_of, record_in}
use Rattle.savepoint.proofs.Cutting.{none_from, before_mark-named, before_mark-other, mark_at-noted_same, mark_at-noted_marked, before_mark-noted_same, before_mark-noted_marked, before_mark-unmarked, unmarked_noted_other}
use Rattle.savepoint.proofs.Indexed.{take-take}

-- ---- the marks before one

mark_at-named : {M : Type 0} (sub : ℕ) (m : ℕ × M) (marks : List (ℕ × M)) → (m.0 == sub) ≡ true → mark_at sub (m ∷ marks) ≡ Some m.1
mark_at-named sub m marks e = rw e

mark_at-other : {M : Type 0} (sub : ℕ) (m : ℕ × M) (marks : List (ℕ × M)) → (m.0 == sub) ≡ false → mark_at sub (m ∷ marks) ≡ mark_at sub marks
mark_at-other sub m marks e = rw e

-- what a mark before it is, it is among all
pub marked_before : {M : Type 0} (sub other : ℕ) (marks : List (ℕ × M)) (q : M) → mark_at other (before_mark sub marks) ≡ Some q → mark_at other marks ≡ Some q
marked_before sub other [] q e = absurd cc
marked_before {M} sub other (m ∷ marks) q e =
    ⊎_elim
    (λ named. absurd (let none : mark_at {M = M} other [] ≡ Some q = ap (mark_at other) (sym (before_mark-named sub m marks named)) ∙ e in cc))
    (λ past.
    let later = ap (mark_at other) (sym (before_mark-other sub m marks past)) ∙ e in
    ⊎_elim
    (λ here. mark_at-named other m marks here ∙ sym (mark_at-named other m (before_mark sub marks) here) ∙ later)
    (λ away. mark_at-other other m marks away ∙ marked_before sub other marks q (sym (mark_at-other other m (before_mark sub marks) away) ∙ later))
    (cases_Bool (m.0 == other)))
    (cases_Bool (m.0 == sub))

-- and those before it are the same
pub before_before : {M : Type 0} (sub other : ℕ) (marks : List (ℕ × M)) (q : M) → mark_at other (before_mark sub marks) ≡ Some q → before_mark other (before_mark sub marks) ≡ before_mark other marks
before_before sub other [] q e = refl
before_before {M} sub other (m ∷ marks) q e =
    ⊎_elim
    (λ named. absurd (let none : mark_at {M = M} other [] ≡ Some q = ap (mark_at other) (sym (before_mark-named sub m marks named)) ∙ e in cc))
    (λ past.
    let later = ap (mark_at other) (sym (before_mark-other sub m marks past)) ∙ e in
    ap (before_mark other) (before_mark-other sub m marks past) ∙
    ⊎_elim
    (λ here. before_mark-named other m (before_mark sub marks) here ∙ sym (before_mark-named other m marks here))
    (λ away.
    before_mark-other other m (before_mark sub marks) away
    ∙ ap (λ (ms : List (ℕ × M)). m ∷ ms) (before_before sub other marks q (sym (mark_at-other other m (before_mark sub marks) away) ∙ later))
    ∙ sym (before_mark-other other m marks away))
    (cases_Bool (m.0 == other)))
    (cases_Bool (m.0 == sub))

-- a mark that isn't before another is the same, or stands behind it
pub one_or_behind : {M : Type 0} (sub other : ℕ) (marks : List (ℕ × M)) (p q : M) → mark_at sub marks ≡ Some p → mark_at other marks ≡ Some q → mark_at other (before_mark sub marks) ≡ None
    → (sub ≡ other) ⊎ (mark_at sub (before_mark other marks) ≡ Some p)
one_or_behind sub other [] p q e f none = absurd cc
one_or_behind {M} sub other (m ∷ marks) p q e f none =
    ⊎_elim
    (λ named. ⊎_elim
    (λ here. inl (sym (eqb-true m.0 sub named) ∙ eqb-true m.0 other here))
    (λ away. inr (ap (mark_at sub) (before_mark-other other m marks away) ∙ mark_at-named sub m (before_mark other marks) named ∙ sym (mark_at-named sub m marks named) ∙ e))
    (cases_Bool (m.0 == other)))
    (λ past.
    let later = ap (mark_at other) (sym (before_mark-other sub m marks past)) ∙ none in
    ⊎_elim
    (λ here. absurd (let some = sym (mark_at-named other m (before_mark sub marks) here) ∙ later in cc))
    (λ away.
    ⊎_elim
    (λ same. inl same)
    (λ behind. inr (ap (mark_at sub) (before_mark-other other m marks away) ∙ mark_at-other sub m (before_mark other marks) past ∙ behind))
    (one_or_behind sub other marks p q (sym (mark_at-other sub m marks past) ∙ e) (sym (mark_at-other other m marks away) ∙ f) (sym (mark_at-other other m (before_mark sub marks) away) ∙ later)))
    (cases_Bool (m.0 == other)))
    (cases_Bool (m.0 == sub))

-- ---- the items before one

before-named : (sub : ℕ) (i : Item) (items : List Item) → is_of sub i ≡ true → before_savepoint sub (i ∷ items) ≡ []
before-named sub i items e = take_while-cons (λ (j : Item). not (is_of sub j)) i items ∙ rw e

before-other : (sub : ℕ) (i : Item) (items : List Item) → is_of sub i ≡ false → before_savepoint sub (i ∷ items) ≡ i ∷ before_savepoint sub items
before-other sub i items e = take_while-cons (λ (j : Item). not (is_of sub j)) i items ∙ rw e

pub before-take : (sub n : ℕ) (items : List Item) → before_savepoint sub (take n items) ≡ take n (before_savepoint sub items)
before-take sub zero items = grind (arith, common_steps)
before-take sub (suc n) [] = refl
before-take sub (suc n) (i ∷ items) =
    ⊎_elim
    (λ named. before-named sub i (take n items) named ∙ sym (ap (take (suc n)) (before-named sub i items named)))
    (λ other. before-other sub i (take n items) other ∙ ap (λ is. i ∷ is) (before-take sub n items) ∙ sym (ap (take (suc n)) (before-other sub i items other)))
    (cases_Bool (is_of sub i))

same_rest : (i : Item) (is js : List Item) → i ∷ is ≡ i ∷ js → is ≡ js
same_rest i is js e = cc

-- one more of another
before-more : (sub : ℕ) (items : List Item) (y : Item) → is_of sub y ≡ false → before_savepoint sub items ≡ items → before_savepoint sub (items ++ y ∷ []) ≡ items ++ y ∷ []
before-more sub [] y other all = before-other sub y [] other
before-more sub (i ∷ items) y other all =
    ⊎_elim
    (λ named. absurd (let none = sym (before-named sub i items named) ∙ all in cc))
    (λ past.
    let rest = same_rest i (before_savepoint sub items) items (sym (before-other sub i items past) ∙ all) in
    before-other sub i (items ++ y ∷ []) past ∙ ap (λ is. i ∷ is) (before-more sub items y other rest))
    (cases_Bool (is_of sub i))

-- one more of the same
pub before-last : (sub : ℕ) (items : List Item) (y : Item) → is_of sub y ≡ true → before_savepoint sub (items ++ y ∷ []) ≡ before_savepoint sub items
before-last sub [] y here = before-named sub y [] here
before-last sub (i ∷ items) y here =
    ⊎_elim
    (λ named. before-named sub i (items ++ y ∷ []) named ∙ sym (before-named sub i items named))
    (λ past. before-other sub i (items ++ y ∷ []) past ∙ ap (λ is. i ∷ is) (before-last sub items y here) ∙ sym (before-other sub i items past))
    (cases_Bool (is_of sub i))

-- more behind one of it
pub before-behind : (sub : ℕ) (items more : List Item) → list_any (is_of sub) items ≡ true → before_savepoint sub (items ++ more) ≡ before_savepoint sub items
before-behind sub [] more any = absurd cc
before-behind sub (i ∷ items) more any =
    ⊎_elim
    (λ named. before-named sub i (items ++ more) named ∙ sym (before-named sub i items named))
    (λ past.
    before-other sub i (items ++ more) past ∙ ap (λ is. i ∷ is) (before-behind sub items more (rw past at any)) ∙ sym (before-other sub i items past))
    (cases_Bool (is_of sub i))

take-shorter : {A : Type 0} (m n : ℕ) (xs : List A) → n ≤ m → take m (take n xs) ≡ take n xs
take-shorter m zero xs le = grind (arith, common_steps)
take-shorter zero (suc n) xs le = absurd (omega arith)
take-shorter (suc m) (suc n) [] le = refl
take-shorter (suc m) (suc n) (x ∷ xs) le = ap (λ ys. x ∷ ys) (take-shorter m n xs (omega arith))

-- an item names one subtransaction
names_one : (sub other : ℕ) (i : Item) → is_of sub i ≡ true → is_of other i ≡ true → sub ≡ other
names_one sub other (Change named c) e f = sym (eqb-true named sub e) ∙ eqb-true named other f
names_one sub other (Touch named) e f = sym (eqb-true named sub e) ∙ eqb-true named other f
names_one sub other (BackTo named) e f = absurd cc
names_one sub other Last e f = absurd cc

pub before-none : (sub : ℕ) (items : List Item) → list_any (is_of sub) items ≡ false → before_savepoint sub items ≡ items
before-none sub [] none = refl
before-none sub (i ∷ items) none =
    ⊎_elim
    (λ named. absurd (let both : true ≡ false = rw named at none in cc))
    (λ past. before-other sub i items past ∙ ap (λ is. i ∷ is) (before-none sub items (rw past at none)))
    (cases_Bool (is_of sub i))

-- the items before the first of one are those before the first of another only if they are the same
pub same_first : (sub other : ℕ) (items : List Item) → list_any (is_of sub) items ≡ true → before_savepoint sub items ≡ before_savepoint other items → sub ≡ other
same_first sub other [] any same = absurd cc
same_first sub other (i ∷ items) any same =
    ⊎_elim
    (λ here. ⊎_elim
    (λ there. names_one sub other i here there)
    (λ past. absurd (let differ = sym (before-named sub i items here) ∙ same ∙ before-other other i items past in cc))
    (cases_Bool (is_of other i)))
    (λ away. ⊎_elim
    (λ there. absurd (let differ = sym (before-other sub i items away) ∙ same ∙ before-named other i items there in cc))
    (λ past.
    same_first sub other items (rw away at any)
    (same_rest i (before_savepoint sub items) (before_savepoint other items) (sym (before-other sub i items away) ∙ same ∙ before-other other i items past)))
    (cases_Bool (is_of other i)))
    (cases_Bool (is_of sub i))

-- where an item names a subtransaction, not all come before its first
pub never_whole : (sub : ℕ) (items : List Item) → list_any (is_of sub) items ≡ true → ¬ (before_savepoint sub items ≡ items)
never_whole sub [] any whole = absurd cc
never_whole sub (i ∷ items) any whole =
    ⊎_elim
    (λ named. let none = sym (before-named sub i items named) ∙ whole in cc)
    (λ past.
    never_whole sub items (rw past at any)
    (same_rest i (before_savepoint sub items) items (sym (before-other sub i items past) ∙ whole)))
    (cases_Bool (is_of sub i))

-- none of a list's marks before a subtransaction's is its own
unmarked_before : {M : Type 0} (sub : ℕ) (marks : List (ℕ × M)) → mark_at sub (before_mark sub marks) ≡ None
unmarked_before sub [] = refl
unmarked_before {M} sub (m ∷ marks) =
    ⊎_elim
    (λ named. ap (mark_at sub) (before_mark-named sub m marks named))
    (λ past. ap (mark_at sub) (before_mark-other sub m marks past) ∙ mark_at-other sub m (before_mark sub marks) past ∙ unmarked_before sub marks)
    (cases_Bool (m.0 == sub))

pub any-more : (sub : ℕ) (items more : List Item) → list_any (is_of sub) items ≡ true → list_any (is_of sub) (items ++ more) ≡ true
any-more sub [] more any = absurd cc
any-more sub (i ∷ items) more any = ⊎_elim (λ named. rw named) (λ past. rw past (any-more sub items more (rw past at any))) (cases_Bool (is_of sub i))

any-last : (sub : ℕ) (items : List Item) (i : Item) → is_of sub i ≡ true → list_any (is_of sub) (items ++ i ∷ []) ≡ true
any-last sub [] i here = rw here
any-last sub (j ∷ items) i here = ⊎_elim (λ named. rw named) (λ past. rw past (any-last sub items i here)) (cases_Bool (is_of sub j))

-- ---- the savepoints of a record

-- a mark among those with one noted is the noted one, or was there
pub noted_or_old : {M : Type 0} (sub other : ℕ) (point p : M) (marks : List (ℕ × M)) → mark_at other (with_mark sub point marks) ≡ Some p
    → ((sub ≡ other) × (is_some (mark_at sub marks) ≡ false) × (point ≡ p)) ⊎ (mark_at other marks ≡ Some p)
noted_or_old sub other point p marks e =
    ⊎_elim
    (λ there. inr (sym (mark_at-noted_marked other sub point marks there) ∙ e))
    (λ none.
    ⊎_elim
    (λ (same : sub ≡ other).
    let free : is_some (mark_at sub marks) ≡ false = ap (λ s. is_some (mark_at s marks)) same ∙ none in
    let now : mark_at other (with_mark sub point marks) ≡ Some point = subst (λ s. mark_at s (with_mark sub point marks) ≡ Some point) same (mark_at-noted_same sub point marks free) in
    inl (same, free, cc))
    (λ differs. absurd (let still = unmarked_noted_other other sub point marks (ne_eqb sub other differs) none in let gone = sym (ap is_some e) ∙ still in cc))
    (cases_eq sub other))
    (cases_Bool (is_some (mark_at other marks)))

still_unmarked : {M : Type 0} (sub other : ℕ) (point : M) (marks : List (ℕ × M)) → mark_at other (with_mark sub point marks) ≡ None → mark_at other marks ≡ None
still_unmarked sub other point marks e =
    ⊎_elim
    (λ there. absurd (let gone = ap is_some (sym (mark_at-noted_marked other sub point marks there) ∙ e) in let both = sym there ∙ gone in cc))
    (λ none. none_from _ none)
    (cases_Bool (is_some (mark_at other marks)))

module _ (top : ℕ) (survivors : List Item) (points : List (ℕ × CutPoint)) (inverses : List Inverse) (was : IsMarked top survivors points inverses) where
  -- a savepoint here, for a subtransaction that has none
  pub marked_noted : (sub : ℕ) (point : CutPoint) → sub ≢ top → point.items ≡ length survivors → point.mark.undo ≡ length inverses → IsMarked top survivors (with_mark sub point points) inverses
  marked_noted sub point below here mark = record {
    top_unmarked = none_from _ (unmarked_noted_other top sub point points (ne_eqb sub top below) (ap is_some was.top_unmarked));
    marked = λ other p e. ⊎_elim
        (λ (new : (sub ≡ other) × (is_some (mark_at sub points) ≡ false) × (point ≡ p)).
        subst (λ s. before_savepoint s survivors ≡ take p.items survivors) new.0
        (was.unmarked sub below (none_from _ new.1) ∙ sym (take-length survivors) ∙ ap (λ n. take n survivors) (sym here ∙ ap (λ (q : CutPoint). q.items) new.2)))
        (λ old. was.marked other p old)
        (noted_or_old sub other point p points e);
    unmarked = λ other ne e. was.unmarked other ne (still_unmarked sub other point points e);
    within = λ other p e. ⊎_elim
        (λ (new : (sub ≡ other) × (is_some (mark_at sub points) ≡ false) × (point ≡ p)).
        let items = ap (λ (q : CutPoint). q.items) new.2 in
        let undo = ap (λ (q : CutPoint). q.mark.undo) new.2 in
        (omega arith, omega arith))
        (λ old. was.within other p old)
        (noted_or_old sub other point p points e);
    rising = λ one other p q e f. ⊎_elim
        (λ (new : (sub ≡ one) × (is_some (mark_at sub points) ≡ false) × (point ≡ p)).
        let before : before_mark one (with_mark sub point points) ≡ points = subst (λ s. before_mark s (with_mark sub point points) ≡ points) new.0 (before_mark-noted_same sub point points new.1) in
        let bounds = was.within other q (ap (mark_at other) (sym before) ∙ f) in
        let items = ap (λ (r : CutPoint). r.items) new.2 in
        let undo = ap (λ (r : CutPoint). r.mark.undo) new.2 in
        (omega arith, omega arith))
        (λ old. was.rising one other p q old (ap (mark_at other) (sym (before_mark-noted_marked one sub point points (ap is_some old))) ∙ f))
        (noted_or_old sub one point p points e);
  }

  pub marked_after_note : (sub : ℕ) (point : CutPoint) → sub ≢ top → point.items ≡ length survivors → point.mark.undo ≡ length inverses
      → (r : Result (Unit {0}) OutOfMemory) (left : List (ℕ × CutPoint)) → OnOk r (left ≡ with_mark sub point points) → OnErr r (left ≡ points) → IsMarked top survivors left inverses
  marked_after_note sub point below here mark (Ok u) left ok err = subst (λ (ps : List (ℕ × CutPoint)). IsMarked top survivors ps inverses) (sym ok) (marked_noted sub point below here mark)
  marked_after_note sub point below here mark (Err e) left ok err = subst (λ (ps : List (ℕ × CutPoint)). IsMarked top survivors ps inverses) (sym err) was

  -- one more item, of a subtransaction that has its savepoint, where each other that has one is named
  pub marked_more : (sub : ℕ) (item : Item) (more : List Inverse) → ((other : ℕ) → is_of other item ≡ (sub == other)) → (sub ≢ top → IsSome (mark_at sub points))
      → ((other : ℕ) → other ≢ sub → IsSome (mark_at other points) → IsTrue (list_any (is_of other) survivors)) → length inverses ≤ length more
      → IsMarked top (survivors ++ item ∷ []) points more
  marked_more sub item more of with_mark named longer = record {
    top_unmarked = was.top_unmarked;
    marked = λ other p e.
        let bounds = was.within other p e in
        ⊎_elim
        (λ (same : other ≡ sub). before-last other survivors item (of other ∙ eq-eqb sub other (sym same)))
        (λ differs. before-behind other survivors (item ∷ []) (named other differs (ap is_some e)))
        (cases_eq other sub)
        ∙ was.marked other p e ∙ sym (take-append-le p.items survivors (item ∷ []) bounds.0);
    unmarked = λ other ne e.
        let differs : sub ≢ other = λ same. (let some = with_mark (λ is. ne (sym same ∙ is)) in let gone = ap (λ s. is_some (mark_at s points)) same ∙ ap is_some e in let both = sym some ∙ gone in cc) in
        before-more other survivors item (of other ∙ ne_eqb sub other differs) (was.unmarked other ne e);
    within = λ other p e.
        let bounds = was.within other p e in
        let long = length-append survivors (item ∷ []) in
        (omega arith, omega arith);
    rising = was.rising;
  }

  -- a cut to a savepoint
  pub marked_cut : (sub : ℕ) (p : CutPoint) (left : List Inverse) → mark_at sub points ≡ Some p → p.mark.undo ≤ length left → IsMarked top (take p.items survivors) (before_mark sub points) left
  marked_cut sub p left at undone =
      let bounds = was.within sub p at in
      let long = length-take-le p.items survivors bounds.0 in
      record {
        top_unmarked = elim (mark_at top (before_mark sub points)) as (λ o. mark_at top (before_mark sub points) ≡ o → mark_at top (before_mark sub points) ≡ None) [
          | None ↦ λ e. e
          | Some q ↦ λ e. absurd (let some = marked_before sub top points q e in let both = sym some ∙ was.top_unmarked in cc)
        ] refl;
        marked = λ other q e.
            let lower = was.rising sub other p q at e in
            before-take other p.items survivors ∙ ap (take p.items) (was.marked other q (marked_before sub other points q e))
            ∙ take-shorter p.items q.items survivors lower.0 ∙ sym (take-take q.items p.items survivors lower.0);
        unmarked = λ other ne e.
            before-take other p.items survivors
            ∙ elim (mark_at other points) as (λ o. mark_at other points ≡ o → take p.items (before_savepoint other survivors) ≡ take p.items survivors) [
              | None ↦ λ none. ap (take p.items) (was.unmarked other ne none)
              | Some q ↦ λ some. ap (take p.items) (was.marked other q some) ∙ ⊎_elim
                  (λ (same : sub ≡ other).
                  let one : Some p ≡ Some q = sym at ∙ ap (λ s. mark_at s points) same ∙ some in
                  let equal : p ≡ q = cc in
                  let items = ap (λ (r : CutPoint). r.items) equal in
                  take-take p.items q.items survivors (omega arith))
                  (λ behind. take-take p.items q.items survivors (was.rising other sub q p some behind).0)
                  (one_or_behind sub other points p q at some e)
            ] refl;
        within = λ other q e. let lower = was.rising sub other p q at e in (omega arith, omega arith);
        rising = λ one other q r e f. was.rising one other q r (marked_before sub one points q e) (ap (mark_at other) (sym (before_before sub one points q e)) ∙ f);
      }

  pub marked_uncut : (sub : ℕ) → mark_at sub points ≡ None → IsMarked top survivors (before_mark sub points) inverses
  marked_uncut sub none = subst (λ (ps : List (ℕ × CutPoint)). IsMarked top survivors ps inverses) (sym (before_mark-unmarked sub points (ap is_some none))) was

  -- what a cut leaves named: those before it, if each but the one that is cut was
  pub named_cut : (sub : ℕ) (p : CutPoint) → mark_at sub points ≡ Some p → ((other : ℕ) → other ≢ sub → IsSome (mark_at other points) → IsTrue (list_any (is_of other) survivors))
      → (other : ℕ) → IsSome (mark_at other (before_mark sub points)) → IsTrue (list_any (is_of other) (take p.items survivors))
  named_cut sub p at named other some =
      elim (mark_at other (before_mark sub points)) as (λ o. mark_at other (before_mark sub points) ≡ o → IsTrue (list_any (is_of other) (take p.items survivors))) [
        | None ↦ λ none. absurd (let both = sym some ∙ ap is_some none in cc)
        | Some q ↦ λ there.
            let differs : other ≢ sub = λ same. (let gone = ap (λ s. mark_at s (before_mark sub points)) same ∙ unmarked_before sub points in let both = sym there ∙ gone in cc) in
            let was_there = marked_before sub other points q there in
            let any = named other differs (ap is_some was_there) in
            let lower = was.rising sub other p q at there in
            ⊎_elim
            (λ still. still)
            (λ none.
            let cut = sym (before-none other (take p.items survivors) none) ∙ before-take other p.items survivors ∙ ap (take p.items) (was.marked other q was_there) ∙ take-shorter p.items q.items survivors lower.0 in
            absurd (differs (same_first other sub survivors any (was.marked other q was_there ∙ sym cut ∙ sym (was.marked sub p at)))))
            (cases_Bool (list_any (is_of other) (take p.items survivors)))
      ] refl

  pub named_more : (sub : ℕ) (item : Item) → is_of sub item ≡ true → ((other : ℕ) → other ≢ sub → IsSome (mark_at other points) → IsTrue (list_any (is_of other) survivors))
      → (other : ℕ) → IsSome (mark_at other points) → IsTrue (list_any (is_of other) (survivors ++ item ∷ []))
  named_more sub item here named other some = ⊎_elim
      (λ (same : other ≡ sub). any-last other survivors item (ap (λ s. is_of s item) same ∙ here))
      (λ differs. any-more other survivors (item ∷ []) (named other differs some))
      (cases_eq other sub)

  -- the items that a rollback leaves
  pub survivors_cut : (sub : ℕ) (p : CutPoint) → mark_at sub points ≡ Some p → after_item top survivors (BackTo sub) ≡ take p.items survivors
  survivors_cut sub p at =
      ⊎_elim
      (λ (same : sub ≡ top). absurd (let none = ap (λ s. mark_at s points) same ∙ was.top_unmarked in let both = sym at ∙ none in cc))
      (λ differs. rw (ne_eqb sub top differs) (was.marked sub p at))
      (cases_eq sub top)

  pub survivors_kept : (sub : ℕ) → mark_at sub points ≡ None → after_item top survivors (BackTo sub) ≡ survivors
  survivors_kept sub none =
      ⊎_elim
      (λ (same : sub ≡ top). rw (eq-eqb sub top same))
      (λ differs. rw (ne_eqb sub top differs) (was.unmarked sub differs none))
      (cases_eq sub top)

-- ---- the marks alone

pub mark_at-marks_of : (sub : ℕ) (points : List (ℕ × CutPoint)) → mark_at sub (marks_of points) ≡ option_map (λ (p : CutPoint). p.mark) (mark_at sub points)
mark_at-marks_of sub [] = refl
mark_at-marks_of sub (p ∷ points) =
    ⊎_elim
    (λ named. mark_at-named sub (p.0, p.1.mark) (marks_of points) named ∙ ap (option_map (λ (q : CutPoint). q.mark)) (sym (mark_at-named sub p points named)))
    (λ other. mark_at-other sub (p.0, p.1.mark) (marks_of points) other ∙ mark_at-marks_of sub points ∙ ap (option_map (λ (q : CutPoint). q.mark)) (sym (mark_at-other sub p points other)))
    (cases_Bool (p.0 == sub))

pub before_mark-marks_of : (sub : ℕ) (points : List (ℕ × CutPoint)) → before_mark sub (marks_of points) ≡ marks_of (before_mark sub points)
before_mark-marks_of sub [] = refl
before_mark-marks_of sub (p ∷ points) =
    ⊎_elim
    (λ named. before_mark-named sub (p.0, p.1.mark) (marks_of points) named ∙ ap marks_of (sym (before_mark-named sub p points named)))
    (λ other. before_mark-other sub (p.0, p.1.mark) (marks_of points) other ∙ ap (λ (ms : List (ℕ × Mark)). (p.0, p.1.mark) ∷ ms) (before_mark-marks_of sub points) ∙ ap marks_of (sym (before_mark-other sub p points other)))
    (cases_Bool (p.0 == sub))

marks_of-last : (sub : ℕ) (point : CutPoint) (points : List (ℕ × CutPoint)) → marks_of (points ++ (sub, point) ∷ []) ≡ marks_of points ++ (sub, point.mark) ∷ []
marks_of-last sub point [] = refl
marks_of-last sub point (p ∷ points) = ap (λ (ms : List (ℕ × Mark)). (p.0, p.1.mark) ∷ ms) (marks_of-last sub point points)

is_some-map : (o : Option CutPoint) → is_some (option_map (λ (p : CutPoint). p.mark) o) ≡ is_some o
is_some-map None = refl
is_some-map (Some p) = refl

pub marked-marks_of : (sub : ℕ) (points : List (ℕ × CutPoint)) → is_some (mark_at sub (marks_of points)) ≡ is_some (mark_at sub points)
marked-marks_of sub points = ap is_some (mark_at-marks_of sub points) ∙ is_some-map (mark_at sub points)

pub with_mark-marks_of : (sub : ℕ) (point : CutPoint) (points : List (ℕ × CutPoint)) → marks_of (with_mark sub point points) ≡ with_mark sub point.mark (marks_of points)
with_mark-marks_of sub point points =
    let same = marked-marks_of sub points in
    ⊎_elim
    (λ there. ap (λ b. marks_of (if b then points else (points ++ (sub, point) ∷ []))) there ∙ sym (ap (λ b. if b then marks_of points else (marks_of points ++ (sub, point.mark) ∷ [])) (same ∙ there)))
    (λ none.
    ap (λ b. marks_of (if b then points else (points ++ (sub, point) ∷ []))) none ∙ marks_of-last sub point points
    ∙ sym (ap (λ b. if b then marks_of points else (marks_of points ++ (sub, point.mark) ∷ [])) (same ∙ none)))
    (cases_Bool (is_some (mark_at sub points)))

pub all_named : (survivors : List Item) (points : List (ℕ × CutPoint)) → ((other : ℕ) → IsSome (mark_at other points) → IsTrue (list_any (is_of other) survivors))
    → (other : ℕ) → IsSome (mark_at other (marks_of points)) → IsTrue (list_any (is_of other) survivors)
all_named survivors points named other some = named other (sym (marked-marks_of other points) ∙ some)

is_some-with_mark : {M : Type 0} (sub : ℕ) (point : M) (marks : List (ℕ × M)) → is_some (mark_at sub (with_mark sub point marks)) ≡ true
is_some-with_mark sub point marks =
    ⊎_elim
    (λ there. ap is_some (mark_at-noted_marked sub sub point marks there) ∙ there)
    (λ none. ap is_some (mark_at-noted_same sub point marks none))
    (cases_Bool (is_some (mark_at sub marks)))

pub noted_there : (sub : ℕ) (point : CutPoint) (points left : List (ℕ × CutPoint)) → left ≡ with_mark sub point points → IsSome (mark_at sub (marks_of left))
noted_there sub point points left is = marked-marks_of sub left ∙ ap (λ (ps : List (ℕ × CutPoint)). is_some (mark_at sub ps)) is ∙ is_some-with_mark sub point points

-- ---- what its callers know

abbrev with_note : ℕ → ℕ → Record → Record
with_note sub held r = record r { marks = with_mark_unless_top r.top sub (record { undo = length r.log.inverses; held = held }) r.marks }

module _ (a : Inside) (r : Record) (v : record_in a ≡ r) (sub : ℕ) where
  pub is_noted : HasMark r sub → sub ≢ a.top → IsSome (mark_at sub a.savepoints)
  is_noted with_mark differs = sym (marked-marks_of sub a.savepoints) ∙ subst (λ (q : Record). HasMark q sub) (sym v) with_mark differs

  pub are_named : OthersAreNamed r sub → (other : ℕ) → other ≢ sub → IsSome (mark_at other a.savepoints) → IsTrue (list_any (is_of other) a.survivors.items)
  are_named named other differs some = subst (λ (q : Record). OthersAreNamed q sub) (sym v) named other differs (marked-marks_of other a.savepoints ∙ some)

  -- after a note, whether it was refused or not
  pub named_noted : AllAreNamed r → (point : CutPoint) (e : Result (Unit {0}) OutOfMemory) (left : List (ℕ × CutPoint)) → OnOk e (left ≡ with_mark sub point a.savepoints) → OnErr e (left ≡ a.savepoints)
      → (other : ℕ) → other ≢ sub → IsSome (mark_at other (marks_of left)) → IsTrue (list_any (is_of other) a.survivors.items)
  named_noted named point e left ok err other differs some =
      let all : AllAreNamed (record_in a) = subst AllAreNamed (sym v) named in
      let was : IsSome (mark_at other left) = sym (marked-marks_of other left) ∙ some in
      all other (marked-marks_of other a.savepoints ∙ before e ok err was)
    where
      before : (e : Result (Unit {0}) OutOfMemory) → OnOk e (left ≡ with_mark sub point a.savepoints) → OnErr e (left ≡ a.savepoints) → IsSome (mark_at other left) → IsSome (mark_at other a.savepoints)
      before (Err x) ok err was = ap (λ (ps : List (ℕ × CutPoint)). is_some (mark_at other ps)) (sym err) ∙ was
      before (Ok x) ok err was =
          ⊎_elim
          (λ there. there)
          (λ none.
          absurd (let still = unmarked_noted_other other sub point a.savepoints (ne_eqb sub other (λ same. differs (sym same))) none in
          let now = ap (λ (ps : List (ℕ × CutPoint)). is_some (mark_at other ps)) (sym ok) ∙ was in let both = sym now ∙ still in cc))
          (cases_Bool (is_some (mark_at other a.savepoints)))

  pub named_uncut : mark_at sub a.savepoints ≡ None → OthersAreNamed r sub → (left : List (ℕ × CutPoint)) → left ≡ before_mark sub a.savepoints
      → (other : ℕ) → IsSome (mark_at other (marks_of left)) → IsTrue (list_any (is_of other) a.survivors.items)
  named_uncut none named left is other some =
      let all : left ≡ a.savepoints = is ∙ before_mark-unmarked sub a.savepoints (ap is_some none) in
      let was : IsSome (mark_at other a.savepoints) = ap (λ (ps : List (ℕ × CutPoint)). is_some (mark_at other ps)) (sym all) ∙ sym (marked-marks_of other left) ∙ some in
      let differs : other ≢ sub = λ same. (let gone = ap (λ s. is_some (mark_at s a.savepoints)) same ∙ ap is_some none in let both = sym was ∙ gone in cc) in
      are_named named other differs was

  pub mark_seen : mark_at sub r.marks ≡ option_map (λ (p : CutPoint). p.mark) (mark_at sub a.savepoints)
  mark_seen = ap (λ (q : Record). mark_at sub q.marks) (sym v) ∙ mark_at-marks_of sub a.savepoints

  pub since_none : mark_at sub a.savepoints ≡ None → inverses_since sub r ≡ []
  since_none none = ap (λ o. after_mark o r.log.inverses) (mark_seen ∙ ap (option_map (λ (p : CutPoint). p.mark)) none)

  pub before_none : mark_at sub a.savepoints ≡ None → inverses_before sub r ≡ a.undo.inverses
  before_none none = ap (λ o. up_to_mark o r.log.inverses) (mark_seen ∙ ap (option_map (λ (p : CutPoint). p.mark)) none) ∙ ap (λ (q : Record). q.log.inverses) (sym v)

  pub since_mark : (p : CutPoint) → mark_at sub a.savepoints ≡ Some p → inverses_since sub r ≡ drop p.mark.undo a.undo.inverses
  since_mark p at =
      ap (λ o. after_mark o r.log.inverses) (mark_seen ∙ ap (option_map (λ (q : CutPoint). q.mark)) at) ∙ ap (λ (q : Record). drop p.mark.undo q.log.inverses) (sym v)

  pub before_point : (p : CutPoint) → mark_at sub a.savepoints ≡ Some p → inverses_before sub r ≡ take p.mark.undo a.undo.inverses
  before_point p at =
      ap (λ o. up_to_mark o r.log.inverses) (mark_seen ∙ ap (option_map (λ (q : CutPoint). q.mark)) at) ∙ ap (λ (q : Record). take p.mark.undo q.log.inverses) (sym v)

  pub top_seen : mark_at a.top a.savepoints ≡ None → mark_at r.top r.marks ≡ None
  top_seen none = ap (λ (q : Record). mark_at q.top q.marks) (sym v) ∙ mark_at-marks_of a.top a.savepoints ∙ ap (option_map (λ (p : CutPoint). p.mark)) none

  pub note_seen : (point : CutPoint) (left : List (ℕ × CutPoint)) (held : ℕ) → sub ≢ a.top → point.mark ≡ record { undo = length a.undo.inverses; held = held } → left ≡ with_mark sub point a.savepoints
      → record (record_in a) { marks = marks_of left } ≡ with_note sub held r
  note_seen point left held differs mark is =
      let marks = ap marks_of is ∙ with_mark-marks_of sub point a.savepoints ∙ ap (λ (m : Mark). with_mark sub m (marks_of a.savepoints)) mark
      ∙ sym (ap (λ b. if b then marks_of a.savepoints else with_mark sub (record { undo = length a.undo.inverses; held = held }) (marks_of a.savepoints)) (ne_eqb sub a.top differs)) in
      ap (λ (ms : List (ℕ × Mark)). let q : Record = record (record_in a) { marks = ms } in q) marks ∙ ap (with_note sub held) v

  pub cut_seen : after_item a.top a.survivors.items (BackTo sub) ≡ after_item r.top r.survivors (BackTo sub)
  cut_seen = ap (λ (q : Record). after_item q.top q.survivors (BackTo sub)) v

  pub marks_cut : (left : List (ℕ × CutPoint)) → left ≡ before_mark sub a.savepoints → marks_of left ≡ before_mark sub r.marks
  marks_cut left is = ap marks_of is ∙ sym (before_mark-marks_of sub a.savepoints) ∙ ap (λ (q : Record). before_mark sub q.marks) v
