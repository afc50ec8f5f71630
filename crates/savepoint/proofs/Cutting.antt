-- A cut to the mark of a subtransaction leaves the items before its savepoint, and their savepoints.
use Rattle.std.proofs.Common.{◌≡◌, append-nil, ℕ, suc, ◌+◌, ◌==◌, Bool, true, false, not, List, [], ◌∷◌, ◌++◌, Option, Some, None, refl, sym, ap, ◌∙◌, arith, ⊎_elim}
use Rattle.std.specs.Prelude.{is_some, find}
use Rattle.std.specs.List.{prefix_len}
use Rattle.std.specs.Option.{option_map}
use Rattle.std.proofs.lemmas.Bool.{cases_Bool, eq-eqb, eqb-true}
use Rattle.std.proofs.lemmas.List.Sums.{take_while-cons}
use Rattle.std.proofs.lemmas.Grind.{common_steps}
use Rattle.model.specs.declared.item.Item.{Item}
use Rattle.model.specs.declared.item.Item.TheVariants.{Change, Touch, BackTo, Last}
use Rattle.model.specs.Survivors.{is_of}
use Rattle.savepoint.specs.Savepoints.{mark_at, before_mark, with_mark, with_mark_of, with_marks_of, savepoints, before_first}

pub none_from : {A : Type 0} (o : Option A) → is_some o ≡ false → o ≡ None
none_from None e = refl
none_from (Some x) e = cc

-- ---- one more mark

mark_at-append_marked : {M : Type 0} (sub : ℕ) (marks more : List (ℕ × M)) → is_some (mark_at sub marks) ≡ true → mark_at sub (marks ++ more) ≡ mark_at sub marks
mark_at-append_marked sub [] more e = cc
mark_at-append_marked sub (m ∷ marks) more e =
    let rest = mark_at-append_marked sub marks more in
    grind (arith, common_steps)

mark_at-append_unmarked : {M : Type 0} (sub : ℕ) (marks more : List (ℕ × M)) → is_some (mark_at sub marks) ≡ false → mark_at sub (marks ++ more) ≡ mark_at sub more
mark_at-append_unmarked sub [] more e = refl
mark_at-append_unmarked sub (m ∷ marks) more e =
    let rest = mark_at-append_unmarked sub marks more in
    grind (arith, common_steps)

pub before_mark-named : {M : Type 0} (sub : ℕ) (m : ℕ × M) (marks : List (ℕ × M)) → (m.0 == sub) ≡ true → before_mark sub (m ∷ marks) ≡ []
before_mark-named {M} sub m marks e = take_while-cons (λ (n : ℕ × M). not (n.0 == sub)) m marks ∙ rw e

pub before_mark-other : {M : Type 0} (sub : ℕ) (m : ℕ × M) (marks : List (ℕ × M)) → (m.0 == sub) ≡ false → before_mark sub (m ∷ marks) ≡ m ∷ before_mark sub marks
before_mark-other {M} sub m marks e = take_while-cons (λ (n : ℕ × M). not (n.0 == sub)) m marks ∙ rw e

-- past a mark of another subtransaction
marked_past : {M : Type 0} (sub : ℕ) (m : ℕ × M) (marks : List (ℕ × M)) (b : Bool) → (m.0 == sub) ≡ false → is_some (mark_at sub (m ∷ marks)) ≡ b → is_some (mark_at sub marks) ≡ b
marked_past sub m marks b other e = rw other at e

before_mark-append_marked : {M : Type 0} (sub : ℕ) (marks more : List (ℕ × M)) → is_some (mark_at sub marks) ≡ true → before_mark sub (marks ++ more) ≡ before_mark sub marks
before_mark-append_marked sub [] more e = cc
before_mark-append_marked sub (m ∷ marks) more e =
    ⊎_elim
    (λ named. before_mark-named sub m (marks ++ more) named ∙ sym (before_mark-named sub m marks named))
    (λ other. before_mark-other sub m (marks ++ more) other ∙ ap (λ ms. m ∷ ms) (before_mark-append_marked sub marks more (marked_past sub m marks true other e)) ∙ sym (before_mark-other sub m marks other))
    (cases_Bool (m.0 == sub))

before_mark-append_unmarked : {M : Type 0} (sub : ℕ) (marks more : List (ℕ × M)) → is_some (mark_at sub marks) ≡ false → before_mark sub (marks ++ more) ≡ marks ++ before_mark sub more
before_mark-append_unmarked sub [] more e = refl
before_mark-append_unmarked sub (m ∷ marks) more e =
    ⊎_elim
    (λ named. let absurdly = rw named at e in cc)
    (λ other. before_mark-other sub m (marks ++ more) other ∙ ap (λ ms. m ∷ ms) (before_mark-append_unmarked sub marks more (marked_past sub m marks false other e)))
    (cases_Bool (m.0 == sub))

pub before_mark-unmarked : {M : Type 0} (sub : ℕ) (marks : List (ℕ × M)) → is_some (mark_at sub marks) ≡ false → before_mark sub marks ≡ marks
before_mark-unmarked sub [] e = refl
before_mark-unmarked sub (m ∷ marks) e =
    ⊎_elim
    (λ named. let absurdly = rw named at e in cc)
    (λ other. before_mark-other sub m marks other ∙ ap (λ ms. m ∷ ms) (before_mark-unmarked sub marks (marked_past sub m marks false other e)))
    (cases_Bool (m.0 == sub))

-- ---- one more item

-- noting a mark of the subtransaction itself
pub mark_at-noted_same : {M : Type 0} (sub : ℕ) (mark : M) (marks : List (ℕ × M)) → is_some (mark_at sub marks) ≡ false → mark_at sub (with_mark sub mark marks) ≡ Some mark
mark_at-noted_same {M} sub mark marks e = rw e (mark_at-append_unmarked sub marks ((sub, mark) ∷ []) e ∙ rw (eq-eqb sub sub refl))

pub before_mark-noted_same : {M : Type 0} (sub : ℕ) (mark : M) (marks : List (ℕ × M)) → is_some (mark_at sub marks) ≡ false → before_mark sub (with_mark sub mark marks) ≡ marks
before_mark-noted_same {M} sub mark marks e = rw e (before_mark-append_unmarked sub marks ((sub, mark) ∷ []) e ∙ rw (before_mark-named sub (sub, mark) [] (eq-eqb sub sub refl)) (append-nil marks))

-- a mark that is there stays, whatever is noted
pub mark_at-noted_marked : {M : Type 0} (sub named : ℕ) (mark : M) (marks : List (ℕ × M)) → is_some (mark_at sub marks) ≡ true → mark_at sub (with_mark named mark marks) ≡ mark_at sub marks
mark_at-noted_marked sub named mark marks e =
    ⊎_elim (λ has. rw has) (λ none. rw none (mark_at-append_marked sub marks ((named, mark) ∷ []) e)) (cases_Bool (is_some (mark_at named marks)))

pub before_mark-noted_marked : {M : Type 0} (sub named : ℕ) (mark : M) (marks : List (ℕ × M)) → is_some (mark_at sub marks) ≡ true → before_mark sub (with_mark named mark marks) ≡ before_mark sub marks
before_mark-noted_marked sub named mark marks e =
    ⊎_elim (λ has. rw has) (λ none. rw none (before_mark-append_marked sub marks ((named, mark) ∷ []) e)) (cases_Bool (is_some (mark_at named marks)))

-- a mark of another leaves it unmarked
pub unmarked_noted_other : {M : Type 0} (sub named : ℕ) (mark : M) (marks : List (ℕ × M)) → (named == sub) ≡ false → is_some (mark_at sub marks) ≡ false → is_some (mark_at sub (with_mark named mark marks)) ≡ false
unmarked_noted_other {M} sub named mark marks other e =
    ⊎_elim (λ has. rw has e) (λ none. rw none (ap is_some (mark_at-append_unmarked sub marks ((named, mark) ∷ []) e) ∙ rw other)) (cases_Bool (is_some (mark_at named marks)))

mark_at-noted_by_marked : {M : Type 0} (sub : ℕ) (i : Item) (mark : M) (marks : List (ℕ × M)) → is_some (mark_at sub marks) ≡ true → mark_at sub (with_mark_of i mark marks) ≡ mark_at sub marks
mark_at-noted_by_marked sub (Change named c) mark marks e = mark_at-noted_marked sub named mark marks e
mark_at-noted_by_marked sub (Touch named) mark marks e = mark_at-noted_marked sub named mark marks e
mark_at-noted_by_marked sub (BackTo named) mark marks e = refl
mark_at-noted_by_marked sub Last mark marks e = refl

before_mark-noted_by_marked : {M : Type 0} (sub : ℕ) (i : Item) (mark : M) (marks : List (ℕ × M)) → is_some (mark_at sub marks) ≡ true → before_mark sub (with_mark_of i mark marks) ≡ before_mark sub marks
before_mark-noted_by_marked sub (Change named c) mark marks e = before_mark-noted_marked sub named mark marks e
before_mark-noted_by_marked sub (Touch named) mark marks e = before_mark-noted_marked sub named mark marks e
before_mark-noted_by_marked sub (BackTo named) mark marks e = refl
before_mark-noted_by_marked sub Last mark marks e = refl

mark_at-noted_by_named : {M : Type 0} (sub : ℕ) (i : Item) (mark : M) (marks : List (ℕ × M)) → is_of sub i ≡ true → is_some (mark_at sub marks) ≡ false → mark_at sub (with_mark_of i mark marks) ≡ Some mark
mark_at-noted_by_named sub (Change named c) mark marks named_by e = rw (eqb-true named sub named_by) (mark_at-noted_same sub mark marks e)
mark_at-noted_by_named sub (Touch named) mark marks named_by e = rw (eqb-true named sub named_by) (mark_at-noted_same sub mark marks e)
mark_at-noted_by_named sub (BackTo named) mark marks named_by e = cc
mark_at-noted_by_named sub Last mark marks named_by e = cc

before_mark-noted_by_named : {M : Type 0} (sub : ℕ) (i : Item) (mark : M) (marks : List (ℕ × M)) → is_of sub i ≡ true → is_some (mark_at sub marks) ≡ false → before_mark sub (with_mark_of i mark marks) ≡ marks
before_mark-noted_by_named sub (Change named c) mark marks named_by e = rw (eqb-true named sub named_by) (before_mark-noted_same sub mark marks e)
before_mark-noted_by_named sub (Touch named) mark marks named_by e = rw (eqb-true named sub named_by) (before_mark-noted_same sub mark marks e)
before_mark-noted_by_named sub (BackTo named) mark marks named_by e = cc
before_mark-noted_by_named sub Last mark marks named_by e = cc

unmarked_noted_by_other : {M : Type 0} (sub : ℕ) (i : Item) (mark : M) (marks : List (ℕ × M)) → is_of sub i ≡ false → is_some (mark_at sub marks) ≡ false → is_some (mark_at sub (with_mark_of i mark marks)) ≡ false
unmarked_noted_by_other sub (Change named c) mark marks other e = unmarked_noted_other sub named mark marks other e
unmarked_noted_by_other sub (Touch named) mark marks other e = unmarked_noted_other sub named mark marks other e
unmarked_noted_by_other sub (BackTo named) mark marks other e = e
unmarked_noted_by_other sub Last mark marks other e = e

-- ---- items

-- the mark beside the first item that names the subtransaction
abbrev pub first_mark : {M : Type 0} → ℕ → List (Item × M) → Option M
first_mark {M} sub items = option_map (λ (i : Item × M). i.1) (find (λ (i : Item × M). is_of sub i.0) items)

before_first-named : {M : Type 0} (sub : ℕ) (i : Item × M) (items : List (Item × M)) → is_of sub i.0 ≡ true → before_first sub (i ∷ items) ≡ []
before_first-named {M} sub i items e = take_while-cons (λ (j : Item × M). not (is_of sub j.0)) i items ∙ rw e

before_first-other : {M : Type 0} (sub : ℕ) (i : Item × M) (items : List (Item × M)) → is_of sub i.0 ≡ false → before_first sub (i ∷ items) ≡ i ∷ before_first sub items
before_first-other {M} sub i items e = take_while-cons (λ (j : Item × M). not (is_of sub j.0)) i items ∙ rw e

mark_at-marking_marked : {M : Type 0} (sub : ℕ) (marks : List (ℕ × M)) (items : List (Item × M)) → is_some (mark_at sub marks) ≡ true → mark_at sub (with_marks_of marks items) ≡ mark_at sub marks
mark_at-marking_marked sub marks [] e = refl
mark_at-marking_marked sub marks (i ∷ items) e =
    let same = mark_at-noted_by_marked sub i.0 i.1 marks e in
    mark_at-marking_marked sub (with_mark_of i.0 i.1 marks) items (ap is_some same ∙ e) ∙ same

before_mark-marking_marked : {M : Type 0} (sub : ℕ) (marks : List (ℕ × M)) (items : List (Item × M)) → is_some (mark_at sub marks) ≡ true → before_mark sub (with_marks_of marks items) ≡ before_mark sub marks
before_mark-marking_marked sub marks [] e = refl
before_mark-marking_marked sub marks (i ∷ items) e =
    let same = mark_at-noted_by_marked sub i.0 i.1 marks e in
    before_mark-marking_marked sub (with_mark_of i.0 i.1 marks) items (ap is_some same ∙ e) ∙ before_mark-noted_by_marked sub i.0 i.1 marks e

pub mark_at-with_marks_of : {M : Type 0} (sub : ℕ) (marks : List (ℕ × M)) (items : List (Item × M)) → is_some (mark_at sub marks) ≡ false → mark_at sub (with_marks_of marks items) ≡ first_mark sub items
mark_at-with_marks_of sub marks [] e = none_from (mark_at sub marks) e
mark_at-with_marks_of {M} sub marks (i ∷ items) e =
    ⊎_elim
    (λ named.
    let here = mark_at-noted_by_named sub i.0 i.1 marks named e in
    mark_at-marking_marked sub (with_mark_of i.0 i.1 marks) items (ap is_some here) ∙ here ∙ rw named)
    (λ other.
    mark_at-with_marks_of sub (with_mark_of i.0 i.1 marks) items (unmarked_noted_by_other sub i.0 i.1 marks other e) ∙ rw other)
    (cases_Bool (is_of sub i.0))

pub before_mark-with_marks_of : {M : Type 0} (sub : ℕ) (marks : List (ℕ × M)) (items : List (Item × M)) → is_some (mark_at sub marks) ≡ false → before_mark sub (with_marks_of marks items) ≡ with_marks_of marks (before_first sub items)
before_mark-with_marks_of sub marks [] e = before_mark-unmarked sub marks e
before_mark-with_marks_of {M} sub marks (i ∷ items) e =
    ⊎_elim
    (λ named.
    let here = mark_at-noted_by_named sub i.0 i.1 marks named e in
    before_mark-marking_marked sub (with_mark_of i.0 i.1 marks) items (ap is_some here) ∙ before_mark-noted_by_named sub i.0 i.1 marks named e ∙ sym (ap (with_marks_of marks) (before_first-named sub i items named)))
    (λ other.
    before_mark-with_marks_of sub (with_mark_of i.0 i.1 marks) items (unmarked_noted_by_other sub i.0 i.1 marks other e) ∙ sym (ap (with_marks_of marks) (before_first-other sub i items other)))
    (cases_Bool (is_of sub i.0))

-- ---- the savepoints of items

-- a subtransaction's mark is that of the first item that names it
pub mark_at-savepoints : {M : Type 0} (sub : ℕ) (items : List (Item × M)) → mark_at sub (savepoints items) ≡ first_mark sub items
mark_at-savepoints sub items = mark_at-with_marks_of sub [] items refl

-- the marks that a cut leaves are those of the items before the savepoint
pub before_mark-savepoints : {M : Type 0} (sub : ℕ) (items : List (Item × M)) → before_mark sub (savepoints items) ≡ savepoints (before_first sub items)
before_mark-savepoints sub items = before_mark-with_marks_of sub [] items refl

-- Each mark tells how many items stand before it, from n on.
abbrev pub IsNumbered : {M : Type 0} → (M → ℕ) → ℕ → List (Item × M) → Type 0
IsNumbered index n [] = Unit {0}
IsNumbered index n (i ∷ items) = (index i.1 ≡ n) × IsNumbered index (suc n) items

-- how many items stand before the first that names the subtransaction
abbrev pub count_before_first : {M : Type 0} → ℕ → List (Item × M) → ℕ
count_before_first {M} sub items = prefix_len (λ (i : Item × M). not (is_of sub i.0)) items

pub first_mark-index : {M : Type 0} (index : M → ℕ) (n sub : ℕ) (items : List (Item × M)) (mark : M) → IsNumbered index n items → first_mark sub items ≡ Some mark → index mark ≡ n + count_before_first sub items
first_mark-index index n sub [] mark h e = cc
first_mark-index {M} index n sub (i ∷ items) mark h e =
    ⊎_elim
    (λ named.
    let first : Some i.1 ≡ Some mark = rw named at e in
    let same : i.1 ≡ mark = cc in
    let here = ap index same in
    rw named (omega (arith, here, h.0)))
    (λ other.
    let later : first_mark sub items ≡ Some mark = rw other at e in
    let rest = first_mark-index index (suc n) sub items mark h.1 later in
    rw other (omega (arith, rest)))
    (cases_Bool (is_of sub i.0))

before_first-none : {M : Type 0} (sub : ℕ) (items : List (Item × M)) → first_mark sub items ≡ None → before_first sub items ≡ items
before_first-none sub [] e = refl
before_first-none {M} sub (i ∷ items) e =
    ⊎_elim
    (λ named. let some : Some i.1 ≡ None = rw named at e in cc)
    (λ other. let later : first_mark sub items ≡ None = rw other at e in before_first-other sub i items other ∙ ap (λ is. i ∷ is) (before_first-none sub items later))
    (cases_Bool (is_of sub i.0))

-- without a mark there is no savepoint
pub before_first-unmarked : {M : Type 0} (sub : ℕ) (items : List (Item × M)) → mark_at sub (savepoints items) ≡ None → before_first sub items ≡ items
before_first-unmarked sub items e = before_first-none sub items (sym (mark_at-savepoints sub items) ∙ e)
