-- What one more item does to a transaction's work.
--     survivors_by_with, items_of_survivors      survivors with one more; their items are those that survive
--     survivors_with, changes_of_both      the survivors of items with one more; the changes among two lists
--     work_with_change, work_with_touch      a change is its last; what changes no row leaves it
--     work_before      a rollback leaves a beginning of it
--     rollback_cuts, top_cuts_nothing      which one, and that to the top transaction it is all of it
use Rattle.std.specs.Prelude.{◌≡◌, ◌≢◌, ℕ, ◌==◌, Bool, true, false, cond, List, [], ◌∷◌, ◌++◌, map, not, if◌then◌else◌, refl}
use Rattle.std.proofs.Common.{inl, inr, sym, ◌∙◌, ap, subst, append-nil, eq-eqb}
use Rattle.std.proofs.lemmas.Bool.{cases_Bool}
use Rattle.std.proofs.lemmas.List.{map-append}
use Rattle.std.proofs.lemmas.List.Sums.{take_while-cons}
use Rattle.model.specs.TakenLemmas.{number_is}
use Rattle.model.specs.declared.change.Change as change_type
use Rattle.model.specs.declared.item.Item.{Item}
use Rattle.model.specs.declared.item.Item.TheVariants.{Change, Touch, BackTo, Last}
use Rattle.model.specs.Cut.{IsCut}
use Rattle.model.specs.OverlapLemmas.{neither}
use Rattle.model.specs.Survivors.{is_of, before_savepoint_by, left_by, surviving_by, survivors_by, before_savepoint, after_item, surviving, survivors, changes_of}

-- ---- elements that have an item each

surviving_by_with : {A : Type 0} (item : A → Item) (top : ℕ) (kept more : List A) (a : A)
    → surviving_by item top kept (more ++ a ∷ []) ≡ left_by item top (surviving_by item top kept more) a (item a)
surviving_by_with item top kept [] a = refl
surviving_by_with item top kept (first ∷ more) a =
    surviving_by_with item top (left_by item top kept first (item first)) more a

pub survivors_by_with : {A : Type 0} (item : A → Item) (top : ℕ) (list : List A) (a : A)
    → survivors_by item top (list ++ a ∷ []) ≡ left_by item top (survivors_by item top list) a (item a)
survivors_by_with item top = surviving_by_with item top []

pub items_before : {A : Type 0} (item : A → Item) (sub : ℕ) (list : List A)
    → map item (before_savepoint_by item sub list) ≡ before_savepoint sub (map item list)
items_before item sub [] = refl
items_before {A} item sub (a ∷ list) =
    ap (map item) (take_while-cons (λ (b : A). not (is_of sub (item b))) a list)
    ∙ by_cases (items_before item sub list) (not (is_of sub (item a)))
    ∙ sym (take_while-cons (λ i. not (is_of sub i)) (item a) (map item list))
  where
    by_cases : map item (before_savepoint_by item sub list) ≡ before_savepoint sub (map item list) → (b : Bool)
        → map item (cond b (a ∷ before_savepoint_by item sub list) [])
        ≡ cond b (item a ∷ before_savepoint sub (map item list)) []
    by_cases rest true = ap (λ is. item a ∷ is) rest
    by_cases rest false = refl

items_left : {A : Type 0} (item : A → Item) (top : ℕ) (kept : List A) (a : A) (i : Item) → item a ≡ i
    → map item (left_by item top kept a i) ≡ after_item top (map item kept) i
items_left item top kept a (Change sub c) is = map-append item kept (a ∷ []) ∙ ap (λ i. map item kept ++ i ∷ []) is
items_left item top kept a (Touch sub) is = map-append item kept (a ∷ []) ∙ ap (λ i. map item kept ++ i ∷ []) is
items_left item top kept a (BackTo sub) is = by_cases (sub == top) refl
  where
    by_cases : (b : Bool) → (sub == top) ≡ b
        → map item (left_by item top kept a (BackTo sub)) ≡ after_item top (map item kept) (BackTo sub)
    by_cases true e = rw e
    by_cases false e = rw e (items_before item sub kept)
items_left item top kept a Last is = refl

items_surviving : {A : Type 0} (item : A → Item) (top : ℕ) (kept list : List A)
    → map item (surviving_by item top kept list) ≡ surviving top (map item kept) (map item list)
items_surviving item top kept [] = refl
items_surviving item top kept (a ∷ list) =
    items_surviving item top (left_by item top kept a (item a)) list
    ∙ ap (λ is. surviving top is (map item list)) (items_left item top kept a (item a) refl)

-- the items of what survives are the items that survive
pub items_of_survivors : {A : Type 0} (item : A → Item) (top : ℕ) (list : List A)
    → map item (survivors_by item top list) ≡ survivors top (map item list)
items_of_survivors item top list = items_surviving item top [] list

-- ---- items alone

pub survivors_with : (top : ℕ) (items : List Item) (item : Item)
    → survivors top (items ++ item ∷ []) ≡ after_item top (survivors top items) item
survivors_with top = survivors_by_with (λ i. i) top

pub changes_of_both : (items more : List Item) → changes_of (items ++ more) ≡ changes_of items ++ changes_of more
changes_of_both [] more = refl
changes_of_both (Change sub c ∷ items) more = ap (λ cs. c ∷ cs) (changes_of_both items more)
changes_of_both (Touch sub ∷ items) more = changes_of_both items more
changes_of_both (BackTo sub ∷ items) more = changes_of_both items more
changes_of_both (Last ∷ items) more = changes_of_both items more

-- the changes of items that survive
abbrev pub work_of : ℕ → List Item → List change_type.Change
work_of top items = changes_of (survivors top items)

pub work_with_change : (top sub : ℕ) (items : List Item) (c : change_type.Change)
    → work_of top (items ++ Change sub c ∷ []) ≡ work_of top items ++ c ∷ []
work_with_change top sub items c =
    ap changes_of (survivors_with top items (Change sub c)) ∙ changes_of_both (survivors top items) (Change sub c ∷ [])

pub work_with_touch : (top sub : ℕ) (items : List Item) → work_of top (items ++ Touch sub ∷ []) ≡ work_of top items
work_with_touch top sub items =
    ap changes_of (survivors_with top items (Touch sub)) ∙ changes_of_both (survivors top items) (Touch sub ∷ [])
    ∙ append-nil (work_of top items)

-- ---- a rollback

-- before the first item that names the subtransaction
before_step : (sub : ℕ) (item : Item) (items : List Item) (b : Bool) → is_of sub item ≡ b
    → before_savepoint sub (item ∷ items) ≡ cond (not b) (item ∷ before_savepoint sub items) []
before_step sub item items b e =
    take_while-cons (λ i. not (is_of sub i)) item items
    ∙ ap (λ b. cond (not b) (item ∷ before_savepoint sub items) []) e

with_first : (sub : ℕ) (item : Item) (items kept rest : List Item) → is_of sub item ≡ false
    → IsCut sub items kept rest → IsCut sub (item ∷ items) (item ∷ kept) rest
with_first sub item items kept rest other cut = record {
  both = ap (λ more. item ∷ more) cut.both;
  unnamed = neither _ _ other cut.unnamed;
  starts = cut.starts;
}

pub cut_before : (sub : ℕ) (items : List Item) → (rest : List Item) × IsCut sub items (before_savepoint sub items) rest
cut_before sub [] = ([], record { both = refl; unnamed = refl; starts = tt })
cut_before sub (item ∷ items) =
    elim (cases_Bool (is_of sub item)) [
      | inl named ↦ (
        item ∷ items,
        subst (λ kept. IsCut sub (item ∷ items) kept (item ∷ items)) (sym (before_step sub item items true named))
            (record { both = refl; unnamed = refl; starts = named }),
      )
      | inr other ↦
          let rest = cut_before sub items in (
            rest.0,
            subst (λ kept. IsCut sub (item ∷ items) kept rest.0) (sym (before_step sub item items false other))
                (with_first sub item items (before_savepoint sub items) rest.0 other rest.1),
          )
    ]

-- a rollback of a subtransaction cuts the survivors so
pub rollback_cuts : (top sub : ℕ) (items : List Item) → sub ≢ top
    → (rest : List Item) × IsCut sub (survivors top items) (survivors top (items ++ BackTo sub ∷ [])) rest
rollback_cuts top sub items differs =
    let cut = cut_before sub (survivors top items) in
    let kept : survivors top (items ++ BackTo sub ∷ []) ≡ before_savepoint sub (survivors top items) =
    survivors_with top items (BackTo sub)
    ∙ ap (λ b. if b then survivors top items else before_savepoint sub (survivors top items)) (not_top (sub == top) refl) in
    (cut.0, subst (λ k. IsCut sub (survivors top items) k cut.0) (sym kept) cut.1)
  where
    not_top : (b : Bool) → (sub == top) ≡ b → (sub == top) ≡ false
    not_top true e = absurd (differs (number_is sub top e))
    not_top false e = e

cut_beginning : (top sub : ℕ) (items : List Item) (b : Bool)
    → (rest : List Item) × (items ≡ (if b then items else before_savepoint sub items) ++ rest)
cut_beginning top sub items true = ([], sym (append-nil items))
cut_beginning top sub items false = let cut = cut_before sub items in (cut.0, cut.1.both)

pub survivors_before : (top sub : ℕ) (items : List Item)
    → (rest : List Item) × (survivors top items ≡ survivors top (items ++ BackTo sub ∷ []) ++ rest)
survivors_before top sub items =
    let cut = cut_beginning top sub (survivors top items) (sub == top) in
    (cut.0, cut.1 ∙ ap (λ kept. kept ++ cut.0) (sym (survivors_with top items (BackTo sub))))

pub work_before : (top sub : ℕ) (items : List Item)
    → (rest : List change_type.Change) × (work_of top items ≡ work_of top (items ++ BackTo sub ∷ []) ++ rest)
work_before top sub items =
    let cut = survivors_before top sub items in
    (changes_of cut.0, ap changes_of cut.1 ∙ changes_of_both (survivors top (items ++ BackTo sub ∷ [])) cut.0)

-- to the top transaction, none is cut
pub top_cuts_nothing : (top : ℕ) (items : List Item) → survivors top (items ++ BackTo top ∷ []) ≡ survivors top items
top_cuts_nothing top items =
    survivors_with top items (BackTo top)
    ∙ ap (λ b. if b then survivors top items else before_savepoint top (survivors top items)) (eq-eqb top top refl)
