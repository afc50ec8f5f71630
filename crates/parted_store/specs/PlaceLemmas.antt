-- What follows of the marks of a ticket.
--     stacked, stacked_places      the latest first, as a world's parts are told of them
--     latest_place, latest_with      the latest one, behind one more item
--     placed_more, placed_acted      one more item; a change that was tried
--     top_unplaced, placed_cut, count_cut, none_cut      a rollback
--     dropped_are, none_dropped      the marks from the subtransaction's on are those that it drops
use Rattle.std.specs.Prelude.{◌≡◌, ℕ, suc, ◌+◌, ◌-◌, ◌==◌, Bool, true, false, ◌||◌, not, cond, List, [], ◌∷◌, ◌++◌, Some, None, fold, length, take, slice_get, unwrap_or, is_some, Result, Ok, Err, if◌then◌else◌, refl}
use Rattle.std.proofs.Common.{sym, ◌∙◌, ap, subst, inl, inr, arith, true≢false, append-nil, append_assoc}
use Rattle.std.proofs.lemmas.Bool.{cases_Bool}
use Rattle.std.proofs.lemmas.Grind.{fold-append}
use Rattle.std.proofs.lemmas.List.{map-append}
use Rattle.std.proofs.lemmas.List.Folds.{list_any-append}
use Rattle.std.proofs.lemmas.List.Sums.{take_while-cons}
use Rattle.std.specs.List.{AllByRecursion}
use Rattle.model.specs.declared.change.Change as change_type
use Rattle.model.specs.declared.item.Item.{Item}
use Rattle.model.specs.declared.item.Item.TheVariants.{Change, Touch, BackTo, Last}
use Rattle.model.specs.OverlapLemmas.{neither, neither_first, neither_second}
use Rattle.model.specs.Survivors.{is_of, before_savepoint}
use Rattle.model.specs.SurvivorLemmas.{cut_before}
use Rattle.model.specs.TakenLemmas.{number_is}
use Rattle.savepoint.specs.Savepoints.{mark_at, with_mark, before_mark, subs_of, latest_sub}
use Rattle.savepoint.proofs.Cutting.{mark_at-noted_same, mark_at-noted_marked, before_mark-noted_same, before_mark-noted_marked, before_mark-unmarked, unmarked_noted_other, none_from}
use Rattle.world.specs.Steps.{Fault, Acted, IsDone, IsSkipped, Held, Clashed}
use Rattle.world_parts.specs.ByTableLemmas.{turned}
use Rattle.world_parts.specs.Marks.{is_marked, marks_with, marks_in, latest, mark_for, is_kept, kept_by, AreDropped}
use Rattle.world_parts.specs.MarkLemmas.{own_dropped}
use Rattle.parted_store.specs.Acting.{is_done, items_of}
use Rattle.parted_store.specs.Ticket.{Places, with_place, placed_by, placed_from, places_of}

-- ---- the latest first

-- the subtransactions of marks, the latest first
abbrev pub stacked : Places → List ℕ
stacked places = fold (λ (marks : List ℕ) (place : ℕ × ℕ). place.0 ∷ marks) [] places

or_above : (b : Bool) → (b || true) ≡ true
or_above true = refl
or_above false = refl

or_nothing : (b : Bool) → (b || false) ≡ b
or_nothing true = refl
or_nothing false = refl

stacked_both : (places more : Places)
    → stacked (places ++ more) ≡ fold (λ (marks : List ℕ) (place : ℕ × ℕ). place.0 ∷ marks) (stacked places) more
stacked_both places more = fold-append (λ (marks : List ℕ) (place : ℕ × ℕ). place.0 ∷ marks) [] places more

-- a subtransaction is among them where it has a mark
marked_in_stack : (sub : ℕ) (marks : List ℕ) (places : Places)
    → is_marked sub (fold (λ (ms : List ℕ) (place : ℕ × ℕ). place.0 ∷ ms) marks places) ≡ (is_some (mark_at sub places) || is_marked sub marks)
marked_in_stack sub marks [] = refl
marked_in_stack sub marks (place ∷ places) = marked_in_stack sub (place.0 ∷ marks) places ∙ by (place.0 == sub) refl
  where
    by : (b : Bool) → (place.0 == sub) ≡ b
        → (is_some (mark_at sub places) || ((sub == place.0) || is_marked sub marks)) ≡ (is_some (mark_at sub (place ∷ places)) || is_marked sub marks)
    by true e =
        ap (λ b. is_some (mark_at sub places) || (b || is_marked sub marks)) (turned sub place.0 ∙ e)
        ∙ or_above (is_some (mark_at sub places)) ∙ rw e
    by false e = ap (λ b. is_some (mark_at sub places) || (b || is_marked sub marks)) (turned sub place.0 ∙ e) ∙ rw e

pub marked_stacked : (sub : ℕ) (places : Places) → is_marked sub (stacked places) ≡ is_some (mark_at sub places)
marked_stacked sub places = marked_in_stack sub [] places ∙ or_nothing (is_some (mark_at sub places))

-- with one more, as the parts are told of it
stacked_with : (top sub n : ℕ) (places : Places) → stacked (with_place top sub n places) ≡ marks_with top (stacked places) sub
stacked_with top sub n places = by_top (sub == top)
  where
    by_mark : (b : Bool) → is_some (mark_at sub places) ≡ b
        → stacked (if b then places else places ++ (sub, n) ∷ []) ≡ (if b then stacked places else sub ∷ stacked places)
    by_mark true e = refl
    by_mark false e = stacked_both places ((sub, n) ∷ [])

    by_top : (b : Bool)
        → stacked (if b then places else with_mark sub n places)
        ≡ (if b || is_marked sub (stacked places) then stacked places else sub ∷ stacked places)
    by_top true = refl
    by_top false =
        by_mark (is_some (mark_at sub places)) refl
        ∙ ap (λ b. if b then stacked places else sub ∷ stacked places) (sym (marked_stacked sub places))

stacked_from : (top n : ℕ) (places : Places) (items : List Item) → stacked (placed_from top n places items) ≡ marks_in top (stacked places) items
stacked_from top n places [] = refl
stacked_from top n places (Change sub c ∷ items) =
    stacked_from top (suc n) (with_place top sub n places) items ∙ ap (λ ms. marks_in top ms items) (stacked_with top sub n places)
stacked_from top n places (Touch sub ∷ items) =
    stacked_from top (suc n) (with_place top sub n places) items ∙ ap (λ ms. marks_in top ms items) (stacked_with top sub n places)
stacked_from top n places (BackTo sub ∷ items) = stacked_from top (suc n) places items
stacked_from top n places (Last ∷ items) = stacked_from top (suc n) places items

pub stacked_places : (top : ℕ) (items : List Item) → stacked (places_of top items) ≡ marks_in top [] items
stacked_places top items = stacked_from top 0 [] items

-- ---- the latest one

last_is : (top : ℕ) (marks : List ℕ) (place : ℕ × ℕ) (more : Places)
    → slice_get (subs_of (place ∷ more)) (length more)
    ≡ Some (latest top (fold (λ (ms : List ℕ) (p : ℕ × ℕ). p.0 ∷ ms) (place.0 ∷ marks) more))
last_is top marks place [] = refl
last_is top marks place (next ∷ more) = last_is top (place.0 ∷ marks) next more

latest_place : (top : ℕ) (places : Places) → unwrap_or (latest_sub places) top ≡ latest top (stacked places)
latest_place top [] = refl
latest_place top (place ∷ places) =
    ap (λ found. unwrap_or found top)
    (ap (slice_get (subs_of (place ∷ places))) (one_less (length places)) ∙ last_is top [] place places)
  where
    one_less : (n : ℕ) → suc n - 1 ≡ n
    one_less n = omega arith

-- that under which a change of the subtransaction comes, once its mark is set
pub latest_with : (top sub n : ℕ) (items : List Item)
    → unwrap_or (latest_sub (with_place top sub n (places_of top items))) top ≡ mark_for top sub items
latest_with top sub n items =
    latest_place top (with_place top sub n (places_of top items))
    ∙ ap (latest top) (stacked_with top sub n (places_of top items) ∙ ap (λ ms. marks_with top ms sub) (stacked_places top items))

-- ---- one more item

placed_both : (top n : ℕ) (places : Places) (items more : List Item)
    → placed_from top n places (items ++ more) ≡ placed_from top (n + length items) (placed_from top n places items) more
placed_both top n places [] more = ap (λ k. placed_from top k places more) (there n)
  where
    there : (n : ℕ) → n ≡ n + 0
    there n = omega arith
placed_both top n places (first ∷ items) more =
    placed_both top (suc n) (placed_by top first n places) items more
    ∙ ap (λ k. placed_from top k (placed_from top (suc n) (placed_by top first n places) items) more) (further n (length items))
  where
    further : (n m : ℕ) → suc n + m ≡ n + suc m
    further n m = omega arith

pub placed_more : (top : ℕ) (items : List Item) (item : Item)
    → places_of top (items ++ item ∷ []) ≡ placed_by top item (length items) (places_of top items)
placed_more top items item = placed_both top 0 [] items (item ∷ []) ∙ ap (λ k. placed_by top item k (places_of top items)) (from_none (length items))
  where
    from_none : (n : ℕ) → 0 + n ≡ n
    from_none n = omega arith

-- a change was tried, for which the mark was set if there was none, and taken back if it wasn't done
module _ (top sub : ℕ) (items : List Item) (c : change_type.Change) (set : Bool) (was : set ≡ not ((sub == top) || is_some (mark_at sub (places_of top items)))) where
  abbrev with_it : Places
  with_it = with_place top sub (length items) (places_of top items)

  taken_back : (if not set then with_it else before_mark sub with_it) ≡ places_of top items
  taken_back = by_top (sub == top) refl
    where
      by_mark : (b : Bool) → is_some (mark_at sub (places_of top items)) ≡ b
          → (if b then (if b then places_of top items else places_of top items ++ (sub, length items) ∷ []) else before_mark sub (if b then places_of top items else places_of top items ++ (sub, length items) ∷ []))
          ≡ places_of top items
      by_mark true e = refl
      by_mark false e =
          ap (before_mark sub) (sym (ap (λ b. if b then places_of top items else places_of top items ++ (sub, length items) ∷ []) e))
          ∙ before_mark-noted_same sub (length items) (places_of top items) e

      not_not : (b : Bool) → not (not b) ≡ b
      not_not true = refl
      not_not false = refl

      by_top : (b : Bool) → (sub == top) ≡ b → (if not set then with_it else before_mark sub with_it) ≡ places_of top items
      by_top true e =
          ap (λ s. if not s then with_it else before_mark sub with_it) (was ∙ ap (λ b. not (b || is_some (mark_at sub (places_of top items)))) e)
          ∙ ap (λ b. if b then places_of top items else with_mark sub (length items) (places_of top items)) e
      by_top false e =
          ap (λ s. if not s then with_it else before_mark sub with_it) (was ∙ ap (λ b. not (b || is_some (mark_at sub (places_of top items)))) e)
          ∙ ap (λ b. if b then with_it else before_mark sub with_it) (not_not (is_some (mark_at sub (places_of top items))))
          ∙ ap (λ (ps : Places). if is_some (mark_at sub (places_of top items)) then ps else before_mark sub ps)
          (ap (λ b. if b then places_of top items else with_mark sub (length items) (places_of top items)) e)
          ∙ by_mark (is_some (mark_at sub (places_of top items))) refl

  abbrev left_by : Bool → Places
  left_by done = if not set || done then with_it else before_mark sub with_it

  left_done : left_by true ≡ places_of top (items ++ Change sub c ∷ [])
  left_done = ap (λ b. if b then with_it else before_mark sub with_it) (or_above (not set)) ∙ sym (placed_more top items (Change sub c))

  left_undone : left_by false ≡ places_of top (items ++ [])
  left_undone =
      ap (λ b. if b then with_it else before_mark sub with_it) (or_nothing (not set)) ∙ taken_back
      ∙ sym (ap (places_of top) (append-nil items))

  pub placed_acted : (answer : Result Acted Fault) → left_by (is_done answer) ≡ places_of top (items ++ items_of sub c answer)
  placed_acted (Ok IsDone) = left_done
  placed_acted (Ok IsSkipped) = left_done
  placed_acted (Ok (Held holder)) = left_undone
  placed_acted (Ok (Clashed cause)) = left_undone
  placed_acted (Err fault) = left_undone

-- ---- a rollback

-- a mark that is there stays, and so do those before it
module _ (top sub : ℕ) where
  same_with : (named n : ℕ) (places : Places) → is_some (mark_at sub places) ≡ true
      → (mark_at sub (with_place top named n places) ≡ mark_at sub places) × (before_mark sub (with_place top named n places) ≡ before_mark sub places)
  same_with named n places there = by (named == top)
    where
      by : (b : Bool)
          → (mark_at sub (if b then places else with_mark named n places) ≡ mark_at sub places)
          × (before_mark sub (if b then places else with_mark named n places) ≡ before_mark sub places)
      by true = (refl, refl)
      by false = (mark_at-noted_marked sub named n places there, before_mark-noted_marked sub named n places there)

  same_from : (n : ℕ) (places : Places) (items : List Item) → is_some (mark_at sub places) ≡ true
      → (mark_at sub (placed_from top n places items) ≡ mark_at sub places) × (before_mark sub (placed_from top n places items) ≡ before_mark sub places)
  same_from n places [] there = (refl, refl)
  same_from n places (Change named c ∷ items) there =
      let once = same_with named n places there in
      let all = same_from (suc n) (with_place top named n places) items (ap is_some once.0 ∙ there) in
      (all.0 ∙ once.0, all.1 ∙ once.1)
  same_from n places (Touch named ∷ items) there =
      let once = same_with named n places there in
      let all = same_from (suc n) (with_place top named n places) items (ap is_some once.0 ∙ there) in
      (all.0 ∙ once.0, all.1 ∙ once.1)
  same_from n places (BackTo named ∷ items) there = same_from (suc n) places items there
  same_from n places (Last ∷ items) there = same_from (suc n) places items there

  -- it has none from items of others
  none_with : (named n : ℕ) (places : Places) → (named == sub) ≡ false → is_some (mark_at sub places) ≡ false
      → is_some (mark_at sub (with_place top named n places)) ≡ false
  none_with named n places other none = by (named == top)
    where
      by : (b : Bool) → is_some (mark_at sub (if b then places else with_mark named n places)) ≡ false
      by true = none
      by false = unmarked_noted_other sub named n places other none

  none_by : (item : Item) (n : ℕ) (places : Places) → is_of sub item ≡ false → is_some (mark_at sub places) ≡ false
      → is_some (mark_at sub (placed_by top item n places)) ≡ false
  none_by (Change named c) n places other none = none_with named n places other none
  none_by (Touch named) n places other none = none_with named n places other none
  none_by (BackTo named) n places other none = none
  none_by Last n places other none = none

  -- the first item of its own sets it
  own_with : (named n : ℕ) (places : Places) → (sub == top) ≡ false → (named == sub) ≡ true → is_some (mark_at sub places) ≡ false
      → (mark_at sub (with_place top named n places) ≡ Some n) × (before_mark sub (with_place top named n places) ≡ places)
  own_with named n places not_top own none =
      let is : with_place top named n places ≡ with_mark sub n places =
      ap (λ s. with_place top s n places) (number_is named sub own) ∙ ap (λ b. if b then places else with_mark sub n places) not_top in
      (ap (mark_at sub) is ∙ mark_at-noted_same sub n places none, ap (before_mark sub) is ∙ before_mark-noted_same sub n places none)

  own_by : (item : Item) (n : ℕ) (places : Places) → (sub == top) ≡ false → is_of sub item ≡ true → is_some (mark_at sub places) ≡ false
      → (mark_at sub (placed_by top item n places) ≡ Some n) × (before_mark sub (placed_by top item n places) ≡ places)
  own_by (Change named c) n places not_top own none = own_with named n places not_top own none
  own_by (Touch named) n places not_top own none = own_with named n places not_top own none
  own_by (BackTo named) n places not_top own none = absurd (true≢false (sym own))
  own_by Last n places not_top own none = absurd (true≢false (sym own))

  before_step : (item : Item) (items : List Item) (b : Bool) → is_of sub item ≡ b
      → before_savepoint sub (item ∷ items) ≡ cond (not b) (item ∷ before_savepoint sub items) []
  before_step item items b e =
      take_while-cons (λ i. not (is_of sub i)) item items ∙ ap (λ x. cond (not x) (item ∷ before_savepoint sub items) []) e

  -- what a rollback finds, and what it leaves of the marks
  record Cuts (n : ℕ) (places : Places) (items : List Item) : Type 0 where
    left : before_mark sub (placed_from top n places items) ≡ placed_from top n places (before_savepoint sub items)
    some : (k : ℕ) → mark_at sub (placed_from top n places items) ≡ Some k → (k ≡ n + length (before_savepoint sub items)) × (before_savepoint sub items ≡ take (length (before_savepoint sub items)) items)
    none : mark_at sub (placed_from top n places items) ≡ None → before_savepoint sub items ≡ items

  cuts_from : (sub == top) ≡ false → (n : ℕ) (places : Places) (items : List Item) → is_some (mark_at sub places) ≡ false → Cuts n places items
  cuts_from not_top n places [] none = record {
    left = before_mark-unmarked sub places none;
    some = λ k is. absurd (true≢false (sym (ap is_some is) ∙ none));
    none = λ is. refl;
  }
  cuts_from not_top n places (item ∷ items) none =
      elim (cases_Bool (is_of sub item)) [
        | inl own ↦
            let set = own_by item n places not_top own none in
            let stays = same_from (suc n) (placed_by top item n places) items (ap is_some set.0) in
            let cut : before_savepoint sub (item ∷ items) ≡ [] = before_step item items true own in
            record {
              left = stays.1 ∙ set.1 ∙ sym (ap (placed_from top n places) cut);
              some = λ k is.
                  let here : k ≡ n = number_at k n (sym is ∙ stays.0 ∙ set.0) in (
                    here ∙ sym (ap (λ (is : List Item). n + length is) cut ∙ no_more n),
                    cut ∙ sym (ap (λ (is : List Item). take (length is) (item ∷ items)) cut),
                  );
              none = λ is. absurd (true≢false (sym (ap is_some (stays.0 ∙ set.0)) ∙ ap is_some is));
            }
        | inr other ↦
            let rest = cuts_from not_top (suc n) (placed_by top item n places) items (none_by item n places other none) in
            let cut : before_savepoint sub (item ∷ items) ≡ item ∷ before_savepoint sub items = before_step item items false other in
            record {
              left = rest.left ∙ sym (ap (placed_from top n places) cut);
              some = λ k is. (
                (rest.some k is).0 ∙ further n (length (before_savepoint sub items)) ∙ sym (ap (λ (is : List Item). n + length is) cut),
                cut ∙ ap (λ is. item ∷ is) (rest.some k is).1 ∙ sym (ap (λ (is : List Item). take (length is) (item ∷ items)) cut),
              );
              none = λ is. cut ∙ ap (λ is. item ∷ is) (rest.none is);
            }
      ]
    where
      number_at : (k n : ℕ) → Some k ≡ Some n → k ≡ n
      number_at k n e = cc

      no_more : (n : ℕ) → n + 0 ≡ n
      no_more n = omega arith

      further : (n m : ℕ) → suc n + m ≡ n + suc m
      further n m = omega arith

module _ (top sub : ℕ) (items : List Item) (not_top : (sub == top) ≡ false) where
  cuts : Cuts top sub 0 [] items
  cuts = cuts_from top sub not_top 0 [] items refl

  pub placed_cut : before_mark sub (places_of top items) ≡ places_of top (before_savepoint sub items)
  placed_cut = cuts.left

  pub count_cut : (n : ℕ) → mark_at sub (places_of top items) ≡ Some n → take n items ≡ before_savepoint sub items
  count_cut n is =
      let found = cuts.some n is in
      ap (λ k. take k items) (found.0 ∙ from_none (length (before_savepoint sub items))) ∙ sym found.1
    where
      from_none : (n : ℕ) → 0 + n ≡ n
      from_none n = omega arith

  pub none_cut : mark_at sub (places_of top items) ≡ None → before_savepoint sub items ≡ items
  none_cut = cuts.none

-- the top transaction has no mark
unplaced_with : (top named n : ℕ) (places : Places) → is_some (mark_at top places) ≡ false → is_some (mark_at top (with_place top named n places)) ≡ false
unplaced_with top named n places none = by (named == top) refl
  where
    by : (b : Bool) → (named == top) ≡ b → is_some (mark_at top (if b then places else with_mark named n places)) ≡ false
    by true e = none
    by false e = unmarked_noted_other top named n places e none

unplaced_from : (top n : ℕ) (places : Places) (items : List Item) → is_some (mark_at top places) ≡ false
    → is_some (mark_at top (placed_from top n places items)) ≡ false
unplaced_from top n places [] none = none
unplaced_from top n places (Change named c ∷ items) none = unplaced_from top (suc n) (with_place top named n places) items (unplaced_with top named n places none)
unplaced_from top n places (Touch named ∷ items) none = unplaced_from top (suc n) (with_place top named n places) items (unplaced_with top named n places none)
unplaced_from top n places (BackTo named ∷ items) none = unplaced_from top (suc n) places items none
unplaced_from top n places (Last ∷ items) none = unplaced_from top (suc n) places items none

pub top_unplaced : (top : ℕ) (items : List Item) → mark_at top (places_of top items) ≡ None
top_unplaced top items = none_from (mark_at top (places_of top items)) (unplaced_from top 0 [] items refl)

-- ---- the marks that a rollback drops

marked_subs : (sub : ℕ) (places : Places) → is_some (mark_at sub places) ≡ is_marked sub (subs_of places)
marked_subs sub [] = refl
marked_subs sub (place ∷ places) =
    elim (cases_Bool (place.0 == sub)) [
      | inl here ↦
          let there : is_some (mark_at sub (place ∷ places)) ≡ true = rw here in
          there ∙ sym (ap (λ b. b || is_marked sub (subs_of places)) (turned sub place.0 ∙ here))
      | inr apart ↦
          let later : is_some (mark_at sub (place ∷ places)) ≡ is_some (mark_at sub places) = rw apart in
          later ∙ marked_subs sub places ∙ sym (ap (λ b. b || is_marked sub (subs_of places)) (turned sub place.0 ∙ apart))
    ]

marked_both : (sub : ℕ) (places more : Places)
    → is_marked sub (subs_of (places ++ more)) ≡ (is_marked sub (subs_of places) || is_marked sub (subs_of more))
marked_both sub places more =
    ap (is_marked sub) (map-append (λ (place : ℕ × ℕ). place.0) places more)
    ∙ list_any-append (λ mark. sub == mark) (subs_of places) (subs_of more)

-- some of these marks, and others behind them, of which each is new
record IsBeyond (top : ℕ) (places all : Places) : Type 0 where
  more : Places
  are : all ≡ places ++ more
  fresh : AllByRecursion (λ (place : ℕ × ℕ). is_kept top (stacked places) place.0 ≡ false) more

each_of_both : (P : ℕ × ℕ → Type 0) (places : Places) (place : ℕ × ℕ) → AllByRecursion P places → P place → AllByRecursion P (places ++ place ∷ [])
each_of_both P [] place each last = (last, tt)
each_of_both P (first ∷ places) place each last = (each.0, each_of_both P places place each.1 last)

module _ (top : ℕ) (places : Places) where
  new_one : (sub : ℕ) (more : Places) → (sub == top) ≡ false → is_some (mark_at sub (places ++ more)) ≡ false → is_kept top (stacked places) sub ≡ false
  new_one sub more not_top none =
      neither (sub == top) (is_marked sub (stacked places)) not_top
      (marked_stacked sub places ∙ marked_subs sub places
      ∙ neither_first (is_marked sub (subs_of places)) (is_marked sub (subs_of more))
      (sym (marked_both sub places more) ∙ sym (marked_subs sub (places ++ more)) ∙ none))

  beyond_with : (sub n : ℕ) (all : Places) → IsBeyond top places all → IsBeyond top places (with_place top sub n all)
  beyond_with sub n all beyond = by_top (sub == top) refl
    where
      by_mark : (b : Bool) → (sub == top) ≡ false → is_some (mark_at sub all) ≡ b → IsBeyond top places (if b then all else all ++ (sub, n) ∷ [])
      by_mark true not_top e = beyond
      by_mark false not_top e = record {
        more = beyond.more ++ (sub, n) ∷ [];
        are = ap (λ (ps : Places). ps ++ (sub, n) ∷ []) beyond.are ∙ append_assoc places beyond.more ((sub, n) ∷ []);
        fresh =
            each_of_both (λ (place : ℕ × ℕ). is_kept top (stacked places) place.0 ≡ false) beyond.more (sub, n) beyond.fresh
            (new_one sub beyond.more not_top (ap (λ (ps : Places). is_some (mark_at sub ps)) (sym beyond.are) ∙ e));
      }

      by_top : (b : Bool) → (sub == top) ≡ b → IsBeyond top places (if b then all else with_mark sub n all)
      by_top true e = beyond
      by_top false e = by_mark (is_some (mark_at sub all)) e refl

  beyond_from : (n : ℕ) (all : Places) (items : List Item) → IsBeyond top places all → IsBeyond top places (placed_from top n all items)
  beyond_from n all [] beyond = beyond
  beyond_from n all (Change sub c ∷ items) beyond = beyond_from (suc n) (with_place top sub n all) items (beyond_with sub n all beyond)
  beyond_from n all (Touch sub ∷ items) beyond = beyond_from (suc n) (with_place top sub n all) items (beyond_with sub n all beyond)
  beyond_from n all (BackTo sub ∷ items) beyond = beyond_from (suc n) all items beyond
  beyond_from n all (Last ∷ items) beyond = beyond_from (suc n) all items beyond

same_rest : (places more others : Places) → places ++ more ≡ places ++ others → more ≡ others
same_rest [] more others same = same
same_rest (place ∷ places) more others same = same_rest places more others (behind same)
  where
    behind : place ∷ (places ++ more) ≡ place ∷ (places ++ others) → places ++ more ≡ places ++ others
    behind e = cc

-- one of them is as each of them
one_of_them : (P : ℕ → Type 0) (mark : ℕ) (places : Places) → AllByRecursion (λ (place : ℕ × ℕ). P place.0) places
    → is_marked mark (subs_of places) ≡ true → P mark
one_of_them P mark [] each is = absurd (true≢false (sym is))
one_of_them P mark (place ∷ places) each is =
    elim (cases_Bool (mark == place.0)) [
      | inl here ↦ subst P (sym (number_is mark place.0 here)) each.0
      | inr apart ↦ one_of_them P mark places each.1 (sym (ap (λ b. b || is_marked mark (subs_of places)) apart) ∙ is)
    ]

module _ (top sub : ℕ) (items : List Item) (not_top : (sub == top) ≡ false) (dropped : Places)
    (all_are : before_mark sub (places_of top items) ++ dropped ≡ places_of top items) where
  abbrev before : List Item
  before = before_savepoint sub items

  kept_are : kept_by top sub items ≡ stacked (places_of top before)
  kept_are = sym (stacked_places top before)

  split_are : places_of top before ++ dropped ≡ places_of top items
  split_are = ap (λ (ps : Places). ps ++ dropped) (sym (placed_cut top sub items not_top)) ∙ all_are

  beyond : IsBeyond top (places_of top before) (places_of top items)
  beyond =
      let cut = cut_before sub items in
      subst (IsBeyond top (places_of top before)) (sym (ap (places_of top) cut.1.both ∙ placed_both top 0 [] before cut.0))
      (beyond_from top (places_of top before) (0 + length before) (places_of top before) cut.0
      (record { more = []; are = sym (append-nil (places_of top before)); fresh = tt }))

  each_fresh : AllByRecursion (λ (place : ℕ × ℕ). is_kept top (stacked (places_of top before)) place.0 ≡ false) dropped
  each_fresh =
      subst (AllByRecursion (λ (place : ℕ × ℕ). is_kept top (stacked (places_of top before)) place.0 ≡ false))
      (sym (same_rest (places_of top before) dropped beyond.more (split_are ∙ beyond.are))) beyond.fresh

  dropped_alone : (mark : ℕ) → is_marked mark (sub ∷ subs_of dropped) ≡ true → is_kept top (kept_by top sub items) mark ≡ false
  dropped_alone mark is =
      elim (cases_Bool (mark == sub)) [
        | inl own ↦ ap (is_kept top (kept_by top sub items)) (number_is mark sub own) ∙ own_dropped top sub items not_top
        | inr other ↦
            ap (λ (kept : List ℕ). is_kept top kept mark) kept_are
            ∙ one_of_them (λ m. is_kept top (stacked (places_of top before)) m ≡ false) mark dropped each_fresh
            (sym (ap (λ b. b || is_marked mark (subs_of dropped)) other) ∙ is)
      ]

  dropped_all : (mark : ℕ) → is_marked mark (marks_in top [] items) ≡ true → is_kept top (kept_by top sub items) mark ≡ false
      → is_marked mark (sub ∷ subs_of dropped) ≡ true
  dropped_all mark stands not_kept =
      let in_neither : is_marked mark (subs_of (places_of top before)) ≡ false =
      sym (marked_subs mark (places_of top before)) ∙ sym (marked_stacked mark (places_of top before))
      ∙ ap (is_marked mark) (sym kept_are) ∙ neither_second (mark == top) (is_marked mark (kept_by top sub items)) not_kept in
      let in_all : (is_marked mark (subs_of (places_of top before)) || is_marked mark (subs_of dropped)) ≡ true =
      sym (marked_both mark (places_of top before) dropped) ∙ ap (λ (ps : Places). is_marked mark (subs_of ps)) split_are
      ∙ sym (marked_subs mark (places_of top items)) ∙ sym (marked_stacked mark (places_of top items))
      ∙ ap (is_marked mark) (stacked_places top items) ∙ stands in
      or_second (mark == sub) (is_marked mark (subs_of dropped))
      (sym (ap (λ b. b || is_marked mark (subs_of dropped)) in_neither) ∙ in_all)
    where
      or_second : (a b : Bool) → b ≡ true → (a || b) ≡ true
      or_second true b e = refl
      or_second false b e = e

  -- they are the ones that the rollback drops
  pub dropped_are : AreDropped top sub items (sub ∷ subs_of dropped)
  dropped_are = record { all = dropped_all; alone = dropped_alone }

-- a rollback to the top transaction drops none
pub none_dropped : (top : ℕ) (items : List Item) (dropped : Places)
    → before_mark top (places_of top items) ++ dropped ≡ places_of top items → dropped ≡ []
none_dropped top items dropped all_are =
    let same : before_mark top (places_of top items) ≡ places_of top items =
    before_mark-unmarked top (places_of top items) (ap is_some (top_unplaced top items)) in
    same_rest (places_of top items) dropped []
    (ap (λ (ps : Places). ps ++ dropped) (sym same) ∙ all_are ∙ sym (append-nil (places_of top items)))
