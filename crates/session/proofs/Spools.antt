-- What a spool keeps as items come, are rolled back and are dropped again.
use Rattle.std.proofs.Common.{◌≡◌, ℕ, zero, suc, ◌+◌, ◌<◌, ◌≤◌, ◌==◌, true, false, List, [], ◌∷◌, ◌++◌, length, take, drop, Option, Some, None, refl, sym, ap, ◌∙◌, arith, ⊎_elim, min, length-append, if◌then◌else◌}
use Rattle.std.proofs.lemmas.List.{length-take}
use Rattle.std.proofs.lemmas.List.Sums.{sum_by_push, sum_by-take-drop}
use Rattle.std.proofs.Math.Seq.{take-append_seam}
use Rattle.std.specs.Prelude.{map, is_some, is_ok, sum, Result, Ok, ◌-◌}
use Rattle.std.specs.List.{zip}
use Rattle.std.proofs.lemmas.Bool.{cases_Bool, eq-eqb, ne_eqb}
use Rattle.model.specs.declared.item.Item.{Item}
use Rattle.model.specs.declared.item.Item.TheVariants.{Change, Touch, BackTo, Last}
use Rattle.model.specs.Survivors.{is_of}
use Rattle.savepoint.specs.Savepoints.{mark_at, before_mark, with_mark, with_mark_of, with_marks_of, savepoints, before_first}
use Rattle.savepoint.proofs.Cutting.{IsNumbered, count_before_first, first_mark, first_mark-index, mark_at-savepoints, before_mark-savepoints, before_first-unmarked, mark_at-noted_same, before_mark-noted_same}
use Rattle.session.specs.Sized.{bytes_of, item_of, size_of, numbered, is_at_index, without_mark, unnoted_by, IsSpool}

-- ---- lists side by side

pub map_items-zip : (items : List Item) (sizes : List ℕ) → length sizes ≡ length items → map item_of (zip items sizes) ≡ items
map_items-zip [] sizes e = refl
map_items-zip (i ∷ items) [] e = absurd (omega arith)
map_items-zip (i ∷ items) (n ∷ sizes) e = ap (λ is. i ∷ is) (map_items-zip items sizes (omega arith))

pub map_sizes-zip : (items : List Item) (sizes : List ℕ) → length sizes ≡ length items → map size_of (zip items sizes) ≡ sizes
map_sizes-zip [] [] e = refl
map_sizes-zip [] (n ∷ sizes) e = absurd (omega arith)
map_sizes-zip (i ∷ items) [] e = absurd (omega arith)
map_sizes-zip (i ∷ items) (n ∷ sizes) e = ap (λ ns. n ∷ ns) (map_sizes-zip items sizes (omega arith))

zip-take : (n : ℕ) (items : List Item) (sizes : List ℕ) → zip (take n items) (take n sizes) ≡ take n (zip items sizes)
zip-take zero items sizes = refl
zip-take (suc n) [] sizes = refl
zip-take (suc n) (i ∷ items) [] = refl
zip-take (suc n) (i ∷ items) (s ∷ sizes) = ap (λ is. (i, s) ∷ is) (zip-take n items sizes)

pub zip-push : (items : List Item) (sizes : List ℕ) (item : Item) (size : ℕ) → length sizes ≡ length items → zip (items ++ item ∷ []) (sizes ++ size ∷ []) ≡ zip items sizes ++ (item, size) ∷ []
zip-push [] [] item size e = refl
zip-push [] (n ∷ sizes) item size e = absurd (omega arith)
zip-push (i ∷ items) [] item size e = absurd (omega arith)
zip-push (i ∷ items) (n ∷ sizes) item size e = ap (λ is. (i, n) ∷ is) (zip-push items sizes item size (omega arith))

map_items-numbered : (n : ℕ) (items : List Item) → map item_of (numbered n items) ≡ items
map_items-numbered n [] = refl
map_items-numbered n (i ∷ items) = ap (λ is. i ∷ is) (map_items-numbered (suc n) items)

numbered-take : (k n : ℕ) (items : List Item) → numbered n (take k items) ≡ take k (numbered n items)
numbered-take zero n items = refl
numbered-take (suc k) n [] = refl
numbered-take (suc k) n (i ∷ items) = ap (λ is. (i, n) ∷ is) (numbered-take k (suc n) items)

numbered-push : (n : ℕ) (items : List Item) (item : Item) → numbered n (items ++ item ∷ []) ≡ numbered n items ++ (item, n + length items) ∷ []
numbered-push n [] item = let e : n ≡ n + 0 = omega arith in ap (λ k. (item, k) ∷ []) e
numbered-push n (i ∷ items) item =
    let e : suc n + length items ≡ n + suc (length items) = omega arith in
    ap (λ is. (i, n) ∷ is) (numbered-push (suc n) items item ∙ ap (λ k. numbered (suc n) items ++ (item, k) ∷ []) e)

IsNumbered-numbered : (n : ℕ) (items : List Item) → IsNumbered (λ k. k) n (numbered n items)
IsNumbered-numbered n [] = tt
IsNumbered-numbered n (i ∷ items) = (refl, IsNumbered-numbered (suc n) items)

with_marks_of-push : (marks : List (ℕ × ℕ)) (items : List (Item × ℕ)) (i : Item × ℕ) → with_marks_of marks (items ++ i ∷ []) ≡ with_mark_of i.0 i.1 (with_marks_of marks items)
with_marks_of-push marks [] i = refl
with_marks_of-push marks (j ∷ items) i = with_marks_of-push (with_mark_of j.0 j.1 marks) items i

-- the items alone say where a savepoint stands
count-same : (sub : ℕ) (xs ys : List (Item × ℕ)) → map item_of xs ≡ map item_of ys → count_before_first sub xs ≡ count_before_first sub ys
count-same sub [] [] e = refl
count-same sub [] (y ∷ ys) e = cc
count-same sub (x ∷ xs) [] e = cc
count-same sub (x ∷ xs) (y ∷ ys) e =
    let first : x.0 ≡ y.0 = cc in
    let others : map item_of xs ≡ map item_of ys = cc in
    let rest = count-same sub xs ys others in
    rw (first, rest)

count-le : (sub : ℕ) (xs : List (Item × ℕ)) → count_before_first sub xs ≤ length xs
count-le sub [] = omega arith
count-le sub (x ∷ xs) =
    let rest = count-le sub xs in
    ⊎_elim (λ named. rw named (omega arith)) (λ other. rw other (omega arith)) (cases_Bool (is_of sub x.0))

count-lt : (sub mark : ℕ) (xs : List (Item × ℕ)) → first_mark sub xs ≡ Some mark → count_before_first sub xs < length xs
count-lt sub mark [] e = cc
count-lt sub mark (x ∷ xs) e =
    ⊎_elim
    (λ named. rw named (omega arith))
    (λ other. let later : first_mark sub xs ≡ Some mark = rw other at e in let rest = count-lt sub mark xs later in rw other (omega arith))
    (cases_Bool (is_of sub x.0))

-- ---- a cut

-- where the mark of a subtransaction stands
index_is : (items : List Item) (sub index : ℕ) → mark_at sub (savepoints (numbered 0 items)) ≡ Some index → index ≡ count_before_first sub (numbered 0 items)
index_is items sub index e =
    let at = first_mark-index (λ k. k) 0 sub (numbered 0 items) index (IsNumbered-numbered 0 items) (sym (mark_at-savepoints sub (numbered 0 items)) ∙ e) in
    omega (arith, at)

length-numbered : (n : ℕ) (items : List Item) → length (numbered n items) ≡ length items
length-numbered n [] = refl
length-numbered n (i ∷ items) = ap suc (length-numbered (suc n) items)

pub index_within : (items : List Item) (sizes : List ℕ) (marks : List (ℕ × ℕ)) (sub index : ℕ) → IsSpool items sizes marks → mark_at sub marks ≡ Some index → index ≤ length items
index_within items sizes marks sub index h e =
    let at = index_is items sub index (ap (mark_at sub) (sym h.marked) ∙ e) in
    omega (arith, at, count-le sub (numbered 0 items), length-numbered 0 items)

pub IsSpool-cut : (items : List Item) (sizes : List ℕ) (marks : List (ℕ × ℕ)) (sub index : ℕ) → IsSpool items sizes marks → mark_at sub marks ≡ Some index → IsSpool (take index items) (take index sizes) (before_mark sub marks)
IsSpool-cut items sizes marks sub index h e =
    let at = index_is items sub index (ap (mark_at sub) (sym h.marked) ∙ e) in
    record {
      paired = length-take index sizes ∙ ap (λ n. min index n) h.paired ∙ sym (length-take index items);
      marked = ap (before_mark sub) h.marked ∙ before_mark-savepoints sub (numbered 0 items) ∙ ap (λ n. savepoints (take n (numbered 0 items))) (sym at) ∙ ap savepoints (sym (numbered-take index 0 items));
    }

pub zip-cut : (items : List Item) (sizes : List ℕ) (marks : List (ℕ × ℕ)) (sub index : ℕ) → IsSpool items sizes marks → mark_at sub marks ≡ Some index → zip (take index items) (take index sizes) ≡ before_first sub (zip items sizes)
zip-cut items sizes marks sub index h e =
    let at = index_is items sub index (ap (mark_at sub) (sym h.marked) ∙ e) in
    let same = count-same sub (numbered 0 items) (zip items sizes) (map_items-numbered 0 items ∙ sym (map_items-zip items sizes h.paired)) in
    zip-take index items sizes ∙ ap (λ n. take n (zip items sizes)) (at ∙ same)

-- without a mark nothing is cut
pub IsSpool-uncut : (items : List Item) (sizes : List ℕ) (marks : List (ℕ × ℕ)) (sub : ℕ) → IsSpool items sizes marks → mark_at sub marks ≡ None → IsSpool items sizes (before_mark sub marks)
IsSpool-uncut items sizes marks sub h e =
    let none = ap (mark_at sub) (sym h.marked) ∙ e in
    record {
      paired = h.paired;
      marked = ap (before_mark sub) h.marked ∙ before_mark-savepoints sub (numbered 0 items) ∙ ap savepoints (before_first-unmarked sub (numbered 0 items) none);
    }

first_mark-same : (sub : ℕ) (xs ys : List (Item × ℕ)) → map item_of xs ≡ map item_of ys → first_mark sub xs ≡ None → first_mark sub ys ≡ None
first_mark-same sub [] [] e none = refl
first_mark-same sub [] (y ∷ ys) e none = cc
first_mark-same sub (x ∷ xs) [] e none = cc
first_mark-same sub (x ∷ xs) (y ∷ ys) e none =
    let first : x.0 ≡ y.0 = cc in
    let others : map item_of xs ≡ map item_of ys = cc in
    ⊎_elim
    (λ named. let some : Some x.1 ≡ None = rw named at none in cc)
    (λ other.
    let later : first_mark sub xs ≡ None = rw other at none in
    let same : is_of sub y.0 ≡ false = ap (is_of sub) (sym first) ∙ other in
    rw same (first_mark-same sub xs ys others later))
    (cases_Bool (is_of sub x.0))

pub zip-uncut : (items : List Item) (sizes : List ℕ) (marks : List (ℕ × ℕ)) (sub : ℕ) → IsSpool items sizes marks → mark_at sub marks ≡ None → before_first sub (zip items sizes) ≡ zip items sizes
zip-uncut items sizes marks sub h e =
    let none = sym (mark_at-savepoints sub (numbered 0 items)) ∙ ap (mark_at sub) (sym h.marked) ∙ e in
    before_first-unmarked sub (zip items sizes) (mark_at-savepoints sub (zip items sizes) ∙ first_mark-same sub (numbered 0 items) (zip items sizes) (map_items-numbered 0 items ∙ sym (map_items-zip items sizes h.paired)) none)

-- ---- one item more

pub IsSpool-push : (items : List Item) (sizes : List ℕ) (marks : List (ℕ × ℕ)) (item : Item) (size : ℕ) → IsSpool items sizes marks → IsSpool (items ++ item ∷ []) (sizes ++ size ∷ []) (with_mark_of item (length items) marks)
IsSpool-push items sizes marks item size h = record {
  paired = omega (arith, length-append sizes (size ∷ []), length-append items (item ∷ []), h.paired);
  marked = ap (with_mark_of item (length items)) h.marked ∙ sym (with_marks_of-push [] (numbered 0 items) (item, length items)) ∙ sym (ap savepoints (numbered-push 0 items item ∙ ap (λ n. numbered 0 items ++ (item, n) ∷ []) (let e : 0 + length items ≡ length items = omega arith in e)));
}

-- ---- the last item dropped again

some_or_none : {A : Type 0} (o : Option A) → is_some o ≡ true → (x : A) × (o ≡ Some x)
some_or_none None e = cc
some_or_none (Some x) e = (x, refl)

without_mark-with_mark : (items : List Item) (sub : ℕ) → without_mark sub (length items) (with_mark sub (length items) (savepoints (numbered 0 items))) ≡ savepoints (numbered 0 items)
without_mark-with_mark items sub = ⊎_elim
    (λ marked.
    let mark = some_or_none _ marked in
    let at = index_is items sub mark.0 mark.1 in
    let first = sym (mark_at-savepoints sub (numbered 0 items)) ∙ mark.1 in
    let lt = count-lt sub mark.0 (numbered 0 items) first in
    let apart : (mark.0 == length items) ≡ false = ne_eqb mark.0 (length items) (λ same. omega (arith, at, lt, length-numbered 0 items)) in
    rw (marked, mark.1, apart))
    (λ unmarked.
    let here = mark_at-noted_same sub (length items) (savepoints (numbered 0 items)) unmarked in
    let cut = before_mark-noted_same sub (length items) (savepoints (numbered 0 items)) unmarked in
    ap (λ o. if is_at_index (length items) o then before_mark sub (with_mark sub (length items) (savepoints (numbered 0 items))) else with_mark sub (length items) (savepoints (numbered 0 items))) here ∙ rw (eq-eqb (length items) (length items) refl) cut)
    (cases_Bool (is_some (mark_at sub (savepoints (numbered 0 items)))))

unnoted-with_mark : (items : List Item) (item : Item) → unnoted_by item (length items) (with_mark_of item (length items) (savepoints (numbered 0 items))) ≡ savepoints (numbered 0 items)
unnoted-with_mark items (Change sub c) = without_mark-with_mark items sub
unnoted-with_mark items (Touch sub) = without_mark-with_mark items sub
unnoted-with_mark items (BackTo sub) = refl
unnoted-with_mark items Last = refl

pub IsSpool-pop : (items : List Item) (sizes : List ℕ) (marks : List (ℕ × ℕ)) (item : Item) (size : ℕ) → IsSpool (items ++ item ∷ []) (sizes ++ size ∷ []) marks → IsSpool items sizes (unnoted_by item (length items) marks)
IsSpool-pop items sizes marks item size h = record {
  paired = omega (arith, length-append sizes (size ∷ []), length-append items (item ∷ []), h.paired);
  marked =
      let last : 0 + length items ≡ length items = omega arith in
      ap (unnoted_by item (length items)) (h.marked ∙ ap savepoints (numbered-push 0 items item ∙ ap (λ n. numbered 0 items ++ (item, n) ∷ []) last) ∙ with_marks_of-push [] (numbered 0 items) (item, length items)) ∙ unnoted-with_mark items item;
}

-- ---- sizes

pub bytes_of-zip : (items : List Item) (sizes : List ℕ) → length sizes ≡ length items → bytes_of (zip items sizes) ≡ sum sizes
bytes_of-zip items sizes e = ap sum (map_sizes-zip items sizes e)

pub sum-push : (sizes : List ℕ) (size : ℕ) → sum (sizes ++ size ∷ []) ≡ size + sum sizes
sum-push sizes size = omega (arith, sum_by_push (λ (n : ℕ). n) sizes size)

pub sum-split : (index : ℕ) (sizes : List ℕ) → sum (drop index sizes) + sum (take index sizes) ≡ sum sizes
sum-split index sizes = omega (arith, sum_by-take-drop (λ (n : ℕ). n) sizes index)

-- ---- what a push left

pub pushed : {T E A : Type 0} (r : Result T E) (u : T) (new more old : A) → new ≡ (if is_ok r then more else old) → r ≡ Ok u → new ≡ more
pushed {T} {E} r u new more old e ok = e ∙ ap (λ (s : Result T E). if is_ok s then more else old) ok

pub take-front : {A : Type 0} (xs : List A) (x : A) → take (length (xs ++ x ∷ []) - 1) (xs ++ x ∷ []) ≡ xs
take-front xs x =
    let n : length (xs ++ x ∷ []) - 1 ≡ length xs = omega (arith, length-append xs (x ∷ [])) in
    ap (λ k. take k (xs ++ x ∷ [])) n ∙ take-append_seam xs (x ∷ [])
