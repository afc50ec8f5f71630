-- The rows and the numbers in slots, by what a look-up finds, and after a change of one slot.
use Rattle.std.specs.Prelude.{◌≡◌, ℕ, Bool, true, false, cond, List, [], ◌∷◌, Option, Some, None, refl, IsSome, is_some, if◌then◌else◌}
use Rattle.std.proofs.Common.{sym, ◌∙◌, ap, inl, inr}
use Rattle.std.specs.Ordering.{eq_by_cmp}
use Rattle.std.specs.FinMap.{FinMap, get, insert, remove, get-insert, get-remove, get-empty}
use Rattle.model.specs.declared.key.Key.{Key}
use Rattle.model.specs.declared.row.Row.{Row}
use Rattle.model.specs.Key.{key_cmp, key_cmp_total}
use Rattle.rows.specs.declared.ordered.Slot.{Slot}
use Rattle.rows.specs.Kept.{Kept, IsSlotted}
use Rattle.rows.specs.Slots.{with_row, with_row_at, rows_in, numbers_in, row_at, number_at, found, SameBeside, kept_if_filled, without_empty, number_if_empty, number_of_empty}
use Rattle.rows.specs.KeyLemmas.{one_or_apart, get_inserted, get_beside_insert, get_removed, get_beside_remove, same_at_and_beside}

get-with_row : (rows : FinMap key_cmp Row) (key : Key) (row : Option Row) (q : Key) → get (with_row rows key row) q ≡ cond (eq_by_cmp key_cmp q key) row (get rows q)
get-with_row rows key None q = get-remove key_cmp_total rows key q
get-with_row rows key (Some row) q = get-insert key_cmp_total rows key row q

row_of_cond : (b : Bool) (s : Slot) (o : Option Slot) → cond b s.row (row_at o) ≡ row_at (cond b (Some s) o)
row_of_cond true s o = refl
row_of_cond false s o = refl

number_of_cond : (b : Bool) (s : Slot) (o : Option Slot) → cond b (Some s.number) (number_at o) ≡ number_at (cond b (Some s) o)
number_of_cond true s o = refl
number_of_cond false s o = refl

pub get-rows_in : (es : List (Key × Slot)) (q : Key) → get (rows_in es) q ≡ row_at (found es q)
get-rows_in [] q = get-empty key_cmp q
get-rows_in (e ∷ es) q =
    get-with_row (rows_in es) e.0 e.1.row q ∙ ap (cond (eq_by_cmp key_cmp q e.0) e.1.row) (get-rows_in es q) ∙ row_of_cond (eq_by_cmp key_cmp q e.0) e.1 (found es q)

pub get-numbers_in : (es : List (Key × Slot)) (q : Key) → get (numbers_in es) q ≡ number_at (found es q)
get-numbers_in [] q = get-empty key_cmp q
get-numbers_in (e ∷ es) q =
    get-insert key_cmp_total (numbers_in es) e.0 e.1.number q ∙ ap (cond (eq_by_cmp key_cmp q e.0) (Some e.1.number)) (get-numbers_in es q) ∙ number_of_cond (eq_by_cmp key_cmp q e.0) e.1 (found es q)

module _ (es fs : List (Key × Slot)) (key : Key) (beside : SameBeside es fs key) where
  -- a row came into its slot
  pub rows_in-filled : (row : Row) → row_at (found fs key) ≡ Some row → rows_in fs ≡ insert (rows_in es) key row
  rows_in-filled row here =
      same_at_and_beside _ _ key (get-rows_in fs key ∙ here ∙ sym (get_inserted (rows_in es) key row))
      (λ q apart. get-rows_in fs q ∙ ap row_at (beside q apart.there) ∙ sym (get-rows_in es q) ∙ sym (get_beside_insert (rows_in es) key row q apart))

  -- no row is in the slot
  pub rows_in-emptied : row_at (found fs key) ≡ None → rows_in fs ≡ remove (rows_in es) key
  rows_in-emptied here =
      same_at_and_beside _ _ key (get-rows_in fs key ∙ here ∙ sym (get_removed (rows_in es) key))
      (λ q apart. get-rows_in fs q ∙ ap row_at (beside q apart.there) ∙ sym (get-rows_in es q) ∙ sym (get_beside_remove (rows_in es) key q apart))

  pub rows_in-same : row_at (found fs key) ≡ row_at (found es key) → rows_in fs ≡ rows_in es
  rows_in-same here =
      same_at_and_beside _ _ key (get-rows_in fs key ∙ here ∙ sym (get-rows_in es key))
      (λ q apart. get-rows_in fs q ∙ ap row_at (beside q apart.there) ∙ sym (get-rows_in es q))

  pub numbers_in-same : number_at (found fs key) ≡ number_at (found es key) → numbers_in fs ≡ numbers_in es
  numbers_in-same here =
      same_at_and_beside _ _ key (get-numbers_in fs key ∙ here ∙ sym (get-numbers_in es key))
      (λ q apart. get-numbers_in fs q ∙ ap number_at (beside q apart.there) ∙ sym (get-numbers_in es q))

  pub numbers_in-added : (number : ℕ) → number_at (found fs key) ≡ Some number → numbers_in fs ≡ insert (numbers_in es) key number
  numbers_in-added number here =
      same_at_and_beside _ _ key (get-numbers_in fs key ∙ here ∙ sym (get_inserted (numbers_in es) key number))
      (λ q apart. get-numbers_in fs q ∙ ap number_at (beside q apart.there) ∙ sym (get-numbers_in es q) ∙ sym (get_beside_insert (numbers_in es) key number q apart))

  pub numbers_in-gone : found fs key ≡ None → numbers_in fs ≡ remove (numbers_in es) key
  numbers_in-gone here =
      same_at_and_beside _ _ key (get-numbers_in fs key ∙ ap number_at here ∙ sym (get_removed (numbers_in es) key))
      (λ q apart. get-numbers_in fs q ∙ ap number_at (beside q apart.there) ∙ sym (get-numbers_in es q) ∙ sym (get_beside_remove (numbers_in es) key q apart))

row_filled : (row : Row) (o : Option Slot) (number : Option ℕ) → number ≡ number_at o → IsSome number → row_at (with_row_at (Some row) o) ≡ Some row
row_filled row None number is some = absurd (let e = rw is at some in cc)
row_filled row (Some s) number is some = refl

row_emptied : (o : Option Slot) → row_at (with_row_at None o) ≡ None
row_emptied None = refl
row_emptied (Some s) = refl

number_stays : (row : Option Row) (o : Option Slot) → number_at (with_row_at row o) ≡ number_at o
number_stays row None = refl
number_stays row (Some s) = refl

-- after a row, or none, was set in the slot
module _ (es fs : List (Key × Slot)) (key : Key) (beside : SameBeside es fs key) (row : Option Row) (here : found fs key ≡ with_row_at row (found es key)) where
  pub numbers_in-set : numbers_in fs ≡ numbers_in es
  numbers_in-set = numbers_in-same es fs key beside (ap number_at here ∙ number_stays row (found es key))

  pub rows_in-set : (new : Row) → row ≡ Some new → IsSome (get (numbers_in es) key) → rows_in fs ≡ insert (rows_in es) key new
  rows_in-set new is some =
      rows_in-filled es fs key beside new (ap row_at here ∙ ap (λ r. row_at (with_row_at r (found es key))) is ∙ row_filled new (found es key) (get (numbers_in es) key) (get-numbers_in es key) some)

  pub rows_in-taken : row ≡ None → rows_in fs ≡ remove (rows_in es) key
  rows_in-taken is =
      rows_in-emptied es fs key beside (ap row_at here ∙ ap (λ r. row_at (with_row_at r (found es key))) is ∙ row_emptied (found es key))

row_left : (s : Slot) (row : Option Row) → s.row ≡ row → row_at (kept_if_filled s row) ≡ row
row_left s None is = refl
row_left s (Some row) is = is

row_stays : (o : Option Slot) → row_at (without_empty o) ≡ row_at o
row_stays None = refl
row_stays (Some s) = row_left s s.row refl

-- after the slot was dropped if it was empty
module _ (es fs : List (Key × Slot)) (key : Key) (beside : SameBeside es fs key) (here : found fs key ≡ without_empty (found es key)) where
  pub rows_in-settled : rows_in fs ≡ rows_in es
  rows_in-settled = rows_in-same es fs key beside (ap row_at here ∙ row_stays (found es key))

  numbers_left : (o : Option Slot) → found es key ≡ o → (row : Option Row) → row_at o ≡ row → numbers_in fs ≡ if is_some row then numbers_in es else remove (numbers_in es) key
  numbers_left None is None at = numbers_in-gone es fs key beside (here ∙ ap without_empty is)
  numbers_left None is (Some row) at = absurd cc
  numbers_left (Some s) is None at = numbers_in-gone es fs key beside (here ∙ ap without_empty is ∙ ap (kept_if_filled s) at)
  numbers_left (Some s) is (Some row) at = numbers_in-same es fs key beside (ap number_at (here ∙ ap without_empty is ∙ ap (kept_if_filled s) at ∙ sym is))

  pub numbers_in-settled : numbers_in fs ≡ if is_some (get (rows_in es) key) then numbers_in es else remove (numbers_in es) key
  numbers_in-settled = numbers_left (found es key) refl (get (rows_in es) key) (sym (get-rows_in es key))

row_of_absent : (o : Option Slot) (n : Option ℕ) (row : Row) → n ≡ number_at o → row_at o ≡ Some row → (number : ℕ) × (n ≡ Some number)
row_of_absent None n row is e = absurd cc
row_of_absent (Some s) n row is e = (s.number, is)

-- each row lies in a slot
pub row_has_slot : (es : List (Key × Slot)) (key : Key) (row : Row) → get (rows_in es) key ≡ Some row → (number : ℕ) × (get (numbers_in es) key ≡ Some number)
row_has_slot es key row e = row_of_absent (found es key) (get (numbers_in es) key) row (get-numbers_in es key) (sym (get-rows_in es key) ∙ e)

-- a key with no slot has no row, and none is taken away there
pub none_taken : (kept : Kept) (key : Key) → IsSlotted kept → get kept.slots key ≡ None → kept.rows ≡ remove kept.rows key
none_taken kept key slotted none =
    same_at_and_beside _ _ key (absent (get kept.rows key) refl ∙ sym (get_removed kept.rows key)) (λ q apart. sym (get_beside_remove kept.rows key q apart))
  where
    absent : (row : Option Row) → get kept.rows key ≡ row → row ≡ None
    absent None e = refl
    absent (Some row) e = absurd (let has = slotted key row e in let some = has.1 in cc)

absent_of_number : (o : Option Slot) → number_at o ≡ None → o ≡ None
absent_of_number None e = refl
absent_of_number (Some s) e = absurd cc

pub found-none : (es : List (Key × Slot)) (key : Key) → get (numbers_in es) key ≡ None → found es key ≡ None
found-none es key e = absent_of_number (found es key) (sym (get-numbers_in es key) ∙ e)

-- what a look-up in the slots answers is what the rows have
pub found_row : (kept : FinMap key_cmp Row) (es : List (Key × Slot)) (q : Key) (o : Option Row) → rows_in es ≡ kept → o ≡ row_at (found es q) → o ≡ get kept q
found_row kept es q o is e = e ∙ sym (get-rows_in es q) ∙ ap (λ m. get m q) is

-- a slot more keeps the others
pub slots_kept_by_insert : (slots : FinMap key_cmp ℕ) (key : Key) (at : ℕ) → get slots key ≡ None → (other : Key) (number : ℕ) → get slots other ≡ Some number → get (insert slots key at) other ≡ Some number
slots_kept_by_insert slots key at absent other number e = elim (one_or_apart key other) [
  | inl same ↦ absurd (let none : get slots other ≡ None = ap (get slots) (sym same) ∙ absent in cc)
  | inr apart ↦ get_beside_insert slots key at other apart ∙ e
]

empty_number : (o : Option Slot) → (row : Option Row) → row_at o ≡ row → (number : Option ℕ) → number_at o ≡ number → number_of_empty o ≡ cond (is_some row) None number
empty_number None None at None is = refl
empty_number None None at (Some n) is = absurd cc
empty_number None (Some r) at number is = absurd cc
empty_number (Some s) None at number is = ap (number_if_empty s.number) at ∙ is
empty_number (Some s) (Some r) at number is = ap (number_if_empty s.number) at

-- the number of a slot that is dropped
pub number_dropped : (es : List (Key × Slot)) (key : Key) → number_of_empty (found es key) ≡ cond (is_some (get (rows_in es) key)) None (get (numbers_in es) key)
number_dropped es key = empty_number (found es key) (get (rows_in es) key) (sym (get-rows_in es key)) (get (numbers_in es) key) (sym (get-numbers_in es key))
