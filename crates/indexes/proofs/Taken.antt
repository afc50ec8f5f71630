-- Which key of a row that comes is taken, as the indexes tell it, and as callers see it.
use Rattle.std.specs.Prelude.{◌≡◌, ℕ, suc, ◌+◌, ◌<◌, Bool, true, false, if◌then◌else◌, List, [], ◌∷◌, length, Option, Some, None, refl, slice_get, slice_index_or, is_some, Result, Ok, Err}
use Rattle.std.proofs.Common.{zero, sym, ◌∙◌, ap, subst, arith, true≢false}
use Rattle.std.specs.FinMap.{FinMap, get}
use Rattle.model.specs.Key.{key_cmp}
use Rattle.model.specs.declared.key.Key.{Key}
use Rattle.model.specs.declared.row.Row.{Row}
use Rattle.model.specs.Rows.{Rows, TableKeys, values_in}
use Rattle.model.specs.Effect.{are_taken_unless_null, first_taken}
use Rattle.rows.specs.Kept.{Kept}
use Rattle.indexes.specs.declared.refused.Refused.{Refused}
use Rattle.indexes.specs.declared.refused.Refused.TheVariants.{Taken, OutOfMemory}
use Rattle.indexes.specs.declared.unique.Unique.{Unique}
use Rattle.indexes.specs.Refused.{Tells}
use Rattle.indexes.specs.Unique.{Entries, held, held_by, is_used, first_used}
use Rattle.indexes.specs.Table.{NoClash, IsTaken, TellsTaken}
use Rattle.indexes.specs.Indexed.{IsIndexed, columns_of}
use Rattle.indexes.proofs.Room.{columns_at, column_within}
use Rattle.indexes.proofs.Tabling.{first_of}

-- ---- the least index in use

-- the least one is the one behind these, or there is none
abbrev pub FirstAt : Row → ℕ → List Unique → Option ℕ → Type 0
FirstAt row key us None = (k : ℕ) (d : Unique) → k < length us → is_used row (slice_index_or us k d) ≡ false
FirstAt row key us (Some number) =
    (k : ℕ) × (number ≡ key + k) × (k < length us) × ((d : Unique) → is_used row (slice_index_or us k d) ≡ true)
    × ((j : ℕ) (d : Unique) → j < k → is_used row (slice_index_or us j d) ≡ false)

-- one that isn't in use comes before
behind : (row : Row) (key : ℕ) (u : Unique) (us : List Unique) → is_used row u ≡ false → (found : Option ℕ) → FirstAt row (suc key) us found → FirstAt row key (u ∷ us) found
behind row key u us unused None rest = none
  where
    none : (k : ℕ) (d : Unique) → k < suc (length us) → is_used row (slice_index_or (u ∷ us) k d) ≡ false
    none zero d l = unused
    none (suc k) d l = rest k d (omega arith)
behind row key u us unused (Some number) rest =
    let e = rest.1 in
    let l = rest.2 in
    (suc rest.0, omega arith, omega arith, rest.3, before)
  where
    before : (j : ℕ) (d : Unique) → j < suc rest.0 → is_used row (slice_index_or (u ∷ us) j d) ≡ false
    before zero d l = unused
    before (suc j) d l = rest.4 j d (omega arith)

by_first_used : (row : Row) (key : ℕ) (u : Unique) (us : List Unique) → FirstAt row (suc key) us (first_used row (suc key) us) → (used : Bool) → is_used row u ≡ used
    → FirstAt row key (u ∷ us) (if used then Some key else first_used row (suc key) us)
by_first_used row key u us rest true is = (0, omega arith, omega arith, (λ d. is), (λ j d l. absurd (omega arith)))
by_first_used row key u us rest false is = behind row key u us is (first_used row (suc key) us) rest

pub first_at : (row : Row) (key : ℕ) (us : List Unique) → FirstAt row key us (first_used row key us)
first_at row key [] = λ k d l. absurd (omega arith)
first_at row key (u ∷ us) = by_first_used row key u us (first_at row (suc key) us) (is_used row u) refl

-- ---- what is in use is taken

value_of : (o : Option Key) (entries : Entries) → is_some (held_by entries o) ≡ true → (values : Key) × (number : ℕ) × (o ≡ Some values) × (held entries values ≡ Some number)
value_of None entries e = absurd cc
value_of (Some values) entries e = number_of (held entries values) refl e
  where
    number_of : (n : Option ℕ) → held entries values ≡ n → is_some n ≡ true
        → (values' : Key) × (number : ℕ) × (Some values ≡ Some values') × (held entries values' ≡ Some number)
    number_of None is e = absurd cc
    number_of (Some number) is e = (values, number, refl, is)

module _ (keys : TableKeys) (kept : Kept) (us : List Unique) (is : keys.uniques ≡ columns_of us) (was : IsIndexed keys.primary kept us) (key : Key) (row : Row) where
  used_taken : (k : ℕ) (d : Unique) → k < length us → is_used row (slice_index_or us k d) ≡ true → IsTaken keys kept.rows key row (suc k)
  used_taken k d l used =
      let u = slice_index_or us k d in
      let v = value_of (values_in u.columns row) u.entries used in
      let h = (was.each k d l).only v.0 v.1 v.3 in
      (u.columns, ap (λ cs. slice_get cs k) is ∙ columns_at us k d l, h.key, (v.0, v.2, (h.row, h.at, h.has)))

  unused_free : (k : ℕ) (d : Unique) → k < length us → is_used row (slice_index_or us k d) ≡ false → ¬ IsTaken keys kept.rows key row (suc k)
  unused_free k d l unused taken =
      let u = slice_index_or us k d in
      let same : Some u.columns ≡ Some taken.0 = sym (ap (λ cs. slice_get cs k) is ∙ columns_at us k d l) ∙ taken.1 in
      let columns_is : taken.0 ≡ u.columns = cc in
      let duplicate = taken.3 in
      let place = was.slotted taken.2 duplicate.2.0 duplicate.2.1 in
      let has = ap (λ cs. values_in cs row) (sym columns_is) ∙ duplicate.1 in
      let too = ap (λ cs. values_in cs duplicate.2.0) (sym columns_is) ∙ duplicate.2.2 in
      let number = (was.each k d l).holds taken.2 duplicate.2.0 duplicate.0 place.0 duplicate.2.1 place.1 too in
      true≢false (sym (ap (λ o. is_some (held_by u.entries o)) has ∙ ap is_some number) ∙ unused)

  -- a unique key that is taken is one of the table's
  taken_within : (i : ℕ) → IsTaken keys kept.rows key row (suc i) → i < length us
  taken_within i taken = (column_within us i taken.0 (ap (λ cs. slice_get cs i) (sym is) ∙ taken.1)).0

  module _ (absent : get kept.rows key ≡ None) where
    own_free : ¬ IsTaken keys kept.rows key row 0
    own_free taken = absurd (let no = ap is_some absent in cc)

    none_taken : FirstAt row 1 us None → (number : ℕ) → ¬ IsTaken keys kept.rows key row number
    none_taken free zero taken = own_free taken
    none_taken free (suc i) taken =
        let l = taken_within i taken in
        let d = first_of us i l in
        unused_free i d l (free i d l) taken

    less_free : (number : ℕ) (first : FirstAt row 1 us (Some number)) (less : ℕ) → less < number → ¬ IsTaken keys kept.rows key row less
    less_free number first zero l taken = own_free taken
    less_free number first (suc j) l taken =
        let e = first.1 in
        let within = first.2 in
        let d = first_of us first.0 within in
        unused_free j d (omega arith) (first.4 j d (omega arith)) taken

    least_is : (number : ℕ) (first : FirstAt row 1 us (Some number)) → IsTaken keys kept.rows key row number
    least_is number first =
        let e = first.1 in
        let same : suc first.0 ≡ number = omega arith in
        let d = first_of us first.0 first.2 in
        subst (IsTaken keys kept.rows key row) same (used_taken first.0 d first.2 (first.3 d))

    module _ {T : Type 0} where
      by_first : (found : Option ℕ) → FirstAt row 1 us found → (r : Result T Refused) → Tells found r → TellsTaken keys kept.rows key row r
      by_first found at (Ok done) tells = none_taken (subst (FirstAt row 1 us) tells at)
      by_first found at (Err (Taken number)) tells = let first = subst (FirstAt row 1 us) tells at in (least_is number first, less_free number first)
      by_first found at (Err OutOfMemory) tells = tt

      -- what the indexes answer is what callers are told, where no row stands at the key
      pub told_of_indexes : (r : Result T Refused) → Tells (first_used row 1 us) r → TellsTaken keys kept.rows key row r
      told_of_indexes = by_first (first_used row 1 us) (first_at row 1 us)

-- ---- as callers see it

module _ (keys : TableKeys) (rows : FinMap key_cmp Row) (key : Key) (row : Row) (none : (number : ℕ) → ¬ IsTaken keys rows key row number) where
  pub no_clash_of_none : NoClash keys rows row
  no_clash_of_none i columns other values duplicate at there too has = none (suc i) (columns, at, other, (values, has, (duplicate, there, too)))

-- ---- among all tables

-- the least unique key that is taken, where those before it are not
pub first_taken_at : (rows : Rows) (table : ℕ) (row : Row) (number : ℕ) (uniques : List (List ℕ)) (k : ℕ) (columns : List ℕ)
    → slice_get uniques k ≡ Some columns → are_taken_unless_null rows table columns (values_in columns row) ≡ true
    → ((j : ℕ) (before : List ℕ) → j < k → slice_get uniques j ≡ Some before → are_taken_unless_null rows table before (values_in before row) ≡ false)
    → first_taken rows table row number uniques ≡ Some (number + k)
first_taken_at rows table row number [] k columns at taken free = absurd cc
first_taken_at rows table row number (first ∷ rest) zero columns at taken free =
    let same : columns ≡ first = cc in
    let e : number ≡ number + 0 = omega arith in
    ap (λ b. if b then Some number else first_taken rows table row (suc number) rest) (subst (λ (c : List ℕ). are_taken_unless_null rows table c (values_in c row) ≡ true) same taken) ∙ ap Some e
first_taken_at rows table row number (first ∷ rest) (suc k) columns at taken free =
    let e : suc number + k ≡ number + suc k = omega arith in
    ap (λ b. if b then Some number else first_taken rows table row (suc number) rest) (free 0 first (omega arith) refl)
    ∙ first_taken_at rows table row (suc number) rest k columns at taken (λ j before l there. free (suc j) before (omega arith) there) ∙ ap Some e
