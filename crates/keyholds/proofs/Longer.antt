-- One cell more at the end of a transaction's list: its address, its counts, and what overlaps.
use Rattle.std.specs.Prelude.{◌≡◌, ◌≢◌, ℕ, zero, suc, ◌+◌, ◌==◌, Bool, true, false, cond, List, [], ◌∷◌, ◌++◌, length, Option, Some, None, refl, ◌⊎◌, slice_get, Contains, if◌then◌else◌}
use Rattle.std.proofs.Common.{sym, ◌∙◌, ap, subst, inl, inr, arith, zero-add}
use Rattle.std.specs.Prelude.{◌≤◌, take}
use Rattle.std.specs.Map.{keys_of}
use Rattle.std.proofs.lemmas.List.{map-append, take-append-le}
use Rattle.std.proofs.lemmas.Bool.{cases_eq}
use Rattle.std.proofs.lemmas.Option.{slice_get_within}
use Rattle.std.proofs.lemmas.List.Sums.{sum_by-append}
use Rattle.std.specs.Cmp.{nat_eq_equiv}
use Rattle.std.proofs.lemmas.Map.Views.{exact_unsigned_eq}
use Rattle.model.specs.declared.cell.Cell.{Cell}
use Rattle.model.specs.Cells.{table_of, overlaps}
use Rattle.model.specs.CellOrder.{cell_cmp_total, cell_cmp_exact}
use Rattle.keyholds.specs.declared.address.Address.{Address}
use Rattle.keyholds.specs.declared.address.Addresses.{Addresses}
use Rattle.keyholds.specs.Counts.{count_in}
use Rattle.keyholds.specs.Holds.{IsFreeCell, AreDisjoint, ReleasesLast}
use Rattle.keyholds.specs.Addresses.{address_at, AreAddresses, AddsAddress, RemovesAddress, SameAddresses, HasNoAddresses, count_of_table, with_cells}
use Rattle.keyholds.proofs.Ties.{same_or_apart, same_value}
use Rattle.keyholds.proofs.Overlaps.{contains_at, at_contains, overlaps_symm}

-- ---- a list with one element more

module _ {X : Type 0} where
  pub push_cases : (xs : List X) (x : X) (i : ℕ) (y : X) → slice_get (xs ++ x ∷ []) i ≡ Some y → (slice_get xs i ≡ Some y) ⊎ ((i ≡ length xs) × (y ≡ x))
  push_cases [] x zero y e = inr (refl, sym (same_value x y e))
  push_cases [] x (suc i) y e = absurd cc
  push_cases (z ∷ xs) x zero y e = inl e
  push_cases (z ∷ xs) x (suc i) y e = elim (push_cases xs x i y e) [
    | inl at ↦ inl at
    | inr last ↦ inr (omega (arith, last.0), last.1)
  ]

  pub push_old : (xs : List X) (x : X) (i : ℕ) (y : X) → slice_get xs i ≡ Some y → slice_get (xs ++ x ∷ []) i ≡ Some y
  push_old [] x i y e = absurd cc
  push_old (z ∷ xs) x zero y e = e
  push_old (z ∷ xs) x (suc i) y e = push_old xs x i y e

  -- without the last one
  take-popped : (n : ℕ) (xs popped : List X) (x : X) → xs ≡ popped ++ x ∷ [] → n ≤ length popped → take n popped ≡ take n xs
  take-popped n xs popped x is within = sym (take-append-le n popped (x ∷ []) within) ∙ ap (take n) (sym is)

  pub push_new : (xs : List X) (x : X) (i : ℕ) → i ≡ length xs → slice_get (xs ++ x ∷ []) i ≡ Some x
  push_new [] x zero e = refl
  push_new [] x (suc i) e = absurd (omega (arith, e))
  push_new (z ∷ xs) x zero e = absurd (omega (arith, e))
  push_new (z ∷ xs) x (suc i) e = push_new xs x i (omega (arith, e))

pub keys_of-push : {S : Type 0} (xs ys : List (Cell × S)) (hold : Cell × S) → ys ≡ xs ++ hold ∷ [] → keys_of ys ≡ keys_of xs ++ hold.0 ∷ []
keys_of-push xs ys hold is = ap keys_of is ∙ map-append (λ e. e.0) xs (hold ∷ [])

-- the cells before the mark stay when the last one goes
pub front_stays : {S : Type 0} (mark : ℕ) (old new : List (Cell × S)) (released : Option Cell) → ReleasesLast mark old new released → take mark new ≡ take mark old
front_stays mark old new None step = ap (take mark) step.1
front_stays mark old new (Some cell) step = take-popped mark old new (cell, step.0) step.1 step.2

count-push : (table : ℕ) (cells : List Cell) (cell : Cell) → count_of_table table (cells ++ cell ∷ []) ≡ count_of_table table cells + cond (table == table_of cell) 1 0
count-push table cells cell =
    sum_by-append (λ c. cond (table == table_of c) 1 0) cells (cell ∷ []) ∙ ap (λ n. count_of_table table cells + n) (zero-add (cond (table == table_of cell) 1 0))

-- the second lists have one cell more, at the end of a transaction's
pub record IsLonger (held more : ℕ → List Cell) (xid : ℕ) (cell : Cell) : Type 0 where
  pub here : more xid ≡ held xid ++ cell ∷ []
  pub beside : (other : ℕ) → other ≢ xid → more other ≡ held other

module _ (held more : ℕ → List Cell) (xid : ℕ) (cell : Cell) (longer : IsLonger held more xid cell) where
  at_cases : (x i : ℕ) (c : Cell) → slice_get (more x) i ≡ Some c → (slice_get (held x) i ≡ Some c) ⊎ ((x ≡ xid) × (i ≡ length (held xid)) × (c ≡ cell))
  at_cases x i c e = elim (cases_eq x xid) [
    | inl is ↦ elim (push_cases (held xid) cell i c (ap (λ l. slice_get l i) (sym longer.here) ∙ ap (λ y. slice_get (more y) i) (sym is) ∙ e)) [
      | inl at ↦ inl (ap (λ y. slice_get (held y) i) is ∙ at)
      | inr last ↦ inr (is, last.0, last.1)
    ]
    | inr apart ↦ inl (ap (λ l. slice_get l i) (sym (longer.beside x apart)) ∙ e)
  ]

  at_old : (x i : ℕ) (c : Cell) → slice_get (held x) i ≡ Some c → slice_get (more x) i ≡ Some c
  at_old x i c e = elim (cases_eq x xid) [
    | inl is ↦ ap (λ y. slice_get (more y) i) is ∙ ap (λ l. slice_get l i) longer.here ∙ push_old (held xid) cell i c (ap (λ y. slice_get (held y) i) (sym is) ∙ e)
    | inr apart ↦ ap (λ l. slice_get l i) (longer.beside x apart) ∙ e
  ]

  at_new : slice_get (more xid) (length (held xid)) ≡ Some cell
  at_new = ap (λ l. slice_get l (length (held xid))) longer.here ∙ push_new (held xid) cell (length (held xid)) refl

  has_cases : (x : ℕ) (c : Cell) → Contains (more x) c → Contains (held x) c ⊎ ((x ≡ xid) × (c ≡ cell))
  has_cases x c has = elim (at_cases x has.0 c (at_contains (more x) c has)) [
    | inl at ↦ inl (contains_at (held x) has.0 c at)
    | inr last ↦ inr (last.0, last.2)
  ]

  has_old : (x : ℕ) (c : Cell) → Contains (held x) c → Contains (more x) c
  has_old x c has = contains_at (more x) has.0 c (at_old x has.0 c (at_contains (held x) c has))

  one_if : (table : ℕ) → table ≡ table_of cell → cond {A = ℕ} (table == table_of cell) 1 0 ≡ 1
  one_if table is = ap (λ b. cond b 1 0) (ap (λ t. table == t) (sym is) ∙ nat_eq_equiv.refl table)

  none_unless : (b : Bool) (table : ℕ) → (table == table_of cell) ≡ b → table ≢ table_of cell → cond {A = ℕ} b 1 0 ≡ 0
  none_unless true table e apart = absurd (apart (exact_unsigned_eq table (table_of cell) e))
  none_unless false table e apart = refl

  count_here : count_of_table (table_of cell) (more xid) ≡ count_of_table (table_of cell) (held xid) + 1
  count_here = ap (count_of_table (table_of cell)) longer.here ∙ count-push (table_of cell) (held xid) cell ∙ ap (λ n. count_of_table (table_of cell) (held xid) + n) (one_if (table_of cell) refl)

  count_in_others : (table : ℕ) → table ≢ table_of cell → count_of_table table (more xid) ≡ count_of_table table (held xid)
  count_in_others table apart =
      let none = none_unless (table == table_of cell) table refl apart in
      let all = ap (count_of_table table) longer.here ∙ count-push table (held xid) cell in
      omega (arith, none, all)

  count_of_others : (table x : ℕ) → x ≢ xid → count_of_table table (more x) ≡ count_of_table table (held x)
  count_of_others table x apart = ap (count_of_table table) (longer.beside x apart)

  -- ---- the cell comes

  module _ (old new : Addresses) (kept : AreAddresses held old) (absent : address_at old cell ≡ None) (free : IsFreeCell held xid cell) (adds : AddsAddress cell (record { xid = xid; index = length (held xid) }) old new) where
    added_at : (x i : ℕ) (c : Cell) → slice_get (more x) i ≡ Some c → address_at new c ≡ Some (record { xid = x; index = i })
    added_at x i c e = elim (at_cases x i c e) [
      | inl at ↦ let before_image = kept.at x i c at in adds.beside c (λ is. absurd (let none : address_at old c ≡ None = ap (address_at old) is ∙ absent in cc)) ∙ before_image
      | inr last ↦ ap (address_at new) last.2 ∙ adds.here ∙ (λ j. Some (record { xid = sym last.0 j; index = sym last.1 j }))
    ]

    added_found : (c : Cell) (p : Address) → address_at new c ≡ Some p → slice_get (more p.xid) p.index ≡ Some c
    added_found c p e = elim (same_or_apart cell_cmp_total cell_cmp_exact c cell) [
      | inl is ↦
          let address : Address = record { xid = xid; index = length (held xid) } in
          let same : address ≡ p = same_value address p (sym adds.here ∙ ap (address_at new) (sym is) ∙ e) in
          ap (λ (q : Address). slice_get (more q.xid) q.index) (sym same) ∙ at_new ∙ ap Some (sym is)
      | inr apart ↦ at_old p.xid p.index c (kept.found c p (sym (adds.beside c apart) ∙ e))
    ]

    added_counted : (table x : ℕ) → count_in new.counts.counts table x ≡ count_of_table table (more x)
    added_counted table x = elim (cases_eq x xid) [
      | inl is ↦ elim (cases_eq table (table_of cell)) [
        | inl same ↦ (λ j. count_in new.counts.counts (same j) (is j)) ∙ adds.count.here ∙ ap (λ n. n + 1) (kept.counted (table_of cell) xid) ∙ sym count_here ∙ (λ j. count_of_table (sym same j) (more (sym is j)))
        | inr differs ↦ ap (count_in new.counts.counts table) is ∙ adds.count.tables table xid differs ∙ kept.counted table xid ∙ sym (count_in_others table differs) ∙ ap (λ y. count_of_table table (more y)) (sym is)
      ]
      | inr apart ↦ adds.count.others table x apart ∙ kept.counted table x ∙ sym (count_of_others table x apart)
    ]

    added_apart : AreDisjoint more
    added_apart x y c d differs has_c has_d = elim (has_cases x c has_c) [
      | inl in_x ↦ elim (has_cases y d has_d) [
        | inl in_y ↦ kept.apart x y c d differs in_x in_y
        | inr new_y ↦ ap (overlaps c) new_y.1 ∙ overlaps_symm c cell ∙ free x c (λ e. differs (new_y.0 ∙ sym e)) in_x
      ]
      | inr new_x ↦ elim (has_cases y d has_d) [
        | inl in_y ↦ ap (λ z. overlaps z d) new_x.1 ∙ free y d (λ e. differs (e ∙ sym new_x.0)) in_y
        | inr new_y ↦ absurd (differs (new_y.0 ∙ sym new_x.0))
      ]
    ]

    pub addresses_added : AreAddresses more new
    addresses_added = record { at = added_at; found = added_found; counted = added_counted; apart = added_apart }

  -- ---- the cell goes

  module _ (old new : Addresses) (kept : AreAddresses more old) (removes : RemovesAddress cell xid old new) where
    removed_at : (x i : ℕ) (c : Cell) → slice_get (held x) i ≡ Some c → address_at new c ≡ Some (record { xid = x; index = i })
    removed_at x i c e =
        let before_image = kept.at x i c (at_old x i c e) in
        removes.beside c (λ is.
        let last = kept.at xid (length (held xid)) cell at_new in
        let address : Address = record { xid = x; index = i } in
        let end : Address = record { xid = xid; index = length (held xid) } in
        let same : address ≡ end = same_value address end (sym before_image ∙ ap (address_at old) is ∙ last) in
        let within = slice_get_within (held x) i c e in
        let whose : x ≡ xid = ap (λ (q : Address). q.xid) same in
        let where_at : i ≡ length (held xid) = ap (λ (q : Address). q.index) same in
        let long : length (held x) ≡ length (held xid) = ap (λ y. length (held y)) whose in
        omega (arith, within, where_at, long))
        ∙ before_image

    removed_found : (c : Cell) (p : Address) → address_at new c ≡ Some p → slice_get (held p.xid) p.index ≡ Some c
    removed_found c p e =
        let apart : c ≢ cell = λ is. absurd (let none : address_at new c ≡ None = ap (address_at new) is ∙ removes.here in cc) in
        elim (at_cases p.xid p.index c (kept.found c p (sym (removes.beside c apart) ∙ e))) [
          | inl at ↦ at
          | inr last ↦ absurd (apart last.2)
        ]

    removed_counted : (table x : ℕ) → count_in new.counts.counts table x ≡ count_of_table table (held x)
    removed_counted table x = elim (cases_eq x xid) [
      | inl is ↦ elim (cases_eq table (table_of cell)) [
        | inl same ↦
            let less : count_in new.counts.counts (table_of cell) xid ≡ count_of_table (table_of cell) (held xid) = omega (arith, removes.count.here, kept.counted (table_of cell) xid, count_here) in
            (λ j. count_in new.counts.counts (same j) (is j)) ∙ less ∙ (λ j. count_of_table (sym same j) (held (sym is j)))
        | inr differs ↦ ap (count_in new.counts.counts table) is ∙ removes.count.tables table xid differs ∙ kept.counted table xid ∙ count_in_others table differs ∙ ap (λ y. count_of_table table (held y)) (sym is)
      ]
      | inr apart ↦ removes.count.others table x apart ∙ kept.counted table x ∙ count_of_others table x apart
    ]

    pub addresses_removed : AreAddresses held new
    addresses_removed = record {
      at = removed_at;
      found = removed_found;
      counted = removed_counted;
      apart = λ x y c d differs has_c has_d. kept.apart x y c d differs (has_old x c has_c) (has_old y d has_d);
    }

-- ---- the same lists, and none

pub addresses_same : (held : ℕ → List Cell) (old new : Addresses) → SameAddresses old new → AreAddresses held old → AreAddresses held new
addresses_same held old new same kept = record {
  at = λ x i c e. same.addresses c ∙ kept.at x i c e;
  found = λ c p e. kept.found c p (sym (same.addresses c) ∙ e);
  counted = λ t x. same.counts t x ∙ kept.counted t x;
  apart = kept.apart;
}

pub addresses_alike : (held other : ℕ → List Cell) (addresses : Addresses) → ((x : ℕ) → held x ≡ other x) → AreAddresses held addresses → AreAddresses other addresses
addresses_alike held other addresses same kept = subst (λ (h : ℕ → List Cell). AreAddresses h addresses) (λ i x. same x i) kept

pub no_addresses : (held : ℕ → List Cell) (addresses : Addresses) → HasNoAddresses addresses → ((x : ℕ) → held x ≡ []) → AreAddresses held addresses
no_addresses held addresses none empty = addresses_alike (λ _. []) held addresses (λ x. sym (empty x)) (record {
  at = λ x i c e. absurd cc;
  found = λ c p e. absurd (let absent = none.none c in cc);
  counted = λ t x. none.zero t x;
  apart = λ x y c d differs has_c has_d. absurd (let l = has_c.1 in omega (arith, l));
})

-- ---- another list for a transaction

pub with_cells_here : (held : ℕ → List Cell) (xid : ℕ) (cells : List Cell) → with_cells held xid cells xid ≡ cells
with_cells_here held xid cells = ap (λ b. if b then cells else held xid) (nat_eq_equiv.refl xid)

pub with_cells_beside : (held : ℕ → List Cell) (xid : ℕ) (cells : List Cell) (other : ℕ) → other ≢ xid → with_cells held xid cells other ≡ held other
with_cells_beside held xid cells other apart = by (other == xid) refl
  where
    by : (b : Bool) → (other == xid) ≡ b → (if b then cells else held other) ≡ held other
    by true e = absurd (apart (exact_unsigned_eq other xid e))
    by false e = refl

pub longer_with_cells : (held : ℕ → List Cell) (xid : ℕ) (cells more : List Cell) (cell : Cell) → more ≡ cells ++ cell ∷ [] → IsLonger (with_cells held xid cells) (with_cells held xid more) xid cell
longer_with_cells held xid cells more cell is = record {
  here = with_cells_here held xid more ∙ is ∙ ap (λ l. l ++ cell ∷ []) (sym (with_cells_here held xid cells));
  beside = λ other apart. with_cells_beside held xid more other apart ∙ sym (with_cells_beside held xid cells other apart);
}

-- the list that it has
pub with_cells_same : (held : ℕ → List Cell) (xid : ℕ) (cells : List Cell) → held xid ≡ cells → (other : ℕ) → with_cells held xid cells other ≡ held other
with_cells_same held xid cells is other = elim (cases_eq other xid) [
  | inl same ↦ ap (with_cells held xid cells) same ∙ with_cells_here held xid cells ∙ sym is ∙ ap held (sym same)
  | inr apart ↦ with_cells_beside held xid cells other apart
]
