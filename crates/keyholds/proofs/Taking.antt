-- A cell more for a transaction: what it then holds, and where everything stands.
use Rattle.std.specs.Prelude.{◌≡◌, ◌≢◌, ℕ, ◌==◌, ◌≤◌, Bool, true, false, List, [], ◌∷◌, ◌++◌, Option, Some, None, Vec, refl, Contains, length, is_some, if◌then◌else◌, take, All}
use Rattle.std.proofs.Common.{sym, ◌∙◌, ap, subst, arith, true≢false, inl, inr}
use Rattle.std.specs.Ordering.{nat_cmp}
use Rattle.std.specs.Cmp.{eq_by_cmp_equiv}
use Rattle.std.specs.Map.{keys_of}
use Rattle.std.specs.FinMap.{FinMap}
use Rattle.std.specs.BTreeMap.{BTreeMap}
use Rattle.std.proofs.lemmas.Bool.{cases_eq}
use Rattle.std.proofs.lemmas.List.{take-append-le, map-append}
use Rattle.std.proofs.Common.{length-append}
use Rattle.std.proofs.Math.Seq.{take-length}
use Rattle.std.proofs.lemmas.List.Elements.{All-contains, Contains-append_right}
use Rattle.std.specs.Iterator.{Yields}
use Rattle.std.specs.Vec.Iter.{into_iter_items, into_iter_steps}
use Rattle.std.specs.declared.vec.IntoIter.{IntoIter}
use Rattle.std.proofs.lemmas.List.Sums.{count_by-le-length}
use Rattle.std.proofs.lemmas.Map.Entries.{length-keys_of}
use Rattle.std.proofs.lemmas.Map.Views.{IsSome-lookup_from_Contains, Contains-keys_from_lookup, tells_apart}
use Rattle.model.specs.declared.cell.Cell.{Cell}
use Rattle.model.specs.Cells.{table_of}
use Rattle.model.specs.CellOrder.{cell_cmp_total, cell_cmp_exact}
use Rattle.keyholds.specs.declared.address.Address.{Address}
use Rattle.keyholds.specs.declared.address.Addresses.{Addresses}
use Rattle.keyholds.specs.Counts.{count_in}
use Rattle.keyholds.specs.Holds.{holds_of, cells_held, has_cell, with_hold, with_holds, IsFreeCell}
use Rattle.keyholds.specs.Lists.{lists_seen, listed, SetsList}
use Rattle.keyholds.specs.Addresses.{address_at, AreAddresses, AddsAddress, count_of_table}
use Rattle.keyholds.proofs.Overlaps.{contains_at, at_contains, overlaps_itself}
use Rattle.keyholds.proofs.Listing.{get-lists_seen}
use Rattle.keyholds.proofs.Longer.{IsLonger, addresses_added, keys_of-push}

-- ---- one hold more

module _ {S : Type 0} (held : List (Cell × S)) (cell : Cell) (before_image : S) where
  pub held_already : has_cell cell held ≡ true → with_hold held (cell, before_image) ≡ held
  held_already e = ap (λ b. if b then held else held ++ (cell, before_image) ∷ []) e

  pub held_newly : has_cell cell held ≡ false → with_hold held (cell, before_image) ≡ held ++ (cell, before_image) ∷ []
  held_newly e = ap (λ b. if b then held else held ++ (cell, before_image) ∷ []) e

module _ {S : Type 0} (holds : FinMap nat_cmp (List (Cell × S))) (addresses : Addresses) (kept : AreAddresses (cells_held holds) addresses) (xid : ℕ) (cell : Cell) where
  -- a cell at an address that no other transaction has is one of its own
  pub own_cell : IsFreeCell (cells_held holds) xid cell → (address : Address) → address_at addresses cell ≡ Some address → has_cell cell (holds_of holds xid) ≡ true
  own_cell free address e = elim (cases_eq address.xid xid) [
    | inl is ↦ IsSome-lookup_from_Contains (eq_by_cmp_equiv cell_cmp_total) cell (holds_of holds xid) (subst (λ x. Contains (cells_held holds x) cell) is (contains_at (cells_held holds address.xid) address.index cell (kept.found cell address e)))
    | inr apart ↦ absurd (true≢false (sym (overlaps_itself cell) ∙ free address.xid cell apart (contains_at (cells_held holds address.xid) address.index cell (kept.found cell address e))))
  ]

  pub own_cell_some : IsFreeCell (cells_held holds) xid cell → (o : Option Address) → o ≡ address_at addresses cell → is_some o ≡ true → has_cell cell (holds_of holds xid) ≡ true
  own_cell_some free None e some = absurd cc
  own_cell_some free (Some address) e some = own_cell free address (sym e)

  -- a cell at no address is none of its own
  pub new_cell : address_at addresses cell ≡ None → has_cell cell (holds_of holds xid) ≡ false
  new_cell absent = by (has_cell cell (holds_of holds xid)) refl
    where
      by : (b : Bool) → has_cell cell (holds_of holds xid) ≡ b → b ≡ false
      by true e = absurd (let has = Contains-keys_from_lookup (tells_apart cell_cmp_exact) cell (holds_of holds xid) e in let there = kept.at xid has.0 cell (at_contains (cells_held holds xid) cell has) in cc)
      by false e = refl

  -- no table counts more cells than are held
  pub counts_within : (length (keys_of (holds_of holds xid)) ≡ length (holds_of holds xid)) → count_in addresses.counts.counts (table_of cell) xid ≤ length (holds_of holds xid)
  counts_within long = subst (λ n. n ≤ length (holds_of holds xid)) (sym (kept.counted (table_of cell) xid)) (subst (λ n. count_of_table (table_of cell) (cells_held holds xid) ≤ n) long (count_by-le-length (λ c. table_of cell == table_of c) (cells_held holds xid)))

-- everything has its address once the cell was added
pub taken_placed : {S Z : Type 0} (old new : BTreeMap ℕ (Vec (Cell × S) Z)) (addresses after : Addresses) (xid : ℕ) (hold : Cell × S) → AreAddresses (cells_held (lists_seen old)) addresses → IsFreeCell (cells_held (lists_seen old)) xid hold.0 → address_at addresses hold.0 ≡ None
    → SetsList xid (listed old xid ++ hold ∷ []) old new → AddsAddress hold.0 (record { xid = xid; index = length (listed old xid) }) addresses after → AreAddresses (cells_held (lists_seen new)) after
taken_placed old new addresses after xid hold kept free absent sets adds =
    addresses_added (cells_held (lists_seen old)) (cells_held (lists_seen new)) xid hold.0 longer addresses after kept absent free
    (subst (λ n. AddsAddress hold.0 (record { xid = xid; index = n }) addresses after) long adds)
  where
    longer : IsLonger (cells_held (lists_seen old)) (cells_held (lists_seen new)) xid hold.0
    longer = record {
      here = keys_of-push (holds_of (lists_seen old) xid) (holds_of (lists_seen new) xid) hold (get-lists_seen new xid ∙ sets.here ∙ ap (λ l. l ++ hold ∷ []) (sym (get-lists_seen old xid)));
      beside = λ other apart. ap keys_of (get-lists_seen new other ∙ sets.beside other apart ∙ sym (get-lists_seen old other));
    }

    long : length (listed old xid) ≡ length (cells_held (lists_seen old) xid)
    long = ap length (sym (get-lists_seen old xid)) ∙ sym (length-keys_of (holds_of (lists_seen old) xid))

-- ---- holds taken in turn

module _ {S : Type 0} where
  -- what was held stays, at the front
  pub front_of_hold : (held : List (Cell × S)) (hold : Cell × S) → (n : ℕ) → n ≤ length held → (take n (with_hold held hold) ≡ take n held) × (length held ≤ length (with_hold held hold))
  front_of_hold held hold n within = by (has_cell hold.0 held) refl
    where
      by : (b : Bool) → has_cell hold.0 held ≡ b → (take n (if b then held else held ++ hold ∷ []) ≡ take n held) × (length held ≤ length (if b then held else held ++ hold ∷ []))
      by true e = (refl, omega arith)
      by false e = (take-append-le n held (hold ∷ []) within, omega (arith, length-append held (hold ∷ [])))

  pub front_of_holds : (held more : List (Cell × S)) (n : ℕ) → n ≤ length held → take n (with_holds held more) ≡ take n held
  front_of_holds held [] n within = refl
  front_of_holds held (hold ∷ more) n within =
      let first = front_of_hold held hold n within in
      front_of_holds (with_hold held hold) more n (omega (arith, within, first.1)) ∙ first.0

  -- all that was held is the front
  pub held_first : (held more : List (Cell × S)) → take (length held) (with_holds held more) ≡ held
  held_first held more = front_of_holds held more (length held) (omega arith) ∙ take-length held

  -- those who hold the same of others leave the same free
  pub free_still : (old new : FinMap nat_cmp (List (Cell × S))) (xid : ℕ) (cell : Cell) → ((other : ℕ) → other ≢ xid → holds_of new other ≡ holds_of old other) → IsFreeCell (cells_held old) xid cell → IsFreeCell (cells_held new) xid cell
  free_still old new xid cell same free other d apart has = free other d apart (subst (λ l. Contains (keys_of l) d) (same other apart) has)

  pub free_among : (held : ℕ → List Cell) (xid : ℕ) (holds before after : List (Cell × S)) (hold : Cell × S) → holds ≡ before ++ hold ∷ after → All (IsFreeCell held xid) (keys_of holds) → IsFreeCell held xid hold.0
  free_among held xid holds before after hold is free =
      let split : keys_of holds ≡ keys_of before ++ hold.0 ∷ keys_of after = ap keys_of is ∙ map-append (λ e. e.0) before (hold ∷ after) in
      All-contains (IsFreeCell held xid) (keys_of holds) hold.0 free (subst (λ l. Contains l hold.0) (sym split) (Contains-append_right (keys_of before) (hold.0 ∷ keys_of after) hold.0 (contains_at (hold.0 ∷ keys_of after) 0 hold.0 refl)))

-- what the iterator of a vector has given is a front of its items
pub taken_front : {X A : Type 0} (s : IntoIter X A) (xs : List X) (t : IntoIter X A) → Yields into_iter_steps s xs t → into_iter_items s ≡ xs ++ into_iter_items t
taken_front s [] t y = ap into_iter_items y
taken_front s (x ∷ xs) t y = y.1.0 ∙ ap (λ ys. x ∷ ys) (taken_front y.0 xs t y.2)

-- a release to the mark, after cells were taken
pub as_before : {S : Type 0} (old taken new : FinMap nat_cmp (List (Cell × S))) (xid mark : ℕ) → mark ≡ length (holds_of old xid)
    → take (length (holds_of old xid)) (holds_of taken xid) ≡ holds_of old xid → ((other : ℕ) → other ≢ xid → holds_of taken other ≡ holds_of old other)
    → holds_of new xid ≡ take mark (holds_of taken xid) → ((other : ℕ) → other ≢ xid → holds_of new other ≡ holds_of taken other)
    → (x : ℕ) → holds_of new x ≡ holds_of old x
as_before old taken new xid mark count first others own rest x = elim (cases_eq x xid) [
  | inl is ↦ ap (holds_of new) is ∙ own ∙ ap (λ n. take n (holds_of taken xid)) count ∙ first ∙ ap (holds_of old) (sym is)
  | inr apart ↦ rest x apart ∙ others x apart
]
