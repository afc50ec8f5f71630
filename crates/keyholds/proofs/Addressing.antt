-- What a look-up among the addresses says of the cells that transactions hold.
use Rattle.std.specs.Prelude.{◌≡◌, ◌≢◌, ℕ, ◌+◌, ◌-◌, ◌<◌, ◌||◌, zero, suc, Bool, true, false, List, [], ◌∷◌, slice_get, Option, Some, None, refl, Contains, MatchOption, IfSome, IfNone}
use Rattle.std.proofs.Common.{sym, ◌∙◌, ap, subst, inl, inr, true≢false, arith, nat_lt}
use Rattle.std.specs.Ordering.{eq_by_cmp}
use Rattle.std.specs.List.{list_any}
use Rattle.std.proofs.lemmas.Bool.{ltb-true, ltb-false}
use Rattle.std.proofs.lemmas.Map.Views.{tells_apart}
use Rattle.std.specs.HashMap.{Updates}
use Rattle.std.specs.Prelude.{Result, Ok, Err, OnOk, is_err}
use Rattle.model.specs.declared.cell.Cell.{Cell}
use Rattle.model.specs.declared.cell.Cell.TheVariants.{Whole}
use Rattle.model.specs.Cells.{table_of, overlaps}
use Rattle.model.specs.CellOrder.{cell_cmp, cell_cmp_total, cell_cmp_exact}
use Rattle.keyholds.specs.declared.address.Address.{Address}
use Rattle.keyholds.specs.declared.address.Addresses.{Addresses}
use Rattle.keyholds.specs.Counts.{count_in, SetsCount}
use Rattle.keyholds.specs.Holds.{IsFreeCell, IsCellHeldBy}
use Rattle.keyholds.specs.Addresses.{address_at, AreAddresses, IsAlone, IsHeldAt, TellsAt, AddsAddress, RemovesAddress}
use Rattle.keyholds.proofs.Ties.{tied_self, updated_here, updated_beside, same_value}
use Rattle.keyholds.proofs.Overlaps.{contains_at, at_contains, some_counted, none_counted_at, overlaps_itself, overlaps_whole, overlap_cases}

module _ (held : ℕ → List Cell) (addresses : Addresses) (kept : AreAddresses held addresses) (xid : ℕ) where
  -- a table that no other has a cell in
  whole_free : (table : ℕ) → ((other : ℕ) → other ≢ xid → count_in addresses.counts.counts table other ≡ 0) → IsFreeCell held xid (Whole table)
  whole_free table none other d apart has =
      none_counted_at (overlaps (Whole table)) (held other) (sym (kept.counted table other) ∙ none other apart) has.0 d (at_contains (held other) d has)

  whole_held : (table other : ℕ) → other ≢ xid → 0 < count_in addresses.counts.counts table other → IsCellHeldBy held xid (Whole table) other
  whole_held table other apart some =
      let found = some_counted (overlaps (Whole table)) (held other) (subst (λ n. 0 < n) (kept.counted table other) some) in
      record { another = apart; its = found.0; holds = found.1; overlap = found.2 }

  -- a look-up for a whole table
  pub answered_whole : (table : ℕ) (cell : Cell) → cell ≡ Whole table → (r : Option ℕ)
      → IfSome r (λ other. (other ≢ xid) × (0 < count_in addresses.counts.counts table other))
      → IfNone r ((other : ℕ) → other ≢ xid → count_in addresses.counts.counts table other ≡ 0)
      → MatchOption r (IsFreeCell held xid cell) (IsCellHeldBy held xid cell)
  answered_whole table cell is None found none = subst (λ (c : Cell). IsFreeCell held xid c) (sym is) (whole_free table none)
  answered_whole table cell is (Some other) found none =
      subst (λ (c : Cell). IsCellHeldBy held xid c other) (sym is) (whole_held table other found.0 found.1)

  -- another has a cell that overlaps it
  pub held_there : (cell its : Cell) (other : ℕ) → overlaps cell its ≡ true → IsHeldAt xid its addresses other → IsCellHeldBy held xid cell other
  held_there cell its other over there = record {
    another = there.another;
    its = its;
    holds = contains_at (held other) there.index its (kept.found its (record { xid = other; index = there.index }) there.at);
    overlap = over;
  }

  -- a cell that no other has
  not_anothers : (cell : Cell) → IsAlone xid cell addresses → (other : ℕ) → other ≢ xid → Contains (held other) cell → ⊥
  not_anothers cell alone other apart has = apart (alone (record { xid = other; index = has.0 }) (kept.at other has.0 cell (at_contains (held other) cell has)))

  -- a cell that no other has, in a table that no other has as a whole
  pub alone_free : (cell : Cell) → ((table : ℕ) → cell ≢ Whole table) → IsAlone xid cell addresses → IsAlone xid (Whole (table_of cell)) addresses → IsFreeCell held xid cell
  alone_free cell partial alone above other d apart has =
      elim (overlaps cell d) as (λ b. overlaps cell d ≡ b → b ≡ false) [
        | true ↦ λ e. absurd (elim (overlap_cases cell d partial e) [
          | inl is ↦ not_anothers cell alone other apart (subst (λ (c : Cell). Contains (held other) c) is has)
          | inr is ↦ not_anothers (Whole (table_of cell)) above other apart (subst (λ (c : Cell). Contains (held other) c) is has)
        ])
        | false ↦ λ e. refl
      ] refl

  pub answered_above : (cell : Cell) → ((table : ℕ) → cell ≢ Whole table) → IsAlone xid cell addresses → (r : Option ℕ) → MatchOption r (IsAlone xid (Whole (table_of cell)) addresses) (IsHeldAt xid (Whole (table_of cell)) addresses)
      → MatchOption r (IsFreeCell held xid cell) (IsCellHeldBy held xid cell)
  answered_above cell partial alone None above = alone_free cell partial alone above
  answered_above cell partial alone (Some other) there = held_there cell (Whole (table_of cell)) other (overlaps_whole cell) there

  pub answered_here : (cell : Cell) (other : ℕ) → IsHeldAt xid cell addresses other → IsCellHeldBy held xid cell other
  answered_here cell other there = held_there cell cell other (overlaps_itself cell) there

-- a cell that ties with its table as a whole is that, and one that doesn't is not
pub whole_or_not : (cell : Cell) → eq_by_cmp cell_cmp cell (Whole (table_of cell)) ≡ true → cell ≡ Whole (table_of cell)
whole_or_not cell = tells_apart cell_cmp_exact cell (Whole (table_of cell))

pub no_whole : (cell : Cell) → eq_by_cmp cell_cmp cell (Whole (table_of cell)) ≡ false → (table : ℕ) → cell ≢ Whole table
no_whole cell apart table is =
    true≢false
    (sym (tied_self cell_cmp_total cell) ∙ ap (eq_by_cmp cell_cmp cell) (is ∙ ap Whole (sym (ap table_of is))) ∙ apart)

-- a clause on `Ok`, where the call was no error
pub at_ok : {T E : Type 0} (r : Result T E) (P : Type 0) → is_err r ≡ false → OnOk r P → P
at_ok (Ok x) P e h = h
at_ok (Err x) P e h = absurd cc

module _ (cell : Cell) (table : ℕ) (is : table ≡ table_of cell) (old new : Addresses) where
  pub adds_address : (address : Address) → Updates (eq_by_cmp cell_cmp) old.addresses new.addresses cell (Some address) → SetsCount table address.xid (count_in old.counts.counts table address.xid + 1) old.counts.counts new.counts.counts → AddsAddress cell address old new
  adds_address address step count = record {
    here = updated_here (address_at old) (address_at new) cell (Some address) step.0 cell_cmp_total;
    beside = updated_beside (address_at old) (address_at new) cell (Some address) step.0 cell_cmp_exact;
    count = subst (λ t. SetsCount t address.xid (count_in old.counts.counts t address.xid + 1) old.counts.counts new.counts.counts) is count;
  }

  pub removes_address : (xid : ℕ) → Updates (eq_by_cmp cell_cmp) old.addresses new.addresses cell None → SetsCount table xid (count_in old.counts.counts table xid - 1) old.counts.counts new.counts.counts → RemovesAddress cell xid old new
  removes_address xid step count = record {
    here = updated_here (address_at old) (address_at new) cell None step.0 cell_cmp_total;
    beside = updated_beside (address_at old) (address_at new) cell None step.0 cell_cmp_exact;
    count = subst (λ t. SetsCount t xid (count_in old.counts.counts t xid - 1) old.counts.counts new.counts.counts) is count;
  }

-- ---- whether a transaction holds a cell that overlaps

any_true : (p : Cell → Bool) (xs : List Cell) (x : Cell) → Contains xs x → p x ≡ true → list_any p xs ≡ true
any_true p xs x has is = at_index p xs has.0 x (at_contains xs x has) is
  where
    or_true : (a b : Bool) → b ≡ true → (a || b) ≡ true
    or_true true b e = refl
    or_true false b e = e

    at_index : (p : Cell → Bool) (xs : List Cell) (i : ℕ) (x : Cell) → slice_get xs i ≡ Some x → p x ≡ true → list_any p xs ≡ true
    at_index p [] i x at is = absurd cc
    at_index p (y ∷ ys) zero x at is = ap (λ b. b || list_any p ys) (ap p (same_value y x at) ∙ is)
    at_index p (y ∷ ys) (suc i) x at is = or_true (p y) (list_any p ys) (at_index p ys i x at is)

any_false : (p : Cell → Bool) (xs : List Cell) → ((i : ℕ) (x : Cell) → slice_get xs i ≡ Some x → p x ≡ false) → list_any p xs ≡ false
any_false p [] none = refl
any_false p (y ∷ ys) none = ap (λ b. b || list_any p ys) (none 0 y refl) ∙ any_false p ys (λ i x at. none (suc i) x at)

-- ---- what a look-up of just one cell says

module _ (addresses : Addresses) (cell : Cell) (address : Address) (found : Some address ≡ address_at addresses cell) where
  pub tells_held : (holder : ℕ) → address.xid ≡ holder → TellsAt holder cell addresses true
  tells_held holder whose = (address.index, sym found ∙ (λ i. Some (record { xid = whose i; index = address.index })))

  pub tells_another : (xid : ℕ) → address.xid ≢ xid → IsHeldAt xid cell addresses address.xid
  tells_another xid apart = record { another = apart; index = address.index; at = sym found }

-- whether a number is above 0
abbrev pub IsPositive : ℕ → Bool → Type 0
IsPositive n true = 0 < n
IsPositive n false = n ≡ 0

pub positive : (n : ℕ) → IsPositive n (nat_lt 0 n)
positive n = by (nat_lt 0 n) refl
  where
    by : (b : Bool) → nat_lt 0 n ≡ b → IsPositive n b
    by true e = ltb-true 0 n e
    by false e = let least = ltb-false 0 n e in omega (arith, least)

module _ (held : ℕ → List Cell) (addresses : Addresses) (kept : AreAddresses held addresses) (holder : ℕ) where
  pub whole_overlaps_one : (table n : ℕ) → n ≡ count_in addresses.counts.counts table holder → (b : Bool) → IsPositive n b
      → b ≡ list_any (overlaps (Whole table)) (held holder)
  whole_overlaps_one table n is true some =
      let found = some_counted (overlaps (Whole table)) (held holder) (subst (λ m. 0 < m) (is ∙ kept.counted table holder) some) in
      sym (any_true (overlaps (Whole table)) (held holder) found.0 found.1 found.2)
  whole_overlaps_one table n is false none =
      sym (any_false (overlaps (Whole table)) (held holder) (none_counted_at (overlaps (Whole table)) (held holder) (sym (kept.counted table holder) ∙ sym is ∙ none)))

  pub held_overlaps_one : (cell its : Cell) → overlaps cell its ≡ true → TellsAt holder its addresses true → true ≡ list_any (overlaps cell) (held holder)
  held_overlaps_one cell its meets at =
      sym (any_true (overlaps cell) (held holder) its (contains_at (held holder) at.0 its (kept.found its (record { xid = holder; index = at.0 }) at.1)) meets)

  not_at : (cell : Cell) → TellsAt holder cell addresses false → (i : ℕ) → ¬ (slice_get (held holder) i ≡ Some cell)
  not_at cell none i at = none (record { xid = holder; index = i }) (kept.at holder i cell at) refl

  pub above_overlaps_one : (cell : Cell) → ((table : ℕ) → cell ≢ Whole table) → TellsAt holder cell addresses false → (b : Bool)
      → TellsAt holder (Whole (table_of cell)) addresses b → b ≡ list_any (overlaps cell) (held holder)
  above_overlaps_one cell partial none true at = held_overlaps_one cell (Whole (table_of cell)) (overlaps_whole cell) at
  above_overlaps_one cell partial none false above =
      sym (any_false (overlaps cell) (held holder) (λ i d at. elim (overlaps cell d) as (λ b. overlaps cell d ≡ b → b ≡ false) [
        | true ↦ λ e. absurd (elim (overlap_cases cell d partial e) [
          | inl is ↦ not_at cell none i (at ∙ ap Some is)
          | inr is ↦ not_at (Whole (table_of cell)) above i (at ∙ ap Some is)
        ])
        | false ↦ λ e. refl
      ] refl))
