-- What callers see of the holds once a list was changed, and what they see of a look-up.
use Rattle.std.specs.Prelude.{◌≡◌, ◌≢◌, ℕ, List, [], Option, Some, None, Vec, refl, MatchOption, IfSome, IfNone, take, zero, suc, length, ◌≤◌}
use Rattle.std.proofs.Common.{sym, ◌∙◌, ap, subst, inl, inr, arith}
use Rattle.std.specs.Ordering.{nat_cmp}
use Rattle.std.specs.Map.{keys_of}
use Rattle.std.specs.FinMap.{FinMap}
use Rattle.std.specs.BTreeMap as tree
use Rattle.std.specs.BTreeMap.{BTreeMap}
use Rattle.model.specs.declared.cell.Cell.{Cell}
use Rattle.keyholds.specs.declared.address.Addresses.{Addresses}
use Rattle.keyholds.specs.Holds.{holds_of, cells_held, AreDisjoint, HasNoEmptyList, ReleasesLast}
use Rattle.keyholds.specs.Lists.{lists_seen, listed, items_in, SetsList, SameLists}
use Rattle.keyholds.specs.Addresses.{AreAddresses, with_cells}
use Rattle.keyholds.proofs.Listing.{get-lists_seen, lists_seen_filled}
use Rattle.keyholds.proofs.Longer.{addresses_alike, with_cells_here, with_cells_beside, with_cells_same}
use Rattle.std.proofs.lemmas.Bool.{cases_eq}

module _ {S Z : Type 0} (old : BTreeMap ℕ (Vec (Cell × S) Z)) (holds : FinMap nat_cmp (List (Cell × S))) (seen : lists_seen old ≡ holds) where
  -- what a transaction holds is its list
  pub holds_listed : (xid : ℕ) → holds_of holds xid ≡ listed old xid
  holds_listed xid = ap (λ h. holds_of h xid) (sym seen) ∙ get-lists_seen old xid

  pub seen_filled : HasNoEmptyList holds
  seen_filled xid = subst (λ h. HasNoEmptyList h) seen (lists_seen_filled old) xid

  pub seen_apart : (addresses : Addresses) → AreAddresses (cells_held (lists_seen old)) addresses → AreDisjoint (cells_held holds)
  seen_apart addresses kept = subst (λ h. AreDisjoint (cells_held h)) seen kept.apart

  pub seen_placed : (addresses : Addresses) → AreAddresses (cells_held (lists_seen old)) addresses → AreAddresses (cells_held holds) addresses
  seen_placed addresses kept = subst (λ h. AreAddresses (cells_held h) addresses) seen kept

  -- the same lists, with a transaction's written out
  pub listed_placed : (xid : ℕ) (items : List (Cell × S)) → listed old xid ≡ items → (addresses : Addresses) → AreAddresses (cells_held (lists_seen old)) addresses
      → AreAddresses (with_cells (cells_held (lists_seen old)) xid (keys_of items)) addresses
  listed_placed xid items is addresses kept =
      addresses_alike _ _ addresses (λ x. sym (with_cells_same (cells_held (lists_seen old)) xid (keys_of items) (ap keys_of (get-lists_seen old xid ∙ is)) x)) kept

  module _ (new : BTreeMap ℕ (Vec (Cell × S) Z)) where
    pub seen_same : SameLists old new → (xid : ℕ) → holds_of (lists_seen new) xid ≡ holds_of holds xid
    seen_same same xid = get-lists_seen new xid ∙ same xid ∙ sym (holds_listed xid)

    module _ (xid : ℕ) (items : List (Cell × S)) (sets : SetsList xid items old new) where
      pub set_own : holds_of (lists_seen new) xid ≡ items
      set_own = get-lists_seen new xid ∙ sets.here

      -- the cell held last went, if the list was longer than the mark
      pub set_released : (mark : ℕ) (before : List (Cell × S)) → listed old xid ≡ before → (released : Option Cell) → ReleasesLast mark before items released
          → ReleasesLast mark (holds_of holds xid) (holds_of (lists_seen new) xid) released
      set_released mark before is released step =
          subst (λ l. ReleasesLast mark l (holds_of (lists_seen new) xid) released) (sym (holds_listed xid ∙ is)) (subst (λ l. ReleasesLast mark before l released) (sym set_own) step)

      pub set_others : (other : ℕ) → other ≢ xid → holds_of (lists_seen new) other ≡ holds_of holds other
      set_others other apart = get-lists_seen new other ∙ sets.beside other apart ∙ sym (holds_listed other)

      set_cells : (x : ℕ) → with_cells (cells_held (lists_seen old)) xid (keys_of items) x ≡ cells_held (lists_seen new) x
      set_cells x = elim (cases_eq x xid) [
        | inl is ↦ ap (with_cells (cells_held (lists_seen old)) xid (keys_of items)) is ∙ with_cells_here (cells_held (lists_seen old)) xid (keys_of items) ∙ ap keys_of (sym set_own) ∙ ap (cells_held (lists_seen new)) (sym is)
        | inr apart ↦ with_cells_beside (cells_held (lists_seen old)) xid (keys_of items) x apart ∙ ap keys_of (ap (λ h. holds_of h x) seen ∙ sym (set_others x apart))
      ]

      pub set_placed : (addresses : Addresses) → AreAddresses (with_cells (cells_held (lists_seen old)) xid (keys_of items)) addresses → AreAddresses (cells_held (lists_seen new)) addresses
      set_placed addresses kept = addresses_alike _ _ addresses set_cells kept

take-nothing : {X : Type 0} (n : ℕ) → ◌≡◌ {A = List X} (take n []) []
take-nothing zero = refl
take-nothing (suc n) = refl

-- a transaction with no list, cut
pub cut_nothing : {S Z : Type 0} (lists left : BTreeMap ℕ (Vec (Cell × S) Z)) (holds : FinMap nat_cmp (List (Cell × S))) → lists_seen lists ≡ holds → left ≡ lists → (xid mark : ℕ) → None ≡ tree.get nat_cmp lists xid → holds_of (lists_seen left) xid ≡ take mark (holds_of holds xid)
cut_nothing lists left holds seen same xid mark none =
    let empty = ap items_in (sym none) in
    get-lists_seen left xid ∙ ap (λ m. listed m xid) same ∙ empty ∙ sym (ap (take mark) (holds_listed lists holds seen xid ∙ empty) ∙ take-nothing mark)

-- a transaction with no list, from which no cell goes
pub none_leaves : {S Z : Type 0} (lists left : BTreeMap ℕ (Vec (Cell × S) Z)) (holds : FinMap nat_cmp (List (Cell × S))) → lists_seen lists ≡ holds → left ≡ lists → (xid mark : ℕ) → None ≡ tree.get nat_cmp lists xid
    → (released : Option Cell) → released ≡ None → ReleasesLast mark (holds_of holds xid) (holds_of (lists_seen left) xid) released
none_leaves lists left holds seen same xid mark none released is =
    let few : length (holds_of holds xid) ≤ mark = omega (arith, ap length (holds_listed lists holds seen xid ∙ ap items_in (sym none))) in
    let kept : holds_of (lists_seen left) xid ≡ holds_of holds xid = ap (λ m. holds_of (lists_seen m) xid) same ∙ ap (λ h. holds_of h xid) seen in
    subst (λ r. ReleasesLast mark (holds_of holds xid) (holds_of (lists_seen left) xid) r) (sym is) (few, kept)

-- the two answers of a look-up
pub if_none : {T : Type 0} (r : Option T) (P : Type 0) (Q : T → Type 0) → MatchOption r P Q → IfNone r P
if_none None P Q h = h
if_none (Some x) P Q h = tt

pub if_some : {T : Type 0} (r : Option T) (P : Type 0) (Q : T → Type 0) → MatchOption r P Q → IfSome r Q
if_some None P Q h = tt
if_some (Some x) P Q h = h
