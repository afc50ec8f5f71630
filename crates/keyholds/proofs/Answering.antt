-- What the search of a list of cells answers, and what a cell's address says of its list.
use Rattle.std.specs.Prelude.{◌≡◌, ℕ, ◌+◌, ◌<◌, ◌≤◌, false, List, [], Option, Some, None, Vec, refl, slice_get, All, Contains, take, length, vec_len, vec_capacity, Result, Ok, Err, OnOk, OnErr, is_some}
use Rattle.std.proofs.Common.{sym, ◌∙◌, ap, subst, arith, get_or, true≢false}
use Rattle.std.specs.Ordering.{nat_cmp}
use Rattle.std.specs.Option.{option_map}
use Rattle.std.specs.Map.{keys_of}
use Rattle.std.specs.FinMap.{FinMap}
use Rattle.std.specs.BTreeMap as tree
use Rattle.std.specs.BTreeMap.{BTreeMap, Updates}
use Rattle.std.specs.Cmp.{nat_cmp_total}
use Rattle.std.proofs.Math.Seq.{take-length}
use Rattle.std.proofs.lemmas.Option.{slice_get_read, slice_get_within, slice_get-map}
use Rattle.std.proofs.lemmas.List.Elements.{All-more, All-contains}
use Rattle.std.proofs.lemmas.Map.Entries.{length-keys_of}
use Rattle.model.specs.declared.cell.Cell.{Cell}
use Rattle.keyholds.specs.Holds.{holds_of, IsFreeCell, IsCellHeldBy, IsFirstHeldBy}
use Rattle.keyholds.specs.Lists.{listed, items_in, HasRoom}
use Rattle.keyholds.proofs.Ties.{updated_here, same_value}
use Rattle.keyholds.proofs.Overlaps.{contains_at}

module _ (held : ℕ → List Cell) (xid : ℕ) (cells : List Cell) where
  -- the cell at an address, which no other has, after those before it
  pub free_so_far : (i : ℕ) (cell : Cell) → i < length cells → cell ≡ get_or cells i cell → All (IsFreeCell held xid) (take i cells) → IsFreeCell held xid cell → All (IsFreeCell held xid) (take (i + 1) cells)
  free_so_far i cell within is before here = All-more (IsFreeCell held xid) cells i cell within before (subst (λ c. IsFreeCell held xid c) is here)

  pub all_free : (i : ℕ) → i ≤ length cells → length cells ≤ i → All (IsFreeCell held xid) (take i cells) → All (IsFreeCell held xid) cells
  all_free i least most so_far = let end : i ≡ length cells = omega (arith, least, most) in subst (λ l. All (IsFreeCell held xid) l) (ap (λ n. take n cells) end ∙ take-length cells) so_far

  module _ (i : ℕ) (cell : Cell) (within : i < length cells) (is : cell ≡ get_or cells i cell) (other : ℕ) (here : IsCellHeldBy held xid cell other) where
    at : slice_get cells i ≡ Some cell
    at = slice_get_read cells (length cells) i cell refl within is

    pub first_held : All (IsFreeCell held xid) (take i cells) → IsFirstHeldBy held xid cells other
    first_held before = record { address = i; cell = cell; at = at; before = before; here = here }

    pub not_all_free : All (IsFreeCell held xid) cells → ⊥
    not_all_free free =
        let apart = All-contains (IsFreeCell held xid) cells cell free (contains_at cells i cell at) other here.its here.another here.holds in
        true≢false (sym here.overlap ∙ apart)

-- ---- a cell's address in a list

module _ {S Z : Type 0} (lists : BTreeMap ℕ (Vec (Cell × S) Z)) (xid index : ℕ) (cell : Cell) (at : slice_get (keys_of (listed lists xid)) index ≡ Some cell) where
  pub no_list : None ≡ tree.get nat_cmp lists xid → ⊥
  no_list none = let nothing : ◌≡◌ {A = Option Cell} (slice_get [] index) (Some cell) = ap (λ o. slice_get (keys_of (items_in o)) index) none ∙ at in absurd cc

  module _ (list : Vec (Cell × S) Z) (is : Some list ≡ tree.get nat_cmp lists xid) where
    key_at : slice_get (keys_of list.items) index ≡ Some cell
    key_at = ap (λ o. slice_get (keys_of (items_in o)) index) is ∙ at

    pub address_within : index < length list.items
    address_within = subst (λ n. index < n) (length-keys_of list.items) (slice_get_within (keys_of list.items) index cell key_at)

    pub among_holds : (holds : FinMap nat_cmp (List (Cell × S))) → holds_of holds xid ≡ listed lists xid → (hold : Cell × S) → hold ≡ get_or list.items index hold → Contains (holds_of holds xid) (cell, hold.1)
    among_holds holds seen hold read =
        let here = slice_get_read list.items (length list.items) index hold refl address_within read in
        let same : hold.0 ≡ cell = same_value hold.0 cell (ap (option_map (λ (e : Cell × S). e.0)) (sym here) ∙ sym (slice_get-map (λ (e : Cell × S). e.0) list.items index) ∙ key_at) in
        let there : slice_get (holds_of holds xid) index ≡ Some (cell, hold.1) = ap (λ l. slice_get l index) (seen ∙ ap items_in (sym is)) ∙ here ∙ (λ i. Some (same i, hold.1)) in
        contains_at (holds_of holds xid) index (cell, hold.1) there

-- a list with room, once it is in the map
pub has_room : {X Z : Type 0} (old new : BTreeMap ℕ (Vec X Z)) (xid : ℕ) (list : Vec X Z) → Updates nat_cmp old new xid (Some list) → vec_len list < vec_capacity list → HasRoom new xid
has_room old new xid list step room = record { list = list; at = updated_here (tree.get nat_cmp old) (tree.get nat_cmp new) xid (Some list) step.0 nat_cmp_total; room = room }

-- what follows from either outcome of a call
pub either_way : {T E : Type 0} (r : Result T E) (P Q G : Type 0) → OnOk r P → OnErr r Q → (P → G) → (Q → G) → G
either_way (Ok x) P Q G p q f h = f p
either_way (Err x) P Q G p q f h = h q

pub on_ok : {T E : Type 0} (r : Result T E) (P Q : Type 0) → OnOk r P → (P → Q) → OnOk r Q
on_ok (Ok x) P Q p f = f p
on_ok (Err x) P Q p f = tt

pub on_err : {T E : Type 0} (r : Result T E) (P Q : Type 0) → OnErr r P → (P → Q) → OnErr r Q
on_err (Ok x) P Q p f = tt
on_err (Err x) P Q p f = f p

pub either_pair : {T E : Type 0} (r : Result T E) (P Q R U G : Type 0) → OnOk r P → OnOk r Q → OnErr r R → OnErr r U → (P → Q → G) → (R → U → G) → G
either_pair (Ok x) P Q R U G p q r u f h = f p q
either_pair (Err x) P Q R U G p q r u f h = h r u

pub nothing_found : {X : Type 0} (o : Option X) {p : Option X} → o ≡ p → is_some o ≡ false → p ≡ None
nothing_found None e none = sym e
nothing_found (Some x) e none = absurd cc
