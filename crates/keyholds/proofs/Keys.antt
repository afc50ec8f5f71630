-- The keys of a table's places, gathered cell by cell and list by list.
use Rattle.std.specs.Prelude.{◌≡◌, ◌≢◌, ◌⊎◌, ℕ, ◌+◌, ◌<◌, List, [], ◌∷◌, ◌++◌, Option, Some, None, Vec, refl, length, take, Contains}
use Rattle.std.proofs.Common.{sym, ◌∙◌, ap, subst, inl, inr, arith, get_or}
use Rattle.std.specs.Ordering.{nat_cmp}
use Rattle.std.specs.Map.{keys_of}
use Rattle.std.specs.FinMap.{FinMap, nat_cmp-IsAntisymmetric}
use Rattle.std.specs.BTreeMap as tree
use Rattle.std.specs.BTreeMap.{BTreeMap}
use Rattle.std.proofs.lemmas.List.{take_more, map-append}
use Rattle.std.proofs.lemmas.List.Elements.{Contains-append_left, Contains-push, Contains-push_cases}
use Rattle.std.proofs.lemmas.Map.Views.{Contains-from_lookup, tells_apart}
use Rattle.model.specs.declared.key.Key.{Key}
use Rattle.model.specs.declared.cell.Cell.{Cell}
use Rattle.model.specs.declared.cell.Cell.TheVariants.{Row}
use Rattle.keyholds.specs.Holds.{cells_held}
use Rattle.keyholds.specs.Lists.{lists_seen, items_in, AddsKeys}
use Rattle.keyholds.proofs.Seen.{holds_listed}
use Rattle.keyholds.proofs.HoldsLemmas.{head_or_rest}

-- ---- cell by cell

none_there : {X : Type 0} (x : X) → Contains [] x → ⊥
none_there x has = omega (arith, has.1)

pub no_keys : (table : ℕ) (keys : List Key) → AddsKeys table [] keys keys
no_keys table keys key = (λ has. inl has, λ either. elim either [ inl has ↦ has | inr cell ↦ absurd (none_there (Row table key) cell) ])

same_key : (table : ℕ) (cell : Cell) (k key : Key) → cell ≡ Row table k → cell ≡ Row table key → k ≡ key
same_key table cell k key is its = let rows : Row table k ≡ Row table key = sym is ∙ its in cc

module _ (table : ℕ) (cells : List Cell) (cell : Cell) (old now : List Key) (was : AddsKeys table cells old now) where
  -- a cell that is no place of the table
  pub other_cell : ((key : Key) → cell ≢ Row table key) → AddsKeys table (cells ++ cell ∷ []) old now
  other_cell other key = (
    λ has. elim ((was key).0 has) [ inl before ↦ inl before | inr among ↦ inr (Contains-append_left cells (cell ∷ []) (Row table key) among) ],
    λ either. elim either [
      | inl before ↦ (was key).1 (inl before)
      | inr among ↦ elim (Contains-push_cases cells cell (Row table key) among) [ inl sooner ↦ (was key).1 (inr sooner) | inr is ↦ absurd (other key is) ]
    ],
  )

  -- a place of the table
  pub its_cell : (k : Key) → cell ≡ Row table k → AddsKeys table (cells ++ cell ∷ []) old (now ++ k ∷ [])
  its_cell k is key = (
    λ has. elim (Contains-push_cases now k key has) [
      | inl sooner ↦ elim ((was key).0 sooner) [ inl before ↦ inl before | inr among ↦ inr (Contains-append_left cells (cell ∷ []) (Row table key) among) ]
      | inr same ↦ inr (subst (λ (c : Cell). Contains (cells ++ cell ∷ []) c) (is ∙ ap (Row table) same) (Contains-push cells cell))
    ],
    λ either. elim either [
      | inl before ↦ Contains-append_left now (k ∷ []) key ((was key).1 (inl before))
      | inr among ↦ elim (Contains-push_cases cells cell (Row table key) among) [
        | inl sooner ↦ Contains-append_left now (k ∷ []) key ((was key).1 (inr sooner))
        | inr its ↦ subst (λ (q : Key). Contains (now ++ k ∷ []) q) (same_key table cell k key is its) (Contains-push now k)
      ]
    ],
  )

-- the cells up to one more
pub cells_more : {S : Type 0} (list : List (Cell × S)) (i : ℕ) (hold : Cell × S) → i < length list → hold ≡ get_or list i hold
    → keys_of (take (i + 1) list) ≡ keys_of (take i list) ++ hold.0 ∷ []
cells_more {S} list i hold below is =
    ap keys_of (take_more list i hold below) ∙ map-append (λ (h : Cell × S). h.0) (take i list) (get_or list i hold ∷ [])
    ∙ ap (λ (h : Cell × S). keys_of (take i list) ++ h.0 ∷ []) (sym is)

-- ---- list by list

-- These are keys of places that are held, and each such key is among them or in a list that is left.
pub record AreGathered {S Z : Type 0} (table : ℕ) (cells : ℕ → List Cell) (left : List (ℕ × Vec (Cell × S) Z)) (keys : List Key) : Type 0 where
  pub all : (xid : ℕ) (key : Key) → Contains (cells xid) (Row table key)
      → Contains keys key ⊎ ((list : Vec (Cell × S) Z) × Contains left (xid, list) × Contains (keys_of list.items) (Row table key))
  pub held : (key : Key) → Contains keys key → (xid : ℕ) × Contains (cells xid) (Row table key)

module _ {S Z : Type 0} (table : ℕ) (lists : BTreeMap ℕ (Vec (Cell × S) Z)) (holds : FinMap nat_cmp (List (Cell × S))) (seen : lists_seen lists ≡ holds) where
  -- what a transaction holds is its list
  cells_listed : (xid : ℕ) (list : Vec (Cell × S) Z) → tree.get nat_cmp lists xid ≡ Some list → cells_held holds xid ≡ keys_of list.items
  cells_listed xid list at = ap keys_of (holds_listed lists holds seen xid ∙ ap items_in at)

  -- at first all lists are left
  pub none_gathered : AreGathered table (cells_held holds) lists.entries []
  none_gathered = record {
    all = λ xid key has. inr (by xid key (tree.get nat_cmp lists xid) refl (subst (λ (l : List (Cell × S)). Contains (keys_of l) (Row table key)) (holds_listed lists holds seen xid) has));
    held = λ key has. absurd (none_there key has);
  }
    where
      by : (xid : ℕ) (key : Key) (o : Option (Vec (Cell × S) Z)) → tree.get nat_cmp lists xid ≡ o → Contains (keys_of (items_in o)) (Row table key)
          → (list : Vec (Cell × S) Z) × Contains lists.entries (xid, list) × Contains (keys_of list.items) (Row table key)
      by xid key None at has = absurd (none_there (Row table key) has)
      by xid key (Some list) at has = (list, Contains-from_lookup (tells_apart nat_cmp-IsAntisymmetric) xid list lists.entries at, has)

  module _ (left : List (ℕ × Vec (Cell × S) Z)) (keys : List Key) where
    -- one list more
    pub one_gathered : (all : List (ℕ × Vec (Cell × S) Z)) (xid : ℕ) (list : Vec (Cell × S) Z) → AreGathered table (cells_held holds) all keys → all ≡ (xid, list) ∷ left
        → tree.get nat_cmp lists xid ≡ Some list → (new : List Key) → AddsKeys table (keys_of list.items) keys new → AreGathered table (cells_held holds) left new
    one_gathered all xid list was is at new adds = record {
      all = λ other key has. elim (was.all other key has) [
        | inl there ↦ inl ((adds key).1 (inl there))
        | inr later ↦ elim (head_or_rest (xid, list) left (other, later.0) (subst (λ (es : List (ℕ × Vec (Cell × S) Z)). Contains es (other, later.0)) is later.1)) [
          | inl same ↦ inl ((adds key).1 (inr (subst (λ (e : ℕ × Vec (Cell × S) Z). Contains (keys_of e.1.items) (Row table key)) (sym same) later.2)))
          | inr still ↦ inr (later.0, still, later.2)
        ]
      ];
      held = λ key has. elim ((adds key).0 has) [
        | inl there ↦ was.held key there
        | inr here ↦ (xid, subst (λ (cells : List Cell). Contains cells (Row table key)) (sym (cells_listed xid list at)) here)
      ];
    }

  -- no list is left
  pub all_gathered : (left : List (ℕ × Vec (Cell × S) Z)) (keys : List Key) → AreGathered table (cells_held holds) left keys → left ≡ [] → (xid : ℕ) (key : Key)
      → Contains (cells_held holds xid) (Row table key) → Contains keys key
  all_gathered left keys was none xid key has = elim (was.all xid key has) [
    | inl there ↦ there
    | inr later ↦ absurd (none_there (xid, later.0) (subst (λ (es : List (ℕ × Vec (Cell × S) Z)). Contains es (xid, later.0)) none later.1))
  ]
