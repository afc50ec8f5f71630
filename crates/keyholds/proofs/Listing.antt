-- The lists of transactions as their finite map, and after a change of one of them.
use Rattle.std.specs.Prelude.{◌≡◌, ◌≢◌, ℕ, length, Bool, true, false, cond, List, [], ◌∷◌, Option, Some, None, Vec, refl, unwrap_or}
use Rattle.std.proofs.Common.{sym, ◌∙◌, ap}
use Rattle.std.specs.Ordering.{nat_cmp, eq_by_cmp}
use Rattle.std.specs.Cmp.{nat_cmp_total}
use Rattle.std.specs.Option.{option_map}
use Rattle.std.specs.Map.{lookup}
use Rattle.std.specs.BTreeMap as tree
use Rattle.std.specs.BTreeMap.{BTreeMap, is_at, Updates}
use Rattle.std.specs.FinMap.{FinMap, get, get-insert, get-remove, get-empty, same_map, nat_cmp-IsAntisymmetric}
use Rattle.std.proofs.lemmas.List.{nil_from_length}
use Rattle.std.proofs.lemmas.Map.Made.{lookup-map_values}
use Rattle.model.specs.declared.cell.Cell.{Cell}
use Rattle.keyholds.specs.Holds.{holds_of, HasNoEmptyList}
use Rattle.keyholds.specs.Lists.{with_list, lists_in, lists_seen, items_in, listed, SetsList}
use Rattle.keyholds.proofs.Ties.{updated_here, updated_beside}

module _ {X : Type 0} where
  -- the list, if it isn't empty
  filled : List X → Option (List X)
  filled [] = None
  filled (x ∷ xs) = Some (x ∷ xs)

  get-with_list : (m : FinMap nat_cmp (List X)) (xid : ℕ) (xs : List X) (q : ℕ) → get (with_list m xid xs) q ≡ cond (eq_by_cmp nat_cmp q xid) (filled xs) (get m q)
  unfolding filled
  get-with_list m xid [] q = get-remove nat_cmp_total m xid q
  get-with_list m xid (x ∷ xs) q = get-insert nat_cmp_total m xid (x ∷ xs) q

  filled_of_cond : (b : Bool) (xs : List X) (o : Option (List X)) → cond b (filled xs) (filled (unwrap_or o [])) ≡ filled (unwrap_or (cond b (Some xs) o) [])
  filled_of_cond true xs o = refl
  filled_of_cond false xs o = refl

  get-lists_in : (es : List (ℕ × List X)) (q : ℕ) → get (lists_in es) q ≡ filled (unwrap_or (lookup (is_at (nat_cmp q)) es) [])
  unfolding filled
  get-lists_in [] q = get-empty nat_cmp q
  get-lists_in (e ∷ es) q =
      get-with_list (lists_in es) e.0 e.1 q ∙ ap (cond (eq_by_cmp nat_cmp q e.0) (filled e.1)) (get-lists_in es q) ∙ filled_of_cond (eq_by_cmp nat_cmp q e.0) e.1 (lookup (is_at (nat_cmp q)) es)

  unwrap_or-filled : (xs : List X) → unwrap_or (filled xs) [] ≡ xs
  unfolding filled
  unwrap_or-filled [] = refl
  unwrap_or-filled (x ∷ xs) = refl

  never_empty : (xs : List X) → filled xs ≡ Some [] → ⊥
  unfolding filled
  never_empty [] e = absurd cc
  never_empty (x ∷ xs) e = absurd cc

  filled_same : (o p : Option (List X)) → o ≢ Some [] → p ≢ Some [] → unwrap_or o [] ≡ unwrap_or p [] → o ≡ p
  filled_same None None a b e = refl
  filled_same None (Some xs) a b e = absurd (b (ap Some (sym e)))
  filled_same (Some xs) None a b e = absurd (a (ap Some e))
  filled_same (Some xs) (Some ys) a b e = ap Some e

module _ {X Z : Type 0} where
  items_of_map : (o : Option (Vec X Z)) → unwrap_or (option_map (λ v. v.items) o) [] ≡ items_in o
  items_of_map None = refl
  items_of_map (Some v) = refl

  pub get-lists_seen : (lists : BTreeMap ℕ (Vec X Z)) (xid : ℕ) → unwrap_or (get (lists_seen lists) xid) [] ≡ listed lists xid
  get-lists_seen lists xid =
      ap (λ o. unwrap_or o []) (get-lists_in _ xid) ∙ unwrap_or-filled _
      ∙ ap (λ o. unwrap_or o []) (lookup-map_values (λ (v : Vec X Z). v.items) (is_at (nat_cmp xid)) lists.entries) ∙ items_of_map (lookup (is_at (nat_cmp xid)) lists.entries)

  -- a map with no entries has no list
  pub no_lists : (lists : BTreeMap ℕ (Vec X Z)) → lists.entries ≡ [] → (xid : ℕ) → unwrap_or (get (lists_seen lists) xid) [] ≡ []
  no_lists lists none xid = get-lists_seen lists xid ∙ ap (λ (es : List (ℕ × Vec X Z)). items_in (lookup (is_at (nat_cmp xid)) es)) none

  pub no_entries : (lists : BTreeMap ℕ (Vec X Z)) → length lists.entries ≡ 0 → (xid : ℕ) → unwrap_or (get (lists_seen lists) xid) [] ≡ []
  no_entries lists none = no_lists lists (nil_from_length lists.entries none)

  pub lists_seen_filled : (lists : BTreeMap ℕ (Vec X Z)) (xid : ℕ) → get (lists_seen lists) xid ≢ Some []
  lists_seen_filled lists xid e = never_empty _ (sym (get-lists_in _ xid) ∙ e)

  -- after the list was written, or went
  pub sets_list : (old new : BTreeMap ℕ (Vec X Z)) (xid : ℕ) (w : Option (Vec X Z)) → Updates nat_cmp old new xid w → SetsList xid (items_in w) old new
  sets_list old new xid w step = record {
    here = ap items_in (updated_here (tree.get nat_cmp old) (tree.get nat_cmp new) xid w step.0 nat_cmp_total);
    beside = λ other apart. ap items_in (updated_beside (tree.get nat_cmp old) (tree.get nat_cmp new) xid w step.0 nat_cmp-IsAntisymmetric other apart);
  }

module _ {S : Type 0} where
  -- maps with no empty list, in which each transaction holds the same, are equal
  pub same_holds : (m n : FinMap nat_cmp (List (Cell × S))) → HasNoEmptyList m → HasNoEmptyList n → ((xid : ℕ) → holds_of m xid ≡ holds_of n xid) → m ≡ n
  same_holds m n a b same = same_map nat_cmp_total nat_cmp-IsAntisymmetric m n (λ xid. filled_same (get m xid) (get n xid) (a xid) (b xid) (same xid))
