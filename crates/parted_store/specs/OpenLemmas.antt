-- Who is open, counted: different transactions that are open, as many as are, are all that are.
--     counted_all      so it is with the numbers of a list
--     open_all      with those of a finite map
use Rattle.std.proofs.Common.{◌≡◌, ℕ, Bool, true, false, ◌||◌, List, [], ◌∷◌, refl, sym, ap, ◌∙◌, arith, inl, inr, length, is_some, true≢false}
use Rattle.std.specs.Prelude.{All}
use Rattle.std.specs.List.{Contains, IsDistinct, AllByRecursion, list_any}
use Rattle.std.specs.Ordering.{nat_cmp}
use Rattle.std.specs.Cmp.{nat_cmp_total, unsigned_tied}
use Rattle.std.specs.FinMap as finite
use Rattle.std.specs.FinMap.{FinMap, get}
use Rattle.std.proofs.lemmas.Bool.{cases_Bool}
use Rattle.std.proofs.lemmas.Cmp.{eq_by_cmp_equiv}
use Rattle.std.proofs.lemmas.List.{length-map}
use Rattle.std.proofs.lemmas.List.Elements.{All-cons, All-contains}
use Rattle.std.proofs.lemmas.Map.Made.{length-le_from_is_member}
use Rattle.std.proofs.lemmas.Map.Views.{Contains-from_any, exact_unsigned_eq}
use Rattle.world.specs.World.{is_xid}

xid_is : (xid other : ℕ) → is_xid xid other ≡ true → xid ≡ other
xid_is xid other same = exact_unsigned_eq xid other (sym (unsigned_tied xid other) ∙ same)

-- it is none of these
apart_each : (xid : ℕ) (xids : List ℕ) → list_any (is_xid xid) xids ≡ false → AllByRecursion (λ other. is_xid xid other ≡ false) xids
apart_each xid [] none = tt
apart_each xid (other ∷ xids) none =
    elim (cases_Bool (is_xid xid other)) [
      | inl same ↦ absurd (true≢false (sym (ap (λ b. b || list_any (is_xid xid) xids) same) ∙ none))
      | inr differs ↦ (differs, apart_each xid xids (sym (ap (λ b. b || list_any (is_xid xid) xids) differs) ∙ none))
    ]

-- one more that differs
one_more : (xid : ℕ) (xids : List ℕ) → list_any (is_xid xid) xids ≡ false → IsDistinct is_xid xids → IsDistinct is_xid (xid ∷ xids)
unfolding IsDistinct
one_more xid xids none distinct = (apart_each xid xids none, distinct)

module _ (is_there : ℕ → Bool) (all : List ℕ) (lists : (xid : ℕ) → is_there xid ≡ list_any (is_xid xid) all) where
  pub counted_all : (xids : List ℕ) → IsDistinct is_xid xids → All (λ xid. is_there xid ≡ true) xids → length xids ≡ length all
      → (xid : ℕ) → is_there xid ≡ true → Contains xids xid
  counted_all xids distinct each many xid there =
      elim (cases_Bool (list_any (is_xid xid) xids)) [
        | inl found ↦ Contains-from_any xid_is xid xids found
        | inr none ↦
            absurd (
            let fewer =
            length-le_from_is_member (eq_by_cmp_equiv nat_cmp_total) (xid ∷ xids) all (one_more xid xids none distinct) (λ other found.
            sym (lists other)
            ∙ All-contains (λ x. is_there x ≡ true) (xid ∷ xids) other (All-cons (λ x. is_there x ≡ true) xid xids there each)
            (Contains-from_any xid_is other (xid ∷ xids) found)) in
            omega (arith, fewer, many))
      ]

pub open_all : {X : Type 0} (m : FinMap nat_cmp X) (xids : List ℕ) → IsDistinct is_xid xids → All (λ xid. is_some (get m xid) ≡ true) xids
    → length xids ≡ finite.len m → (xid : ℕ) → is_some (get m xid) ≡ true → Contains xids xid
open_all m xids distinct each many =
    counted_all (λ xid. is_some (get m xid)) (finite.keys m) (finite.contains_key-keys m) xids distinct each
    (many ∙ finite.len-entries m ∙ sym (length-map (finite.entries m) _))
