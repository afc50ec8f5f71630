-- Two lists in key order as one: what a look-up finds there, its order and its length.
use Rattle.std.specs.Prelude.{◌≡◌, ℕ, suc, ◌+◌, Bool, true, false, cond, List, [], ◌∷◌, length, Option, Some, None, refl}
use Rattle.std.proofs.Common.{◌∙◌, ap, arith}
use Rattle.std.specs.List.Sorted.{IsStrictlySortedBy}
use Rattle.std.specs.Map.{keys_of}
use Rattle.std.specs.Option.{option_or}
use Rattle.std.specs.Ordering.{is_lt, is_eq, eq_by_cmp, ordering_reverse}
use Rattle.std.specs.declared.cmp.Ordering.{Ordering}
use Rattle.std.specs.declared.cmp.Ordering.TheVariants.{Less, Equal, Greater}
use Rattle.model.specs.declared.key.Key.{Key}
use Rattle.model.specs.Key.{key_cmp, key_cmp_total}
use Rattle.rows.specs.Hashed.{number_for}
use Rattle.rows.specs.KeyLemmas.{same_key}
use Rattle.rows.specs.Run.{placed, merged}
use Rattle.rows.proofs.Runs.{IsBelow, Ascends, IsApart, is_less, below_all}

-- ---- what a look-up finds

or_behind : (b : Bool) (n : ℕ) (o p : Option ℕ) → cond b (Some n) (option_or o p) ≡ option_or (cond b (Some n) o) p
or_behind true n o p = refl
or_behind false n o p = refl

or_before : (b : Bool) (n : ℕ) (o p : Option ℕ) → IsApart o (cond b (Some n) p) → cond b (Some n) (option_or o p) ≡ option_or o (cond b (Some n) p)
or_before true n None p apart = refl
or_before true n (Some m) p apart = absurd (let none = apart m refl in cc)
or_before false n o p apart = refl

-- what is apart from entries is apart from those behind the first
apart_behind : (b : Bool) (n : ℕ) (o p : Option ℕ) → IsApart o (cond b (Some n) p) → IsApart o p
apart_behind true n o p apart = λ m e. absurd (let none = apart m e in cc)
apart_behind false n o p apart = apart

apart_of_others : (b : Bool) (n : ℕ) (o p : Option ℕ) → IsApart (cond b (Some n) o) p → IsApart o p
apart_of_others true n o p apart = λ m e. apart n refl
apart_of_others false n o p apart = apart

module _ (q : Key) where
  module _ (e : Key × ℕ) (rest : List (Key × ℕ) → List (Key × ℕ)) (es : List (Key × ℕ))
      (behind : (fs : List (Key × ℕ)) → IsApart (number_for es q) (number_for fs q) → number_for (rest fs) q ≡ option_or (number_for es q) (number_for fs q)) where
    number-placed_at : (b : Bool) (f : Key × ℕ) (fs gs : List (Key × ℕ)) → IsApart (number_for (e ∷ es) q) (number_for (f ∷ fs) q)
        → number_for gs q ≡ option_or (number_for (e ∷ es) q) (number_for fs q)
        → number_for (cond b (f ∷ gs) (e ∷ rest (f ∷ fs))) q ≡ option_or (number_for (e ∷ es) q) (number_for (f ∷ fs) q)
    number-placed_at true f fs gs apart is =
        ap (cond (eq_by_cmp key_cmp q f.0) (Some f.1)) is
        ∙ or_before (eq_by_cmp key_cmp q f.0) f.1 (number_for (e ∷ es) q) (number_for fs q) apart
    number-placed_at false f fs gs apart is =
        ap (cond (eq_by_cmp key_cmp q e.0) (Some e.1)) (behind (f ∷ fs) (apart_of_others (eq_by_cmp key_cmp q e.0) e.1 (number_for es q) (number_for (f ∷ fs) q) apart))
        ∙ or_behind (eq_by_cmp key_cmp q e.0) e.1 (number_for es q) (number_for (f ∷ fs) q)

    number-placed : (fs : List (Key × ℕ)) → IsApart (number_for (e ∷ es) q) (number_for fs q) → number_for (placed e rest fs) q ≡ option_or (number_for (e ∷ es) q) (number_for fs q)
    number-placed [] apart =
        ap (cond (eq_by_cmp key_cmp q e.0) (Some e.1)) (behind [] (λ n is. refl))
        ∙ or_behind (eq_by_cmp key_cmp q e.0) e.1 (number_for es q) None
    number-placed (f ∷ fs) apart =
        number-placed_at (is_lt (key_cmp f.0 e.0)) f fs (placed e rest fs) apart
        (number-placed fs (apart_behind (eq_by_cmp key_cmp q f.0) f.1 (number_for (e ∷ es) q) (number_for fs q) apart))

  -- a look-up finds what it finds in the first, or else in the second
  pub number-merged : (es fs : List (Key × ℕ)) → IsApart (number_for es q) (number_for fs q) → number_for (merged es fs) q ≡ option_or (number_for es q) (number_for fs q)
  number-merged [] fs apart = refl
  number-merged (e ∷ es) fs apart = number-placed e (merged es) es (λ gs. number-merged es gs) fs apart

-- ---- their order

module _ (key : Key) where
  module _ (e : Key × ℕ) (rest : List (Key × ℕ) → List (Key × ℕ)) (less : key_cmp key e.0 ≡ Less)
      (behind : (fs : List (Key × ℕ)) → IsBelow key (keys_of fs) → IsBelow key (keys_of (rest fs))) where
    below_placed_at : (b : Bool) (f : Key × ℕ) (fs gs : List (Key × ℕ)) → IsBelow key (keys_of (f ∷ fs)) → IsBelow key (keys_of gs) → IsBelow key (keys_of (cond b (f ∷ gs) (e ∷ rest (f ∷ fs))))
    below_placed_at true f fs gs below is = (below.0, is)
    below_placed_at false f fs gs below is = (less, behind (f ∷ fs) below)

    below_placed : (fs : List (Key × ℕ)) → IsBelow key (keys_of fs) → IsBelow key (keys_of (placed e rest fs))
    below_placed [] below = (less, behind [] tt)
    below_placed (f ∷ fs) below = below_placed_at (is_lt (key_cmp f.0 e.0)) f fs (placed e rest fs) below (below_placed fs below.1)

  below_merged : (es fs : List (Key × ℕ)) → IsBelow key (keys_of es) → IsBelow key (keys_of fs) → IsBelow key (keys_of (merged es fs))
  below_merged [] fs below others = others
  below_merged (e ∷ es) fs below others = below_placed e (merged es) below.0 (λ gs. below_merged es gs below.1) fs others

-- no key of the one is in the other
abbrev AreApart : List (Key × ℕ) → List (Key × ℕ) → Type 0
AreApart es fs = (q : Key) → IsApart (number_for es q) (number_for fs q)

is_greater : (r : Ordering) → is_lt r ≡ false → is_eq r ≡ false → r ≡ Greater
is_greater Less e f = absurd cc
is_greater Equal e f = absurd cc
is_greater Greater e f = refl

-- of two keys apart one is below the other
is_above : (f e : Key) → is_lt (key_cmp f e) ≡ false → eq_by_cmp key_cmp f e ≡ false → key_cmp e f ≡ Less
is_above f e above differs = key_cmp_total.antisymm e f ∙ ap ordering_reverse (is_greater (key_cmp f e) above differs)

heads_differ : (e f : Key × ℕ) (es fs : List (Key × ℕ)) → AreApart (e ∷ es) (f ∷ fs) → eq_by_cmp key_cmp f.0 e.0 ≡ false
heads_differ e f es fs apart = differs (eq_by_cmp key_cmp f.0 e.0) refl
  where
    differs : (b : Bool) → eq_by_cmp key_cmp f.0 e.0 ≡ b → eq_by_cmp key_cmp f.0 e.0 ≡ false
    differs false is = is
    differs true is =
        let here : number_for (e ∷ es) f.0 ≡ Some e.1 = ap (λ b. cond b (Some e.1) (number_for es f.0)) is in
        let none = apart f.0 e.1 here in
        let there : number_for (f ∷ fs) f.0 ≡ Some f.1 = ap (λ b. cond b (Some f.1) (number_for fs f.0)) (same_key f.0) in
        absurd cc

module _ (e : Key × ℕ) (rest : List (Key × ℕ) → List (Key × ℕ)) (es : List (Key × ℕ)) (below : IsBelow e.0 (keys_of es))
    (below_rest : (key : Key) → IsBelow key (keys_of es) → (fs : List (Key × ℕ)) → IsBelow key (keys_of fs) → IsBelow key (keys_of (rest fs)))
    (behind : (fs : List (Key × ℕ)) → Ascends (keys_of fs) → AreApart es fs → Ascends (keys_of (rest fs))) where
  ascends_placed_at : (b : Bool) (f : Key × ℕ) (fs gs : List (Key × ℕ)) → is_lt (key_cmp f.0 e.0) ≡ b → Ascends (keys_of (f ∷ fs)) → AreApart (e ∷ es) (f ∷ fs)
      → (key_cmp f.0 e.0 ≡ Less → IsBelow f.0 (keys_of gs)) → Ascends (keys_of gs) → Ascends (keys_of (cond b (f ∷ gs) (e ∷ rest (f ∷ fs))))
  unfolding IsStrictlySortedBy
  ascends_placed_at true f fs gs is ascends apart first others = (first (is_less (key_cmp f.0 e.0) is), others)
  ascends_placed_at false f fs gs is ascends apart first others =
      let less = is_above f.0 e.0 is (heads_differ e f es fs apart) in (
        below_rest e.0 below (f ∷ fs) (less, below_all e.0 f.0 (keys_of fs) less ascends.0),
        behind (f ∷ fs) ascends (λ q. apart_of_others (eq_by_cmp key_cmp q e.0) e.1 (number_for es q) (number_for (f ∷ fs) q) (apart q)),
      )

  ascends_placed : (fs : List (Key × ℕ)) → Ascends (keys_of fs) → AreApart (e ∷ es) fs → Ascends (keys_of (placed e rest fs))
  unfolding IsStrictlySortedBy
  ascends_placed [] ascends apart = (below_rest e.0 below [] tt, behind [] tt (λ q n is. refl))
  ascends_placed (f ∷ fs) ascends apart =
      ascends_placed_at (is_lt (key_cmp f.0 e.0)) f fs (placed e rest fs) refl ascends apart
      (λ less. below_placed f.0 e rest less (below_rest f.0 (below_all f.0 e.0 (keys_of es) less below)) fs ascends.0)
      (ascends_placed fs ascends.1 (λ q. apart_behind (eq_by_cmp key_cmp q f.0) f.1 (number_for (e ∷ es) q) (number_for fs q) (apart q)))

-- the keys of both ascend
pub ascends_merged : (es fs : List (Key × ℕ)) → Ascends (keys_of es) → Ascends (keys_of fs) → ((q : Key) → IsApart (number_for es q) (number_for fs q)) → Ascends (keys_of (merged es fs))
unfolding IsStrictlySortedBy
ascends_merged [] fs ascends others apart = others
ascends_merged (e ∷ es) fs ascends others apart =
    ascends_placed e (merged es) es ascends.0
    (λ key below gs. below_merged key es gs below)
    (λ gs. ascends_merged es gs ascends.1) fs others apart

-- ---- their length

module _ (e : Key × ℕ) (rest : List (Key × ℕ) → List (Key × ℕ)) (n : ℕ) (behind : (fs : List (Key × ℕ)) → length (rest fs) ≡ n + length fs) where
  length-placed_at : (b : Bool) (f : Key × ℕ) (fs gs : List (Key × ℕ)) → length gs ≡ suc n + length fs → length (cond b (f ∷ gs) (e ∷ rest (f ∷ fs))) ≡ suc n + length (f ∷ fs)
  length-placed_at true f fs gs is = omega arith
  length-placed_at false f fs gs is = omega (arith, behind (f ∷ fs))

  length-placed : (fs : List (Key × ℕ)) → length (placed e rest fs) ≡ suc n + length fs
  length-placed [] = omega (arith, behind [])
  length-placed (f ∷ fs) = length-placed_at (is_lt (key_cmp f.0 e.0)) f fs (placed e rest fs) (length-placed fs)

pub length-merged : (es fs : List (Key × ℕ)) → length (merged es fs) ≡ length es + length fs
length-merged [] fs = omega arith
length-merged (e ∷ es) fs = length-placed e (merged es) (length es) (λ gs. length-merged es gs) fs
