-- Keys in a run and beside it: their order, what a look-up finds, and after a key came or was struck.
use Rattle.std.specs.Prelude.{◌≡◌, ℕ, suc, ◌≤◌, Bool, true, false, cond, List, [], ◌∷◌, ◌++◌, length, Option, Some, None, is_some, refl}
use Rattle.std.proofs.Common.{sym, ◌∙◌, ap, subst, inl, inr, arith}
use Rattle.std.specs.BTreeMap.{is_at}
use Rattle.std.specs.List.{AllByRecursion, filter}
use Rattle.std.specs.List.Sorted.{IsStrictlySortedBy}
use Rattle.std.specs.Map.{keys_of, set_value}
use Rattle.std.specs.Option.{option_or}
use Rattle.std.specs.Ordering.{is_lt, is_eq, eq_by_cmp}
use Rattle.std.specs.declared.cmp.Ordering.{Ordering}
use Rattle.std.specs.declared.cmp.Ordering.TheVariants.{Less, Equal, Greater}
use Rattle.model.specs.declared.key.Key.{Key}
use Rattle.model.specs.Key.{key_cmp, key_cmp_total}
use Rattle.rows.specs.Hashed.{number_for, Renumbers}
use Rattle.rows.specs.KeyLemmas.{one_or_apart, same_key}
use Rattle.rows.specs.Run.{live_at, live}

-- a key is below each of these
abbrev pub IsBelow : Key → List Key → Type 0
IsBelow key keys = AllByRecursion (λ other. key_cmp key other ≡ Less) keys

-- these keys ascend
abbrev pub Ascends : List Key → Type 0
Ascends keys = IsStrictlySortedBy key_cmp keys

-- what is found in one of two is not found in the other
abbrev pub IsApart : Option ℕ → Option ℕ → Type 0
IsApart here there = (number : ℕ) → here ≡ Some number → there ≡ None

pub is_less : (r : Ordering) → is_lt r ≡ true → r ≡ Less
is_less Less e = refl
is_less Equal e = absurd cc
is_less Greater e = absurd cc

pub below_all : (key other : Key) (keys : List Key) → key_cmp key other ≡ Less → IsBelow other keys → IsBelow key keys
below_all key other [] less below = tt
below_all key other (k ∷ keys) less below = (key_cmp_total.trans key other k less below.0, below_all key other keys less below.1)

pub not_found : (key : Key) (es : List (Key × ℕ)) → IsBelow key (keys_of es) → number_for es key ≡ None
not_found key [] below = refl
not_found key (e ∷ es) below = ap (λ r. cond (is_eq r) (Some e.1) (number_for es key)) below.0 ∙ not_found key es below.1

-- ---- the keys that were not struck

below_at : (key other : Key) (number : Option ℕ) (es : List (Key × ℕ)) → key_cmp key other ≡ Less → IsBelow key (keys_of es) → IsBelow key (keys_of (live_at other number es))
below_at key other None es less below = below
below_at key other (Some n) es less below = (less, below)

pub below_live : (key : Key) (run : List (Key × Option ℕ)) → IsBelow key (keys_of run) → IsBelow key (keys_of (live run))
below_live key [] below = tt
below_live key (e ∷ es) below = below_at key e.0 e.1 (live es) below.0 (below_live key es below.1)

ascends_at : (key : Key) (number : Option ℕ) (es : List (Key × ℕ)) → IsBelow key (keys_of es) → Ascends (keys_of es) → Ascends (keys_of (live_at key number es))
unfolding IsStrictlySortedBy
ascends_at key None es below ascends = ascends
ascends_at key (Some n) es below ascends = (below, ascends)

pub ascends_live : (run : List (Key × Option ℕ)) → Ascends (keys_of run) → Ascends (keys_of (live run))
unfolding IsStrictlySortedBy
ascends_live [] ascends = tt
ascends_live (e ∷ es) ascends = ascends_at e.0 e.1 (live es) (below_live e.0 es ascends.0) (ascends_live es ascends.1)

length_at : (key : Key) (number : Option ℕ) (es : List (Key × ℕ)) (n : ℕ) → length es ≤ n → length (live_at key number es) ≤ suc n
length_at key None es n le = omega arith
length_at key (Some number) es n le = omega arith

pub length_live : (run : List (Key × Option ℕ)) → length (live run) ≤ length run
length_live [] = omega arith
length_live (e ∷ es) = length_at e.0 e.1 (live es) (length es) (length_live es)

-- what a look-up finds at a key's place and behind it
abbrev pub found_at : Bool → Option ℕ → Option ℕ → Option ℕ
found_at here None others = others
found_at here (Some n) others = cond here (Some n) others

pub number_at : (key : Key) (number : Option ℕ) (es : List (Key × ℕ)) (q : Key) → number_for (live_at key number es) q ≡ found_at (eq_by_cmp key_cmp q key) number (number_for es q)
number_at key None es q = refl
number_at key (Some n) es q = refl

-- a key that was struck, or is another's, is passed over
pub found_past : (number : Option ℕ) (others : Option ℕ) → found_at false number others ≡ others
found_past None others = refl
found_past (Some n) others = refl

-- ---- a key came to the end of a run

live_at-append : (key : Key) (number : Option ℕ) (es fs : List (Key × ℕ)) → live_at key number (es ++ fs) ≡ live_at key number es ++ fs
live_at-append key None es fs = refl
live_at-append key (Some n) es fs = refl

live-push : (run : List (Key × Option ℕ)) (key : Key) (number : ℕ) → live (run ++ (key, Some number) ∷ []) ≡ live run ++ (key, number) ∷ []
live-push [] key number = refl
live-push (e ∷ es) key number = ap (live_at e.0 e.1) (live-push es key number) ∙ live_at-append e.0 e.1 (live es) ((key, number) ∷ [])

number-push : (es : List (Key × ℕ)) (key : Key) (number : ℕ) (q : Key) → number_for (es ++ (key, number) ∷ []) q ≡ option_or (number_for es q) (cond (eq_by_cmp key_cmp q key) (Some number) None)
number-push [] key number q = refl
number-push (e ∷ es) key number q = ap (cond (eq_by_cmp key_cmp q e.0) (Some e.1)) (number-push es key number q) ∙ at (eq_by_cmp key_cmp q e.0)
  where
    at : (b : Bool) → cond b (Some e.1) (option_or (number_for es q) (cond (eq_by_cmp key_cmp q key) (Some number) None))
        ≡ option_or (cond b (Some e.1) (number_for es q)) (cond (eq_by_cmp key_cmp q key) (Some number) None)
    at true = refl
    at false = refl

or_none : (o : Option ℕ) → option_or o None ≡ o
or_none None = refl
or_none (Some n) = refl

pub number_pushed : (run : List (Key × Option ℕ)) (key : Key) (number : ℕ) → number_for (live run) key ≡ None
    → Renumbers (number_for (live run)) (number_for (live (run ++ (key, Some number) ∷ []))) key (Some number)
number_pushed run key number absent q =
    ap (λ (es : List (Key × ℕ)). number_for es q) (live-push run key number) ∙ number-push (live run) key number q
    ∙ elim (one_or_apart key q) [
      | inl same ↦
          subst (λ (k : Key). option_or (number_for (live run) k) (cond (eq_by_cmp key_cmp k key) (Some number) None) ≡ cond (eq_by_cmp key_cmp key k) (Some number) (number_for (live run) k)) same
          (ap (λ o. option_or o (cond (eq_by_cmp key_cmp key key) (Some number) None)) absent
          ∙ ap (λ b. cond b (Some number) None) (same_key key)
          ∙ sym (ap (λ b. cond b (Some number) (number_for (live run) key)) (same_key key)))
      | inr apart ↦
          ap (λ b. option_or (number_for (live run) q) (cond b (Some number) None)) apart.back ∙ or_none (number_for (live run) q)
          ∙ sym (ap (λ b. cond b (Some number) (number_for (live run) q)) apart.there)
    ]

-- ---- a key of a run was struck

module _ (key q : Key) where
  struck_here : (at : Key) (number : Option ℕ) (es : List (Key × ℕ)) → key ≡ at → IsBelow at (keys_of es)
      → number_for es q ≡ cond (eq_by_cmp key_cmp key q) None (found_at (eq_by_cmp key_cmp q at) number (number_for es q))
  struck_here at number es is below =
      elim (one_or_apart key q) [
        | inl same ↦
            not_found q es (subst (λ (k : Key). IsBelow k (keys_of es)) (sym is ∙ same) below)
            ∙ sym (ap (λ b. cond b None (found_at (eq_by_cmp key_cmp q at) number (number_for es q))) (subst (λ (k : Key). eq_by_cmp key_cmp key k ≡ true) same (same_key key)))
        | inr apart ↦
            sym (ap (λ b. found_at b number (number_for es q)) (subst (λ (k : Key). eq_by_cmp key_cmp q k ≡ false) is apart.back) ∙ found_past number (number_for es q))
            ∙ sym (ap (λ b. cond b None (found_at (eq_by_cmp key_cmp q at) number (number_for es q))) apart.there)
      ]

  struck_past : (at : Key) (number : Option ℕ) (found : Option ℕ) → eq_by_cmp key_cmp key at ≡ false
      → found_at (eq_by_cmp key_cmp q at) number (cond (eq_by_cmp key_cmp key q) None found)
      ≡ cond (eq_by_cmp key_cmp key q) None (found_at (eq_by_cmp key_cmp q at) number found)
  struck_past at number found other =
      elim (one_or_apart key q) [
        | inl same ↦
            let here : eq_by_cmp key_cmp key q ≡ true = subst (λ (k : Key). eq_by_cmp key_cmp key k ≡ true) same (same_key key) in
            ap (λ b. found_at (eq_by_cmp key_cmp q at) number (cond b None found)) here
            ∙ ap (λ b. found_at b number None) (subst (λ (k : Key). eq_by_cmp key_cmp k at ≡ false) same other) ∙ found_past number None
            ∙ sym (ap (λ b. cond b None (found_at (eq_by_cmp key_cmp q at) number found)) here)
        | inr apart ↦
            ap (λ b. found_at (eq_by_cmp key_cmp q at) number (cond b None found)) apart.there
            ∙ sym (ap (λ b. cond b None (found_at (eq_by_cmp key_cmp q at) number found)) apart.there)
      ]

  struck_at : (b : Bool) (e : Key × Option ℕ) (es fs : List (Key × Option ℕ)) → eq_by_cmp key_cmp key e.0 ≡ b → IsBelow e.0 (keys_of es)
      → number_for (live fs) q ≡ cond (eq_by_cmp key_cmp key q) None (number_for (live es) q)
      → number_for (live (cond b ((e.0, None) ∷ es) (e ∷ fs))) q ≡ cond (eq_by_cmp key_cmp key q) None (number_for (live (e ∷ es)) q)
  struck_at true e es fs here below behind =
      elim (one_or_apart key e.0) [
        | inl is ↦
            struck_here e.0 e.1 (live es) is (below_live e.0 es below)
            ∙ ap (cond (eq_by_cmp key_cmp key q) None) (sym (number_at e.0 e.1 (live es) q))
        | inr apart ↦ absurd (let no = apart.there in cc)
      ]
  struck_at false e es fs other below behind =
      number_at e.0 e.1 (live fs) q ∙ ap (found_at (eq_by_cmp key_cmp q e.0) e.1) behind
      ∙ struck_past e.0 e.1 (number_for (live es) q) other
      ∙ ap (cond (eq_by_cmp key_cmp key q) None) (sym (number_at e.0 e.1 (live es) q))

  none_either_way : (b : Bool) (found : Option ℕ) → found ≡ cond b found found
  none_either_way true found = refl
  none_either_way false found = refl

  pub number_struck : (run : List (Key × Option ℕ)) → Ascends (keys_of run)
      → number_for (live (set_value (is_at (key_cmp key)) run None)) q ≡ cond (eq_by_cmp key_cmp key q) None (number_for (live run) q)
  unfolding IsStrictlySortedBy
  number_struck [] ascends = none_either_way (eq_by_cmp key_cmp key q) None
  number_struck (e ∷ es) ascends =
      struck_at (eq_by_cmp key_cmp key e.0) e es (set_value (is_at (key_cmp key)) es None) refl ascends.0 (number_struck es ascends.1)

-- ---- a run was packed

packed_at : (key : Key) (number : Option ℕ) (fs : List (Key × Option ℕ)) (es : List (Key × ℕ)) → live fs ≡ es → live (cond (is_some number) ((key, number) ∷ fs) fs) ≡ live_at key number es
packed_at key None fs es same = same
packed_at key (Some n) fs es same = ap (λ xs. (key, n) ∷ xs) same

pub live-packed : (run : List (Key × Option ℕ)) → live (filter (λ e. is_some e.1) run) ≡ live run
live-packed [] = refl
live-packed (e ∷ es) = packed_at e.0 e.1 (filter (λ e. is_some e.1) es) (live es) (live-packed es)

below_kept : (key : Key) (b : Bool) (e : Key × Option ℕ) (fs : List (Key × Option ℕ)) → key_cmp key e.0 ≡ Less → IsBelow key (keys_of fs) → IsBelow key (keys_of (cond b (e ∷ fs) fs))
below_kept key true e fs less below = (less, below)
below_kept key false e fs less below = below

below_packed : (key : Key) (run : List (Key × Option ℕ)) → IsBelow key (keys_of run) → IsBelow key (keys_of (filter (λ e. is_some e.1) run))
below_packed key [] below = tt
below_packed key (e ∷ es) below = below_kept key (is_some e.1) e (filter (λ e. is_some e.1) es) below.0 (below_packed key es below.1)

ascends_kept : (b : Bool) (e : Key × Option ℕ) (fs : List (Key × Option ℕ)) → IsBelow e.0 (keys_of fs) → Ascends (keys_of fs) → Ascends (keys_of (cond b (e ∷ fs) fs))
unfolding IsStrictlySortedBy
ascends_kept true e fs below ascends = (below, ascends)
ascends_kept false e fs below ascends = ascends

pub ascends_packed : (run : List (Key × Option ℕ)) → Ascends (keys_of run) → Ascends (keys_of (filter (λ e. is_some e.1) run))
unfolding IsStrictlySortedBy
ascends_packed [] ascends = tt
ascends_packed (e ∷ es) ascends = ascends_kept (is_some e.1) e (filter (λ e. is_some e.1) es) (below_packed e.0 es ascends.0) (ascends_packed es ascends.1)
