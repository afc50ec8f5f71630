-- Numbers by keys in a run and beside it: after a key came or was taken away, and one after another.
use Rattle.std.specs.Prelude.{◌≡◌, ℕ, suc, ◌+◌, ◌<◌, ◌≤◌, ◌^◌, Bool, true, false, cond, List, [], ◌∷◌, ◌++◌, length, Option, Some, None, is_some, refl}
use Rattle.std.proofs.Common.{sym, ◌∙◌, ap, subst, inl, inr, arith}
use Rattle.std.proofs.lemmas.Map.{keys-set_value, length-set_value}
use Rattle.std.specs.BTreeMap.{is_at}
use Rattle.std.specs.Borrow.{Bor}
use Rattle.std.specs.Map.{keys_of, values_of, set_value}
use Rattle.std.specs.Map.Iter.{TakesFirst, deref_pair}
use Rattle.std.specs.Option.{option_or}
use Rattle.std.specs.Ordering.{eq_by_cmp}
use Rattle.model.specs.declared.key.Key.{Key}
use Rattle.model.specs.Key.{key_cmp}
use Rattle.rows.specs.Hashed.{number_for, Renumbers}
use Rattle.rows.specs.KeyLemmas.{one_or_apart, same_key}
use Rattle.rows.specs.Run.{live, merged, IsInOrder, with_ahead, numbers_left}
use Rattle.rows.proofs.Merging.{number-merged, ascends_merged, length-merged}
use Rattle.rows.proofs.Runs.{Ascends, ascends_live, length_live, number_pushed, number_struck}

keys-push : (run : List (Key × Option ℕ)) (key : Key) (number : Option ℕ) → keys_of (run ++ (key, number) ∷ []) ≡ keys_of run ++ key ∷ []
keys-push [] key number = refl
keys-push (e ∷ es) key number = ap (λ keys. e.0 ∷ keys) (keys-push es key number)

length-push : (run : List (Key × Option ℕ)) (e : Key × Option ℕ) → length (run ++ e ∷ []) ≡ length run + 1
length-push [] e = omega arith
length-push (f ∷ fs) e = omega (arith, length-push fs e)

neither : (here there : Option ℕ) → option_or here there ≡ None → (here ≡ None) × (there ≡ None)
neither None there none = (refl, none)
neither (Some n) there none = absurd cc

here_behind : (b : Bool) (n : ℕ) (here there : Option ℕ) → option_or (cond b (Some n) here) there ≡ cond b (Some n) (option_or here there)
here_behind true n here there = refl
here_behind false n here there = refl

none_of_both : (b : Bool) (here there : Option ℕ) → option_or (cond b None here) (cond b None there) ≡ cond b None (option_or here there)
none_of_both true here there = refl
none_of_both false here there = refl

module _ (run : List (Key × Option ℕ)) (beside : List (Key × ℕ)) (was : IsInOrder run beside) where
  in_both : (q : Key) → number_for (merged (live run) beside) q ≡ option_or (number_for (live run) q) (number_for beside q)
  in_both q = number-merged q (live run) beside (was.apart q)

  -- ---- a key came

  module _ (key : Key) (number : ℕ) (absent : number_for (merged (live run) beside) key ≡ None) where
    in_neither : (number_for (live run) key ≡ None) × (number_for beside key ≡ None)
    in_neither = neither (number_for (live run) key) (number_for beside key) (sym (in_both key) ∙ absent)

    -- to the run
    module _ (pushed : List (Key × Option ℕ)) (is : pushed ≡ run ++ (key, Some number) ∷ []) where
      push_renumbers : Renumbers (number_for (live run)) (number_for (live pushed)) key (Some number)
      push_renumbers q =
          ap (λ (es : List (Key × Option ℕ)). number_for (live es) q) is ∙ number_pushed run key number in_neither.0 q

      apart_pushed : (q : Key) (m : ℕ) → number_for (live pushed) q ≡ Some m → number_for beside q ≡ None
      apart_pushed q m found = elim (one_or_apart key q) [
        | inl same ↦ subst (λ (k : Key). number_for beside k ≡ None) same in_neither.1
        | inr apart ↦ was.apart q m (sym (push_renumbers q ∙ ap (λ b. cond b (Some number) (number_for (live run) q)) apart.there) ∙ found)
      ]

      pub in_order_pushed : Ascends (keys_of run ++ key ∷ []) → suc (length run + length beside) < 2 ^ 63 → IsInOrder pushed beside
      in_order_pushed ascends fits = record {
        ascends = subst (λ (keys : List Key). Ascends keys) (sym (ap keys_of is ∙ keys-push run key (Some number))) ascends;
        apart = apart_pushed;
        fits = omega (arith, ap length is, length-push run (key, Some number));
      }

      pub renumbers_pushed : Renumbers (number_for (merged (live run) beside)) (number_for (merged (live pushed) beside)) key (Some number)
      renumbers_pushed q =
          number-merged q (live pushed) beside (apart_pushed q)
          ∙ ap (λ o. option_or o (number_for beside q)) (push_renumbers q)
          ∙ here_behind (eq_by_cmp key_cmp key q) number (number_for (live run) q) (number_for beside q)
          ∙ ap (cond (eq_by_cmp key_cmp key q) (Some number)) (sym (in_both q))

    -- beside the run
    module _ (inserted : List (Key × ℕ)) (renumbers : Renumbers (number_for beside) (number_for inserted) key (Some number)) where
      apart_inserted : (q : Key) (m : ℕ) → number_for (live run) q ≡ Some m → number_for inserted q ≡ None
      apart_inserted q m found = elim (one_or_apart key q) [
        | inl same ↦ absurd (let none : number_for (live run) q ≡ None = subst (λ (k : Key). number_for (live run) k ≡ None) same in_neither.0 in cc)
        | inr apart ↦ renumbers q ∙ ap (λ b. cond b (Some number) (number_for beside q)) apart.there ∙ was.apart q m found
      ]

      pub in_order_inserted : length inserted ≤ length beside + 1 → suc (length run + length beside) < 2 ^ 63 → IsInOrder run inserted
      in_order_inserted more fits = record { ascends = was.ascends; apart = apart_inserted; fits = omega arith }

      pub renumbers_inserted : Renumbers (number_for (merged (live run) beside)) (number_for (merged (live run) inserted)) key (Some number)
      renumbers_inserted q =
          number-merged q (live run) inserted (apart_inserted q) ∙ ap (option_or (number_for (live run) q)) (renumbers q)
          ∙ elim (one_or_apart key q) [
            | inl same ↦
                subst (λ (k : Key). option_or (number_for (live run) k) (cond (eq_by_cmp key_cmp key k) (Some number) (number_for beside k)) ≡ cond (eq_by_cmp key_cmp key k) (Some number) (number_for (merged (live run) beside) k)) same
                (ap (λ b. option_or (number_for (live run) key) (cond b (Some number) (number_for beside key))) (same_key key)
                ∙ ap (λ o. option_or o (Some number)) in_neither.0
                ∙ sym (ap (λ b. cond b (Some number) (number_for (merged (live run) beside) key)) (same_key key)))
            | inr apart ↦
                ap (λ b. option_or (number_for (live run) q) (cond b (Some number) (number_for beside q))) apart.there
                ∙ sym (in_both q)
                ∙ sym (ap (λ b. cond b (Some number) (number_for (merged (live run) beside) q)) apart.there)
          ]

  -- ---- a key was taken away

  module _ (key : Key) where
    -- one that the run has is not beside it
    pub beside_without : is_some (number_for (live run) key) ≡ true → Renumbers (number_for beside) (number_for beside) key None
    beside_without had q = elim (one_or_apart key q) [
      | inl same ↦
          subst (λ (k : Key). number_for beside k ≡ cond (eq_by_cmp key_cmp key k) None (number_for beside k)) same
          (none (number_for (live run) key) refl had ∙ sym (ap (λ b. cond b None (number_for beside key)) (same_key key)))
      | inr apart ↦ sym (ap (λ b. cond b None (number_for beside q)) apart.there)
    ]
      where
        none : (found : Option ℕ) → number_for (live run) key ≡ found → is_some found ≡ true → number_for beside key ≡ None
        none None is some = absurd cc
        none (Some n) is some = was.apart key n is

    module _ (struck : List (Key × Option ℕ)) (is : struck ≡ set_value (is_at (key_cmp key)) run None)
        (left : List (Key × ℕ)) (renumbers : Renumbers (number_for beside) (number_for left) key None) where
      strike_renumbers : Renumbers (number_for (live run)) (number_for (live struck)) key None
      strike_renumbers q =
          ap (λ (es : List (Key × Option ℕ)). number_for (live es) q) is ∙ number_struck key q run was.ascends

      apart_struck : (q : Key) (m : ℕ) → number_for (live struck) q ≡ Some m → number_for left q ≡ None
      apart_struck q m found = elim (one_or_apart key q) [
        | inl same ↦ absurd (let none : number_for (live struck) q ≡ None = strike_renumbers q ∙ ap (λ b. cond b None (number_for (live run) q)) (subst (λ (k : Key). eq_by_cmp key_cmp key k ≡ true) same (same_key key)) in cc)
        | inr apart ↦
            renumbers q ∙ ap (λ b. cond b None (number_for beside q)) apart.there
            ∙ was.apart q m (sym (strike_renumbers q ∙ ap (λ b. cond b None (number_for (live run) q)) apart.there) ∙ found)
      ]

      pub in_order_struck : length left ≤ length beside → IsInOrder struck left
      in_order_struck fewer = record {
        ascends = subst (λ (keys : List Key). Ascends keys) (sym (ap keys_of is ∙ keys-set_value (is_at (key_cmp key)) run None)) was.ascends;
        apart = apart_struck;
        fits = omega (arith, was.fits, ap length is, length-set_value (is_at (key_cmp key)) run None);
      }

      pub renumbers_struck : Renumbers (number_for (merged (live run) beside)) (number_for (merged (live struck) left)) key None
      renumbers_struck q =
          number-merged q (live struck) left (apart_struck q)
          ∙ ap (λ o. option_or o (number_for left q)) (strike_renumbers q)
          ∙ ap (option_or (cond (eq_by_cmp key_cmp key q) None (number_for (live run) q))) (renumbers q)
          ∙ none_of_both (eq_by_cmp key_cmp key q) (number_for (live run) q) (number_for beside q)
          ∙ ap (cond (eq_by_cmp key_cmp key q) None) (sym (in_both q))

  -- ---- the numbers one after another

  pub ascends_in_order : Ascends (keys_of beside) → Ascends (keys_of (merged (live run) beside))
  ascends_in_order ascends = ascends_merged (live run) beside (ascends_live run was.ascends) ascends was.apart

-- the first and what follows it
with_first : (ahead : Option (Bor Key × Bor ℕ)) (all left : List (Key × ℕ)) → TakesFirst (deref_pair {K = Key} {X = ℕ}) all ahead left → with_ahead ahead left ≡ all
with_first None all left takes = sym takes.0
with_first (Some e) all left takes = sym takes

length_values : (es : List (Key × ℕ)) → length (values_of es) ≡ length es
length_values [] = refl
length_values (e ∷ es) = omega (arith, length_values es)

pub length-numbers_left : (run : List (Key × Option ℕ)) (ahead : Option (Bor Key × Bor ℕ)) (all left : List (Key × ℕ)) → TakesFirst (deref_pair {K = Key} {X = ℕ}) all ahead left
    → length (numbers_left run ahead left) ≤ length run + length all
length-numbers_left run ahead all left takes =
    rw (with_first ahead all left takes)
    (omega (arith, length_values (merged (live run) all), length-merged (live run) all, length_live run))
