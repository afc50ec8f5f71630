-- The keys by their slots' numbers, after a slot is made or dropped.
use Rattle.std.specs.Prelude.{◌≡◌, ◌≢◌, ℕ, Option, Some, None, refl, ◌⊎◌, Bool, true, false, cond, if◌then◌else◌}
use Rattle.std.proofs.Common.{sym, ◌∙◌, ap, subst, inl, inr, arith}
use Rattle.slab.specs.Slab as slab
use Rattle.slab.specs.Slab.{Slab, SameValues}
use Rattle.std.specs.FinMap.{FinMap, get, insert, remove}
use Rattle.model.specs.declared.key.Key.{Key}
use Rattle.model.specs.Key.{key_cmp}
use Rattle.rows.specs.Ordered.{IsNamed}
use Rattle.rows.specs.KeyLemmas.{one_or_apart, get_inserted, get_beside_insert, get_removed, get_beside_remove, same_at_and_beside}

same_or_not : (n m : ℕ) → (n ≡ m) ⊎ (n ≢ m)
same_or_not n m = grind arith

-- the same keys stand at the same numbers
pub named_again : (slots : FinMap key_cmp ℕ) (keys changed : Slab Key) → IsNamed slots keys → SameValues keys changed → IsNamed slots changed
named_again slots keys changed was same = record {
  named = λ key number e. same number ∙ was.named key number e;
  names = λ key number e. was.names key number (sym (same number) ∙ e);
}

module _ (slots : FinMap key_cmp ℕ) (keys changed : Slab Key) (was : IsNamed slots keys)
    (at : ℕ) (others : (other : ℕ) → other ≢ at → slab.get changed other ≡ slab.get keys other) where
  pub named_after_insert : (key : Key) → slab.get keys at ≡ None → get slots key ≡ None → slab.get changed at ≡ Some key → IsNamed (insert slots key at) changed
  named_after_insert key free absent named = record {
    named = λ other number e. elim (one_or_apart key other) [
      | inl same ↦
          let there : get (insert slots key at) other ≡ Some at = subst (λ (k : Key). get (insert slots key at) k ≡ Some at) same (get_inserted slots key at) in
          let number_is : at ≡ number = cc in
          ap (slab.get changed) (sym number_is) ∙ named ∙ ap Some same
      | inr apart ↦
          let old = was.named other number (sym (get_beside_insert slots key at other apart) ∙ e) in
          others number (λ same. absurd (let none : slab.get keys number ≡ None = ap (slab.get keys) same ∙ free in cc)) ∙ old
    ];
    names = λ other number e. elim (same_or_not number at) [
      | inl same ↦
          let named_too : slab.get changed number ≡ Some key = ap (slab.get changed) same ∙ named in
          let key_is : key ≡ other = cc in
          subst (λ (k : Key). get (insert slots key at) k ≡ Some number) key_is (get_inserted slots key at ∙ ap Some (sym same))
      | inr differs ↦
          let old = was.names other number (sym (others number differs) ∙ e) in
          elim (one_or_apart key other) [
            | inl same ↦ absurd (let gone : get slots other ≡ None = ap (get slots) (sym same) ∙ absent in cc)
            | inr apart ↦ get_beside_insert slots key at other apart ∙ old
          ]
    ];
  }

  pub named_after_remove : (key : Key) → get slots key ≡ Some at → slab.get changed at ≡ None → IsNamed (remove slots key) changed
  named_after_remove key there gone = record {
    named = λ other number e. elim (one_or_apart key other) [
      | inl same ↦ absurd (let none : get (remove slots key) other ≡ None = subst (λ (k : Key). get (remove slots key) k ≡ None) same (get_removed slots key) in cc)
      | inr apart ↦
          let slot = sym (get_beside_remove slots key other apart) ∙ e in
          let old = was.named other number slot in
          elim (same_or_not number at) [
            | inl same ↦
                let mine = was.named key at there in
                let mine_too : slab.get keys number ≡ Some key = ap (slab.get keys) same ∙ mine in
                let one : key ≡ other = cc in
                let none : get (remove slots key) other ≡ None = subst (λ (k : Key). get (remove slots key) k ≡ None) one (get_removed slots key) in
                absurd cc
            | inr differs ↦ others number differs ∙ old
          ]
    ];
    names = λ other number e. elim (same_or_not number at) [
      | inl same ↦ absurd (let none : slab.get changed number ≡ None = ap (slab.get changed) same ∙ gone in cc)
      | inr differs ↦
          let old = was.names other number (sym (others number differs) ∙ e) in
          elim (one_or_apart key other) [
            | inl same ↦ absurd (let mine : get slots other ≡ Some at = ap (get slots) (sym same) ∙ there in let one : number ≡ at = cc in differs one)
            | inr apart ↦ get_beside_remove slots key other apart ∙ old
          ]
    ];
  }

settled_names : (slots : FinMap key_cmp ℕ) (keys changed : Slab Key) → IsNamed slots keys → (key : Key) (filled : Bool) (dropped : Option ℕ) (slot : Option ℕ)
    → get slots key ≡ slot → dropped ≡ cond filled None slot
    → ((other : ℕ) → dropped ≢ Some other → slab.get changed other ≡ slab.get keys other)
    → ((other : ℕ) → dropped ≡ Some other → slab.get changed other ≡ None)
    → IsNamed (if filled then slots else remove slots key) changed
settled_names slots keys changed was key true dropped slot at is others gone =
    let same : (other : ℕ) → slab.get changed other ≡ slab.get keys other = λ other. others other (λ e. absurd cc) in
    named_again slots keys changed was same
settled_names slots keys changed was key false dropped None at is others gone =
    let same : (other : ℕ) → slab.get changed other ≡ slab.get keys other = λ other. others other (λ e. absurd cc) in
    let unchanged : remove slots key ≡ slots =
    same_at_and_beside _ _ key (get_removed slots key ∙ sym at) (λ other apart. get_beside_remove slots key other apart) in
    subst (λ (m : FinMap key_cmp ℕ). IsNamed m changed) (sym unchanged)
    (named_again slots keys changed was same)
settled_names slots keys changed was key false dropped (Some n) at is others gone =
    named_after_remove slots keys changed was n (λ other differs. others other (λ e. differs (let one : n ≡ other = cc in sym one))) key at (gone n is)

-- after the slot was dropped if it was empty
pub named_after_settle : (slots : FinMap key_cmp ℕ) (keys changed : Slab Key) → IsNamed slots keys → (key : Key) (filled : Bool) (dropped : Option ℕ)
    → dropped ≡ cond filled None (get slots key)
    → ((other : ℕ) → dropped ≢ Some other → slab.get changed other ≡ slab.get keys other)
    → ((other : ℕ) → dropped ≡ Some other → slab.get changed other ≡ None)
    → IsNamed (if filled then slots else remove slots key) changed
named_after_settle slots keys changed was key filled dropped is others gone =
    settled_names slots keys changed was key filled dropped (get slots key) refl is others gone

-- no two slots have one number
pub numbered : (slots : FinMap key_cmp ℕ) (keys : Slab Key) → IsNamed slots keys → (key other : Key) (number : ℕ) → get slots key ≡ Some number → get slots other ≡ Some number → key ≡ other
numbered slots keys is key other number e f =
    let one = is.named key number e in
    let two = is.named other number f in
    cc
