-- A slot is taken or given back: the slots of a ring, read from its head on.
use Rattle.std.proofs.Common.{◌≡◌, ℕ, suc, ◌+◌, ◌%◌, ◌<◌, ◌≤◌, ◌≢◌, Bool, true, false, List, [], ◌∷◌, ◌++◌, length, set, sym, refl, ap, ◌∙◌, subst, ⊎_elim, arith, length-append, length-set, mod-lt, Option, Some, None}
use mathlib.Core.Option.{none, some}
use mathlib.Core.Option as maybe
use mathlib.Core.Logic.{dite}
use native.Mathlib.Decide.{dec_le, ℕ_discrete}
use native.Mathlib.Nat.{add-mod_right}
use lib.ListN.{get_elem?}
use Rattle.atomic_table.proofs.Lists.{set_here, set_else, one_turn}
use Rattle.ring.specs.Flow.{Slots}
use Rattle.ring.proofs.Lists.{within, at_end}

-- of places less than n behind a head, two that are one slot are one place
same_place : (n h p q : ℕ) → p < n → q < n → (h + p) % n ≡ (h + q) % n → p ≡ q
same_place n h p q a b e = dite (dec_le p q)
    (λ le. let k : h + p ≡ h + q = one_turn (h + p) (h + q) n (omega arith) (omega arith) e in omega arith)
    (λ above. let k : h + q ≡ h + p = one_turn (h + q) (h + p) n (omega arith) (omega arith) (sym e) in omega arith)

elsewhere : (n h p q : ℕ) → p < n → q < n → p ≢ q → (h + p) % n ≢ (h + q) % n
elsewhere n h p q a b ne e = ne (same_place n h p q a b e)

module _ {T : Type 0} where
  -- the free slot behind the last item is taken
  pub claims : (n : ℕ) (homes : List (maybe.Option (Option T))) (h : ℕ) (left : List T) (reading : Bool)
      → Slots n homes h left false reading → length left < n
      → Slots n (set homes ((h + length left) % n) none) h left true reading
  claims n homes h left reading s room = record {
    wide = length-set homes ((h + length left) % n) none ∙ s.wide;
    some_slot = s.some_slot;
    fits = s.fits;
    room = λ _. room;
    full = λ p x at first. let below : p < length left = within left p x at in
        set_else homes ((h + length left) % n) ((h + p) % n) none (elsewhere n h p (length left) (omega arith) room (λ e. omega arith)) ∙ s.full p x at first;
    free = λ p le lt later. let behind : length left < p = later refl in
        set_else homes ((h + length left) % n) ((h + p) % n) none (elsewhere n h p (length left) lt room (λ e. omega arith)) ∙ s.free p le lt (λ (e : false ≡ true). cc);
  }

  -- and given back with the item that is now the last
  pub fills : (n : ℕ) (homes : List (maybe.Option (Option T))) (h : ℕ) (left : List T) (reading : Bool) (x : T)
      → Slots n homes h left true reading
      → Slots n (set homes ((h + length left) % n) (some (Some x))) h (left ++ x ∷ []) false reading
  fills n homes h left reading x s = let room : length left < n = s.room refl in
      let long : length (left ++ x ∷ []) ≡ length left + 1 = length-append left (x ∷ []) in
      let k : ℕ = (h + length left) % n in
      let near : k < length homes = subst (λ m. k < m) (sym s.wide) (mod-lt (h + length left) s.some_slot) in record {
        wide = length-set homes k (some (Some x)) ∙ s.wide;
        some_slot = s.some_slot;
        fits = omega arith;
        room = λ (e : false ≡ true). cc;
        full = λ p y at first. ⊎_elim
            (λ old. let below : p < length left = within left p y old in
            set_else homes k ((h + p) % n) (some (Some x)) (elsewhere n h p (length left) (omega arith) room (λ e. omega arith)) ∙ s.full p y old first)
            (λ last. subst (λ q. get_elem? (set homes k (some (Some x))) ((h + q) % n) ≡ some (some (Some y))) (sym last.0)
            (set_here homes k (some (Some x)) near ∙ ap (λ z. some (some (Some z))) last.1))
            (at_end left x p y at);
        free = λ p le lt later. set_else homes k ((h + p) % n) (some (Some x)) (elsewhere n h p (length left) lt room (λ e. omega arith)) ∙ s.free p (omega arith) lt (λ _. omega arith);
      }

  -- the first item's slot is taken
  pub lends : (n : ℕ) (homes : List (maybe.Option (Option T))) (h : ℕ) (x : T) (others : List T) (writing : Bool) → Slots n homes h (x ∷ others) writing false
      → (get_elem? homes (h % n) ≡ some (some (Some x))) × Slots n (set homes (h % n) none) h (x ∷ others) writing true
  lends n homes h x others writing s = let zeroth : (h + 0) % n ≡ h % n = ap (λ m. m % n) (omega arith) in
      let short : length (x ∷ others) ≤ n = s.fits in let long : length (x ∷ others) ≡ suc (length others) = refl in (
        ap (get_elem? homes) (sym zeroth) ∙ s.full 0 x refl (λ (e : false ≡ true). cc),
        record {
          wide = length-set homes (h % n) none ∙ s.wide;
          some_slot = s.some_slot;
          fits = s.fits;
          room = s.room;
          full = λ p y at first. let after : 0 < p = first refl in
              let below : p < length (x ∷ others) = within (x ∷ others) p y at in
              set_else homes (h % n) ((h + p) % n) none (λ e. elsewhere n h p 0 (omega arith) s.some_slot (λ z. omega arith) (e ∙ sym zeroth)) ∙ s.full p y at (λ (e : false ≡ true). cc);
          free = λ p le lt later. set_else homes (h % n) ((h + p) % n) none (λ e. elsewhere n h p 0 lt s.some_slot (λ z. omega arith) (e ∙ sym zeroth)) ∙ s.free p le lt later;
        },
      )

  -- and given back empty: it is then the last of the free ones
  pub frees : (n : ℕ) (homes : List (maybe.Option (Option T))) (h : ℕ) (x : T) (others : List T) (writing : Bool) → Slots n homes h (x ∷ others) writing true
      → Slots n (set homes (h % n) (some None)) (h + 1) others writing false
  frees n homes h x others writing s = let short : length (x ∷ others) ≤ n = s.fits in
      let long : length (x ∷ others) ≡ suc (length others) = refl in let k : ℕ = h % n in
      let near : k < length homes = subst (λ m. k < m) (sym s.wide) (mod-lt h s.some_slot) in
      let zeroth : (h + 0) % n ≡ h % n = ap (λ m. m % n) (omega arith) in
      let onward : (p : ℕ) → (h + suc p) % n ≡ (h + 1 + p) % n = λ p. ap (λ m. m % n) (omega arith) in
      let other : (p : ℕ) → suc p < n → get_elem? (set homes k (some None)) ((h + 1 + p) % n) ≡ get_elem? homes ((h + suc p) % n) = λ p lt.
      ap (get_elem? (set homes k (some None))) (sym (onward p)) ∙ set_else homes k ((h + suc p) % n) (some None) (λ e. elsewhere n h (suc p) 0 lt s.some_slot (λ z. omega arith) (e ∙ sym zeroth)) in record {
        wide = length-set homes k (some None) ∙ s.wide;
        some_slot = s.some_slot;
        fits = omega arith;
        room = λ e. let r : length (x ∷ others) < n = s.room e in omega arith;
        full = λ p y at _. let below : p < length others = within others p y at in other p (omega arith) ∙ s.full (suc p) y at (λ _. omega arith);
        free = λ p le lt later. dite (ℕ_discrete (suc p) n)
            (λ last. let round : (h + 1 + p) % n ≡ k = ap (λ m. m % n) (let g : h + 1 + p ≡ h + n = omega arith in g) ∙ add-mod_right h n in
            ap (get_elem? (set homes k (some None))) round ∙ set_here homes k (some None) near)
            (λ inner. other p (omega arith) ∙ s.free (suc p) (omega arith) (omega arith) (λ e. let l : length others < p = later e in omega arith));
      }
