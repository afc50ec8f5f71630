-- A word of a ring is loaded or stored.
use Rattle.std.proofs.Common.{◌≡◌, ℕ, ◌^◌, ◌≤◌, List, length, get_or, set, sym, ◌∙◌, subst, arith, length-set, get_or-set_same, get_or-set_other}
use Rattle.std.proofs.lemmas.List.{set-get_or}
use Rattle.ring.specs.declared.protocol.TheConstants.{HEAD, TAIL, DOOM, WORDS}
use Rattle.ring.specs.Flow.{Course, Counts, head_of, tail_of, worth}

module _ {T : Type 0} where
  -- only slots and views changed
  pub loaded : (words : List ℕ) (c c' : Course T) (i : ℕ) → Counts words c → head_of c' ≡ head_of c
      → tail_of c' ≡ tail_of c → c'.dooms ≡ c.dooms → Counts (set words i (get_or words i 0)) c'
  loaded words c c' i h head tail dooms = let far : tail_of c ≤ 2 ^ 63 = h.far in
      subst (λ ws. Counts ws c') (sym (set-get_or words i 0)) record {
        wide = h.wide;
        head_is = h.head_is ∙ sym head;
        tail_is = h.tail_is ∙ sym tail;
        doom_is = h.doom_is ∙ (λ i. worth (sym dooms i));
        far = omega arith;
      }

  pub head_stored : (words : List ℕ) (c c' : Course T) (new : ℕ) → Counts words c → new ≡ head_of c'
      → tail_of c' ≡ tail_of c → c'.dooms ≡ c.dooms → Counts (set words HEAD new) c'
  head_stored words c c' new h is tail dooms = let wide : length words ≡ WORDS = h.wide in
      let far : tail_of c ≤ 2 ^ 63 = h.far in record {
        wide = length-set words HEAD new ∙ h.wide;
        head_is = get_or-set_same words HEAD new 0 (omega arith) ∙ is;
        tail_is = get_or-set_other words HEAD TAIL new 0 (λ e. omega arith) ∙ h.tail_is ∙ sym tail;
        doom_is = get_or-set_other words HEAD DOOM new 0 (λ e. omega arith) ∙ h.doom_is ∙ (λ i. worth (sym dooms i));
        far = omega arith;
      }

  pub tail_stored : (words : List ℕ) (c c' : Course T) (new : ℕ) → Counts words c → new ≡ tail_of c'
      → new ≤ 2 ^ 63 → head_of c' ≡ head_of c → c'.dooms ≡ c.dooms → Counts (set words TAIL new) c'
  tail_stored words c c' new h is far head dooms = let wide : length words ≡ WORDS = h.wide in record {
    wide = length-set words TAIL new ∙ h.wide;
    head_is = get_or-set_other words TAIL HEAD new 0 (λ e. omega arith) ∙ h.head_is ∙ sym head;
    tail_is = get_or-set_same words TAIL new 0 (omega arith) ∙ is;
    doom_is = get_or-set_other words TAIL DOOM new 0 (λ e. omega arith) ∙ h.doom_is ∙ (λ i. worth (sym dooms i));
    far = omega arith;
  }

  pub doom_stored : (words : List ℕ) (c c' : Course T) (new : ℕ) → Counts words c → new ≡ worth c'.dooms
      → head_of c' ≡ head_of c → tail_of c' ≡ tail_of c → Counts (set words DOOM new) c'
  doom_stored words c c' new h is head tail = let wide : length words ≡ WORDS = h.wide in
      let far : tail_of c ≤ 2 ^ 63 = h.far in record {
        wide = length-set words DOOM new ∙ h.wide;
        head_is = get_or-set_other words DOOM HEAD new 0 (λ e. omega arith) ∙ h.head_is ∙ sym head;
        tail_is = get_or-set_other words DOOM TAIL new 0 (λ e. omega arith) ∙ h.tail_is ∙ sym tail;
        doom_is = get_or-set_same words DOOM new 0 (omega arith) ∙ is;
        far = omega arith;
      }
