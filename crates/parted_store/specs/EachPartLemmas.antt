-- What follows of parts that are lent, one after another.
--     no_progress, one_step      none has done it; one more has
--     still_belongs      the share that is next is a ticket of the part that is next
--     some_then      what follows of what is there
use Rattle.std.specs.Prelude.{◌≡◌, ◌≢◌, ℕ, ◌+◌, ◌<◌, ◌≤◌, List, Option, Some, None, IsSomeAnd, slice_get, slice_set, length, refl}
use Rattle.std.proofs.Common.{sym, ◌∙◌, ap, subst, arith, inl, inr}
use Rattle.std.proofs.lemmas.List.{get_or-set_same, get_or-set_other, length-set}
use Rattle.std.proofs.lemmas.Option.{slice_get_within, slice_get-get_or, slice_get_past, slice_get_cases, same_Some}
use mathlib.Core.Logic.{dite}
use native.Mathlib.Decide.{ℕ_discrete}
use Rattle.table_parts.specs.Part.{Part}
use Rattle.parted_store.specs.EachPart.{AreApart, BelongEach, Progress}
use Rattle.parted_store.specs.Lent.{Belongs}
use Rattle.parted_store.specs.Shares.{Share, Shares, share_of}

-- ---- a list in which one element is another

module _ (parts : List Part) (i : ℕ) (p q : Part) (at : slice_get parts i ≡ Some p) where
  pub set_here : slice_get (slice_set parts i q) i ≡ Some q
  set_here =
      let within : i < length parts = slice_get_within parts i p at in
      let longer : i < length (slice_set parts i q) = subst (λ n. i < n) (sym (length-set parts i q)) within in
      slice_get-get_or (slice_set parts i q) i q longer ∙ ap Some (get_or-set_same parts i q q within)

  pub set_beside : (j : ℕ) → j ≢ i → slice_get (slice_set parts i q) j ≡ slice_get parts j
  set_beside j apart =
      elim (slice_get_cases parts j).1 [
        | inl within ↦
            slice_get-get_or (slice_set parts i q) j q (subst (λ n. j < n) (sym (length-set parts i q)) within.1)
            ∙ ap Some (get_or-set_other parts i j q q apart) ∙ sym (slice_get-get_or parts j q within.1)
        | inr past ↦
            slice_get_past (slice_set parts i q) j (subst (λ n. n ≤ j) (sym (length-set parts i q)) past.0) ∙ sym past.1
      ]

-- ---- one after another

pub no_progress : (does : Part → Option Share → Part → Option Share → Type 0) (start : List Part) (all : Shares) → Progress does start all start all 0
no_progress does start all = record {
  done = λ j p below at. absurd (omega (arith, below));
  left = λ j above. refl;
  long = refl;
  kept = λ table none. refl;
}

module _ (does : Part → Option Share → Part → Option Share → Type 0) (start : List Part) (all : Shares) (apart : AreApart start)
    (parts : List Part) (shares : Shares) (i : ℕ) (so_far : Progress does start all parts shares i)
    (p : Part) (at : slice_get parts i ≡ Some p) where
  at_start : slice_get start i ≡ Some p
  at_start = sym (so_far.left i (omega arith)) ∙ at

  its_share : share_of shares p.number ≡ share_of all p.number
  its_share = so_far.kept p.number (λ j r below there. apart j i r p below there at_start)

  pub still_belongs : BelongEach start all → Belongs p shares
  still_belongs belong share is = belong i p at_start share (sym its_share ∙ is)

  pub one_step : (q : Part) (new : Shares) → does p (share_of shares p.number) q (share_of new p.number)
      → ((other : ℕ) → other ≢ p.number → share_of new other ≡ share_of shares other)
      → Progress does start all (slice_set parts i q) new (i + 1)
  one_step q new did others = record {
    done = λ j r below there. dite (ℕ_discrete j i)
        (λ here. done_here j r here there)
        (λ beside.
        let earlier : j < i = omega (arith, below, beside) in
        subst (λ found. IsSomeAnd found (λ s. does r (share_of all r.number) s (share_of new r.number))) (sym (set_beside parts i p q at j beside))
        (subst (λ share. IsSomeAnd (slice_get parts j) (λ s. does r (share_of all r.number) s share))
        (sym (others r.number (apart j i r p earlier there at_start)))
        (so_far.done j r earlier there)));
    left = λ j above.
        let beside : j ≢ i = λ e. absurd (omega (arith, e, above)) in
        set_beside parts i p q at j beside ∙ so_far.left j (omega (arith, above));
    long = length-set parts i q ∙ so_far.long;
    kept = λ table none.
        others table (λ e. none i p (omega arith) at_start (sym e))
        ∙ so_far.kept table (λ j r below there. none j r (omega (arith, below)) there);
  }
    where
      done_here : (j : ℕ) (r : Part) → j ≡ i → slice_get start j ≡ Some r
          → IsSomeAnd (slice_get (slice_set parts i q) j) (λ s. does r (share_of all r.number) s (share_of new r.number))
      done_here j r here there =
          let same : p ≡ r = same_Some p r (sym at_start ∙ ap (slice_get start) (sym here) ∙ there) in
          let mine : does p (share_of all p.number) q (share_of new p.number) = subst (λ share. does p share q (share_of new p.number)) its_share did in
          subst (λ found. IsSomeAnd found (λ s. does r (share_of all r.number) s (share_of new r.number)))
          (sym (ap (slice_get (slice_set parts i q)) here ∙ set_here parts i p q at))
          (subst (λ (s : Part). does s (share_of all s.number) q (share_of new s.number)) same mine)

-- what follows of what is there
pub some_then : {A : Type 0} (found : Option A) {P Q : A → Type 0} → IsSomeAnd found P → ((x : A) → P x → Q x) → IsSomeAnd found Q
some_then None is so = is
some_then (Some x) is so = so x is
