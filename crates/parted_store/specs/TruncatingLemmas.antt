-- What follows of parts in which a truncate is tried.
--     apart_cases      of two places that differ one is before the other
--     one_changes      one part and its share change their state
--     zone_up, zone_down      the border of two states moves by one
--     each_as, nothing_yet      other words for the states; nothing was tried
--     the_part      the part at a place
use Rattle.std.specs.Prelude.{◌≡◌, ◌≢◌, ◌⊎◌, ℕ, zero, suc, ◌+◌, ◌<◌, List, Option, Some, IsSomeAnd, length, slice_get, slice_set, refl}
use Rattle.std.proofs.Common.{sym, ◌∙◌, ap, subst, arith, inl, inr}
use Rattle.std.proofs.lemmas.List.{length-set}
use Rattle.std.proofs.lemmas.Option.{slice_get_cases, slice_get_within}
use mathlib.Core.Logic.{dite}
use native.Mathlib.Decide.{ℕ_discrete}
use Rattle.table_parts.specs.Part.{Part}
use Rattle.table_parts.specs.Several.{IsSameAs}
use Rattle.parted_store.specs.EachPart.{AreApart}
use Rattle.parted_store.specs.EachPartLemmas.{set_here, set_beside, some_then}
use Rattle.parted_store.specs.Shares.{Share, Shares, share_of}
use Rattle.parted_store.specs.Truncating.{EachIs, Zones, Untouched}

-- what is so of what is there
pub some_same : {A : Type 0} (P : A → Type 0) (found : Option A) (x : A) → found ≡ Some x → IsSomeAnd found P → P x
some_same {A = A} P found x is so = subst (λ (f : Option A). IsSomeAnd f P) is so

-- of two places that differ one is before the other
pub apart_cases : (j i : ℕ) → j ≢ i → (j < i) ⊎ (i < j)
apart_cases zero zero differs = absurd (differs refl)
apart_cases zero (suc i) differs = inl (omega arith)
apart_cases (suc j) zero differs = inr (omega arith)
apart_cases (suc j) (suc i) differs =
    elim (apart_cases j i (λ same. differs (ap suc same))) [
      | inl before ↦ inl (omega (arith, before))
      | inr behind ↦ inr (omega (arith, behind))
    ]

module _ (Is : ℕ → Part → Option Share → Part → Option Share → Type 0) (start : List Part) (all : Shares) (parts : List Part) (shares : Shares)
    (were : EachIs Is start all parts shares) (i : ℕ) (q : Part) (at : slice_get parts i ≡ Some q) where
  -- the part that was at its place
  pub the_part : (p : Part) × (slice_get start i ≡ Some p)
  the_part =
      elim (slice_get_cases start i).1 [
        | inl within ↦ (within.0, within.2)
        | inr past ↦ absurd (let below : i < length parts = slice_get_within parts i q at in omega (arith, below, were.long, past.0))
      ]

  pub its_state : (p : Part) → slice_get start i ≡ Some p → Is i p (share_of all p.number) q (share_of shares p.number) × IsSameAs p q
  its_state p there = (some_same _ (slice_get parts i) q at (were.each i p there), some_same _ (slice_get parts i) q at (were.same i p there))

  module _ (New : ℕ → Part → Option Share → Part → Option Share → Type 0) (apart : AreApart start) (r : Part) (new : Shares)
      (others : (j : ℕ) (p : Part) (share : Option Share) (u : Part) (then_share : Option Share) → j ≢ i → Is j p share u then_share → New j p share u then_share)
      (here : (p : Part) → slice_get start i ≡ Some p → Is i p (share_of all p.number) q (share_of shares p.number)
      → New i p (share_of all p.number) r (share_of new p.number))
      (still : IsSameAs q r) (kept : (other : ℕ) → other ≢ q.number → share_of new other ≡ share_of shares other) where
    number_is : q.number ≡ the_part.0.number
    number_is = (its_state the_part.0 the_part.1).1.number

    -- the others are of other tables
    differs : (j : ℕ) (p : Part) → j ≢ i → slice_get start j ≡ Some p → p.number ≢ q.number
    differs j p beside there same =
        elim (apart_cases j i beside) [
          | inl before ↦ apart j i p the_part.0 before there the_part.1 (same ∙ number_is)
          | inr behind ↦ apart i j the_part.0 p behind the_part.1 there (sym (same ∙ number_is))
        ]

    same_then : (p : Part) → slice_get start i ≡ Some p → IsSameAs p r
    same_then p there = let first = (its_state p there).1 in record {
      number = still.number ∙ first.number;
      store = record { schema = still.store.schema ∙ first.store.schema; tickets = still.store.tickets ∙ first.store.tickets; line = still.store.line ∙ first.store.line };
      ends = still.ends ∙ first.ends;
    }

    each_then : (j : ℕ) (p : Part) → slice_get start j ≡ Some p
        → IsSomeAnd (slice_get (slice_set parts i r) j) (λ u. New j p (share_of all p.number) u (share_of new p.number))
    each_then j p there = dite (ℕ_discrete j i)
        (λ is.
        let at_i : slice_get start i ≡ Some p = ap (slice_get start) (sym is) ∙ there in
        subst (λ (k : ℕ). IsSomeAnd (slice_get (slice_set parts i r) k) (λ u. New k p (share_of all p.number) u (share_of new p.number))) (sym is)
        (subst (λ (found : Option Part). IsSomeAnd found (λ u. New i p (share_of all p.number) u (share_of new p.number))) (sym (set_here parts i q r at))
        (here p at_i (its_state p at_i).0)))
        (λ beside.
        subst (λ (found : Option Part). IsSomeAnd found (λ u. New j p (share_of all p.number) u (share_of new p.number))) (sym (set_beside parts i q r at j beside))
        (some_then (slice_get parts j) (were.each j p there) (λ u is.
        subst (λ (share : Option Share). New j p (share_of all p.number) u share) (sym (kept p.number (differs j p beside there)))
        (others j p (share_of all p.number) u (share_of shares p.number) beside is))))

    each_same : (j : ℕ) (p : Part) → slice_get start j ≡ Some p → IsSomeAnd (slice_get (slice_set parts i r) j) (λ u. IsSameAs p u)
    each_same j p there = dite (ℕ_discrete j i)
        (λ is.
        subst (λ (k : ℕ). IsSomeAnd (slice_get (slice_set parts i r) k) (λ u. IsSameAs p u)) (sym is)
        (subst (λ (found : Option Part). IsSomeAnd found (λ u. IsSameAs p u)) (sym (set_here parts i q r at)) (same_then p (ap (slice_get start) (sym is) ∙ there))))
        (λ beside.
        subst (λ (found : Option Part). IsSomeAnd found (λ u. IsSameAs p u)) (sym (set_beside parts i q r at j beside)) (were.same j p there))

    pub one_changes : EachIs New start all (slice_set parts i r) new
    one_changes = record {
      each = each_then;
      same = each_same;
      long = length-set parts i r ∙ were.long;
      kept = λ table none.
          kept table (λ same. none i the_part.0 the_part.1 (sym number_is ∙ sym same)) ∙ were.kept table none;
    }

-- ---- two zones

module _ (Is Others : ℕ → Part → Option Share → Part → Option Share → Type 0) (start : List Part) (all : Shares) (apart : AreApart start) (parts : List Part) (shares : Shares)
    (i : ℕ) (q : Part) (at : slice_get parts i ≡ Some q) (r : Part) (new : Shares) (still : IsSameAs q r) (kept : (other : ℕ) → other ≢ q.number → share_of new other ≡ share_of shares other) where
  -- the part before the border comes behind it
  pub zone_down : EachIs (Zones (i + 1) Is Others) start all parts shares
      → ((p : Part) → slice_get start i ≡ Some p → Is i p (share_of all p.number) q (share_of shares p.number) → Others i p (share_of all p.number) r (share_of new p.number))
      → EachIs (Zones i Is Others) start all (slice_set parts i r) new
  zone_down were comes =
      one_changes (Zones (i + 1) Is Others) start all parts shares were i q at (Zones i Is Others) apart r new
      (λ j p share u then_share differs is. elim is [
        | inl before ↦ inl (omega (arith, before.0, differs), before.1)
        | inr behind ↦ inr (omega (arith, behind.0), behind.1)
      ])
      (λ p there is. elim is [
        | inl before ↦ inr (omega arith, comes p there before.1)
        | inr behind ↦ absurd (omega (arith, behind.0))
      ])
      still kept

  -- the part behind it comes before it
  pub zone_up : (Then : ℕ → Part → Option Share → Part → Option Share → Type 0) → EachIs (Zones i Is Others) start all parts shares
      → ((j : ℕ) (p : Part) (share : Option Share) (u : Part) (then_share : Option Share) → j < i → Is j p share u then_share → Then j p share u then_share)
      → ((p : Part) → slice_get start i ≡ Some p → Others i p (share_of all p.number) q (share_of shares p.number) → Then i p (share_of all p.number) r (share_of new p.number))
      → EachIs (Zones (i + 1) Then Others) start all (slice_set parts i r) new
  zone_up Then were more comes =
      one_changes (Zones i Is Others) start all parts shares were i q at (Zones (i + 1) Then Others) apart r new
      (λ j p share u then_share differs is. elim is [
        | inl before ↦ inl (omega (arith, before.0), more j p share u then_share before.0 before.1)
        | inr behind ↦ inr (omega (arith, behind.0, differs), behind.1)
      ])
      (λ p there is. elim is [
        | inl before ↦ absurd (omega (arith, before.0))
        | inr behind ↦ inl (omega arith, comes p there behind.1)
      ])
      still kept

-- other words for the states
pub each_as : (Is Then : ℕ → Part → Option Share → Part → Option Share → Type 0) (start : List Part) (all : Shares) (parts : List Part) (shares : Shares)
    → EachIs Is start all parts shares
    → ((j : ℕ) (p : Part) (u : Part) → slice_get start j ≡ Some p → Is j p (share_of all p.number) u (share_of shares p.number) → Then j p (share_of all p.number) u (share_of shares p.number))
    → EachIs Then start all parts shares
each_as Is Then start all parts shares were so = record {
  each = λ j p there. some_then (slice_get parts j) (were.each j p there) (λ u is. so j p u there is);
  same = were.same;
  long = were.long;
  kept = were.kept;
}

-- nothing was tried
pub nothing_yet : (start : List Part) (all : Shares) → EachIs Untouched start all start all
nothing_yet start all = record {
  each = λ j p there. subst (λ (found : Option Part). IsSomeAnd found (λ u. Untouched j p (share_of all p.number) u (share_of all p.number))) (sym there) (refl, refl);
  same = λ j p there. subst (λ (found : Option Part). IsSomeAnd found (λ u. IsSameAs p u)) (sym there)
      (record { number = refl; store = record { schema = refl; tickets = refl; line = refl }; ends = refl });
  long = refl;
  kept = λ table none. refl;
}
