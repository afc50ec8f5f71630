-- Parts that are lent from under their locks, one after another, and put back.
--     more_before, more_here, more_cases      the places of a list with one more at its end
--     found_there, some_there, holds_there, is_there, both_there      what is at a place, and what holds of it
--     state_here, state_beside      a place that is written, and one beside it
--     fits_lent      a part that is taken out may lie there still
--     none_lent, lent_without, lent_more      before the first table; behind one that isn't wanted, and one that is
--     last_fits, fit_without      the last part may lie where it is put, and then each of the others
--     lent_apart, numbered_apart      the parts are of different tables, and so are their locks
--     kept_each      what is kept of each
--     lent_met, met_with      they are those of a ticket's shares, and of others that are the same
use Rattle.std.specs.Prelude.{◌≡◌, ◌⊎◌, ℕ, ◌+◌, ◌<◌, Bool, true, false, List, [], ◌∷◌, ◌++◌, Option, Some, None, IsSome, IsSomeAnd, is_some, length, slice_get, slice_set, refl}
use Rattle.std.proofs.Common.{zero, suc, sym, ◌∙◌, ap, subst, arith, inl, inr, length-append}
use Rattle.std.proofs.lemmas.List.{get_or-set_same, get_or-set_other, length-set}
use Rattle.std.proofs.lemmas.Option.{none-some, slice_get_within, same_Some}
use Rattle.std.specs.declared.sync.MutexGuard.{MutexGuard}
use mathlib.Core.Logic.{dite}
use native.Mathlib.Decide.{ℕ_discrete}
use Rattle.model.specs.Rows.{Rows, Schema}
use Rattle.tokens.specs.Half.{Name}
use Rattle.table_parts.specs.Part.{Part}
use Rattle.parted_store.specs.EachPart.{AreApart}
use Rattle.parted_store.specs.Lent.{OpenTicket, Stands}
use Rattle.parted_store.specs.Shares.{Shares, share_of}
use Rattle.table_locks.specs.Lending.{Guards, state_of, state_at, AreEmpty, NumberedApart, KeptEach, AreMet, FitEach, AreLent, LendsOne}
use Rattle.table_locks.specs.TableStates.{TableState, Fits, IsLent}
use Rattle.table_locks.specs.Tickets.{IsTicket}
use Rattle.table_locks.specs.declared.ticket.Waits.{Waits}

-- ---- places of a list

pub more_before : {A : Type 0} (xs : List A) (x : A) (i : ℕ) → i < length xs → slice_get (xs ++ x ∷ []) i ≡ slice_get xs i
more_before [] x i below = absurd (omega (arith, below))
more_before (y ∷ xs) x zero below = refl
more_before (y ∷ xs) x (suc i) below = more_before xs x i (omega (arith, below))

pub more_here : {A : Type 0} (xs : List A) (x : A) → slice_get (xs ++ x ∷ []) (length xs) ≡ Some x
more_here [] x = refl
more_here (y ∷ xs) x = more_here xs x

-- it is one of those before, or the last
pub more_cases : {A : Type 0} (xs : List A) (x : A) (i : ℕ) (y : A) → slice_get (xs ++ x ∷ []) i ≡ Some y
    → ((slice_get xs i ≡ Some y) × (i < length xs)) ⊎ ((i ≡ length xs) × (x ≡ y))
more_cases xs x i y at =
    let within = slice_get_within (xs ++ x ∷ []) i y at in
    let long = length-append xs (x ∷ []) in
    dite (ℕ_discrete i (length xs))
    (λ here. inr (here, same_Some x y (sym (more_here xs x) ∙ ap (slice_get (xs ++ x ∷ [])) (sym here) ∙ at)))
    (λ apart.
    let below : i < length xs = omega (arith, within, long, apart) in
    inl (sym (more_before xs x i below) ∙ at, below))

pub found_there : {A : Type 0} (xs : List A) (i : ℕ) → i < length xs → (x : A) × (slice_get xs i ≡ Some x)
found_there [] i below = absurd (omega (arith, below))
found_there (x ∷ xs) zero below = (x, refl)
found_there (x ∷ xs) (suc i) below = found_there xs i (omega (arith, below))

pub some_there : {A : Type 0} (found : Option A) → IsSome found → (x : A) × (found ≡ Some x)
some_there None is = let no : false ≡ true = is in cc
some_there (Some x) is = (x, refl)

-- what holds of what is there, with it
pub holds_there : {A : Type 0} (found : Option A) (P : A → Type 0) → IsSomeAnd found P → (x : A) × (found ≡ Some x) × P x
holds_there None P is = absurd is
holds_there (Some x) P is = (x, refl, is)

pub is_there : {A : Type 0} (found : Option A) (P : A → Type 0) → IsSomeAnd found P → (x : A) → found ≡ Some x → P x
is_there None P is x at = absurd is
is_there (Some y) P is x at = subst P (same_Some y x at) is

pub both_there : {A : Type 0} (found : Option A) (P Q R : A → Type 0) → IsSomeAnd found P → IsSomeAnd found Q → ((x : A) → P x → Q x → R x)
    → IsSomeAnd found R
both_there None P Q R is too so = is
both_there (Some x) P Q R is too so = so x is too

-- ---- a place of guards is written

module _ (guards : Guards) (place : ℕ) (guard : Option (MutexGuard TableState)) where
  pub state_here : place < length guards → state_at (slice_set guards place guard) place ≡ state_of guard
  state_here room = ap state_of (get_or-set_same guards place guard None room)

  pub state_beside : (i : ℕ) → (i ≡ place → ⊥) → state_at (slice_set guards place guard) i ≡ state_at guards i
  state_beside i apart = ap state_of (get_or-set_other guards place i guard None apart)

-- ---- what is asked of the parts

module _ (shares : ℕ → Name) (tables : Name) (schema : Schema) (start : Rows) where
  -- the part that is taken out may lie there still
  pub fits_lent : (s lent : TableState) (p : Part) → IsLent s lent → Fits shares tables schema start s p → Fits shares tables schema start lent p
  fits_lent s lent p is fits =
      subst (λ (u : TableState). Fits shares tables schema start u p) (sym is)
      (record { number = fits.number; kept = fits.kept; listed = fits.listed; sound = fits.sound; last = fits.last })

  -- before the first table
  pub none_lent : (wanted : ℕ → Bool) (guards : Guards) → AreLent shares tables schema start wanted 0 guards []
  none_lent wanted guards = record {
    fit = record { each = λ i p at. absurd (none-some p at); room = omega arith };
    wanted_each = λ i p at. absurd (none-some p at);
    rising = λ i j p q below at. absurd (none-some p at);
    all = λ table below. absurd (omega (arith, below));
    few = omega arith;
    empty = λ i below. absurd (omega (arith, below));
  }

  module _ (wanted : ℕ → Bool) (count : ℕ) (guards : Guards) (parts : List Part) (lent : AreLent shares tables schema start wanted count guards parts) where
    -- behind a table that isn't wanted
    pub lent_without : wanted count ≡ false → AreLent shares tables schema start wanted (count + 1) guards parts
    lent_without unwanted = record {
      fit = lent.fit;
      wanted_each = λ i p at. ((lent.wanted_each i p at).0, let before = (lent.wanted_each i p at).1 in omega (arith, before));
      rising = lent.rising;
      all = λ table below is. dite (ℕ_discrete table count)
          (λ here. let no : true ≡ false = sym is ∙ ap wanted here ∙ unwanted in cc)
          (λ apart. lent.all table (omega (arith, below, apart)) is);
      few = let before = lent.few in omega (arith, before);
      empty = lent.empty;
    }

    -- behind one that is wanted, and lent
    module _ (is : wanted count ≡ true) (room : length parts < length guards) (new : Guards) (long : length new ≡ length guards)
        (others : (i : ℕ) → i < length parts → state_at new i ≡ state_at guards i) (p : Part) (s : TableState) (place : state_at new (length parts) ≡ Some s)
        (none : s.part ≡ None) (fits : Fits shares tables schema start s p) (number : p.number ≡ count) where
      abbrev more : List Part
      more = parts ++ p ∷ []

      one_longer : length more ≡ length parts + 1
      one_longer = length-append parts (p ∷ [])

      fit_more : FitEach shares tables schema start new more
      fit_more = record {
        each = λ i q at. elim (more_cases parts p i q at) [
          | inl before ↦
              let (t, there, its) = lent.fit.each i q before.0 in
              (t, others i before.1 ∙ there, its)
          | inr last ↦ (s, ap (state_at new) last.0 ∙ place, subst (Fits shares tables schema start s) last.1 fits)
        ];
        room = omega (arith, one_longer, long, room);
      }

      wanted_more : (i : ℕ) (q : Part) → slice_get more i ≡ Some q → (wanted q.number ≡ true) × (q.number < count + 1)
      wanted_more i q at = elim (more_cases parts p i q at) [
        | inl before ↦
            let below = (lent.wanted_each i q before.0).1 in
            ((lent.wanted_each i q before.0).0, omega (arith, below))
        | inr last ↦
            let same : q.number ≡ count = ap (λ (r : Part). r.number) (sym last.1) ∙ number in
            (ap wanted same ∙ is, omega (arith, same))
      ]

      rising_more : (i j : ℕ) (q r : Part) → i < j → slice_get more i ≡ Some q → slice_get more j ≡ Some r → q.number < r.number
      rising_more i j q r below at_i at_j = elim (more_cases parts p i q at_i) [
        | inl first ↦ elim (more_cases parts p j r at_j) [
          | inl second ↦ lent.rising i j q r below first.0 second.0
          | inr last ↦
              let same : r.number ≡ count = ap (λ (t : Part). t.number) (sym last.1) ∙ number in
              let before = (lent.wanted_each i q first.0).1 in
              omega (arith, same, before)
        ]
        | inr first ↦ elim (more_cases parts p j r at_j) [
          | inl second ↦ absurd (let at = first.0 in let within = second.1 in omega (arith, at, within, below))
          | inr last ↦ absurd (let at = first.0 in let there = last.0 in omega (arith, at, there, below))
        ]
      ]

      all_more : (table : ℕ) → table < count + 1 → wanted table ≡ true → (i : ℕ) × (q : Part) × (slice_get more i ≡ Some q) × (q.number ≡ table)
      all_more table below wants = dite (ℕ_discrete table count)
          (λ here. (length parts, p, more_here parts p, number ∙ sym here))
          (λ apart.
          let (i, q, at, of_table) = lent.all table (omega (arith, below, apart)) wants in
          (i, q, more_before parts p i (slice_get_within parts i q at) ∙ at, of_table))

      empty_more : AreEmpty new (length more)
      empty_more i below = dite (ℕ_discrete i (length parts))
          (λ here. (s, ap (state_at new) here ∙ place, none))
          (λ apart.
          let before : i < length parts = omega (arith, below, one_longer, apart) in
          let (t, there, its) = lent.empty i before in
          (t, others i before ∙ there, its))

      lent_with : AreLent shares tables schema start wanted (count + 1) new more
      lent_with = record {
        fit = fit_more;
        wanted_each = wanted_more;
        rising = rising_more;
        all = all_more;
        few = let before = lent.few in omega (arith, one_longer, before);
        empty = empty_more;
      }

    pub lent_more : wanted count ≡ true → length parts < length guards → (new : Guards) → length new ≡ length guards
        → ((i : ℕ) → i < length parts → state_at new i ≡ state_at guards i) → (now : List Part) → LendsOne shares tables schema start count parts new now
        → AreLent shares tables schema start wanted (count + 1) new now
    lent_more is room new long others now one =
        subst (AreLent shares tables schema start wanted (count + 1) new) (sym one.2)
        (lent_with is room new long others one.0 one.1 one.3 one.4 one.5 one.6)

    pub lent_apart : AreApart parts
    lent_apart j k p q below at_p at_q same = let before = lent.rising j k p q below at_p at_q in omega (arith, before, same)

  module _ (guards : Guards) (parts : List Part) (fit : FitEach shares tables schema start guards parts) where
    pub kept_each : KeptEach shares schema start parts
    kept_each i p at = (fit.each i p at).2.kept

    -- the locks of the parts are of different tables too
    pub numbered_apart : AreApart parts → NumberedApart guards (length parts)
    numbered_apart apart i j s t below within at_s at_t same =
        let (p, at_p) = found_there parts i (omega (arith, below, within)) in
        let (q, at_q) = found_there parts j within in
        let (s_there, is_s, fits_s) = fit.each i p at_p in
        let (t_there, is_t, fits_t) = fit.each j q at_q in
        let of_s : s_there ≡ s = same_Some s_there s (sym is_s ∙ at_s) in
        let of_t : t_there ≡ t = same_Some t_there t (sym is_t ∙ at_t) in
        apart i j p q below at_p at_q
        (fits_s.number ∙ ap (λ (u : TableState). u.number) of_s ∙ same ∙ ap (λ (u : TableState). u.number) (sym of_t) ∙ sym fits_t.number)

  -- ---- put back

  module _ (guards : Guards) (parts left : List Part) (p : Part) (split : parts ≡ left ++ p ∷ []) (fit : FitEach shares tables schema start guards parts) where
    pub last_room : length left < length guards
    last_room =
        let long : length parts ≡ length left + 1 = ap length split ∙ length-append left (p ∷ []) in
        let room = fit.room in
        omega (arith, long, room)

    pub last_fits : (s : TableState) × (state_at guards (length left) ≡ Some s) × Fits shares tables schema start s p
    last_fits = fit.each (length left) p (ap (λ (ps : List Part). slice_get ps (length left)) split ∙ more_here left p)

    pub fit_without : (guard : Option (MutexGuard TableState)) → FitEach shares tables schema start (slice_set guards (length left) guard) left
    fit_without guard = record {
      each = λ i q at.
          let within = slice_get_within left i q at in
          let (s, there, fits) = fit.each i q (ap (λ (ps : List Part). slice_get ps i) split ∙ more_before left p i within ∙ at) in
          (s, state_beside guards (length left) guard i (λ same. omega (arith, same, within)) ∙ there, fits);
      room = let long = length-set guards (length left) guard in let room = last_room in omega (arith, long, room);
    }

-- ---- the tables of a ticket's shares

module _ (shares : ℕ → Name) (tables : Name) (schema : Schema) (start : Rows) (waits : Waits) (t : OpenTicket) (is : IsTicket shares schema waits t) where
  -- the parts of just these tables are lent, and each is met
  pub lent_met : (guards : Guards) (parts : List Part)
      → AreLent shares tables schema start (λ table. is_some (share_of t.shares table)) (length schema) guards parts
      → ((i : ℕ) (p : Part) → slice_get parts i ≡ Some p → Stands p t.shares) → AreMet shares schema start t.shares parts
  lent_met guards parts lent stand = record {
    kept = kept_each shares tables schema start guards parts lent.fit;
    apart = lent_apart shares tables schema start (λ table. is_some (share_of t.shares table)) (length schema) guards parts lent;
    covers = λ table share at. lent.all table (is.known table share at) (ap is_some at);
    alone = λ i p at. (lent.wanted_each i p at).0;
    stand = stand;
  }

-- the same shares have the same parts
pub met_with : (shares : ℕ → Name) (schema : Schema) (start : Rows) (all new : Shares) (parts : List Part)
    → ((table : ℕ) → share_of new table ≡ share_of all table) → AreMet shares schema start all parts → AreMet shares schema start new parts
met_with shares schema start all new parts same met = record {
  kept = met.kept;
  apart = met.apart;
  covers = λ table share at. met.covers table share (sym (same table) ∙ at);
  alone = λ i p at. ap is_some (same p.number) ∙ met.alone i p at;
  stand = λ i p at share is. met.stand i p at share (sym (same p.number) ∙ is);
}
