-- What follows of a truncate of several tables, from one step to the next.
--     named_as      whether a table is among those that are named
--     none_running, one_running      none of the tables so far knows that the store is stopped
--     stays_same, stay_none      a part, and parts, that are what they were
--     was_there      what a part was
--     kept_behind, known_behind, apart_behind, beside_behind, cuts_behind      what stays so of each
--     stay_both      two such calls are one
--     fit_running      what stays so may be put back
--     come_none, come_more, still_more      the transaction came to no part yet, and to one more; where that is refused
--     cuts_lent, waits_lent      the parts of just its tables are lent
--     refused_is      the ticket of a call that was refused
use Rattle.std.specs.Prelude.{◌≡◌, ◌≢◌, ℕ, ◌+◌, ◌<◌, ◌≤◌, ◌==◌, ◌||◌, Bool, true, false, List, [], ◌∷◌, ◌++◌, Option, Some, None, IfSome, IsSome, IsSomeAnd, All, length, slice_get, slice_set, refl}
use Rattle.std.specs.List.{list_any}
use Rattle.std.proofs.Common.{suc, sym, ◌∙◌, ap, subst, arith}
use Rattle.std.proofs.lemmas.List.{length-set}
use Rattle.std.proofs.lemmas.Option.{slice_get_within, same_Some}
use mathlib.Core.Logic.{dite}
use native.Mathlib.Decide.{ℕ_discrete}
use Rattle.model.specs.declared.change.Change as change_type
use Rattle.model.specs.declared.change.Change.TheVariants.{Wipe}
use Rattle.model.specs.Named.{NamesTables}
use Rattle.model.specs.Rows.{Rows, Schema}
use Rattle.model.specs.TakenLemmas.{number_is}
use Rattle.tokens.specs.Half.{Name}
use Rattle.world.specs.Steps.{Fault}
use Rattle.world_parts.specs.ByTable.{names_table, changes_at}
use Rattle.world_parts.specs.ByTableLemmas.{turned}
use Rattle.world_parts.specs.Sound.{IsSound}
use Rattle.engine.specs.EventLemmas.{opened_refused}
use Rattle.engine.specs.Events.{opened_by, refusal_events}
use Rattle.table_parts.specs.Part.{Part}
use Rattle.parted_store.specs.EachPart.{AreApart, IsBeside}
use Rattle.parted_store.specs.EachPartLemmas.{set_here, set_beside}
use Rattle.parted_store.specs.KeepsSound.{with_stop, KeepsSoundRunning}
use Rattle.parted_store.specs.Lent.{OpenTicket, Stands}
use Rattle.parted_store.specs.Shares.{Shares, share_of}
use Rattle.parted_store.specs.Truncating.{CutsHere}
use Rattle.table_locks.specs.Lending.{Guards, state_at, KeptEach, FitEach, AreLent}
use Rattle.table_locks.specs.LendingLemmas.{found_there, holds_there, is_there}
use Rattle.table_locks.specs.StateLemmas.{stays_on, fits_on}
use Rattle.table_locks.specs.TableStates.{TableState, IsKept, StaysFit}
use Rattle.table_locks.specs.TicketLemmas.{ticket_as}
use Rattle.table_locks.specs.Tickets.{IsTicket}
use Rattle.table_locks.specs.Truncating.{wipes_table, AreRunning, KnownEach, StayRunning, HaveCome}
use Rattle.table_locks.specs.declared.ticket.Waits.{Waits}

-- ---- the tables that it names

pub named_as : (named : List ℕ) (table : ℕ) → list_any (λ other. other == table) named ≡ names_table named table
named_as [] table = refl
named_as (first ∷ rest) table =
    ap (λ (b : Bool). b || list_any (λ other. other == table) rest) (turned first table) ∙ ap (λ (b : Bool). (table == first) || b) (named_as rest table)

-- ---- what the tables know

pub none_running : (guards : Guards) → AreRunning guards 0
none_running guards i below = absurd (omega (arith, below))

pub one_running : (guards : Guards) (count : ℕ) → AreRunning guards count → IfSome (state_at guards count) (λ s. s.stopped ≡ None) → AreRunning guards (count + 1)
one_running guards count before here i below = dite (ℕ_discrete i count)
    (λ same. subst (λ n. IfSome (state_at guards n) (λ s. s.stopped ≡ None)) (sym same) here)
    (λ apart. before i (omega (arith, below, apart)))

if_some : {A : Type 0} (found : Option A) (P : A → Type 0) → IfSome found P → (x : A) → found ≡ Some x → P x
if_some None P is x at = let no : None ≡ Some x = at in cc
if_some (Some y) P is x at = subst P (same_Some y x at) is

-- ---- parts behind a call

at_there : {A : Type 0} (found : Option A) (P : A → Type 0) (x : A) → found ≡ Some x → P x → IsSomeAnd found P
at_there found P x at is = subst (λ f. IsSomeAnd f P) (sym at) is

module _ (shares : ℕ → Name) (tables : Name) (schema : Schema) (start : Rows) where
  pub stays_same : (p : Part) → IsKept shares schema start p → StaysFit shares tables schema start p p
  stays_same p kept = record { number = refl; kept = kept; listed = λ commits listed. listed; end = refl }

  pub stay_none : (parts : List Part) → KeptEach shares schema start parts → StayRunning shares tables schema start parts parts
  stay_none parts kept = record {
    stay = λ i p at. at_there (slice_get parts i) (StaysFit shares tables schema start p) p at (stays_same p (kept i p at));
    sound = λ i p at. at_there (slice_get parts i) (KeepsSoundRunning p) p at (λ was. was);
    long = refl;
  }

  module _ (parts new : List Part) (still : StayRunning shares tables schema start parts new) where
    pub was_there : (i : ℕ) (q : Part) → slice_get new i ≡ Some q
        → (p : Part) × (slice_get parts i ≡ Some p) × StaysFit shares tables schema start p q × KeepsSoundRunning p q
    was_there i q at =
        let (p, there) = found_there parts i (subst (λ n. i < n) still.long (slice_get_within new i q at)) in (
          p,
          there,
          is_there (slice_get new i) (StaysFit shares tables schema start p) (still.stay i p there) q at,
          is_there (slice_get new i) (KeepsSoundRunning p) (still.sound i p there) q at,
        )

    pub kept_behind : KeptEach shares schema start new
    kept_behind i q at = (was_there i q at).2.kept

    pub known_behind : KnownEach schema parts → KnownEach schema new
    known_behind known i q at =
        let was = was_there i q at in
        subst (λ (n : ℕ). n < length schema) (sym was.2.number) (known i was.0 was.1)

    pub apart_behind : AreApart parts → AreApart new
    apart_behind apart j k q r below at_q at_r same =
        let first = was_there j q at_q in
        let second = was_there k r at_r in
        apart j k first.0 second.0 below first.1 second.1 (sym first.2.number ∙ same ∙ second.2.number)

    pub beside_behind : (table : ℕ) → IsBeside new table → IsBeside parts table
    beside_behind table beside i p at same =
        let found = holds_there (slice_get new i) (StaysFit shares tables schema start p) (still.stay i p at) in
        beside i found.0 found.1 (found.2.number ∙ same)

    pub cuts_behind : (c : change_type.Change) (named : List ℕ) → CutsHere c named parts → CutsHere c named new
    cuts_behind c named here = record {
      is = here.is;
      each = λ i q at.
          let was = was_there i q at in
          subst (λ (n : ℕ). names_table named n ≡ true) (sym was.2.number) (here.each i was.0 was.1);
      all = λ table is.
          let (i, p, at, of_table) = here.all table is in
          let found = holds_there (slice_get new i) (StaysFit shares tables schema start p) (still.stay i p at) in
          (i, found.0, found.1, found.2.number ∙ of_table);
    }

    -- so is each that stood under its lock in a store that nothing stopped
    pub fit_running : (guards : Guards) → FitEach shares tables schema start guards parts → AreRunning guards (length parts)
        → FitEach shares tables schema start guards new
    fit_running guards fit running = record {
      each = λ i q at.
          let was = was_there i q at in
          let (s, place, fits) = fit.each i was.0 was.1 in
          let runs = if_some (state_at guards i) (λ (t : TableState). t.stopped ≡ None) (running i (slice_get_within parts i was.0 was.1)) s place in
          (s, place, fits_on shares tables schema start s was.0 fits q was.2 s refl runs was.3);
      room = subst (λ n. n ≤ length guards) (sym still.long) fit.room;
    }

  -- two such calls are one
  sound_both : (p q r : Part) → IsKept shares schema start p → IsKept shares schema start q → KeepsSoundRunning p q → KeepsSoundRunning q r
      → KeepsSoundRunning p r
  sound_both p q r of_p of_q first second was =
      let same : q.store.schema ≡ p.store.schema = of_q.schema_is ∙ sym of_p.schema_is in
      subst (λ (k : Schema). IsSound k (with_stop None r)) same
      (second (subst (λ (k : Schema). IsSound k (with_stop None q)) (sym same) (first was)))

  pub stay_both : (parts mid new : List Part) → KeptEach shares schema start parts → StayRunning shares tables schema start parts mid
      → StayRunning shares tables schema start mid new → StayRunning shares tables schema start parts new
  stay_both parts mid new kept first second = record {
    stay = λ i p at.
        let found = holds_there (slice_get mid i) (StaysFit shares tables schema start p) (first.stay i p at) in
        let then = holds_there (slice_get new i) (StaysFit shares tables schema start found.0) (second.stay i found.0 found.1) in
        at_there (slice_get new i) (StaysFit shares tables schema start p) then.0 then.1
        (stays_on shares tables schema start p found.0 then.0 found.2 then.2);
    sound = λ i p at.
        let found = holds_there (slice_get mid i) (StaysFit shares tables schema start p) (first.stay i p at) in
        let then = holds_there (slice_get new i) (KeepsSoundRunning found.0) (second.sound i found.0 found.1) in
        at_there (slice_get new i) (KeepsSoundRunning p) then.0 then.1
        (sound_both p found.0 then.0 (kept i p at) found.2.kept (is_there (slice_get mid i) (KeepsSoundRunning p) (first.sound i p at) found.0 found.1)
        then.2);
    long = second.long ∙ first.long;
  }

  -- ---- the transaction comes to the parts, one after another

  pub come_none : (parts : List Part) (all : Shares) → KeptEach shares schema start parts → HaveCome shares tables schema start parts 0 parts all
  come_none parts all kept = record {
    still = stay_none parts kept;
    alone = λ i p below at. absurd (omega (arith, below));
    stand = λ i p below at. absurd (omega (arith, below));
  }

  module _ (parts : List Part) (kept : KeptEach shares schema start parts) (count : ℕ) (new : List Part) (all : Shares)
      (came : HaveCome shares tables schema start parts count new all) (q : Part) (at : slice_get new count ≡ Some q) (r : Part)
      (stays : StaysFit shares tables schema start q r) (sound : KeepsSoundRunning q r) where
    abbrev written : List Part
    written = slice_set new count r

    here : slice_get written count ≡ Some r
    here = set_here new count q r at

    one_stays : StayRunning shares tables schema start new written
    one_stays = record {
      stay = λ i p there. dite (ℕ_discrete i count)
          (λ same.
          at_there (slice_get written i) (StaysFit shares tables schema start p) r (ap (slice_get written) same ∙ here)
          (subst (λ (x : Part). StaysFit shares tables schema start x r) (same_Some q p (sym at ∙ ap (slice_get new) (sym same) ∙ there)) stays))
          (λ apart.
          at_there (slice_get written i) (StaysFit shares tables schema start p) p (set_beside new count q r at i apart ∙ there)
          (stays_same p (kept_behind parts new came.still i p there)));
      sound = λ i p there. dite (ℕ_discrete i count)
          (λ same.
          at_there (slice_get written i) (KeepsSoundRunning p) r (ap (slice_get written) same ∙ here)
          (subst (λ (x : Part). KeepsSoundRunning x r) (same_Some q p (sym at ∙ ap (slice_get new) (sym same) ∙ there)) sound))
          (λ apart. at_there (slice_get written i) (KeepsSoundRunning p) p (set_beside new count q r at i apart ∙ there) (λ was. was));
      long = length-set new count r;
    }

    pub still_more : StayRunning shares tables schema start parts written
    still_more = stay_both parts new written kept came.still one_stays

    module _ (apart : AreApart parts) (now : Shares) (others : (other : ℕ) → other ≢ q.number → share_of now other ≡ share_of all other)
        (share : IsSome (share_of now r.number)) (stands : Stands r now) where
      -- a part before it is of another table, whose share is what it was
      left : (i : ℕ) (p : Part) → i < count → slice_get new i ≡ Some p → share_of now p.number ≡ share_of all p.number
      left i p before there = others p.number (apart_behind parts new came.still apart i count p q before there at)

      pub come_more : HaveCome shares tables schema start parts (count + 1) written now
      come_more = record {
        still = still_more;
        alone = λ i p below there. dite (ℕ_discrete i count)
            (λ same.
            subst (λ (x : Part). IsSome (share_of now x.number)) (same_Some r p (sym here ∙ ap (slice_get written) (sym same) ∙ there)) share)
            (λ beside.
            let before : i < count = omega (arith, below, beside) in
            let was = sym (set_beside new count q r at i beside) ∙ there in
            subst IsSome (sym (left i p before was)) (came.alone i p before was));
        stand = λ i p below there. dite (ℕ_discrete i count)
            (λ same. subst (λ (x : Part). Stands x now) (same_Some r p (sym here ∙ ap (slice_get written) (sym same) ∙ there)) stands)
            (λ beside.
            let before : i < count = omega (arith, below, beside) in
            let was = sym (set_beside new count q r at i beside) ∙ there in
            λ one is. came.stand i p before was one (sym (left i p before was) ∙ is));
      }

  -- ---- the parts of just its tables are lent

  -- a table that it names is one of the store
  named_known : (count table : ℕ) (named : List ℕ) → All (λ other. other < count) named → names_table named table ≡ true → table < count
  named_known count table [] all is = let no : false ≡ true = is in cc
  named_known count table (first ∷ rest) all is =
      by_first (table == first) refl (named_known count table rest (λ k d below. all (suc k) d (omega (arith, below)))) is
    where
      by_first : (b : Bool) → (table == first) ≡ b → (names_table rest table ≡ true → table < count) → (b || names_table rest table) ≡ true → table < count
      by_first true same later named = subst (λ (n : ℕ). n < count) (sym (number_is table first same)) (all 0 first (omega arith))
      by_first false apart later named = later named

  module _ (c : change_type.Change) (named : List ℕ) (is : c ≡ Wipe named) (guards : Guards) (parts : List Part)
      (lent : AreLent shares tables schema start (wipes_table c) (length schema) guards parts) where
    names_here : (table : ℕ) → wipes_table c table ≡ names_table named table
    names_here table = ap (λ (d : change_type.Change). wipes_table d table) is

    pub cuts_lent : NamesTables (length schema) c → CutsHere c named parts
    cuts_lent names = record {
      is = is;
      each = λ i p at. sym (names_here p.number) ∙ (lent.wanted_each i p at).0;
      all = λ table its.
          lent.all table (named_known (length schema) table named (subst (NamesTables (length schema)) is names) its) (names_here table ∙ its);
    }

    -- where it waits in no table that it doesn't name, it waits in none beside them
    pub waits_lent : (wants : List change_type.Change) → NamesTables (length schema) c
        → ((table : ℕ) → wipes_table c table ≡ false → changes_at table wants ≡ []) → (table : ℕ) → IsBeside parts table → changes_at table wants ≡ []
    waits_lent wants names waits table beside = by_name (wipes_table c table) refl
      where
        by_name : (b : Bool) → wipes_table c table ≡ b → changes_at table wants ≡ []
        by_name true its =
            let found = (cuts_lent names).all table (sym (names_here table) ∙ its) in
            absurd (beside found.0 found.1 found.2 found.3)
        by_name false apart = waits table apart

-- ---- the ticket of a call that was refused

pub refused_is : (shares : ℕ → Name) (schema : Schema) (waits : Waits) (t u : OpenTicket) (fault : Fault)
    → u ≡ record t { events = t.events ++ refusal_events fault } → IsTicket shares schema waits t → IsTicket shares schema waits u
refused_is shares schema waits t u fault now is =
    ticket_as shares schema waits t is u (ap (λ (x : OpenTicket). x.number) now)
    (ap (λ (x : OpenTicket). opened_by x.events) now ∙ opened_refused t.events fault)
    (λ table. ap (λ (x : OpenTicket). share_of x.shares table) now)
