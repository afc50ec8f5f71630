-- What follows of what is learned under all locks.
--     ticket_cases      a transaction has one of the tickets and is open as it tells, or has none and isn't open
--     stood_each      each is open as its ticket tells
--     has_whole      the world that line and tickets tell has the part of each table
--     is_whole      it is one that a run may have
use Rattle.std.specs.Prelude.{◌≡◌, ◌≢◌, ◌⊎◌, ℕ, ◌<◌, ◌≤◌, Bool, true, false, List, [], ◌∷◌, Option, Some, None, is_some, length, slice_get, refl}
use Rattle.std.proofs.Common.{zero, suc, sym, ◌∙◌, ap, subst, arith, inl, inr}
use Rattle.std.proofs.Math.Logic.{∥∥₁_map}
use Rattle.std.proofs.lemmas.Option.{none-some, same_Some}
use Rattle.std.specs.Ordering.{nat_cmp}
use Rattle.std.specs.FinMap as finite
use Rattle.std.specs.FinMap.{get}
use mathlib.Core.Logic.{dite}
use native.Mathlib.Decide.{ℕ_discrete, dec_lt}
use Rattle.model.specs.declared.change.Change as change_type
use Rattle.model.specs.Effect.{ClashCause}
use Rattle.model.specs.Rows.{Rows, Schema, IsValid}
use Rattle.tokens.specs.Half.{Name}
use Rattle.world.specs.ListingLemmas.{got_same, got_other}
use Rattle.world.specs.World.{Opened, Stop, ByClash, World, starting}
use Rattle.world_parts.specs.ByTable.{rows_at, changes_at, IsIn}
use Rattle.world_parts.specs.ByTableLemmas.{valid_at}
use Rattle.world_parts.specs.LedLemmas.{each_table, led_by_parts}
use Rattle.world_parts.specs.Lines.{HasLine, line_at}
use Rattle.world_parts.specs.MadeLemmas.{made_of_part, made_of_parts}
use Rattle.world_parts.specs.MarkLemmas.{nothing_told}
use Rattle.world_parts.specs.Marks.{items_at, survivors_if, HasPart}
use Rattle.world_parts.specs.Parts.{wanted_if}
use Rattle.world_parts.specs.Reached.{PartReaches, at_start}
use Rattle.world_parts.specs.Sound.{HasSoundPart, StopsInTable}
use Rattle.world_parts.specs.SoundLemmas.{sound_start}
use Rattle.world_parts.specs.Statements.{IsSerial, IsMadeOf, HasMadePart}
use Rattle.engine.specs.declared.events.LineEvent.{LineEvent}
use Rattle.engine.specs.Events.{opened_by, commits_in, is_open_in}
use Rattle.table_parts.specs.Part.{Part}
use Rattle.parted_store.specs.ActLemmas.{in_no_other}
use Rattle.parted_store.specs.KeepsSound.{with_stop}
use Rattle.parted_store.specs.Lent.{OpenTicket, HasTable, IsShare, HasShares}
use Rattle.parted_store.specs.Shares.{Share, share_of}
use Rattle.table_locks.specs.Lending.{Guards, state_at}
use Rattle.table_locks.specs.StartLemmas.{own_starting}
use Rattle.table_locks.specs.TableStates.{TableState}
use Rattle.table_locks.specs.Tickets.{IsTied}
use Rattle.table_locks.specs.Whole.{opened_in, whole, AreAllOpen, IsWhole, AreTickets, HasShareOf, IsMetIn, IsMetWhole}

-- ---- the open transactions

-- none of the tickets is the transaction's, and it isn't open
abbrev HasNone : List OpenTicket → ℕ → Type 0
HasNone tickets xid = (get (opened_in tickets) xid ≡ None) × ((i : ℕ) (t : OpenTicket) → slice_get tickets i ≡ Some t → t.number ≢ xid)

-- one is, and it is open as that tells
abbrev HasOne : List OpenTicket → ℕ → Type 0
HasOne tickets xid =
    (i : ℕ) × (t : OpenTicket) × (slice_get tickets i ≡ Some t) × (t.number ≡ xid) × (get (opened_in tickets) xid ≡ Some (opened_by t.events))

pub ticket_cases : (tickets : List OpenTicket) (xid : ℕ) → HasNone tickets xid ⊎ HasOne tickets xid
ticket_cases [] xid = inl (finite.get-empty nat_cmp xid, λ i t at. absurd (none-some t at))
ticket_cases (t ∷ tickets) xid = dite (ℕ_discrete xid t.number)
    (λ same. inr (
      0,
      t,
      refl,
      sym same,
      ap (get (opened_in (t ∷ tickets))) same ∙ got_same (opened_in tickets) t.number (opened_by t.events),
    ))
    (λ apart.
    let left = got_other (opened_in tickets) t.number (opened_by t.events) xid apart in
    elim (ticket_cases tickets xid) [
      | inl none ↦ inl (left ∙ none.0, first_apart apart none.1)
      | inr one ↦ inr (suc one.0, one.1, one.2, one.3, left ∙ one.4)
    ])
  where
    first_apart : xid ≢ t.number → ((i : ℕ) (u : OpenTicket) → slice_get tickets i ≡ Some u → u.number ≢ xid)
        → (i : ℕ) (u : OpenTicket) → slice_get (t ∷ tickets) i ≡ Some u → u.number ≢ xid
    first_apart apart none zero u at is = apart (sym is ∙ ap (λ (v : OpenTicket). v.number) (sym (same_Some t u at)))
    first_apart apart none (suc i) u at is = none i u at is

module _ (line : List LineEvent) (tickets : List OpenTicket) (open_are : AreAllOpen line tickets) where
  -- two tickets of one transaction are one
  same_ticket : (i j : ℕ) (t u : OpenTicket) → slice_get tickets i ≡ Some t → slice_get tickets j ≡ Some u → t.number ≡ u.number → t ≡ u
  same_ticket i j t u at_t at_u same = dite (ℕ_discrete i j)
      (λ here. same_Some t u (sym at_t ∙ ap (slice_get tickets) here ∙ at_u))
      (λ beside. elim (before_or i j beside) [
        | inl before ↦ absurd (open_are.apart i j t u before at_t at_u same)
        | inr behind ↦ absurd (open_are.apart j i u t behind at_u at_t (sym same))
      ])
    where
      before_or : (i j : ℕ) → i ≢ j → (i < j) ⊎ (j < i)
      before_or zero zero apart = absurd (apart refl)
      before_or zero (suc j) apart = inl (omega arith)
      before_or (suc i) zero apart = inr (omega arith)
      before_or (suc i) (suc j) apart = elim (before_or i j (λ same. apart (ap suc same))) [
        | inl before ↦ inl (omega (arith, before))
        | inr behind ↦ inr (omega (arith, behind))
      ]

  pub stood_each : (i : ℕ) (t : OpenTicket) → slice_get tickets i ≡ Some t → get (opened_in tickets) t.number ≡ Some (opened_by t.events)
  stood_each i t at = elim (ticket_cases tickets t.number) [
    | inl none ↦ absurd (none.1 i t at refl)
    | inr one ↦ one.4 ∙ ap (λ (u : OpenTicket). Some (opened_by u.events)) (same_ticket one.0 i one.1 t one.2 at one.3)
  ]

  -- just those are open that the line tells
  pub opened_each : (xid : ℕ) → is_open_in line xid ≡ is_some (get (opened_in tickets) xid)
  opened_each xid = elim (ticket_cases tickets xid) [
    | inl none ↦ not_open (is_open_in line xid) (λ is. let one = open_are.all xid is in none.1 one.0 one.1 one.2 one.3) ∙ ap is_some (sym none.0)
    | inr one ↦ subst (λ n. is_open_in line n ≡ true) one.3 (open_are.each one.0 one.1 one.2) ∙ ap is_some (sym one.4)
  ]
    where
      not_open : (b : Bool) → (b ≡ true → ⊥) → b ≡ false
      not_open true never = absurd (never refl)
      not_open false never = refl

-- ---- what a table was told of a transaction

-- The part has of the transaction what was told to the table of one that is open so, and wants there what that wants.
abbrev IsToldOf : ℕ → World → List OpenTicket → ℕ → Type 0
IsToldOf table part tickets xid =
    (survivors_if xid (get part.opened xid) ≡ items_at table xid (survivors_if xid (get (opened_in tickets) xid)))
    × (wanted_if (get part.opened xid) ≡ changes_at table (wanted_if (get (opened_in tickets) xid)))

told_as : (table : ℕ) (part : World) (tickets : List OpenTicket) (xid : ℕ) (here there : Option Opened) → get part.opened xid ≡ here
    → get (opened_in tickets) xid ≡ there → survivors_if xid here ≡ items_at table xid (survivors_if xid there)
    → wanted_if here ≡ changes_at table (wanted_if there) → IsToldOf table part tickets xid
told_as table part tickets xid here there is_here is_there told wants = (
  ap (survivors_if xid) is_here ∙ told ∙ ap (λ o. items_at table xid (survivors_if xid o)) (sym is_there),
  ap wanted_if is_here ∙ wants ∙ ap (λ o. changes_at table (wanted_if o)) (sym is_there),
)

-- of one without a ticket nothing
told_none : (table : ℕ) (part : World) (tickets : List OpenTicket) (xid : ℕ) → get part.opened xid ≡ None → get (opened_in tickets) xid ≡ None
    → IsToldOf table part tickets xid
told_none table part tickets xid here there = told_as table part tickets xid None None here there refl refl

-- nor of one without a share
told_unshared : (table : ℕ) (part : World) (tickets : List OpenTicket) (xid : ℕ) (t : OpenTicket) → t.number ≡ xid
    → get (opened_in tickets) xid ≡ Some (opened_by t.events) → HasShares t → share_of t.shares table ≡ None → get part.opened xid ≡ None
    → IsToldOf table part tickets xid
told_unshared table part tickets xid t number is has none here =
    let nothing = subst (IsShare t.number (opened_by t.events) table) none (has table) in
    told_as table part tickets xid None (Some (opened_by t.events)) here is
    (sym (subst (λ n. items_at table n (survivors_if n (Some (opened_by t.events))) ≡ []) number
    (nothing_told table t.number (survivors_if t.number (Some (opened_by t.events))) nothing.0)))
    (sym nothing.1)

-- of one with a share what that tells
told_shared : (table : ℕ) (part : World) (tickets : List OpenTicket) (xid : ℕ) (t : OpenTicket) → t.number ≡ xid
    → get (opened_in tickets) xid ≡ Some (opened_by t.events) → (name : Name) (share : Share) → IsTied name t.number (opened_by t.events) table share
    → get part.opened share.number ≡ Some (opened_by share.list) → IsToldOf table part tickets xid
told_shared table part tickets xid t number is name share tied stood =
    told_as table part tickets xid (Some (opened_by share.list)) (Some (opened_by t.events))
    (ap (get part.opened) (sym (tied.number ∙ number)) ∙ stood) is
    (subst (λ n. survivors_if n (Some (opened_by share.list)) ≡ items_at table n (survivors_if n (Some (opened_by t.events)))) number tied.told) tied.wants

-- ---- a part of the world

module _ (schema : Schema) (start : Rows) (line : List LineEvent) (tickets : List OpenTicket) (stopped : Option Stop) where
  abbrev w : World
  w = whole schema start line tickets stopped

  made_by : (table : ℕ) (part : World) → HasPart table part part → IsSerial schema part → HasLine table w part
      → ((xid : ℕ) → IsToldOf table part tickets xid) → IsMadeOf schema table w part
  made_by table part own serial_here has_line each = record {
    own = own;
    serial_commits = serial_here;
    line = has_line;
    told = λ xid. (each xid).0;
    wanted = λ xid. (each xid).1;
  }

module _ (shares : ℕ → Name) (tables : Name) (schema : Schema) (start : Rows) (line : List LineEvent) (tickets : List OpenTicket) (stopped : Option Stop)
    (tickets_are : AreTickets shares schema tickets) (open_are : AreAllOpen line tickets) where
  abbrev v : World
  v = whole schema start line tickets stopped

  module _ (table : ℕ) (s : TableState) (p : Part) (met : IsMetIn shares tables schema start line tickets table s p) where
    -- the part is the table's
    of_table : p.number ≡ table
    of_table = met.fits.number ∙ met.number

    closed_there : (xid : ℕ) (o : Opened) → get p.store.world.opened xid ≡ Some o → HasShareOf tickets table xid
    closed_there xid o is = subst (λ n. HasShareOf tickets n xid) of_table (met.has.closed xid o is)

    -- a transaction is not open there that has no share of it
    not_there : (xid : ℕ) → (HasShareOf tickets table xid → ⊥) → get p.store.world.opened xid ≡ None
    not_there xid none = by (get p.store.world.opened xid) refl
      where
        by : (found : Option Opened) → get p.store.world.opened xid ≡ found → found ≡ None
        by None is = refl
        by (Some o) is = absurd (none (closed_there xid o is))

    told_each : (xid : ℕ) → IsToldOf table p.store.world tickets xid
    told_each xid = elim (ticket_cases tickets xid) [
      | inl none ↦
          told_none table p.store.world tickets xid (not_there xid (λ has. none.1 has.0 has.1 has.2 has.3)) none.0
      | inr one ↦ by_share one.0 one.1 one.2 one.3 one.4 (share_of one.1.shares table) refl
    ]
      where
        by_share : (i : ℕ) (t : OpenTicket) → slice_get tickets i ≡ Some t → t.number ≡ xid → get (opened_in tickets) xid ≡ Some (opened_by t.events)
            → (found : Option Share) → share_of t.shares table ≡ found → IsToldOf table p.store.world tickets xid
        by_share i t at number is None none =
            told_unshared table p.store.world tickets xid t number is (tickets_are i t at).1 none
            (not_there xid (λ has.
            let same = same_ticket line tickets open_are has.0 i has.1 t has.2 at (has.3 ∙ sym number) in
            let no : false ≡ true = ap is_some (sym none) ∙ ap (λ (u : OpenTicket). is_some (share_of u.shares table)) (sym same) ∙ has.4 in
            cc))
        by_share i t at number is (Some share) found =
            told_shared table p.store.world tickets xid t number is (shares table) share ((tickets_are i t at).0.tied table share found)
            (met.has.stand i t at share (ap (share_of t.shares) of_table ∙ found))

    has_line : HasLine table v p.store.world
    has_line = record {
      start = met.fits.kept.start_is ∙ ap (λ n. rows_at n start) of_table;
      line =
          ap (λ n. line_at n p.store.world.line) (sym of_table) ∙ sym met.fits.listed.list ∙ met.commits;
    }

    made : IsMadeOf schema table v p.store.world
    made =
        made_by schema start line tickets stopped table p.store.world
        (subst (λ n. HasPart n p.store.world p.store.world) of_table met.fits.kept.own) met.fits.sound.fine.serial_commits has_line told_each

    has_part : HasPart table v p.store.world
    has_part = made_of_part schema table v p.store.world refl made

    -- the world has the part of each table
    pub has_whole : HasTable v p
    has_whole = record {
      is = subst (λ n. HasPart n v p.store.world) (sym of_table) has_part;
      line = subst (λ n. HasLine n v p.store.world) (sym of_table) has_line;
    }

    reached_here : ∥ HasMadePart schema start v table ∥₁
    reached_here =
        ∥∥₁_map met.fits.kept.reached (λ (led : PartReaches schema p.number (starting (rows_at p.number start)) p.store.world). (
          p.store.world,
          made,
          subst (λ n. PartReaches schema n (starting (rows_at n start)) p.store.world) of_table led,
        ))

    -- and is sound there, where what stopped the world is what the table knows, if that was by a change of it
    sound_here : ((xid : ℕ) (c : change_type.Change) (cause : ClashCause) → stopped ≡ Some (ByClash xid c cause) → IsIn table c → s.stopped ≡ stopped)
        → HasSoundPart schema v table
    sound_here knows = (
      with_stop s.stopped p,
      record {
        part_of = record { committed = has_part.0.committed; work = has_part.0.work; wanted = has_part.0.wanted };
        line = record { start = has_line.start; line = has_line.line };
        stopped = knows;
        sound = met.fits.sound;
      },
    )

  -- beyond the tables of the store there is nothing
  module _ (table : ℕ) (past : length schema ≤ table) (none : line_at table (commits_in line) ≡ []) where
    abbrev nothing : World
    nothing = starting (rows_at table start)

    nothing_there : (xid : ℕ) → get nothing.opened xid ≡ None
    nothing_there xid = finite.get-empty nat_cmp xid

    none_shares : (i : ℕ) (t : OpenTicket) → slice_get tickets i ≡ Some t → share_of t.shares table ≡ None
    none_shares i t at = by (share_of t.shares table) refl
      where
        by : (found : Option Share) → share_of t.shares table ≡ found → found ≡ None
        by None is = refl
        by (Some share) is = let known = (tickets_are i t at).0.known table share is in absurd (omega (arith, known, past))

    nothing_told_each : (xid : ℕ) → IsToldOf table nothing tickets xid
    nothing_told_each xid = elim (ticket_cases tickets xid) [
      | inl without ↦ told_none table nothing tickets xid (nothing_there xid) without.0
      | inr one ↦
          told_unshared table nothing tickets xid one.1 one.3 one.4 (tickets_are one.0 one.1 one.2).1 (none_shares one.0 one.1 one.2) (nothing_there xid)
    ]

    line_beyond : HasLine table v nothing
    line_beyond = record { start = refl; line = sym none }

    made_beyond : IsMadeOf schema table v nothing
    made_beyond = made_by schema start line tickets stopped table nothing (own_starting table start) refl line_beyond nothing_told_each

    reached_beyond : HasMadePart schema start v table
    reached_beyond = (nothing, made_beyond, at_start)

    sound_beyond : IsValid schema start
        → ((xid : ℕ) (c : change_type.Change) (cause : ClashCause) → stopped ≡ Some (ByClash xid c cause) → IsIn table c → ⊥)
        → HasSoundPart schema v table
    sound_beyond valid no_clash = (
      nothing,
      record {
        part_of = (made_of_part schema table v nothing refl made_beyond).0;
        line = line_beyond;
        stopped = λ xid c cause is inside. absurd (no_clash xid c cause is inside);
        sound = sound_start schema (rows_at table start) (valid_at schema table start valid);
      },
    )

-- ---- the world

module _ (shares : ℕ → Name) (tables : Name) (schema : Schema) (start : Rows) (line : List LineEvent) (tickets : List OpenTicket) (guards : Guards)
    (stopped : Option Stop) (met : IsMetWhole shares tables schema start line tickets guards stopped) where
  abbrev all : World
  all = whole schema start line tickets stopped

  -- a change of one table alone is of no other
  one_table : (c : change_type.Change) (table other : ℕ) → IsIn table c → IsIn other c → table ≡ other
  one_table c table other inside too = dite (ℕ_discrete table other)
      (λ same. same)
      (λ apart.
      let no : [] ≡ c ∷ [] = sym (in_no_other table other c inside (λ same. apart (sym same))) ∙ too in
      absurd cc)

  reached : ∥ ((table : ℕ) → HasMadePart schema start all table) ∥₁
  reached =
      each_table (HasMadePart schema start all) (length schema)
      (λ table below.
      let (s, p, at, here) = met.met table below in
      reached_here shares tables schema start line tickets stopped met.tickets_are met.open_are table s p here)
      (λ table past.
      reached_beyond shares tables schema start line tickets stopped met.tickets_are met.open_are table past (met.beyond table past))

  -- the table of a clash that stopped the world knows of it
  knows : (table : ℕ) (s : TableState) → state_at guards table ≡ Some s → (xid : ℕ) (c : change_type.Change) (cause : ClashCause)
      → stopped ≡ Some (ByClash xid c cause) → IsIn table c → s.stopped ≡ stopped
  knows table s at xid c cause is inside =
      let (noted_in, t, below, there, noted) = met.noted xid c cause is in
      let same : t ≡ s = same_Some t s (sym there ∙ ap (state_at guards) (one_table c noted_in table noted.inside inside) ∙ at) in
      ap (λ (u : TableState). u.stopped) (sym same) ∙ noted.noted

  no_clash_beyond : (table : ℕ) → length schema ≤ table → (xid : ℕ) (c : change_type.Change) (cause : ClashCause)
      → stopped ≡ Some (ByClash xid c cause) → IsIn table c → ⊥
  no_clash_beyond table past xid c cause is inside =
      let (noted_in, t, below, there, noted) = met.noted xid c cause is in
      let same = one_table c noted_in table noted.inside inside in
      omega (arith, same, below, past)

  sound_each : IsValid schema start → (table : ℕ) → HasSoundPart schema all table
  sound_each valid table = dite (dec_lt table (length schema))
      (λ below.
      let (s, p, at, here) = met.met table below in
      sound_here shares tables schema start line tickets stopped met.tickets_are met.open_are table s p here (knows table s at))
      (λ past.
      sound_beyond shares tables schema start line tickets stopped met.tickets_are met.open_are table (omega (arith, past))
      (met.beyond table (omega (arith, past))) valid (no_clash_beyond table (omega (arith, past))))

  stops_in_table : StopsInTable all
  stops_in_table xid c cause is =
      let (table, s, below, there, noted) = met.noted xid c cause is in (
        table,
        noted.inside,
        λ o sub e at wants. elim (ticket_cases tickets xid) [
          | inl none ↦ let no : None ≡ Some o = sym none.0 ∙ at in absurd (none-some o no)
          | inr one ↦
              noted.wants one.0 one.1 one.2 one.3 sub e
              (ap (λ (p : Opened). p.wants) (same_Some (opened_by one.1.events) o (sym one.4 ∙ at)) ∙ wants)
        ],
      )

  pub is_whole : IsWhole schema start line tickets stopped
  is_whole = record {
    led =
        led_by_parts schema start all refl (∥∥₁_map reached (made_of_parts schema start all refl)) (λ valid. ∣ sound_each valid ∣₁)
        stops_in_table;
    opened = opened_each line tickets met.open_are;
    stood = stood_each line tickets met.open_are;
  }
