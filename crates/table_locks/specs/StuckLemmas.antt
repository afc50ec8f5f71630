-- What follows of who waits for whom under the locks, where all is one world.
--     none_waits, one_waits, nowhere_within      before the first table it waits for nobody; so behind one more; and within these
--     states_on, nowhere_before, settled_before      what is known of locks under which the same lies
--     told_waiting, not_sent      a ticket tells that its transaction waits; the count of one was not sent
--     met_now      what was met under the locks is there while the same lies under them
--     tells_noted      the clash that is noted by the tickets is noted in the world
--     tells_holder, tells_held      whom a transaction waits for under the locks it waits for in the world, and there nothing goes on
use Rattle.std.specs.Prelude.{◌≡◌, ◌⊎◌, ◌↔◌, ℕ, ◌+◌, ◌<◌, ◌≤◌, ◌-◌, ◌^◌, Bool, true, false, List, Option, Some, None, IsSome, IfSome, IsTrue, is_some, length, min, slice_get, refl}
use Rattle.std.proofs.Common.{sym, ◌∙◌, ap, subst, arith, inl, inr}
use Rattle.std.proofs.lemmas.Option.{none-some, same_Some}
use Rattle.std.specs.FinMap.{get}
use Rattle.std.specs.List.{Contains}
use mathlib.Core.Logic.{dite}
use native.Mathlib.Decide.{ℕ_discrete}
use Rattle.model.specs.declared.change.Change as change_type
use Rattle.model.specs.Effect.{ClashCause}
use Rattle.model.specs.Rows.{Rows, Schema}
use Rattle.tokens.specs.Half.{Name}
use Rattle.change.specs.declared.outcome.Clash.{Clash}
use Rattle.world.specs.Settled.{WaitsFor, IsNamed, IsSettled}
use Rattle.world.specs.World.{Opened, Stop, ByClash, World}
use Rattle.live_tables.specs.Waits.{IsSentCount}
use Rattle.engine.specs.declared.events.LineEvent.{LineEvent}
use Rattle.engine.specs.Events.{opened_by}
use Rattle.table_parts.specs.Part.{Part}
use Rattle.parted_store.specs.HeldLemmas.{waits_in_part, waits_nowhere}
use Rattle.parted_store.specs.Lent.{OpenTicket, WaitsIn}
use Rattle.table_locks.specs.Lending.{Guards, state_at}
use Rattle.table_locks.specs.Noted.{IsNoted, TellsNoted, TellsStill, TellsHolder, TellsHeld}
use Rattle.table_locks.specs.Stuck.{WaitsAt, WaitsNowhere, IsSettledAt, TellsWaiting, TellsStuck}
use Rattle.table_locks.specs.TableStates.{TableState}
use Rattle.table_locks.specs.Tickets.{counted}
use Rattle.table_locks.specs.Whole.{whole, IsMetAt, IsMetWhole, AreSameStates}
use Rattle.table_locks.specs.WholeLemmas.{ticket_cases, stood_each, has_whole}

some_wants : (w : Option (ℕ × change_type.Change)) → w ≡ None → ¬ (IsSome w)
some_wants None is some = let no : false ≡ true = some in cc
some_wants (Some w) is some = none-some w (sym is)

-- a count that isn't the last number is exact
count_is : (items : ℕ) → min items (2 ^ 64 - 1) < 2 ^ 64 - 1 → min items (2 ^ 64 - 1) ≡ items
count_is items below = let less = below in omega (arith, less)

count_of : (items : ℕ) → items < 2 ^ 64 - 1 → min items (2 ^ 64 - 1) ≡ items
count_of items below = let less = below in omega (arith, less)

sent_named : (sent : List (ℕ × ℕ)) (t : OpenTicket) → IsSentCount sent t.number (counted t.events) → IsNamed sent t.number (opened_by t.events)
sent_named sent t is =
    let same = count_is (length (opened_by t.events).items) is.1 in
    (subst (λ count. Contains sent (t.number, count)) same is.0, subst (λ count. count < 2 ^ 64 - 1) same is.1)

named_sent : (sent : List (ℕ × ℕ)) (t : OpenTicket) → IsNamed sent t.number (opened_by t.events) → IsSentCount sent t.number (counted t.events)
named_sent sent t is =
    let same = sym (count_of (length (opened_by t.events).items) is.1) in
    (subst (λ count. Contains sent (t.number, count)) same is.0, subst (λ count. count < 2 ^ 64 - 1) same is.1)

-- ---- one table after another

module _ (guards : Guards) (t : OpenTicket) where
  pub none_waits : WaitsNowhere guards 0 t
  none_waits holder waits = let below = waits.3 in absurd (omega (arith, below))

  pub one_waits : (count : ℕ)
      → ((s : TableState) (p : Part) → state_at guards count ≡ Some s → s.part ≡ Some p → (holder : ℕ) → ¬ (WaitsIn p t.shares holder))
      → WaitsNowhere guards count t → WaitsNowhere guards (count + 1) t
  one_waits count here before holder (table, s, p, below, at, part, waits) = dite (ℕ_discrete table count)
      (λ same. here s p (ap (state_at guards) (sym same) ∙ at) part holder waits)
      (λ apart. before holder (table, s, p, omega (arith, below, apart), at, part, waits))

  pub nowhere_within : (count within : ℕ) → within ≤ count → WaitsNowhere guards count t → WaitsNowhere guards within t
  nowhere_within count within fewer nowhere holder (table, s, p, below, at, part, waits) =
      nowhere holder (table, s, p, (let less = below in omega (arith, less, fewer)), at, part, waits)

-- what lay under the locks lies there still
pub states_on : (guards now : Guards) → AreSameStates guards now → (later : Guards) → AreSameStates now later → AreSameStates guards later
states_on guards now same later more = (λ i. more.0 i ∙ same.0 i, more.1 ∙ same.1)

module _ (guards now : Guards) (same : AreSameStates guards now) (count : ℕ) where
  waits_on : (t : OpenTicket) (holder : ℕ) → WaitsAt guards count t holder → WaitsAt now count t holder
  waits_on t holder (table, s, p, below, at, part, waits) = (table, s, p, below, same.0 table ∙ at, part, waits)

  waits_before : (t : OpenTicket) (holder : ℕ) → WaitsAt now count t holder → WaitsAt guards count t holder
  waits_before t holder (table, s, p, below, at, part, waits) = (table, s, p, below, sym (same.0 table) ∙ at, part, waits)

  pub nowhere_before : (t : OpenTicket) → WaitsNowhere now count t → WaitsNowhere guards count t
  nowhere_before t nowhere holder waits = nowhere holder (waits_on t holder waits)

  pub settled_before : (sent : List (ℕ × ℕ)) (t : OpenTicket) → IsSettledAt now count sent t → IsSettledAt guards count sent t
  settled_before sent t (inl named) = inl named
  settled_before sent t (inr waits) = inr (waits.0, waits_before t waits.0 waits.1)

  -- one of the tickets tells that its transaction, which is this one, waits
  pub told_waiting : (tickets : List OpenTicket) (xid i : ℕ) (t : OpenTicket) → slice_get tickets i ≡ Some t → (told : Option ℕ) → is_some told ≡ true
      → IfSome told (λ holder. (t.number ≡ xid) × WaitsAt now count t holder) → TellsWaiting guards count tickets xid told
  told_waiting tickets xid i t at None some held = let no : false ≡ true = some in cc
  told_waiting tickets xid i t at (Some holder) some held = (i, t, at, held.0, waits_before t holder held.1)

not_true : (b : Bool) → b ≡ false → ¬ (IsTrue b)
not_true true is = let no : true ≡ false = is in cc
not_true false is = λ so. let no : false ≡ true = so in cc

-- a count that was looked for and not found
pub not_sent : (sent : List (ℕ × ℕ)) (t : OpenTicket) (xid done : ℕ) → xid ≡ t.number → done ≡ counted t.events → (found : Bool)
    → IsTrue found ↔ IsSentCount sent xid done → found ≡ false → ¬ (IsSentCount sent t.number (counted t.events))
not_sent sent t xid done number count found told missing is =
    not_true found missing (told.1 (subst (λ n. IsSentCount sent n done) (sym number) (subst (IsSentCount sent t.number) (sym count) is)))

-- ---- all in one world

module _ (shares : ℕ → Name) (tables : Name) (schema : Schema) (start : Rows) (line : List LineEvent) (tickets : List OpenTicket) (guards : Guards)
    (stopped : Option Stop) (met : IsMetWhole shares tables schema start line tickets guards stopped) where
  abbrev all : World
  all = whole schema start line tickets stopped

  -- what is open is open as its ticket tells
  its_ticket : (xid : ℕ) (o : Opened) → get all.opened xid ≡ Some o
      → (i : ℕ) × (t : OpenTicket) × (slice_get tickets i ≡ Some t) × (t.number ≡ xid) × (opened_by t.events ≡ o)
  its_ticket xid o at = elim (ticket_cases tickets xid) [
    | inl none ↦ absurd (none-some o (sym none.0 ∙ at))
    | inr one ↦ (one.0, one.1, one.2, one.3, same_Some (opened_by one.1.events) o (sym one.4 ∙ at))
  ]

  -- ---- a clash

  pub tells_noted : (clash : Option Clash) → TellsStill tickets stopped clash → TellsNoted all clash
  tells_noted (Some clash) told =
      let (i, t, c, cause, at, caused, is, wants) = told in
      (cause, caused, (t.number, opened_by t.events, c, stood_each line tickets met.open_are i t at, is, wants))
  tells_noted None told = λ cause noted.
      let (xid, done, c, at, is, wants) = noted in
      let (i, t, there, number, same) = its_ticket xid done at in
      some_wants (opened_by t.events).wants (told i t c cause there (is ∙ ap (λ n. Some (ByClash n c cause)) (sym number)))
      (subst (λ (o : Opened). IsSome o.wants) (sym same) wants)

  -- ---- who waits

  module _ (i : ℕ) (t : OpenTicket) (at : slice_get tickets i ≡ Some t) where
    waits_world : (holder : ℕ) → WaitsAt guards (length schema) t holder → WaitsFor schema all t.number (opened_by t.events) holder
    waits_world holder waits =
        let (table, s, p, below, there, part_is, waits_in) = waits in
        let (u, q, found, here) = met.met table below in
        let same_state : s ≡ u = same_Some s u (sym there ∙ found) in
        let same_part : p ≡ q = same_Some p q (sym part_is ∙ ap (λ (v : TableState). v.part) same_state ∙ here.part) in
        waits_in_part schema all t (stood_each line tickets met.open_are i t at) (met.tickets_are i t at).1 q
        (has_whole shares tables schema start line tickets stopped met.tickets_are met.open_are table u q here) here.fits.kept.schema_is
        (here.has.stand i t at) holder (subst (λ (r : Part). WaitsIn r t.shares holder) same_part waits_in)

    nowhere_world : WaitsNowhere guards (length schema) t → (holder : ℕ) → ¬ (WaitsFor schema all t.number (opened_by t.events) holder)
    nowhere_world nowhere =
        waits_nowhere schema all t (stood_each line tickets met.open_are i t at) (met.tickets_are i t at).1 (λ table share found.
        let below = (met.tickets_are i t at).0.known table share found in
        let (s, p, there, here) = met.met table below in record {
          part = p;
          number = here.fits.number ∙ here.number;
          has = has_whole shares tables schema start line tickets stopped met.tickets_are met.open_are table s p here;
          keys = here.fits.kept.schema_is;
          stands = here.has.stand i t at;
          nobody = λ holder waits. nowhere holder (table, s, p, below, there, here.part, waits);
        })

    settled_world : (sent : List (ℕ × ℕ)) → IsSettledAt guards (length schema) sent t
        → IsNamed sent t.number (opened_by t.events) ⊎ ((holder : ℕ) × WaitsFor schema all t.number (opened_by t.events) holder)
    settled_world sent settled = elim settled [
      | inl named ↦ inl (sent_named sent t named)
      | inr waits ↦ inr (waits.0, waits_world waits.0 waits.1)
    ]

  module _ (sent : List (ℕ × ℕ)) (xid : ℕ) where
    all_settled : ((i : ℕ) (t : OpenTicket) → slice_get tickets i ≡ Some t → IsSettledAt guards (length schema) sent t) → IsSettled schema all sent
    all_settled each other o at =
        let (i, t, there, number, same) = its_ticket other o at in
        subst (λ n. IsNamed sent n o ⊎ ((holder : ℕ) × WaitsFor schema all n o holder)) number
        (subst (λ (p : Opened). IsNamed sent t.number p ⊎ ((holder : ℕ) × WaitsFor schema all t.number p holder)) same
        (settled_world i t there sent (each i t there)))

    pub tells_holder : (holder : Option ℕ) → TellsStuck guards (length schema) tickets sent xid holder → TellsHolder schema all sent xid holder
    tells_holder (Some holder) told =
        let (i, t, there, number, waits) = told.0 in (
          all_settled told.1,
          opened_by t.events,
          subst (λ n. get all.opened n ≡ Some (opened_by t.events)) number (stood_each line tickets met.open_are i t there),
          subst (λ n. WaitsFor schema all n (opened_by t.events) holder) number (waits_world i t there holder waits),
        )
    tells_holder None told = λ holder stuck. elim told [
      | inl nowhere ↦
          let (i, t, there, number, same) = its_ticket xid stuck.1 stuck.2 in
          nowhere_world i t there (nowhere i t there number) holder
          (subst (λ (o : Opened). WaitsFor schema all t.number o holder) (sym same)
          (subst (λ n. WaitsFor schema all n stuck.1 holder) (sym number) stuck.3))
      | inr one ↦
          let (i, t, there, unsettled) = one in
          elim (stuck.0 t.number (opened_by t.events) (stood_each line tickets met.open_are i t there)) [
            | inl named ↦ absurd (unsettled.0 (named_sent sent t named))
            | inr waits ↦ absurd (nowhere_world i t there unsettled.1 waits.0 waits.1)
          ]
    ]

  pub tells_held : (sent : List (ℕ × ℕ)) (waiter holder : Option ℕ)
      → ((xid : ℕ) → waiter ≡ Some xid → TellsStuck guards (length schema) tickets sent xid holder) → TellsHeld schema all sent waiter holder
  tells_held sent None holder told = tt
  tells_held sent (Some xid) holder told = tells_holder sent xid holder (told xid refl)

-- what was met is there while the same lies under the locks
pub met_now : (shares : ℕ → Name) (tables : Name) (schema : Schema) (start : Rows) (line : List LineEvent) (tickets : List OpenTicket) (guards now : Guards)
    (stopped : Option Stop) → AreSameStates guards now → IsMetWhole shares tables schema start line tickets guards stopped
    → IsMetWhole shares tables schema start line tickets now stopped
met_now shares tables schema start line tickets guards now stopped same met = record {
  tickets_are = met.tickets_are;
  open_are = met.open_are;
  met = λ table below. subst (IsMetAt shares tables schema start line tickets table) (sym (same.0 table)) (met.met table below);
  beyond = met.beyond;
  noted = λ xid c cause is.
      let (table, s, below, there, noted) = met.noted xid c cause is in
      (table, s, below, same.0 table ∙ there, noted);
}
