-- A call of a ticket's transaction that is no commit, over the parts of its tables, which are lent.
--     somewhere      a ticket is one of the store, wherever its transaction waits
--     belong_each      each share is one of its part
--     the_world, at_world, has_witness      a world that has the ticket, and the part, where the ticket has a share of it
--     stay_each      each part may lie where it lay, once a call has led all worlds on that have it
--     tied_each, ticket_behind      each share tells what its transaction did; the ticket behind the call
--     fits_still, fit_again      what stays so, and sound, may be put back
--     touch_steps, touch_line      an item that changes no row
--     wants_back, waits_touched      where a transaction waits behind a rollback, and behind such an item
--     ticket_touched      the ticket behind such an item, where its transaction waits nowhere, and no part is lent
use Rattle.std.specs.Prelude.{◌≡◌, ℕ, ◌<◌, ◌≤◌, List, [], ◌∷◌, ◌++◌, Some, None, IsSome, IsSomeAnd, Result, Ok, Err, length, slice_get, refl}
use Rattle.std.proofs.Common.{sym, ◌∙◌, ap, subst}
use Rattle.std.proofs.lemmas.Option.{slice_get_within}
use Rattle.std.specs.FinMap.{get}
use Rattle.model.specs.declared.item.Item.TheVariants.{BackTo, Touch}
use Rattle.model.specs.Rows.{Rows, Schema}
use Rattle.tokens.specs.Half.{Name}
use Rattle.world.specs.Steps.{Fault, Step, touches, tells_stop}
use Rattle.world.specs.World.{Opened, World}
use Rattle.world_parts.specs.ByTable.{changes_at}
use Rattle.world_parts.specs.MarkLemmas.{told_touch}
use Rattle.world_parts.specs.Parts.{wanted_by}
use Rattle.live_tables.specs.Answers.{after_touch}
use Rattle.engine.specs.declared.events.Event.TheVariants.{Done}
use Rattle.engine.specs.EventLemmas.{opened_more, opened_refused}
use Rattle.engine.specs.Events.{opened_by, touch_events}
use Rattle.table_parts.specs.Part.{Part, last_commit_end}
use Rattle.parted_store.specs.Back.{KeepsShares}
use Rattle.parted_store.specs.EachPart.{BelongEach}
use Rattle.parted_store.specs.KeepsSound.{KeepsSound}
use Rattle.parted_store.specs.Lent.{OpenTicket, HasTable, HasTicket, IsSamePart, Stands}
use Rattle.parted_store.specs.Shares.{Share, share_of}
use Rattle.table_locks.specs.Lending.{Guards, KeptEach, AreMet, StayEach, FitEach}
use Rattle.table_locks.specs.LendingLemmas.{found_there, some_there, holds_there, is_there, both_there}
use Rattle.table_locks.specs.StateLemmas.{witness, witness_ticket, witness_shared, stays_fit, fits_as}
use Rattle.table_locks.specs.TableStates.{TableState, IsKept, Fits, StaysFit}
use Rattle.table_locks.specs.TicketLemmas.{belongs_to, ticket_as, had_share, known_still, tied_in}
use Rattle.table_locks.specs.Tickets.{IsTied, WaitsSo, IsTicket, IsTicketOf, waits_after}
use Rattle.table_locks.specs.declared.ticket.Waits.{Waits}
use Rattle.table_locks.specs.declared.ticket.Waits.TheVariants.{Nowhere}

module _ (shares : ℕ → Name) (schema : Schema) (start : Rows) (waits : Waits) (t : OpenTicket) (is : IsTicket shares schema waits t) where
  pub somewhere : IsTicketOf shares schema t
  somewhere = record { tied = is.tied; known = is.known; waits_so = tt }

  pub belong_each : (parts : List Part) → KeptEach shares schema start parts → BelongEach parts t.shares
  belong_each parts kept i p at = belongs_to shares schema waits t is start p (kept i p at)

  module _ (p : Part) (kept : IsKept shares schema start p) where
    -- the world of the part and the ticket
    abbrev pub the_world : World
    the_world = witness p t.number (opened_by t.events)

    pub at_world : HasTicket the_world t
    at_world = witness_ticket shares schema start p kept t

    pub has_witness : IsSome (share_of t.shares p.number) → Stands p t.shares → HasTable the_world p
    has_witness came stands =
        let (share, at) = some_there (share_of t.shares p.number) came in
        witness_shared shares schema start p kept t (shares p.number) share (is.tied p.number share at) (stands share at)

  -- ---- a call that leads all worlds on that have a part

  module _ (parts new : List Part) (met : AreMet shares schema start t.shares parts)
      (after : World → World)
      (did : (i : ℕ) (p : Part) → slice_get parts i ≡ Some p
      → IsSomeAnd (slice_get new i) (λ q. (w : World) → HasTable w p → HasTicket w t → HasTable (after w) q))
      (same : (i : ℕ) (p : Part) → slice_get parts i ≡ Some p → IsSomeAnd (slice_get new i) (IsSamePart p)) where
    stay_one : (tables : Name) → ((w : World) → w.stopped ≡ None → HasTicket w t → Step schema w (after w)) → ((w : World) → (after w).line ≡ w.line)
        → ((i : ℕ) (p : Part) → slice_get parts i ≡ Some p → IsSomeAnd (slice_get new i) (λ q. last_commit_end q ≡ last_commit_end p))
        → (i : ℕ) (p : Part) → slice_get parts i ≡ Some p → IsSomeAnd (slice_get new i) (StaysFit shares tables schema start p)
    stay_one tables steps line ends i p at =
        let k = met.kept i p at in
        let w : World = the_world p k in
        let has : HasTable w p = has_witness p k (met.alone i p at) (met.stand i p at) in
        let its_ticket : HasTicket w t = at_world p k in
        both_there (slice_get new i) (λ q. (v : World) → HasTable v p → HasTicket v t → HasTable (after v) q)
        (λ q. IsSamePart p q × (last_commit_end q ≡ last_commit_end p)) (StaysFit shares tables schema start p) (did i p at)
        (both_there (slice_get new i) (IsSamePart p) (λ q. last_commit_end q ≡ last_commit_end p)
        (λ q. IsSamePart p q × (last_commit_end q ≡ last_commit_end p)) (same i p at) (ends i p at) (λ q same_part end. (same_part, end)))
        (λ q its same_part.
        stays_fit shares tables schema start p k q same_part.0 w (after w) has (steps w refl its_ticket) (its w has its_ticket) (line w) same_part.1)

    -- each part may lie where it lay
    pub stay_each : (tables : Name) → ((w : World) → w.stopped ≡ None → HasTicket w t → Step schema w (after w)) → ((w : World) → (after w).line ≡ w.line)
        → ((i : ℕ) (p : Part) → slice_get parts i ≡ Some p → IsSomeAnd (slice_get new i) (λ q. last_commit_end q ≡ last_commit_end p))
        → ((i : ℕ) (p : Part) → slice_get parts i ≡ Some p → IsSomeAnd (slice_get new i) (KeepsSound p)) → length new ≡ length parts
        → StayEach shares tables schema start parts new
    stay_each tables steps line ends sound long = record { stay = stay_one tables steps line ends; sound = sound; long = long }

    -- each share tells what its transaction did
    module _ (u : OpenTicket) (number : u.number ≡ t.number) (keeps : KeepsShares t.shares u.shares)
        (stands : (i : ℕ) (p : Part) → slice_get parts i ≡ Some p → Stands p t.shares → IsSomeAnd (slice_get new i) (λ q. Stands q u.shares))
        (ticket : (w : World) → HasTicket w t → HasTicket (after w) u) where
      tied_each : (table : ℕ) (share : Share) → share_of u.shares table ≡ Some share → IsTied (shares table) u.number (opened_by u.events) table share
      tied_each table share at =
          let had = had_share (share_of t.shares table) (share_of u.shares table) (keeps table) share at in
          let (i, p, there, of_table) = met.covers table had.0 had.1 in
          let k = met.kept i p there in
          let w : World = the_world p k in
          let found =
          holds_there (slice_get new i) (λ q. HasTable (after w) q × (q.number ≡ p.number) × Stands q u.shares)
          (both_there (slice_get new i) (IsSamePart p) (λ q. HasTable (after w) q × Stands q u.shares)
          (λ q. HasTable (after w) q × (q.number ≡ p.number) × Stands q u.shares) (same i p there)
          (both_there (slice_get new i) (λ q. (v : World) → HasTable v p → HasTicket v t → HasTable (after v) q) (λ q. Stands q u.shares)
          (λ q. HasTable (after w) q × Stands q u.shares) (did i p there) (stands i p there (met.stand i p there))
          (λ q its stood. (its w (has_witness p k (met.alone i p there) (met.stand i p there)) (at_world p k), stood)))
          (λ q same_part both. (both.0, same_part.number, both.1))) in
          tied_in shares schema waits t u is number keeps table share at found.0 (found.2.1 ∙ of_table) found.2.2 (after w) found.2.0 (ticket w (at_world p k))

      pub ticket_behind : (now : Waits) → WaitsSo now (opened_by u.events).wants → IsTicket shares schema now u
      ticket_behind now so = record { tied = tied_each; known = known_still shares schema waits t u is number keeps; waits_so = so }

-- ---- put back

module _ (shares : ℕ → Name) (tables : Name) (schema : Schema) (start : Rows) where
  pub fits_still : (s : TableState) (p q : Part) → Fits shares tables schema start s p → StaysFit shares tables schema start p q → KeepsSound p q
      → Fits shares tables schema start s q
  fits_still s p q fits stays sound = fits_as shares tables schema start s p fits q stays s.stopped (sound s.stopped)

  pub fit_again : (guards : Guards) (parts new : List Part) → FitEach shares tables schema start guards parts
      → StayEach shares tables schema start parts new → FitEach shares tables schema start guards new
  fit_again guards parts new fit still = record {
    each = λ i q at.
        let (p, there) = found_there parts i (subst (λ n. i < n) still.long (slice_get_within new i q at)) in
        let (s, place, fits) = fit.each i p there in (
          s,
          place,
          fits_still s p q fits (is_there (slice_get new i) (StaysFit shares tables schema start p) (still.stay i p there) q at)
              (is_there (slice_get new i) (KeepsSound p) (still.sound i p there) q at),
        );
    room = subst (λ n. n ≤ length guards) (sym still.long) fit.room;
  }

-- ---- an item that changes no row, and a rollback

pub touch_steps : (schema : Schema) (w : World) (xid : ℕ) (o : Opened) (sub : ℕ) (answer : Result (Unit {0}) Fault) → get w.opened xid ≡ Some o → w.stopped ≡ None
    → Step schema w (after_touch w xid o sub answer)
touch_steps schema w xid o sub (Ok done) at runs = touches xid o sub (Ok done) (after_touch w xid o sub (Ok done)) at (runs, refl)
touch_steps schema w xid o sub (Err fault) at runs = tells_stop w.stopped refl

pub touch_line : (w : World) (xid : ℕ) (o : Opened) (sub : ℕ) (answer : Result (Unit {0}) Fault) → (after_touch w xid o sub answer).line ≡ w.line
touch_line w xid o sub (Ok done) = refl
touch_line w xid o sub (Err fault) = refl

pub wants_back : (t u : OpenTicket) (sub : ℕ) → u.events ≡ t.events ++ Done (BackTo sub) ∷ [] → WaitsSo Nowhere (opened_by u.events).wants
wants_back t u sub events = ap (λ es. (opened_by es).wants) events ∙ ap (λ (o : Opened). o.wants) (opened_more t.events (Done (BackTo sub)))

pub waits_touched : (waits : Waits) (t u : OpenTicket) → WaitsSo waits (opened_by t.events).wants → (sub : ℕ) (answer : Result (Unit {0}) Fault)
    → u.events ≡ t.events ++ touch_events sub answer → WaitsSo (waits_after waits answer) (opened_by u.events).wants
waits_touched waits t u so sub (Ok done) events =
    ap (λ es. (opened_by es).wants) events ∙ ap (λ (o : Opened). o.wants) (opened_more t.events (Done (Touch sub)))
waits_touched waits t u so sub (Err fault) events =
    subst (λ (o : Opened). WaitsSo waits o.wants) (sym (ap opened_by events ∙ opened_refused t.events fault)) so

-- where it waits nowhere, and no part is lent
module _ (shares : ℕ → Name) (schema : Schema) (t u : OpenTicket) (is : IsTicket shares schema Nowhere t) (number : u.number ≡ t.number) (sub : ℕ)
    (left : (table : ℕ) → share_of u.shares table ≡ share_of t.shares table) where
  tied_touched : (table : ℕ) (share : Share) → IsTied (shares table) t.number (opened_by t.events) table share
      → IsTied (shares table) t.number (record { items = (opened_by t.events).items ++ Touch sub ∷ []; wants = None }) table share
  tied_touched table share tied = record {
    name_is = tied.name_is;
    number = tied.number;
    told = told_touch table t.number sub (opened_by t.events).items (opened_by share.list).items tied.told;
    wants = tied.wants ∙ ap (λ wants. changes_at table (wanted_by wants)) is.waits_so;
  }

  pub ticket_touched : (answer : Result (Unit {0}) Fault) → u.events ≡ t.events ++ touch_events sub answer → IsTicket shares schema Nowhere u
  ticket_touched (Ok done) events =
      let now = ap opened_by events ∙ opened_more t.events (Done (Touch sub)) in
      record {
        tied = λ table share at.
            subst (λ (n : ℕ). IsTied (shares table) n (opened_by u.events) table share) (sym number)
            (subst (λ (o : Opened). IsTied (shares table) t.number o table share) (sym now)
            (tied_touched table share (is.tied table share (sym (left table) ∙ at))));
        known = λ table share at. is.known table share (sym (left table) ∙ at);
        waits_so = ap (λ (o : Opened). o.wants) now;
      }
  ticket_touched (Err fault) events = ticket_as shares schema Nowhere t is u number (ap opened_by events ∙ opened_refused t.events fault) left
