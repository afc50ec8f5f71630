-- What is kept of a ticket, from one call to the next.
--     belongs_to      its share of a table is one of the table's part
--     ticket_as      what happened to it comes to the same
--     had_share, had_still      a share that it has it had, and the other way round
--     acted_tied, acted_known      its shares behind a change of one table
--     room_still      with room for the parts of its tables
--     waits_follow      where it waits behind that
--     counted_same, counted_more      how many items it has done, where no more have come, and where one has
--     counted_touched      behind an item that changes no row
use Rattle.std.specs.Prelude.{◌≡◌, ◌≢◌, ℕ, ◌<◌, ◌+◌, ◌-◌, ◌^◌, true, false, List, [], ◌∷◌, ◌++◌, min, Option, Some, None, IsSome, Result, Ok, Err, length, refl}
use Rattle.std.proofs.Common.{sym, ◌∙◌, ap, subst, arith, length-append}
use mathlib.Core.Logic.{dite}
use native.Mathlib.Decide.{ℕ_discrete}
use Rattle.model.specs.declared.change.Change as change_type
use Rattle.model.specs.declared.item.Item.{Item}
use Rattle.model.specs.declared.item.Item.TheVariants.{Touch}
use Rattle.model.specs.Rows.{Rows, Schema}
use Rattle.tokens.specs.Half.{Name}
use Rattle.world.specs.Steps.{Fault, Acted, IsDone, IsSkipped, Held, Clashed}
use Rattle.world.specs.World.{Opened, World}
use Rattle.world_parts.specs.ByTable.{IsIn, changes_at}
use Rattle.world_parts.specs.Parts.{wanted_by}
use Rattle.engine.specs.EventLemmas.{opened_more, opened_refused}
use Rattle.engine.specs.declared.events.Event.{Event}
use Rattle.engine.specs.declared.events.Event.TheVariants.{Done}
use Rattle.engine.specs.Events.{opened_by, events_of, touch_events}
use Rattle.table_parts.specs.Part.{Part}
use Rattle.parted_store.specs.ActLemmas.{in_no_other, opened_acted}
use Rattle.parted_store.specs.Back.{IsSameShare, KeepsShares}
use Rattle.parted_store.specs.Lent.{OpenTicket, HasTable, HasTicket, Belongs, Stands}
use Rattle.parted_store.specs.Shares.{Share, Shares, share_of}
use Rattle.table_locks.specs.StateLemmas.{tied_by, tied_beside}
use Rattle.table_locks.specs.TableStates.{IsKept}
use Rattle.table_locks.specs.Tickets.{IsTied, WaitsSo, waits_acted, counted, one_more, done_touched, IsTicket, HasRoom}
use Rattle.table_locks.specs.declared.ticket.Waits.{Waits}

module _ (shares : ℕ → Name) (schema : Schema) (waits : Waits) (t : OpenTicket) (is : IsTicket shares schema waits t) where
  pub belongs_to : (start : Rows) (p : Part) → IsKept shares schema start p → Belongs p t.shares
  belongs_to start p kept share at = (is.tied p.number share at).name_is ∙ sym kept.tickets

  -- what happened to it comes to the same, and it has the same shares
  pub ticket_as : (u : OpenTicket) → u.number ≡ t.number → opened_by u.events ≡ opened_by t.events
      → ((table : ℕ) → share_of u.shares table ≡ share_of t.shares table) → IsTicket shares schema waits u
  ticket_as u number events same = record {
    tied = λ table share at.
        subst (λ (n : ℕ). IsTied (shares table) n (opened_by u.events) table share) (sym number)
        (subst (λ o. IsTied (shares table) t.number o table share) (sym events) (is.tied table share (sym (same table) ∙ at)));
    known = λ table share at. is.known table share (sym (same table) ∙ at);
    waits_so = subst (λ o. WaitsSo waits o.wants) (sym events) is.waits_so;
  }

-- ---- behind a change of one table

-- a share that is there was there
pub had_share : (old new : Option Share) → IsSameShare old new → (share : Share) → new ≡ Some share
    → (before : Share) × (old ≡ Some before) × (share.name ≡ before.name) × (share.number ≡ before.number)
had_share None new keeps share at = let none : None ≡ Some share = sym keeps ∙ at in cc
had_share (Some before) None keeps share at = absurd keeps
had_share (Some before) (Some now) keeps share at =
    let same : now ≡ share = cc in
    (before, refl, ap (λ (s : Share). s.name) (sym same) ∙ keeps.0, ap (λ (s : Share). s.number) (sym same) ∙ keeps.1)

-- and one that was there is there
pub had_still : (old new : Shares) → KeepsShares old new → (table : ℕ) → IsSome (share_of old table) → IsSome (share_of new table)
had_still old new keeps table = by_share (share_of old table) (share_of new table) (keeps table)
  where
    by_share : (before now : Option Share) → IsSameShare before now → IsSome before → IsSome now
    by_share None now same some = let no : false ≡ true = some in cc
    by_share (Some share) None same some = absurd same
    by_share (Some share) (Some there) same some = refl

-- there is room for the parts of its tables still
pub room_still : (t u : OpenTicket) → KeepsShares t.shares u.shares → (tables room : ℕ) → HasRoom tables t room → HasRoom tables u room
room_still t u keeps tables room has table share at =
    let had = had_share (share_of t.shares table) (share_of u.shares table) (keeps table) share at in has table had.0 had.1

module _ (shares : ℕ → Name) (schema : Schema) (waits : Waits) (t u : OpenTicket) (is : IsTicket shares schema waits t)
    (number : u.number ≡ t.number) (keeps : KeepsShares t.shares u.shares) where
  pub known_still : (table : ℕ) (share : Share) → share_of u.shares table ≡ Some share → table < length schema
  known_still table share at =
      let had = had_share (share_of t.shares table) (share_of u.shares table) (keeps table) share at in is.known table had.0 had.1

  -- a share of a part that the world has behind the call
  pub tied_in : (table : ℕ) (share : Share) → share_of u.shares table ≡ Some share → (q : Part) → q.number ≡ table → Stands q u.shares
      → (next : World) → HasTable next q → HasTicket next u → IsTied (shares table) u.number (opened_by u.events) table share
  tied_in table share at q of_table stands next then then_at =
      let had = had_share (share_of t.shares table) (share_of u.shares table) (keeps table) share at in
      let tied = is.tied table had.0 had.1 in
      subst (λ (n : ℕ). IsTied (shares table) u.number (opened_by u.events) n share) of_table
      (tied_by (shares table) u.number (opened_by u.events) q next then then_at share (had.2 ∙ tied.name_is) (had.3 ∙ tied.number ∙ sym number)
      (stands share (ap (share_of u.shares) of_table ∙ at)))

  module _ (table : ℕ) (sub : ℕ) (c : change_type.Change) (answer : Result Acted Fault) (its : IsIn table c)
      (events : u.events ≡ t.events ++ events_of sub c answer)
      (left : (other : ℕ) → other ≢ table → share_of u.shares other ≡ share_of t.shares other)
      (elsewhere : (other : ℕ) → other ≢ table → changes_at other (wanted_by (opened_by t.events).wants) ≡ [])
      (q : Part) (of_table : q.number ≡ table) (stands : Stands q u.shares) (next : World) (then : HasTable next q) (then_at : HasTicket next u) where
    acted_tied : (other : ℕ) (share : Share) → share_of u.shares other ≡ Some share → IsTied (shares other) u.number (opened_by u.events) other share
    acted_tied other share at = dite (ℕ_discrete other table)
        (λ here. tied_in other share at q (of_table ∙ sym here) stands next then then_at)
        (λ apart.
        subst (λ (n : ℕ). IsTied (shares other) n (opened_by u.events) other share) (sym number)
        (subst (λ es. IsTied (shares other) t.number (opened_by es) other share) (sym events)
        (tied_beside (shares other) t.number t.events other share (is.tied other share (sym (left other apart) ∙ at)) (elsewhere other apart) sub c
        (in_no_other table other c its apart) answer)))

    -- with where it waits then
    pub acted_ticket : (now : Waits) → WaitsSo now (opened_by u.events).wants → IsTicket shares schema now u
    acted_ticket now so = record { tied = acted_tied; known = known_still; waits_so = so }

-- where a transaction waits behind a change
pub waits_follow : (t u : OpenTicket) (sub : ℕ) (c : change_type.Change) (waits : Waits) → WaitsSo waits (opened_by t.events).wants
    → (answer : Result Acted Fault) → u.events ≡ t.events ++ events_of sub c answer → WaitsSo (waits_acted waits answer) (opened_by u.events).wants
waits_follow t u sub c waits so (Ok IsDone) events = ap (λ es. (opened_by es).wants) events ∙ ap (λ o. o.wants) (opened_acted t.number sub t.events c (Ok IsDone))
waits_follow t u sub c waits so (Ok IsSkipped) events =
    ap (λ es. (opened_by es).wants) events ∙ ap (λ o. o.wants) (opened_acted t.number sub t.events c (Ok IsSkipped))
waits_follow t u sub c waits so (Ok (Held holder)) events = tt
waits_follow t u sub c waits so (Ok (Clashed cause)) events = tt
waits_follow t u sub c waits so (Err fault) events =
    subst (λ o. WaitsSo waits o.wants) (sym (ap opened_by events ∙ opened_refused t.events fault)) so

-- ---- how many items it has done

pub counted_same : (events new : List Event) → opened_by new ≡ opened_by events → counted new ≡ counted events
counted_same events new = ap (λ (o : Opened). min (length o.items) (2 ^ 64 - 1))

more_counted : (items more max done next : ℕ) → more ≡ items + 1 → done ≡ min items max → next ≡ min more max → next ≡ min (done + 1) max
more_counted items more max done next is was now = omega (arith, is, was, now)

pub counted_more : (events new : List Event) (item : Item) → new ≡ events ++ Done item ∷ [] → counted new ≡ one_more (counted events)
counted_more events new item is =
    more_counted (length (opened_by events).items) (length (opened_by new).items) (2 ^ 64 - 1) (counted events) (counted new)
    (ap (λ es. length (opened_by es).items) is ∙ ap (λ (o : Opened). length o.items) (opened_more events (Done item))
    ∙ length-append (opened_by events).items (item ∷ [])) refl refl

pub counted_touched : (events new : List Event) (sub : ℕ) (answer : Result (Unit {0}) Fault) → new ≡ events ++ touch_events sub answer
    → counted new ≡ done_touched (counted events) answer
counted_touched events new sub (Ok touched) is = counted_more events new (Touch sub) is
counted_touched events new sub (Err fault) is = counted_same events new (ap opened_by is ∙ opened_refused events fault)
