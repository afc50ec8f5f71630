-- An open transaction comes to a table.
--     came_fits      the part fits as before: nothing is new in a world that has it
--     came_again, came_first      its ticket, where it was there, or the table refuses it; and where it is new there
--     came_is      so behind the call, whatever that answers
use Rattle.std.specs.Prelude.{◌≡◌, ◌≢◌, ℕ, ◌<◌, length, Option, Some, None, IsSome, Result, Ok, Err, OnOk, OnErr, refl}
use Rattle.std.proofs.Common.{sym, ◌∙◌, ap, subst}
use Rattle.std.specs.FinMap.{get}
use mathlib.Core.Logic.{dite}
use native.Mathlib.Decide.{ℕ_discrete}
use Rattle.model.specs.Rows.{Rows, Schema}
use Rattle.tokens.specs.Half.{Name}
use Rattle.world.specs.Steps.{tells_stop}
use Rattle.world.specs.World.{World}
use Rattle.live_tables.specs.declared.answers.EngineFault.{EngineFault}
use Rattle.engine.specs.Events.{opened_by}
use Rattle.table_parts.specs.Part.{Part, last_commit_end}
use Rattle.parted_store.specs.Lent.{OpenTicket, HasTable, HasShares, IsShare, IsSamePart, Belongs, Stands}
use Rattle.parted_store.specs.Shares.{Share, share_of}
use Rattle.table_locks.specs.StateLemmas.{own_table, witness, witness_new, witness_ticket, stays_fit, tied_by}
use Rattle.table_locks.specs.TableStates.{IsKept, StaysFit}
use Rattle.table_locks.specs.TicketLemmas.{ticket_as}
use Rattle.table_locks.specs.Tickets.{IsTied, WaitsSo, IsTicket}
use Rattle.table_locks.specs.declared.ticket.Waits.{Waits}

module _ (shares : ℕ → Name) (tables : Name) (schema : Schema) (start : Rows) (p : Part) (kept : IsKept shares schema start p)
    (q : Part) (same : IsSamePart p q) (part : (w : World) → HasTable w p → HasTable w q) where
  pub came_fits : last_commit_end q ≡ last_commit_end p → StaysFit shares tables schema start p q
  came_fits end =
      let own = own_table shares schema start p kept in
      stays_fit shares tables schema start p kept q same p.store.world p.store.world own (tells_stop p.store.world.stopped refl)
      (part p.store.world own) refl end

  module _ (waits : Waits) (t : OpenTicket) (is : IsTicket shares schema waits t) (u : OpenTicket) (number : u.number ≡ t.number)
      (events : u.events ≡ t.events) (others : (other : ℕ) → other ≢ p.number → share_of u.shares other ≡ share_of t.shares other) where
    pub came_again : share_of u.shares p.number ≡ share_of t.shares p.number → IsTicket shares schema waits u
    came_again again =
        ticket_as shares schema waits t is u number (ap opened_by events) (λ table. dite (ℕ_discrete table p.number)
        (λ here. ap (share_of u.shares) here ∙ again ∙ sym (ap (share_of t.shares) here)) (others table))

    module _ (known : p.number < length schema) (had : HasShares t) (none : share_of t.shares p.number ≡ None) (first : get p.store.world.opened t.number ≡ None)
        (has : HasShares u) (belongs : Belongs q u.shares) (stands : Stands q u.shares) where
      abbrev w : World
      w = witness p t.number (opened_by t.events)

      has_part : HasTable w p
      has_part =
          witness_new shares schema start p kept t
          (subst (λ (o : Option Share). IsShare t.number (opened_by t.events) p.number o) none (had p.number)) first

      new_share : (share : Share) → share_of u.shares q.number ≡ Some share → IsTied (shares q.number) t.number (opened_by t.events) q.number share
      new_share share at =
          tied_by (shares q.number) t.number (opened_by t.events) q w (part w has_part) (witness_ticket shares schema start p kept t) share
          (belongs share at ∙ same.store.tickets ∙ kept.tickets ∙ ap shares (sym same.number))
          (subst (λ (o : Option Share). IsShare u.number (opened_by u.events) q.number o) at (has q.number) ∙ number) (stands share at)

      tied : (table : ℕ) (share : Share) → share_of u.shares table ≡ Some share → IsTied (shares table) u.number (opened_by u.events) table share
      tied table share at =
          subst (λ (n : ℕ). IsTied (shares table) n (opened_by u.events) table share) (sym number)
          (subst (λ es. IsTied (shares table) t.number (opened_by es) table share) (sym events) (dite (ℕ_discrete table p.number)
          (λ here.
          let it = here ∙ sym same.number in
          subst (λ (n : ℕ). IsTied (shares n) t.number (opened_by t.events) n share) (sym it)
          (new_share share (ap (share_of u.shares) (sym it) ∙ at)))
          (λ apart. is.tied table share (sym (others table apart) ∙ at))))

      known_now : (table : ℕ) (share : Share) → share_of u.shares table ≡ Some share → table < length schema
      known_now table share at = dite (ℕ_discrete table p.number)
          (λ here. subst (λ (n : ℕ). n < length schema) (sym here) known)
          (λ apart. is.known table share (sym (others table apart) ∙ at))

      pub came_first : IsTicket shares schema waits u
      came_first = record {
        tied = tied;
        known = known_now;
        waits_so = subst (λ es. WaitsSo waits (opened_by es).wants) (sym events) is.waits_so;
      }

    pub came_is : (result : Result (Unit {0}) EngineFault) → p.number < length schema → HasShares t → HasShares u → Belongs q u.shares
        → OnErr result ((other : ℕ) → share_of u.shares other ≡ share_of t.shares other)
        → OnOk result (share_of t.shares p.number ≡ None → get p.store.world.opened t.number ≡ None)
        → OnOk result (IsSome (share_of t.shares p.number) → (q ≡ p) × (share_of u.shares p.number ≡ share_of t.shares p.number))
        → OnOk result (Stands q u.shares) → IsTicket shares schema waits u
    came_is (Err fault) known had has belongs left first again stands = came_again (left p.number)
    came_is (Ok unit) known had has belongs left first again stands = by_share (share_of t.shares p.number) refl
      where
        by_share : (share : Option Share) → share_of t.shares p.number ≡ share → IsTicket shares schema waits u
        by_share None none = came_first known had none (first none) has belongs stands
        by_share (Some share) there = came_again (again (subst (λ (s : Option Share). IsSome s) (sym there) refl)).1
