-- A change that is tried in the part of its table, by a transaction that has a share there.
--     its_share      that share
--     w, has, at      a world that has the part and the ticket
--     clash_steps      that its change clashes is a step of that world
--     acted_fits      the part behind the call
--     acted_is      the ticket behind it
--     was_clash      a clash there, as it is told
use Rattle.std.specs.Prelude.{◌≡◌, ◌≢◌, ◌⊎◌, ℕ, [], ◌++◌, Some, IsSome, Result, Ok, Err, refl}
use Rattle.std.proofs.Common.{sym, ◌∙◌, ap, subst, inl, inr}
use Rattle.std.specs.FinMap.{get}
use Rattle.model.specs.declared.change.Change as change_type
use Rattle.model.specs.Rows.{Rows, Schema}
use Rattle.tokens.specs.Half.{Name}
use Rattle.change.specs.declared.outcome.Clash.{Clash}
use Rattle.world.specs.Steps.{Fault, Acted, Clashed, Step, acts, tells_stop}
use Rattle.world.specs.World.{Opened, World}
use Rattle.world_parts.specs.ByTable.{IsIn, changes_at}
use Rattle.world_parts.specs.PartLemmas.{clashing_lifts}
use Rattle.world_parts.specs.Parts.{wanted_by}
use Rattle.live_tables.specs.declared.answers.EngineFault.{EngineFault}
use Rattle.live_tables.specs.declared.answers.EngineFault.TheVariants.{Clash as ClashFault, OutOfMemory as NoMemory}
use Rattle.live_tables.specs.declared.answers.Verdict.{Verdict}
use Rattle.live_tables.specs.Answers.{cause_of, told, told_clash, after_act}
use Rattle.live_tables.specs.Tried.{Tries, after_try, HasClash}
use Rattle.engine.specs.Events.{opened_by, events_of}
use Rattle.table_parts.specs.Part.{Part, last_commit_end}
use Rattle.parted_store.specs.Acting.{running, as_told}
use Rattle.parted_store.specs.ActLemmas.{act_line}
use Rattle.parted_store.specs.Back.{KeepsShares}
use Rattle.parted_store.specs.KeepsSound.{ClashesHere}
use Rattle.parted_store.specs.Lent.{OpenTicket, HasTable, HasTicket, IsSamePart, Stands}
use Rattle.parted_store.specs.Shares.{Share, share_of}
use Rattle.table_locks.specs.Clashing.{WasClash}
use Rattle.table_locks.specs.CallLemmas.{the_world, has_witness, at_world}
use Rattle.table_locks.specs.LendingLemmas.{some_there}
use Rattle.table_locks.specs.StateLemmas.{tries_steps, stays_fit}
use Rattle.table_locks.specs.TableStates.{IsKept, StaysFit}
use Rattle.table_locks.specs.TicketLemmas.{acted_ticket}
use Rattle.table_locks.specs.Tickets.{WaitsSo, IsTicket, IsTicketOf}
use Rattle.table_locks.specs.declared.ticket.Waits.{Waits}

module _ (shares : ℕ → Name) (tables : Name) (schema : Schema) (start : Rows) (p : Part) (kept : IsKept shares schema start p)
    (t : OpenTicket) (waits : Waits) (is : IsTicket shares schema waits t) (came : IsSome (share_of t.shares p.number)) (stands : Stands p t.shares) where
  its_share : (share : Share) × (share_of t.shares p.number ≡ Some share)
  its_share = some_there (share_of t.shares p.number) came

  abbrev o : Opened
  o = opened_by t.events

  abbrev pub w : World
  w = the_world shares schema start waits t is p kept

  pub has : HasTable w p
  has = has_witness shares schema start waits t is p kept came stands

  pub at : HasTicket w t
  at = at_world shares schema start waits t is p kept

  -- the transaction is open in the part as its share tells
  here : get p.store.world.opened t.number ≡ Some (opened_by its_share.0.list)
  here =
      subst (λ (n : ℕ). get p.store.world.opened n ≡ Some (opened_by its_share.0.list)) (is.tied p.number its_share.0 its_share.1).number
      (stands its_share.0 its_share.1)

  module _ (sub : ℕ) (c : change_type.Change) (its : IsIn p.number c) where
    clash_is : (clash : Clash) → ClashesHere p t.shares c clash → Step schema w (after_act w t.number o sub c (told_clash (cause_of clash)))
    clash_is clash clashes =
        let clash_here : HasClash p.store.schema p.store.world t.number (opened_by its_share.0.list) c clash =
        subst (λ (n : ℕ). HasClash p.store.schema p.store.world n (opened_by its_share.0.list) c clash)
        (is.tied p.number its_share.0 its_share.1).number (clashes its_share.0 its_share.1) in
        let lifted =
        clashing_lifts p.store.schema p.number w p.store.world has.is.0 t.number o (opened_by its_share.0.list) at here c its clash_here.0 clash_here.2 in
        subst (λ (a : Result Acted Fault). Step schema w (after_act w t.number o sub c a)) (ap told_clash (sym clash_here.1))
        (subst (λ (s : Schema). Step s w (after_act w t.number o sub c (Ok (Clashed clash_here.0)))) kept.schema_is
        (acts t.number o sub c (Ok (Clashed clash_here.0)) (after_act w t.number o sub c (Ok (Clashed clash_here.0))) at
        (refl, lifted.0, lifted.1, refl)))

    pub clash_steps : (clash : Clash) → ClashesHere p t.shares c clash → (fault : EngineFault) → (fault ≡ ClashFault clash) ⊎ (fault ≡ NoMemory)
        → Step schema w (after_act w t.number o sub c (told (Err fault)))
    clash_steps clash clashes fault (inl it) =
        subst (λ (f : EngineFault). Step schema w (after_act w t.number o sub c (told (Err f)))) (sym it) (clash_is clash clashes)
    clash_steps clash clashes fault (inr it) =
        subst (λ (f : EngineFault). Step schema w (after_act w t.number o sub c (told (Err f)))) (sym it) (tells_stop w.stopped refl)

    -- a change that was tried there is a step of that world
    pub try_steps : (answer : Result Verdict EngineFault)
        → Tries p.store.schema (running w) t.number o sub c answer (after_try (running w) t.number o sub c answer)
        → Step schema w (after_act w t.number o sub c (as_told answer))
    try_steps answer tries =
        subst (λ (s : Schema). Step s w (after_act w t.number o sub c (as_told answer))) kept.schema_is
        (tries_steps p.store.schema w t.number o sub c answer at tries)

    module _ (q : Part) (same : IsSamePart p q) (answer : Result Acted Fault) (step : Step schema w (after_act w t.number o sub c answer))
        (then : HasTable (after_act w t.number o sub c answer) q) where
      pub acted_fits : last_commit_end q ≡ last_commit_end p → StaysFit shares tables schema start p q
      acted_fits end =
          stays_fit shares tables schema start p kept q same w (after_act w t.number o sub c answer) has step then (act_line w t.number o sub c answer).line end

      pub acted_is : (u : OpenTicket) → HasTicket (after_act w t.number o sub c answer) u → u.number ≡ t.number → KeepsShares t.shares u.shares
          → u.events ≡ t.events ++ events_of sub c answer → ((other : ℕ) → other ≢ p.number → share_of u.shares other ≡ share_of t.shares other)
          → ((other : ℕ) → other ≢ p.number → changes_at other (wanted_by (opened_by t.events).wants) ≡ []) → Stands q u.shares
          → (now : Waits) → WaitsSo now (opened_by u.events).wants → IsTicket shares schema now u
      acted_is u then_at number keeps events left elsewhere stood now so =
          acted_ticket shares schema waits t u is number keeps p.number sub c answer its events left elsewhere q same.number stood
          (after_act w t.number o sub c answer) then then_at now so

-- a clash there, as it is told
pub was_clash : (shares : ℕ → Name) (schema : Schema) (start : Rows) (p : Part) → IsKept shares schema start p → (t : OpenTicket) → IsTicketOf shares schema t
    → IsSome (share_of t.shares p.number) → Stands p t.shares → (c : change_type.Change) (clash : Clash) → IsIn p.number c → ClashesHere p t.shares c clash
    → WasClash schema start t.number c clash
was_clash shares schema start p kept t is came stands c clash its clashes =
    let (share, found) = some_there (share_of t.shares p.number) came in
    let number = (is.tied p.number share found).number in
    record {
      table = p.number;
      inside = its;
      part = p.store.world;
      reached = kept.reached;
      its = opened_by share.list;
      open_one = ap (get p.store.world.opened) (sym number) ∙ stands share found;
      clashes =
          subst (λ (s : Schema). HasClash s p.store.world t.number (opened_by share.list) c clash) kept.schema_is
          (subst (λ n. HasClash p.store.schema p.store.world n (opened_by share.list) c clash) number (clashes share found));
    }
