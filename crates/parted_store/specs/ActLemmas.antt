-- What a change that is tried in the part of its table comes to in a world that has the part.
--     part_stopped, table_running      a part is one whatever stopped its world
--     try_step, try_part      it is the step; the world behind it has the new part
--     clash_part      it clashes, and stops the world
--     act_line      it leaves start and commits
--     in_no_other      it is nothing in other tables
--     opened_acted, ticket_acted, items_acted      its ticket, and the items that it has done
--     none_acted, shares_acted      the ticket's shares
--     tried_there, wants_there      its share of the part
use Rattle.std.specs.Prelude.{◌≡◌, ◌≢◌, ℕ, ◌==◌, Bool, false, ◌||◌, List, [], ◌∷◌, ◌++◌, fold, Option, Some, None, IfErr, Result, Ok, Err, refl}
use Rattle.std.proofs.Common.{sym, ◌∙◌, ap, subst, inl, inr, ne_eqb, append-nil}
use Rattle.std.proofs.lemmas.Grind.{fold-append}
use Rattle.std.specs.FinMap.{get}
use Rattle.model.specs.declared.change.Change as change_type
use Rattle.model.specs.declared.change.Change.TheVariants.{Put, Set, Remove, Wipe}
use Rattle.model.specs.declared.item.Item.TheVariants.{Change}
use Rattle.model.specs.Effect.{ClashCause}
use Rattle.model.specs.Rows.{Schema}
use Rattle.model.specs.Survivors.{survivors}
use Rattle.model.specs.SurvivorLemmas.{survivors_with, work_with_change}
use Rattle.world.specs.World.{Opened, Stop, ByClash, World, work}
use Rattle.world.specs.Steps.{Fault, Acted, IsDone, IsSkipped, Held, Clashed, Acts, wanting}
use Rattle.world.specs.FineLemmas.{refused_stays}
use Rattle.world.specs.ListingLemmas.{xid_cases, got_same}
use Rattle.live_tables.specs.declared.answers.Acted.{Acted as AnyActed}
use Rattle.live_tables.specs.declared.answers.Acted.TheVariants.{Done, Skipped, Held as HeldBy}
use Rattle.live_tables.specs.declared.answers.EngineFault.{EngineFault}
use Rattle.live_tables.specs.declared.answers.EngineFault.TheVariants.{OutOfMemory as NoMemory}
use Rattle.live_tables.specs.declared.answers.Verdict.{Verdict}
use Rattle.live_tables.specs.declared.answers.Verdict.TheVariants.{Acted as ActedVerdict, Clashes}
use Rattle.live_tables.specs.Answers.{told, told_fault, after_act}
use Rattle.live_tables.specs.Tried.{Tries, after_try}
use Rattle.engine.specs.declared.events.Event.{Event}
use Rattle.engine.specs.declared.events.Event.TheVariants.{Wants}
use Rattle.engine.specs.Events.{after_event, opened_by, events_of, tried_events}
use Rattle.engine.specs.EventLemmas.{opened_refused}
use Rattle.world_parts.specs.ByTable.{only_if, change_at, changes_at, IsIn, names_table}
use Rattle.world_parts.specs.ByTableLemmas.{InTable, puts, sets, removes, wipes, in_view, turned, changes_with}
use Rattle.world_parts.specs.Lines.{KeepsLine}
use Rattle.world_parts.specs.Marks.{mark_for, items_at, survivors_if, HasPart}
use Rattle.world_parts.specs.Parts.{after_tried}
use Rattle.world_parts.specs.PartLemmas.{acts_lifts}
use Rattle.world_parts.specs.ToldLemmas.{tried_here, moved_here}
use Rattle.parted_store.specs.Acting.{running, as_told, items_of}
use Rattle.parted_store.specs.Lent.{HasTable, IsShare}
use Rattle.table_parts.specs.Part.{Part}
use Rattle.parted_store.specs.Shares.{Share, Shares, share_of}

-- a change of one table is nothing in another
nothing_if : (b : Bool) (c : change_type.Change) → b ≡ false → only_if b c ≡ []
nothing_if b c not = ap (λ x. only_if x c) not

nothing_in : (table other : ℕ) (c : change_type.Change) → InTable table c → (table == other) ≡ false → change_at other c ≡ []
nothing_in table other _ (puts row) not = nothing_if (table == other) (Put table row) not
nothing_in table other _ (sets key patch) not = nothing_if (table == other) (Set table key patch) not
nothing_in table other _ (removes key) not = nothing_if (table == other) (Remove table key) not
nothing_in table other _ wipes not =
    nothing_if (names_table (table ∷ []) other) (Wipe (other ∷ []))
    (ap (λ b. b || false) (turned other table ∙ not))

pub in_no_other : (table other : ℕ) (c : change_type.Change) → IsIn table c → other ≢ table → change_at other c ≡ []
in_no_other table other c inside apart = nothing_in table other c (in_view table c inside) (turned table other ∙ ne_eqb other table apart)

-- a part is one whatever stopped its world
pub part_stopped : (table : ℕ) (w part : World) (stopped : Option Stop) → HasPart table w part → HasPart table (record w { stopped = stopped }) part
part_stopped table w part stopped has = (record { committed = has.0.committed; work = has.0.work; wanted = has.0.wanted }, has.1)

part_running : (table : ℕ) (w part : World) → HasPart table w part → HasPart table (running w) part
part_running table w part has = part_stopped table w part None has

pub table_running : (w : World) (p : Part) → HasTable w p → HasTable (running w) p
table_running w p has = record { is = part_running p.number w p.store.world has.is; line = record { start = has.line.start; line = has.line.line } }

module _ (schema : Schema) (table : ℕ) (w part : World) (has : HasPart table w part) (xid : ℕ) (o p : Opened)
    (at : get w.opened xid ≡ Some o) (here : get part.opened xid ≡ Some p) (c : change_type.Change) (inside : IsIn table c) where
  -- what it comes to in the part it comes to in the world, as though nothing had stopped that
  acted_step : (sub mark : ℕ) (acted : AnyActed) (new : World) → Acts schema part xid p mark c (told (Ok acted)) new
      → Acts schema (running w) xid o sub c (told (Ok acted)) (after_act (running w) xid o sub c (told (Ok acted)))
  acted_step sub mark Done new acts = acts_lifts schema table (running w) part (part_running table w part has).0 xid o p at here c inside refl sub mark IsDone new acts
  acted_step sub mark Skipped new acts = acts_lifts schema table (running w) part (part_running table w part has).0 xid o p at here c inside refl sub mark IsSkipped new acts
  acted_step sub mark (HeldBy holder) new acts =
      acts_lifts schema table (running w) part (part_running table w part has).0 xid o p at here c inside refl sub mark (Held holder) new acts

  pub try_step : (sub mark : ℕ) (answer : Result Verdict EngineFault) (new : World) → IfErr answer (λ (fault : EngineFault). fault ≡ NoMemory)
      → Tries schema part xid p mark c answer new → Tries schema (running w) xid o sub c answer (after_try (running w) xid o sub c answer)
  try_step sub mark (Ok (ActedVerdict acted)) new fault tries = acted_step sub mark acted new tries
  try_step sub mark (Ok (Clashes clash)) new fault tries =
      let found = tries.1 in
      let acts =
      acts_lifts schema table (running w) part (part_running table w part has).0 xid o p at here c inside refl sub mark (Clashed found.0)
      (record (wanting part xid p mark c) { stopped = Some (ByClash xid c found.0) }) (tries.0, found.2.0, found.2.1, refl) in
      (refl, (found.0, found.1, (acts.1, acts.2)), refl)
  try_step sub mark (Err fault) new is tries =
      subst (λ (f : EngineFault). Tries schema (running w) xid o sub c (Err f) (running w)) (sym is) (refl, refl)

  -- the world behind it has the new part
  new_part : (sub mark : ℕ) → mark ≡ mark_for xid sub (survivors xid o.items) → (answer : Acted) (new : World)
      → new ≡ after_tried part xid p mark c answer → HasPart table (after_tried w xid o sub c answer) new
  new_part sub mark is answer new left =
      subst (HasPart table (after_tried w xid o sub c answer)) (sym (left ∙ ap (λ (m : ℕ). after_tried part xid p m c answer) is))
      (tried_here table w part has xid o p at here sub c c answer inside)

  acted_part : (sub mark : ℕ) → mark ≡ mark_for xid sub (survivors xid o.items) → (acted : AnyActed) (new : World)
      → Acts schema part xid p mark c (told (Ok acted)) new → HasPart table (after_act w xid o sub c (told (Ok acted))) new
  acted_part sub mark is Done new acts = new_part sub mark is IsDone new acts.3
  acted_part sub mark is Skipped new acts = new_part sub mark is IsSkipped new acts.3
  acted_part sub mark is (HeldBy holder) new acts = new_part sub mark is (Held holder) new acts.2

  pub try_part : (sub mark : ℕ) → mark ≡ mark_for xid sub (survivors xid o.items) → (answer : Result Verdict EngineFault) (new : World)
      → Tries schema part xid p mark c answer new → HasPart table (after_act w xid o sub c (as_told answer)) new
  try_part sub mark is (Ok (ActedVerdict acted)) new tries = acted_part sub mark is acted new tries
  try_part sub mark is (Ok (Clashes clash)) new tries = subst (HasPart table w) (sym tries.2) has
  try_part sub mark is (Err fault) new tries = subst (HasPart table w) (sym (refused_stays part new (told_fault fault) tries)) has

  -- it clashes, and stops the world: the part is told that its transaction wants it
  pub clash_part : (sub mark : ℕ) (cause : ClashCause) (new : World) → new ≡ wanting part xid p mark c
      → HasPart table (after_act w xid o sub c (Ok (Clashed cause))) new
  clash_part sub mark cause new is =
      part_stopped table (wanting w xid o sub c) new (Some (ByClash xid c cause))
      (subst (HasPart table (wanting w xid o sub c)) (sym is)
      (moved_here table w part has xid (record o { wants = Some (sub, c) }) (record p { wants = Some (mark, c) })
      (sym (ap (survivors_if xid) here) ∙ has.1 xid ∙ ap (λ open_one. items_at table xid (survivors_if xid open_one)) at)
      (sym (append-nil (change_at table c) ∙ inside))))

-- it leaves start and commits
pub act_line : (w : World) (xid : ℕ) (o : Opened) (sub : ℕ) (c : change_type.Change) (answer : Result Acted Fault)
    → KeepsLine w (after_act w xid o sub c answer)
act_line w xid o sub c (Ok IsDone) = record { start = refl; line = refl }
act_line w xid o sub c (Ok IsSkipped) = record { start = refl; line = refl }
act_line w xid o sub c (Ok (Held holder)) = record { start = refl; line = refl }
act_line w xid o sub c (Ok (Clashed cause)) = record { start = refl; line = refl }
act_line w xid o sub c (Err fault) = record { start = refl; line = refl }

-- ---- its ticket

module _ (xid sub : ℕ) (events : List Event) (c : change_type.Change) where
  -- what the transaction is once what came of the change is listed
  pub opened_acted : (answer : Result Acted Fault) → opened_by (events ++ events_of sub c answer) ≡ fold after_event (opened_by events) (events_of sub c answer)
  opened_acted answer = fold-append after_event (record { items = []; wants = None }) events (events_of sub c answer)

  abbrev later : Result Acted Fault → Opened
  later answer = opened_by (events ++ events_of sub c answer)

  -- the world behind the call has the ticket
  pub ticket_acted : (w : World) → get w.opened xid ≡ Some (opened_by events) → (answer : Result Acted Fault)
      → get (after_act w xid (opened_by events) sub c answer).opened xid ≡ Some (opened_by (events ++ events_of sub c answer))
  ticket_acted w at (Ok IsDone) = got_same w.opened xid _ ∙ ap Some (sym (opened_acted (Ok IsDone)))
  ticket_acted w at (Ok IsSkipped) = got_same w.opened xid _ ∙ ap Some (sym (opened_acted (Ok IsSkipped)))
  ticket_acted w at (Ok (Held holder)) = got_same w.opened xid _ ∙ ap Some (sym (opened_acted (Ok (Held holder))))
  ticket_acted w at (Ok (Clashed cause)) = got_same w.opened xid _ ∙ ap Some (sym (opened_acted (Ok (Clashed cause))))
  ticket_acted w at (Err fault) = at ∙ ap Some (sym (opened_refused events fault))

  -- the items that it has done
  pub items_acted : (answer : Result Acted Fault)
      → survivors xid (opened_by events).items ++ items_of sub c answer ≡ survivors xid (opened_by (events ++ events_of sub c answer)).items
  items_acted (Ok IsDone) =
      sym (survivors_with xid (opened_by events).items (Change sub c)) ∙ ap (λ (o : Opened). survivors xid o.items) (sym (opened_acted (Ok IsDone)))
  items_acted (Ok IsSkipped) =
      sym (survivors_with xid (opened_by events).items (Change sub c)) ∙ ap (λ (o : Opened). survivors xid o.items) (sym (opened_acted (Ok IsSkipped)))
  items_acted (Ok (Held holder)) =
      append-nil (survivors xid (opened_by events).items) ∙ ap (λ (o : Opened). survivors xid o.items) (sym (opened_acted (Ok (Held holder))))
  items_acted (Ok (Clashed cause)) =
      append-nil (survivors xid (opened_by events).items) ∙ ap (λ (o : Opened). survivors xid o.items) (sym (opened_acted (Ok (Clashed cause))))
  items_acted (Err fault) =
      append-nil (survivors xid (opened_by events).items) ∙ ap (λ (o : Opened). survivors xid o.items) (sym (opened_refused events fault))

  -- of a table of which it has no share it has still done nothing there, and wants nothing
  module _ (other : ℕ) (not : change_at other c ≡ []) (none : IsShare xid (opened_by events) other None) where
    done_beside : IsShare xid (record { items = (opened_by events).items ++ Change sub c ∷ []; wants = None }) other None
    done_beside = (
      ap (changes_at other) (work_with_change xid sub (opened_by events).items c) ∙ changes_with other (work xid (opened_by events)) c
          ∙ ap (λ cs. cs ++ change_at other c) none.0 ∙ not,
      refl,
    )

    waits_beside : IsShare xid (record (opened_by events) { wants = Some (sub, c) }) other None
    waits_beside = (none.0, append-nil (change_at other c) ∙ not)

    pub none_acted : (answer : Result Acted Fault) → IsShare xid (opened_by (events ++ events_of sub c answer)) other None
    none_acted (Ok IsDone) = subst (λ (o : Opened). IsShare xid o other None) (sym (opened_acted (Ok IsDone))) done_beside
    none_acted (Ok IsSkipped) = subst (λ (o : Opened). IsShare xid o other None) (sym (opened_acted (Ok IsSkipped))) done_beside
    none_acted (Ok (Held holder)) = subst (λ (o : Opened). IsShare xid o other None) (sym (opened_acted (Ok (Held holder)))) waits_beside
    none_acted (Ok (Clashed cause)) = subst (λ (o : Opened). IsShare xid o other None) (sym (opened_acted (Ok (Clashed cause)))) waits_beside
    none_acted (Err fault) = subst (λ (o : Opened). IsShare xid o other None) (sym (opened_refused events fault)) none

  -- so the ticket has the shares that it needs, where the one of the change's table is still one of its number
  pub shares_acted : (table : ℕ) → IsIn table c → (shares new : Shares)
      → ((other : ℕ) → IsShare xid (opened_by events) other (share_of shares other))
      → (share : Share) → share_of new table ≡ Some share → share.number ≡ xid
      → ((other : ℕ) → other ≢ table → share_of new other ≡ share_of shares other)
      → (answer : Result Acted Fault) (other : ℕ) → IsShare xid (opened_by (events ++ events_of sub c answer)) other (share_of new other)
  shares_acted table inside shares new each share there number others answer other =
      elim (xid_cases other table) [
        | inl here ↦ subst (IsShare xid (later answer) other) (sym (ap (share_of new) here ∙ there)) number
        | inr apart ↦ subst (IsShare xid (later answer) other) (sym (others other apart)) (by apart (share_of shares other) (each other))
      ]
    where
      by : other ≢ table → (found : Option Share) → IsShare xid (opened_by events) other found → IsShare xid (later answer) other found
      by apart None none = none_acted other (in_no_other table other c inside apart) none answer
      by apart (Some mine) number_is = number_is

-- ---- its share

-- a share tells what its transaction did in the part, still
pub tried_there : (part : World) (before : Share) (mark : ℕ) (c : change_type.Change) → get part.opened before.number ≡ Some (opened_by before.list)
    → (answer : Result Verdict EngineFault) (new : World) → new ≡ after_try part before.number (opened_by before.list) mark c answer
    → (share : Share) → share ≡ record before { list = before.list ++ tried_events mark c answer }
    → get new.opened share.number ≡ Some (opened_by share.list)
tried_there part before mark c stood answer new led share is =
    subst (λ (w : World). get w.opened share.number ≡ Some (opened_by share.list)) (sym led)
    (subst (λ (s : Share). get (after_try part before.number (opened_by before.list) mark c answer).opened s.number ≡ Some (opened_by s.list)) (sym is) (by answer))
  where
    by : (a : Result Verdict EngineFault)
        → get (after_try part before.number (opened_by before.list) mark c a).opened before.number ≡ Some (opened_by (before.list ++ tried_events mark c a))
    by (Ok (ActedVerdict acted)) = ticket_acted before.number mark before.list c part stood (told (Ok acted))
    by (Ok (Clashes clash)) = stood ∙ ap (λ (list : List Event). Some (opened_by list)) (sym (append-nil before.list))
    by (Err fault) = stood ∙ ap Some (sym (opened_refused before.list (told_fault fault)))

-- so it does where its transaction is made to want a change
pub wants_there : (part : World) (before : Share) (mark : ℕ) (c : change_type.Change) → get part.opened before.number ≡ Some (opened_by before.list)
    → (new : World) → new ≡ wanting part before.number (opened_by before.list) mark c
    → (share : Share) → share ≡ record before { list = before.list ++ Wants mark c ∷ [] }
    → get new.opened share.number ≡ Some (opened_by share.list)
wants_there part before mark c stood new led share is =
    subst (λ (w : World). get w.opened share.number ≡ Some (opened_by share.list)) (sym led)
    (subst (λ (s : Share). get (wanting part before.number (opened_by before.list) mark c).opened s.number ≡ Some (opened_by s.list)) (sym is)
    (ticket_acted before.number mark before.list c part stood (Ok (Held 0))))
