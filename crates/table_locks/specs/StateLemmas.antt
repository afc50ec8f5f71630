-- What is kept of a part under its table's lock, from one call to the next.
--     own_table      a part is one of its own world
--     witness      its own world, which nothing stopped, with a transaction that is open
--     witness_ticket, witness_shared, witness_new      that has the ticket; and the part, where the ticket has a share of it, or none
--     tries_steps      a change that was tried is a step of such a world
--     stays_fit      a step of a world that has the part leads it on
--     stays_on      two such steps are one
--     fits_as, fits_on, fits_stopped      it fits as a world that something stopped; as before; and where it wasn't stopped
--     fits_behind      the same of the part that was lent to a call
--     fits_held      it fits as one that a hold stopped
--     tied_by, tied_beside      a share tells what its transaction did, where the part was told of it, and where it wasn't
use Rattle.std.specs.Prelude.{◌≡◌, ℕ, ◌≤◌, List, [], ◌∷◌, ◌++◌, Option, Some, None, Result, Ok, Err, refl}
use Rattle.std.proofs.Common.{sym, ◌∙◌, ap, subst, append-nil}
use Rattle.std.specs.FinMap.{get, insert}
use mathlib.Core.Logic.{∥∥₁_map}
use Rattle.model.specs.declared.change.Change as change_type
use Rattle.model.specs.declared.item.Item.TheVariants.{Change}
use Rattle.model.specs.Rows.{Rows, Schema}
use Rattle.model.specs.Survivors.{survivors}
use Rattle.tokens.specs.Half.{Name}
use Rattle.world.specs.CallLemmas.{start_stays}
use Rattle.world.specs.ListingLemmas.{got_same}
use Rattle.world.specs.Steps.{Fault, Acted, IsDone, IsSkipped, Held, Clashed, Step, acts, tells_stop}
use Rattle.world.specs.World.{Opened, Stop, ByClash, ByHold, World, starting}
use Rattle.world_parts.specs.ByTable.{rows_at, change_at, changes_at}
use Rattle.world_parts.specs.Lines.{HasLine, line_at}
use Rattle.world_parts.specs.MarkLemmas.{told_beside, nothing_told}
use Rattle.world_parts.specs.Marks.{items_at, survivors_if, HasPart}
use Rattle.world_parts.specs.Parts.{wanted_by, wanted_if}
use Rattle.world_parts.specs.Reached.{PartReaches, part_step, by_step}
use Rattle.world_parts.specs.Sound.{IsSound}
use Rattle.world_parts.specs.ToldLemmas.{moved_beside}
use Rattle.world_parts.specs.TwiceLemmas.{rows_twice, own_part}
use Rattle.live_tables.specs.declared.answers.EngineFault.{EngineFault}
use Rattle.live_tables.specs.declared.answers.Verdict.{Verdict}
use Rattle.live_tables.specs.declared.answers.Verdict.TheVariants.{Acted as ActedVerdict, Clashes}
use Rattle.live_tables.specs.Answers.{told, after_act}
use Rattle.live_tables.specs.Tried.{Tries, after_try}
use Rattle.engine.specs.declared.events.Event.{Event}
use Rattle.engine.specs.Events.{opened_by, events_of}
use Rattle.engine.specs.EventLemmas.{opened_refused}
use Rattle.table_parts.specs.Part.{Part, last_commit_end}
use Rattle.parted_store.specs.Acting.{as_told}
use Rattle.parted_store.specs.ActLemmas.{part_stopped, opened_acted}
use Rattle.parted_store.specs.KeepsSound.{with_stop, KeepsSoundRunning}
use Rattle.parted_store.specs.Lent.{OpenTicket, HasTable, HasTicket, IsSamePart, IsShare}
use Rattle.parted_store.specs.Shares.{Share}
use Rattle.table_locks.specs.TableStates.{TableState, IsKept, Fits, StaysFit}
use Rattle.table_locks.specs.Tickets.{IsTied}

-- ---- worlds that are made of a part

-- the part's own world, which nothing stopped, with a transaction that is open so
abbrev pub witness : Part → ℕ → Opened → World
witness p xid o = record p.store.world { opened = insert p.store.world.opened xid o; stopped = None }

module _ (shares : ℕ → Name) (schema : Schema) (start : Rows) (p : Part) (kept : IsKept shares schema start p) where
  -- where the part began with the table's rows, so does its own world
  own_start : p.store.world.start ≡ rows_at p.number p.store.world.start
  own_start = kept.start_is ∙ sym (rows_twice p.number start) ∙ ap (rows_at p.number) (sym kept.start_is)

  pub own_table : HasTable p.store.world p
  own_table = record { is = kept.own; line = record { start = own_start; line = refl } }

  module _ (xid : ℕ) (o : Opened) where
    -- the part has of the transaction what was told to its table, and wants there what it wants
    witness_table : survivors_if xid (get p.store.world.opened xid) ≡ items_at p.number xid (survivors xid o.items)
        → wanted_if (get p.store.world.opened xid) ≡ changes_at p.number (wanted_by o.wants) → HasTable (witness p xid o) p
    witness_table told wants = record {
      is =
          part_stopped p.number (record p.store.world { opened = (witness p xid o).opened }) p.store.world None
          (moved_beside p.number p.store.world p.store.world kept.own xid o told wants);
      line = record { start = own_start; line = refl };
    }

  module _ (t : OpenTicket) where
    pub witness_ticket : HasTicket (witness p t.number (opened_by t.events)) t
    witness_ticket = got_same p.store.world.opened t.number (opened_by t.events)

    pub witness_shared : (name : Name) (share : Share) → IsTied name t.number (opened_by t.events) p.number share
        → get p.store.world.opened share.number ≡ Some (opened_by share.list) → HasTable (witness p t.number (opened_by t.events)) p
    witness_shared name share tied stood =
        let open_so = subst (λ (n : ℕ). get p.store.world.opened n ≡ Some (opened_by share.list)) tied.number stood in
        witness_table t.number (opened_by t.events) (ap (survivors_if t.number) open_so ∙ tied.told) (ap wanted_if open_so ∙ tied.wants)

    pub witness_new : IsShare t.number (opened_by t.events) p.number None → get p.store.world.opened t.number ≡ None
        → HasTable (witness p t.number (opened_by t.events)) p
    witness_new none beside =
        witness_table t.number (opened_by t.events)
        (ap (survivors_if t.number) beside ∙ sym (nothing_told p.number t.number (survivors t.number (opened_by t.events).items) none.0))
        (ap wanted_if beside ∙ sym none.1)

-- a change that was tried in a world that runs is a step of it
pub tries_steps : (schema : Schema) (w : World) (xid : ℕ) (o : Opened) (sub : ℕ) (c : change_type.Change) (answer : Result Verdict EngineFault)
    → get w.opened xid ≡ Some o → Tries schema w xid o sub c answer (after_try w xid o sub c answer) → Step schema w (after_act w xid o sub c (as_told answer))
tries_steps schema w xid o sub c (Ok (ActedVerdict acted)) at tries = acts xid o sub c (told (Ok acted)) (after_act w xid o sub c (told (Ok acted))) at tries
tries_steps schema w xid o sub c (Ok (Clashes clash)) at tries = tells_stop w.stopped refl
tries_steps schema w xid o sub c (Err fault) at tries = tells_stop w.stopped refl

-- ---- behind a call

module _ (shares : ℕ → Name) (tables : Name) (schema : Schema) (start : Rows) (p : Part) (kept : IsKept shares schema start p)
    (q : Part) (same : IsSamePart p q) (w next : World) (has : HasTable w p) (step : Step schema w next) (then : HasTable next q) where
  -- what the world is in which it is the part of its old number
  is_then : HasPart p.number next q.store.world
  is_then = subst (λ (n : ℕ). HasPart n next q.store.world) same.number then.is

  line_then : HasLine p.number next q.store.world
  line_then = subst (λ (n : ℕ). HasLine n next q.store.world) same.number then.line

  pub leads_on : IsKept shares schema start q
  leads_on = record {
    tickets = same.store.tickets ∙ kept.tickets ∙ ap shares (sym same.number);
    schema_is = same.store.schema ∙ kept.schema_is;
    start_is =
        line_then.start ∙ ap (rows_at p.number) (start_stays schema w next step) ∙ sym has.line.start ∙ kept.start_is
        ∙ ap (λ (n : ℕ). rows_at n start) (sym same.number);
    own = subst (λ (n : ℕ). HasPart n q.store.world q.store.world) (sym same.number) (own_part p.number next q.store.world is_then);
    reached =
        subst (λ (n : ℕ). ∥ PartReaches schema n (starting (rows_at n start)) q.store.world ∥₁) (sym same.number)
        (∥∥₁_map kept.reached (λ (led : PartReaches schema p.number (starting (rows_at p.number start)) p.store.world).
        by_step p.store.world q.store.world led (part_step w next q.store.world has.is has.line step is_then line_then)));
  }

  -- where it is no commit, the table's commits stay
  pub stays_fit : next.line ≡ w.line → last_commit_end q ≡ last_commit_end p → StaysFit shares tables schema start p q
  stays_fit line end = record {
    number = same.number;
    kept = leads_on;
    listed = λ commits listed. record {
      name = listed.name;
      number = listed.number ∙ sym same.number;
      list =
          listed.list ∙ has.line.line ∙ ap (line_at p.number) (sym line) ∙ ap (λ (n : ℕ). line_at n next.line) (sym same.number)
          ∙ sym then.line.line;
    };
    end = end;
  }

-- two such steps are one
pub stays_on : (shares : ℕ → Name) (tables : Name) (schema : Schema) (start : Rows) (p q r : Part) → StaysFit shares tables schema start p q
    → StaysFit shares tables schema start q r → StaysFit shares tables schema start p r
stays_on shares tables schema start p q r first then = record {
  number = then.number ∙ first.number;
  kept = then.kept;
  listed = λ commits listed. then.listed commits (first.listed commits listed);
  end = then.end ∙ first.end;
}

module _ (shares : ℕ → Name) (tables : Name) (schema : Schema) (start : Rows) (s : TableState) (p : Part) (fits : Fits shares tables schema start s p)
    (q : Part) (stays : StaysFit shares tables schema start p q) where
  -- as a world that this stopped
  pub fits_as : (stopped : Option Stop) → (IsSound p.store.schema (with_stop s.stopped p) → IsSound p.store.schema (with_stop stopped q))
      → Fits shares tables schema start (record s { stopped = stopped }) q
  fits_as stopped sound = record {
    number = stays.number ∙ fits.number;
    kept = stays.kept;
    listed = stays.listed s.commits fits.listed;
    sound =
        subst (λ (k : Schema). IsSound k (with_stop stopped q)) fits.kept.schema_is
        (sound (subst (λ (k : Schema). IsSound k (with_stop s.stopped p)) (sym fits.kept.schema_is) fits.sound));
    last = subst (λ (n : ℕ). n ≤ s.last) (sym stays.end) fits.last;
  }

  -- where nothing stopped it
  pub fits_on : (now : TableState) → now ≡ s → s.stopped ≡ None → KeepsSoundRunning p q → Fits shares tables schema start now q
  fits_on now is running sound =
      subst (λ (x : TableState). Fits shares tables schema start x q) (sym is)
      (fits_as s.stopped (λ was.
      subst (λ (stop : Option Stop). IsSound p.store.schema (with_stop stop q)) (sym running)
      (sound (subst (λ (stop : Option Stop). IsSound p.store.schema (with_stop stop p)) running was))))

  -- where this stopped it
  pub fits_stopped : (now : TableState) (stopped : Option Stop) → now ≡ record s { stopped = stopped } → s.stopped ≡ None
      → (IsSound p.store.schema (with_stop None p) → IsSound p.store.schema (with_stop stopped q)) → Fits shares tables schema start now q
  fits_stopped now stopped is running sound =
      subst (λ (x : TableState). Fits shares tables schema start x q) (sym is)
      (fits_as stopped (λ was. sound (subst (λ (stop : Option Stop). IsSound p.store.schema (with_stop stop p)) running was)))

-- of the part that was lent to the call
pub fits_behind : (shares : ℕ → Name) (tables : Name) (schema : Schema) (start : Rows) (s : TableState) (p : Part) → Fits shares tables schema start s p
    → s.stopped ≡ None → (lent q : Part) → lent ≡ p → StaysFit shares tables schema start lent q → KeepsSoundRunning lent q → (now : TableState) → now ≡ s
    → Fits shares tables schema start now q
fits_behind shares tables schema start s p fits running lent q is stays sound now same =
    fits_on shares tables schema start s p fits q (subst (λ (x : Part). StaysFit shares tables schema start x q) is stays) now same running
    (subst (λ (x : Part). KeepsSoundRunning x q) is sound)

-- ---- shares

-- a share tells what its transaction did in the table, where it is open in the part as the share tells
pub tied_by : (name : Name) (xid : ℕ) (later : Opened) (q : Part) (next : World) → HasTable next q → get next.opened xid ≡ Some later → (share : Share)
    → share.name ≡ name → share.number ≡ xid → get q.store.world.opened share.number ≡ Some (opened_by share.list) → IsTied name xid later q.number share
tied_by name xid later q next has at share name_is number stood =
    let open_so = subst (λ (n : ℕ). get q.store.world.opened n ≡ Some (opened_by share.list)) number stood in
    record {
      name_is = name_is;
      number = number;
      told =
          sym (ap (survivors_if xid) open_so) ∙ has.is.1 xid
          ∙ ap (λ (open_one : Option Opened). items_at q.number xid (survivors_if xid open_one)) at;
      wants =
          sym (ap wanted_if open_so) ∙ has.is.0.wanted xid
          ∙ ap (λ (open_one : Option Opened). changes_at q.number (wanted_if open_one)) at;
    }

module _ (name : Name) (xid : ℕ) (events : List Event) (table : ℕ) (share : Share) (tied : IsTied name xid (opened_by events) table share)
    (waits : changes_at table (wanted_by (opened_by events).wants) ≡ []) (sub : ℕ) (c : change_type.Change) (not : change_at table c ≡ []) where
  -- the transaction is open otherwise
  tied_as : (later : Opened) → survivors xid (opened_by share.list).items ≡ items_at table xid (survivors xid later.items)
      → changes_at table (wanted_by later.wants) ≡ [] → (now : Opened) → now ≡ later → IsTied name xid now table share
  tied_as later told nothing now is =
      subst (λ (o : Opened). IsTied name xid o table share) (sym is)
      (record { name_is = tied.name_is; number = tied.number; told = told; wants = tied.wants ∙ waits ∙ sym nothing })

  -- it tried a change of another table
  pub tied_beside : (answer : Result Acted Fault) → IsTied name xid (opened_by (events ++ events_of sub c answer)) table share
  tied_beside (Ok IsDone) =
      tied_as (record { items = (opened_by events).items ++ Change sub c ∷ []; wants = None })
      (told_beside table xid sub (opened_by events).items (opened_by share.list).items tied.told c not) refl _ (opened_acted xid sub events c (Ok IsDone))
  tied_beside (Ok IsSkipped) =
      tied_as (record { items = (opened_by events).items ++ Change sub c ∷ []; wants = None })
      (told_beside table xid sub (opened_by events).items (opened_by share.list).items tied.told c not) refl _ (opened_acted xid sub events c (Ok IsSkipped))
  tied_beside (Ok (Held holder)) =
      tied_as (record (opened_by events) { wants = Some (sub, c) }) tied.told (append-nil (change_at table c) ∙ not) _ (opened_acted xid sub events c (Ok (Held holder)))
  tied_beside (Ok (Clashed cause)) =
      tied_as (record (opened_by events) { wants = Some (sub, c) }) tied.told (append-nil (change_at table c) ∙ not) _ (opened_acted xid sub events c (Ok (Clashed cause)))
  tied_beside (Err fault) = subst (λ (o : Opened). IsTied name xid o table share) (sym (opened_refused events fault)) tied

-- ---- a hold that stopped the store

-- a world is sound as one that a hold stopped
sound_held : (schema : Schema) (w : World) (waiter holder : ℕ) → IsSound schema w → IsSound schema (record w { stopped = Some (ByHold waiter holder) })
sound_held schema w waiter holder sound = record {
  fine = record {
    valid_start = sound.fine.valid_start;
    serial_commits = sound.fine.serial_commits;
    apart = sound.fine.apart;
    accepted = sound.fine.accepted;
    noted = λ xid c cause is. absurd (let same : Some (ByHold waiter holder) ≡ Some (ByClash xid c cause) = is in cc);
  };
  accepted = sound.accepted;
  wanted = λ xid c cause is. absurd (let same : Some (ByHold waiter holder) ≡ Some (ByClash xid c cause) = is in cc);
}

-- the part may lie where the table knows of it
pub fits_held : (shares : ℕ → Name) (tables : Name) (schema : Schema) (start : Rows) (s new : TableState) (p : Part) (waiter holder : ℕ)
    → Fits shares tables schema start s p → new ≡ record s { part = None; stopped = Some (ByHold waiter holder) } → Fits shares tables schema start new p
fits_held shares tables schema start s new p waiter holder fits is =
    subst (λ (t : TableState). Fits shares tables schema start t p) (sym is) (record {
      number = fits.number;
      kept = fits.kept;
      listed = fits.listed;
      sound = sound_held schema (with_stop s.stopped p) waiter holder fits.sound;
      last = fits.last;
    })
