-- What the lists of tickets and of the line tell, once they are longer.
--     get_values, values_insert, values_remove      a finite map whose values are altered
--     opened_more, work_back      an open transaction once one more event has come, and what survives of it after a rollback
--     opened_refused      and where it was refused
--     world_done      the world once an item is in its transaction's list
--     world_refused, world_acted, world_touched      the world once a call is in it: one that was refused, one that tried a
--         change, one that named a subtransaction
--     same_commits, more_commits      the commits with an event that is none, and with one more
--     rise_more      numbers that rise, with one more
--     ends_same, last_same, ends_more, last_more      the ends of the commits with an event that is none, and with one more
--     more_committed      the committed rows after one commit more
--     world_opened, world_aborted, world_committed      the world once the line has one more event
use Rattle.std.proofs.Common.{◌≡◌, ℕ, zero, suc, ◌+◌, ◌<◌, Bool, true, false, List, [], ◌∷◌, ◌++◌, get_or, Option, Some, None, refl, sym, ap, subst, ◌∙◌, append-nil, arith, inl, inr}
use Rattle.std.specs.Prelude.{Result, Ok, Err, ◌==◌, if◌then◌else◌, fold, map, option_map, cond}
use Rattle.std.specs.List.Sorted.{IsStrictlyIncreasing}
use Rattle.std.specs.Ordering.{nat_cmp, eq_by_cmp}
use Rattle.std.specs.Cmp.{nat_cmp_total}
use Rattle.std.specs.FinMap as finite
use Rattle.std.specs.FinMap.{FinMap, get}
use Rattle.std.proofs.lemmas.Grind.{flat_map-append, fold-append}
use Rattle.std.proofs.lemmas.List.{map-append}
use Rattle.model.specs.declared.change.Change as change_type
use Rattle.model.specs.declared.item.Item.{Item}
use Rattle.model.specs.declared.item.Item.TheVariants.{Change, Touch, BackTo}
use Rattle.model.specs.declared.item.CommitInfo.{CommitInfo}
use Rattle.model.specs.Rows.{Rows, Schema}
use Rattle.model.specs.Effect.{serial}
use Rattle.model.specs.EffectLemmas.{serial_append}
use Rattle.model.specs.Survivors.{before_savepoint, survivors, changes_of}
use Rattle.model.specs.SurvivorLemmas.{survivors_with}
use Rattle.model.specs.Beginning.{last_end}
use Rattle.tokens.specs.Lists.{ListMap}
use Rattle.world.specs.World.{Past, OpenOnes, Stop, work, changes_in, work_behind}
use Rattle.world.specs.ListingLemmas.{xid_cases, got_same, got_other, same_by_xid}
use Rattle.world.specs.Steps.{Fault, AlreadyOpen, TooManyOpen, Stopped, OutOfMemory, Acted, IsDone, IsSkipped, Held, Clashed, opened_with, done_with, committed_with, aborted_with}
use Rattle.engine.specs.declared.events.Event.{Event}
use Rattle.engine.specs.declared.events.Event.TheVariants.{Done, Wants, Adopted, FoundStopped, FoundNoMemory}
use Rattle.engine.specs.declared.events.LineEvent.{LineEvent}
use Rattle.engine.specs.declared.events.LineEvent.TheVariants.{Opened as WasOpened, Committed as WasCommitted, Aborted as WasAborted}
use Rattle.engine.specs.Events.{after_event, opened_by, map_values, opened_in, past_of, commits_in, ends_in, world_of, refusal_events, events_of, touch_events}
use Rattle.live_tables.specs.Adopting.{adopted_with}
use Rattle.live_tables.specs.Answers.{after_act, after_touch}

-- ---- a finite map whose values are altered

module _ {X Y : Type 0} (g : X → Y) where
  altered_if : (b : Bool) (x : X) (o : Option X) → cond b (Some (g x)) (option_map g o) ≡ option_map g (cond b (Some x) o)
  altered_if true x o = refl
  altered_if false x o = refl

  none_if : (b : Bool) (o : Option X) → cond b None (option_map g o) ≡ option_map g (cond b None o)
  none_if true o = refl
  none_if false o = refl

  find_values : (q : ℕ) (es : List (ℕ × X)) → finite.find nat_cmp q (map (λ (e : ℕ × X). (e.0, g e.1)) es) ≡ option_map g (finite.find nat_cmp q es)
  find_values q [] = refl
  find_values q (e ∷ es) =
      ap (cond (eq_by_cmp nat_cmp q e.0) (Some (g e.1))) (find_values q es) ∙ altered_if (eq_by_cmp nat_cmp q e.0) e.1 (finite.find nat_cmp q es)

  pub get_values : (m : FinMap nat_cmp X) (q : ℕ) → get (map_values g m) q ≡ option_map g (get m q)
  get_values m q =
      finite.get-from_entries nat_cmp_total (map (λ (e : ℕ × X). (e.0, g e.1)) (finite.entries m)) q ∙ find_values q (finite.entries m)
      ∙ ap (option_map g) (sym (finite.get-entries m q))

  pub values_insert : (m : FinMap nat_cmp X) (k : ℕ) (v : X) → map_values g (finite.insert m k v) ≡ finite.insert (map_values g m) k (g v)
  values_insert m k v = same_by_xid (map_values g (finite.insert m k v)) (finite.insert (map_values g m) k (g v)) (λ q.
      get_values (finite.insert m k v) q ∙ ap (option_map g) (finite.get-insert nat_cmp_total m k v q)
      ∙ sym (altered_if (eq_by_cmp nat_cmp q k) v (get m q)) ∙ ap (cond (eq_by_cmp nat_cmp q k) (Some (g v))) (sym (get_values m q))
      ∙ sym (finite.get-insert nat_cmp_total (map_values g m) k (g v) q))

  pub values_remove : (m : FinMap nat_cmp X) (k : ℕ) → map_values g (finite.remove m k) ≡ finite.remove (map_values g m) k
  values_remove m k = same_by_xid (map_values g (finite.remove m k)) (finite.remove (map_values g m) k) (λ q.
      get_values (finite.remove m k) q ∙ ap (option_map g) (finite.get-remove nat_cmp_total m k q)
      ∙ sym (none_if (eq_by_cmp nat_cmp q k) (get m q)) ∙ ap (cond (eq_by_cmp nat_cmp q k) None) (sym (get_values m q))
      ∙ sym (finite.get-remove nat_cmp_total (map_values g m) k q))

  pub values_empty : map_values g finite.empty ≡ finite.empty
  values_empty = same_by_xid (map_values g finite.empty) finite.empty (λ q.
      get_values finite.empty q ∙ ap (option_map g) (finite.get-empty nat_cmp q) ∙ sym (finite.get-empty nat_cmp q))

-- what is there is put there again
put_same : {X : Type 0} (m : FinMap nat_cmp X) (k : ℕ) (v : X) → get m k ≡ Some v → finite.insert m k v ≡ m
put_same m k v is = same_by_xid (finite.insert m k v) m (λ q.
    elim (xid_cases q k) [
      | inl at ↦ ap (get (finite.insert m k v)) at ∙ got_same m k v ∙ sym is ∙ sym (ap (get m) at)
      | inr apart ↦ got_other m k v q apart
    ])

-- ---- the events of a ticket

-- an open transaction once one more event has come
pub opened_more : (events : List Event) (e : Event) → opened_by (events ++ e ∷ []) ≡ after_event (opened_by events) e
opened_more events e = fold-append after_event (record { items = []; wants = None }) events (e ∷ [])

-- a call of it that was refused leaves what it has done
pub opened_refused : (events : List Event) (fault : Fault) → opened_by (events ++ refusal_events fault) ≡ opened_by events
opened_refused events AlreadyOpen = ap opened_by (append-nil events)
opened_refused events TooManyOpen = ap opened_by (append-nil events)
opened_refused events Stopped = opened_more events FoundStopped
opened_refused events OutOfMemory = opened_more events FoundNoMemory

-- what survives of an open transaction once it was rolled back
pub work_back : (events : List Event) (xid sub : ℕ)
    → work xid (opened_by (events ++ Done (BackTo sub) ∷ []))
    ≡ changes_of (if sub == xid then survivors xid (opened_by events).items else before_savepoint sub (survivors xid (opened_by events).items))
work_back events xid sub =
    ap (work xid) (opened_more events (Done (BackTo sub))) ∙ ap changes_of (survivors_with xid (opened_by events).items (BackTo sub))

-- the open transactions once a list has one more event
pub opened_event : (lists : ListMap Event) (xid : ℕ) (events : List Event) (e : Event)
    → opened_in (finite.insert lists xid (events ++ e ∷ [])) ≡ finite.insert (opened_in lists) xid (after_event (opened_by events) e)
opened_event lists xid events e =
    values_insert opened_by lists xid (events ++ e ∷ []) ∙ ap (finite.insert (opened_in lists) xid) (opened_more events e)

-- an open transaction is in the world what its list tells
pub opened_stands : (lists : ListMap Event) (xid : ℕ) (events : List Event) → get lists xid ≡ Some events
    → get (opened_in lists) xid ≡ Some (opened_by events)
opened_stands lists xid events is = get_values opened_by lists xid ∙ ap (option_map opened_by) is

module _ (schema : Schema) (start : Rows) (line : List LineEvent) (lists : ListMap Event) (xid : ℕ) (events : List Event) (is : get lists xid ≡ Some events) where
  -- the world once an item is in its transaction's list
  pub world_done : (stopped : Option Stop) (item : Item)
      → world_of schema start line (finite.insert lists xid (events ++ Done item ∷ [])) stopped
      ≡ done_with (world_of schema start line lists stopped) xid (opened_by events) item
  world_done stopped item =
      ap (λ (o : OpenOnes). record (world_of schema start line lists stopped) { opened = o }) (opened_event lists xid events (Done item))

  -- the world once a subtransaction has adopted its transaction's last change
  pub world_adopted : (stopped : Option Stop) (sub : ℕ)
      → world_of schema start line (finite.insert lists xid (events ++ Adopted sub ∷ [])) stopped
      ≡ adopted_with (world_of schema start line lists stopped) xid (opened_by events) sub
  world_adopted stopped sub =
      ap (λ (o : OpenOnes). record (world_of schema start line lists stopped) { opened = o }) (opened_event lists xid events (Adopted sub))

  -- the world once a call that was refused is in its transaction's list
  pub world_refused : (stopped later : Option Stop) (fault : Fault) → later ≡ stopped
      → world_of schema start line (finite.insert lists xid (events ++ refusal_events fault)) later ≡ world_of schema start line lists stopped
  world_refused stopped later fault e =
      let same : opened_in (finite.insert lists xid (events ++ refusal_events fault)) ≡ opened_in lists =
      values_insert opened_by lists xid (events ++ refusal_events fault) ∙ ap (finite.insert (opened_in lists) xid) (opened_refused events fault)
      ∙ put_same (opened_in lists) xid (opened_by events) (opened_stands lists xid events is) in
      λ i. record (world_of schema start line lists (e i)) { opened = same i }

  -- the world once a call that tried a change is in it
  pub world_acted : (stopped later : Option Stop) (sub : ℕ) (c : change_type.Change) (answer : Result Acted Fault)
      → later ≡ (after_act (world_of schema start line lists stopped) xid (opened_by events) sub c answer).stopped
      → world_of schema start line (finite.insert lists xid (events ++ events_of sub c answer)) later
      ≡ after_act (world_of schema start line lists stopped) xid (opened_by events) sub c answer
  world_acted stopped later sub c (Ok IsDone) e =
      ap (world_of schema start line (finite.insert lists xid (events ++ Done (Change sub c) ∷ []))) e ∙ world_done stopped (Change sub c)
  world_acted stopped later sub c (Ok IsSkipped) e =
      ap (world_of schema start line (finite.insert lists xid (events ++ Done (Change sub c) ∷ []))) e ∙ world_done stopped (Change sub c)
  world_acted stopped later sub c (Ok (Held holder)) e =
      λ i. record (world_of schema start line lists (e i)) { opened = opened_event lists xid events (Wants sub c) i }
  world_acted stopped later sub c (Ok (Clashed cause)) e =
      λ i. record (world_of schema start line lists (e i)) { opened = opened_event lists xid events (Wants sub c) i }
  world_acted stopped later sub c (Err fault) e = world_refused stopped later fault e

  -- the world once a call that named a subtransaction is in it
  pub world_touched : (stopped later : Option Stop) (sub : ℕ) (answer : Result (Unit {0}) Fault) → later ≡ stopped
      → world_of schema start line (finite.insert lists xid (events ++ touch_events sub answer)) later
      ≡ after_touch (world_of schema start line lists stopped) xid (opened_by events) sub answer
  world_touched stopped later sub (Ok u) e =
      ap (world_of schema start line (finite.insert lists xid (events ++ Done (Touch sub) ∷ []))) e ∙ world_done stopped (Touch sub)
  world_touched stopped later sub (Err fault) e = world_refused stopped later fault e

-- ---- the events of the line

-- an event that is no commit leaves the commits
pub same_commits : (line : List LineEvent) (e : LineEvent) → past_of e ≡ [] → commits_in (line ++ e ∷ []) ≡ commits_in line
same_commits line e none = flat_map-append past_of line (e ∷ []) ∙ ap (λ (ps : List Past). commits_in line ++ (ps ++ [])) none ∙ append-nil (commits_in line)

-- the world once a transaction is opened
pub world_opened : (schema : Schema) (start : Rows) (line : List LineEvent) (lists : ListMap Event) (stopped : Option Stop) (xid : ℕ)
    → world_of schema start (line ++ WasOpened xid ∷ []) (finite.insert lists xid []) stopped ≡ opened_with (world_of schema start line lists stopped) xid
world_opened schema start line lists stopped xid =
    λ i. record {
      start = start;
      committed = serial schema start (changes_in (same_commits line (WasOpened xid) refl i));
      line = same_commits line (WasOpened xid) refl i;
      opened = values_insert opened_by lists xid [] i;
      stopped = stopped;
    }

-- the world once a transaction is aborted
pub world_aborted : (schema : Schema) (start : Rows) (line : List LineEvent) (lists : ListMap Event) (stopped : Option Stop) (xid : ℕ)
    → world_of schema start (line ++ WasAborted xid ∷ []) (finite.remove lists xid) stopped ≡ aborted_with (world_of schema start line lists stopped) xid
world_aborted schema start line lists stopped xid =
    λ i. record {
      start = start;
      committed = serial schema start (changes_in (same_commits line (WasAborted xid) refl i));
      line = same_commits line (WasAborted xid) refl i;
      opened = values_remove opened_by lists xid i;
      stopped = stopped;
    }

-- one commit more
pub more_commits : (line : List LineEvent) (xid : ℕ) (items : List Item) (info : CommitInfo)
    → commits_in (line ++ WasCommitted xid items info ∷ []) ≡ commits_in line ++ record { xid = xid; items = items; info = info } ∷ []
more_commits line xid items info = flat_map-append past_of line (WasCommitted xid items info ∷ [])

-- ---- the ends of the commits

-- numbers that rise, with one above the last
pub rise_more : (ns : List ℕ) (first n : ℕ) → IsStrictlyIncreasing (first ∷ ns) → fold (λ (before end : ℕ). end) first ns < n
    → IsStrictlyIncreasing (first ∷ (ns ++ n ∷ []))
rise_more [] first n rise above zero within = above
rise_more [] first n rise above (suc k) within = absurd (omega (arith, within))
rise_more (next ∷ ns) first n rise above zero within = rise 0 (omega arith)
rise_more (next ∷ ns) first n rise above (suc k) within =
    let same : suc k + 1 ≡ suc (k + 1) = omega arith in
    subst (λ j. get_or (next ∷ (ns ++ n ∷ [])) k 0 < get_or (first ∷ next ∷ (ns ++ n ∷ [])) j 0) (sym same)
    (rise_more ns next n
    (λ j inside.
    let one : suc j + 1 ≡ suc (j + 1) = omega arith in
    subst (λ i. get_or (next ∷ ns) j 0 < get_or (first ∷ next ∷ ns) i 0) one (rise (suc j) (omega (arith, inside))))
    above k (omega (arith, within)))

pub ends_same : (line : List LineEvent) (e : LineEvent) → past_of e ≡ [] → ends_in (line ++ e ∷ []) ≡ ends_in line
ends_same line e none = ap (λ (ps : List Past). map (λ (p : Past). p.info.end) ps) (same_commits line e none)

pub last_same : (line : List LineEvent) (e : LineEvent) → past_of e ≡ [] → last_end (ends_in (line ++ e ∷ [])) ≡ last_end (ends_in line)
last_same line e none = ap (fold (λ (before end : ℕ). end) 0) (ends_same line e none)

pub ends_more : (line : List LineEvent) (xid : ℕ) (items : List Item) (info : CommitInfo)
    → ends_in (line ++ WasCommitted xid items info ∷ []) ≡ ends_in line ++ info.end ∷ []
ends_more line xid items info =
    ap (λ (ps : List Past). map (λ (p : Past). p.info.end) ps) (more_commits line xid items info)
    ∙ map-append (λ (p : Past). p.info.end) (commits_in line) (record { xid = xid; items = items; info = info } ∷ [])

pub last_more : (line : List LineEvent) (xid : ℕ) (items : List Item) (info : CommitInfo)
    → last_end (ends_in (line ++ WasCommitted xid items info ∷ [])) ≡ info.end
last_more line xid items info =
    ap (fold (λ (before end : ℕ). end) 0) (ends_more line xid items info) ∙ fold-append (λ (before end : ℕ). end) 0 (ends_in line) (info.end ∷ [])

-- the committed rows after one commit more
pub more_committed : (schema : Schema) (start : Rows) (pasts : List Past) (p : Past)
    → serial schema start (changes_in (pasts ++ p ∷ [])) ≡ serial schema (serial schema start (changes_in pasts)) (work_behind p)
more_committed schema start pasts p =
    ap (serial schema start) (flat_map-append work_behind pasts (p ∷ []) ∙ ap (λ (cs : List change_type.Change). changes_in pasts ++ cs) (append-nil (work_behind p)))
    ∙ serial_append schema start (changes_in pasts) (work_behind p)

-- the world once a transaction is committed
pub world_committed : (schema : Schema) (start : Rows) (line : List LineEvent) (lists : ListMap Event) (stopped : Option Stop) (xid : ℕ)
    (events : List Event) (info : CommitInfo)
    → world_of schema start (line ++ WasCommitted xid (opened_by events).items info ∷ []) (finite.remove lists xid) stopped
    ≡ committed_with schema (world_of schema start line lists stopped) xid (opened_by events) info
world_committed schema start line lists stopped xid events info =
    let p : Past = record { xid = xid; items = (opened_by events).items; info = info } in
    let committed = ap (λ (ps : List Past). serial schema start (changes_in ps)) (more_commits line xid (opened_by events).items info) ∙ more_committed schema start (commits_in line) p in
    λ i. record {
      start = start;
      committed = committed i;
      line = more_commits line xid (opened_by events).items info i;
      opened = values_remove opened_by lists xid i;
      stopped = stopped;
    }
