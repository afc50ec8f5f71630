-- A store in which no transaction is open, and one whose transactions come one at a time.
--     work_made      what survives of a transaction that has made changes and nothing else
--     reach_made, reach_committed      calls lead to the world in which it has made them, and to the one in which it is committed
--     rows_committed, journal_committed      the rows and the journal then
--     rows_with      the rows with more of the open work
--     fine_reached_from      what calls reach from a fine world is fine
--     tied_idle      what ties a live part to a world in which none is open, with other committed rows
--     nobody_open, idle_rows      none is open, and the rows are the committed ones
--     idle_with, idle_committed      such a store with its rows in other room; with one transaction more that was committed
use Rattle.std.proofs.Common.{◌≡◌, ℕ, ◌+◌, ◌<◌, ◌≤◌, Vec, Global, Bool, true, false, List, [], ◌∷◌, ◌++◌, Option, Some, None, refl, sym, ap, subst, ◌∙◌, append_assoc, append-nil, arith, inl, inr}
use Rattle.std.specs.Prelude.{Ok, cond, is_some, map, vec_len, vec_capacity}
use Rattle.std.specs.Ordering.{nat_cmp}
use Rattle.std.specs.BTreeMap.{btree_map_len}
use Rattle.std.specs.FinMap as finite
use Rattle.std.specs.FinMap.{FinMap, get, get-empty, len-empty}
use Rattle.std.proofs.lemmas.Grind.{fold-append}
use Rattle.std.proofs.lemmas.List.{map-append}
use Rattle.model.specs.declared.change.Change.{Change}
use Rattle.model.specs.declared.cell.Cell.{Cell}
use Rattle.model.specs.declared.item.Item.{Item}
use Rattle.model.specs.declared.item.Item.TheVariants.{Change as ChangeItem}
use Rattle.model.specs.declared.item.CommitInfo.{CommitInfo}
use Rattle.model.specs.Rows.{Rows, Schema}
use Rattle.model.specs.Effect.{Outcome, Done, Skip, Clashes, all_back, outcome, serial}
use Rattle.model.specs.EffectLemmas.{serial_append}
use Rattle.model.specs.Survivors.{surviving, changes_of}
use Rattle.model.specs.ValidLemmas.{not_none}
use Rattle.model.specs.Accepted.{HasNoClash, AreAccepted}
use Rattle.model.specs.Beginning.{last_end}
use Rattle.indexes.specs.Content.{Content}
use Rattle.change.specs.Inverse.{edits_of}
use Rattle.savepoint.specs.Record.{Record}
use Rattle.tokens.specs.Half.{Half}
use Rattle.tokens.specs.Lists.{ListMap}
use Rattle.world.specs.World.{Opened, Past, OpenOnes, World, entry_of, journal, work, own_rows, IsFree, is_xid}
use Rattle.world.specs.World as told_entry
use Rattle.world.specs.Live.{Reordered, same}
use Rattle.world.specs.Steps.{IsDone, IsSkipped, Step, opens, acts, commits, Reaches, at_start, by_step, done_with}
use Rattle.world.specs.FineLemmas.{fine_step}
use Rattle.world.specs.Fine.{IsFine}
use Rattle.world.specs.ListingLemmas.{xid_cases, got_same, got_other, same_by_xid, removed_again, none_removed}
use Rattle.world.specs.WorldLemmas.{no_entries, live_by, live_alone}
use Rattle.engine.specs.declared.entry.Entry.{Entry}
use Rattle.engine.specs.declared.events.Event.{Event}
use Rattle.engine.specs.declared.events.LineEvent.{LineEvent}
use Rattle.engine.specs.declared.events.LineEvent.TheVariants.{Opened as WasOpened, Committed as WasCommitted}
use Rattle.engine.specs.declared.store.Store.TheInside.{Inside}
use Rattle.engine.specs.FirstClashLemmas.{serial_last}
use Rattle.engine.specs.Engine.{entry_in, start_in, world_in, AreTakenBack, Represents}
use Rattle.engine.specs.Events.{opened_by, opened_in, commits_in, ends_in, is_open_in, open_after, world_of}
use Rattle.engine.specs.EventLemmas.{values_empty, same_commits, more_commits, more_committed, rise_more, ends_same, ends_more}
use Rattle.engine.specs.EntryLemmas.{taken_back_more}
use Rattle.engine.specs.Serial.{Serial, rows_now, with_changes, having_made, with_work, committed_by}
use Rattle.engine.specs.StoreLemmas.{still_rising, store_serial}
use Rattle.live_tables.specs.declared.live_tables.Live.{Live}
use Rattle.live_tables.specs.Answers.{told_stop}
use Rattle.live_tables.specs.KeptRecords.{Represents as RecordsRepresent}
use Rattle.live_tables.specs.BeforeImages.{LiveHolds}
use Rattle.live_tables.specs.Represents.{records_in, AreHeld, Represents as LiveRepresents}

-- ---- a transaction that has made changes and nothing else

surviving_changes : (xid : ℕ) (kept : List Item) (cs : List Change) → surviving xid kept (map (ChangeItem xid) cs) ≡ kept ++ map (ChangeItem xid) cs
surviving_changes xid kept [] = sym (append-nil kept)
surviving_changes xid kept (c ∷ cs) = surviving_changes xid (kept ++ ChangeItem xid c ∷ []) cs ∙ append_assoc kept (ChangeItem xid c ∷ []) (map (ChangeItem xid) cs)

changes_made : (xid : ℕ) (cs : List Change) → changes_of (map (ChangeItem xid) cs) ≡ cs
changes_made xid [] = refl
changes_made xid (c ∷ cs) = ap (λ (ds : List Change). c ∷ ds) (changes_made xid cs)

-- what survives of it
pub work_made : (xid : ℕ) (cs : List Change) → work xid (having_made xid cs) ≡ cs
work_made xid cs = ap changes_of (surviving_changes xid [] cs) ∙ changes_made xid cs

-- what is put twice is put once
put_again : {X : Type 0} (m : FinMap nat_cmp X) (xid : ℕ) (x y : X) → finite.insert (finite.insert m xid x) xid y ≡ finite.insert m xid y
put_again m xid x y = same_by_xid (finite.insert (finite.insert m xid x) xid y) (finite.insert m xid y) (λ other.
    elim (xid_cases other xid) [
      | inl at ↦ ap (get (finite.insert (finite.insert m xid x) xid y)) at ∙ got_same (finite.insert m xid x) xid y ∙ sym (ap (get (finite.insert m xid y)) at ∙ got_same m xid y)
      | inr apart ↦ got_other (finite.insert m xid x) xid y other apart ∙ got_other m xid x other apart ∙ sym (got_other m xid y other apart)
    ])

module _ (schema : Schema) (w : World) (running : w.stopped ≡ None) (none : w.opened ≡ finite.empty) (xid : ℕ) where
  absent : (other : ℕ) → get w.opened other ≡ None
  absent other = ap (λ (m : OpenOnes). get m other) none ∙ get-empty nat_cmp other

  -- nobody else holds anything
  all_free : (cs : List Change) (cells : List Cell) → IsFree schema (with_work w xid cs) xid cells
  all_free cs cells other o differs at = absurd (not_none o (sym (got_other w.opened xid (having_made xid cs) other differs ∙ absent other) ∙ at))

  one_more : (cs : List Change) (c : Change) → with_work w xid (cs ++ c ∷ []) ≡ done_with (with_work w xid cs) xid (having_made xid cs) (ChangeItem xid c)
  one_more cs c =
      let items : map (ChangeItem xid) (cs ++ c ∷ []) ≡ map (ChangeItem xid) cs ++ ChangeItem xid c ∷ [] = map-append (ChangeItem xid) cs (c ∷ []) in
      let last : Opened = record { items = map (ChangeItem xid) cs ++ ChangeItem xid c ∷ []; wants = None } in
      let made : having_made xid (cs ++ c ∷ []) ≡ last = λ i. record { items = items i; wants = None } in
      ap (λ (m : OpenOnes). record w { opened = m })
      (ap (finite.insert w.opened xid) made ∙ sym (put_again w.opened xid (having_made xid cs) last))

  -- one change more
  step_made : (cs : List Change) (c : Change) → HasNoClash schema (serial schema w.committed cs) c → Step schema (with_work w xid cs) (with_work w xid (cs ++ c ∷ []))
  step_made cs c clear = by (outcome schema (own_rows schema (with_work w xid cs) xid (having_made xid cs)) c) refl
    where
      at_rows : own_rows schema (with_work w xid cs) xid (having_made xid cs) ≡ serial schema w.committed cs
      at_rows = ap (serial schema w.committed) (work_made xid cs)

      there : get (with_work w xid cs).opened xid ≡ Some (having_made xid cs)
      there = got_same w.opened xid (having_made xid cs)

      by : (came : Outcome) → outcome schema (own_rows schema (with_work w xid cs) xid (having_made xid cs)) c ≡ came
          → Step schema (with_work w xid cs) (with_work w xid (cs ++ c ∷ []))
      by (Done edits) is = acts xid (having_made xid cs) xid c (Ok IsDone) (with_work w xid (cs ++ c ∷ [])) there (running, all_free cs _, (edits, is), one_more cs c)
      by Skip is = acts xid (having_made xid cs) xid c (Ok IsSkipped) (with_work w xid (cs ++ c ∷ [])) there (running, all_free cs _, is, one_more cs c)
      by (Clashes cause) is = absurd (clear cause (sym (ap (λ (rows : Rows). outcome schema rows c) at_rows) ∙ is))

  -- calls lead to the world in which it has made more changes, none of which clashes
  pub reach_made : (from : World) (cs ds : List Change) → Reaches schema from (with_work w xid cs) → AreAccepted schema (serial schema w.committed cs) ds
      → Reaches schema from (with_work w xid (cs ++ ds))
  reach_made from cs [] reached clear = subst (λ (es : List Change). Reaches schema from (with_work w xid es)) (sym (append-nil cs)) reached
  reach_made from cs (d ∷ ds) reached clear =
      subst (λ (es : List Change). Reaches schema from (with_work w xid es)) (append_assoc cs (d ∷ []) ds)
      (reach_made from (cs ++ d ∷ []) ds (by_step (with_work w xid cs) (with_work w xid (cs ++ d ∷ [])) reached (step_made cs d clear.0))
      (subst (λ (rows : Rows). AreAccepted schema rows ds) (sym (serial_last schema w.committed cs d)) clear.1))

  few : finite.len w.opened < 4096
  few = subst (λ (n : ℕ). n < 4096) (sym (ap (λ (m : OpenOnes). finite.len m) none ∙ len-empty nat_cmp Opened)) (omega arith)

  -- and to the one in which it is committed
  pub reach_committed : (cs : List Change) (info : CommitInfo) → AreAccepted schema w.committed cs → Reaches schema w (committed_by schema w xid cs info)
  reach_committed cs info clear =
      let opened : Reaches schema w (with_work w xid []) = by_step w (with_work w xid []) at_start (opens xid (Ok tt) (with_work w xid []) (running, absent xid, few, refl)) in
      by_step (with_work w xid cs) (committed_by schema w xid cs info) (reach_made w [] cs opened clear)
      (commits xid (having_made xid cs) info (committed_by schema w xid cs info) (got_same w.opened xid (having_made xid cs)) refl)

  -- none is open then
  pub none_after : (cs : List Change) (info : CommitInfo) → (committed_by schema w xid cs info).opened ≡ w.opened
  none_after cs info = removed_again w.opened xid (having_made xid cs) ∙ none_removed w.opened xid (absent xid)

pub fine_reached_from : (schema : Schema) (w : World) → IsFine schema w → (v : World) → Reaches schema w v → IsFine schema v
fine_reached_from schema w fine _ at_start = fine
fine_reached_from schema w fine _ (by_step v new before step) = fine_step schema v new (fine_reached_from schema w fine v before) step

-- the committed rows, and the journal, once it is committed
pub rows_committed : (schema : Schema) (w : World) (xid : ℕ) (cs : List Change) (info : CommitInfo) → (committed_by schema w xid cs info).committed ≡ serial schema w.committed cs
rows_committed schema w xid cs info = ap (serial schema w.committed) (work_made xid cs)

pub journal_committed : (schema : Schema) (w : World) (xid : ℕ) (cs : List Change) (info : CommitInfo)
    → journal (committed_by schema w xid cs info) ≡ journal w ++ record { xid = xid; changes = cs; commit = info.commit; end = info.end } ∷ []
journal_committed schema w xid cs info =
    map-append entry_of w.line (record { xid = xid; items = map (ChangeItem xid) cs; info = info } ∷ [])
    ∙ ap (λ (ds : List Change). journal w ++ record { xid = xid; changes = ds; commit = info.commit; end = info.end } ∷ []) (work_made xid cs)

-- the rows with more of the open work
pub rows_with : (s : Serial) (cs : List Change) → rows_now (with_changes s cs) ≡ serial s.store.schema (rows_now s) cs
rows_with s cs = serial_append s.store.schema s.store.world.committed s.changes cs

-- ---- a world in which no transaction is open

-- tables that are its committed rows are its live ones
kept_idle : (v : World) (t : Content) (records : ℕ → Option Record) → IsFine t.schema v → ((xid : ℕ) → get v.opened xid ≡ None) → v.opened ≡ finite.empty
    → t.rows ≡ v.committed → ((xid : ℕ) → records xid ≡ None) → RecordsRepresent t.schema t v records
kept_idle v t records fine absent none rows closed = record {
  schema_is = refl;
  fine = fine;
  live = live_by t.schema v fine t.rows [] (subst (λ (listed : List (ℕ × Opened)). Reordered [] listed) (sym (no_entries v.opened none)) same) rows;
  ready = λ xid o is. absurd (not_none o (sym (absent xid) ∙ is));
  closed = λ xid is. closed xid;
}

-- Of the live part only the tables are others: they are the committed rows of another world, in which none is open either.
pub tied_idle : (w : World) (l : Live) → LiveRepresents w l → w.opened ≡ finite.empty → (v : World) (t : Content) → v.opened ≡ w.opened → v.stopped ≡ w.stopped
    → IsFine t.schema v → t.rows ≡ v.committed → LiveRepresents v (record l { tables = t })
tied_idle w l tied none v t opened stopped fine rows = record {
  kept = kept_idle v t (records_in l.transactions) fine absent (opened ∙ none) rows (λ xid. tied.kept.closed xid (gone xid));
  beside = λ xid o kept is at. absurd (not_none o (sym (absent xid) ∙ is));
  count = ap (λ (m : OpenOnes). finite.len m) opened ∙ tied.count;
  stopped = tied.stopped ∙ sym stopped;
  caused = tied.caused;
  made = λ is. held_idle l.holds (tied.made is);
  lone = λ is.
      let lone = tied.lone is in
      record {
        would = lone.would;
        held = held_idle lone.would lone.held;
        only = λ xid other o p at too. absurd (not_none o (sym (absent xid) ∙ at));
        unmarked = lone.unmarked;
        named = λ xid r at. absurd (not_none r (sym (tied.kept.closed xid (gone xid)) ∙ at));
        none = lone.none;
      };
}
  where
    gone : (xid : ℕ) → get w.opened xid ≡ None
    gone xid = ap (λ (m : OpenOnes). get m xid) none ∙ get-empty nat_cmp xid

    absent : (xid : ℕ) → get v.opened xid ≡ None
    absent xid = ap (λ (m : OpenOnes). get m xid) opened ∙ gone xid

    held_idle : (held : LiveHolds) → AreHeld w l held → AreHeld v (record l { tables = t }) held
    held_idle held are = record {
      holds = record { its = λ xid o is. absurd (not_none o (sym (absent xid) ∙ is)); none = λ xid is. are.holds.none xid (gone xid) };
      marks = λ xid r at. absurd (not_none r (sym (tied.kept.closed xid (gone xid)) ∙ at));
      before_image = λ xid o r is at. absurd (not_none o (sym (absent xid) ∙ is));
    }

-- ---- a store in which no transaction is open

-- with its rows in other room
abbrev pub with_tables : Inside → Content → Inside
with_tables s t = record s { live = record s.live { tables = t } }

-- and with one more commit in its journal and its line
abbrev pub with_commit : Inside → Content → Vec Entry Global → Half LineEvent → Inside
with_commit s t j k = record s { live = record s.live { tables = t }; journal = j; line = k }

module _ (s : Inside) (is : Represents s) (none : s.book.lists ≡ finite.empty) where
  pub nobody_open : (world_in s).opened ≡ finite.empty
  nobody_open = ap opened_in none ∙ values_empty opened_by

  pub idle_rows : s.live.tables.rows ≡ (world_in s).committed
  idle_rows = live_alone s.live.tables.schema (world_in s) is.tied.kept.fine nobody_open s.live.tables.rows is.tied.kept.live

  unlisted : (xid : ℕ) → is_some (get s.book.lists xid) ≡ false
  unlisted xid = ap (λ (m : ListMap Event). is_some (get m xid)) none ∙ ap is_some (get-empty nat_cmp xid)

  none_kept : btree_map_len s.live.transactions ≡ 0
  none_kept = sym is.tied.count ∙ ap (λ (m : OpenOnes). finite.len m) nobody_open ∙ len-empty nat_cmp Opened

  module _ (t : Content) (schema : t.schema ≡ s.live.tables.schema) where
    still_fine : (v : World) → Reaches s.live.tables.schema (world_in s) v → IsFine t.schema v
    still_fine v reached = subst (λ (keys : Schema). IsFine keys v) (sym schema) (fine_reached_from s.live.tables.schema (world_in s) is.tied.kept.fine v reached)

    pub idle_with : t.rows ≡ s.live.tables.rows → (world_in (with_tables s t) ≡ world_in s) × Represents (with_tables s t)
    idle_with rows =
        let alike : world_in (with_tables s t) ≡ world_in s = ap (λ (keys : Schema). world_of keys (start_in s) s.line.list s.book.lists (told_stop s.live.stopped)) schema in (
          alike,
          record {
            tied = subst (λ (w : World). LiveRepresents w (record s.live { tables = t })) (sym alike)
                (tied_idle (world_in s) s.live is.tied nobody_open (world_in s) t refl refl (still_fine (world_in s) at_start) (rows ∙ idle_rows));
            told = is.told ∙ ap (λ (w : World). map entry_of w.line) (sym alike);
            room = is.room;
            rising = is.rising;
            before = subst (λ (keys : Schema). AreTakenBack keys (start_in s) s.journal.items) (sym schema) is.before;
            opened = is.opened;
          },
        )

    -- ---- with one transaction more that was committed

    module _ (runs : told_stop s.live.stopped ≡ None) (xid : ℕ) (cs : List Change) (info : CommitInfo) (j : Vec Entry Global) (k : Half LineEvent) (entry : Entry)
        (clear : AreAccepted s.live.tables.schema (world_in s).committed cs) (rows : t.rows ≡ serial s.live.tables.schema (world_in s).committed cs)
        (line : k ≡ record s.line { list = (s.line.list ++ WasOpened xid ∷ []) ++ WasCommitted xid (map (ChangeItem xid) cs) info ∷ [] })
        (items : j.items ≡ s.journal.items ++ entry ∷ []) (fits : vec_len j ≤ vec_capacity j)
        (tells : entry_in entry ≡ record { xid = xid; changes = cs; commit = info.commit; end = info.end })
        (back : all_back (serial s.live.tables.schema (world_in s).committed cs) (map edits_of entry.inverses.inverses) ≡ (world_in s).committed)
        (above : last_end (ends_in s.line.list) < info.end) where
      abbrev past : Past
      past = record { xid = xid; items = map (ChangeItem xid) cs; info = info }

      abbrev later : World
      later = committed_by s.live.tables.schema (world_in s) xid cs info

      abbrev opened_line : List LineEvent
      opened_line = s.line.list ++ WasOpened xid ∷ []

      listed : k.list ≡ opened_line ++ WasCommitted xid (map (ChangeItem xid) cs) info ∷ []
      listed = ap (λ (half : Half LineEvent). half.list) line

      told_commits : commits_in k.list ≡ commits_in s.line.list ++ past ∷ []
      told_commits =
          ap commits_in listed ∙ more_commits opened_line xid (map (ChangeItem xid) cs) info
          ∙ ap (λ (ps : List Past). ps ++ past ∷ []) (same_commits s.line.list (WasOpened xid) refl)

      told_rows : serial t.schema (start_in s) (told_entry.changes_in (commits_in k.list)) ≡ later.committed
      told_rows =
          ap (λ (keys : Schema). serial keys (start_in s) (told_entry.changes_in (commits_in k.list))) schema
          ∙ ap (λ (ps : List Past). serial s.live.tables.schema (start_in s) (told_entry.changes_in ps)) told_commits
          ∙ more_committed s.live.tables.schema (start_in s) (commits_in s.line.list) past

      told_world : world_in (with_commit s t j k) ≡ later
      told_world = λ i. record {
        start = (start_in s);
        committed = told_rows i;
        line = told_commits i;
        opened = sym (none_after s.live.tables.schema (world_in s) runs nobody_open xid cs info) i;
        stopped = told_stop s.live.stopped;
      }

      pub reaches_commit : Reaches s.live.tables.schema (world_in s) later
      reaches_commit = reach_committed s.live.tables.schema (world_in s) runs nobody_open xid cs info clear

      told_ends : ends_in k.list ≡ ends_in s.line.list ++ info.end ∷ []
      told_ends =
          ap ends_in listed ∙ ends_more opened_line xid (map (ChangeItem xid) cs) info
          ∙ ap (λ (ns : List ℕ). ns ++ info.end ∷ []) (ends_same s.line.list (WasOpened xid) refl)

      -- whoever is told to be open was so before, and none was
      closed_by : (here was : Bool) → was ≡ false → cond here false (cond here true was) ≡ false
      closed_by true was none_was = refl
      closed_by false was none_was = none_was

      told_open : (other : ℕ) → is_open_in k.list other ≡ is_some (get s.book.lists other)
      told_open other =
          ap (λ (l : List LineEvent). is_open_in l other) listed
          ∙ fold-append (open_after other) false opened_line (WasCommitted xid (map (ChangeItem xid) cs) info ∷ [])
          ∙ ap (λ (b : Bool). open_after other b (WasCommitted xid (map (ChangeItem xid) cs) info)) (fold-append (open_after other) false s.line.list (WasOpened xid ∷ []))
          ∙ closed_by (is_xid other xid) (is_open_in s.line.list other) (is.opened other ∙ unlisted other)
          ∙ sym (unlisted other)

      work_tells : entry_in entry ≡ entry_of past
      work_tells = tells ∙ (λ i. record { xid = xid; changes = sym (work_made xid cs) i; commit = info.commit; end = info.end })

      room_is : (len capacity kept : ℕ) → len ≤ capacity → kept ≡ 0 → len + kept ≤ capacity
      room_is len capacity kept less nothing = omega (arith, less, nothing)

      pub idle_committed : (world_in (with_commit s t j k) ≡ later) × Represents (with_commit s t j k)
      idle_committed = (
        told_world,
        record {
          tied = subst (λ (w : World). LiveRepresents w (record s.live { tables = t })) (sym told_world)
              (tied_idle (world_in s) s.live is.tied nobody_open later t (none_after s.live.tables.schema (world_in s) runs nobody_open xid cs info) refl
              (still_fine later reaches_commit) (rows ∙ ap (serial s.live.tables.schema (world_in s).committed) (sym (work_made xid cs))));
          told = ap (map entry_in) items ∙ map-append entry_in s.journal.items (entry ∷ [])
              ∙ (λ i. is.told i ++ work_tells i ∷ []) ∙ sym (map-append entry_of (world_in s).line (past ∷ [])) ∙ ap (λ (w : World). map entry_of w.line) (sym told_world);
          room = room_is (vec_len j) (vec_capacity j) (btree_map_len s.live.transactions) fits none_kept;
          rising = still_rising k.list (ends_in s.line.list ++ info.end ∷ []) told_ends (rise_more (ends_in s.line.list) 0 info.end is.rising above);
          before = subst (AreTakenBack t.schema (start_in s)) (sym items)
              (subst (λ (keys : Schema). AreTakenBack keys (start_in s) (s.journal.items ++ entry ∷ [])) (sym schema)
              (taken_back_more s.live.tables.schema (start_in s) s.journal.items entry is.before
              (subst (λ (r : Rows). all_back (serial s.live.tables.schema r entry.changes) (map edits_of entry.inverses.inverses) ≡ r) (store_serial s is)
              (ap (λ (e : told_entry.Entry). all_back (serial s.live.tables.schema (world_in s).committed e.changes) (map edits_of entry.inverses.inverses)) tells ∙ back))));
          opened = told_open;
        },
      )
