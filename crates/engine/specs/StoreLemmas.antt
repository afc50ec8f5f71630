-- What the type of a store keeps, once a call has altered its parts.
--     is_kept      a transaction that is open in the world is one that is kept
--     clash_there, stop_there      what a clash stopped stands for a world that it stopped; the caller is told so
--     absent_there, runs_there, runs_here      what is not kept is not open there; what runs stands for a world that runs, and so the other way
--     stands      so is the one of a list
--     still_before, still_rising      what the journal's entries keep where they are the same
--     store_grown      a transaction's list has more events
--     store_acted, store_tried, store_touched, store_done, store_adopted      those of a call that tried a change, that named a subtransaction; an
--         item; its last change is another subtransaction's
--     store_started      a store with nothing in its lists and no entries
--     store_opened, store_ended      a transaction opens; one ends
--     store_aborted, store_committed      it is aborted; it is committed, and the journal has its entry, for which there is room
--     store_serial, store_rising      the changes of the journal's entries make the committed rows, and their ends rise
--     store_rows_after      the rows after the first entries
use Rattle.std.proofs.Common.{◌≡◌, ℕ, zero, suc, ◌+◌, ◌-◌, ◌<◌, ◌≤◌, Vec, Global, Bool, true, false, List, [], ◌∷◌, ◌++◌, Option, Some, None, refl, sym, ap, subst, ◌∙◌, inl, inr, arith}
use Rattle.std.specs.Prelude.{Result, Ok, Err, cond, if◌then◌else◌, is_some, IsSome, IfSome, map, take, drop, option_map, vec_len, vec_capacity}
use Rattle.std.specs.List.Sorted.{IsStrictlyIncreasing}
use Rattle.std.specs.Ordering.{nat_cmp}
use Rattle.std.specs.Cmp.{nat_cmp_total}
use Rattle.std.specs.BTreeMap as tree
use Rattle.std.specs.BTreeMap.{btree_map_len}
use Rattle.std.specs.FinMap as finite
use Rattle.std.specs.FinMap.{FinMap, get}
use Rattle.std.proofs.lemmas.Bool.{false≢true}
use Rattle.std.proofs.lemmas.Grind.{fold-append}
use Rattle.std.proofs.lemmas.List.{map-append, take-map}
use Rattle.std.proofs.lemmas.Simd.{map-map}
use Rattle.model.specs.declared.change.Change as change_type
use Rattle.model.specs.declared.item.Item.{Item}
use Rattle.model.specs.declared.item.CommitInfo.{CommitInfo}
use Rattle.model.specs.ValidLemmas.{not_none}
use Rattle.model.specs.Rows.{Rows, Schema}
use Rattle.model.specs.Effect.{ClashCause, all_back, serial}
use Rattle.model.specs.Beginning.{last_end}
use Rattle.change.specs.declared.outcome.Clash as clash_type
use Rattle.change.specs.Inverse.{edits_of}
use Rattle.savepoint.specs.Record.{Record}
use Rattle.tokens.specs.Half.{Half}
use Rattle.tokens.specs.Lists.{ListMap, OpenLists, with_list, without_list}
use Rattle.world.specs.World as told_entry
use Rattle.world.specs.World.{Opened, Past, ByClash, World, starting, entry_of, journal, work, changes_in, is_xid}
use Rattle.world.specs.ListingLemmas.{xid_cases, got_same, got_other}
use Rattle.world.specs.Steps.{Fault, AlreadyOpen, Acted, IsDone, IsSkipped, Held, Clashed, opened_with, done_with, committed_with, aborted_with}
use Rattle.engine.specs.declared.events.Event.{Event}
use Rattle.engine.specs.declared.events.Event.TheVariants.{Done, Adopted}
use Rattle.engine.specs.declared.events.LineEvent.{LineEvent}
use Rattle.engine.specs.declared.events.LineEvent.TheVariants.{Opened as WasOpened, Committed as WasCommitted, Aborted as WasAborted}
use Rattle.engine.specs.declared.entry.Entry.{Entry}
use Rattle.engine.specs.declared.store.Store.TheInside.{Inside}
use Rattle.engine.specs.Events.{opened_by, opened_in, commits_in, ends_in, open_after, is_open_in, world_of, events_of, tried_events, touch_events}
use Rattle.engine.specs.EventLemmas.{get_values, values_empty, opened_stands, rise_more, ends_same, ends_more, world_done, world_adopted, world_acted, world_touched, world_opened, world_aborted, world_committed}
use Rattle.engine.specs.Engine.{entry_in, start_in, world_in, AreTakenBack, edits_behind, Represents}
use Rattle.engine.specs.EntryLemmas.{taken_back_more, rows_taken_back}
use Rattle.live_tables.specs.declared.live_tables.Live.{Live}
use Rattle.live_tables.specs.declared.live_tables.Stopped as stopped_type
use Rattle.live_tables.specs.declared.live_tables.Stopped.TheVariants.{Clash as StoppedByClash, Held as StoppedByHold}
use Rattle.live_tables.specs.declared.transaction.OpenTransaction.{OpenTransaction}
use Rattle.live_tables.specs.declared.answers.EngineFault.{EngineFault}
use Rattle.live_tables.specs.declared.answers.Verdict.{Verdict}
use Rattle.live_tables.specs.declared.answers.Verdict.TheVariants.{Acted as ActedVerdict, Clashes}
use Rattle.live_tables.specs.Adopting.{adopted_with}
use Rattle.live_tables.specs.Answers.{cause_of, stop_for, told, told_fault, told_stop, after_act, after_touch, stop_of, TellsWhatStopped, HasCause}
use Rattle.live_tables.specs.Journal.{rows_after}
use Rattle.live_tables.specs.JournalLemmas.{entries_are_serial}
use Rattle.live_tables.specs.Represents.{Represents as LiveRepresents}
use Rattle.live_tables.specs.Tried.{after_try}

-- a record that is there is kept of a transaction
kept_there : (found : Option OpenTransaction) (r : Record) → option_map (λ (k : OpenTransaction). k.record) found ≡ Some r → IsSome found
kept_there None r is = absurd (not_none r is)
kept_there (Some k) r is = refl

-- a transaction that is open in the world is one that is kept
pub is_kept : (w : World) (l : Live) → LiveRepresents w l → (xid : ℕ) (o : Opened) → get w.opened xid ≡ Some o → IsSome (tree.get nat_cmp l.transactions xid)
is_kept w l tied xid o is =
    let ready = tied.kept.ready xid o is in
    kept_there (tree.get nat_cmp l.transactions xid) ready.its ready.found

-- what runs stands for a world that runs
pub runs_there : (w : World) (l : Live) → LiveRepresents w l → is_some l.stopped ≡ false → w.stopped ≡ None
runs_there w l tied is = sym tied.stopped ∙ by l.stopped is
  where
    by : (found : Option stopped_type.Stopped) → is_some found ≡ false → told_stop found ≡ None
    by None none = refl
    by (Some stopped) none = absurd (false≢true (sym none))

-- what a clash stopped stands for a world that it stopped, with its cause
clash_there : (w : World) (l : Live) → LiveRepresents w l → (xid : ℕ) (c : change_type.Change) (clash : clash_type.Clash)
    → l.stopped ≡ Some (StoppedByClash xid c clash) → (cause : ClashCause) × (cause_of clash ≡ Some cause) × (w.stopped ≡ Some (ByClash xid c cause))
clash_there w l tied xid c clash is = by (cause_of clash) refl (subst (λ (found : Option stopped_type.Stopped). IfSome found HasCause) is tied.caused)
  where
    by : (found : Option ClashCause) → cause_of clash ≡ found → IsSome found → (cause : ClashCause) × (cause_of clash ≡ Some cause) × (w.stopped ≡ Some (ByClash xid c cause))
    by None at caused = absurd (false≢true caused)
    by (Some cause) at caused = (cause, at, sym tied.stopped ∙ ap told_stop is ∙ ap (stop_for xid c) at)

-- what stopped a store, as its caller is told it, is what stopped its world
pub stop_there : (w : World) (l : Live) → LiveRepresents w l → (found : stopped_type.Stopped) → l.stopped ≡ Some found → TellsWhatStopped (Some (stop_of found)) w.stopped
stop_there w l tied (StoppedByClash xid c clash) is =
    let told = clash_there w l tied xid c clash is in
    (c, told.0, told.1, told.2)
stop_there w l tied (StoppedByHold waiter holder) is = sym tied.stopped ∙ ap told_stop is

-- a store runs whose world does
pub runs_here : (w : World) (l : Live) → LiveRepresents w l → w.stopped ≡ None → l.stopped ≡ None
runs_here w l tied none = by l.stopped refl
  where
    never : (found : stopped_type.Stopped) → ¬ TellsWhatStopped (Some (stop_of found)) w.stopped
    never (StoppedByClash xid c clash) told = not_none _ (sym none ∙ told.3)
    never (StoppedByHold waiter holder) told = not_none _ (sym none ∙ told)

    by : (found : Option stopped_type.Stopped) → l.stopped ≡ found → found ≡ None
    by None at = refl
    by (Some found) at = absurd (never found (stop_there w l tied found at))

-- what is not kept is not open in the world
pub absent_there : (w : World) (l : Live) → LiveRepresents w l → (xid : ℕ) → is_some (tree.get nat_cmp l.transactions xid) ≡ false → get w.opened xid ≡ None
absent_there w l tied xid none = by (get w.opened xid) refl
  where
    by : (found : Option Opened) → get w.opened xid ≡ found → found ≡ None
    by None at = refl
    by (Some o) at = absurd (false≢true (sym none ∙ is_kept w l tied xid o at))

some_at : {X : Type 0} (o : Option X) (x : X) → o ≡ Some x → is_some o ≡ true
some_at o x is = ap is_some is

-- a map has as many entries once one of them is another
pub same_len : {X : Type 0} (m : FinMap nat_cmp X) (k : ℕ) (v w : X) → get m k ≡ Some v → finite.len (finite.insert m k w) ≡ finite.len m
same_len m k v w is = finite.len-insert nat_cmp_total m k w ∙ ap (λ b. cond b (finite.len m) (finite.len m + 1)) (some_at (get m k) v is)

fewer_fit : (entries old new capacity : ℕ) → old ≡ new → entries + old ≤ capacity → entries + new ≤ capacity
fewer_fit entries old new capacity same fits = subst (λ n. entries + n ≤ capacity) same fits

-- the same entries, whose changes are taken back under a schema that is the same
still_before : (schema later : Schema) (start : Rows) (entries same_entries : List Entry) → later ≡ schema → same_entries ≡ entries
    → AreTakenBack schema start entries → AreTakenBack later start same_entries
still_before schema later start entries same_entries same are before =
    subst (AreTakenBack later start) (sym are) (subst (λ (keys : Schema). AreTakenBack keys start entries) (sym same) before)

-- ends that rise, of a line that tells the same ones
pub still_rising : (line : List LineEvent) (ends : List ℕ) → ends_in line ≡ ends → IsStrictlyIncreasing (0 ∷ ends) → IsStrictlyIncreasing (0 ∷ ends_in line)
still_rising line ends same rising = subst (λ (ns : List ℕ). IsStrictlyIncreasing (0 ∷ ns)) (sym same) rising

-- a store whose live part and lists are others, with the same line, journal and start
abbrev pub with_parts : Inside → Live → OpenLists Event → Inside
with_parts s m b = record s { live = m; book = b }

module _ (s : Inside) (is : Represents s) (xid : ℕ) (events : List Event) (listed : get s.book.lists xid ≡ Some events) where
  -- it is open in the world
  pub stands : get (world_in s).opened xid ≡ Some (opened_by events)
  stands = opened_stands s.book.lists xid events listed

  -- the line tells who is open, once a list is longer
  still_told : (more : List Event) (other : ℕ) → is_some (get (finite.insert s.book.lists xid (events ++ more)) other) ≡ is_some (get s.book.lists other)
  still_told more other =
      elim (xid_cases other xid) [
        | inl at ↦ ap is_some (ap (get (finite.insert s.book.lists xid (events ++ more))) at ∙ got_same s.book.lists xid (events ++ more))
            ∙ sym (some_at (get s.book.lists other) events (ap (get s.book.lists) at ∙ listed))
        | inr apart ↦ ap is_some (got_other s.book.lists xid (events ++ more) other apart)
      ]

  -- The transaction's list has more events, and the live part is tied to the world that they tell.
  pub store_grown : (m : Live) (b : OpenLists Event) (more : List Event) (later : World) → m.tables.schema ≡ s.live.tables.schema
      → b ≡ with_list s.book xid (events ++ more) → LiveRepresents later m → finite.len later.opened ≡ finite.len (world_in s).opened
      → world_of s.live.tables.schema (start_in s) s.line.list (finite.insert s.book.lists xid (events ++ more)) (told_stop m.stopped) ≡ later
      → (world_in (with_parts s m b) ≡ later) × Represents (with_parts s m b)
  store_grown m b more later schema book tied count tells =
      let same : world_in (with_parts s m b) ≡ later =
      (λ i. world_of (schema i) (start_in s) s.line.list (book i).lists (told_stop m.stopped)) ∙ tells in (
        same,
        record {
          tied = subst (λ (w : World). LiveRepresents w m) (sym same) tied;
          told = is.told;
          room = fewer_fit (vec_len s.journal) (btree_map_len s.live.transactions) (btree_map_len m.transactions) (vec_capacity s.journal) (sym is.tied.count ∙ sym count ∙ tied.count) is.room;
          rising = is.rising;
          before = still_before s.live.tables.schema m.tables.schema (start_in s) s.journal.items s.journal.items schema refl is.before;
          opened = λ other. is.opened other ∙ sym (still_told more other) ∙ ap (λ (bs : OpenLists Event). is_some (get bs.lists other)) (sym book);
        },
      )

  -- a call that tried a change leaves as many open
  act_count : (sub : ℕ) (c : change_type.Change) (answer : Result Acted Fault)
      → finite.len (after_act (world_in s) xid (opened_by events) sub c answer).opened ≡ finite.len (world_in s).opened
  act_count sub c (Ok IsDone) = same_len (world_in s).opened xid (opened_by events) _ stands
  act_count sub c (Ok IsSkipped) = same_len (world_in s).opened xid (opened_by events) _ stands
  act_count sub c (Ok (Held holder)) = same_len (world_in s).opened xid (opened_by events) _ stands
  act_count sub c (Ok (Clashed cause)) = same_len (world_in s).opened xid (opened_by events) _ stands
  act_count sub c (Err fault) = refl

  -- A call tried a change, and what came of it is in its transaction's list.
  pub store_acted : (m : Live) (b : OpenLists Event) (sub : ℕ) (c : change_type.Change) (answer : Result Acted Fault)
      → m.tables.schema ≡ s.live.tables.schema → b ≡ with_list s.book xid (events ++ events_of sub c answer)
      → LiveRepresents (after_act (world_in s) xid (opened_by events) sub c answer) m
      → (world_in (with_parts s m b) ≡ after_act (world_in s) xid (opened_by events) sub c answer) × Represents (with_parts s m b)
  store_acted m b sub c answer schema book tied =
      store_grown m b (events_of sub c answer) (after_act (world_in s) xid (opened_by events) sub c answer) schema book tied (act_count sub c answer)
      (world_acted s.live.tables.schema (start_in s) s.line.list s.book.lists xid events listed (told_stop s.live.stopped) (told_stop m.stopped) sub c answer tied.stopped)

  -- the same, where a clash is told alone, which alters nothing
  pub store_tried : (m : Live) (b : OpenLists Event) (sub : ℕ) (c : change_type.Change) (answer : Result Verdict EngineFault)
      → m.tables.schema ≡ s.live.tables.schema → b ≡ with_list s.book xid (events ++ tried_events sub c answer)
      → LiveRepresents (after_try (world_in s) xid (opened_by events) sub c answer) m
      → (world_in (with_parts s m b) ≡ after_try (world_in s) xid (opened_by events) sub c answer) × Represents (with_parts s m b)
  store_tried m b sub c (Ok (ActedVerdict acted)) = store_acted m b sub c (told (Ok acted))
  store_tried m b sub c (Ok (Clashes clash)) = store_acted m b sub c (Err AlreadyOpen)
  store_tried m b sub c (Err fault) = store_acted m b sub c (Err (told_fault fault))

  -- a call that named a subtransaction stops nothing
  touch_runs : (sub : ℕ) (answer : Result (Unit {0}) Fault) → (after_touch (world_in s) xid (opened_by events) sub answer).stopped ≡ (world_in s).stopped
  touch_runs sub (Ok u) = refl
  touch_runs sub (Err fault) = refl

  -- and leaves as many open
  touch_count : (sub : ℕ) (answer : Result (Unit {0}) Fault)
      → finite.len (after_touch (world_in s) xid (opened_by events) sub answer).opened ≡ finite.len (world_in s).opened
  touch_count sub (Ok u) = same_len (world_in s).opened xid (opened_by events) _ stands
  touch_count sub (Err fault) = refl

  -- A call named a subtransaction, and what came of it is in its transaction's list.
  pub store_touched : (m : Live) (b : OpenLists Event) (sub : ℕ) (answer : Result (Unit {0}) Fault)
      → m.tables.schema ≡ s.live.tables.schema → b ≡ with_list s.book xid (events ++ touch_events sub answer)
      → LiveRepresents (after_touch (world_in s) xid (opened_by events) sub answer) m
      → (world_in (with_parts s m b) ≡ after_touch (world_in s) xid (opened_by events) sub answer) × Represents (with_parts s m b)
  store_touched m b sub answer schema book tied =
      store_grown m b (touch_events sub answer) (after_touch (world_in s) xid (opened_by events) sub answer) schema book tied (touch_count sub answer)
      (world_touched s.live.tables.schema (start_in s) s.line.list s.book.lists xid events listed (told_stop s.live.stopped) (told_stop m.stopped) sub answer (tied.stopped ∙ touch_runs sub answer))

  -- An item is in its transaction's list.
  pub store_done : (m : Live) (b : OpenLists Event) (item : Item)
      → m.tables.schema ≡ s.live.tables.schema → b ≡ with_list s.book xid (events ++ Done item ∷ [])
      → LiveRepresents (done_with (world_in s) xid (opened_by events) item) m
      → (world_in (with_parts s m b) ≡ done_with (world_in s) xid (opened_by events) item) × Represents (with_parts s m b)
  store_done m b item schema book tied =
      store_grown m b (Done item ∷ []) (done_with (world_in s) xid (opened_by events) item) schema book tied (same_len (world_in s).opened xid (opened_by events) _ stands)
      (ap (world_of s.live.tables.schema (start_in s) s.line.list (finite.insert s.book.lists xid (events ++ Done item ∷ []))) tied.stopped
      ∙ world_done s.live.tables.schema (start_in s) s.line.list s.book.lists xid events listed (told_stop s.live.stopped) item)

  -- A subtransaction has adopted its transaction's last change.
  pub store_adopted : (m : Live) (b : OpenLists Event) (sub : ℕ)
      → m.tables.schema ≡ s.live.tables.schema → b ≡ with_list s.book xid (events ++ Adopted sub ∷ [])
      → LiveRepresents (adopted_with (world_in s) xid (opened_by events) sub) m
      → (world_in (with_parts s m b) ≡ adopted_with (world_in s) xid (opened_by events) sub) × Represents (with_parts s m b)
  store_adopted m b sub schema book tied =
      store_grown m b (Adopted sub ∷ []) (adopted_with (world_in s) xid (opened_by events) sub) schema book tied (same_len (world_in s).opened xid (opened_by events) _ stands)
      (ap (world_of s.live.tables.schema (start_in s) s.line.list (finite.insert s.book.lists xid (events ++ Adopted sub ∷ []))) tied.stopped
      ∙ world_adopted s.live.tables.schema (start_in s) s.line.list s.book.lists xid events listed (told_stop s.live.stopped) sub)

-- ---- a new store

no_room : (entries opened kept capacity : ℕ) → entries ≡ 0 → opened ≡ 0 → opened ≡ kept → entries + kept ≤ capacity
no_room entries opened kept capacity none closed same = omega (arith, none, closed, same)

-- A store with nothing in its lists and no entries stands for the starting world.
pub store_started : (s : Inside) (rows : Rows) → LiveRepresents (starting rows) s.live → start_in s ≡ rows
    → s.line.list ≡ [] → s.book.lists ≡ finite.empty → s.journal.items ≡ [] → vec_len s.journal ≡ 0
    → (world_in s ≡ starting rows) × Represents s
store_started s rows tied rows_are line lists items len =
    let same : world_in s ≡ starting rows =
    (λ i. world_of s.live.tables.schema (rows_are i) (line i) (lists i) (tied.stopped i)) ∙ (λ i. record (starting rows) { opened = values_empty opened_by i }) in (
      same,
      record {
        tied = subst (λ (w : World). LiveRepresents w s.live) (sym same) tied;
        told = ap (map entry_in) items ∙ ap journal (sym same);
        room = no_room (vec_len s.journal) (finite.len (starting rows).opened) (btree_map_len s.live.transactions) (vec_capacity s.journal) len (finite.len-empty nat_cmp Opened) tied.count;
        rising = still_rising s.line.list [] (ap (λ (events : List LineEvent). ends_in events) line) (λ k within. absurd (omega (arith, within)));
        before = subst (AreTakenBack s.live.tables.schema (start_in s)) (sym items) tt;
        opened = λ xid.
            ap (λ (events : List LineEvent). is_open_in events xid) line ∙ sym (ap is_some (finite.get-empty nat_cmp xid))
            ∙ ap (λ (found : ListMap Event). is_some (get found xid)) (sym lists);
      },
    )

-- ---- a transaction opens

-- whether something is there once a map has one entry more, and one less
there_more : {X : Type 0} (m : FinMap nat_cmp X) (k : ℕ) (x : X) (q : ℕ) → is_some (get (finite.insert m k x) q) ≡ (if is_xid q k then true else is_some (get m q))
there_more m k x q = ap is_some (finite.get-insert nat_cmp_total m k x q) ∙ by (is_xid q k)
  where
    by : (b : Bool) → is_some (cond b (Some x) (get m q)) ≡ (if b then true else is_some (get m q))
    by true = refl
    by false = refl

there_less : {X : Type 0} (m : FinMap nat_cmp X) (k q : ℕ) → is_some (get (finite.remove m k) q) ≡ (if is_xid q k then false else is_some (get m q))
there_less m k q = ap is_some (finite.get-remove nat_cmp_total m k q) ∙ by (is_xid q k)
  where
    by : (b : Bool) → is_some (cond b None (get m q)) ≡ (if b then false else is_some (get m q))
    by true = refl
    by false = refl

-- who is open, once the line has one more event
open_more : (line : List LineEvent) (e : LineEvent) (q : ℕ) → is_open_in (line ++ e ∷ []) q ≡ open_after q (is_open_in line q) e
open_more line e q = fold-append (open_after q) false line (e ∷ [])

-- what the world has none of, no list has
pub no_list : (lists : ListMap Event) (xid : ℕ) → get (opened_in lists) xid ≡ None → get lists xid ≡ None
no_list lists xid none = by (get lists xid) (sym (get_values opened_by lists xid) ∙ none)
  where
    by : (found : Option (List Event)) → option_map opened_by found ≡ None → found ≡ None
    by None is = refl
    by (Some events) is = absurd (not_none (opened_by events) (sym is))

-- a map has one entry more
one_more : {X : Type 0} (m : FinMap nat_cmp X) (k : ℕ) (v : X) → get m k ≡ None → finite.len (finite.insert m k v) ≡ finite.len m + 1
one_more m k v none = finite.len-insert nat_cmp_total m k v ∙ ap (λ b. cond b (finite.len m) (finite.len m + 1)) (ap is_some none)

-- and one less
one_less : {X : Type 0} (m : FinMap nat_cmp X) (k : ℕ) (v : X) → get m k ≡ Some v → finite.len (finite.remove m k) ≡ finite.len m - 1
one_less m k v is = finite.len-remove nat_cmp_total m k ∙ ap (λ b. cond b (finite.len m - 1) (finite.len m)) (ap is_some is)

module _ (s : Inside) (is : Represents s) (xid : ℕ) (absent : get (world_in s).opened xid ≡ None) where
  -- A transaction opens.
  pub store_opened : (m : Live) (j : Vec Entry Global) (b : OpenLists Event) (k : Half LineEvent)
      → m.tables.schema ≡ s.live.tables.schema → b ≡ with_list s.book xid [] → k ≡ record s.line { list = s.line.list ++ WasOpened xid ∷ [] }
      → LiveRepresents (opened_with (world_in s) xid) m → j.items ≡ s.journal.items
      → vec_len j + (btree_map_len s.live.transactions + 1) ≤ vec_capacity j
      → let t = record s { live = m; journal = j; book = b; line = k } in (world_in t ≡ opened_with (world_in s) xid) × Represents t
  store_opened m j b k schema book line tied journal_same room =
      let same : world_in (record s { live = m; journal = j; book = b; line = k }) ≡ opened_with (world_in s) xid =
      (λ i. world_of (schema i) (start_in s) (line i).list (book i).lists (tied.stopped i))
      ∙ world_opened s.live.tables.schema (start_in s) s.line.list s.book.lists (told_stop s.live.stopped) xid in (
        same,
        record {
          tied = subst (λ (w : World). LiveRepresents w m) (sym same) tied;
          told = ap (map entry_in) journal_same ∙ is.told ∙ ap journal (sym same);
          room = fewer_fit (vec_len j) (btree_map_len s.live.transactions + 1) (btree_map_len m.transactions) (vec_capacity j)
              (ap (λ n. n + 1) (sym is.tied.count) ∙ sym (one_more (world_in s).opened xid _ absent) ∙ tied.count) room;
          rising = still_rising k.list (ends_in s.line.list) (ap (λ (h : Half LineEvent). ends_in h.list) line ∙ ends_same s.line.list (WasOpened xid) refl) is.rising;
          before = still_before s.live.tables.schema m.tables.schema (start_in s) s.journal.items j.items schema journal_same is.before;
          opened = λ other.
              ap (λ (h : Half LineEvent). is_open_in h.list other) line ∙ open_more s.line.list (WasOpened xid) other
              ∙ ap (λ b. if is_xid other xid then true else b) (is.opened other) ∙ sym (there_more s.book.lists xid [] other)
              ∙ ap (λ (bs : OpenLists Event). is_some (get bs.lists other)) (sym book);
        },
      )

-- the committed rows are those at the start with the changes of the journal's entries
pub store_serial : (s : Inside) → Represents s → (world_in s).committed ≡ rows_after s.live.tables.schema (start_in s) (map entry_in s.journal.items)
store_serial s is =
    sym (ap (rows_after s.live.tables.schema (start_in s)) is.told ∙ entries_are_serial s.live.tables.schema (start_in s) (commits_in s.line.list))

-- ---- a transaction ends

-- a map that has something is not empty
some_len : {X : Type 0} (m : FinMap nat_cmp X) (k : ℕ) (v : X) → get m k ≡ Some v → 1 ≤ finite.len m
some_len {X = X} m k v is = by (finite.len m) refl
  where
    by : (n : ℕ) → finite.len m ≡ n → 1 ≤ finite.len m
    by zero e = absurd (not_none v (sym (sym is ∙ ap (λ (n : FinMap nat_cmp X). get n k) (finite.empty_of_len m e) ∙ finite.get-empty nat_cmp k)))
    by (suc n) e = omega (arith, e)

less_by_one : (all kept were : ℕ) → all ≡ were → kept ≡ all - 1 → 1 ≤ all → kept + 1 ≡ were
less_by_one all kept were one two some = omega (arith, one, two, some)

one_fits : (all entries kept capacity : ℕ) → all ≡ kept → 1 ≤ all → entries + kept ≤ capacity → entries < capacity
one_fits all entries kept capacity same some fits = omega (arith, same, some, fits)

less_fit : (entries kept were capacity : ℕ) → kept + 1 ≡ were → entries + were ≤ capacity → entries + kept ≤ capacity
less_fit entries kept were capacity less fits = omega (arith, less, fits)

more_less_fit : (entries more kept were capacity wide : ℕ) → more ≡ entries + 1 → wide ≡ capacity → kept + 1 ≡ were → entries + were ≤ capacity → more + kept ≤ wide
more_less_fit entries more kept were capacity wide one same less fits = omega (arith, one, same, less, fits)

module _ (s : Inside) (is : Represents s) (xid : ℕ) (events : List Event) (listed : get s.book.lists xid ≡ Some events) where
  -- A transaction ends: its list goes, and the line has one event more.
  pub store_ended : (m : Live) (j : Vec Entry Global) (b : OpenLists Event) (k : Half LineEvent) (e : LineEvent) (later : World)
      → m.tables.schema ≡ s.live.tables.schema → b ≡ without_list s.book xid → k ≡ record s.line { list = s.line.list ++ e ∷ [] }
      → ((q : ℕ) (was : Bool) → open_after q was e ≡ (if is_xid q xid then false else was))
      → LiveRepresents later m → later.opened ≡ finite.remove (world_in s).opened xid
      → world_of s.live.tables.schema (start_in s) (s.line.list ++ e ∷ []) (finite.remove s.book.lists xid) (told_stop m.stopped) ≡ later
      → map entry_in j.items ≡ journal later → vec_len j + btree_map_len m.transactions ≤ vec_capacity j
      → IsStrictlyIncreasing (0 ∷ ends_in (s.line.list ++ e ∷ [])) → AreTakenBack m.tables.schema (start_in s) j.items
      → let t = record s { live = m; journal = j; book = b; line = k } in (world_in t ≡ later) × Represents t
  store_ended m j b k e later schema book line ends tied gone tells told room rising before =
      let same : world_in (record s { live = m; journal = j; book = b; line = k }) ≡ later =
      (λ i. world_of (schema i) (start_in s) (line i).list (book i).lists (told_stop m.stopped)) ∙ tells in (
        same,
        record {
          tied = subst (λ (w : World). LiveRepresents w m) (sym same) tied;
          told = told ∙ ap journal (sym same);
          room = room;
          rising = still_rising k.list (ends_in (s.line.list ++ e ∷ [])) (ap (λ (h : Half LineEvent). ends_in h.list) line) rising;
          before = before;
          opened = λ other.
              ap (λ (h : Half LineEvent). is_open_in h.list other) line ∙ open_more s.line.list e other ∙ ends other (is_open_in s.line.list other)
              ∙ ap (λ b. if is_xid other xid then false else b) (is.opened other) ∙ sym (there_less s.book.lists xid other)
              ∙ ap (λ (bs : OpenLists Event). is_some (get bs.lists other)) (sym book);
        },
      )

  -- one transaction less is kept
  pub one_kept_less : (m : Live) (later : World) → LiveRepresents later m → later.opened ≡ finite.remove (world_in s).opened xid
      → (btree_map_len m.transactions + 1 ≡ btree_map_len s.live.transactions)
  one_kept_less m later tied gone =
      less_by_one (finite.len (world_in s).opened) (btree_map_len m.transactions) (btree_map_len s.live.transactions) is.tied.count
      (sym tied.count ∙ ap finite.len gone ∙ one_less (world_in s).opened xid (opened_by events) (stands s is xid events listed))
      (some_len (world_in s).opened xid (opened_by events) (stands s is xid events listed))

  -- the journal has room for its entry
  pub has_room : vec_len s.journal < vec_capacity s.journal
  has_room =
      one_fits (finite.len (world_in s).opened) (vec_len s.journal) (btree_map_len s.live.transactions) (vec_capacity s.journal) is.tied.count
      (some_len (world_in s).opened xid (opened_by events) (stands s is xid events listed)) is.room

  -- It is aborted.
  pub store_aborted : (m : Live) (b : OpenLists Event) (k : Half LineEvent)
      → m.tables.schema ≡ s.live.tables.schema → b ≡ without_list s.book xid → k ≡ record s.line { list = s.line.list ++ WasAborted xid ∷ [] }
      → LiveRepresents (aborted_with (world_in s) xid) m
      → let t = record s { live = m; book = b; line = k } in (world_in t ≡ aborted_with (world_in s) xid) × Represents t
  store_aborted m b k schema book line tied =
      store_ended m s.journal b k (WasAborted xid) (aborted_with (world_in s) xid) schema book line (λ q was. refl) tied refl
      (ap (world_of s.live.tables.schema (start_in s) (s.line.list ++ WasAborted xid ∷ []) (finite.remove s.book.lists xid)) tied.stopped
      ∙ world_aborted s.live.tables.schema (start_in s) s.line.list s.book.lists (told_stop s.live.stopped) xid)
      is.told
      (less_fit (vec_len s.journal) (btree_map_len m.transactions) (btree_map_len s.live.transactions) (vec_capacity s.journal)
      (one_kept_less m (aborted_with (world_in s) xid) tied refl) is.room)
      (still_rising (s.line.list ++ WasAborted xid ∷ []) (ends_in s.line.list) (ends_same s.line.list (WasAborted xid) refl) is.rising)
      (still_before s.live.tables.schema m.tables.schema (start_in s) s.journal.items s.journal.items schema refl is.before)

  -- It is committed, and its entry is in the journal.
  pub store_committed : (m : Live) (j : Vec Entry Global) (b : OpenLists Event) (k : Half LineEvent) (info : CommitInfo) (entry : Entry)
      → m.tables.schema ≡ s.live.tables.schema → b ≡ without_list s.book xid
      → k ≡ record s.line { list = s.line.list ++ WasCommitted xid (opened_by events).items info ∷ [] }
      → LiveRepresents (committed_with s.live.tables.schema (world_in s) xid (opened_by events) info) m
      → j.items ≡ s.journal.items ++ entry ∷ [] → vec_len j ≡ vec_len s.journal + 1 → vec_capacity j ≡ vec_capacity s.journal
      → entry_in entry ≡ entry_of (record { xid = xid; items = (opened_by events).items; info = info }) → last_end (ends_in s.line.list) < info.end
      → all_back (serial s.live.tables.schema (world_in s).committed (work xid (opened_by events))) (map edits_of entry.inverses.inverses) ≡ (world_in s).committed
      → let t = record s { live = m; journal = j; book = b; line = k } in
      (world_in t ≡ committed_with s.live.tables.schema (world_in s) xid (opened_by events) info) × Represents t
  store_committed m j b k info entry schema book line tied items len capacity entry_is above back =
      let later : World = committed_with s.live.tables.schema (world_in s) xid (opened_by events) info in
      let past : Past = record { xid = xid; items = (opened_by events).items; info = info } in
      store_ended m j b k (WasCommitted xid (opened_by events).items info) later schema book line (λ q was. refl) tied refl
      (ap (world_of s.live.tables.schema (start_in s) (s.line.list ++ WasCommitted xid (opened_by events).items info ∷ []) (finite.remove s.book.lists xid)) tied.stopped
      ∙ world_committed s.live.tables.schema (start_in s) s.line.list s.book.lists (told_stop s.live.stopped) xid events info)
      (ap (map entry_in) items ∙ map-append entry_in s.journal.items (entry ∷ []) ∙ (λ i. is.told i ++ entry_is i ∷ [])
      ∙ sym (map-append entry_of (world_in s).line (past ∷ [])))
      (more_less_fit (vec_len s.journal) (vec_len j) (btree_map_len m.transactions) (btree_map_len s.live.transactions) (vec_capacity s.journal) (vec_capacity j)
      len capacity (one_kept_less m later tied refl) is.room)
      (still_rising (s.line.list ++ WasCommitted xid (opened_by events).items info ∷ []) (ends_in s.line.list ++ info.end ∷ [])
      (ends_more s.line.list xid (opened_by events).items info) (rise_more (ends_in s.line.list) 0 info.end is.rising above))
      (still_before s.live.tables.schema m.tables.schema (start_in s) (s.journal.items ++ entry ∷ []) j.items schema items
      (taken_back_more s.live.tables.schema (start_in s) s.journal.items entry is.before
      (subst (λ (r : Rows). all_back (serial s.live.tables.schema r entry.changes) (map edits_of entry.inverses.inverses) ≡ r) (store_serial s is)
      (ap (λ (e : told_entry.Entry). all_back (serial s.live.tables.schema (world_in s).committed e.changes) (map edits_of entry.inverses.inverses)) entry_is ∙ back))))

-- ---- what a store tells of its journal

module _ (s : Inside) (is : Represents s) where
  -- the ends of its entries rise
  pub store_rising : IsStrictlyIncreasing (0 ∷ map (λ (e : Entry). e.end) s.journal.items)
  store_rising =
      let ends : map (λ (e : Entry). e.end) s.journal.items ≡ ends_in s.line.list =
      sym (map-map (λ (e : told_entry.Entry). e.end) entry_in s.journal.items) ∙ ap (map (λ (e : told_entry.Entry). e.end)) is.told
      ∙ map-map (λ (e : told_entry.Entry). e.end) entry_of (commits_in s.line.list) in
      subst (λ (ns : List ℕ). IsStrictlyIncreasing (0 ∷ ns)) (sym ends) is.rising

  -- the rows after the first of them: those that are committed, with what the others keep put back
  pub store_rows_after : (count : ℕ)
      → serial s.live.tables.schema (start_in s) (changes_in (take count (commits_in s.line.list))) ≡ all_back (world_in s).committed (edits_behind (drop count s.journal.items))
  store_rows_after count =
      sym (entries_are_serial s.live.tables.schema (start_in s) (take count (commits_in s.line.list)))
      ∙ ap (rows_after s.live.tables.schema (start_in s)) (sym (take-map entry_of count (commits_in s.line.list)) ∙ ap (take count) (sym is.told) ∙ take-map entry_in count s.journal.items)
      ∙ rows_taken_back s.live.tables.schema (start_in s) s.journal.items count is.before
      ∙ ap (λ (r : Rows). all_back r (edits_behind (drop count s.journal.items))) (sym (store_serial s is))
