-- What a run with workers leaves, by what ended it.
--     over_led, nothing_read      a run is over, by what its leader knows; before a byte is read
--     over_places      there is a place for each worker then
--     refused_end      where want of memory was proposed, that is the end
--     has_left      its leader has ended it
--     shut_at_start      what is left of a store before its first call
--     left_run, none_run      what is left is a run's
--     runs_by      a run by so many workers, beside so many watchers
use Rattle.std.proofs.Common.{◌≡◌, ℕ, zero, suc, ◌+◌, ◌<◌, List, [], ◌∷◌, ◌++◌, Option, Some, None, refl, sym, ap, subst, ◌∙◌, append-nil, arith, inl, inr}
use Rattle.std.specs.Prelude.{map, option_map, All, ◌⊎◌}
use Rattle.std.specs.Ordering.{nat_cmp}
use Rattle.std.specs.FinMap as finite
use Rattle.std.proofs.KnownBytes.{Appends-nil}
use Rattle.model.specs.Rows.{Rows, Schema, IsValid}
use Rattle.model.specs.Effect.{serial}
use Rattle.model.specs.Definition.{Definition}
use Rattle.frames.specs.declared.fault.FrameFault.TheVariants as frames
use Rattle.frames.specs.declared.item.CopyItem.{CopyItem}
use Rattle.world.specs.World.{World, Past, entry_of, starting, changes_in as changes_of}
use Rattle.world.specs.Steps.{Closes}
use Rattle.world_parts.specs.Led.{IsLed}
use Rattle.world_parts.specs.LedLemmas.{led_start}
use Rattle.engine.specs.declared.entry.Entry.{Entry}
use Rattle.engine.specs.declared.events.LineEvent.{LineEvent}
use Rattle.engine.specs.Engine.{entry_in}
use Rattle.engine.specs.Events.{commits_in}
use Rattle.live_tables.specs.Journal.{rows_after}
use Rattle.live_tables.specs.JournalLemmas.{entries_are_serial}
use Rattle.session.specs.State.{State, Setting, start}
use Rattle.run.specs.Settings.{setting_of}
use Rattle.run.specs.declared.end.End.{End}
use Rattle.run.specs.declared.end.End.TheVariants as ends
use Rattle.run.specs.declared.outcome.Config.{Config}
use Rattle.run.specs.declared.outcome.Outcome.{Outcome}
use Rattle.run.specs.Cause.{schema_of, IsSendCause, IsInputCause}
use Rattle.run.specs.Commits.{commits, changes_of_entries, committed_changes, commit_ends}
use Rattle.model.specs.Beginning.{last_end}
use Rattle.run.specs.Devices.{DeviceState}
use Rattle.run.specs.Handler.{IsEnded, IsRunOver}
use Rattle.run.specs.Progress.{Progress, start_progress}
use Rattle.run.specs.StreamPart.{StreamPart}
use Rattle.run.proofs.Running.{nothing_handled}
use Rattle.run_laws.specs.Threads.{done_by_commit}
use Rattle.run_laws.specs.ThreadedRun.{IsThreadedCause, IsThreadedRun}
use Rattle.run_laws.proofs.Closing.{closed}
use Rattle.run_laws.proofs.Threading.{entries_done, ends_done, changes_told}
use Rattle.parted_store.specs.Lent.{OpenTicket}
use Rattle.table_locks.specs.Noted.{IsNoted}
use Rattle.dispatch.specs.Handle.{HandleModel, IsHome, AreCounted}
use Rattle.dispatch.specs.Standing.{own_by, goes_by, holds_in, KeepsGiven}
use Rattle.leader.specs.Threads.{Led, HasCommitted, HasPlaces, Represents, AreOpenAtEnd, MayEndBy, HasLedTo}
use Rattle.leader.specs.Decided.{IsDecided}
use Rattle.leader.specs.Ending.{Hand, HasFinished, AreInHand, AreGiven}
use Rattle.leader.specs.WithWorkers.{WasSent, LeavesLine, IsShutSo, IsRunByWorkers, RunsBy}
use Rattle.leader.proofs.Held.{is_world_of, is_cause}
use Rattle.leader.proofs.InHand.{in_hand, are_given}
use Rattle.leader.proofs.Serving.{all_held}

-- ---- the leader

module _ {H : Type 0} (of : H → Led) (g : Setting) (rows : Rows) where
  -- a run is over, by what its leader knows
  pub over_led : (old new : DeviceState) (h : H) (end : End)
      → IsRunOver g (λ h p. Represents g rows (of h) p) (λ h handled p rest end. HasLedTo g rows (of h) handled p rest end) old new h end
      → IsRunOver g (Represents g rows) (HasLedTo g rows) old new (of h) end
  over_led old new h end over = record {
    part = over.part;
    why = elim over.why [ inl item ↦ inl (record { ended = item.ended; well = item.well }) | inr other ↦ inr other ];
  }

-- it is over before a byte is read
pub nothing_read : (g : Setting) (rows : Rows) (devices : DeviceState) (l : Led) → Represents g rows l start_progress
    → IsRunOver g (Represents g rows) (HasLedTo g rows) devices devices l ends.OutOfMemory
nothing_read g rows devices l at = record {
  part = nothing_handled g devices;
  why = inl (record {
    ended = (at.committed, (λ e. cc), all_held g start [] l.standing at.agreed, tt, at.places);
    well = record { read = refl; sent = (refl, Appends-nil devices.sent) };
  });
}

-- where it is over there is a place for each worker of the run
pub over_places : (g : Setting) (rows : Rows) (old new : DeviceState) (l : Led) (end : End) → IsRunOver g (Represents g rows) (HasLedTo g rows) old new l end → HasPlaces g l
over_places g rows old new l end over = elim over.why [ inl item ↦ item.ended.4 | inr other ↦ other.0.places ]

-- where want of memory was proposed, that is the end
pub refused_end : (schema : Schema) (rows : Rows) (line : List LineEvent) (hand : Hand) (given : List (ℕ × ℕ)) (proposed end : End)
    → HasFinished schema rows line hand given proposed end → proposed ≡ ends.OutOfMemory → end ≡ ends.OutOfMemory
refused_end schema rows line hand given proposed end finished refused =
    subst (λ (p : End). IsDecided schema finished.world (IsNoted finished.world) given p end) refused finished.decided

-- what follows from why a run is over: its commits, what was sent, and that a clean end leaves no item
module _ (g : Setting) (rows : Rows) (old new : DeviceState) (l : Led) (part : StreamPart g old new) where
  abbrev Follows : End → Type 0
  Follows end = HasCommitted l part.progress.state × WasSent part × (end ≡ ends.Clean → part.rest ≡ [])

  by_item : (end : End) → IsEnded g (Represents g rows) (HasLedTo g rows) l part end → Follows end
  by_item end why = (why.ended.0, inl why.well.sent, λ clean. absurd (why.ended.1 clean))

  by_send : (end : End) → HasCommitted l part.progress.state → IsSendCause part end → Follows end
  by_send (ends.Frame frames.Device) committed why = (committed, inr why.cut, λ clean. cc)
  by_send ends.OutOfMemory committed why = (committed, inr why.cut, λ clean. cc)
  by_send end committed why = absurd why

  by_input : (end : End) → HasCommitted l part.progress.state → IsInputCause part end → Follows end
  by_input ends.Clean committed why = (committed, inl why.well.sent, λ clean. why.all_handled)
  by_input (ends.Frame frames.Device) committed why = (committed, inl why.sent, λ clean. why.all_handled)
  by_input (ends.Frame f) committed why = (committed, inl why.well.sent, λ clean. why.all_handled)
  by_input ends.OutOfMemory committed why = (committed, inl why.sent, λ clean. cc)
  by_input end committed why = absurd why

  leaves : (end : End)
      → IsEnded g (Represents g rows) (HasLedTo g rows) l part end
      ⊎ (Represents g rows l part.progress × (IsSendCause part end ⊎ IsInputCause part end))
      → Follows end
  leaves end (inl why) = by_item end why
  leaves end (inr (at, inl why)) = by_send end at.committed why
  leaves end (inr (at, inr why)) = by_input end at.committed why

-- Its open transactions were in hand, and the end was decided: the leader has ended it.
module _ (g : Setting) (rows : Rows) (old new : DeviceState) (l : Led) (proposed end : End) (over : IsRunOver g (Represents g rows) (HasLedTo g rows) old new l proposed)
    (valid : IsValid (schema_of g) rows) (begun : Option (OpenTicket)) (workers : List HandleModel) (given : List (ℕ × ℕ))
    (begun_is : option_map own_by begun ≡ l.standing.begun) (workers_are : map goes_by workers ≡ l.standing.workers) (home : All IsHome workers) (keeps : All KeepsGiven workers)
    (counted : AreCounted l.standing.workers given)
    (f : HasFinished (schema_of g) rows l.standing.line (option_map own_by begun ∷ map holds_in workers) given proposed end) where
  in_hand_at : (s : State) (rest : List CopyItem) → AreOpenAtEnd g s rest l.standing → HasCommitted l s → AreInHand g s rest l.standing.line (option_map own_by begun ∷ map holds_in workers)
  in_hand_at s rest left committed = in_hand g s rest l.standing begun workers left committed.done begun_is workers_are home keeps

  at_held : (p : Progress) (rest : List CopyItem) → Represents g rows l p → AreInHand g p.state rest l.standing.line (option_map own_by begun ∷ map holds_in workers)
  at_held p rest at = in_hand_at p.state rest (all_held g p.state rest l.standing at.agreed) at.committed

  ended_held : (handled : List CopyItem) (p : Progress) (rest : List CopyItem) → HasLedTo g rows l handled p rest proposed
      → AreInHand g p.state rest l.standing.line (option_map own_by begun ∷ map holds_in workers) × AreGiven g p.state rest given × MayEndBy g p.state rest proposed
  ended_held handled p rest (committed, unclean, left, why, places) = (in_hand_at p.state rest left committed, are_given g p.state rest l.standing left given counted, why)

  pub has_left : (line : List LineEvent) (position : ℕ) → commits_in line ≡ commits_in l.standing.line → position ≡ l.position → LeavesLine g rows old new line position end
  has_left line position told reached = record {
    led = l;
    proposed = proposed;
    over = over;
    world = f.world;
    is_world = is_world_of g rows (Represents g rows) (HasLedTo g rows) old new l proposed end over valid l.standing.line (option_map own_by begun ∷ map holds_in workers) given f at_held ended_held;
    cause = is_cause g rows (Represents g rows) (HasLedTo g rows) old new l proposed end over valid l.standing.line (option_map own_by begun ∷ map holds_in workers) given f at_held ended_held;
    given = given;
    decided = f.decided;
    committed = f.committed;
    told = told ∙ sym f.commits;
    reached = reached;
  }

-- ---- the store

module _ (keys : Schema) (rows : Rows) (line : List LineEvent) (s : State) (done : commits_in line ≡ map done_by_commit s.past) where
  told_past : map entry_of (commits_in line) ≡ commits s
  told_past = ap (map entry_of) done ∙ entries_done s.past

  -- the journal has the commits of the line, with the changes that survived
  journal_told : (entries : List Entry) → map entry_in entries ≡ map entry_of (commits_in line) → map entry_in entries ≡ commits s
  journal_told entries same = same ∙ told_past

  -- the rows after the journal are those of these changes
  rows_told : (entries : List Entry) → map entry_in entries ≡ map entry_of (commits_in line)
      → rows_after keys rows (map entry_in entries) ≡ serial keys rows (committed_changes s)
  rows_told entries same =
      ap (rows_after keys rows) same ∙ entries_are_serial keys rows (commits_in line)
      ∙ ap (serial keys rows) (changes_told (commits_in line) ∙ ap changes_of_entries told_past)

-- the start tables and no entry are what is left of a store before its first call
pub shut_at_start : (keys : Schema) (rows : Rows) (o : Outcome) → o.journal.items ≡ [] → o.tables.rows ≡ rows → o.tables.schema ≡ keys → IsShutSo keys rows [] o
shut_at_start keys rows o none tables schema =
    let no : map entry_in o.journal.items ≡ [] = ap (map entry_in) none in
    record {
      journal = no;
      tables = tables ∙ ap (rows_after keys rows) (sym no);
      schema = schema;
    }

-- ---- the run

-- at a clean end no item is left
none_left : (g : Setting) (old new : DeviceState) (part : StreamPart g old new) (w : World) (end : End)
    → IsThreadedCause part w end → end ≡ ends.Clean → part.rest ≡ []
none_left g old new part w end cause clean = (subst (IsThreadedCause part w) clean cause).0.all_handled

module _ (g : Setting) (rows : Rows) where
  -- a world closes with what is left of a run: the one at its end, once all that is open there was aborted
  closing : (old new : DeviceState) (o : Outcome) → IsThreadedRun g rows old new o
      → ∥ ((w : World) × IsLed (schema_of g) rows w × Closes w o.tables.rows (map entry_in o.journal.items)) ∥₁
  closing old new o run =
      let is = closed g rows old new o run in
      ∣ (is.0, is.1, subst (Closes is.0 o.tables.rows) (sym is.3.entries) is.2) ∣₁

  -- what is left where the leader has ended a run is a run's
  pub left_run : (keys : Schema) (old new : DeviceState) (line : List LineEvent) (position : ℕ) (end : End) (o : Outcome) → LeavesLine g rows old new line position end → IsShutSo keys rows line o → keys ≡ schema_of g
      → o.position ≡ position → o.end ≡ end → IsRunByWorkers g rows old new o
  left_run keys old new line position end o left shut_by same reached ended =
      let over = left.over in
      let shut : IsShutSo (schema_of g) rows line o = subst (λ (k : Schema). IsShutSo k rows line o) same shut_by in
      let so = leaves g rows old new left.led over.part left.proposed over.why in
      let done : commits_in line ≡ map done_by_commit over.part.progress.state.past = left.told ∙ left.is_world.line in
      let at : o.position ≡ last_end (commit_ends over.part.progress.state.past) = reached ∙ left.reached ∙ so.0.position in
      let serial_rows : o.tables.rows ≡ serial (schema_of g) rows (changes_of (commits_in line)) =
      shut.tables ∙ ap (rows_after (schema_of g) rows) shut.journal ∙ entries_are_serial (schema_of g) rows (commits_in line) in
      let run : IsThreadedRun g rows old new o = record {
        part = over.part;
        world = left.world;
        is_world = left.is_world;
        cause = subst (IsThreadedCause over.part left.world) (sym ended) left.cause;
        left = record {
          entries = shut.journal ∙ ap (map entry_of) left.told;
          position = at ∙ sym (ap (λ (line : List Past). last_end (map (λ (p : Past). p.info.end) line)) left.is_world.line ∙ ends_done over.part.progress.state.past);
          tables = serial_rows ∙ ap (λ (ps : List Past). serial (schema_of g) rows (changes_of ps)) left.told ∙ sym left.committed;
        };
        schema = shut.schema;
      } in
      record {
        run = run;
        proposed = left.proposed;
        given = left.given;
        decided = subst (IsDecided (schema_of g) left.world (IsNoted left.world) left.given left.proposed) (sym ended) left.decided;
        sent = so.1;
        clean = λ clean.
            let none = none_left g old new over.part left.world end left.cause (sym ended ∙ clean) in
            sym (append-nil over.part.handled) ∙ ap (λ (others : List CopyItem). over.part.handled ++ others) (sym none) ∙ over.part.items;
        journal = journal_told (schema_of g) rows line over.part.progress.state done o.journal.items shut.journal;
        position = at;
        tables = shut.tables ∙ rows_told (schema_of g) rows line over.part.progress.state done o.journal.items shut.journal;
        world = closing old new o run;
      }

  -- what is left where a run has ended before a byte was read is a run's
  nothing_run : (devices : DeviceState) (o : Outcome) → IsShutSo (schema_of g) rows [] o → o.position ≡ 0 → o.end ≡ ends.OutOfMemory → IsThreadedRun g rows devices devices o
  nothing_run devices o shut position end = record {
    part = nothing_handled g devices;
    world = starting rows;
    is_world = record {
      led = led_start (schema_of g) rows;
      line = refl;
      opened = λ xid done at. let none : None ≡ Some done = sym (finite.get-empty nat_cmp xid) ∙ at in absurd cc;
    };
    cause = subst (IsThreadedCause (nothing_handled g devices) (starting rows)) (sym end) (inl (record { read = refl; sent = (refl, Appends-nil devices.sent) }));
    left = record {
      entries = shut.journal;
      position = position;
      tables = shut.tables ∙ ap (rows_after (schema_of g) rows) shut.journal;
    };
    schema = shut.schema;
  }

  nothing_done : (devices : DeviceState) (o : Outcome) → IsShutSo (schema_of g) rows [] o → o.position ≡ 0 → o.end ≡ ends.OutOfMemory → IsRunByWorkers g rows devices devices o
  unfolding nothing_run
  nothing_done devices o shut position end = record {
    run = nothing_run devices o shut position end;
    proposed = ends.OutOfMemory;
    given = [];
    decided = end;
    sent = inl (refl, Appends-nil devices.sent);
    clean = λ clean. let refused : ends.OutOfMemory ≡ ends.Clean = sym end ∙ clean in cc;
    journal = journal_told (schema_of g) rows [] start refl o.journal.items shut.journal;
    position = position;
    tables = shut.tables ∙ rows_told (schema_of g) rows [] start refl o.journal.items shut.journal;
    world = closing devices devices o (nothing_run devices o shut position end);
  }

  -- memory was refused before a byte was read
  pub none_run : (keys : Schema) (devices : DeviceState) (line : List LineEvent) (o : Outcome) → IsShutSo keys rows line o → keys ≡ schema_of g → line ≡ [] → o.position ≡ 0 → o.end ≡ ends.OutOfMemory → IsRunByWorkers g rows devices devices o
  none_run keys devices line o shut same none position end =
      nothing_done devices o (subst (λ (k : Schema). IsShutSo k rows [] o) same (subst (λ (l : List LineEvent). IsShutSo keys rows l o) none shut)) position end

-- a run by some workers, or beside some watchers
pub runs_by : (n v : ℕ) (catalog : List Definition) (config : Config) (rows : Rows) (old new : DeviceState) (o : Outcome) → 0 < n + v
    → IsRunByWorkers (setting_of n config catalog) rows old new o → RunsBy n v catalog config rows old new o
runs_by zero zero catalog config rows old new o some run = absurd (omega (arith, some))
runs_by zero (suc v) catalog config rows old new o some run = run
runs_by (suc n) v catalog config rows old new o some run = run
