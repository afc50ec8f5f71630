-- A run with no workers that ends at its first cause is a run without threads.
use Rattle.std.proofs.Common.{◌≡◌, ◌≢◌, ℕ, true, List, [], ◌∷◌, ◌++◌, length, Some, None, refl, sym, ap, subst, ◌∙◌, append_assoc, length-append, arith, inl, inr}
use Rattle.std.specs.Prelude.{map, nat_lt, ◌⊎◌}
use Rattle.std.proofs.lemmas.Bool.{lt-ltb}
use Rattle.std.specs.FinMap.{get}
use Rattle.model.specs.declared.change.Change as change_type
use Rattle.model.specs.declared.item.Item.{Item}
use Rattle.model.specs.declared.item.Item.TheVariants.{Change}
use Rattle.model.specs.Rows.{Rows, Schema, IsValid}
use Rattle.model.specs.Effect.{ClashCause, NullKey, Unique, Outcome as Effected, Done as Edited, Skip, Clashes, outcome, effect, serial}
use Rattle.model.specs.EffectLemmas.{serial_append}
use Rattle.model.specs.Survivors.{survivors, changes_of}
use Rattle.model.specs.SurvivorLemmas.{changes_of_both}
use Rattle.messages.specs.declared.message.Message.{Message}
use Rattle.frames.specs.declared.fault.FrameFault.TheVariants.{Device}
use Rattle.frames.specs.declared.item.CopyItem.{CopyItem}
use Rattle.frames.specs.declared.item.CopyItem.TheVariants.{Wal, Keepalive, Done}
use Rattle.session.specs.declared.phase.Phase.{Phase}
use Rattle.session.specs.declared.phase.Phase.TheVariants.{Outside, Begun, Block}
use Rattle.session.specs.Sized.{item_of}
use Rattle.session.specs.State.{Way, Direct, Worker, Spooled, Open, OpenTransactions, Committed, State, Setting, begun_at}
use Rattle.session.specs.Lawful.{Admits}
use Rattle.run.specs.declared.end.End.{End}
use Rattle.run.specs.declared.end.End.TheVariants as ends
use Rattle.run.specs.declared.outcome.Outcome.{Outcome}
use Rattle.run.specs.Cause.{schema_of, IsNext, LastStep, NextClashes, IsLastCause, IsCause, HasGoneWell, HasNotClashed, LastClashed}
use Rattle.run.specs.Commits.{committed_changes, all_changes, changes_of_entries}
use Rattle.run.specs.Devices.{DeviceState}
use Rattle.run.specs.Progress.{Progress, Handles, Leads, start_progress, commits_from}
use Rattle.run.specs.Run.{IsRun}
use Rattle.run.specs.StreamPart.{StreamPart}
use Rattle.change.specs.Refusal.{ClashesAs}
use Rattle.model.specs.Accepted.{HasNoClash, AreAccepted}
use Rattle.engine.specs.FirstClash.{ClashesIn}
use Rattle.model.specs.SerialLemmas.{accepted_append}
use Rattle.world.specs.World.{Opened, World, starting, changes_in, work, own_rows}
use Rattle.run_laws.proofs.Begun.{IsSane, open_items, begun_in, begun}
use Rattle.run_laws.proofs.WorldAt.{committed_past}
use Rattle.run_laws.specs.Runs.{IsCommitOf, DoesAtCommit}
use Rattle.run_laws.specs.Threads.{IsWork, IsWorldOf}
use Rattle.run_laws.specs.ThreadedRun.{HasConflict, IsThreadedCause, IsThreadedRun}
use Rattle.run_laws.specs.FirstCause.{IsStreamCause, IsAtFirstCause}
use Rattle.run_laws.proofs.Alone.{ArePlain, plain_front, plain_survivors, all_survive, first_in_clear}
use Rattle.run_laws.proofs.Clear.{open_clear, commits_clear}
use Rattle.run_laws.proofs.FirstCause.{end_by}
use Rattle.run_laws.proofs.NoWorkers.{IsPlain, Survives, led_plain}
use Rattle.run_laws.proofs.Reaching.{done, all_done, done_at, done_with}
use Rattle.run_laws.proofs.Running.{clash_of, first_in}
use Rattle.run_laws.proofs.Telling.{told, sane_start}
use Rattle.session.proofs.Stepped.{not_longer}
use Rattle.run_laws.proofs.Threading.{committed_serial, run_commits, run_position, run_tables, run_clear, sane_items, none_works, one_open}
use Rattle.run_laws.proofs.Unthreaded.{split_leads, told_past}
use Rattle.run_laws.proofs.Ways.{NoneWorks}

-- ---- changes are clear, or one is the first that clashes

as_clash : (schema : Schema) (rows : Rows) (c : change_type.Change) (cause : ClashCause)
    → outcome schema rows c ≡ Clashes cause → ClashesAs schema rows c (clash_of cause)
as_clash schema rows c (Unique table key) is = is
as_clash schema rows c (NullKey table) is = is

-- the first of these clashes
abbrev AnyClash : Schema → Rows → List change_type.Change → Type 0
AnyClash schema rows cs = (cause : ClashCause) × ClashesIn schema rows cs (clash_of cause)

clash_here : (schema : Schema) (rows : Rows) (c : change_type.Change) (cs : List change_type.Change) (cause : ClashCause)
    → outcome schema rows c ≡ Clashes cause → ClashesIn schema rows (c ∷ cs) (clash_of cause)
clash_here schema rows c cs cause is =
    record { before = []; change = c; after = cs; split = refl; clear = tt; refused = as_clash schema rows c cause is }

clash_later : (schema : Schema) (rows : Rows) (c : change_type.Change) (cs : List change_type.Change)
    → HasNoClash schema rows c → AnyClash schema (effect schema rows c) cs → AnyClash schema rows (c ∷ cs)
clash_later schema rows c cs well later = (
  later.0,
  record {
    before = c ∷ later.1.before;
    change = later.1.change;
    after = later.1.after;
    split = ap (λ ds. c ∷ ds) later.1.split;
    clear = (well, later.1.clear);
    refused = later.1.refused;
  },
)

clash_cases : (what : Effected)
    → ((cause : ClashCause) → what ≢ Clashes cause) ⊎ ((cause : ClashCause) × (what ≡ Clashes cause))
clash_cases (Edited edits) = inl (λ cause e. cc)
clash_cases Skip = inl (λ cause e. cc)
clash_cases (Clashes cause) = inr (cause, refl)

clear_or_clash : (schema : Schema) (rows : Rows) (cs : List change_type.Change)
    → AreAccepted schema rows cs ⊎ AnyClash schema rows cs
clear_or_clash schema rows [] = inl tt
clear_or_clash schema rows (c ∷ cs) =
    elim (clash_cases (outcome schema rows c)) [
      | inl well ↦
          elim (clear_or_clash schema (effect schema rows c) cs) [
            | inl clear ↦ inl (well, clear)
            | inr later ↦ inr (clash_later schema rows c cs well later)
          ]
      | inr is ↦ inr (is.0, clash_here schema rows c cs is.0 is.1)
    ]

-- the clash of a transaction that was begun is a cause of the stream
last_cause : (g : Setting) (rows : Rows) (s : State) (cause : ClashCause)
    → ClashesIn (schema_of g) rows (all_changes s) (clash_of cause) → IsLastCause g rows s (end_by cause)
last_cause g rows s (Unique table key) is = is
last_cause g rows s (NullKey table) is = is

stream_cause : (g : Setting) (rows : Rows) (s : State) (rest : List CopyItem) (cause : ClashCause)
    → ClashesIn (schema_of g) rows (all_changes s) (clash_of cause) → IsStreamCause g rows s rest (end_by cause)
stream_cause g rows s rest (Unique table key) is = inr is
stream_cause g rows s rest (NullKey table) is = inr is

clear_without : (g : Setting) (rows : Rows) (s : State) (rest : List CopyItem)
    → ((end : End) → IsStreamCause g rows s rest end → ⊥) → AreAccepted (schema_of g) rows (all_changes s)
clear_without g rows s rest none =
    elim (clear_or_clash (schema_of g) rows (all_changes s)) [
      | inl clear ↦ clear
      | inr clash ↦ absurd (none (end_by clash.0) (stream_cause g rows s rest clash.0 clash.1))
    ]

-- ---- the last item

-- there are none, or one is the last
none_or_last : (items : List CopyItem)
    → (items ≡ []) ⊎ ((front : List CopyItem) × (last : CopyItem) × (items ≡ front ++ last ∷ []))
none_or_last [] = inl refl
none_or_last (i ∷ items) =
    elim (none_or_last items) [
      | inl none ↦ inr ([], i, ap (λ more. i ∷ more) none)
      | inr is ↦ inr (i ∷ is.0, is.1, ap (λ more. i ∷ more) is.2)
    ]

last_step : (g : Setting) (handled : List CopyItem) (p : Progress) → Leads g start_progress handled p
    → (handled ≡ []) ⊎ LastStep g handled p
last_step g handled p lawful =
    elim (none_or_last handled) [
      | inl none ↦ inl none
      | inr is ↦
          let parts =
          split_leads g start_progress p is.0 (is.1 ∷ [])
          (subst (λ items. Leads g start_progress items p) is.2 lawful) in
          inr (record {
            before = is.0;
            item = is.1;
            split = is.2;
            past = parts.0;
            lawful = parts.1;
            step = subst (Handles g parts.0 is.1) parts.2.2 parts.2.1;
          })
    ]

-- ---- a conflict is a clash of the next message

more_commits : (s t : State) (c : Committed) → t.past ≡ s.past ++ c ∷ [] → commits_from s t ≡ true
more_commits s t c past =
    ap (λ ds. nat_lt (length s.past) (length ds)) past
    ∙ lt-ltb (length s.past) (length (s.past ++ c ∷ [])) (omega (arith, length-append s.past (c ∷ [])))

begun_is : (p : Phase) (m : OpenTransactions) (xid : ℕ) (o : Open) → begun_at p ≡ Some xid → get m xid ≡ Some o
    → begun_in p m ≡ Some (xid, map item_of o.items)
begun_is Outside m xid o is at = cc
begun_is (Begun x final) m xid o is at =
    ap (λ (n : ℕ). Some (n, open_items (get m n))) (one x is) ∙ ap (λ found. Some (xid, open_items found)) at
  where
    one : (x : ℕ) → Some x ≡ Some xid → x ≡ xid
    one x e = cc
begun_is (Block x) m xid o is at = cc

module _ (g : Setting) (rows : Rows) (s : State) (rest : List CopyItem) (w : World) (sane : IsSane s)
    (plain : IsPlain s) (none : NoneWorks s.transactions) (is_world : IsWorldOf g rows s rest w)
    (valid : IsValid (schema_of g) rows) (clear : AreAccepted (schema_of g) rows (all_changes s)) where
  -- the keys' columns
  abbrev schema : Schema
  schema = schema_of g

  -- the changes of the commits
  abbrev past : List change_type.Change
  past = changes_in (map committed_past s.past)

  -- and then of these items
  abbrev with_items : ℕ → List Item → List change_type.Change
  with_items xid items = past ++ changes_of (survivors xid items)

  line : w.line ≡ map committed_past s.past
  line = is_world.line ∙ plain.past

  committed : w.committed ≡ serial schema rows past
  committed =
      committed_serial schema rows w valid is_world.led ∙ ap (λ l. serial schema rows (changes_in l)) line

  -- behind a commit none is begun
  none_after : (payload : List ℕ) (xid : ℕ) (by : IsCommitOf g s payload xid) → begun by.state ≡ None
  none_after payload xid by =
      let what = told g s by.state (length payload) by.message sane by.admits.stepped in
      elim (told_past s by.state what.0 what.1 what.2).0 [
        | inl past ↦ absurd (not_longer s.past by.committed (sym by.past ∙ past))
        | inr none ↦ none
      ]

  -- an open transaction that has come to a change
  module _ (xid : ℕ) (items : List Item) (transaction : Opened) (present : get w.opened xid ≡ Some transaction)
      (sub : ℕ) (c : change_type.Change) (after : List Item)
      (all_items : transaction.items ++ Change sub c ∷ after ≡ survivors xid items) where
    -- what it has done survives
    survives : survivors xid transaction.items ≡ transaction.items
    survives =
        all_survive xid [] transaction.items
        (plain_front transaction.items (Change sub c ∷ after)
        (subst ArePlain (sym all_items) (plain_survivors xid items)))

    -- the changes of the commits, and those that it has done
    abbrev before : List change_type.Change
    before = past ++ work xid transaction

    split : with_items xid items ≡ before ++ c ∷ changes_of after
    split =
        ap (λ is. past ++ changes_of is) (sym all_items)
        ∙ ap (λ cs. past ++ cs) (changes_of_both transaction.items (Change sub c ∷ after))
        ∙ ap (λ is. past ++ (changes_of is ++ c ∷ changes_of after)) (sym survives)
        ∙ sym (append_assoc past (work xid transaction) (c ∷ changes_of after))

    own : own_rows schema w xid transaction ≡ serial schema rows before
    own =
        ap (λ r. serial schema r (work xid transaction)) committed
        ∙ sym (serial_append schema rows past (work xid transaction))

    clear_before : AreAccepted schema rows before
    clear_before =
        accepted_append schema rows past (work xid transaction)
        (subst (λ l. AreAccepted schema rows (changes_in l)) line (commits_clear schema rows w valid is_world.led))
        (subst (λ r. AreAccepted schema r (work xid transaction)) committed
        (open_clear schema rows w valid is_world.led xid transaction present))

    clashes : (cause : ClashCause) → outcome schema (own_rows schema w xid transaction) c ≡ Clashes cause
        → ClashesIn schema rows (with_items xid items) (clash_of cause)
    clashes cause is = record {
      before = before;
      change = c;
      after = changes_of after;
      split = split;
      clear = clear_before;
      refused = as_clash schema (serial schema rows before) c cause (ap (λ r. outcome schema r c) (sym own) ∙ is);
    }

    -- it was not begun
    not_begun : (cause : ClashCause) (o : Open) → get s.transactions xid ≡ Some o → o.way ≡ Direct → map item_of o.items ≡ items
        → ClashesIn schema rows (with_items xid items) (clash_of cause) → ⊥
    not_begun cause o at direct same is =
        let here = begun_is s.phase s.transactions xid o (sane.alone xid o at direct) at in
        let all : all_changes s ≡ with_items xid items = all_done s ∙ ap (done s.past) here ∙ ap (with_items xid) same in
        first_in_clear schema rows (with_items xid items) cause (subst (AreAccepted schema rows) all clear)
        (first_in schema rows (with_items xid items) cause is)

    -- the payload commits it
    next_clash : (payload : List ℕ) (cause : ClashCause) → ClashesIn schema rows (with_items xid items) (clash_of cause)
        → (by : IsCommitOf g s payload xid) → map item_of by.committed.items ≡ items
        → (m : Message) × (t : State) × Admits g s payload m t × (commits_from s t ≡ true)
        × ClashesIn schema rows (all_changes t) (clash_of cause)
    next_clash payload cause is by final =
        let t = by.state in
        let d = by.committed in
        let same : with_items d.xid (map item_of d.items) ≡ with_items xid items =
        ap (λ (n : ℕ). with_items n (map item_of d.items)) by.xid_is ∙ ap (with_items xid) final in
        let all : all_changes t ≡ with_items xid items =
        all_done t ∙ done_at t (s.past ++ d ∷ []) None by.past (none_after payload xid by)
        ∙ done_with schema rows (starting rows) s.past d ∙ same in (
          by.message,
          t,
          by.admits,
          more_commits s t d by.past,
          subst (λ cs. ClashesIn schema rows cs (clash_of cause)) (sym all) is,
        )

  conflict_next : (cause : ClashCause) → HasConflict g s rest w cause → NextClashes g rows s rest (clash_of cause)
  conflict_next cause is = by_way is.transaction.way refl is.is_work
    where
      -- it clashes among these items, which survive
      among : (items : List Item) (all : is.work ≡ survivors is.xid items)
          → ClashesIn schema rows (with_items is.xid items) (clash_of cause)
      among items all =
          clashes is.xid items is.clashes.transaction is.clashes.present is.clashes.subtransaction is.clashes.change
          is.clashes.after (is.clashes.in_turn ∙ all) cause is.clashes.so.1

      by_next : (items : List CopyItem) → IsNext items (λ payload. DoesAtCommit g s payload is.xid is.work)
          → NextClashes g rows s items (clash_of cause)
      by_next [] next = absurd next
      by_next (Wal first last payload ∷ items) next =
          let final = map item_of next.0.committed.items in
          next_clash is.xid final is.clashes.transaction is.clashes.present is.clashes.subtransaction is.clashes.change
          is.clashes.after (is.clashes.in_turn ∙ sym next.1) payload cause (among final (sym next.1)) next.0 refl
      by_next (Keepalive last reply ∷ items) next = absurd next
      by_next (Done ∷ items) next = absurd next

      by_way : (way : Way) → is.transaction.way ≡ way → IsWork g s rest is.xid way is.transaction.items is.work
          → NextClashes g rows s rest (clash_of cause)
      by_way Direct direct work =
          let items = map item_of is.transaction.items in
          let all : is.work ≡ survivors is.xid items =
          work ∙ subst (λ (way : Way). Survives is.xid way is.transaction.items) direct (plain.opened is.xid is.transaction is.present) in
          absurd
          (not_begun is.xid items is.clashes.transaction is.clashes.present is.clashes.subtransaction is.clashes.change
          is.clashes.after (is.clashes.in_turn ∙ all) cause is.transaction is.present direct refl (among items all))
      by_way Worker works work = absurd (none is.xid is.transaction is.present works)
      by_way Spooled spooled next = by_next rest next

-- ---- why a run ended

module _ (g : Setting) (rows : Rows) (old new : DeviceState) (part : StreamPart g old new) (w : World) where
  -- a change of the transaction that was begun clashed
  module _ (last : LastStep g part.handled part.progress) (clear : AreAccepted (schema_of g) rows (all_changes last.past.state))
      (committed : AreAccepted (schema_of g) rows (committed_changes part.progress.state)) where
    last_clashed : (end : End) → HasGoneWell part → IsLastCause g rows part.progress.state end → LastClashed rows part end
    last_clashed end is why = record { last = last; clear = clear; committed = committed; why = why; well = is }

    by_last : (end : End) → IsThreadedCause part w end → IsLastCause g rows part.progress.state end → IsCause rows part end
    by_last (ends.Unique table key) is why = inr (last_clashed (ends.Unique table key) is.0 why)
    by_last (ends.NullKey table) is why = inr (last_clashed (ends.NullKey table) is.0 why)
    by_last end is why = absurd why

  -- no change clashed
  by_item : HasNotClashed rows part → (end : End) → IsThreadedCause part w end
      → ((cause : ClashCause) → HasConflict g part.progress.state part.rest w cause
      → NextClashes g rows part.progress.state part.rest (clash_of cause))
      → ((xid holder : ℕ) → end ≢ ends.HeldKey xid holder) → IsCause rows part end
  by_item clear ends.Clean is conflicts held = (clear, is.0)
  by_item clear (ends.Frame Device) is conflicts held = (clear, is)
  by_item clear (ends.Frame fault) is conflicts held = (clear, is)
  by_item clear (ends.Msg fault) is conflicts held = inl (clear, is.0, is.1)
  by_item clear (ends.Session fault) is conflicts held = inl (clear, is.0, is.1)
  by_item clear (ends.Rel fault) is conflicts held = inl (clear, is.0, is.1)
  by_item clear (ends.Unique table key) is conflicts held = inl (clear, is.0, conflicts (Unique table key) is.1)
  by_item clear (ends.NullKey table) is conflicts held = inl (clear, is.0, conflicts (NullKey table) is.1)
  by_item clear (ends.HeldKey xid holder) is conflicts held = absurd (held xid holder refl)
  by_item clear ends.OutOfMemory is conflicts held = (clear, is)

-- ---- a run

module _ (g : Setting) (rows : Rows) (old new : DeviceState) (o : Outcome) (run : IsThreadedRun g rows old new o)
    (valid : IsValid (schema_of g) rows) (zero : g.workers ≡ 0)
    (first : IsAtFirstCause g rows run.part.handled run.part.rest run.part.progress.state o.end) where
  -- where it ended
  abbrev s : State
  s = run.part.progress.state

  -- why a run without threads would end there
  abbrev IsEnd : Type 0
  IsEnd = IsCause rows run.part o.end

  committed_clear : AreAccepted (schema_of g) rows (committed_changes s)
  committed_clear =
      subst (λ ts. AreAccepted (schema_of g) rows (changes_of_entries ts)) (run_commits g rows old new o run)
      (run_clear g rows old new o run valid)

  -- a change of the transaction that was begun clashed
  module _ (cause : ClashCause) (clash : ClashesIn (schema_of g) rows (all_changes s) (clash_of cause)) where
    why : IsLastCause g rows s o.end
    why =
        let is = last_cause g rows s cause clash in
        subst (IsLastCause g rows s) (sym (first.by_clash (end_by cause) is)) is

    -- at the start there is no change
    not_at_start : run.part.handled ≡ [] → ⊥
    not_at_start none =
        let here : start_progress ≡ run.part.progress =
        subst (λ items. Leads g start_progress items run.part.progress) none run.part.lawful in
        first_in_clear (schema_of g) rows [] cause tt
        (first_in (schema_of g) rows [] cause
        (subst (λ (p : Progress). ClashesIn (schema_of g) rows (all_changes p.state) (clash_of cause)) (sym here) clash))

    at_last : LastStep g run.part.handled run.part.progress → IsEnd
    at_last last =
        by_last g rows old new run.part run.world last
        (clear_without g rows last.past.state (last.item ∷ run.part.rest)
        (λ end. first.none_before last.before [] last.item last.past end last.split last.lawful))
        committed_clear o.end run.cause why

    clashed : IsEnd
    clashed =
        elim (last_step g run.part.handled run.part.progress run.part.lawful) [
          | inl none ↦ absurd (not_at_start none)
          | inr last ↦ at_last last
        ]

  no_clash : AreAccepted (schema_of g) rows (all_changes s) → IsEnd
  no_clash clear =
      let sane = sane_items g start_progress run.part.progress run.part.handled sane_start run.part.lawful in
      let plain = led_plain g zero run.part.progress run.part.handled run.part.lawful in
      let none = none_works g run.part.handled run.part.progress zero run.part.lawful in
      by_item g rows old new run.part run.world clear o.end run.cause
      (conflict_next g rows s run.part.rest run.world sane plain none run.is_world valid clear)
      (one_open g rows old new o run zero).1

  alone_cause : IsEnd
  alone_cause =
      elim (clear_or_clash (schema_of g) rows (all_changes s)) [
        | inl clear ↦ no_clash clear
        | inr clash ↦ clashed clash.0 clash.1
      ]

  pub without_threads : (alone : IsRun g rows old new o) × (alone.part.handled ≡ run.part.handled)
  without_threads = (
    record {
      part = run.part;
      cause = alone_cause;
      journal = run_commits g rows old new o run;
      position = run_position g rows old new o run;
      tables =
          run_tables g rows old new o run valid
          ∙ ap (λ ts. serial (schema_of g) rows (changes_of_entries ts)) (run_commits g rows old new o run);
      schema = run.schema;
    },
    refl,
  )
