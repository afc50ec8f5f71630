-- A run without workers over the items of a clean run comes to the same commits.
use Rattle.std.proofs.Common.{◌≡◌, ◌≢◌, ℕ, true, List, [], ◌∷◌, ◌++◌, length, None, refl, sym, ap, subst, ◌∙◌, append_assoc, append-nil, inl, inr}
use Rattle.std.specs.Prelude.{map, ◌⊎◌, Ok, Err}
use Rattle.std.proofs.lemmas.Grind.{flat_map-append}
use Rattle.std.proofs.lemmas.List.{map-append}
use Rattle.model.specs.declared.change.Change as change_type
use Rattle.model.specs.Rows.{Rows, Schema, IsValid, keys_of}
use Rattle.model.specs.Effect.{ClashCause, NullKey, Unique, serial}
use Rattle.messages.proofs.Payloads.{one_message-law, spelled-or-stands}
use Rattle.messages.specs.declared.fault.MsgFault.{MsgFault}
use Rattle.messages.specs.declared.message.Message.{Message}
use Rattle.frames.specs.declared.fault.FrameFault.TheVariants.{Device}
use Rattle.frames.specs.declared.item.CopyItem.{CopyItem}
use Rattle.frames.specs.declared.item.CopyItem.TheVariants.{Wal, Keepalive, Done}
use Rattle.frames.specs.Stream.{copy_items}
use Rattle.session.specs.declared.fault.Refused.{Refused}
use Rattle.session.specs.declared.fault.Refused.TheVariants as refusals
use Rattle.session.specs.State.{Committed, State, Setting, in_block}
use Rattle.session.specs.Lawful.{Admits, Refuses, TableRefuses}
use Rattle.session.specs.Table.{step}
use Rattle.session.specs.StreamEvents.{StreamEvent, NoEvent, TransactionOpens, ItemComes, TransactionCommits, TransactionAborts, Tells}
use Rattle.run.specs.declared.end.End.{End}
use Rattle.run.specs.declared.end.End.TheVariants as ends
use Rattle.run.specs.declared.outcome.Outcome.{Outcome}
use Rattle.run.specs.Cause.{schema_of, IsCause, RefusesNext, NextClashes, HasGoneWell, HasNotClashed}
use Rattle.engine.specs.Engine.{entry_in}
use Rattle.run.specs.Commits.{entry_of_commit, commits, committed_changes, all_changes, changes_of_entries, commit_ends}
use Rattle.model.specs.Beginning.{last_end}
use Rattle.run.specs.Devices.{DeviceState}
use Rattle.run.specs.Progress.{Progress, Handles, Leads, start_progress, due_updates, commits_from}
use Rattle.run.specs.Run.{IsRun}
use Rattle.run.specs.StreamPart.{StreamPart}
use Rattle.engine.specs.FirstClash.{ClashesIn}
use Rattle.model.specs.Accepted.{AreAccepted}
use Rattle.world.specs.World.{Entry, starting}
use Rattle.run_laws.proofs.Begun.{IsSane, begun, Moves}
use Rattle.run_laws.specs.ThreadedRun.{IsThreadedCause, IsThreadedRun}
use Rattle.run_laws.specs.Threads.{AreBytes}
use Rattle.run_laws.proofs.Alone.{clear_front, first_in_clear}
use Rattle.run_laws.proofs.Reaching.{done, all_done, work_same, moved, handled_told}
use Rattle.run_laws.proofs.Running.{clash_of, first_in, not_more}
use Rattle.run_laws.proofs.Telling.{sane_start}
use Rattle.run_laws.proofs.Threading.{one_state, sane_items, all_items, same_ends, run_commits, run_position, run_tables, run_clear}
use Rattle.run_laws.proofs.Ways.{Alike, led, start_alike, same_transactions}

-- ---- what items lead to

pub split_leads : (g : Setting) (p q : Progress) (xs ys : List CopyItem) → Leads g p (xs ++ ys) q
    → (r : Progress) × Leads g p xs r × Leads g r ys q
split_leads g p q [] ys is = (p, refl, is)
split_leads g p q (x ∷ xs) ys is =
    let more = split_leads g is.0 q xs ys is.2 in (more.0, (is.0, is.1, more.1), more.2)

same_progress : (p q : Progress) → p.state ≡ q.state → p.seen ≡ q.seen → p.updates ≡ q.updates → p ≡ q
same_progress p q e f d =
    ap (λ (s : State). record p { state = s }) e ∙ ap (λ (n : ℕ). record p { state = q.state; seen = n }) f
    ∙ ap (λ us. record { state = q.state; seen = q.seen; updates = us }) d

one_handled : (g : Setting) (p q r : Progress) (item : CopyItem) → Handles g p item q → Handles g p item r → q ≡ r
one_handled g p q r (Wal first last payload) is there =
    let state = one_state g p.state payload is.0 there.0 q.state r.state is.1 there.1 in
    let seen : q.seen ≡ r.seen = is.2 ∙ sym there.2 in
    same_progress q r state seen
    (is.3 ∙ ap (λ (s : State). p.updates ++ due_updates (commits_from p.state s) s q.seen) state
    ∙ ap (λ (n : ℕ). p.updates ++ due_updates (commits_from p.state r.state) r.state n) seen ∙ sym there.3)
one_handled g p q r (Keepalive last reply) is there =
    let state : q.state ≡ r.state = is.0 ∙ sym there.0 in
    let seen : q.seen ≡ r.seen = is.1 ∙ sym there.1 in
    same_progress q r state seen
    (is.2 ∙ ap (λ (s : State). p.updates ++ due_updates reply s q.seen) state
    ∙ ap (λ (n : ℕ). p.updates ++ due_updates reply r.state n) seen ∙ sym there.2)
one_handled g p q r Done is there = is ∙ sym there

one_progress : (g : Setting) (p q r : Progress) (items : List CopyItem) → Leads g p items q → Leads g p items r → q ≡ r
one_progress g p q r [] is there = sym is ∙ there
one_progress g p q r (item ∷ items) is there =
    one_progress g is.0 q r items is.2
    (subst (λ (u : Progress). Leads g u items r) (sym (one_handled g p is.0 there.0 item is.1 there.1)) there.2)

-- what a beginning of items led to, the others lead on from
pub leads_on : (g : Setting) (p q r : Progress) (xs ys : List CopyItem) → Leads g p xs r → Leads g p (xs ++ ys) q
    → Leads g r ys q
leads_on g p q r xs ys first all =
    let parts = split_leads g p q xs ys all in
    subst (λ (u : Progress). Leads g u ys q) (one_progress g p parts.0 r xs parts.1 first) parts.2

-- ---- commits

-- a step commits none, or none is begun behind it; and it takes no commit away
pub told_past : (s t : State) (what : StreamEvent) → Tells s t what → Moves s t what
    → ((t.past ≡ s.past) ⊎ (begun t ≡ None)) × ((more : List Committed) × (t.past ≡ s.past ++ more))
told_past s t NoEvent tells moves = (inl tells.past, ([], tells.past ∙ sym (append-nil s.past)))
told_past s t (TransactionOpens xid way) tells moves = (inl tells.past, ([], tells.past ∙ sym (append-nil s.past)))
told_past s t (ItemComes xid way item size) tells moves = (inl tells.2.past, ([], tells.2.past ∙ sym (append-nil s.past)))
told_past s t (TransactionCommits c) tells moves = (inr moves.1, (c ∷ [], tells.past))
told_past s t (TransactionAborts xid way) tells moves = (inl tells.2.past, ([], tells.2.past ∙ sym (append-nil s.past)))

past_grows : (g : Setting) (p q : Progress) (items : List CopyItem) → IsSane p.state → Leads g p items q
    → (more : List Committed) × (q.state.past ≡ p.state.past ++ more)
past_grows g p q [] sane is = ([], ap (λ (r : Progress). r.state.past) (sym is) ∙ sym (append-nil p.state.past))
past_grows g p q (item ∷ items) sane is =
    let now = handled_told g p is.0 item sane is.1 in
    let first = (told_past p.state is.0.state now.0 now.1 now.2).1 in
    let rest = past_grows g is.0 q items now.3 is.2 in
    (first.0 ++ rest.0, rest.1 ∙ ap (λ past. past ++ rest.0) first.1 ∙ append_assoc p.state.past first.0 rest.0)

-- the changes of commits, and of some more
changes_grow : (s t : State) (more : List Committed) → t.past ≡ s.past ++ more
    → committed_changes t ≡ committed_changes s ++ changes_of_entries (map entry_of_commit more)
changes_grow s t more e =
    ap (λ past. changes_of_entries (map entry_of_commit past)) e ∙ ap changes_of_entries (map-append entry_of_commit s.past more)
    ∙ flat_map-append (λ (e : Entry). e.changes) (map entry_of_commit s.past) (map entry_of_commit more)

none_begun_done : (t : State) → begun t ≡ None → done t.past (begun t) ≡ committed_changes t
none_begun_done t is = ap (done t.past) is ∙ append-nil _ ∙ work_same t.past

module _ (schema : Schema) (rows : Rows) (g : Setting) where
  -- where items commit something, the commits begin with all that was done before them
  led_commits : (p q : Progress) (items : List CopyItem) → IsSane p.state → Leads g p items q
      → (q.state.past ≡ p.state.past) ⊎ ((cs : List change_type.Change) × (committed_changes q.state ≡ all_changes p.state ++ cs))
  led_commits p q [] sane is = inl (ap (λ (r : Progress). r.state.past) (sym is))
  led_commits p q (item ∷ items) sane is =
      let now = handled_told g p is.0 item sane is.1 in
      let t = is.0.state in
      let grown = (moved schema rows (starting rows) p.state t now).1 in
      let all : all_changes t ≡ all_changes p.state ++ grown.0 =
      all_done t ∙ grown.1 ∙ ap (λ cs. cs ++ grown.0) (sym (all_done p.state)) in
      elim (told_past p.state t now.0 now.1 now.2).0 [
        | inl past ↦
            elim (led_commits is.0 q items now.3 is.2) [
              | inl same ↦ inl (same ∙ past)
              | inr more ↦ inr (grown.0 ++ more.0, more.1 ∙ ap (λ cs. cs ++ more.0) all ∙ append_assoc (all_changes p.state) grown.0 more.0)
            ]
        | inr none ↦
            let rest = past_grows g is.0 q items now.3 is.2 in
            let here : committed_changes t ≡ all_changes t = sym (none_begun_done t none) ∙ sym (all_done t) in
            inr (
              grown.0 ++ changes_of_entries (map entry_of_commit rest.0),
              changes_grow t q.state rest.0 rest.1 ∙ ap (λ cs. cs ++ changes_of_entries (map entry_of_commit rest.0)) (here ∙ all)
                  ∙ append_assoc (all_changes p.state) grown.0 (changes_of_entries (map entry_of_commit rest.0)),
            )
      ]

  clashes_not : (s : State) (cs all : List change_type.Change) (cause : ClashCause) → all ≡ all_changes s ++ cs
      → AreAccepted schema rows all → ClashesIn schema rows (all_changes s) (clash_of cause) → ⊥
  clashes_not s cs all cause e clear clash =
      first_in_clear schema rows (all_changes s) cause
      (clear_front schema rows (all_changes s) cs (subst (AreAccepted schema rows) e clear)) (first_in schema rows (all_changes s) cause clash)

-- ---- what a message that is admitted is not

module _ (g : Setting) (s t : State) (payload : List ℕ) (m : Message) (admits : Admits g s payload m t) where
  pub not_refused : (refused : Refused) → TableRefuses g s payload refused → ⊥
  not_refused refused is = apart (step g s (length payload) m) t refused admits.stepped (subst (λ (n : Message). step g s (length payload) n ≡ Err refused) same is.2)
    where
      same : is.0 ≡ m
      same = one_message-law payload (in_block s.phase) is.0 m is.1 admits.spelled

      apart : (next : _) (u : State) (refused : Refused) → next ≡ Ok u → next ≡ Err refused → ⊥
      apart next u refused e f = cc

-- ---- the commits of a run without workers

module _ (h : Setting) (rows : Rows) (s q : Progress) (rest : List CopyItem) (sane : IsSane s.state) (more : Leads h s rest q) (clear : AreAccepted (schema_of h) rows (committed_changes q.state)) where
  -- The commits are those of all items.
  abbrev IsAll : Type 0
  IsAll = q.state.past ≡ s.state.past

  at_end : rest ≡ [] → IsAll
  at_end none = ap (λ (r : Progress). r.state.past) (sym (subst (λ items. Leads h s items q) none more))

  -- a change that came last clashed
  after_clash : (cause : ClashCause) → ClashesIn (schema_of h) rows (all_changes s.state) (clash_of cause) → IsAll
  after_clash cause clash =
      elim (led_commits (schema_of h) rows h s q rest sane more) [
        | inl same ↦ same
        | inr all ↦ absurd (clashes_not (schema_of h) rows h s.state all.0 (committed_changes q.state) cause all.1 clear clash)
      ]

  -- the next message, which commits a transaction, clashed
  pub next_clash : (cause : ClashCause) → NextClashes h rows s.state rest (clash_of cause) → ⊥
  next_clash cause = by_next rest more
    where
      by_next : (rest : List CopyItem) → Leads h s rest q → NextClashes h rows s.state rest (clash_of cause) → ⊥
      by_next [] more next = next
      by_next (Keepalive last reply ∷ items) more next = next
      by_next (Done ∷ items) more next = next
      by_next (Wal first last payload ∷ items) more next =
          let r = more.0 in
          let same : next.1 ≡ r.state = one_state h s.state payload next.0 more.1.0 next.1 r.state next.2 more.1.1 in
          let now = handled_told h s r (Wal first last payload) sane more.1 in
          let clash : ClashesIn (schema_of h) rows (all_changes r.state) (clash_of cause) =
          subst (λ (t : State). ClashesIn (schema_of h) rows (all_changes t) (clash_of cause)) same next.4 in
          elim (told_past s.state r.state now.0 now.1 now.2).0 [
            | inl past ↦
                not_more (schema_of h) rows cause s.state r.state past
                (subst (λ (t : State). commits_from s.state t ≡ true) same next.3)
            | inr none ↦
                let later = past_grows h r q items now.3 more.2 in
                let here : committed_changes r.state ≡ all_changes r.state =
                sym (none_begun_done r.state none) ∙ sym (all_done r.state) in
                clashes_not (schema_of h) rows h r.state (changes_of_entries (map entry_of_commit later.0)) (committed_changes q.state) cause
                (changes_grow r.state q.state later.0 later.1 ∙ ap (λ cs. cs ++ changes_of_entries (map entry_of_commit later.0)) here)
                clear clash
          ]

  -- the next message was refused
  table_refused : (refused : Refused) → ((payload : List ℕ) → Refuses h s.state payload refused → TableRefuses h s.state payload refused)
      → RefusesNext h s.state rest refused → ⊥
  table_refused refused is = by_next rest more
    where
      by_next : (rest : List CopyItem) → Leads h s rest q → RefusesNext h s.state rest refused → ⊥
      by_next [] more next = next
      by_next (Keepalive last reply ∷ items) more next = next
      by_next (Done ∷ items) more next = next
      by_next (Wal first last payload ∷ items) more next =
          not_refused h s.state more.0.state payload more.1.0 more.1.1 refused (is payload next)

  no_message : (fault : MsgFault) → AreBytes rest → RefusesNext h s.state rest (refusals.Msg fault) → ⊥
  no_message fault bytes = by_next rest more bytes
    where
      by_next : (rest : List CopyItem) → Leads h s rest q → AreBytes rest → RefusesNext h s.state rest (refusals.Msg fault) → ⊥
      by_next [] more bytes next = next
      by_next (Keepalive last reply ∷ items) more bytes next = next
      by_next (Done ∷ items) more bytes next = next
      by_next (Wal first last payload ∷ items) more bytes next =
          spelled-or-stands payload (in_block s.state.phase) more.1.0 fault bytes.0 more.1.1.spelled next

module _ (h : Setting) (rows : Rows) (before after : DeviceState) (part : StreamPart h before after) (q : Progress)
    (sane : IsSane part.progress.state) (more : Leads h part.progress part.rest q)
    (clear : AreAccepted (schema_of h) rows (committed_changes q.state)) (are : AreBytes part.rest) where
  -- where a run ended, the commits were those of all items
  abbrev AreAll : Type 0
  AreAll = IsAll h rows part.progress q part.rest sane more clear

  by_end : part.rest ≡ [] → AreAll
  by_end none = at_end h rows part.progress q part.rest sane more clear none

  not_refused_next : (refused : Refused)
      → ((payload : List ℕ) → Refuses h part.progress.state payload refused → TableRefuses h part.progress.state payload refused)
      → RefusesNext h part.progress.state part.rest refused → ⊥
  not_refused_next refused is = table_refused h rows part.progress q part.rest sane more clear refused is

  by_clash : (cause : ClashCause)
      → (HasNotClashed rows part × HasGoneWell part × NextClashes h rows part.progress.state part.rest (clash_of cause))
      ⊎ ClashesIn (schema_of h) rows (all_changes part.progress.state) (clash_of cause) → AreAll
  by_clash cause is =
      elim is [
        | inl next ↦ absurd (next_clash h rows part.progress q part.rest sane more clear cause next.2)
        | inr last ↦ after_clash h rows part.progress q part.rest sane more clear cause last
      ]

  all_committed : (end : End) → IsCause rows part end → end ≢ ends.OutOfMemory → end ≢ ends.Frame Device → AreAll
  all_committed ends.Clean cause memory device = by_end cause.1.all_handled
  all_committed (ends.Frame Device) cause memory device = absurd (device refl)
  all_committed (ends.Frame fault) cause memory device = by_end cause.1.all_handled
  all_committed (ends.Msg fault) cause memory device =
      elim cause [
        | inl next ↦ absurd (no_message h rows part.progress q part.rest sane more clear fault are next.2)
        | inr last ↦ absurd last.why
      ]
  all_committed (ends.Session fault) cause memory device =
      elim cause [ inl next ↦ absurd (not_refused_next (refusals.Session fault) (λ payload is. is) next.2) | inr last ↦ absurd last.why ]
  all_committed (ends.Rel fault) cause memory device =
      elim cause [ inl next ↦ absurd (not_refused_next (refusals.Rel fault) (λ payload is. is) next.2) | inr last ↦ absurd last.why ]
  all_committed (ends.Unique table key) cause memory device =
      by_clash (Unique table key) (elim cause [ inl next ↦ inl next | inr last ↦ inr last.why ])
  all_committed (ends.NullKey table) cause memory device =
      by_clash (NullKey table) (elim cause [ inl next ↦ inl next | inr last ↦ inr last.why ])
  all_committed (ends.HeldKey xid holder) cause memory device =
      elim cause [ inl next ↦ absurd next.2 | inr last ↦ absurd last.why ]
  all_committed ends.OutOfMemory cause memory device = absurd (memory refl)

-- ---- runs

bytes_behind : (xs ys : List CopyItem) → AreBytes (xs ++ ys) → AreBytes ys
bytes_behind [] ys are = are
bytes_behind (Wal first last payload ∷ xs) ys are = bytes_behind xs ys are.1
bytes_behind (Keepalive last reply ∷ xs) ys are = bytes_behind xs ys are
bytes_behind (Done ∷ xs) ys are = bytes_behind xs ys are

module _ (g h : Setting) (rows : Rows) (old new before after : DeviceState) (o p : Outcome) (run : IsThreadedRun g rows old new o) (alone : IsRun h rows before after p) (valid : IsValid (schema_of g) rows) (catalog : h.catalog ≡ g.catalog) (skip : h.skip ≡ g.skip) (clean : o.end ≡ ends.Clean) (same_bytes : alone.part.bytes ≡ run.part.bytes) (are : AreBytes run.part.handled) (q : Progress) (room : Leads h start_progress run.part.handled q) where
  items : alone.part.handled ++ alone.part.rest ≡ run.part.handled
  items =
      let cause = subst (IsThreadedCause run.part run.world) clean run.cause in
      alone.part.items ∙ ap copy_items same_bytes ∙ sym (all_items run.part.handled run.part.rest (copy_items run.part.bytes) run.part.items cause.0.all_handled)

  later : Leads h alone.part.progress alone.part.rest q
  later =
      leads_on h start_progress q alone.part.progress alone.part.handled alone.part.rest alone.part.lawful
      (subst (λ is. Leads h start_progress is q) (sym items) room)

  alike : Alike h run.part.progress.state q.state
  alike = (led g h start_progress start_progress run.part.progress q run.part.handled catalog skip (start_alike h) run.part.lawful room).state

  same_journal : map entry_in o.journal.items ≡ commits q.state
  same_journal = run_commits g rows old new o run ∙ sym (same_transactions h run.part.progress.state q.state alike)

  clear : AreAccepted (schema_of h) rows (committed_changes q.state)
  clear =
      subst (λ c. AreAccepted (map keys_of c) rows (committed_changes q.state)) (sym catalog)
      (subst (λ ts. AreAccepted (schema_of g) rows (changes_of_entries ts)) same_journal (run_clear g rows old new o run valid))

  pub clean_with_room : p.end ≢ ends.OutOfMemory → p.end ≢ ends.Frame Device
      → (map entry_in p.journal.items ≡ map entry_in o.journal.items)
      × (p.position ≡ o.position) × (p.tables.rows ≡ o.tables.rows)
  clean_with_room memory device =
      let sane = sane_items h start_progress alone.part.progress alone.part.handled sane_start alone.part.lawful in
      let past : q.state.past ≡ alone.part.progress.state.past =
      all_committed h rows before after alone.part q sane later clear
      (bytes_behind alone.part.handled alone.part.rest (subst AreBytes (sym items) are)) p.end alone.cause memory device in
      let journal : map entry_in p.journal.items ≡ map entry_in o.journal.items =
      alone.journal ∙ ap (map entry_of_commit) (sym past) ∙ sym same_journal in (
        journal,
        alone.position ∙ ap (λ (past : List Committed). last_end (commit_ends past)) (sym past) ∙ same_ends h run.part.progress.state q.state alike ∙ sym (run_position g rows old new o run),
        alone.tables ∙ ap (λ c. serial (map keys_of c) rows (changes_of_entries (commits alone.part.progress.state))) catalog
            ∙ ap (λ ts. serial (schema_of g) rows (changes_of_entries ts)) (sym alone.journal ∙ journal) ∙ sym (run_tables g rows old new o run valid),
      )
