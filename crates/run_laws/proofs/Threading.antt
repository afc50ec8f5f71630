-- What every run with workers leaves, and that without workers one transaction is open at most.
use Rattle.std.proofs.Common.{◌≡◌, ◌≢◌, ℕ, List, [], ◌∷◌, ◌++◌, length, Some, None, refl, sym, ap, subst, ◌∙◌, append-nil, inl, inr}
use Rattle.std.specs.Prelude.{map, ◌⊎◌, Ok}
use Rattle.std.proofs.Math.Logic.{∥∥₁_elim}
use Rattle.std.proofs.lemmas.Grind.{flat_map-append}
use Rattle.std.specs.Coded.{Coded-set}
use Rattle.std.specs.FinMap as finite
use Rattle.model.specs.declared.item.Item.{Item}
use Rattle.model.specs.Rows.{Rows, Schema, IsValid, keys_of}
use Rattle.model.specs.Effect.{serial}
use Rattle.model.specs.Survivors.{survivors, changes_of}
use Rattle.messages.proofs.Payloads.{one_message-law}
use Rattle.messages.specs.declared.message.Message.{Message}
use Rattle.frames.specs.declared.item.CopyItem.{CopyItem}
use Rattle.frames.specs.Stream.{copy_items}
use Rattle.frames.specs.declared.item.CopyItem.TheVariants.{Wal, Keepalive, Done}
use Rattle.session.specs.declared.phase.Phase.{Phase}
use Rattle.session.specs.declared.phase.Phase.TheVariants.{Outside, Begun, Block}
use Rattle.session.specs.Sized.{SizedItems, item_of}
use Rattle.session.specs.State.{Way, Direct, Worker, Spooled, Open, Committed, State, Setting, begun_at, in_block}
use Rattle.session.specs.Lawful.{Admits}
use Rattle.session.specs.Table.{step}
use Rattle.session.specs.StreamEvents.{StreamEvent, NoEvent, TransactionOpens, ItemComes, TransactionCommits, TransactionAborts, Tells}
use Rattle.run.specs.declared.end.End.TheVariants as ends
use Rattle.run.specs.declared.outcome.Outcome.{Outcome}
use Rattle.run.specs.Cause.{schema_of}
use Rattle.engine.specs.Engine.{entry_in}
use Rattle.run.specs.Commits.{entry_of_commit, commits, changes_of_entries, commit_ends}
use Rattle.model.specs.Beginning.{last_end}
use Rattle.run.specs.Devices.{DeviceState}
use Rattle.run.specs.Progress.{Progress, Leads, start_progress}
use Rattle.model.specs.Accepted.{AreAccepted}
use Rattle.world.specs.World.{Opened, Past, Entry, World, entry_of, changes_in}
use Rattle.world_parts.specs.Led.{IsLed}
use Rattle.world_parts.specs.LedLemmas.{rows_code}
use Rattle.world_parts.specs.Sound.{IsSound}
use Rattle.run_laws.proofs.Begun.{IsSane, begun, begun_in, if_direct, Moves}
use Rattle.run_laws.specs.Statements.{WorkersAlterNothing, CleanIsWithoutThreads}
use Rattle.run_laws.specs.Runs.{IsAtMostOne, IsCommitOf, CommitsNext}
use Rattle.run_laws.specs.Threads.{IsWork, work_of, done_by_commit, DoesWork, IsWorldOf}
use Rattle.run_laws.specs.ThreadedRun.{IsStuckBy, IsThreadedCause, IsThreadedRun}
use Rattle.run_laws.proofs.Alone.{survive_again}
use Rattle.run_laws.proofs.Clear.{commits_clear}
use Rattle.run_laws.proofs.Reaching.{handled_told}
use Rattle.session.proofs.Stepped.{ok_is, last_is, not_longer}
use Rattle.run_laws.proofs.Telling.{told, sane_start}
use Rattle.run_laws.proofs.Ways.{NoneWorks, Alike, without_way, led, start_alike, same_transactions}
use Rattle.std.proofs.lemmas.Simd.{map-map}

-- ---- commits

-- what survives of a transaction's work is what survives of its items
work_survives : (xid : ℕ) (way : Way) (items : SizedItems)
    → survivors xid (work_of xid way items) ≡ survivors xid (map item_of items)
work_survives xid Direct items = refl
work_survives xid Worker items = refl
work_survives xid Spooled items = survive_again xid (map item_of items)

pub entries_done : (past : List Committed) → map entry_of (map done_by_commit past) ≡ map entry_of_commit past
entries_done [] = refl
entries_done (c ∷ past) =
    ap (λ is. record { xid = c.xid; changes = changes_of is; commit = c.info.commit; end = c.info.end } ∷ map entry_of (map done_by_commit past)) (work_survives c.xid c.way c.items)
    ∙ ap (λ es. entry_of_commit c ∷ es) (entries_done past)

pub ends_done : (past : List Committed) → last_end (map (λ (p : Past). p.info.end) (map done_by_commit past)) ≡ last_end (commit_ends past)
ends_done past = ap last_end (map-map (λ (p : Past). p.info.end) done_by_commit past)

pub changes_told : (line : List Past) → changes_in line ≡ changes_of_entries (map entry_of line)
changes_told [] = refl
changes_told (p ∷ line) =
    flat_map-append (λ (q : Past). changes_of (survivors q.xid q.items)) (p ∷ []) line
    ∙ ap (λ cs. (changes_of (survivors p.xid p.items) ++ []) ++ cs) (changes_told line)
    ∙ sym (flat_map-append (λ (e : Entry). e.changes) (entry_of p ∷ []) (map entry_of line))

-- ---- the tables

pub committed_serial : (schema : Schema) (rows : Rows) (w : World) → IsValid schema rows → IsLed schema rows w
    → w.committed ≡ serial schema rows (changes_in w.line)
committed_serial schema rows w valid led =
    ∥∥₁_elim (led.sound valid) (Coded-set rows_code _ _) (λ (is : IsSound schema w).
    is.fine.serial_commits ∙ ap (λ r. serial schema r (changes_in w.line)) led.starts)

module _ (g : Setting) (rows : Rows) (old new : DeviceState) (o : Outcome) (run : IsThreadedRun g rows old new o) where
  pub run_commits : map entry_in o.journal.items ≡ commits run.part.progress.state
  run_commits =
      run.left.entries ∙ ap (map entry_of) run.is_world.line ∙ entries_done run.part.progress.state.past

  pub run_position : o.position ≡ last_end (commit_ends run.part.progress.state.past)
  run_position = run.left.position ∙ ap (λ (line : List Past). last_end (map (λ (p : Past). p.info.end) line)) run.is_world.line ∙ ends_done run.part.progress.state.past

  pub run_tables : IsValid (schema_of g) rows
      → o.tables.rows ≡ serial (schema_of g) rows (changes_of_entries (map entry_in o.journal.items))
  run_tables valid =
      run.left.tables ∙ committed_serial (schema_of g) rows run.world valid run.is_world.led
      ∙ ap (serial (schema_of g) rows) (changes_told run.world.line ∙ ap changes_of_entries (sym run.left.entries))

  -- the changes of the world's commits are those of the journal
  run_changes : changes_in run.world.line ≡ changes_of_entries (map entry_in o.journal.items)
  run_changes = changes_told run.world.line ∙ ap changes_of_entries (sym run.left.entries)

  pub run_clear : IsValid (schema_of g) rows
      → AreAccepted (schema_of g) rows (changes_of_entries (map entry_in o.journal.items))
  run_clear valid =
      subst (AreAccepted (schema_of g) rows) run_changes (commits_clear (schema_of g) rows run.world valid run.is_world.led)

-- ---- sane states

pub sane_items : (g : Setting) (p q : Progress) (items : List CopyItem) → IsSane p.state → Leads g p items q → IsSane q.state
sane_items g p q [] sane is = subst (λ (r : Progress). IsSane r.state) is sane
sane_items g p q (item ∷ items) sane is = sane_items g is.0 q items (handled_told g p is.0 item sane is.1).3 is.2

-- ---- the message that comes next commits one

-- a spooled transaction has something to do once the next message commits it
pub next_commits : (g : Setting) (s : State) (rest : List CopyItem) (xid : ℕ) (way : Way) (items : SizedItems) (work : List Item)
    → way ≡ Spooled → IsWork g s rest xid way items work → CommitsNext g s rest xid
next_commits g s rest xid Direct items work spooled is = cc
next_commits g s rest xid Worker items work spooled is = cc
next_commits g s [] xid Spooled items work spooled is = absurd is
next_commits g s (Wal first last payload ∷ rest) xid Spooled items work spooled is = is.0
next_commits g s (Keepalive last reply ∷ rest) xid Spooled items work spooled is = absurd is
next_commits g s (Done ∷ rest) xid Spooled items work spooled is = absurd is

-- the transaction that a commit closes, with what is final of its items
abbrev pub IsClosing : State → Committed → Type 0
IsClosing s c =
    (items : SizedItems) × (finite.get s.transactions c.xid ≡ Some (record { way = c.way; items = items }))
    × ((c.items ≡ items) ⊎ ((c.way ≡ Spooled) × (c.items ≡ [])))

module _ (g : Setting) (s : State) (payload : List ℕ) where
  pub one_state : (m n : Message) (t u : State) → Admits g s payload m t → Admits g s payload n u → t ≡ u
  one_state m n t u first second =
      let same : n ≡ m = one_message-law payload (in_block s.phase) n m second.spelled first.spelled in
      ok_is t u (sym first.stepped ∙ subst (λ (a : Message). step g s (length payload) a ≡ Ok u) same second.stepped)

  pub one_commit : (xid other : ℕ) → IsCommitOf g s payload xid → IsCommitOf g s payload other → xid ≡ other
  one_commit xid other first second =
      let same : first.state ≡ second.state = one_state first.message second.message first.state second.state first.admits second.admits in
      let c : first.committed ≡ second.committed =
      last_is s.past first.committed second.committed (sym first.past ∙ ap (λ (t : State). t.past) same ∙ second.past) in
      sym first.xid_is ∙ ap (λ (d : Committed). d.xid) c ∙ second.xid_is

  -- what a commit tells
  commit_told : (xid : ℕ) (by : IsCommitOf g s payload xid) (what : StreamEvent) → Tells s by.state what → Moves s by.state what
      → (begun s ≡ if_direct by.committed.xid by.committed.way by.committed.items) × IsClosing s by.committed
  commit_told xid by NoEvent tells moves = absurd (not_longer s.past by.committed (sym by.past ∙ tells.past))
  commit_told xid by (TransactionOpens x way) tells moves = absurd (not_longer s.past by.committed (sym by.past ∙ tells.past))
  commit_told xid by (ItemComes x way item size) tells moves = absurd (not_longer s.past by.committed (sym by.past ∙ tells.2.past))
  commit_told xid by (TransactionAborts x way) tells moves = absurd (not_longer s.past by.committed (sym by.past ∙ tells.2.past))
  commit_told xid by (TransactionCommits c) tells moves =
      let same : c ≡ by.committed = last_is s.past c by.committed (sym tells.past ∙ by.past) in (
        moves.0 ∙ ap (λ (d : Committed). if_direct d.xid d.way d.items) same,
        subst (IsClosing s) same (tells.items, tells.present, tells.final),
      )

  pub commits_open : (xid : ℕ) → IsSane s → (by : IsCommitOf g s payload xid)
      → (begun s ≡ if_direct by.committed.xid by.committed.way by.committed.items) × IsClosing s by.committed
  commits_open xid sane by =
      let what = told g s by.state (length payload) by.message sane by.admits.stepped in
      commit_told xid by what.0 what.1 what.2

  -- a spooled one commits where none was begun
  pub commits_outside : (xid : ℕ) (o : Open) → IsSane s → IsCommitOf g s payload xid
      → finite.get s.transactions xid ≡ Some o → o.way ≡ Spooled → begun s ≡ None
  commits_outside xid o sane by at spooled =
      let is = commits_open xid sane by in
      let there : finite.get s.transactions xid ≡ Some (record { way = by.committed.way; items = is.1.0 }) =
      subst (λ x. finite.get s.transactions x ≡ Some (record { way = by.committed.way; items = is.1.0 })) by.xid_is is.1.1 in
      is.0 ∙ ap (λ (way : Way). if_direct by.committed.xid way by.committed.items) (way_is by.committed.way is.1.0 o (sym there ∙ at) ∙ spooled)
    where
      way_is : (way : Way) (items : SizedItems) (o : Open) → Some (record { way = way; items = items }) ≡ Some o → way ≡ o.way
      way_is way items o e = cc

-- ---- without workers

none_begun : (s : State) (xid : ℕ) → begun s ≡ None → begun_at s.phase ≡ Some xid → ⊥
none_begun s xid = by_phase s.phase
  where
    by_phase : (p : Phase) → begun_in p s.transactions ≡ None → begun_at p ≡ Some xid → ⊥
    by_phase Outside none is = cc
    by_phase (Begun x final) none is = cc
    by_phase (Block x) none is = cc

-- how a transaction came to be open in the world
abbrev IsItsTurn : Setting → State → List CopyItem → ℕ → Type 0
IsItsTurn g s rest xid =
    (begun_at s.phase ≡ Some xid)
    ⊎ ((o : Open) × (finite.get s.transactions xid ≡ Some o) × (o.way ≡ Spooled) × CommitsNext g s rest xid)

its_turn : (g : Setting) (rows : Rows) (s : State) (rest : List CopyItem) (w : World) → IsSane s → NoneWorks s.transactions
    → IsWorldOf g rows s rest w → (xid : ℕ) (d : Opened) → finite.get w.opened xid ≡ Some d → IsItsTurn g s rest xid
its_turn g rows s rest w sane none is xid d at =
    let there = is.opened xid d at in by_way there.0 there.0.way refl there.1 there.2
  where
    by_way : (o : Open) (way : Way) → o.way ≡ way → finite.get s.transactions xid ≡ Some o → DoesWork g s rest xid o d
        → IsItsTurn g s rest xid
    by_way o Direct e there does = inl (sane.alone xid o there e)
    by_way o Worker e there does = absurd (none xid o there e)
    by_way o Spooled e there does = inr (o, there, e, next_commits g s rest xid o.way o.items does.work e does.is_work)

not_both : (g : Setting) (s : State) (rest : List CopyItem) (xid other : ℕ) (o : Open) → IsSane s
    → begun_at s.phase ≡ Some xid → finite.get s.transactions other ≡ Some o → o.way ≡ Spooled
    → CommitsNext g s rest other → ⊥
not_both g s [] xid other o sane begun at spooled next = next
not_both g s (Wal first last payload ∷ rest) xid other o sane begun at spooled next =
    none_begun s xid (commits_outside g s payload other o sane next at spooled) begun
not_both g s (Keepalive last reply ∷ rest) xid other o sane begun at spooled next = next
not_both g s (Done ∷ rest) xid other o sane begun at spooled next = next

one_next : (g : Setting) (s : State) (rest : List CopyItem) (xid other : ℕ) → CommitsNext g s rest xid
    → CommitsNext g s rest other → xid ≡ other
one_next g s [] xid other first second = absurd first
one_next g s (Wal start last payload ∷ rest) xid other first second = one_commit g s payload xid other first second
one_next g s (Keepalive last reply ∷ rest) xid other first second = absurd first
one_next g s (Done ∷ rest) xid other first second = absurd first

one_turn : (g : Setting) (s : State) (rest : List CopyItem) (xid other : ℕ) → IsSane s → IsItsTurn g s rest xid
    → IsItsTurn g s rest other → xid ≡ other
one_turn g s rest xid other sane first second =
    elim first [
      | inl begun ↦
          elim second [
            | inl too ↦ same (sym begun ∙ too)
            | inr next ↦ absurd (not_both g s rest xid other next.0 sane begun next.1 next.2 next.3)
          ]
      | inr next ↦
          elim second [
            | inl begun ↦ absurd (not_both g s rest other xid next.0 sane begun next.1 next.2 next.3)
            | inr too ↦ one_next g s rest xid other next.3 too.3
          ]
    ]
  where
    same : Some xid ≡ Some other → xid ≡ other
    same e = cc

pub none_works : (g : Setting) (items : List CopyItem) (p : Progress) → g.workers ≡ 0 → Leads g start_progress items p
    → NoneWorks p.state.transactions
none_works g items p zero is =
    (led g g start_progress start_progress p p items refl refl (start_alike g) is is).state.ways zero

pub at_most_one : (g : Setting) (rows : Rows) (items rest : List CopyItem) (p : Progress) (w : World) → g.workers ≡ 0
    → Leads g start_progress items p → IsWorldOf g rows p.state rest w → IsAtMostOne w.opened
at_most_one g rows items rest p w zero is of xid other o q at there =
    let sane = sane_items g start_progress p items sane_start is in
    let none = none_works g items p zero is in
    one_turn g p.state rest xid other sane (its_turn g rows p.state rest w sane none of xid o at)
    (its_turn g rows p.state rest w sane none of other q there)

pub not_stuck : (g : Setting) (s : State) (rest : List CopyItem) (w : World) (xid holder : ℕ) → IsAtMostOne w.opened
    → IsStuckBy g s rest w xid holder → ⊥
not_stuck g s rest w xid holder alone stuck =
    let held = stuck.waits.waits.so in
    held.0 (sym (alone xid holder stuck.waits.waits.transaction held.1 stuck.waits.waits.present held.2))

pub one_open : (g : Setting) (rows : Rows) (old new : DeviceState) (o : Outcome) (run : IsThreadedRun g rows old new o)
    → g.workers ≡ 0 → IsAtMostOne run.world.opened × ((xid holder : ℕ) → o.end ≢ ends.HeldKey xid holder)
one_open g rows old new o run zero =
    let alone = at_most_one g rows run.part.handled run.part.rest run.part.progress run.world zero run.part.lawful run.is_world in (
      alone,
      λ xid holder e.
          let cause = subst (IsThreadedCause run.part run.world) e run.cause in
          not_stuck g run.part.progress.state run.part.rest run.world xid holder alone cause.1,
    )

-- ---- with workers and without

pub workers_alter : WorkersAlterNothing
workers_alter g h items p q catalog skip is there =
    let same = led g h start_progress start_progress p q items catalog skip (start_alike h) is there in
    (same_transactions h p.state q.state same.state, same.state.position, same.seen, same.updates)

pub same_ends : (h : Setting) (s t : State) → Alike h s t → last_end (commit_ends t.past) ≡ last_end (commit_ends s.past)
same_ends h s t alike = ends_without t.past ∙ ap (λ (past : List Committed). last_end (commit_ends past)) alike.past ∙ sym (ends_without s.past)
  where
    ends_without : (past : List Committed) → last_end (commit_ends past) ≡ last_end (commit_ends (map without_way past))
    ends_without past = ap last_end (sym (map-map (λ (c : Committed). c.info.end) without_way past))

pub all_items : (handled rest items : List CopyItem) → handled ++ rest ≡ items → rest ≡ [] → handled ≡ items
all_items handled rest items all none = sym (append-nil handled) ∙ ap (λ more. handled ++ more) (sym none) ∙ all

pub clean_alone : CleanIsWithoutThreads
clean_alone g h rows old new before after o p run alone valid catalog skip clean bytes none =
    let cause = subst (IsThreadedCause run.part run.world) clean run.cause in
    let items : alone.part.handled ≡ run.part.handled =
    all_items alone.part.handled alone.part.rest (copy_items run.part.bytes) (alone.part.items ∙ ap copy_items bytes) none
    ∙ sym (all_items run.part.handled run.part.rest (copy_items run.part.bytes) run.part.items cause.0.all_handled) in
    let same = led g h start_progress start_progress run.part.progress alone.part.progress run.part.handled catalog skip (start_alike h) run.part.lawful
    (subst (λ is. Leads h start_progress is alone.part.progress) items alone.part.lawful) in
    let commits_same = same_transactions h run.part.progress.state alone.part.progress.state same.state in
    let journal_same : map entry_in p.journal.items ≡ map entry_in o.journal.items =
    alone.journal ∙ commits_same ∙ sym (run_commits g rows old new o run) in (
      journal_same,
      alone.position ∙ same_ends h run.part.progress.state alone.part.progress.state same.state ∙ sym (run_position g rows old new o run),
      alone.tables ∙ ap (λ c. serial (map keys_of c) rows (changes_of_entries (commits alone.part.progress.state))) catalog
          ∙ ap (λ ts. serial (schema_of g) rows (changes_of_entries ts)) (sym alone.journal ∙ journal_same) ∙ sym (run_tables g rows old new o run valid),
      same.updates,
    )
