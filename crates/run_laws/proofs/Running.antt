-- The world that a run is.
use Rattle.std.proofs.Common.{◌≡◌, ℕ, true, false, List, [], ◌∷◌, ◌++◌, length, Option, Some, None, refl, sym, ap, subst, ◌∙◌, append-nil, arith, inl, inr}
use Rattle.std.specs.Prelude.{map, nat_lt, ◌⊎◌}
use Rattle.messages.specs.declared.message.Message.{Message}
use Rattle.std.proofs.lemmas.Bool.{le-ltb}
use Rattle.model.specs.declared.change.Change as change_type
use Rattle.model.specs.declared.item.Item.{Item}
use Rattle.model.specs.declared.item.Item.TheVariants.{Change, Touch, BackTo, Last}
use Rattle.model.specs.Rows.{Rows, Schema}
use Rattle.model.specs.Effect.{ClashCause, NullKey, Unique, Clashes, outcome, serial}
use Rattle.model.specs.Survivors.{survivors, changes_of}
use Rattle.change.specs.declared.outcome.Clash.{Clash}
use Rattle.change.specs.declared.outcome.Clash.TheVariants as clashes
use Rattle.frames.specs.declared.fault.FrameFault.TheVariants.{Device}
use Rattle.frames.specs.declared.item.CopyItem.{CopyItem}
use Rattle.frames.specs.declared.item.CopyItem.TheVariants.{Wal, Keepalive, Done}
use Rattle.session.specs.Sized.{item_of}
use Rattle.session.specs.State.{Way, Direct, Worker, Spooled, Committed, State, Setting}
use Rattle.session.specs.Lawful.{Admits}
use Rattle.session.specs.StreamEvents.{StreamEvent, NoEvent, TransactionOpens, ItemComes, TransactionCommits, TransactionAborts, Tells, IsChange}
use Rattle.run.specs.declared.end.End.{End}
use Rattle.run.specs.declared.end.End.TheVariants as ends
use Rattle.run.specs.declared.outcome.Outcome.{Outcome}
use Rattle.run.specs.Commits.{entry_of_commit, committed_changes, all_changes, commit_ends}
use Rattle.model.specs.Beginning.{last_end}
use Rattle.change.specs.Refusal.{ClashesAs}
use Rattle.engine.specs.FirstClash.{ClashesIn}
use Rattle.model.specs.Accepted.{AreAccepted}
use Rattle.run.specs.Progress.{commits_from}
use Rattle.run.specs.Cause.{schema_of, IsCause, HasNotClashed, LastClashed, NextClashes, IsNext}
use Rattle.run.specs.Devices.{DeviceState}
use Rattle.run.specs.Run.{IsRun}
use Rattle.run.specs.StreamPart.{StreamPart}
use Rattle.std.specs.Ordering.{nat_cmp}
use Rattle.std.specs.FinMap.{get, get-empty}
use Rattle.model.specs.SurvivorLemmas.{survivors_with}
use Rattle.world.specs.ListingLemmas.{xid_cases, got_other}
use Rattle.world.specs.World.{Opened, OpenOnes, Past, World, starting, entry_of, journal, changes_in, ends_of}
use Rattle.world.specs.Steps.{Reaches, by_step}
use Rattle.run_laws.proofs.Begun.{IsSane, begun, if_direct, Moves}
use Rattle.run_laws.proofs.WorldAt.{committed_past, open_ones, world_at, TellsRun, conflict, IsTurnOf, IsStoppedBy}
use Rattle.run_laws.specs.Runs.{IsAtMostOne, DoesAtCommit}
use Rattle.run_laws.proofs.Telling.{told}
use Rattle.run_laws.proofs.Alone.{plain_survivors, survive_again, none, one, at, seen, stops, step_opens, comes_to, ClashesFirst, first_of_split, first_behind, first_in_clear}
use Rattle.run_laws.proofs.Reaching.{done, all_done, work_same, stands, IsAt, world_is, done_at, with_change, seen_done, done_with, handled_told, reached, reached_at}
use Rattle.std.proofs.lemmas.Simd.{map-map}

-- ---- a run and the world of a state

entries_same : (past : List Committed) → map entry_of_commit past ≡ map entry_of (map committed_past past)
entries_same [] = refl
entries_same (c ∷ past) =
    ap (λ cs. record { xid = c.xid; changes = cs; commit = c.info.commit; end = c.info.end } ∷ map entry_of_commit past) (sym (ap changes_of (survive_again c.xid (map item_of c.items))))
    ∙ ap (λ es. entry_of (committed_past c) ∷ es) (entries_same past)

ends_same : (past : List Committed) → last_end (commit_ends past) ≡ last_end (map (λ (p : Past). p.info.end) (map committed_past past))
ends_same past = ap last_end (sym (map-map (λ (p : Past). p.info.end) committed_past past))

-- a world with the commits of a state tells of the run
tells_of : (g : Setting) (rows : Rows) (old new : DeviceState) (o : Outcome) (run : IsRun g rows old new o)
    (m : OpenOnes) (w : World) → IsAtMostOne m
    → w ≡ at (schema_of g) rows (map committed_past run.part.progress.state.past) m
    → Reaches (schema_of g) (starting rows) w → TellsRun g rows run.part.progress.state o w
tells_of g rows old new o run m w alone is reached = record {
  reached = reached;
  line = ap (λ (v : World). v.line) is;
  left = record {
    entries = run.journal ∙ entries_same run.part.progress.state.past ∙ sym (ap journal is);
    position = run.position ∙ ends_same run.part.progress.state.past ∙ sym (ap (λ (v : World). last_end (ends_of v)) is);
    tables =
        run.tables ∙ ap (serial (schema_of g) rows) (sym (work_same run.part.progress.state.past)) ∙ sym (ap (λ (v : World). v.committed) is);
  };
  alone = subst IsAtMostOne (sym (ap (λ (v : World). v.opened) is)) alone;
  running = ap (λ (v : World). v.stopped) is;
}

pub none_is : (p : Opened) → None ≡ Some p → ⊥
none_is p e = cc

none_open : IsAtMostOne none
none_open xid other o p first second = absurd (none_is o (sym (get-empty nat_cmp xid) ∙ first))

in_one : (xid : ℕ) (items : List Item) (x : ℕ) (o : Opened) → get (one xid items) x ≡ Some o → x ≡ xid
in_one xid items x o there =
    elim (xid_cases x xid) [
      | inl is ↦ is
      | inr differs ↦ absurd (none_is o (sym (get-empty nat_cmp x) ∙ sym (got_other none xid (record { items = items; wants = None }) x differs) ∙ there))
    ]

one_open : (xid : ℕ) (items : List Item) → IsAtMostOne (one xid items)
one_open xid items x y o p first second = in_one xid items x o first ∙ sym (in_one xid items y p second)

pub begun_open : (b : Option (ℕ × List Item)) → IsAtMostOne (open_ones b)
begun_open None = none_open
begun_open (Some b) = one_open b.0 (survivors b.0 b.1)

-- ---- no conflict

module _ (g : Setting) (rows : Rows) (old new : DeviceState) (part : StreamPart g old new) where
  clear_at : (end : End) → IsCause rows part end → conflict end ≡ None
      → AreAccepted (schema_of g) rows (all_changes part.progress.state)
  clear_at ends.Clean cause e = cause.0
  clear_at (ends.Frame Device) cause e = cause.0
  clear_at (ends.Frame fault) cause e = cause.0
  clear_at (ends.Msg fault) cause e = elim cause [ inl next ↦ next.0 | inr last ↦ absurd last.why ]
  clear_at (ends.Session fault) cause e = elim cause [ inl next ↦ next.0 | inr last ↦ absurd last.why ]
  clear_at (ends.Rel fault) cause e = elim cause [ inl next ↦ next.0 | inr last ↦ absurd last.why ]
  clear_at (ends.Unique table key) cause e = cc
  clear_at (ends.NullKey table) cause e = cc
  clear_at (ends.HeldKey xid holder) cause e = elim cause [ inl next ↦ next.0 | inr last ↦ absurd last.why ]
  clear_at ends.OutOfMemory cause e = cause.0

  -- no change clashed, or one that the last item brought
  pub clear_or_last : (end : End) → IsCause rows part end → HasNotClashed rows part ⊎ LastClashed rows part end
  clear_or_last (ends.Unique table key) cause = elim cause [ inl next ↦ inl next.0 | inr last ↦ inr last ]
  clear_or_last (ends.NullKey table) cause = elim cause [ inl next ↦ inl next.0 | inr last ↦ inr last ]
  clear_or_last end cause = inl (clear_at end cause refl)

pub run_reached : (g : Setting) (rows : Rows) (old new : DeviceState) (o : Outcome) (run : IsRun g rows old new o)
    → conflict o.end ≡ None
    → TellsRun g rows run.part.progress.state o (world_at (schema_of g) rows run.part.progress.state)
run_reached g rows old new o run e =
    tells_of g rows old new o run (open_ones (begun run.part.progress.state)) (world_at (schema_of g) rows run.part.progress.state) (begun_open (begun run.part.progress.state)) (world_is (schema_of g) rows (starting rows) run.part.progress.state)
    (reached g (schema_of g) rows run.part.handled run.part.progress run.part.lawful
    (clear_at g rows old new run.part o.end run.cause e))

-- ---- a conflict

-- the clash for this cause
abbrev pub clash_of : ClashCause → Clash
clash_of (Unique table key) = clashes.Unique table key
clash_of (NullKey table) = clashes.NullKey table

clashes_as : (schema : Schema) (rows : Rows) (c : change_type.Change) (cause : ClashCause)
    → ClashesAs schema rows c (clash_of cause) → outcome schema rows c ≡ Clashes cause
clashes_as schema rows c (Unique table key) is = is
clashes_as schema rows c (NullKey table) is = is

pub first_in : (schema : Schema) (rows : Rows) (cs : List change_type.Change) (cause : ClashCause)
    → ClashesIn schema rows cs (clash_of cause) → ClashesFirst schema rows cs cause
first_in schema rows cs cause is =
    subst (λ ds. ClashesFirst schema rows ds cause) (sym is.split)
    (first_of_split schema rows is.before is.change is.after cause is.clear (clashes_as schema (serial schema rows is.before) is.change cause is.refused))

-- A world with these commits, in which one transaction is open, is stopped so, by one whose turn it is.
abbrev Stops : Schema → Rows → List Committed → ClashCause → (ℕ → List Item → Type 0) → Type 0
Stops schema rows past cause Turn =
    (m : OpenOnes) × IsAtMostOne m × Reaches schema (starting rows) (at schema rows (map committed_past past) m)
    × (xid : ℕ) × (work : List Item) × Turn xid work
    × IsStoppedBy schema (at schema rows (map committed_past past) m) xid work cause

stops_in_turn : (schema : Schema) (rows : Rows) (past : List Committed) (cause : ClashCause)
    (Turn Other : ℕ → List Item → Type 0) → ((xid : ℕ) (work : List Item) → Turn xid work → Other xid work)
    → Stops schema rows past cause Turn → Stops schema rows past cause Other
stops_in_turn schema rows past cause Turn Other is stops =
    (stops.0, stops.1, stops.2, stops.3, stops.4, is stops.3 stops.4 stops.5, stops.6)

-- it is that of the transaction that was begun
abbrev BegunTurn : State → ℕ → List Item → Type 0
BegunTurn s xid work = (items : List Item) × (begun s ≡ Some (xid, items)) × (survivors xid items ≡ work)

-- it is that of the transaction that is committed then
abbrev NextTurn : State → State → ℕ → List Item → Type 0
NextTurn s t xid work =
    (c : Committed) × (t.past ≡ s.past ++ c ∷ []) × (c.xid ≡ xid) × (survivors xid (map item_of c.items) ≡ work)

module _ (schema : Schema) (rows : Rows) (cause : ClashCause) where
  -- the changes of a state clash
  abbrev Clashing : State → Type 0
  Clashing s = ClashesFirst schema rows (done s.past (begun s)) cause

  -- those of another are clear
  abbrev Clear : State → Type 0
  Clear s = AreAccepted schema rows (done s.past (begun s))

  -- ---- the change that came last

  same_changes : (s t : State) → done t.past (begun t) ≡ done s.past (begun s) → Clear s → Clashing t → ⊥
  same_changes s t e clear clash =
      first_in_clear schema rows (done s.past (begun s)) cause clear (subst (λ cs. ClashesFirst schema rows cs cause) e clash)

  stays_clear : (s t : State) → t.past ≡ s.past → begun t ≡ begun s → Clear s → Clashing t → ⊥
  stays_clear s t past same = same_changes s t (done_at t s.past _ past same)

  opens_clear : (s t : State) (xid : ℕ) → t.past ≡ s.past → begun s ≡ None → begun t ≡ Some (xid, [])
      → Clear s → Clashing t → ⊥
  opens_clear s t xid past was is = same_changes s t (done_at t s.past _ past is ∙ sym (ap (done s.past) was))

  only_one : (at : Rows) (c : change_type.Change) → ClashesFirst schema at (c ∷ []) cause
      → outcome schema at c ≡ Clashes cause
  only_one at c clash = elim clash [ inl e ↦ e | inr none ↦ absurd none.1 ]

  last_change : (s t : State) (xid : ℕ) (item : Item) (items : List Item) → IsChange item → t.past ≡ s.past
      → begun s ≡ Some (xid, items) → begun t ≡ Some (xid, items ++ item ∷ []) → Clear s → Clashing t
      → IsAt schema rows (starting rows) s → Stops schema rows t.past cause (BegunTurn t)
  last_change s t xid (Touch sub) items change past was is clear clash reached = absurd change
  last_change s t xid (BackTo sub) items change past was is clear clash reached = absurd change
  last_change s t xid Last items change past was is clear clash reached = absurd change
  last_change s t xid (Change sub c) items change past was is clear clash reached =
      let line = map committed_past s.past in
      let survived = survivors xid items in
      let more : done t.past (begun t) ≡ done s.past (Some (xid, items)) ++ c ∷ [] =
      done_at t s.past _ past is ∙ with_change s.past xid sub items c in
      let before : AreAccepted schema rows (done s.past (Some (xid, items))) =
      subst (λ b. AreAccepted schema rows (done s.past b)) was clear in
      let behind : ClashesFirst schema (serial schema rows (done s.past (Some (xid, items)))) (c ∷ []) cause =
      first_behind schema rows (done s.past (Some (xid, items))) (c ∷ []) cause before (subst (λ cs. ClashesFirst schema rows cs cause) more clash) in
      let here : ClashesFirst schema (seen schema rows line xid survived) (c ∷ []) cause =
      subst (λ r. ClashesFirst schema r (c ∷ []) cause) (seen_done schema rows s.past xid items) behind in
      let work = survivors xid (items ++ Change sub c ∷ []) in
      let stopped : IsStoppedBy schema (at schema rows line (one xid survived)) xid work cause =
      stops schema rows line xid survived sub c [] work cause (sym (survivors_with xid items (Change sub c))) (only_one (seen schema rows line xid survived) c here) in
      let P : World → Type 0 = λ w. Reaches schema (starting rows) w in
      subst (λ (q : List Committed). Stops schema rows q cause (BegunTurn t)) (sym past) (
        one xid survived,
        one_open xid survived,
        subst P (ap (stands schema rows (starting rows) s.past) was) reached,
        xid,
        work,
        (items ++ Change sub c ∷ [], is, refl),
        stopped,
      )

  commit_clear : (t : State) → begun t ≡ None → AreAccepted schema rows (committed_changes t) → Clashing t → ⊥
  commit_clear t is clear clash =
      let same : done t.past (begun t) ≡ committed_changes t = ap (done t.past) is ∙ append-nil _ ∙ work_same t.past in
      first_in_clear schema rows (committed_changes t) cause clear (subst (λ cs. ClashesFirst schema rows cs cause) same clash)

  last_told : (s t : State) (what : StreamEvent) → Tells s t what → Moves s t what → Clear s
      → AreAccepted schema rows (committed_changes t) → Clashing t
      → IsAt schema rows (starting rows) s → Stops schema rows t.past cause (BegunTurn t)
  last_told s t NoEvent tells moves clear committed clash reached =
      absurd (stays_clear s t tells.past moves clear clash)
  last_told s t (TransactionOpens xid Direct) tells moves clear committed clash reached = absurd (opens_clear s t xid tells.past moves.0 moves.1 clear clash)
  last_told s t (TransactionOpens xid Worker) tells moves clear committed clash reached = absurd (stays_clear s t tells.past moves clear clash)
  last_told s t (TransactionOpens xid Spooled) tells moves clear committed clash reached = absurd (stays_clear s t tells.past moves clear clash)
  last_told s t (ItemComes xid Direct item size) tells moves clear committed clash reached = last_change s t xid item moves.1 moves.0 tells.2.past moves.2 moves.3 clear clash reached
  last_told s t (ItemComes xid Worker item size) tells moves clear committed clash reached = absurd (stays_clear s t tells.2.past moves clear clash)
  last_told s t (ItemComes xid Spooled item size) tells moves clear committed clash reached = absurd (stays_clear s t tells.2.past moves clear clash)
  last_told s t (TransactionCommits c) tells moves clear committed clash reached = absurd (commit_clear t moves.1 committed clash)
  last_told s t (TransactionAborts xid Direct) tells moves clear committed clash reached = absurd moves
  last_told s t (TransactionAborts xid Worker) tells moves clear committed clash reached = absurd (stays_clear s t tells.2.past moves clear clash)
  last_told s t (TransactionAborts xid Spooled) tells moves clear committed clash reached = absurd (stays_clear s t tells.2.past moves clear clash)

  -- ---- the commit that comes next

  closes_clear : (s t : State) (c : Committed) → t.past ≡ s.past ++ c ∷ []
      → begun s ≡ Some (c.xid, map item_of c.items) → begun t ≡ None → Clear s → Clashing t → ⊥
  closes_clear s t c past was is =
      same_changes s t (done_at t (s.past ++ c ∷ []) None past is ∙ done_with schema rows (starting rows) s.past c ∙ sym (ap (done s.past) was))

  next_streamed : (s t : State) (c : Committed) → t.past ≡ s.past ++ c ∷ [] → begun s ≡ None
      → begun t ≡ None → Clear s → Clashing t → IsAt schema rows (starting rows) s
      → Stops schema rows s.past cause (NextTurn s t)
  next_streamed s t c past was is clear clash reached =
      let line = map committed_past s.past in
      let survived = survivors c.xid (map item_of c.items) in
      let more : done t.past (begun t) ≡ changes_in line ++ changes_of survived =
      done_at t (s.past ++ c ∷ []) None past is ∙ done_with schema rows (starting rows) s.past c in
      let before : AreAccepted schema rows (changes_in line) =
      subst (AreAccepted schema rows) (ap (done s.past) was ∙ append-nil _) clear in
      let behind : ClashesFirst schema (serial schema rows (changes_in line)) (changes_of survived) cause =
      first_behind schema rows (changes_in line) (changes_of survived) cause before (subst (λ cs. ClashesFirst schema rows cs cause) more clash) in
      let P : World → Type 0 = λ w. Reaches schema (starting rows) w in
      let opened : Reaches schema (starting rows) (at schema rows line (one c.xid [])) =
      by_step (at schema rows line none) (at schema rows line (one c.xid [])) (subst P (ap (stands schema rows (starting rows) s.past) was) reached) (step_opens schema rows line c.xid) in
      let came = comes_to schema rows (starting rows) line c.xid [] survived survived cause refl (plain_survivors c.xid (map item_of c.items)) behind opened in
      (one c.xid came.0, one_open c.xid came.0, came.1, c.xid, survived, (c, past, refl, refl), came.2)

  next_by : (s t : State) (c : Committed) (way : Way) → t.past ≡ s.past ++ c ∷ []
      → begun s ≡ if_direct c.xid way c.items → begun t ≡ None → Clear s → Clashing t
      → IsAt schema rows (starting rows) s → Stops schema rows s.past cause (NextTurn s t)
  next_by s t c Direct past was is clear clash reached = absurd (closes_clear s t c past was is clear clash)
  next_by s t c Worker past was is clear clash reached = next_streamed s t c past was is clear clash reached
  next_by s t c Spooled past was is clear clash reached = next_streamed s t c past was is clear clash reached

  -- ---- the end of a run

  pub not_more : (s t : State) → t.past ≡ s.past → commits_from s t ≡ true → ⊥
  not_more s t past more =
      let no : true ≡ false = sym more ∙ ap (λ p. nat_lt (length s.past) (length p)) past ∙ le-ltb (length s.past) (length s.past) (omega arith) in cc

  next_told : (s t : State) (what : StreamEvent) → Tells s t what → Moves s t what → commits_from s t ≡ true
      → Clear s → Clashing t
      → IsAt schema rows (starting rows) s → Stops schema rows s.past cause (NextTurn s t)
  next_told s t NoEvent tells moves more clear clash reached = absurd (not_more s t tells.past more)
  next_told s t (TransactionOpens xid way) tells moves more clear clash reached = absurd (not_more s t tells.past more)
  next_told s t (ItemComes xid way item size) tells moves more clear clash reached = absurd (not_more s t tells.2.past more)
  next_told s t (TransactionCommits c) tells moves more clear clash reached = next_by s t c c.way tells.past moves.0 moves.1 clear clash reached
  next_told s t (TransactionAborts xid way) tells moves more clear clash reached = absurd (not_more s t tells.2.past more)

  clashing : (s : State) → ClashesIn schema rows (all_changes s) (clash_of cause) → Clashing s
  clashing s is =
      subst (λ cs. ClashesFirst schema rows cs cause) (all_done s) (first_in schema rows (all_changes s) cause is)

  clear_of : (s : State) → AreAccepted schema rows (all_changes s) → Clear s
  clear_of s clear = subst (AreAccepted schema rows) (all_done s) clear

  next_stops : (g : Setting) (s : State) (rest : List CopyItem) → IsSane s → Clear s
      → IsAt schema rows (starting rows) s
      → IsNext rest (λ payload. (m : Message) × (t : State) × Admits g s payload m t × (commits_from s t ≡ true) × ClashesIn schema rows (all_changes t) (clash_of cause))
      → Stops schema rows s.past cause (λ xid work. IsNext rest (λ payload. DoesAtCommit g s payload xid work))
  next_stops g s [] sane clear reached next = absurd next
  next_stops g s (Wal first last payload ∷ rest) sane clear reached next =
      let what = told g s next.1 (length payload) next.0 sane next.2.stepped in
      stops_in_turn schema rows s.past cause (NextTurn s next.1) (λ xid work. DoesAtCommit g s payload xid work)
      (λ xid work turn. (
        record { message = next.0; state = next.1; admits = next.2; committed = turn.0; past = turn.1; xid_is = turn.2 },
        turn.3,
      ))
      (next_told s next.1 what.0 what.1 what.2 next.3 clear (clashing next.1 next.4) reached)
  next_stops g s (Keepalive last reply ∷ rest) sane clear reached next = absurd next
  next_stops g s (Done ∷ rest) sane clear reached next = absurd next

-- ---- why a run ended

module _ (g : Setting) (rows : Rows) (old new : DeviceState) (part : StreamPart g old new) (cause : ClashCause) where
  -- where it stands, and what is left
  abbrev s : State
  s = part.progress.state

  abbrev rest : List CopyItem
  rest = part.rest

  next_clashed : HasNotClashed rows part → NextClashes g rows s rest (clash_of cause)
      → Stops (schema_of g) rows s.past cause (IsTurnOf g s rest)
  next_clashed clear next =
      let was = reached_at g (schema_of g) rows part.handled part.progress part.lawful clear in
      stops_in_turn (schema_of g) rows s.past cause (λ xid work. IsNext rest (λ payload. DoesAtCommit g s payload xid work)) (IsTurnOf g s rest) (λ xid work turn. inr turn)
      (next_stops (schema_of g) rows cause g s rest was.1 (clear_of (schema_of g) rows cause s clear) was.0 next)

  last_clashed : (end : End) → LastClashed rows part end → ClashesIn (schema_of g) rows (all_changes s) (clash_of cause)
      → Stops (schema_of g) rows s.past cause (IsTurnOf g s rest)
  last_clashed end is clash =
      let past = is.last.past in
      let was = reached_at g (schema_of g) rows is.last.before past is.last.lawful is.clear in
      let what = handled_told g past part.progress is.last.item was.1 is.last.step in
      stops_in_turn (schema_of g) rows s.past cause (BegunTurn s) (IsTurnOf g s rest) (λ xid work turn. inl turn)
      (last_told (schema_of g) rows cause past.state s what.0 what.1 what.2 (clear_of (schema_of g) rows cause past.state is.clear) is.committed (clashing (schema_of g) rows cause s clash) was.0)

conflict_is : (one other : ClashCause) → Some one ≡ Some other → one ≡ other
conflict_is one other e = cc

ended : (g : Setting) (rows : Rows) (old new : DeviceState) (part : StreamPart g old new) (end : End) → IsCause rows part end
    → (cause : ClashCause) → conflict end ≡ Some cause
    → Stops (schema_of g) rows part.progress.state.past cause (IsTurnOf g part.progress.state part.rest)
ended g rows old new part ends.Clean is cause e = cc
ended g rows old new part (ends.Frame fault) is cause e = cc
ended g rows old new part (ends.Msg fault) is cause e = cc
ended g rows old new part (ends.Session fault) is cause e = cc
ended g rows old new part (ends.Rel fault) is cause e = cc
ended g rows old new part (ends.Unique table key) is cause e =
    subst (λ (of : ClashCause). Stops (schema_of g) rows part.progress.state.past of (IsTurnOf g part.progress.state part.rest)) (conflict_is (Unique table key) cause e)
    (elim is [
      | inl next ↦ next_clashed g rows old new part (Unique table key) next.0 next.2
      | inr last ↦ last_clashed g rows old new part (Unique table key) (ends.Unique table key) last last.why
    ])
ended g rows old new part (ends.NullKey table) is cause e =
    subst (λ (of : ClashCause). Stops (schema_of g) rows part.progress.state.past of (IsTurnOf g part.progress.state part.rest)) (conflict_is (NullKey table) cause e)
    (elim is [
      | inl next ↦ next_clashed g rows old new part (NullKey table) next.0 next.2
      | inr last ↦ last_clashed g rows old new part (NullKey table) (ends.NullKey table) last last.why
    ])
ended g rows old new part (ends.HeldKey xid holder) is cause e = cc
ended g rows old new part ends.OutOfMemory is cause e = cc

pub run_stopped : (g : Setting) (rows : Rows) (old new : DeviceState) (o : Outcome) (run : IsRun g rows old new o) (cause : ClashCause)
    → conflict o.end ≡ Some cause
    → (w : World) × TellsRun g rows run.part.progress.state o w × (xid : ℕ) × (work : List Item)
    × IsTurnOf g run.part.progress.state run.part.rest xid work × IsStoppedBy (schema_of g) w xid work cause
run_stopped g rows old new o run cause e =
    let is = ended g rows old new run.part o.end run.cause cause e in
    let w = at (schema_of g) rows (map committed_past run.part.progress.state.past) is.0 in
    (w, tells_of g rows old new o run is.0 w is.1 refl is.2, is.3, is.4, is.5, is.6)
