-- What a message that was taken leaves of a run.
use Rattle.std.proofs.Common.{◌≡◌, ◌≢◌, ℕ, ◌<◌, Bool, true, false, List, [], ◌∷◌, ◌++◌, length, Some, None, refl, sym, ap, subst, ◌∙◌, append_assoc, append-nil, arith, inl, inr, ◌==◌, if◌then◌else◌}
use Rattle.std.specs.Prelude.{map, All, ◌⊎◌, max}
use Rattle.std.proofs.lemmas.List.{map-append, length-map}
use Rattle.std.proofs.lemmas.Simd.{map-map}
use Rattle.std.proofs.lemmas.List.Elements.{All-append, All-cons, All-nil, All-head, All-tail, All-take}
use Rattle.std.specs.declared.vec.Vec.{Vec}
use Rattle.std.specs.declared.alloc.Global.{Global}
use Rattle.std.specs.FinMap as finite
use Rattle.model.specs.Rows.{Rows, Schema, keys_of}
use Rattle.model.specs.Effect.{serial}
use Rattle.model.specs.EffectLemmas.{serial_append}
use Rattle.model.specs.declared.change.Change as change_type
use Rattle.model.specs.declared.item.Item.{Item}
use Rattle.model.specs.declared.item.Item.TheVariants.{Change, Touch, BackTo, Last}
use Rattle.model.specs.declared.item.CommitInfo.{CommitInfo}
use Rattle.model.specs.Named.{NamesTables}
use Rattle.model.specs.Survivors.{changes_of, before_savepoint, after_item, surviving}
use Rattle.model.specs.SurvivorLemmas.{items_of_survivors}
use Rattle.messages.specs.declared.message.Message.{Message}
use Rattle.session.specs.declared.session.Session as session_type
use Rattle.session.specs.declared.step.Step.{Step}
use Rattle.session.specs.declared.step.Step.TheVariants as steps
use Rattle.session.specs.Answers.{IsOfTables}
use Rattle.session.specs.Sized.{SizedItems, item_of}
use Rattle.session.specs.State.{Way, Direct, Worker, Spooled, Open, Committed, State, Setting, sized_survivors}
use Rattle.session.specs.Lawful.{Admits}
use Rattle.session.specs.Table.{new_open}
use Rattle.session.specs.StreamEvents.{StreamEvent, NoEvent, TransactionOpens, ItemComes, TransactionCommits, TransactionAborts, Tells, items_handed_out}
use Rattle.session.specs.Represents.{Represents as SessionRepresents}
use Rattle.session.specs.Answers.{Says, IsWithin}
use Rattle.session.proofs.Finals.{open_whole, all_final}
use Rattle.run.specs.declared.applier.Applier.{Applier}
use Rattle.model.specs.Accepted.{AreAccepted}
use Rattle.model.specs.SerialLemmas.{accepted_append}
use Rattle.engine.specs.Engine.{Engine, IsOtherwiseSame}
use Rattle.engine.specs.Serial.{Serial, rows_now, with_changes, committed_by as then_committed}
use Rattle.engine.specs.SerialLemmas.{rows_with, rows_committed, journal_committed}
use Rattle.world.specs.World as told_entry
use Rattle.run.specs.Commits.{entry_of_commit, changes_of_entries, surviving_changes, commits, committed_changes, begun_changes, all_changes, commit_ends}
use Rattle.run.specs.Progress.{Progress, commits_from}
use Rattle.run.specs.Cause.{schema_of}
use Rattle.run.specs.Applier.{AreServed, HasCommits, Represents}
use Rattle.run.specs.Handler.{HasTaken}
use Rattle.run.proofs.Admitted.{on_to, one_committed, later_max, by_commit, taken_commit}
use Rattle.run.proofs.States.{last_end-push, changes_of_entries-append, AreServed-insert, AreServed-remove}
use Rattle.run.proofs.Begun.{IsSane, direct_begun, begun_stays, begun_opened, begun_beside, begun_given, begun_without, begun_outside, unbegun}
use Rattle.model.specs.Beginning.{last_end}
use Rattle.world.specs.World.{ends_of}

-- the rows now are those of all that was done
pub rows_at : (g : Setting) (rows : Rows) (a : Applier) (p : Progress) → Represents g rows a p → rows_now a.work ≡ serial (schema_of g) rows (all_changes p.state)
rows_at g rows a p at =
    ap (λ (s : Schema). serial s a.work.store.world.committed a.work.changes) at.commits.schema
    ∙ ap (λ (b : Rows). serial (schema_of g) b a.work.changes) at.commits.base
    ∙ ap (serial (schema_of g) (serial (schema_of g) rows (committed_changes p.state))) at.begun
    ∙ sym (serial_append (schema_of g) rows (committed_changes p.state) (begun_changes p.state))

-- ---- a message that commits nothing

-- the state that it leaves, with the changes that it brings into the transaction that was begun
pub record GoesOn (g : Setting) (s t : State) (cs : List change_type.Change) : Type 0 where
  pub past : t.past ≡ s.past
  pub position : t.position ≡ s.position
  pub begun : begun_changes t ≡ begun_changes s ++ cs
  pub served : AreServed (length g.catalog) t.transactions

committed_same : (s t : State) → t.past ≡ s.past → committed_changes t ≡ committed_changes s
committed_same s t e = rw e

pub done_more : (g : Setting) (s t : State) (cs : List change_type.Change) → GoesOn g s t cs → all_changes t ≡ all_changes s ++ cs
done_more g s t cs on = ap (λ ds. ds ++ begun_changes t) (committed_same s t on.past) ∙ ap (λ ds. committed_changes s ++ ds) on.begun ∙ sym (append_assoc (committed_changes s) (begun_changes s) cs)

-- what is kept of the run once it went on
pub record IsKept (a b : Applier) (cs : List change_type.Change) : Type 0 where
  pub catalog : b.catalog ≡ a.catalog
  pub work : b.work ≡ with_changes a.work cs
  pub position : b.position ≡ a.position
  pub written : b.written ≡ a.written

pub no_change : (w : Serial) → w ≡ with_changes w []
no_change w = ap (λ (cs : List change_type.Change). record w { changes = cs }) (sym (append-nil w.changes))

pub HasCommits-kept : (g : Setting) (rows : Rows) (a b : Applier) (s t : State) → HasCommits g rows a s → t.past ≡ s.past → b.work.store ≡ a.work.store → b.position ≡ a.position → HasCommits g rows b t
HasCommits-kept g rows a b s t has past store position = record {
  schema = ap (λ (e : Engine). e.schema) store ∙ has.schema;
  base = ap (λ (e : Engine). e.world.committed) store ∙ has.base ∙ rw past;
  journal = ap (λ (e : Engine). told_entry.journal e.world) store ∙ has.journal ∙ rw past;
  position = position ∙ has.position ∙ rw past;
}

pub went_on : (g : Setting) (rows : Rows) (a b : Applier) (p : Progress) (t : State) (cs : List change_type.Change) → Represents g rows a p → GoesOn g p.state t cs → IsKept a b cs → SessionRepresents g b.session t
    → AreAccepted (schema_of g) (serial (schema_of g) rows (all_changes p.state)) cs → Represents g rows b (on_to p t)
went_on g rows a b p t cs at on same session clear = record {
  workers = at.workers;
  catalog = at.catalog ∙ rw same.catalog;
  session = session;
  served = on.served;
  commits = HasCommits-kept g rows a b p.state t at.commits on.past (ap (λ (w : Serial). w.store) same.work) same.position;
  reached = on.position ∙ at.reached ∙ rw on.past;
  begun = ap (λ (w : Serial). w.changes) same.work ∙ ap (λ ds. ds ++ cs) at.begun ∙ sym on.begun;
  clear = subst (AreAccepted (schema_of g) rows) (sym (done_more g p.state t cs on)) (accepted_append (schema_of g) rows (all_changes p.state) cs at.clear clear);
  seen = same.written ∙ at.seen ∙ rw on.position;
}

-- ---- what is told

-- an answer that asks for nothing to be applied
abbrev pub IsQuiet : Step → Type 0
IsQuiet steps.Nothing = Unit {0}
IsQuiet (steps.Begin xid) = Unit {0}
IsQuiet (steps.Open xid) = Unit {0}
IsQuiet (steps.Item xid item) = ⊥
IsQuiet (steps.Commit xid info items) = ⊥
IsQuiet (steps.Abort xid) = Unit {0}

pub is_quiet : (step : Step) → (step ≡ steps.Nothing) ⊎ (((x : ℕ) × (step ≡ steps.Begin x)) ⊎ (((x : ℕ) × (step ≡ steps.Open x)) ⊎ ((x : ℕ) × (step ≡ steps.Abort x)))) → IsQuiet step
is_quiet step (inl e) = subst IsQuiet (sym e) tt
is_quiet step (inr (inl e)) = subst IsQuiet (sym e.1) tt
is_quiet step (inr (inr (inl e))) = subst IsQuiet (sym e.1) tt
is_quiet step (inr (inr (inr e))) = subst IsQuiet (sym e.1) tt

-- an item more is served as those before it
served_more : (g : Setting) (s : State) (xid : ℕ) (o : Open) (item : Item) (size : ℕ) → AreServed (length g.catalog) s.transactions → finite.get s.transactions xid ≡ Some o → IsOfTables (length g.catalog) item
    → AreServed (length g.catalog) (finite.insert s.transactions xid (record { way = o.way; items = o.items ++ (item, size) ∷ [] }))
served_more g s xid o item size served there is =
    let was = served xid o there in
    AreServed-insert (length g.catalog) s.transactions xid _ served
    (record {
      way = was.way;
      items = subst (All (IsOfTables (length g.catalog))) (sym (map-append item_of o.items ((item, size) ∷ []))) (All-append (IsOfTables (length g.catalog)) (map item_of o.items) (item ∷ []) was.items (All-cons (IsOfTables (length g.catalog)) item [] is (All-nil (IsOfTables (length g.catalog)))));
    })

not_quiet : (step other : Step) → step ≡ other → IsQuiet step → IsQuiet other
not_quiet step other e is = subst IsQuiet e is

opened_served : (g : Setting) (s t : State) (xid : ℕ) (way : Way) → (way ≡ Worker → ⊥) → AreServed (length g.catalog) s.transactions → t.transactions ≡ finite.insert s.transactions xid (new_open way) → AreServed (length g.catalog) t.transactions
opened_served g s t xid way unserved served e = subst (AreServed (length g.catalog)) (sym e) (AreServed-insert (length g.catalog) s.transactions xid (new_open way) served (record { way = unserved; items = All-nil (IsOfTables (length g.catalog)) }))

-- an opening, an item of a spooled transaction, an abort and what has no effect bring no change
pub quiet : (g : Setting) (s t : State) (told : StreamEvent) (step : Step) → IsSane s → IsSane t → AreServed (length g.catalog) s.transactions → g.workers ≡ 0 → Tells s t told → IsWithin g told → Says told step
    → IsQuiet step → GoesOn g s t []
quiet g s t NoEvent step first second served none tells within says is = record {
  past = tells.past;
  position = tells.position;
  begun = begun_stays s t first second tells.transactions;
  served = subst (AreServed (length g.catalog)) (sym tells.transactions) served;
}
quiet g s t (TransactionOpens xid Direct) step first second served none tells within says is = record {
  past = tells.past;
  position = tells.position;
  begun = begun_opened s t xid first second tells;
  served = opened_served g s t xid Direct (λ e. cc) served tells.transactions;
}
quiet g s t (TransactionOpens xid Worker) step first second served none tells within says is = absurd (omega arith)
quiet g s t (TransactionOpens xid Spooled) step first second served none tells within says is = record {
  past = tells.past;
  position = tells.position;
  begun = begun_beside s t xid (new_open Spooled) first second tells.transactions (λ e. cc) (λ o there. let no : None ≡ Some o = sym tells.absent ∙ there in cc);
  served = opened_served g s t xid Spooled (λ e. cc) served tells.transactions;
}
quiet g s t (ItemComes xid Direct item size) step first second served none tells within says is = absurd (not_quiet step (steps.Item xid item) says is)
quiet g s t (ItemComes xid Worker item size) step first second served none tells within says is = absurd (not_quiet step (steps.Item xid item) says is)
quiet g s t (ItemComes xid Spooled item size) step first second served none tells within says is =
    let o = tells.0 in
    let streamed : o.way ≢ Direct = λ direct. let no : Spooled ≡ Direct = sym tells.1 ∙ direct in cc in
    record {
      past = tells.2.past;
      position = tells.2.position;
      begun = begun_beside s t xid _ first second tells.2.transactions streamed (λ p there. let one : Some o ≡ Some p = sym tells.2.present ∙ there in let e : o ≡ p = cc in subst (λ (q : Open). q.way ≢ Direct) e streamed);
      served = subst (AreServed (length g.catalog)) (sym tells.2.transactions) (served_more g s xid o item size served tells.2.present within);
    }
quiet g s t (TransactionCommits c) step first second served none tells within says is = absurd (by_commit IsQuiet (λ xid info items is. is) c step says is)
quiet g s t (TransactionAborts xid Direct) step first second served none tells within says is = absurd within
quiet g s t (TransactionAborts xid Worker) step first second served none tells within says is = absurd ((served xid tells.0 tells.2.present).way tells.1)
quiet g s t (TransactionAborts xid Spooled) step first second served none tells within says is = record {
  past = tells.2.past;
  position = tells.2.position;
  begun = begun_without s t xid tells.0 first second tells.2.transactions tells.2.present (λ direct. let no : Spooled ≡ Direct = sym tells.1 ∙ direct in cc);
  served = subst (AreServed (length g.catalog)) (sym tells.2.transactions) (AreServed-remove (length g.catalog) s.transactions xid served);
}

-- an item that is handed on is a change of the transaction that was begun
pub given : (g : Setting) (s t : State) (told : StreamEvent) (x : ℕ) (i : Item) → IsSane s → IsSane t → AreServed (length g.catalog) s.transactions → Tells s t told → IsWithin g told → Says told (steps.Item x i)
    → IsOfTables (length g.catalog) i × GoesOn g s t (changes_of (i ∷ []))
given g s t (ItemComes xid Direct item size) x i first second served tells within says =
    let same : item ≡ i = cc in
    let o = tells.0 in (
      subst (IsOfTables (length g.catalog)) same within.0,
      record {
        past = tells.2.past;
        position = tells.2.position;
        begun = begun_given s t xid item size o first second tells.2 tells.1 within.1 ∙ ap (λ j. begun_changes s ++ changes_of (j ∷ [])) same;
        served = subst (AreServed (length g.catalog)) (sym tells.2.transactions) (served_more g s xid o item size served tells.2.present within.0);
      },
    )
given g s t (ItemComes xid Worker item size) x i first second served tells within says = absurd ((served xid tells.0 tells.2.present).way tells.1)
given g s t (TransactionCommits c) x i first second served tells within says = absurd says
given g s t (TransactionOpens xid Direct) x i first second served tells within says = absurd cc
given g s t (TransactionAborts xid Direct) x i first second served tells within says = absurd cc
given g s t told x i first second served tells within says = absurd cc

-- ---- a commit

-- what the commit of a transaction that was open makes final: what was begun, and then these items
pub record IsCommitted (g : Setting) (s t : State) (xid commit end : ℕ) (items : List Item) : Type 0 where
  pub transaction : Committed
  pub past : t.past ≡ s.past ++ transaction ∷ []
  pub xid_is : transaction.xid ≡ xid
  pub info_is : transaction.info ≡ record { commit = commit; end = end }
  pub later : s.position < end
  pub position : t.position ≡ end
  pub changes : surviving_changes transaction.xid transaction.items ≡ begun_changes s ++ changes_of items
  pub begun : begun_changes t ≡ []
  pub served : AreServed (length g.catalog) t.transactions
  pub named : All (IsOfTables (length g.catalog)) items

changes_handed : (s : State) (xid : ℕ) (way : Way) (items : SizedItems) → (way ≡ Worker → ⊥) → (way ≡ Direct → begun_changes s ≡ surviving_changes xid items) → (way ≢ Direct → begun_changes s ≡ [])
    → surviving_changes xid items ≡ begun_changes s ++ changes_of (items_handed_out xid way items)
changes_handed s xid Direct items unserved here elsewhere = sym (here refl) ∙ sym (append-nil (begun_changes s))
changes_handed s xid Worker items unserved here elsewhere = absurd (unserved refl)
changes_handed s xid Spooled items unserved here elsewhere =
    ap changes_of (sym (items_of_survivors item_of xid items)) ∙ ap (λ ds. ds ++ changes_of (map item_of (sized_survivors xid items))) (sym (elsewhere (λ e. cc)))

-- the items that survive are among all
All-left : (P : Item → Type 0) (top : ℕ) (kept : List Item) (item : Item) → All P kept → P item → All P (after_item top kept item)
All-left P top kept (Change sub c) all here = All-append P kept (Change sub c ∷ []) all (All-cons P (Change sub c) [] here (All-nil P))
All-left P top kept (Touch sub) all here = All-append P kept (Touch sub ∷ []) all (All-cons P (Touch sub) [] here (All-nil P))
All-left P top kept (BackTo sub) all here = by_cases (sub == top)
  where
    by_cases : (b : Bool) → All P (if b then kept else before_savepoint sub kept)
    by_cases true = all
    by_cases false = All-take P _ kept all
All-left P top kept Last all here = all

All-surviving : (P : Item → Type 0) (top : ℕ) (kept items : List Item) → All P kept → All P items → All P (surviving top kept items)
All-surviving P top kept [] all more = all
All-surviving P top kept (i ∷ items) all more =
    All-surviving P top (after_item top kept i) items (All-left P top kept i all (All-head P i items more)) (All-tail P i items more)

pub handed_named : (P : Item → Type 0) (xid : ℕ) (way : Way) (items : SizedItems) → All P (map item_of items) → All P (items_handed_out xid way items)
handed_named P xid Direct items all = All-nil P
handed_named P xid Worker items all = All-nil P
handed_named P xid Spooled items all =
    subst (All P) (sym (items_of_survivors item_of xid items)) (All-surviving P xid [] (map item_of items) (All-nil P) all)

pub committed_by : (g : Setting) (s t : State) (told : StreamEvent) (xid commit end : ℕ) (items : Vec Item Global) → IsSane s → IsSane t → AreServed (length g.catalog) s.transactions → Tells s t told → Says told (steps.Commit xid (record { commit = commit; end = end }) items)
    → IsCommitted g s t xid commit end items.items
committed_by g s t (TransactionCommits c) xid commit end items first second served tells says =
    let was = served c.xid (record { way = c.way; items = tells.items }) tells.present in
    let ends : c.info.end ≡ end = ap (λ (i : CommitInfo). i.end) (sym says.1) in
    record {
      transaction = c;
      past = tells.past;
      xid_is = sym says.0;
      info_is = sym says.1;
      later = subst (λ n. s.position < n) ends tells.later;
      position = tells.position ∙ ends;
      changes = changes_handed s c.xid c.way c.items was.way (λ direct. direct_begun s c.xid _ first (open_whole s t c tells (λ spooled. let no : Direct ≡ Spooled = sym direct ∙ spooled in cc)) direct) (λ streamed. unbegun s t c.xid _ first second tells.present streamed tells.transactions tells.outside) ∙ ap (λ is. begun_changes s ++ changes_of is) (sym says.2);
      begun = begun_outside t tells.outside;
      served = subst (AreServed (length g.catalog)) (sym tells.transactions) (AreServed-remove (length g.catalog) s.transactions c.xid served);
      named = subst (All (IsOfTables (length g.catalog))) (sym says.2) (handed_named (IsOfTables (length g.catalog)) c.xid c.way c.items (all_final (IsOfTables (length g.catalog)) s t c tells was.items));
    }
committed_by g s t (TransactionOpens x Direct) xid commit end items first second served tells says = absurd cc
committed_by g s t (ItemComes x Direct item size) xid commit end items first second served tells says = absurd cc
committed_by g s t (TransactionAborts x Direct) xid commit end items first second served tells says = absurd cc
committed_by g s t told xid commit end items first second served tells says = absurd cc

-- ---- what a commit leaves of the run

module _ (g : Setting) (s t : State) (xid commit end : ℕ) (items : List Item) (is : IsCommitted g s t xid commit end items) where
  commits_more : commits t ≡ commits s ++ record { xid = xid; changes = begun_changes s ++ changes_of items; commit = commit; end = end } ∷ []
  commits_more =
      ap (map entry_of_commit) is.past
      ∙ map-append entry_of_commit s.past (is.transaction ∷ [])
      ∙ ap (λ (tx : told_entry.Entry). commits s ++ tx ∷ [])
      (ap (λ cs. record { xid = is.transaction.xid; changes = cs; commit = is.transaction.info.commit; end = is.transaction.info.end }) is.changes
      ∙ ap (λ x. record { xid = x; changes = begun_changes s ++ changes_of items; commit = is.transaction.info.commit; end = is.transaction.info.end }) is.xid_is
      ∙ ap (λ (i : CommitInfo). record { xid = xid; changes = begun_changes s ++ changes_of items; commit = i.commit; end = i.end }) is.info_is)

  -- all that is committed now was done before, and then the items
  committed_is : committed_changes t ≡ all_changes s ++ changes_of items
  committed_is =
      ap changes_of_entries commits_more
      ∙ changes_of_entries-append (commits s) _
      ∙ ap (λ cs. committed_changes s ++ cs) (append-nil (begun_changes s ++ changes_of items))
      ∙ sym (append_assoc (committed_changes s) (begun_changes s) (changes_of items))

  pub done_is : all_changes t ≡ all_changes s ++ changes_of items
  done_is = ap (λ cs. committed_changes t ++ cs) is.begun ∙ append-nil (committed_changes t) ∙ committed_is

  ends_at : last_end (commit_ends t.past) ≡ end
  ends_at = ap (λ (past : List Committed). last_end (commit_ends past)) is.past ∙ last_end-push s.past is.transaction ∙ ap (λ (i : CommitInfo). i.end) is.info_is

  pub commits_one : commits_from s t ≡ true
  commits_one = one_committed s t is.transaction is.past

-- where the log goes on behind the last commit of the world is where it does so behind that of the past
world_ends : (line : List told_entry.Past) (past : List Committed) → map told_entry.entry_of line ≡ map entry_of_commit past
    → last_end (map (λ (p : told_entry.Past). p.info.end) line) ≡ last_end (commit_ends past)
world_ends line past told =
    ap last_end
    (sym (map-map (λ (e : told_entry.Entry). e.end) told_entry.entry_of line)
    ∙ ap (map (λ (e : told_entry.Entry). e.end)) told ∙ map-map (λ (e : told_entry.Entry). e.end) entry_of_commit past)

-- a commit ends above those before it
pub rises : (g : Setting) (rows : Rows) (a : Applier) (p : Progress) (t : State) (xid commit end : ℕ) (items : List Item) → Represents g rows a p → IsCommitted g p.state t xid commit end items
    → last_end (ends_of a.work.store.world) < end
rises g rows a p t xid commit end items at is =
    subst (λ n. n < end) (sym (world_ends a.work.store.world.line p.state.past at.commits.journal ∙ sym at.reached)) is.later

pub commit_taken : (g : Setting) (rows : Rows) (a b : Applier) (p : Progress) (payload : List ℕ) (m : Message) (t : State) (xid commit end : ℕ) (items : List Item) (w : Serial) → Represents g rows a p → Admits g p.state payload m t → IsCommitted g p.state t xid commit end items → SessionRepresents g b.session t
    → AreAccepted (schema_of g) (serial (schema_of g) rows (all_changes p.state)) (changes_of items)
    → w ≡ with_changes a.work (changes_of items) → b.work.store.world ≡ then_committed w.store.schema w.store.world xid w.changes (record { commit = commit; end = end })
    → b.work.changes ≡ [] → IsOtherwiseSame w.store b.work.store
    → b.position ≡ end → b.written ≡ max a.written end → b.catalog ≡ a.catalog
    → HasTaken g (Represents g rows b) p payload true
commit_taken g rows a b p payload m t xid commit end items w at admits is session clear more settled none same position written catalog =
    let info : CommitInfo = record { commit = commit; end = end } in
    let store : w.store ≡ a.work.store = ap (λ (v : Serial). v.store) more in
    taken_commit g (Represents g rows b) p payload m t admits (commits_one g p.state t xid commit end items is) (record {
      workers = at.workers;
      catalog = at.catalog ∙ rw catalog;
      session = session;
      served = is.served;
      commits = record {
        schema = same.schema ∙ ap (λ (e : Engine). e.schema) store ∙ at.commits.schema;
        base =
            ap (λ (v : told_entry.World). v.committed) settled ∙ rows_committed w.store.schema w.store.world xid w.changes info ∙ ap rows_now more ∙ rows_with a.work (changes_of items)
            ∙ ap (λ (sch : Schema). serial sch (rows_now a.work) (changes_of items)) at.commits.schema
            ∙ ap (λ (r : Rows). serial (schema_of g) r (changes_of items)) (rows_at g rows a p at)
            ∙ sym (serial_append (schema_of g) rows (all_changes p.state) (changes_of items))
            ∙ ap (serial (schema_of g) rows) (sym (committed_is g p.state t xid commit end items is));
        journal =
            ap (λ (v : told_entry.World). told_entry.journal v) settled
            ∙ journal_committed w.store.schema w.store.world xid w.changes info
            ∙ ap (λ ts. ts ++ record { xid = xid; changes = w.changes; commit = commit; end = end } ∷ []) (ap (λ (e : Engine). told_entry.journal e.world) store ∙ at.commits.journal)
            ∙ ap (λ cs. commits p.state ++ record { xid = xid; changes = cs; commit = commit; end = end } ∷ []) (ap (λ (v : Serial). v.changes) more ∙ ap (λ cs. cs ++ changes_of items) at.begun)
            ∙ sym (commits_more g p.state t xid commit end items is);
        position = position ∙ sym (ends_at g p.state t xid commit end items is);
      };
      reached = is.position ∙ sym (ends_at g p.state t xid commit end items is);
      begun = none ∙ sym is.begun;
      clear = subst (AreAccepted (schema_of g) rows) (sym (done_is g p.state t xid commit end items is)) (accepted_append (schema_of g) rows (all_changes p.state) (changes_of items) at.clear clear);
      seen = written ∙ ap (λ n. max n end) at.seen ∙ ap (max (max p.seen p.state.position)) (sym is.position) ∙ later_max p.seen p.state.position t.position (subst (λ n. p.state.position < n) (sym is.position) is.later);
    })

-- ---- between what the work has and what the definitions say

tables_there : (g : Setting) (rows : Rows) (a : Applier) (p : Progress) → Represents g rows a p → length a.work.store.schema ≡ length g.catalog
tables_there g rows a p at = ap length at.commits.schema ∙ length-map g.catalog keys_of

-- items of the catalog's tables name tables that are there
changes_named : (count : ℕ) (items : List Item) → All (IsOfTables count) items → All (NamesTables count) (changes_of items)
changes_named count [] all = All-nil (NamesTables count)
changes_named count (Change sub c ∷ items) all =
    All-cons (NamesTables count) c (changes_of items) (All-head (IsOfTables count) (Change sub c) items all) (changes_named count items (All-tail (IsOfTables count) (Change sub c) items all))
changes_named count (Touch sub ∷ items) all = changes_named count items (All-tail (IsOfTables count) (Touch sub) items all)
changes_named count (BackTo sub ∷ items) all = changes_named count items (All-tail (IsOfTables count) (BackTo sub) items all)
changes_named count (Last ∷ items) all = changes_named count items (All-tail (IsOfTables count) Last items all)

pub all_counted : (g : Setting) (rows : Rows) (a : Applier) (p : Progress) (items : List Item) → Represents g rows a p → All (IsOfTables (length g.catalog)) items
    → All (NamesTables (length a.work.store.schema)) (changes_of items)
all_counted g rows a p items at all = subst (λ n. All (NamesTables n) (changes_of items)) (sym (tables_there g rows a p at)) (changes_named (length g.catalog) items all)

pub one_counted : (g : Setting) (rows : Rows) (a : Applier) (p : Progress) (item : Item) → Represents g rows a p → IsOfTables (length g.catalog) item
    → All (NamesTables (length a.work.store.schema)) (changes_of (item ∷ []))
one_counted g rows a p item at is = all_counted g rows a p (item ∷ []) at (All-cons (IsOfTables (length g.catalog)) item [] is (All-nil (IsOfTables (length g.catalog))))

-- changes that are clear on the rows now are clear behind all that was done
pub clear_behind : (g : Setting) (rows : Rows) (a : Applier) (p : Progress) (cs : List change_type.Change) → Represents g rows a p → AreAccepted a.work.store.schema (rows_now a.work) cs → AreAccepted (schema_of g) (serial (schema_of g) rows (all_changes p.state)) cs
clear_behind g rows a p cs at clear =
    let here = subst (λ (sch : Schema). AreAccepted sch (rows_now a.work) cs) at.commits.schema clear in
    subst (λ (r : Rows). AreAccepted (schema_of g) r cs) (rows_at g rows a p at) here

-- a session that represents a state shows that it is sane
pub sane : (g : Setting) (v : session_type.Session) (s : State) → SessionRepresents g v s → IsSane s
sane g v s represents = record { here = represents.here; alone = represents.alone }
