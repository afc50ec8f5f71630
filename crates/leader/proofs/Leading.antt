-- What a message that was taken leaves of a run with workers.
use Rattle.std.proofs.Common.{◌≡◌, ◌≢◌, ℕ, ◌<◌, Bool, true, false, List, [], ◌∷◌, ◌++◌, length, length-append, Option, Some, None, refl, sym, ap, subst, ◌∙◌, append-nil, ⊎_elim, inl, inr}
use Rattle.std.specs.Prelude.{map, All, max, Result, Ok, Err, ◌⊎◌}
use Rattle.std.specs.Result.{IsErrAnd}
use Rattle.std.proofs.lemmas.Bool.{cases_eq}
use Rattle.std.proofs.lemmas.Grind.{flat_map-append}
use Rattle.std.proofs.lemmas.List.{map-append}
use Rattle.std.proofs.lemmas.Simd.{map-map}
use Rattle.std.proofs.lemmas.List.Elements.{All-append, All-cons, All-nil}
use Rattle.std.specs.declared.vec.Vec.{Vec}
use Rattle.std.specs.declared.alloc.Global.{Global}
use Rattle.std.specs.FinMap as finite
use Rattle.model.specs.Rows.{Rows}
use Rattle.model.specs.declared.item.Item.{Item}
use Rattle.model.specs.declared.item.CommitInfo.{CommitInfo}
use Rattle.messages.specs.declared.message.Message.{Message}
use Rattle.frames.specs.declared.item.CopyItem.{CopyItem}
use Rattle.frames.specs.declared.item.CopyItem.TheVariants.{Wal, Keepalive}
use Rattle.world.specs.World.{Past}
use Rattle.engine.specs.declared.events.LineEvent.{LineEvent}
use Rattle.engine.specs.declared.events.LineEvent.TheVariants.{Aborted as WasAborted}
use Rattle.engine.specs.Events.{past_of, commits_in, ends_in}
use Rattle.model.specs.Beginning.{last_end}
use Rattle.session.specs.declared.fault.Refused.{Refused}
use Rattle.session.specs.declared.fault.Refused.TheVariants as refusals
use Rattle.session.specs.declared.session.Session.{Session}
use Rattle.session.specs.declared.step.Step.{Step}
use Rattle.session.specs.declared.step.Step.TheVariants as steps
use Rattle.model.specs.SurvivorLemmas.{items_of_survivors}
use Rattle.session.specs.Sized.{item_of}
use Rattle.session.specs.State.{Way, Direct, Worker, Spooled, Open, OpenTransactions, Committed, State, Setting, GoesAlone}
use Rattle.session.specs.Lawful.{Admits, Refuses}
use Rattle.session.specs.Table.{new_open}
use Rattle.session.specs.StreamEvents.{StreamEvent, NoEvent, TransactionOpens, ItemComes, TransactionCommits, TransactionAborts, Tells, IsGiving, IsCommitting, items_handed_out}
use Rattle.session.specs.Represents.{Represents as SessionRepresents}
use Rattle.session.specs.Answers.{IsOfTables, HandsOut, Says, IsWithin, AdmitsPayload}
use Rattle.run.specs.declared.end.End.{End}
use Rattle.run.specs.declared.end.End.TheVariants as ends
use Rattle.run.specs.Ends.{end_of_refusal}
use Rattle.run.specs.Handler.{HasTaken, HandlesItem, HasHandled}
use Rattle.run.specs.Progress.{Progress, seen_with, due_updates}
use Rattle.run.proofs.Admitted.{with_seen, not_committed, one_committed, later_max, by_commit, taken_on, taken_commit, message_handled, ended_behind}
use Rattle.run.proofs.States.{get-inserted, get-other, get-left, get-gone, last_end-push}
use Rattle.run.proofs.Handling.{seen_item}
use Rattle.session.proofs.Finals.{all_final}
use Rattle.run.proofs.Taking.{handed_named}
use Rattle.run.specs.Cause.{IsNext}
use Rattle.run_laws.specs.Runs.{IsCommitOf, DoesAtCommit}
use Rattle.run_laws.specs.Threads.{done_by_commit}
use Rattle.leader.specs.declared.lead.Stream.{Stream}
use Rattle.dispatch.specs.Standing.{Standing, Replaces, IsStoreEnd, IsStopEnd, IsBegun, IsHandedOut, IsTaken, IsMet, IsCommitted, HasTried, IsAborted}
use Rattle.leader.specs.Threads.{Numbered, numbered, numbered_past, Led, led, AreNamed, AreAssigned, HasCommitted, Represents, HasLedTo, LeadTakes, AreOpenAtEnd, HasTurn, MayEndBy, HasStopped, Stops}
use Rattle.leader.proofs.Serving.{Committing, begun_agreed, handed_out_agreed, spooled_agreed, given_agreed, applied_agreed, kept_agreed, aborted_agreed, dropped_agreed, worker_commit, direct_commit, spooled_commit, unopened, all_held, met_held, tried_held}
use Rattle.run.specs.Commits.{commit_ends}

-- ---- names

module _ (count : ℕ) (m : OpenTransactions) (xid : ℕ) (named : AreNamed count m) where
  named_insert : (o : Open) → All (IsOfTables count) (map item_of o.items) → AreNamed count (finite.insert m xid o)
  named_insert o is = λ q found there.
      ⊎_elim
      (λ (same : xid ≡ q).
      let here : Some o ≡ Some found = sym (get-inserted m xid o) ∙ ap (finite.get (finite.insert m xid o)) same ∙ there in
      let e : o ≡ found = cc in subst (λ (p : Open). All (IsOfTables count) (map item_of p.items)) e is)
      (λ ne. named q found (sym (get-other m xid o q ne) ∙ there))
      (cases_eq xid q)

  named_remove : AreNamed count (finite.remove m xid)
  named_remove = λ q found there.
      ⊎_elim
      (λ (same : xid ≡ q). let gone : None ≡ Some found = sym (get-gone m xid) ∙ ap (finite.get (finite.remove m xid)) same ∙ there in absurd cc)
      (λ ne. named q found (sym (get-left m xid q ne) ∙ there))
      (cases_eq xid q)

-- ---- a message that commits nothing

-- no commit is asked for
abbrev pub IsNoCommit : Step → Type 0
IsNoCommit steps.Nothing = Unit {0}
IsNoCommit (steps.Begin xid) = Unit {0}
IsNoCommit (steps.Open xid) = Unit {0}
IsNoCommit (steps.Item xid item) = Unit {0}
IsNoCommit (steps.Commit xid info items) = ⊥
IsNoCommit (steps.Abort xid) = Unit {0}

-- the state has the same commits, and its items name tables
pub record KeepsOn (g : Setting) (s t : State) : Type 0 where
  pub past : t.past ≡ s.past
  pub position : t.position ≡ s.position
  pub named : AreNamed (length g.catalog) t.transactions

opened_on : (g : Setting) (s t : State) (xid : ℕ) (way : Way) → AreNamed (length g.catalog) s.transactions → t.transactions ≡ finite.insert s.transactions xid (new_open way) → AreNamed (length g.catalog) t.transactions
opened_on g s t xid way named e = subst (AreNamed (length g.catalog)) (sym e) (named_insert (length g.catalog) s.transactions xid named (new_open way) (All-nil (IsOfTables (length g.catalog))))

given_on : (g : Setting) (s t : State) (xid : ℕ) (o : Open) (item : Item) (size : ℕ) → AreNamed (length g.catalog) s.transactions → finite.get s.transactions xid ≡ Some o → IsOfTables (length g.catalog) item
    → t.transactions ≡ finite.insert s.transactions xid (record { way = o.way; items = o.items ++ (item, size) ∷ [] }) → AreNamed (length g.catalog) t.transactions
given_on g s t xid o item size named there is e =
    let P = IsOfTables (length g.catalog) in
    subst (AreNamed (length g.catalog)) (sym e)
    (named_insert (length g.catalog) s.transactions xid named (record { way = o.way; items = o.items ++ (item, size) ∷ [] })
    (subst (All P) (sym (map-append item_of o.items ((item, size) ∷ []))) (All-append P (map item_of o.items) (item ∷ []) (named xid o there) (All-cons P item [] is (All-nil P)))))

dropped_on : (g : Setting) (s t : State) (xid : ℕ) → AreNamed (length g.catalog) s.transactions → t.transactions ≡ finite.remove s.transactions xid → AreNamed (length g.catalog) t.transactions
dropped_on g s t xid named e = subst (AreNamed (length g.catalog)) (sym e) (named_remove (length g.catalog) s.transactions xid named)

pub keeps_on : (g : Setting) (s t : State) (told : StreamEvent) (step : Step) → AreNamed (length g.catalog) s.transactions → Tells s t told → IsWithin g told → Says told step → IsNoCommit step → KeepsOn g s t
keeps_on g s t NoEvent step named tells within says is = record { past = tells.past; position = tells.position; named = subst (AreNamed (length g.catalog)) (sym tells.transactions) named }
keeps_on g s t (TransactionOpens xid way) step named tells within says is = record { past = tells.past; position = tells.position; named = opened_on g s t xid way named tells.transactions }
keeps_on g s t (ItemComes xid Direct item size) step named tells within says is = record { past = tells.2.past; position = tells.2.position; named = given_on g s t xid tells.0 item size named tells.2.present within.0 tells.2.transactions }
keeps_on g s t (ItemComes xid Worker item size) step named tells within says is = record { past = tells.2.past; position = tells.2.position; named = given_on g s t xid tells.0 item size named tells.2.present within tells.2.transactions }
keeps_on g s t (ItemComes xid Spooled item size) step named tells within says is = record { past = tells.2.past; position = tells.2.position; named = given_on g s t xid tells.0 item size named tells.2.present within tells.2.transactions }
keeps_on g s t (TransactionCommits c) step named tells within says is = absurd (by_commit IsNoCommit (λ xid info items is. is) c step says is)
keeps_on g s t (TransactionAborts xid way) step named tells within says is = record { past = tells.2.past; position = tells.2.position; named = dropped_on g s t xid named tells.2.transactions }

-- an item that is handed on names tables
pub item_named : (g : Setting) (told : StreamEvent) (x : ℕ) (i : Item) → IsWithin g told → Says told (steps.Item x i) → IsOfTables (length g.catalog) i
item_named g (ItemComes xid Direct item size) x i within says = let same : item ≡ i = cc in subst (IsOfTables (length g.catalog)) same within.0
item_named g (ItemComes xid Worker item size) x i within says = let same : item ≡ i = cc in subst (IsOfTables (length g.catalog)) same within
item_named g (TransactionCommits c) x i within says = absurd says
item_named g (TransactionOpens xid Direct) x i within says = absurd cc
item_named g (TransactionAborts xid Direct) x i within says = absurd cc
item_named g told x i within says = absurd cc

-- ---- what is there of all transactions

-- by a step what is there of all transactions goes from this to that
abbrev pub Agrees : Standing → Standing → Step → Type 0
Agrees old new step =
    (g : Setting) (s t : State) (told : StreamEvent) → AreAssigned s.transactions old → Tells s t told → IsWithin g told → Says told step → AreAssigned t.transactions new

-- a message that asks for nothing
pub nothing_agreed : (st : Standing) → Agrees st st steps.Nothing
nothing_agreed st g s t NoEvent agreed tells within says = subst (λ m. AreAssigned m st) (sym tells.transactions) agreed
nothing_agreed st g s t (TransactionOpens xid Spooled) agreed tells within says = spooled_agreed s t st xid agreed tells
nothing_agreed st g s t (ItemComes xid Spooled item size) agreed tells within says = kept_agreed s t st xid item size tells.0 agreed tells.1 tells.2
nothing_agreed st g s t (TransactionCommits c) agreed tells within says = absurd says
nothing_agreed st g s t (TransactionAborts xid Direct) agreed tells within says = absurd within
nothing_agreed st g s t (TransactionAborts xid Spooled) agreed tells within says = dropped_agreed s t st xid tells.0 agreed tells.1 tells.2
nothing_agreed st g s t told agreed tells within says = absurd cc

-- what was told, by what the session asks for
abbrev pub IsToldBy : Step → StreamEvent → Type 0
IsToldBy steps.Nothing told = Unit {0}
IsToldBy (steps.Begin xid) told = told ≡ TransactionOpens xid Direct
IsToldBy (steps.Open xid) told = told ≡ TransactionOpens xid Worker
IsToldBy (steps.Item xid item) told = Unit {0}
IsToldBy (steps.Commit xid info items) told = Unit {0}
IsToldBy (steps.Abort xid) told = told ≡ TransactionAborts xid Worker

pub told_by : (g : Setting) (told : StreamEvent) (step : Step) → IsWithin g told → Says told step → IsToldBy step told
told_by g told step within says = by_told told within says
  where
    says_so : (is : Step) (event : StreamEvent) → IsToldBy is event → step ≡ is → IsToldBy step event
    says_so is event tells e = subst (λ s. IsToldBy s event) (sym e) tells

    handed : (c : Committed) (is : Step) → HandsOut c is → IsToldBy is (TransactionCommits c)
    handed c steps.Nothing hands = tt
    handed c (steps.Item xid item) hands = tt
    handed c (steps.Commit xid info items) hands = tt
    handed c is hands = absurd hands

    by_told : (event : StreamEvent) → IsWithin g event → Says event step → IsToldBy step event
    by_told NoEvent within says = says_so steps.Nothing NoEvent tt says
    by_told (TransactionOpens xid Direct) within says = says_so (steps.Begin xid) (TransactionOpens xid Direct) refl says
    by_told (TransactionOpens xid Worker) within says = says_so (steps.Open xid) (TransactionOpens xid Worker) refl says
    by_told (TransactionOpens xid Spooled) within says = says_so steps.Nothing (TransactionOpens xid Spooled) tt says
    by_told (ItemComes xid Direct item size) within says = says_so (steps.Item xid item) (ItemComes xid Direct item size) tt says
    by_told (ItemComes xid Worker item size) within says = says_so (steps.Item xid item) (ItemComes xid Worker item size) tt says
    by_told (ItemComes xid Spooled item size) within says = says_so steps.Nothing (ItemComes xid Spooled item size) tt says
    by_told (TransactionCommits c) within says = handed c step says
    by_told (TransactionAborts xid Direct) within says = absurd within
    by_told (TransactionAborts xid Worker) within says = says_so (steps.Abort xid) (TransactionAborts xid Worker) refl says
    by_told (TransactionAborts xid Spooled) within says = says_so steps.Nothing (TransactionAborts xid Spooled) tt says

-- one that begins
pub begin_agreed : (x : ℕ) (old new : Standing) → IsBegun old x new → Agrees old new (steps.Begin x)
begin_agreed x old new is g s t told agreed tells within says = begun_agreed s t old new x agreed (subst (Tells s t) (told_by g told (steps.Begin x) within says) tells) is

-- one that goes to a worker
pub open_agreed : (x : ℕ) (old new : Standing) → IsHandedOut old x new → Agrees old new (steps.Open x)
open_agreed x old new is g s t told agreed tells within says = handed_out_agreed s t old new x agreed (subst (Tells s t) (told_by g told (steps.Open x) within says) tells) is

-- an item that is handed on is given to an open transaction that isn't spooled
pub record IsHandedOn (s t : State) (xid : ℕ) (item : Item) : Type 0 where
  pub transaction : Open
  pub size : ℕ
  pub gives : IsGiving s t xid item size transaction
  pub way : transaction.way ≢ Spooled

pub handed_on : (g : Setting) (s t : State) (told : StreamEvent) (x : ℕ) (i : Item) → Tells s t told → IsWithin g told → Says told (steps.Item x i) → IsHandedOn s t x i
handed_on g s t (ItemComes xid Direct item size) x i tells within says =
    let e : xid ≡ x = cc in
    let f : item ≡ i = cc in
    record { transaction = tells.0; size = size; gives = subst (λ n. IsGiving s t n i size tells.0) e (subst (λ j. IsGiving s t xid j size tells.0) f tells.2); way = λ is. let no : Direct ≡ Spooled = sym tells.1 ∙ is in absurd cc }
handed_on g s t (ItemComes xid Worker item size) x i tells within says =
    let e : xid ≡ x = cc in
    let f : item ≡ i = cc in
    record { transaction = tells.0; size = size; gives = subst (λ n. IsGiving s t n i size tells.0) e (subst (λ j. IsGiving s t xid j size tells.0) f tells.2); way = λ is. let no : Worker ≡ Spooled = sym tells.1 ∙ is in absurd cc }
handed_on g s t (TransactionCommits c) x i tells within says = absurd says
handed_on g s t (TransactionAborts xid Direct) x i tells within says = absurd within
handed_on g s t (TransactionOpens xid Direct) x i tells within says = absurd cc
handed_on g s t told x i tells within says = absurd cc

item_given : (s t : State) (xid : ℕ) (item : Item) (old new : Standing) → AreAssigned s.transactions old → IsHandedOn s t xid item → IsTaken old xid item new → AreAssigned t.transactions new
item_given s t xid item old new agreed on is = by_way on.transaction.way refl
  where
    by_way : (w : Way) → on.transaction.way ≡ w → AreAssigned t.transactions new
    by_way Direct e = applied_agreed s t old new xid item on.size on.transaction agreed e on.gives is
    by_way Worker e = given_agreed s t old new xid item on.size on.transaction agreed e on.gives is
    by_way Spooled e = absurd (on.way e)

pub item_agreed : (x : ℕ) (i : Item) (old new : Standing) → IsTaken old x i new → Agrees old new (steps.Item x i)
item_agreed x i old new is g s t told agreed tells within says = item_given s t x i old new agreed (handed_on g s t told x i tells within says) is

-- one that is dropped
pub abort_agreed : (x : ℕ) (old new : Standing) → IsAborted old x new → Agrees old new (steps.Abort x)
abort_agreed x old new is g s t told agreed tells within says =
    let drops = subst (Tells s t) (told_by g told (steps.Abort x) within says) tells in aborted_agreed s t old new x drops.0 agreed drops.1 drops.2 is

-- the leader knows the same, but for its session and for what is open
pub record IsSameLed (a b : Led) : Type 0 where
  pub catalog : b.catalog ≡ a.catalog
  pub tables : b.standing.tables ≡ a.standing.tables
  pub line : commits_in b.standing.line ≡ commits_in a.standing.line
  pub position : b.position ≡ a.position
  pub written : b.written ≡ a.written
  pub places : length b.standing.workers ≡ length a.standing.workers

pub same_commits : (a b : Led) (s : State) → IsSameLed a b → HasCommitted a s → HasCommitted b s
same_commits a b s same has = record {
  commits = ap (map numbered_past) same.line ∙ has.commits;
  done = same.line ∙ has.done;
  position = same.position ∙ has.position;
}

kept_commits : (b : Led) (s t : State) → t.past ≡ s.past → HasCommitted b s → HasCommitted b t
kept_commits b s t e has = record {
  commits = has.commits ∙ ap (map numbered) (sym e);
  done = has.done ∙ ap (map done_by_commit) (sym e);
  position = has.position ∙ ap (λ (past : List Committed). last_end (commit_ends past)) (sym e);
}

pub led_on : (g : Setting) (rows : Rows) (a b : Led) (p : Progress) (payload : List ℕ) (m : Message) (t : State) → Represents g rows a p → Admits g p.state payload m t → KeepsOn g p.state t → IsSameLed a b → AreAssigned t.transactions b.standing
    → SessionRepresents g b.session t → HasTaken g (Represents g rows b) p payload false
led_on g rows a b p payload m t at admits on same agreed session =
    taken_on g (Represents g rows b) p payload m t admits on.past (record {
      catalog = at.catalog ∙ sym same.catalog;
      tables = same.tables ∙ at.tables;
      session = session;
      named = on.named;
      agreed = agreed;
      committed = kept_commits b p.state t on.past (same_commits a b p.state same at.committed);
      reached = on.position ∙ at.reached ∙ ap (λ (past : List Committed). last_end (commit_ends past)) (sym on.past);
      seen = same.written ∙ at.seen ∙ ap (max p.seen) (sym on.position);
      places = same.places ∙ at.places;
    })

-- so it does by a step that commits nothing
pub led_by_step : (g : Setting) (rows : Rows) (a b : Led) (p : Progress) (payload : List ℕ) (step : Step) → Represents g rows a p → (t : AdmitsPayload g b.session p.state payload step) → IsNoCommit step
    → IsSameLed a b → AreAssigned t.state.transactions b.standing → HasTaken g (Represents g rows b) p payload false
led_by_step g rows a b p payload step at t none same agreed =
    led_on g rows a b p payload t.message t.state at t.admits
    (keeps_on g p.state t.state t.told step at.named t.tells t.within t.says none) same agreed t.represents

-- the session and what is open are otherwise, and neither tables nor commits
pub same_but_open : (s : Stream) (v : Session) (old new : Standing) → new.tables ≡ old.tables → commits_in new.line ≡ commits_in old.line → length new.workers ≡ length old.workers
    → IsSameLed (led s old) (led (record s { session = v }) new)
same_but_open s v old new tables line places = record { catalog = refl; tables = tables; line = line; position = refl; written = refl; places = places }

-- whatever the session admits by this step
abbrev pub Admitting : Stream → Session → List ℕ → Step → Type 0
Admitting stream v payload step = (g : Setting) (h : State) → g.catalog ≡ stream.catalog.now → SessionRepresents g stream.session h → AdmitsPayload g v h payload step

-- a step that commits nothing was taken
pub step_taken : (stream : Stream) (v : Session) (old new : Standing) (payload : List ℕ) (step is : Step) → step ≡ is → IsNoCommit is → Admitting stream v payload step → (new.tables ≡ old.tables) × (commits_in new.line ≡ commits_in old.line) × (length new.workers ≡ length old.workers)
    → Agrees old new is → (g : Setting) (rows : Rows) (p : Progress) → Represents g rows (led stream old) p → HasTaken g (Represents g rows (led (record stream { session = v }) new)) p payload false
step_taken stream v old new payload step is e none admits same agrees g rows p at =
    let t = admits g p.state at.catalog at.session in
    led_by_step g rows (led stream old) (led (record stream { session = v }) new) p payload step at t (subst IsNoCommit (sym e) none)
    (same_but_open stream v old new same.0 same.1 same.2) (agrees g p.state t.state t.told at.agreed t.tells t.within (subst (Says t.told) e t.says))

-- ---- a message that ends the run

-- an error that was passed on
pub takes_err : (g : Setting) (rows : Rows) (b : Led) (p : Progress) (payload : List ℕ) (r : Result Bool End) (is : End) → IsErrAnd r (λ end. end ≡ is) → Stops g b p payload is → LeadTakes g rows b p payload r
takes_err g rows b p payload (Ok x) is err stops = absurd err
takes_err g rows b p payload (Err end) is err stops = subst (Stops g b p payload) (sym err) stops

-- an end of the store is none of a session, and isn't clean
pub store_end : (g : Setting) (s : State) (rest : List CopyItem) (turn : Option ℕ) (end : End) → ((x : ℕ) → turn ≡ Some x → HasTurn g s rest x) → IsStoreEnd turn end → (end ≢ ends.Clean) × MayEndBy g s rest end
store_end g s rest turn ends.Clean whose is = absurd is
store_end g s rest turn (ends.Frame fault) whose is = absurd is
store_end g s rest turn (ends.Msg fault) whose is = absurd is
store_end g s rest turn (ends.Session fault) whose is = absurd is
store_end g s rest turn (ends.Rel fault) whose is = absurd is
store_end g s rest turn (ends.Unique table key) whose is = ((λ e. absurd cc), tt)
store_end g s rest turn (ends.NullKey table) whose is = ((λ e. absurd cc), tt)
store_end g s rest turn (ends.HeldKey xid holder) whose is = ((λ e. absurd cc), whose xid is)
store_end g s rest turn ends.OutOfMemory whose is = ((λ e. absurd cc), tt)

-- so it is where no key is held
stop_end : (g : Setting) (s : State) (rest : List CopyItem) (end : End) → IsStopEnd end → (end ≢ ends.Clean) × MayEndBy g s rest end
stop_end g s rest end is = store_end g s rest None end (λ x e. absurd cc) (is None)

-- and where this transaction's turn it is
turn_end : (g : Setting) (s : State) (rest : List CopyItem) (xid : ℕ) (end : End) → HasTurn g s rest xid → IsStoreEnd (Some xid) end → (end ≢ ends.Clean) × MayEndBy g s rest end
turn_end g s rest xid end turn is = store_end g s rest (Some xid) end (λ x e. let same : xid ≡ x = cc in subst (HasTurn g s rest) same turn) is

-- the session refused it
pub refused_end : (g : Setting) (s : State) (first last : ℕ) (payload : List ℕ) (more : List CopyItem) (refused : Refused) → Refuses g s payload refused → (end_of_refusal refused ≢ ends.Clean) × MayEndBy g s (Wal first last payload ∷ more) (end_of_refusal refused)
refused_end g s first last payload more (refusals.Msg fault) is = ((λ e. absurd cc), is)
refused_end g s first last payload more (refusals.Session fault) is = ((λ e. absurd cc), is)
refused_end g s first last payload more (refusals.Rel fault) is = ((λ e. absurd cc), is)
refused_end g s first last payload more refusals.OutOfMemory is = ((λ e. absurd cc), tt)

pub stops_refused : (g : Setting) (rows : Rows) (a b : Led) (p : Progress) (payload : List ℕ) (refused : Refused) (end : End) → Represents g rows a p → IsSameLed a b → b.standing ≡ a.standing → Refuses g p.state payload refused → end ≡ end_of_refusal refused
    → Stops g b p payload end
stops_refused g rows a b p payload refused end at same standing is e = inl (λ first last more.
    let rest = Wal first last payload ∷ more in
    let why = refused_end g p.state first last payload more refused is in
    subst (HasStopped g b p.state rest) (sym e)
    (same_commits a b p.state same at.committed, why.0, all_held g p.state rest b.standing (subst (AreAssigned p.state.transactions) (sym standing) at.agreed), why.1, same.places ∙ at.places))

-- the store refused what it asked for, and nothing is otherwise
pub stops_before : (g : Setting) (rows : Rows) (a b : Led) (p : Progress) (payload : List ℕ) (end : End) → Represents g rows a p → IsSameLed a b → b.standing ≡ a.standing → IsStopEnd end → Stops g b p payload end
stops_before g rows a b p payload end at same standing is = inl (λ first last more.
    let rest = Wal first last payload ∷ more in
    let why = stop_end g p.state rest end is in
    (same_commits a b p.state same at.committed, why.0, all_held g p.state rest b.standing (subst (AreAssigned p.state.transactions) (sym standing) at.agreed), why.1, same.places ∙ at.places))

-- so it does where a call was refused
pub stays : (stream : Stream) (v : Session) (old new : Standing) (payload : List ℕ) (r : Result Bool End) (end : End) → IsErrAnd r (λ is. is ≡ end) → new ≡ old → IsStopEnd end → (g : Setting) (rows : Rows) (p : Progress) → Represents g rows (led stream old) p
    → LeadTakes g rows (led (record stream { session = v }) new) p payload r
stays stream v old new payload r end err same is g rows p at =
    takes_err g rows (led (record stream { session = v }) new) p payload r end err
    (stops_before g rows (led stream old) (led (record stream { session = v }) new) p payload end at
    (same_but_open stream v old new (ap (λ (st : Standing). st.tables) same) (ap (λ (st : Standing). commits_in st.line) same) (ap (λ (st : Standing). length st.workers) same)) same is)

-- it stopped behind the message
pub stops_behind : (g : Setting) (rows : Rows) (a b : Led) (p : Progress) (payload : List ℕ) (m : Message) (t : State) (end : End) → Represents g rows a p → Admits g p.state payload m t → KeepsOn g p.state t → IsSameLed a b → ((more : List CopyItem) → AreOpenAtEnd g t more b.standing)
    → ((more : List CopyItem) → (end ≢ ends.Clean) × MayEndBy g t more end) → Stops g b p payload end
stops_behind g rows a b p payload m t end at admits on same held ended =
    inr (
      m,
      t,
      admits,
      not_committed p.state t on.past,
      λ more.
          let why = ended more in
          (kept_commits b p.state t on.past (same_commits a b p.state same at.committed), why.0, held more, why.1, same.places ∙ at.places),
    )

-- ---- what a step leaves of the line

-- the same tables and commits, and a place for as many workers
abbrev pub SameCommits : Standing → Standing → Type 0
SameCommits old new = (new.tables ≡ old.tables) × (commits_in new.line ≡ commits_in old.line) × (length new.workers ≡ length old.workers)

-- one of a list is another now, and the list as long
as_long : {X : Type 0} (old new : List X) (was is : X) → Replaces old new was is → length new ≡ length old
as_long old new was is at =
    ap length at.new_is ∙ length-append at.before (is ∷ at.behind) ∙ sym (length-append at.before (was ∷ at.behind)) ∙ sym (ap length at.old_is)

pub begun_line : (old new : Standing) (xid : ℕ) → IsBegun old xid new → SameCommits old new
begun_line old new xid is = (ap (λ (st : Standing). st.tables) is.is, ap (λ (st : Standing). commits_in st.line) is.is ∙ unopened old.line xid, ap (λ (st : Standing). length st.workers) is.is)

pub handed_out_line : (old new : Standing) (xid : ℕ) → IsHandedOut old xid new → SameCommits old new
handed_out_line old new xid is = (ap (λ (st : Standing). st.tables) is.is, ap (λ (st : Standing). commits_in st.line) is.is ∙ unopened old.line xid, as_long _ _ _ _ is.workers)

pub taken_line : (old new : Standing) (xid : ℕ) (item : Item) → IsTaken old xid item new → SameCommits old new
taken_line old new xid item (inl is) = (ap (λ (st : Standing). st.tables) is.is, ap (λ (st : Standing). commits_in st.line) is.is, as_long _ _ _ _ is.workers)
taken_line old new xid item (inr (done, does)) =
    (ap (λ (st : Standing). st.tables) does.is_own, ap (λ (st : Standing). commits_in st.line) does.is_own, ap (λ (st : Standing). length st.workers) does.is_own)

pub aborted_line : (old new : Standing) (xid : ℕ) → IsAborted old xid new → SameCommits old new
aborted_line old new xid is = (
  ap (λ (st : Standing). st.tables) is.is,
  ap (λ (st : Standing). commits_in st.line) is.is ∙ flat_map-append past_of old.line (WasAborted xid ∷ []) ∙ append-nil (commits_in old.line),
  as_long _ _ _ _ is.workers,
)

-- so it is behind a commit
committed_places : (old new : Standing) (xid : ℕ) (info : CommitInfo) (items : List Item) → IsCommitted old xid info items new → length new.workers ≡ length old.workers
committed_places old new xid info items (inl given) = as_long _ _ _ _ given.workers
committed_places old new xid info items (inr (inl own)) = ap (λ (st : Standing). length st.workers) own.is
committed_places old new xid info items (inr (inr spooled)) = ap (λ (st : Standing). length st.workers) spooled.is

-- an item wasn't done: it wasn't given, or it is the leader's own that met another
pub stops_item : (g : Setting) (rows : Rows) (a b : Led) (p : Progress) (payload : List ℕ) (m : Message) (t : State) (xid : ℕ) (item : Item) (end : End) → Represents g rows a p → Admits g p.state payload m t → KeepsOn g p.state t
    → GoesAlone t.phase t.transactions → b.catalog ≡ a.catalog → b.position ≡ a.position → b.written ≡ a.written → IsHandedOn p.state t xid item → IsMet a.standing xid item b.standing end → Stops g b p payload end
stops_item g rows a b p payload m t xid item end at admits on alone catalog position written handed (inl (same, stop)) =
    stops_before g rows a b p payload end at
    (record {
      catalog = catalog;
      tables = ap (λ (st : Standing). st.tables) same;
      line = ap (λ (st : Standing). commits_in st.line) same;
      position = position;
      written = written;
      places = ap (λ (st : Standing). length st.workers) same;
    }) same stop
stops_item g rows a b p payload m t xid item end at admits on alone catalog position written handed (inr (done, after, undone, does, store)) =
    let met = met_held g p.state t a.standing b.standing xid item handed.size handed.transaction done after at.agreed handed.way handed.gives undone does in
    stops_behind g rows a b p payload m t end at admits on
    (record {
      catalog = catalog;
      tables = ap (λ (st : Standing). st.tables) does.is_own;
      line = ap (λ (st : Standing). commits_in st.line) does.is_own;
      position = position;
      written = written;
      places = ap (λ (st : Standing). length st.workers) does.is_own;
    })
    (λ more. met.1 more) (λ more. turn_end g t more xid end (inl (alone xid met.0.0 met.0.1 met.0.2)) store)

-- ---- a commit

-- what the commit of a transaction makes final
pub record IsLedCommit (g : Setting) (s t : State) (xid : ℕ) (info : CommitInfo) (handed : List Item) : Type 0 where
  pub transaction : Committed
  pub commits : IsCommitting s t transaction
  pub xid_is : transaction.xid ≡ xid
  pub info_is : transaction.info ≡ info
  pub hands : handed ≡ items_handed_out transaction.xid transaction.way transaction.items
  pub named : AreNamed (length g.catalog) t.transactions
  pub items : All (IsOfTables (length g.catalog)) handed

pub led_commit : (g : Setting) (s t : State) (told : StreamEvent) (xid : ℕ) (info : CommitInfo) (items : Vec Item Global) → AreNamed (length g.catalog) s.transactions → Tells s t told → Says told (steps.Commit xid info items)
    → IsLedCommit g s t xid info items.items
led_commit g s t (TransactionCommits c) xid info items named tells says =
    record {
      transaction = c;
      commits = tells;
      xid_is = sym says.0;
      info_is = sym says.1;
      hands = says.2;
      named = dropped_on g s t c.xid named tells.transactions;
      items = subst (All (IsOfTables (length g.catalog))) (sym says.2) (handed_named (IsOfTables (length g.catalog)) c.xid c.way c.items (all_final (IsOfTables (length g.catalog)) s t c tells (named c.xid _ tells.present)));
    }
led_commit g s t (TransactionOpens x Direct) xid info items named tells says = absurd cc
led_commit g s t (ItemComes x Direct item size) xid info items named tells says = absurd cc
led_commit g s t (TransactionAborts x Direct) xid info items named tells says = absurd cc
led_commit g s t told xid info items named tells says = absurd cc

-- a commit ends above those of the line
line_ends : (line : List LineEvent) (past : List Committed) → commits_in line ≡ map done_by_commit past → last_end (ends_in line) ≡ last_end (commit_ends past)
line_ends line past e = ap last_end (ap (map (λ (p : Past). p.info.end)) e ∙ map-map (λ (p : Past). p.info.end) done_by_commit past)

pub rises : (g : Setting) (rows : Rows) (l : Led) (p : Progress) (t : State) (xid : ℕ) (info : CommitInfo) (handed : List Item) → Represents g rows l p → IsLedCommit g p.state t xid info handed → last_end (ends_in l.standing.line) < info.end
rises g rows l p t xid info handed at is =
    subst (λ n. n < info.end) (sym (line_ends l.standing.line p.state.past at.committed.done ∙ sym at.reached))
    (subst (λ (i : CommitInfo). p.state.position < i.end) is.info_is is.commits.later)

-- what is there of all, once it was committed
commit_agreed : (s t : State) (c : Committed) (old new : Standing) (handed : List Item) → AreAssigned s.transactions old → handed ≡ items_handed_out c.xid c.way c.items → IsCommitting s t c → IsCommitted old c.xid c.info handed new → Committing s t c old new
commit_agreed s t c old new handed agreed hands commits is = by_way c.way refl
  where
    by_way : (w : Way) → c.way ≡ w → Committing s t c old new
    by_way Direct e = direct_commit s t c old new handed agreed e commits is
    by_way Worker e = worker_commit s t c old new handed agreed e commits is
    by_way Spooled e = spooled_commit s t c old new handed agreed e hands commits is

pub led_to_commit : (g : Setting) (rows : Rows) (a b : Led) (p : Progress) (payload : List ℕ) (m : Message) (t : State) (xid : ℕ) (info : CommitInfo) (handed : List Item) → Represents g rows a p → Admits g p.state payload m t → IsLedCommit g p.state t xid info handed
    → IsCommitted a.standing xid info handed b.standing → b.catalog ≡ a.catalog → b.position ≡ info.end → b.written ≡ max a.written info.end → SessionRepresents g b.session t → HasTaken g (Represents g rows b) p payload true
led_to_commit g rows a b p payload m t xid info handed at admits is made catalog position written session =
    let c = is.transaction in
    let made_so : IsCommitted a.standing c.xid c.info handed b.standing =
    subst (λ n. IsCommitted a.standing n c.info handed b.standing) (sym is.xid_is) (subst (λ i. IsCommitted a.standing xid i handed b.standing) (sym is.info_is) made)
    in
    let to = commit_agreed p.state t c a.standing b.standing handed at.agreed is.hands is.commits made_so in
    let done : commits_in b.standing.line ≡ map done_by_commit t.past =
    to.line ∙ ap (λ (ps : List Past). ps ++ done_by_commit c ∷ []) at.committed.done ∙ sym (ap (map done_by_commit) is.commits.past ∙ map-append done_by_commit p.state.past (c ∷ []))
    in
    let ends : last_end (commit_ends t.past) ≡ info.end = ap (λ (past : List Committed). last_end (commit_ends past)) is.commits.past ∙ last_end-push p.state.past c ∙ ap (λ (i : CommitInfo). i.end) is.info_is in
    let reaches : t.position ≡ info.end = is.commits.position ∙ ap (λ (i : CommitInfo). i.end) is.info_is in
    taken_commit g (Represents g rows b) p payload m t admits (one_committed p.state t c is.commits.past) (record {
      catalog = at.catalog ∙ sym catalog;
      tables = to.tables ∙ at.tables;
      session = session;
      named = is.named;
      agreed = to.agreed;
      committed = record {
        commits = ap (map numbered_past) done ∙ numbers_of t.past;
        done = done;
        position = position ∙ sym ends;
      };
      reached = reaches ∙ sym ends;
      seen =
          written ∙ ap (λ n. max n info.end) at.seen ∙ ap (max (max p.seen p.state.position)) (sym reaches)
          ∙ later_max p.seen p.state.position t.position (subst (λ n. p.state.position < n) (sym is.commits.position) is.commits.later);
      places = committed_places a.standing b.standing xid info handed made ∙ at.places;
    })
  where
    numbers_of : (past : List Committed) → map numbered_past (map done_by_commit past) ≡ map numbered past
    numbers_of [] = refl
    numbers_of (c ∷ past) = ap (λ (ns : List Numbered). numbered c ∷ ns) (numbers_of past)

-- the next message commits the transaction
pub commits_next : (g : Setting) (s t : State) (payload : List ℕ) (m : Message) (xid : ℕ) (info : CommitInfo) (handed : List Item) → Admits g s payload m t → IsLedCommit g s t xid info handed → IsCommitOf g s payload xid
commits_next g s t payload m xid info handed admits is = record { message = m; state = t; admits = admits; committed = is.transaction; past = is.commits.past; xid_is = is.xid_is }

-- and a spooled one does then what was handed out
does_at_commit : (g : Setting) (s t : State) (payload : List ℕ) (m : Message) (xid : ℕ) (info : CommitInfo) (handed : List Item) → Admits g s payload m t
    → (is : IsLedCommit g s t xid info handed) → is.transaction.way ≡ Spooled → DoesAtCommit g s payload is.transaction.xid handed
does_at_commit g s t payload m xid info handed admits is spooled =
    let c = is.transaction in (
      record { message = m; state = t; admits = admits; committed = c; past = is.commits.past; xid_is = refl },
      sym (is.hands ∙ ap (λ (w : Way). items_handed_out c.xid w c.items) spooled ∙ items_of_survivors item_of c.xid c.items),
    )

-- what is left then
record LeftAtCommit (g : Setting) (s : State) (rest : List CopyItem) (a b : Standing) : Type 0 where
  tables : b.tables ≡ a.tables
  line : commits_in b.line ≡ commits_in a.line
  places : length b.workers ≡ length a.workers
  held : AreOpenAtEnd g s rest b

left_at_commit : (g : Setting) (rows : Rows) (a b : Led) (p : Progress) (rest : List CopyItem) (t : State) (xid : ℕ) (info : CommitInfo) (handed : List Item) → Represents g rows a p → (is : IsLedCommit g p.state t xid info handed)
    → (is.transaction.way ≡ Spooled → IsNext rest (λ payload. DoesAtCommit g p.state payload is.transaction.xid handed)) → (b.standing ≡ a.standing) ⊎ HasTried a.standing xid handed b.standing → LeftAtCommit g p.state rest a.standing b.standing
left_at_commit g rows a b p rest t xid info handed at is does (inl same) = record {
  tables = ap (λ (st : Standing). st.tables) same;
  line = ap (λ (st : Standing). commits_in st.line) same;
  places = ap (λ (st : Standing). length st.workers) same;
  held = all_held g p.state rest b.standing (subst (AreAssigned p.state.transactions) (sym same) at.agreed);
}
left_at_commit g rows a b p rest t xid info handed at is does (inr tried) = record {
  tables = ap (λ (st : Standing). st.tables) tried.is;
  line = ap (λ (st : Standing). commits_in st.line) tried.is ∙ unopened a.standing.line xid;
  places = ap (λ (st : Standing). length st.workers) tried.is;
  held =
      tried_held g p.state rest a.standing b.standing is.transaction (record { way = is.transaction.way; items = is.commits.items }) handed at.agreed is.commits.present does
      (subst (λ n. HasTried a.standing n handed b.standing) (sym is.xid_is) tried);
}

-- the store refused a commit: nothing is otherwise, or a spooled transaction was begun of
pub stops_at_commit : (g : Setting) (rows : Rows) (a b : Led) (p : Progress) (payload : List ℕ) (m : Message) (t : State) (xid : ℕ) (info : CommitInfo) (handed : List Item) (end : End) → Represents g rows a p → Admits g p.state payload m t
    → IsLedCommit g p.state t xid info handed → b.catalog ≡ a.catalog → b.position ≡ a.position → b.written ≡ a.written → (b.standing ≡ a.standing) ⊎ HasTried a.standing xid handed b.standing → IsStoreEnd (Some xid) end → Stops g b p payload end
stops_at_commit g rows a b p payload m t xid info handed end at admits is catalog position written why store = inl (λ first last more.
    let rest = Wal first last payload ∷ more in
    let next = commits_next g p.state t payload m xid info handed admits is in
    let ended = turn_end g p.state rest xid end (inr next) store in
    let left = left_at_commit g rows a b p rest t xid info handed at is (does_at_commit g p.state t payload m xid info handed admits is) why in
    let same : IsSameLed a b = record { catalog = catalog; tables = left.tables; line = left.line; position = position; written = written; places = left.places } in
    (same_commits a b p.state same at.committed, ended.0, left.held, ended.1, left.places ∙ at.places))

-- ---- an item

-- the same with a greater position seen
pub seen_led : (g : Setting) (rows : Rows) (l : Led) (p : Progress) (seen w : ℕ) → Represents g rows l p → w ≡ max seen p.state.position → Represents g rows (record l { written = w }) (with_seen p seen)
seen_led g rows l p seen w at e = record {
  catalog = at.catalog;
  tables = at.tables;
  session = at.session;
  named = at.named;
  agreed = at.agreed;
  committed = record { commits = at.committed.commits; done = at.committed.done; position = at.committed.position };
  reached = at.reached;
  seen = e;
  places = at.places;
}

-- so it is once this item was seen
pub seen_stream : (g : Setting) (rows : Rows) (old new : Stream) (t : Standing) (p : Progress) (item is : CopyItem) → item ≡ is → Represents g rows (led old t) p → new ≡ record old { written = seen_with old.written item }
    → Represents g rows (led new t) (with_seen p (seen_with p.seen is))
seen_stream g rows old new t p item is e at same =
    let seen = seen_with p.seen is in
    subst (λ (s : Stream). Represents g rows (led s t) (with_seen p seen)) (sym same)
    (seen_led g rows (led old t) p seen (seen_with old.written item) at (ap (seen_with old.written) e ∙ seen_item is old.written p.seen p.state.position at.seen))

module _ {H : Type 0} (of : H → Led) (g : Setting) (rows : Rows) where
  abbrev At : H → Progress → Type 0
  At h p = Represents g rows (of h) p

  abbrev Ended : H → List CopyItem → Progress → List CopyItem → End → Type 0
  Ended h handled p rest end = HasLedTo g rows (of h) handled p rest end

  pub handled_led_wal : (h : H) (handled : List CopyItem) (p : Progress) (first last : ℕ) (payload : List ℕ) (result : Result Bool End) → LeadTakes g rows (of h) (with_seen p (max (max p.seen first) last)) payload result → HandlesItem g At Ended h handled p (Wal first last payload) result
  handled_led_wal h handled p first last payload (Ok is_commit) taken = message_handled g At h p Ended first last payload is_commit taken
  handled_led_wal h handled p first last payload (Err end) (inl before) = inl (λ more. before first last more)
  handled_led_wal h handled p first last payload (Err end) (inr (m, s, admits, none, behind)) =
      ended_behind g At h p Ended handled first last payload m s end admits none (λ handles. behind)

  pub handled_led_keepalive : (h : H) (p : Progress) (last : ℕ) (reply : Bool) → Represents g rows (of h) (with_seen p (max p.seen last)) → HasHandled g At Ended h p (Keepalive last reply) reply
  handled_led_keepalive h p last reply at = record {
    progress = record { state = p.state; seen = max p.seen last; updates = p.updates ++ due_updates reply p.state (max p.seen last) };
    handles = (refl, refl, refl);
    updates = refl;
    at = record { catalog = at.catalog; tables = at.tables; session = at.session; named = at.named; agreed = at.agreed; committed = at.committed; reached = at.reached; seen = at.seen; places = at.places };
  }
