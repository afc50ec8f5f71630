-- A run whose streamed transactions have workers.
--     Numbered, numbered, numbers_in      a commit, without what it made final; those of a line
--     Led, led, after_commit      what a leader knows; that of its parts; once a transaction was committed
--     AreNamed      items name tables of the catalog
--     IsAssigned, AreAssigned      what is there of a transaction is what the state has; so it is of all
--     HasCommitted, HasPlaces      its commits are those of a state; it has a place for each worker
--     Represents, RepresentsSome, RepresentsStart      what a leader knows is what a progress has
--     KeepsToWork      what an open transaction has done is a beginning of its work
--     IsOpenAtEnd, AreOpenAtEnd      what is there of a transaction at an end, and of all
--     HasTurn, MayEndBy      whose turn it is; why a run may end at the next item
--     HasStopped, Stops, LeadTakes      it stopped at a state; a message ended the run so; it was taken, or ended the run
--     HasLedTo      it ended a run
use Rattle.std.specs.Prelude.{◌≡◌, ◌≢◌, ℕ, Bool, true, false, max, List, [], ◌∷◌, length, map, Option, Some, None, Result, MatchResult, All, ◌⊎◌}
use Rattle.std.specs.FinMap as finite
use Rattle.model.specs.Definition.{Definition}
use Rattle.model.specs.Rows.{Rows}
use Rattle.model.specs.declared.item.Item.{Item}
use Rattle.model.specs.declared.item.CommitInfo.{CommitInfo}
use Rattle.world.specs.World.{Opened, Past}
use Rattle.engine.specs.declared.events.LineEvent.{LineEvent}
use Rattle.engine.specs.Events.{commits_in, is_open_in}
use Rattle.messages.specs.declared.message.Message.{Message}
use Rattle.frames.specs.declared.item.CopyItem.{CopyItem}
use Rattle.frames.specs.declared.item.CopyItem.TheVariants.{Wal}
use Rattle.session.specs.declared.fault.Refused.TheVariants as refusals
use Rattle.session.specs.declared.session.Session.{Session}
use Rattle.session.specs.Answers.{IsOfTables}
use Rattle.session.specs.Sized.{item_of}
use Rattle.session.specs.State.{Direct, Worker, Spooled, Open, OpenTransactions, Committed, State, Setting, begun_at}
use Rattle.session.specs.Lawful.{Admits}
use Rattle.session.specs.Represents.{Represents as SessionRepresents}
use Rattle.run.specs.declared.end.End.{End}
use Rattle.run.specs.declared.end.End.TheVariants as ends
use Rattle.run.specs.Cause.{RefusesNext}
use Rattle.run.specs.Handler.{HasTaken}
use Rattle.model.specs.Beginning.{last_end}
use Rattle.run.specs.Progress.{Progress, start_progress, commits_from}
use Rattle.run_laws.specs.Runs.{CommitsNext}
use Rattle.run_laws.specs.Threads.{IsWork, done_by_commit}
use Rattle.leader.specs.declared.lead.Stream.{Stream}
use Rattle.dispatch.specs.Handle.{IsDoing}
use Rattle.dispatch.specs.Standing.{Standing, items_by, own_of}
use Rattle.run.specs.Commits.{commit_ends}

-- a commit, without what it made final: the number of its transaction, and where it stands in the log
pub record Numbered : Type 0 where
  pub xid : ℕ
  pub info : CommitInfo

-- a commit of a state, so
abbrev pub numbered : Committed → Numbered
numbered c = record { xid = c.xid; info = c.info }

-- a commit of a store, so
abbrev pub numbered_past : Past → Numbered
numbered_past p = record { xid = p.xid; info = p.info }

-- the commits that a line tells, so
abbrev pub numbers_in : List LineEvent → List Numbered
numbers_in line = map numbered_past (commits_in line)

-- what a leader knows
pub record Led : Type 0 where
  pub catalog : List Definition
  pub session : Session
  pub standing : Standing
  pub position : ℕ
  -- the greatest position of the publisher's log so far
  pub written : ℕ

-- what it knows, by its parts
abbrev pub led : Stream → Standing → Led
led s t = record { catalog = s.catalog.now; session = s.session; standing = t; position = s.position; written = s.written }

-- what it knows once its open transactions show this, and a commit was told
abbrev pub after_commit : Led → Standing → CommitInfo → Led
after_commit l t its_info = record l { standing = t; position = its_info.end; written = max l.written its_info.end }

-- The items of all open transactions name tables among the first so many.
abbrev pub AreNamed : ℕ → OpenTransactions → Type 0
AreNamed count transactions =
    (xid : ℕ) (o : Open) → finite.get transactions xid ≡ Some o → All (IsOfTables count) (map item_of o.items)

-- ---- what a state has

-- What is there of a transaction is what the state has of it. One with a worker goes by just one worker, with all of its
-- items; the leader has done all items of the one that goes directly; of a spooled one nothing is there, nor of one
-- that isn't open. Just those of which something is there are open in the store.
abbrev pub IsAssigned : Option Open → List (List Item) → Option Opened → Bool → Type 0
IsAssigned None [] None false = Unit {0}
IsAssigned (Some o) (items ∷ []) None true = (o.way ≡ Worker) × (items ≡ map item_of o.items)
IsAssigned (Some o) [] (Some done) true = (o.way ≡ Direct) × (done ≡ record { items = map item_of o.items; wants = None })
IsAssigned (Some o) [] None false = o.way ≡ Spooled
IsAssigned _ _ _ _ = ⊥

-- So it is of all.
abbrev pub AreAssigned : OpenTransactions → Standing → Type 0
AreAssigned transactions t =
    (xid : ℕ) → IsAssigned (finite.get transactions xid) (items_by xid t.workers) (own_of xid t.begun) (is_open_in t.line xid)

-- Its commits are those of a state, each of a transaction that had done all of its work and nothing else.
pub record HasCommitted (l : Led) (s : State) : Type 0 where
  pub commits : numbers_in l.standing.line ≡ map numbered s.past
  pub done : commits_in l.standing.line ≡ map done_by_commit s.past
  pub position : l.position ≡ last_end (commit_ends s.past)

-- It has a place for each worker of the run.
abbrev pub HasPlaces : Setting → Led → Type 0
HasPlaces g l = length l.standing.workers ≡ g.workers

-- All that it knows is that of a progress.
pub record Represents (g : Setting) (rows : Rows) (l : Led) (p : Progress) : Type 0 where
  pub catalog : g.catalog ≡ l.catalog
  pub tables : l.standing.tables ≡ length g.catalog
  pub session : SessionRepresents g l.session p.state
  pub named : AreNamed (length g.catalog) p.state.transactions
  pub agreed : AreAssigned p.state.transactions l.standing
  pub committed : HasCommitted l p.state
  pub reached : p.state.position ≡ last_end (commit_ends p.state.past)
  pub seen : l.written ≡ max p.seen p.state.position
  pub places : HasPlaces g l

-- It is that of some progress.
abbrev pub RepresentsSome : Led → Type 0
RepresentsSome l = (g : Setting) × (rows : Rows) × (p : Progress) × Represents g rows l p

-- It is that before the first item.
abbrev pub RepresentsStart : Led → Type 0
RepresentsStart l = (g : Setting) × (rows : Rows) × Represents g rows l start_progress

-- ---- an end

-- What an open transaction has done is a beginning of its work.
pub record KeepsToWork (g : Setting) (s : State) (rest : List CopyItem) (xid : ℕ) (o : Open) (done : Opened) : Type 0 where
  pub work : List Item
  pub is_work : IsWork g s rest xid o.way o.items work
  pub doing : IsDoing done work

-- What is there of a transaction where the run ends. One with a worker goes by just one worker, with all of its items. What
-- the leader's own has done is a beginning of its work.
abbrev pub IsOpenAtEnd : Setting → State → List CopyItem → ℕ → Option Open → List (List Item) → Option Opened → Bool → Type 0
IsOpenAtEnd g s rest xid None [] None false = Unit {0}
IsOpenAtEnd g s rest xid (Some o) (items ∷ []) None true = (o.way ≡ Worker) × (items ≡ map item_of o.items)
IsOpenAtEnd g s rest xid (Some o) [] (Some done) true =
    (o.way ≢ Worker) × KeepsToWork g s rest xid o done
IsOpenAtEnd g s rest xid (Some o) [] None false = o.way ≡ Spooled
IsOpenAtEnd g s rest xid _ _ _ _ = ⊥

-- So it is of all.
abbrev pub AreOpenAtEnd : Setting → State → List CopyItem → Standing → Type 0
AreOpenAtEnd g s rest t =
    (xid : ℕ) → IsOpenAtEnd g s rest xid (finite.get s.transactions xid) (items_by xid t.workers) (own_of xid t.begun) (is_open_in t.line xid)

-- It is the turn of this transaction: it was begun, or the next message commits it.
abbrev pub HasTurn : Setting → State → List CopyItem → ℕ → Type 0
HasTurn g s rest xid = (begun_at s.phase ≡ Some xid) ⊎ CommitsNext g s rest xid

-- Why a run may end at the next item: the session refuses it; or it is the turn of the transaction that waits. Whether
-- it waits, or a change clashed, is for the store to say, and memory may be refused at any time.
abbrev pub MayEndBy : Setting → State → List CopyItem → End → Type 0
MayEndBy g s rest ends.Clean = ⊥
MayEndBy g s rest (ends.Frame fault) = ⊥
MayEndBy g s rest (ends.Msg fault) = RefusesNext g s rest (refusals.Msg fault)
MayEndBy g s rest (ends.Session fault) = RefusesNext g s rest (refusals.Session fault)
MayEndBy g s rest (ends.Rel fault) = RefusesNext g s rest (refusals.Rel fault)
MayEndBy g s rest (ends.Unique table key) = Unit {0}
MayEndBy g s rest (ends.NullKey table) = Unit {0}
MayEndBy g s rest (ends.HeldKey xid holder) = HasTurn g s rest xid
MayEndBy g s rest ends.OutOfMemory = Unit {0}

-- It stopped at this state, with these items left, and proposes this end: its commits are those of the state, and what
-- each open transaction was given, or has done, is of its work.
abbrev pub HasStopped : Setting → Led → State → List CopyItem → End → Type 0
HasStopped g l s rest end =
    HasCommitted l s × (end ≢ ends.Clean) × AreOpenAtEnd g s rest l.standing × MayEndBy g s rest end × HasPlaces g l

-- The message ended the run: it wasn't handled, or it was, brought no commit, and a change that it brought isn't done.
abbrev pub Stops : Setting → Led → Progress → List ℕ → End → Type 0
Stops g l p payload end =
    ((first last : ℕ) (more : List CopyItem) → HasStopped g l p.state (Wal first last payload ∷ more) end)
    ⊎ ((m : Message) × (s : State) × Admits g p.state payload m s × (commits_from p.state s ≡ false)
    × ((more : List CopyItem) → HasStopped g l s more end))

-- The message was taken, or it ended the run.
abbrev pub LeadTakes : Setting → Rows → Led → Progress → List ℕ → Result Bool End → Type 0
LeadTakes g rows l p payload result = MatchResult result (HasTaken g (Represents g rows l) p payload) (Stops g l p payload)

-- It ended a run so, other than cleanly, and what it has is that of this progress.
abbrev pub HasLedTo : Setting → Rows → Led → List CopyItem → Progress → List CopyItem → End → Type 0
HasLedTo g rows l handled p rest end = HasStopped g l p.state rest end
