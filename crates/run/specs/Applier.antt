-- When what a run keeps is that of a progress, and what handling an item leaves.
use Rattle.std.specs.Prelude.{◌≡◌, ◌≢◌, ℕ, Bool, false, max, List, ◌∷◌, length, map, Some, All}
use Rattle.std.specs.Prelude.{Result, MatchResult, ◌⊎◌}
use Rattle.std.specs.FinMap as finite
use Rattle.model.specs.Rows.{Rows}
use Rattle.model.specs.Effect.{serial}
use Rattle.messages.specs.declared.message.Message.{Message}
use Rattle.frames.specs.declared.item.CopyItem.{CopyItem}
use Rattle.frames.specs.declared.item.CopyItem.TheVariants.{Wal}
use Rattle.session.specs.Lawful.{Admits}
use Rattle.session.specs.Answers.{IsOfTables}
use Rattle.session.specs.Sized.{item_of}
use Rattle.session.specs.State.{Worker, Open, OpenTransactions, State, Setting}
use Rattle.session.specs.Represents.{Represents as SessionRepresents}
use Rattle.run.specs.declared.end.End.{End}
use Rattle.run.specs.declared.applier.Applier.{Applier}
use Rattle.model.specs.Accepted.{AreAccepted}
use Rattle.world.specs.World.{journal}
use Rattle.run.specs.Commits.{commits, committed_changes, begun_changes, all_changes, commit_ends}
use Rattle.model.specs.Beginning.{last_end}
use Rattle.run.specs.Progress.{Progress, commits_from}
use Rattle.run.specs.Handler.{HasTaken}
use Rattle.run.specs.Cause.{LastStep, schema_of, IsNextCause, IsLastCause}

-- The open transaction has no worker, and its items name tables among the first so many.
pub record IsServed (count : ℕ) (o : Open) : Type 0 where
  pub way : o.way ≢ Worker
  pub items : All (IsOfTables count) (map item_of o.items)

-- So it is with all.
abbrev pub AreServed : ℕ → OpenTransactions → Type 0
AreServed count transactions =
    (xid : ℕ) (o : Open) → finite.get transactions xid ≡ Some o → IsServed count o

-- What is kept of the commits: the rows without open work, the journal, the position.
pub record HasCommits (g : Setting) (rows : Rows) (a : Applier) (s : State) : Type 0 where
  pub schema : a.work.store.schema ≡ schema_of g
  pub base : a.work.store.world.committed ≡ serial (schema_of g) rows (committed_changes s)
  pub journal : journal a.work.store.world ≡ commits s
  pub position : a.position ≡ last_end (commit_ends s.past)

-- All that is kept is that of a progress.
pub record Represents (g : Setting) (rows : Rows) (a : Applier) (p : Progress) : Type 0 where
  pub workers : g.workers ≡ 0
  pub catalog : g.catalog ≡ a.catalog.now
  pub session : SessionRepresents g a.session p.state
  pub served : AreServed (length g.catalog) p.state.transactions
  pub commits : HasCommits g rows a p.state
  pub reached : p.state.position ≡ last_end (commit_ends p.state.past)
  pub begun : a.work.changes ≡ begun_changes p.state
  pub clear : AreAccepted (schema_of g) rows (all_changes p.state)
  pub seen : a.written ≡ max p.seen p.state.position

-- It is that of some progress.
abbrev pub RepresentsSome : Applier → Type 0
RepresentsSome a = (g : Setting) × (rows : Rows) × (p : Progress) × Represents g rows a p

-- ---- a message

-- The message ended the run: it may not come or clashes as it commits, or it was taken and clashed
-- then.
abbrev pub EndsByMessage : Setting → Rows → Applier → Progress → List ℕ → End → Type 0
EndsByMessage g rows a p payload end =
    (HasCommits g rows a p.state
    × ((first last : ℕ) (more : List CopyItem)
    → IsNextCause g rows p.state (Wal first last payload ∷ more) end))
    ⊎ ((m : Message) × (s : State) × Admits g p.state payload m s × (commits_from p.state s ≡ false)
    × HasCommits g rows a s × AreAccepted (schema_of g) rows (committed_changes s)
    × IsLastCause g rows s end)

-- The message was taken, or it ended the run.
abbrev pub TakesMessage : Setting → Rows → Applier → Progress → List ℕ → Result Bool End → Type 0
TakesMessage g rows a p payload result =
    MatchResult result (HasTaken g (Represents g rows a) p payload)
    (EndsByMessage g rows a p payload)

-- ---- an item

-- What ended a run: the next item may not come, or clashes as it commits, while no change had
-- clashed; or the last item brought a change into the transaction that was begun, the first that
-- clashes, and it was not committed.
abbrev pub IsWhyEnded : Setting → Rows → List CopyItem → Progress → List CopyItem → End → Type 0
IsWhyEnded g rows handled p rest end =
    (AreAccepted (schema_of g) rows (all_changes p.state) × IsNextCause g rows p.state rest end)
    ⊎ ((last : LastStep g handled p) × AreAccepted (schema_of g) rows (all_changes last.past.state)
    × AreAccepted (schema_of g) rows (committed_changes p.state) × IsLastCause g rows p.state end)

-- It ended a run so, and what is kept of the commits is that of this progress.
abbrev pub HasEnded : Setting → Rows → Applier → List CopyItem → Progress → List CopyItem → End
    → Type 0
HasEnded g rows a handled p rest end =
    HasCommits g rows a p.state × IsWhyEnded g rows handled p rest end
