-- The transactions that a session's state tells of, and their changes.
--     entry_of_commit, commits      each commit of the past as it is told, with what survived
--     changes_of_entries, committed_changes      the changes of entries, and of all commits
--     commit_ends      where the log goes on behind each of them
--     begun_changes, all_changes      those so far of the transaction that was begun; all
use Rattle.std.specs.Prelude.{ℕ, List, [], ◌++◌, map, flat_map, Option, Some, None}
use Rattle.std.specs.FinMap as finite
use Rattle.model.specs.declared.change.Change.{Change}
use Rattle.model.specs.Survivors.{survivors, changes_of}
use Rattle.session.specs.declared.phase.Phase.{Phase}
use Rattle.session.specs.declared.phase.Phase.TheVariants.{Outside, Begun, Block}
use Rattle.session.specs.Sized.{SizedItems, item_of}
use Rattle.session.specs.State.{Open, Committed, State, OpenTransactions}
use Rattle.world.specs.World.{Entry}

-- the changes of a transaction's items that survive
abbrev pub surviving_changes : ℕ → SizedItems → List Change
surviving_changes xid items = changes_of (survivors xid (map item_of items))

-- a commit as it is told, with the changes that survived its rollbacks
abbrev pub entry_of_commit : Committed → Entry
entry_of_commit c = record {
  xid = c.xid;
  changes = surviving_changes c.xid c.items;
  commit = c.info.commit;
  end = c.info.end;
}

-- the commits so far, in order
abbrev pub commits : State → List Entry
commits s = map entry_of_commit s.past

-- the changes of these entries, one after another
abbrev pub changes_of_entries : List Entry → List Change
changes_of_entries entries = flat_map (λ (e : Entry). e.changes) entries

-- the changes of all commits so far, in commit order
abbrev pub committed_changes : State → List Change
committed_changes s = changes_of_entries (commits s)

-- an open transaction's changes so far, without those rolled back; none if it isn't open
abbrev pub open_changes : ℕ → Option Open → List Change
open_changes xid None = []
open_changes xid (Some o) = surviving_changes xid o.items

-- the changes so far of the transaction between Begin and Commit; none outside of one, or in a
-- block
abbrev pub begun_changes_in : Phase → OpenTransactions → List Change
begun_changes_in Outside transactions = []
begun_changes_in (Begun xid final) transactions = open_changes xid (finite.get transactions xid)
begun_changes_in (Block xid) transactions = []

-- the changes so far of the transaction between Begin and Commit, if there is one
abbrev pub begun_changes : State → List Change
begun_changes s = begun_changes_in s.phase s.transactions

-- what was done: the commits, and then the transaction that was begun
abbrev pub all_changes : State → List Change
all_changes s = committed_changes s ++ begun_changes s

-- where the log goes on behind each of these commits, in order
abbrev pub commit_ends : List Committed → List ℕ
commit_ends past = map (λ (c : Committed). c.info.end) past
