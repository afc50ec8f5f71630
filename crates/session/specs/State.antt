-- The state that the messages of a stream leave.
--     Way, Open      how an open transaction's items go, and what it has done
--     Committed      what a commit made final
--     State, start      what all messages so far have left; what there is before the first
--     Setting      what a session is given: workers, room for spools, what to skip, the catalog
use Rattle.std.specs.Prelude.{◌≡◌, ◌≢◌, ℕ, Bool, true, false, List, [], Option, Some, None, count_by, sum_by, IsSomeAnd}
use Rattle.std.specs.Ordering.{nat_cmp}
use Rattle.std.specs.FinMap as map
use Rattle.std.specs.FinMap.{FinMap}
use Rattle.model.specs.Definition.{Definition}
use Rattle.model.specs.declared.item.CommitInfo.{CommitInfo}
use Rattle.model.specs.Survivors.{survivors_by}
use Rattle.relcache.specs.Published.{Relations}
use Rattle.session.specs.declared.phase.Phase.{Phase}
use Rattle.session.specs.declared.phase.Phase.TheVariants.{Outside, Begun, Block}
use Rattle.session.specs.Sized.{SizedItems, item_of, bytes_of}

-- Where the items of an open transaction go: applied as they come, to its worker, or kept until it commits.
pub data Way : Type 0 where
  Direct : Way
  Worker : Way
  Spooled : Way

-- an open transaction: its items since it was opened, rollbacks among them, each with the length of its payload
pub record Open : Type 0 where
  pub way : Way
  pub items : SizedItems

-- a transaction that was committed, its items as they stood then, and what the commit says
pub record Committed : Type 0 where
  pub xid : ℕ
  pub way : Way
  pub items : SizedItems
  pub info : CommitInfo

-- the open transactions, by their xid
abbrev pub OpenTransactions : Type 0
OpenTransactions = FinMap nat_cmp Open

-- what all messages so far have left
pub record State : Type 0 where
  pub phase : Phase
  pub transactions : OpenTransactions
  -- as last learnt
  pub relations : Relations
  -- the end of the last commit
  pub position : ℕ
  -- the commits so far, in order
  pub past : List Committed

-- before the first message
abbrev pub start : State
start = record { phase = Outside; transactions = map.empty; relations = []; position = 0; past = [] }

-- how many workers there are, how many bytes of payloads the spools may keep, which transaction to skip,
-- and the subscriber's tables
pub record Setting : Type 0 where
  pub workers : ℕ
  pub spool : ℕ
  -- the transaction's commit LSN; 0: none
  pub skip : ℕ
  pub catalog : List Definition

-- a message is read as one in a block of a streamed transaction
abbrev pub in_block : Phase → Bool
in_block Outside = false
in_block (Begun xid final) = false
in_block (Block xid) = true

-- ---- what survives

-- the items of a transaction that survive its rollbacks, each still with its length
abbrev pub sized_survivors : ℕ → SizedItems → SizedItems
sized_survivors top items = survivors_by item_of top items

-- ---- what the limits count

-- the way is with a worker
abbrev pub has_worker : Way → Bool
has_worker Direct = false
has_worker Worker = true
has_worker Spooled = false

-- how many transactions have a worker
abbrev pub worker_count : OpenTransactions → ℕ
worker_count transactions = count_by (λ (t : ℕ × Open). has_worker t.1.way) (map.entries transactions)

-- the bytes of payloads that a transaction has in its spool
abbrev pub spool_bytes_of : ℕ → SizedItems → Way → ℕ
spool_bytes_of xid items Direct = 0
spool_bytes_of xid items Worker = 0
spool_bytes_of xid items Spooled = bytes_of (sized_survivors xid items)

-- those of all spools
abbrev pub spool_bytes : OpenTransactions → ℕ
spool_bytes transactions = sum_by (λ (t : ℕ × Open). spool_bytes_of t.0 t.1.items t.1.way) (map.entries transactions)

-- ---- what each state is

-- The transaction that was begun is open and goes directly; that of a block is open and streamed.
abbrev pub IsHere : Phase → OpenTransactions → Type 0
IsHere Outside transactions = Unit {0}
IsHere (Begun xid final) transactions = IsSomeAnd (map.get transactions xid) (λ o. o.way ≡ Direct)
IsHere (Block xid) transactions = IsSomeAnd (map.get transactions xid) (λ o. o.way ≢ Direct)

-- the transaction that was begun
abbrev pub begun_at : Phase → Option ℕ
begun_at Outside = None
begun_at (Begun xid final) = Some xid
begun_at (Block xid) = None

-- No open transaction but the one that was begun goes directly.
abbrev pub GoesAlone : Phase → OpenTransactions → Type 0
GoesAlone phase transactions = (xid : ℕ) (o : Open) → map.get transactions xid ≡ Some o → o.way ≡ Direct → begun_at phase ≡ Some xid
