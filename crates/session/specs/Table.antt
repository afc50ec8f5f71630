-- The session table: what each message does in each phase, a line a message, and a column each for
-- outside of transactions, between Begin and Commit, and in a block of a streamed transaction.
use Rattle.std.specs.Prelude.{ℕ, ◌+◌, ◌==◌, Bool, true, false, not, is_some, ◌&&◌, List, [], ◌∷◌, ◌++◌, Option, Some, None, unwrap_or, Result, Ok, Err, nat_lt, nat_le, if◌then◌else◌}
use Rattle.std.specs.FinMap as map
use Rattle.model.specs.Definition.{Definition}
use Rattle.model.specs.declared.change.Change as change_type
use Rattle.model.specs.declared.change.Change.TheVariants.{Wipe}
use Rattle.model.specs.declared.item.Item.{Item}
use Rattle.model.specs.declared.item.Item.TheVariants.{Change, Touch, BackTo}
use Rattle.model.specs.declared.item.CommitInfo.{CommitInfo}
use Rattle.messages.specs.declared.message.Message.{Message}
use Rattle.messages.specs.declared.message.Message.TheVariants as messages
use Rattle.messages.specs.declared.message.Begin.{Begin}
use Rattle.messages.specs.declared.message.Commit.{Commit}
use Rattle.messages.specs.declared.message.StreamStart.{StreamStart}
use Rattle.messages.specs.declared.message.StreamAbort.{StreamAbort}
use Rattle.messages.specs.declared.relation.Relation.{Relation}
use Rattle.messages.specs.declared.row.RowMessage.{RowMessage}
use Rattle.messages.specs.declared.row.RowMessage.TheVariants as rows
use Rattle.relcache.specs.declared.fault.RelFault.{RelFault}
use Rattle.relcache.specs.Published.{Relations, learnt}
use Rattle.relcache.specs.Mapping.{resolved}
use Rattle.relcache.specs.Planning.{planned}
use Rattle.relcache.specs.Steps.{◌>>=◌}
use Rattle.model.specs.Limits.{most_open}
use Rattle.session.specs.declared.phase.Phase.{Phase}
use Rattle.session.specs.declared.phase.Phase.TheVariants.{Outside, Begun, Block}
use Rattle.session.specs.declared.fault.SessionFault.{SessionFault}
use Rattle.session.specs.declared.fault.SessionFault.TheVariants.{NotInTransaction, NestedBegin, BlockOpen, NoBlock, UnknownTransaction, AlreadyOpen, OldCommit, CommitMismatch, SpoolFull, TooManyOpen}
use Rattle.session.specs.declared.fault.Refused.{Refused}
use Rattle.session.specs.declared.fault.Refused.TheVariants.{Session, Rel}
use Rattle.session.specs.Sized.{SizedItems}
use Rattle.session.specs.State.{Way, Direct, Worker, Spooled, Open, OpenTransactions, Committed, State, Setting, worker_count, spool_bytes}

-- the next state, or why the message is refused
abbrev pub Next : Type 0
Next = Result State Refused

-- the message is refused for this fault
abbrev pub refuse : SessionFault → Next
refuse fault = Err (Session fault)

-- ---- the skip

-- the skip of a setting, until a transaction commits
abbrev pub skip_until : ℕ → List Committed → Option ℕ
skip_until skip [] = if skip == 0 then None else Some skip
skip_until skip (c ∷ past) = None

-- the commit LSN that is set to be skipped
abbrev pub skip_set : Setting → State → Option ℕ
skip_set g s = skip_until g.skip s.past

-- the skip names the transaction of this commit LSN
abbrev pub names : ℕ → Option ℕ → Bool
names commit None = false
names commit (Some skip) = skip == commit

-- the transaction of this commit LSN is skipped
abbrev pub is_skipped : Setting → State → ℕ → Bool
is_skipped g s commit = names commit (skip_set g s)

-- what is final of a transaction's items at its commit: of a spooled one that is skipped, none. (One that was
-- begun got none, where it is skipped; and none has a worker while the skip is set.)
abbrev pub final_items : Bool → Way → SizedItems → SizedItems
final_items skipped Direct items = items
final_items skipped Worker items = items
final_items skipped Spooled items = if skipped then [] else items

-- ---- opening

-- the transaction is open
abbrev pub is_open : State → ℕ → Bool
is_open s xid = map.contains_key s.transactions xid

-- a transaction of this way as it opens, with no items
abbrev pub new_open : Way → Open
new_open way = record { way = way; items = [] }

-- why the transaction can't be opened: it is open already, or there is no room for it
abbrev pub room_fault : OpenTransactions → ℕ → Option SessionFault
room_fault transactions xid =
    if map.contains_key transactions xid then Some AlreadyOpen
    else (if nat_le most_open (map.len transactions) then Some TooManyOpen else None)

-- this state, unless the message is refused for a fault
abbrev pub unless_fault : Option SessionFault → State → Next
unless_fault None t = Ok t
unless_fault (Some fault) t = refuse fault

-- the transaction opens in this way, and the stream is in it next; or why it can't be opened
abbrev pub opens : State → ℕ → Way → Phase → Next
opens s xid way phase = unless_fault (room_fault s.transactions xid) (record s { phase = phase; transactions = map.insert s.transactions xid (new_open way) })

-- a streamed transaction gets a worker as long as there are any and no skip is set, and is spooled otherwise
abbrev pub next_way : Setting → State → Way
next_way g s = if not (is_some (skip_set g s)) && nat_lt (worker_count s.transactions) g.workers then Worker else Spooled

-- a Begin opens a transaction of the direct way
abbrev pub begins : State → Begin → Next
begins s m = opens s m.xid Direct (Begun m.xid m.final_lsn)

-- a further block of an open transaction
abbrev pub goes_on : State → ℕ → Next
goes_on s xid = if is_open s xid then Ok (record s { phase = Block xid }) else refuse UnknownTransaction

-- a Stream Start opens its transaction in the first block, and goes on with it in a further one
abbrev pub streams : Setting → State → StreamStart → Next
streams g s m = if m.is_first then opens s m.xid (next_way g s) (Block m.xid) else goes_on s m.xid

-- the stream is outside of transactions, as a Stream Stop leaves it
abbrev pub leaves_block : State → State
leaves_block s = record s { phase = Outside }

-- ---- items

-- what an open transaction does, or that it is unknown
abbrev pub of_open : Option Open → (Open → Next) → Next
of_open None next = refuse UnknownTransaction
of_open (Some o) next = next o

-- the open transaction of this xid, if there is one
abbrev pub transaction : State → ℕ → Option Open
transaction s xid = map.get s.transactions xid

-- the transaction gets an item
abbrev pub gives : State → ℕ → Item → ℕ → Open → State
gives s xid item size o = record s { transactions = map.insert s.transactions xid (record o { items = o.items ++ (item, size) ∷ [] }) }

-- there is room for the payload, if the transaction is spooled
abbrev pub has_room : Setting → OpenTransactions → ℕ → Way → Bool
has_room g m size Direct = true
has_room g m size Worker = true
has_room g m size Spooled = nat_le (spool_bytes m + size) g.spool

-- a relation or type message in a block is an item that changes no row
abbrev pub touches : Setting → State → ℕ → ℕ → ℕ → Next
touches g s xid sub size = of_open (transaction s xid) (λ o. if has_room g s.transactions size o.way then Ok (gives s xid (Touch sub) size o) else refuse SpoolFull)

-- the next state by a planned change, or the relation's fault
abbrev pub plans : Result change_type.Change RelFault → (change_type.Change → State) → Next
plans (Ok c) next = Ok (next c)
plans (Err fault) next = Err (Rel fault)

-- a change that the relations allow
abbrev pub changes : Setting → State → ℕ → ℕ → ℕ → Result change_type.Change RelFault → Next
changes g s xid sub size planned =
    of_open (transaction s xid) (λ o. if has_room g s.transactions size o.way then plans planned (λ c. gives s xid (Change sub c) size o) else refuse SpoolFull)

-- the subtransaction that a message in a block names
abbrev pub subtransaction_named : Option ℕ → ℕ → ℕ
subtransaction_named sub xid = unwrap_or sub xid

-- ---- closing

-- an open transaction commits; OldCommit where it doesn't end past the last commit
abbrev pub closes : Setting → State → ℕ → CommitInfo → Open → Next
closes g s xid info o =
    if nat_le info.end s.position then refuse OldCommit
    else Ok (record s {
      phase = Outside;
      transactions = map.remove s.transactions xid;
      position = info.end;
      past = s.past ++ (record {
        xid = xid;
        way = o.way;
        items = final_items (is_skipped g s info.commit) o.way o.items;
        info = info;
      }) ∷ [];
    })

-- the transaction of this xid commits; UnknownTransaction if it isn't open
abbrev pub commits : Setting → State → ℕ → ℕ → ℕ → Next
commits g s xid commit end = of_open (transaction s xid) (λ o. closes g s xid (record { commit = commit; end = end }) o)

-- a Commit has to be the one that its Begin foretold
abbrev pub commits_begun : Setting → State → ℕ → ℕ → Commit → Next
commits_begun g s xid final m = if m.commit_lsn == final then commits g s xid m.commit_lsn m.end_lsn else refuse CommitMismatch

-- an open transaction is dropped, or its subtransaction rolled back; an unknown one changes nothing
abbrev pub aborts_open : State → StreamAbort → Option Open → State
aborts_open s m None = s
aborts_open s m (Some o) =
    if m.subtransaction == m.xid then record s { transactions = map.remove s.transactions m.xid }
    else gives s m.xid (BackTo m.subtransaction) 0 o

-- the abort of an unknown transaction has no effect
abbrev pub aborts : State → StreamAbort → State
aborts s m = aborts_open s m (transaction s m.xid)

-- ---- relations

-- the state with this relation learnt
abbrev pub learns : State → Relation → State
learns s r = record s { relations = learnt s.relations r }

-- the change of a row message, by the mapping of its relation; or the first fault
abbrev pub row_change : Setting → State → ℕ → RowMessage → Result change_type.Change RelFault
row_change g s oid row = do
  m ← resolved g.catalog s.relations oid
  planned m row

-- the tables of relations, in the order named
abbrev pub tables_of : List Definition → Relations → List ℕ → Result (List ℕ) RelFault
tables_of catalog relations [] = Ok []
tables_of catalog relations (oid ∷ oids) = do
  m ← resolved catalog relations oid
  tables ← tables_of catalog relations oids
  Ok (m.table ∷ tables)

-- a Truncate empties the tables of its relations; or the first fault
abbrev pub truncate_change : Setting → State → List ℕ → Result change_type.Change RelFault
truncate_change g s oids = do
  tables ← tables_of g.catalog s.relations oids
  Ok (Wipe tables)

-- ---- the table

-- one of three by the phase: outside of transactions, between Begin and Commit, in a block
abbrev pub at : Phase → Next → (ℕ → ℕ → Next) → (ℕ → Next) → Next
at Outside outside begun block = outside
at (Begun xid final) outside begun block = begun xid final
at (Block xid) outside begun block = block xid

-- a change of the transaction that was begun, and is to commit at this place; of one that is skipped it is no item,
-- whatever its relation
abbrev pub changes_begun : Setting → State → ℕ → ℕ → ℕ → Result change_type.Change RelFault → Next
changes_begun g s size xid final planned = if is_skipped g s final then Ok s else changes g s xid xid size planned

-- a change needs a transaction; between Begin and Commit it names that one
abbrev pub change_line : Setting → State → ℕ → Option ℕ → Result change_type.Change RelFault → Next
change_line g s size sub planned =
    at s.phase (refuse NotInTransaction) (λ xid final. changes_begun g s size xid final planned) (λ xid. changes g s xid (subtransaction_named sub xid) size planned)

-- What a message does whose payload has this length.
abbrev pub step : Setting → State → ℕ → Message → Next
step g s size (messages.Begin m) = at s.phase (begins s m) (λ xid final. refuse NestedBegin) (λ xid. refuse BlockOpen)
step g s size (messages.Commit m) = at s.phase (refuse NotInTransaction) (λ xid final. commits_begun g s xid final m) (λ xid. refuse BlockOpen)
step g s size (messages.Origin m) = at s.phase (refuse NotInTransaction) (λ xid final. Ok s) (λ xid. Ok s)
step g s size (messages.Message m) = at s.phase (Ok s) (λ xid final. Ok s) (λ xid. Ok s)
step g s size (messages.Relation sub r) = at s.phase (Ok (learns s r)) (λ xid final. Ok (learns s r)) (λ xid. touches g (learns s r) xid (subtransaction_named sub xid) size)
step g s size (messages.TypeName m) = at s.phase (Ok s) (λ xid final. Ok s) (λ xid. touches g s xid (subtransaction_named m.xid xid) size)
step g s size (messages.Insert m) = change_line g s size m.xid (row_change g s m.oid (rows.Insert m.new))
step g s size (messages.Update m) = change_line g s size m.xid (row_change g s m.oid (rows.Update m.old m.new))
step g s size (messages.Delete m) = change_line g s size m.xid (row_change g s m.oid (rows.Delete m.old))
step g s size (messages.Truncate m) = change_line g s size m.xid (truncate_change g s m.relations)
step g s size (messages.StreamStart m) = at s.phase (streams g s m) (λ xid final. refuse NestedBegin) (λ xid. refuse BlockOpen)
step g s size messages.StreamStop = at s.phase (refuse NoBlock) (λ xid final. refuse NoBlock) (λ xid. Ok (leaves_block s))
step g s size (messages.StreamCommit m) = at s.phase (commits g s m.xid m.commit_lsn m.end_lsn) (λ xid final. refuse NestedBegin) (λ xid. refuse BlockOpen)
step g s size (messages.StreamAbort m) = at s.phase (Ok (aborts s m)) (λ xid final. refuse NestedBegin) (λ xid. refuse BlockOpen)
