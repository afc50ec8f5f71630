-- What a session keeps of the open transactions, and what its calls on them answer.
use Rattle.std.specs.Prelude.{◌≡◌, ◌≢◌, ◌<◌, ◌^◌, ◌++◌, ◌∷◌, [], ℕ, Option, Some, None, option_map, Result, MatchResult, MatchOption, Bool, true, false, ◌&&◌, nat_lt, if◌then◌else◌}
use Rattle.std.specs.Ordering.{nat_cmp}
use Rattle.std.specs.BTreeMap.{get, btree_map_len}
use Rattle.std.specs.FinMap as map
use Rattle.model.specs.declared.item.Item.{Item}
use Rattle.model.specs.declared.item.Item.TheVariants.{Change, Touch, BackTo, Last}
use Rattle.session.specs.declared.fault.Refused.{Refused}
use Rattle.session.specs.declared.fault.Refused.TheVariants.{Session, OutOfMemory}
use Rattle.session.specs.declared.fault.SessionFault.{SessionFault}
use Rattle.session.specs.declared.fault.SessionFault.TheVariants.{SpoolFull}
use Rattle.session.specs.declared.transactions.OpenTransaction.{OpenTransaction}
use Rattle.session.specs.declared.transactions.OpenTransaction.TheVariants as kept_parts
use Rattle.session.specs.declared.transactions.Transactions.{Transactions}
use Rattle.session.specs.Sized.{SizedItems}
use Rattle.session.specs.State.{Way, Direct, Worker, Spooled, Open, OpenTransactions, Setting, sized_survivors, worker_count, spool_bytes}
use Rattle.session.specs.Table.{room_fault, new_open, has_room}

-- what is kept of an open transaction: of a spooled one the items that survive
abbrev pub kept_part : ℕ → SizedItems → Way → OpenTransaction
kept_part xid items Direct = kept_parts.Direct
kept_part xid items Worker = kept_parts.Worker
kept_part xid items Spooled = kept_parts.Spooled (sized_survivors xid items)

-- The open transactions as they are kept, and how much of the limits they use.
pub record Represents (g : Setting) (v : Transactions) (m : OpenTransactions) : Type 0 where
  pub ways : (xid : ℕ) → get nat_cmp v.ways xid ≡ option_map (λ (o : Open). kept_part xid o.items o.way) (map.get m xid)
  pub count : btree_map_len v.ways ≡ map.len m
  pub workers : v.workers ≡ g.workers
  pub working : v.working ≡ worker_count m
  pub room : v.spool ≡ g.spool
  pub spooled : v.spooled ≡ spool_bytes m
  pub fits : v.spooled < 2 ^ 64
  pub limit : v.spool < 2 ^ 64

-- Whether a transaction may be opened.
abbrev pub RoomIs : Option SessionFault → Result (Unit {0}) SessionFault → Type 0
RoomIs fault result = MatchResult result (λ _. fault ≡ None) (λ why. fault ≡ Some why)

-- The refusal is this fault, unless memory was refused.
abbrev pub IsFault : Option SessionFault → Refused → Type 0
IsFault fault refused = refused ≢ OutOfMemory → (why : SessionFault) × (fault ≡ Some why) × (refused ≡ Session why)

-- The transaction goes directly now, or it can't be opened, and all is as it was.
abbrev pub IsOpened : Setting → Transactions → OpenTransactions → ℕ → Result (Unit {0}) Refused → Type 0
IsOpened g v m xid result =
    MatchResult result (λ _. (room_fault m xid ≡ None) × Represents g v (map.insert m xid (new_open Direct))) (λ refused. Represents g v m × IsFault (room_fault m xid) refused)

-- a streamed transaction that got a worker, or that got none
abbrev pub way_if : Bool → Way
way_if true = Worker
way_if false = Spooled

-- The transaction is streamed now, with a worker if it may have one and there is one left, or it can't be opened, and
-- all is as it was.
abbrev pub IsStreamed : Setting → Transactions → OpenTransactions → ℕ → Bool → Result Bool Refused → Type 0
IsStreamed g v m xid may_have result =
    MatchResult result
    (λ got. (room_fault m xid ≡ None) × (got ≡ (may_have && nat_lt (worker_count m) g.workers)) × Represents g v (map.insert m xid (new_open (way_if got))))
    (λ refused. Represents g v m × IsFault (room_fault m xid) refused)

-- The transaction was open and is no longer, or it wasn't.
abbrev pub IsClosed : Setting → Transactions → OpenTransactions → ℕ → Option OpenTransaction → Type 0
IsClosed g v m xid result =
    MatchOption result
    ((map.get m xid ≡ None) × Represents g v m)
    (λ was. (o : Open) × (map.get m xid ≡ Some o) × (was ≡ kept_part xid o.items o.way) × Represents g v (map.remove m xid))

-- why an item with a payload of so many bytes can't be taken: its transaction is spooled, and the spools are full
abbrev pub spool_fault : Setting → OpenTransactions → ℕ → Option Open → Option SessionFault
spool_fault g m size None = None
spool_fault g m size (Some o) = if has_room g m size o.way then None else Some SpoolFull

-- the open transaction with an item more
abbrev pub with_item : Open → Item → ℕ → Open
with_item o item size = record o { items = o.items ++ (item, size) ∷ [] }

-- the item survives as it comes, and drops no other
abbrev pub Survives : Item → Type 0
Survives (Change sub c) = Unit {0}
Survives (Touch sub) = Unit {0}
Survives (BackTo sub) = ⊥
Survives Last = ⊥

-- the item that is given back: that of a transaction that isn't spooled
abbrev pub item_back : Way → Item → Option Item
item_back Direct item = Some item
item_back Worker item = Some item
item_back Spooled item = None

-- The open transaction got the item; or memory was refused, and all is as it was.
abbrev pub IsItemTaken : {E : Type 0} → Setting → Transactions → OpenTransactions → ℕ → Open → Item → ℕ → Result (Option Item) E → Type 0
IsItemTaken g v m xid o item size result =
    MatchResult result (λ back. (back ≡ item_back o.way item) × Represents g v (map.insert m xid (with_item o item size))) (λ _. Represents g v m)
