-- The transaction that was begun, and what each message does to it.
--     IsSane      what every state has that messages lead to
--     begun      the transaction between Begin and Commit, with its items
--     Moves, IsTold      what a message that tells this does to it; what is told of a step
use Rattle.std.specs.Prelude.{◌≡◌, ℕ, List, [], ◌∷◌, ◌++◌, map, Option, Some, None}
use Rattle.std.specs.FinMap as finite
use Rattle.model.specs.declared.item.Item.{Item}
use Rattle.session.specs.declared.phase.Phase.{Phase}
use Rattle.session.specs.declared.phase.Phase.TheVariants.{Outside, Begun, Block}
use Rattle.session.specs.Sized.{SizedItems, item_of}
use Rattle.session.specs.State.{Way, Direct, Worker, Spooled, Open, OpenTransactions, State, IsHere, GoesAlone}
use Rattle.session.specs.StreamEvents.{StreamEvent, NoEvent, TransactionOpens, ItemComes, TransactionCommits, TransactionAborts, Tells, IsChange}

-- The transaction that was begun is open, and it alone goes directly; that of a block is open and
-- streamed.
pub record IsSane (s : State) : Type 0 where
  pub here : IsHere s.phase s.transactions
  pub alone : GoesAlone s.phase s.transactions

-- an open transaction's items; none if it isn't open
abbrev pub open_items : Option Open → List Item
open_items None = []
open_items (Some o) = map item_of o.items

-- the transaction between Begin and Commit, with its items
abbrev pub begun_in : Phase → OpenTransactions → Option (ℕ × List Item)
begun_in Outside transactions = None
begun_in (Begun xid final) transactions = Some (xid, open_items (finite.get transactions xid))
begun_in (Block xid) transactions = None

-- the transaction that was begun, if there is one
abbrev pub begun : State → Option (ℕ × List Item)
begun s = begun_in s.phase s.transactions

-- a transaction that was begun, if it goes directly
abbrev pub if_direct : ℕ → Way → SizedItems → Option (ℕ × List Item)
if_direct xid Direct items = Some (xid, map item_of items)
if_direct xid Worker items = None
if_direct xid Spooled items = None

-- What becomes of the transaction that was begun: it opens where none was, it gets a change, it
-- commits and none is begun then. A streamed one opens, gets items, or is dropped beside it; it
-- commits where none is begun.
abbrev pub Moves : State → State → StreamEvent → Type 0
Moves s t NoEvent = begun t ≡ begun s
Moves s t (TransactionOpens xid Direct) = (begun s ≡ None) × (begun t ≡ Some (xid, []))
Moves s t (TransactionOpens xid Worker) = begun t ≡ begun s
Moves s t (TransactionOpens xid Spooled) = begun t ≡ begun s
Moves s t (ItemComes xid Direct item size) =
    IsChange item × (items : List Item) × (begun s ≡ Some (xid, items))
    × (begun t ≡ Some (xid, items ++ item ∷ []))
Moves s t (ItemComes xid Worker item size) = begun t ≡ begun s
Moves s t (ItemComes xid Spooled item size) = begun t ≡ begun s
Moves s t (TransactionCommits c) = (begun s ≡ if_direct c.xid c.way c.items) × (begun t ≡ None)
Moves s t (TransactionAborts xid Direct) = ⊥
Moves s t (TransactionAborts xid Worker) = begun t ≡ begun s
Moves s t (TransactionAborts xid Spooled) = begun t ≡ begun s

-- A step from one state to the next tells one thing, which moves the transaction that was begun so.
abbrev pub IsTold : State → State → Type 0
IsTold s t = (told : StreamEvent) × Tells s t told × Moves s t told × IsSane t
