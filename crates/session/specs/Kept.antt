-- What is kept of a transaction, as it gets items, drops them and hands them out.
use Rattle.std.specs.Prelude.{ℕ, ◌-◌, List, [], ◌∷◌, ◌++◌, length, take, map, Bool, true, false, Option, Some, None, if◌then◌else◌}
use Rattle.model.specs.declared.item.Item.{Item}
use Rattle.session.specs.declared.transactions.OpenTransaction.{OpenTransaction}
use Rattle.session.specs.declared.transactions.OpenTransaction.TheVariants.{Direct, Worker, Spooled}
use Rattle.savepoint.specs.Savepoints.{before_first}
use Rattle.session.specs.Sized.{item_of, bytes_of}
use Rattle.session.specs.State.{Open, Way, Direct as GoesDirect, Worker as HasWorker, Spooled as IsKept}

-- the items of a spool
abbrev pub items_kept : OpenTransaction → List Item
items_kept Direct = []
items_kept Worker = []
items_kept (Spooled spool) = map item_of spool

-- those that a commit hands out: none if the transaction is skipped
abbrev pub items_left : Bool → OpenTransaction → List Item
items_left skipped kept = if skipped then [] else items_kept kept

-- the items are kept until the commit
abbrev pub is_spooled : Way → Bool
is_spooled GoesDirect = false
is_spooled HasWorker = false
is_spooled IsKept = true

-- the transaction is open and spooled
abbrev pub is_spooled_open : Option Open → Bool
is_spooled_open None = false
is_spooled_open (Some o) = is_spooled o.way

-- ---- one transaction's items

-- what is kept is a spool
abbrev pub is_spool : OpenTransaction → Bool
is_spool Direct = false
is_spool Worker = false
is_spool (Spooled spool) = true

-- the bytes of payloads that are kept
abbrev pub bytes_kept : OpenTransaction → ℕ
bytes_kept Direct = 0
bytes_kept Worker = 0
bytes_kept (Spooled spool) = bytes_of spool

-- with an item more, if items are kept
abbrev pub kept_more : OpenTransaction → Item → ℕ → OpenTransaction
kept_more Direct item size = Direct
kept_more Worker item size = Worker
kept_more (Spooled spool) item size = Spooled (spool ++ (item, size) ∷ [])

-- the item, if it is not kept
abbrev pub back_of : OpenTransaction → Item → Option Item
back_of Direct item = Some item
back_of Worker item = Some item
back_of (Spooled spool) item = None

-- without the last item, if items are kept
abbrev pub without_last : OpenTransaction → OpenTransaction
without_last Direct = Direct
without_last Worker = Worker
without_last (Spooled spool) = Spooled (take (length spool - 1) spool)

-- with a subtransaction rolled back
abbrev pub cut_back : ℕ → OpenTransaction → OpenTransaction
cut_back sub Direct = Direct
cut_back sub Worker = Worker
cut_back sub (Spooled spool) = Spooled (before_first sub spool)
