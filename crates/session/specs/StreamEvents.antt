-- What an admitted message tells: five cases, whatever the message.
use Rattle.std.specs.Prelude.{◌≡◌, ℕ, ◌<◌, List, [], ◌∷◌, ◌++◌, map, Some, None, ◌⊎◌}
use Rattle.std.specs.FinMap as map
use Rattle.model.specs.declared.item.Item.{Item}
use Rattle.model.specs.declared.item.Item.TheVariants.{Change, Touch, BackTo, Last}
use Rattle.session.specs.declared.phase.Phase.TheVariants.{Outside}
use Rattle.session.specs.Sized.{SizedItems, item_of}
use Rattle.session.specs.State.{Way, Direct, Worker, Spooled, Open, Committed, State, sized_survivors}
use Rattle.session.specs.Table.{new_open}

-- What an admitted message tells: nothing, a transaction opens, gets an item, commits, or is dropped.
pub data StreamEvent : Type 0 where
  NoEvent : StreamEvent
  TransactionOpens : (xid : ℕ) (way : Way) → StreamEvent
  ItemComes : (xid : ℕ) (way : Way) (item : Item) (size : ℕ) → StreamEvent
  TransactionCommits : (committed : Committed) → StreamEvent
  TransactionAborts : (xid : ℕ) (way : Way) → StreamEvent

-- The open transactions, the position and the past of two states.
pub record Same (s t : State) : Type 0 where
  pub transactions : t.transactions ≡ s.transactions
  pub position : t.position ≡ s.position
  pub past : t.past ≡ s.past

-- The transaction opens.
pub record IsOpening (s t : State) (xid : ℕ) (way : Way) : Type 0 where
  pub absent : map.get s.transactions xid ≡ None
  pub transactions : t.transactions ≡ map.insert s.transactions xid (new_open way)
  pub position : t.position ≡ s.position
  pub past : t.past ≡ s.past

-- The open transaction o gets an item.
pub record IsGiving (s t : State) (xid : ℕ) (item : Item) (size : ℕ) (o : Open) : Type 0 where
  pub present : map.get s.transactions xid ≡ Some o
  pub transactions : t.transactions ≡ map.insert s.transactions xid (record o { items = o.items ++ (item, size) ∷ [] })
  pub position : t.position ≡ s.position
  pub past : t.past ≡ s.past

-- The item is a change.
abbrev pub IsChange : Item → Type 0
IsChange (Change sub c) = Unit {0}
IsChange (Touch sub) = ⊥
IsChange (BackTo sub) = ⊥
IsChange Last = ⊥

-- The transaction commits, past the last commit, and none is begun afterwards. What it has done is final, but
-- of a spooled one that is skipped.
pub record IsCommitting (s t : State) (c : Committed) : Type 0 where
  pub items : SizedItems
  pub present : map.get s.transactions c.xid ≡ Some (record { way = c.way; items = items })
  pub final : (c.items ≡ items) ⊎ ((c.way ≡ Spooled) × (c.items ≡ []))
  pub later : s.position < c.info.end
  pub outside : t.phase ≡ Outside
  pub transactions : t.transactions ≡ map.remove s.transactions c.xid
  pub position : t.position ≡ c.info.end
  pub past : t.past ≡ s.past ++ c ∷ []

-- The open transaction o is dropped.
pub record IsAborting (s t : State) (xid : ℕ) (o : Open) : Type 0 where
  pub present : map.get s.transactions xid ≡ Some o
  pub transactions : t.transactions ≡ map.remove s.transactions xid
  pub position : t.position ≡ s.position
  pub past : t.past ≡ s.past

-- A step from one state to the next tells this.
abbrev pub Tells : State → State → StreamEvent → Type 0
Tells s t NoEvent = Same s t
Tells s t (TransactionOpens xid way) = IsOpening s t xid way
Tells s t (ItemComes xid way item size) = (o : Open) × (o.way ≡ way) × IsGiving s t xid item size o
Tells s t (TransactionCommits c) = IsCommitting s t c
Tells s t (TransactionAborts xid way) = (o : Open) × (o.way ≡ way) × IsAborting s t xid o

-- what a commit hands out: of a spooled transaction the items that survive
abbrev pub items_handed_out : ℕ → Way → List (Item × ℕ) → List Item
items_handed_out xid Direct items = []
items_handed_out xid Worker items = []
items_handed_out xid Spooled items = map item_of (sized_survivors xid items)
