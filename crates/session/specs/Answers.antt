-- What a session answers to a message, and to a payload, and the state that it represents afterwards.
use Rattle.std.specs.Prelude.{◌≡◌, ◌<◌, ℕ, List, length, Option, Some, Result, Ok, Err, MatchResult, MatchOption, true}
use Rattle.std.specs.FinMap as map
use Rattle.messages.specs.declared.message.Message.{Message}
use Rattle.model.specs.declared.change.Change as change_type
use Rattle.relcache.specs.declared.fault.RelFault.{RelFault}
use Rattle.model.specs.declared.item.Item.{Item}
use Rattle.model.specs.declared.item.Item.TheVariants.{Change, Touch, BackTo, Last}
use Rattle.session.specs.declared.fault.Refused.{Refused}
use Rattle.session.specs.declared.fault.Refused.TheVariants.{Msg, Session, Rel, OutOfMemory}
use Rattle.session.specs.declared.fault.SessionFault.{SessionFault}
use Rattle.session.specs.declared.step.Step.{Step}
use Rattle.session.specs.declared.step.Step.TheVariants as steps
use Rattle.session.specs.declared.session.Session as session_type
use Rattle.session.specs.State.{Direct, Worker, Spooled, Open, Committed, State, Setting}
use Rattle.session.specs.Table.{Next, refuse, plans, gives, has_room, change_line}
use Rattle.session.specs.StreamEvents.{StreamEvent, NoEvent, TransactionOpens, ItemComes, TransactionCommits, TransactionAborts, Tells, IsChange, items_handed_out}
use Rattle.model.specs.Named.{NamesTables}
use Rattle.session.specs.Lawful.{Admits, Refuses}
use Rattle.session.specs.Represents.{Represents}

-- a commit hands out the transaction's number, what the commit says, and the items
abbrev pub HandsOut : Committed → Step → Type 0
HandsOut c steps.Nothing = ⊥
HandsOut c (steps.Begin xid) = ⊥
HandsOut c (steps.Open xid) = ⊥
HandsOut c (steps.Item xid item) = ⊥
HandsOut c (steps.Commit xid info items) = (xid ≡ c.xid) × (info ≡ c.info) × (items.items ≡ items_handed_out c.xid c.way c.items)
HandsOut c (steps.Abort xid) = ⊥

-- The answer says what the message tells; of a spooled transaction it says nothing but the commit.
abbrev pub Says : StreamEvent → Step → Type 0
Says NoEvent step = step ≡ steps.Nothing
Says (TransactionOpens xid Direct) step = step ≡ steps.Begin xid
Says (TransactionOpens xid Worker) step = step ≡ steps.Open xid
Says (TransactionOpens xid Spooled) step = step ≡ steps.Nothing
Says (ItemComes xid Direct item size) step = step ≡ steps.Item xid item
Says (ItemComes xid Worker item size) step = step ≡ steps.Item xid item
Says (ItemComes xid Spooled item size) step = step ≡ steps.Nothing
Says (TransactionCommits c) step = HandsOut c step
Says (TransactionAborts xid Direct) step = step ≡ steps.Abort xid
Says (TransactionAborts xid Worker) step = step ≡ steps.Abort xid
Says (TransactionAborts xid Spooled) step = step ≡ steps.Nothing

-- the item's change, if it has one, names tables among the first so many
abbrev pub IsOfTables : ℕ → Item → Type 0
IsOfTables count (Change sub c) = NamesTables count c
IsOfTables count (Touch sub) = Unit {0}
IsOfTables count (BackTo sub) = Unit {0}
IsOfTables count Last = Unit {0}

-- What is told keeps to the setting: a worker is given only where there are any, an item names tables of the catalog
-- alone, a transaction that goes directly gets changes alone and is never dropped.
abbrev pub IsWithin : Setting → StreamEvent → Type 0
IsWithin g NoEvent = Unit {0}
IsWithin g (TransactionOpens xid Direct) = Unit {0}
IsWithin g (TransactionOpens xid Worker) = 0 < g.workers
IsWithin g (TransactionOpens xid Spooled) = Unit {0}
IsWithin g (ItemComes xid Direct item size) = IsOfTables (length g.catalog) item × IsChange item
IsWithin g (ItemComes xid Worker item size) = IsOfTables (length g.catalog) item
IsWithin g (ItemComes xid Spooled item size) = IsOfTables (length g.catalog) item
IsWithin g (TransactionCommits c) = Unit {0}
IsWithin g (TransactionAborts xid Direct) = ⊥
IsWithin g (TransactionAborts xid Worker) = Unit {0}
IsWithin g (TransactionAborts xid Spooled) = Unit {0}

-- A message was admitted: the table has the next state, and the answer says what it tells.
pub record AdmitsMessage (g : Setting) (v : session_type.Session) (h : State) (next : Next) (answer : Step) : Type 0 where
  pub state : State
  pub told : StreamEvent
  pub stepped : next ≡ Ok state
  pub represents : Represents g v state
  pub tells : Tells h state told
  pub says : Says told answer
  pub within : IsWithin g told

-- what the table has where a message is refused; memory may be refused at any time
abbrev pub NextRefuses : Next → Refused → Type 0
NextRefuses next (Msg fault) = ⊥
NextRefuses next (Session fault) = next ≡ Err (Session fault)
NextRefuses next (Rel fault) = next ≡ Err (Rel fault)
NextRefuses next OutOfMemory = Unit {0}

-- A message was refused: the table refuses it so, unless memory was refused, and the state stays.
pub record RefusesMessage (g : Setting) (v : session_type.Session) (h : State) (next : Next) (refused : Refused) : Type 0 where
  pub represents : Represents g v h
  pub cause : NextRefuses next refused

-- What is answered is what the table has.
abbrev pub AnswersMessage : Setting → session_type.Session → State → Next → Result Step Refused → Type 0
AnswersMessage g v h next result = MatchResult result (AdmitsMessage g v h next) (RefusesMessage g v h next)

-- A change may be taken as an item of this transaction and subtransaction, or it is one of the skipped transaction and
-- is passed over, or the table refuses it, whatever it is.
abbrev pub IsChangeOf : Setting → State → ℕ → Option ℕ → Result (Option (ℕ × ℕ)) SessionFault → Type 0
IsChangeOf g h size sub result =
    MatchResult result
    (λ found. MatchOption found
    ((planned : Result change_type.Change RelFault) → change_line g h size sub planned ≡ Ok h)
    (λ of. (o : Open) × (map.get h.transactions of.0 ≡ Some o) × (has_room g h.transactions size o.way ≡ true)
    × ((planned : Result change_type.Change RelFault) → change_line g h size sub planned ≡ plans planned (λ c. gives h of.0 (Change of.1 c) size o))))
    (λ why. (planned : Result change_type.Change RelFault) → change_line g h size sub planned ≡ refuse why)

-- The payload was taken: it spells a message that the table admits, and the answer says what that tells.
pub record AdmitsPayload (g : Setting) (v : session_type.Session) (h : State) (payload : List ℕ) (answer : Step) : Type 0 where
  pub message : Message
  pub state : State
  pub told : StreamEvent
  pub admits : Admits g h payload message state
  pub represents : Represents g v state
  pub tells : Tells h state told
  pub says : Says told answer
  pub within : IsWithin g told

-- The payload was turned away for this cause, and the state stays.
pub record RefusesPayload (g : Setting) (v : session_type.Session) (h : State) (payload : List ℕ) (refused : Refused) : Type 0 where
  pub represents : Represents g v h
  pub cause : Refuses g h payload refused

-- What the session answers to a payload.
abbrev pub AnswersPayload : Setting → session_type.Session → State → List ℕ → Result Step Refused → Type 0
AnswersPayload g v h payload result = MatchResult result (AdmitsPayload g v h payload) (RefusesPayload g v h payload)
