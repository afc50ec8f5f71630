-- When what a session keeps represents a state of the session table.
use Rattle.std.specs.Prelude.{◌≡◌}
use Rattle.session.specs.declared.session.Session as session_type
use Rattle.session.specs.State.{State, Setting, IsHere, GoesAlone}
use Rattle.session.specs.Table.{skip_set}
use Rattle.session.specs.KeptTransactions.{Represents as TransactionsRepresent}
use Rattle.session.specs.KnownRelations.{Represents as RelationsRepresent}

-- The session represents the state that the messages so far have left.
pub record Represents (g : Setting) (v : session_type.Session) (h : State) : Type 0 where
  pub phase : v.phase ≡ h.phase
  pub here : IsHere h.phase h.transactions
  pub alone : GoesAlone h.phase h.transactions
  pub transactions : TransactionsRepresent g v.transactions h.transactions
  pub relations : RelationsRepresent g v.relations h.relations
  pub position : v.position ≡ h.position
  pub skip : v.skip ≡ skip_set g h
