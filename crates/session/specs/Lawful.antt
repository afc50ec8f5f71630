-- Lawful streams: each payload is a message that the session table admits, given those before it.
use Rattle.std.specs.Prelude.{◌≡◌, ◌≢◌, ℕ, List, [], ◌∷◌, length, Some, Ok, Err}
use Rattle.std.specs.FinMap as map
use Rattle.messages.specs.declared.message.Message.{Message}
use Rattle.messages.specs.Messages.{Spelled, HasFault}
use Rattle.session.specs.declared.fault.Refused.{Refused}
use Rattle.session.specs.declared.fault.Refused.TheVariants.{Msg, Session, Rel, OutOfMemory}
use Rattle.session.specs.State.{Open, Committed, State, Setting, start, in_block}
use Rattle.session.specs.Table.{step}

-- The payload spells a message that the table admits, and that leaves the state.
pub record Admits (g : Setting) (s : State) (payload : List ℕ) (m : Message) (t : State) : Type 0 where
  pub spelled : Spelled payload (in_block s.phase) m
  pub stepped : step g s (length payload) m ≡ Ok t

-- The payloads, one after another, lead from the state to this one.
abbrev pub Leads : Setting → State → List (List ℕ) → State → Type 0
Leads g s [] t = s ≡ t
Leads g s (payload ∷ payloads) t = (m : Message) × (u : State) × Admits g s payload m u × Leads g u payloads t

-- They are lawful, and leave this state.
abbrev pub IsLawful : Setting → List (List ℕ) → State → Type 0
IsLawful g payloads t = Leads g start payloads t

-- The payload spells a message that the table refuses.
abbrev pub TableRefuses : Setting → State → List ℕ → Refused → Type 0
TableRefuses g s payload refused = (m : Message) × Spelled payload (in_block s.phase) m × (step g s (length payload) m ≡ Err refused)

-- Why the payload is refused in this state: a fault stands in it, or it spells a message that may not come
-- here, or that does not fit its relation. Memory may be refused at any time.
abbrev pub Refuses : Setting → State → List ℕ → Refused → Type 0
Refuses g s payload (Msg fault) = HasFault payload (in_block s.phase) fault
Refuses g s payload (Session fault) = TableRefuses g s payload (Session fault)
Refuses g s payload (Rel fault) = TableRefuses g s payload (Rel fault)
Refuses g s payload OutOfMemory = Unit {0}

-- ---- what is final

-- The commit is the first, and its commit LSN is the skip.
pub record IsSkipped (g : Setting) (s : State) (c : Committed) : Type 0 where
  pub given : g.skip ≢ 0
  pub first : s.past ≡ []
  pub named : c.info.commit ≡ g.skip

-- Of a transaction that is skipped nothing is final, of any other all that it was given.
pub record IsFinal (g : Setting) (s : State) (c : Committed) : Type 0 where
  pub transaction : Open
  pub present : map.get s.transactions c.xid ≡ Some transaction
  pub skipped : IsSkipped g s c → c.items ≡ []
  pub whole : ¬ (IsSkipped g s c) → c.items ≡ transaction.items
