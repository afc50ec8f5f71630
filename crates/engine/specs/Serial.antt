-- A store whose transactions come one at a time, as its callers see it.
--     Serial      the store without the open work, and the changes that are open
--     rows_now, with_changes      the rows with the open work; with more of it
--     HasBegun      a beginning of changes is open work too
--     having_made, with_work      a transaction that has made these changes and nothing else; the world in which it is open
--     committed_by      the world once it is committed
--     serial_code      the code of all this
use Rattle.std.specs.Prelude.{◌≡◌, ℕ, List, ◌++◌, None, map, refl}
use Rattle.std.specs.Coded.{Coded, code_by, coded×, coded_list}
use Rattle.std.specs.FinMap as finite
use Rattle.model.specs.contracts.change.Change as change_type
use Rattle.model.specs.declared.change.Change.{Change}
use Rattle.model.specs.declared.item.Item.TheVariants.{Change as ChangeItem}
use Rattle.model.specs.declared.item.CommitInfo.{CommitInfo}
use Rattle.model.specs.Rows.{Rows, Schema}
use Rattle.model.specs.Effect.{serial}
use Rattle.world.specs.World.{Opened, World}
use Rattle.world.specs.Steps.{committed_with}
use Rattle.engine.specs.Engine.{Engine}
use Rattle.engine.specs.EngineCode.{engine_code}

-- the store without the open work, and the changes that are open, in order
pub record Serial : Type 0 where
  pub store : Engine
  pub changes : List Change

-- the rows with the open work
abbrev pub rows_now : Serial → Rows
rows_now s = serial s.store.schema s.store.world.committed s.changes

-- with these changes more
abbrev pub with_changes : Serial → List Change → Serial
with_changes s cs = record s { changes = s.changes ++ cs }

-- a beginning of these changes is open work too
abbrev pub HasBegun : Serial → List Change → Serial → Type 0
HasBegun old cs new = (before : List Change) × (after : List Change) × (cs ≡ before ++ after) × (new ≡ with_changes old before)

-- a transaction that has made these changes and nothing else
abbrev pub having_made : ℕ → List Change → Opened
having_made xid cs = record { items = map (ChangeItem xid) cs; wants = None }

-- the world in which it is open
abbrev pub with_work : World → ℕ → List Change → World
with_work w xid cs = record w { opened = finite.insert w.opened xid (having_made xid cs) }

-- the world once it is committed
abbrev pub committed_by : Schema → World → ℕ → List Change → CommitInfo → World
committed_by schema w xid cs info = committed_with schema (with_work w xid cs) xid (having_made xid cs) info

-- the code of such a store, by which proofs tell two of them apart
abbrev pub serial_code : Coded Serial
serial_code = code_by (Engine × List Change) (coded× engine_code (coded_list change_type.the_row.coded)) (λ s. (s.store, s.changes)) (λ p. record { store = p.0; changes = p.1 }) (λ _. refl)
