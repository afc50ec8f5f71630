-- The code of a store as its callers see it, by which proofs tell two of them apart.
--     rows_code, opened_code, past_code, cause_code, stop_code, world_code      of a world and its parts
--     half_code, engine_code      of a line, and of a store
use Rattle.std.specs.Prelude.{◌≡◌, ℕ, ◌⊎◌, List, Option, refl}
use Rattle.std.proofs.Common.{inl, inr}
use Rattle.std.specs.FinMap.{code}
use Rattle.std.specs.Coded.{Coded, code_by, coded×, coded⊎, coded_ℕ, coded_list, coded_option}
use Rattle.model.specs.contracts.change.Change as change_type
use Rattle.model.specs.contracts.item.Item as item_type
use Rattle.model.specs.declared.change.Change.{Change}
use Rattle.model.specs.declared.item.Item.{Item}
use Rattle.model.specs.declared.item.CommitInfo.{CommitInfo}
use Rattle.model.specs.Rows.{Rows, Schema}
use Rattle.model.specs.Effect.{ClashCause, NullKey, Unique}
use Rattle.rows.specs.KeptCode.{key_code, row_code}
use Rattle.indexes.specs.Codes.{keys_code}
use Rattle.atomic_table.specs.Seated.{table_id_coded}
use Rattle.tokens.specs.Half.{Name, Half}
use Rattle.world.specs.World.{Opened, Past, OpenOnes, Stop, ByClash, ByHold, World}
use Rattle.engine.specs.contracts.events.LineEvent as line_event_type
use Rattle.engine.specs.declared.events.LineEvent.{LineEvent}
use Rattle.engine.specs.Engine.{Engine}

-- of rows
abbrev pub rows_code : Coded Rows
rows_code = code (coded× coded_ℕ key_code) row_code

-- of an open transaction
abbrev pub opened_code : Coded Opened
opened_code =
    code_by (List Item × Option (ℕ × Change)) (coded× (coded_list item_type.the_row.coded) (coded_option (coded× coded_ℕ change_type.the_row.coded)))
    (λ o. (o.items, o.wants)) (λ p. record { items = p.0; wants = p.1 }) (λ _. refl)

-- of what a commit says
abbrev info_code : Coded CommitInfo
info_code = code_by (ℕ × ℕ) (coded× coded_ℕ coded_ℕ) (λ i. (i.commit, i.end)) (λ p. record { commit = p.0; end = p.1 }) (λ _. refl)

-- of a commit
abbrev pub past_code : Coded Past
past_code =
    code_by (ℕ × (List Item × CommitInfo)) (coded× coded_ℕ (coded× (coded_list item_type.the_row.coded) info_code))
    (λ p. (p.xid, (p.items, p.info))) (λ p. record { xid = p.0; items = p.1.0; info = p.1.1 }) (λ _. refl)

-- a cause by its kind
abbrev split_cause : ClashCause → ℕ ⊎ (ℕ × ℕ)
split_cause (NullKey table) = inl table
split_cause (Unique table key) = inr (table, key)

abbrev join_cause : ℕ ⊎ (ℕ × ℕ) → ClashCause
join_cause (inl table) = NullKey table
join_cause (inr p) = Unique p.0 p.1

pub join_split_cause : (c : ClashCause) → join_cause (split_cause c) ≡ c
join_split_cause (NullKey table) = refl
join_split_cause (Unique table key) = refl

-- of why a change clashes
abbrev pub cause_code : Coded ClashCause
cause_code = code_by (ℕ ⊎ (ℕ × ℕ)) (coded⊎ coded_ℕ (coded× coded_ℕ coded_ℕ)) split_cause join_cause join_split_cause

-- a stop by its kind
abbrev split_stop : Stop → (ℕ × (Change × ClashCause)) ⊎ (ℕ × ℕ)
split_stop (ByClash xid change cause) = inl (xid, (change, cause))
split_stop (ByHold waiter holder) = inr (waiter, holder)

abbrev join_stop : (ℕ × (Change × ClashCause)) ⊎ (ℕ × ℕ) → Stop
join_stop (inl p) = ByClash p.0 p.1.0 p.1.1
join_stop (inr p) = ByHold p.0 p.1

pub join_split_stop : (s : Stop) → join_stop (split_stop s) ≡ s
join_split_stop (ByClash xid change cause) = refl
join_split_stop (ByHold waiter holder) = refl

-- of what stopped a world
abbrev pub stop_code : Coded Stop
stop_code =
    code_by ((ℕ × (Change × ClashCause)) ⊎ (ℕ × ℕ)) (coded⊎ (coded× coded_ℕ (coded× change_type.the_row.coded cause_code)) (coded× coded_ℕ coded_ℕ))
    split_stop join_stop join_split_stop

-- of a world
abbrev pub world_code : Coded World
world_code =
    code_by ((Rows × Rows) × (List Past × (OpenOnes × Option Stop)))
    (coded× (coded× rows_code rows_code) (coded× (coded_list past_code) (coded× (code coded_ℕ opened_code) (coded_option stop_code))))
    (λ w. ((w.start, w.committed), (w.line, (w.opened, w.stopped))))
    (λ p. record { start = p.0.0; committed = p.0.1; line = p.1.0; opened = p.1.1.0; stopped = p.1.1.1 }) (λ _. refl)

-- of a line
abbrev pub half_code : Coded (Half LineEvent)
half_code =
    code_by (Name × List LineEvent) (coded× table_id_coded (coded_list line_event_type.the_row.coded)) (λ h. (h.name, h.list))
    (λ p. record { name = p.0; list = p.1 }) (λ _. refl)

-- of a store as its callers see it
abbrev pub engine_code : Coded Engine
engine_code =
    code_by ((Schema × World) × (Name × Half LineEvent)) (coded× (coded× (coded_list keys_code) world_code) (coded× table_id_coded half_code))
    (λ e. ((e.schema, e.world), (e.tickets, e.line))) (λ p. record { schema = p.0.0; world = p.0.1; tickets = p.1.0; line = p.1.1 }) (λ _. refl)
