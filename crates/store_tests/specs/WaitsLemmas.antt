-- Where the transaction of a ticket waits behind a call.
--     rests_done      nowhere, where something was done
--     waits_more      in one table alone, where a change of that waits or clashed
--     waits_refused      where it waited, where the call was refused
--     waits_tried      in no other than the table of a change that it tried
use Rattle.std.specs.Prelude.{◌≡◌, ◌≢◌, ℕ, List, [], ◌∷◌, ◌++◌, Result, Ok, Err}
use Rattle.std.proofs.Common.{◌∙◌, ap, append-nil}
use Rattle.model.specs.declared.change.Change.{Change}
use Rattle.model.specs.declared.item.Item.{Item}
use Rattle.model.specs.declared.item.Item.TheVariants.{Change as ItemChange}
use Rattle.world.specs.Steps.{Fault, Acted, IsDone, IsSkipped, Held, Clashed}
use Rattle.world.specs.World.{Opened}
use Rattle.world_parts.specs.ByTable.{IsIn, change_at, changes_at}
use Rattle.world_parts.specs.Parts.{wanted_by}
use Rattle.engine.specs.declared.events.Event.{Event}
use Rattle.engine.specs.declared.events.Event.TheVariants.{Done, Wants}
use Rattle.engine.specs.EventLemmas.{opened_more, opened_refused}
use Rattle.engine.specs.Events.{events_of, refusal_events}
use Rattle.parted_store.specs.ActLemmas.{in_no_other}
use Rattle.store_tests.specs.Waits.{Rests, WaitsIn}

rests_done : (events : List Event) (item : Item) → Rests (events ++ Done item ∷ [])
rests_done events item = ap (λ (o : Opened). wanted_by o.wants) (opened_more events (Done item))

waits_more : (table : ℕ) (events : List Event) (sub : ℕ) (c : Change) → IsIn table c → WaitsIn table (events ++ Wants sub c ∷ [])
waits_more table events sub c its other apart =
    ap (λ (o : Opened). changes_at other (wanted_by o.wants)) (opened_more events (Wants sub c))
    ∙ append-nil (change_at other c)
    ∙ in_no_other table other c its apart

waits_refused : (table : ℕ) (events : List Event) (fault : Fault) → WaitsIn table events → WaitsIn table (events ++ refusal_events fault)
waits_refused table events fault waits other apart =
    ap (λ (o : Opened). changes_at other (wanted_by o.wants)) (opened_refused events fault) ∙ waits other apart

pub waits_tried : (table : ℕ) (events : List Event) (sub : ℕ) (c : Change) → IsIn table c → (answer : Result Acted Fault) → WaitsIn table events
    → WaitsIn table (events ++ events_of sub c answer)
waits_tried table events sub c its (Ok IsDone) waits other apart = ap (changes_at other) (rests_done events (ItemChange sub c))
waits_tried table events sub c its (Ok IsSkipped) waits other apart = ap (changes_at other) (rests_done events (ItemChange sub c))
waits_tried table events sub c its (Ok (Held holder)) waits other apart = waits_more table events sub c its other apart
waits_tried table events sub c its (Ok (Clashed cause)) waits other apart = waits_more table events sub c its other apart
waits_tried table events sub c its (Err fault) waits other apart = waits_refused table events fault waits other apart
