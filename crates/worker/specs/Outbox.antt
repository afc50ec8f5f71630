-- What is known of a worker's outbox, and what a call makes of it.
--     given_after, given_since      the items given since a transaction began
--     OutboxModel, outbox_model      what an outbox knows, and that of its parts
--     IsOutbox      what its type keeps
--     SendsOn, GoesOn      more may be sent, and the rest is as it was
--     FindsNoRoom      the ring has no room, by a look of this call
--     HandsOn, IsSameMeeting      the items that aren't done are handed out
use Rattle.std.specs.Prelude.{◌≡◌, ◌<◌, ◌≤◌, ℕ, false, List, [], ◌∷◌, ◌++◌, Option, Some, None, IsSome, MatchOption, fold}
use Rattle.atomic_table.specs.Seated.{TableId}
use Rattle.model.specs.declared.item.Item.{Item}
use Rattle.tokens.specs.Half.{Name, no_name}
use Rattle.ring.specs.Ends.{Sending, Meeting, HasNoRoom}
use Rattle.worker.specs.declared.outbox.OutboxEvent.{OutboxEvent}
use Rattle.worker.specs.declared.outbox.OutboxEvent.TheVariants.{Begun, Given}

-- the items given since a transaction began, once one more event has come
abbrev pub given_after : List Item → OutboxEvent → List Item
given_after items Begun = []
given_after items (Given item) = items ++ item ∷ []

-- the items given since the last transaction began
abbrev pub given_since : List OutboxEvent → List Item
given_since events = fold given_after [] events

-- what an outbox knows
pub record OutboxModel : Type 0 where
  -- the number of its worker
  pub worker : ℕ
  -- what the leader did with it
  pub events : List OutboxEvent
  -- its end of the worker's ring
  pub sending : Sending Item
  -- the items that are still to be sent
  pub queued : List Item

-- the end of a ring, which an outbox has but while it is collected
abbrev pub the_end : Option (Sending Item) → Sending Item
the_end (Some s) = s
the_end None = record { ring = no_name; before = 0; sent = []; counted = 0; looks = 0; dooms = false }

-- what an outbox knows, by its parts
abbrev pub outbox_model : ℕ → List OutboxEvent → Option (Sending Item) → List Item → OutboxModel
outbox_model its_worker its_events its_end its_queued = record { worker = its_worker; events = its_events; sending = the_end its_end; queued = its_queued }

-- Its end is that of this ring, and its list has this name; what was given since the transaction began was sent, or is queued.
pub record IsOutbox (its_ring : TableId) (its_name its_list : Name) (its_end : Option (Sending Item)) (p : OutboxModel) : Type 0 where
  pub has_end : IsSome its_end
  pub ring : p.sending.ring ≡ its_ring
  pub name : its_list ≡ its_name
  pub given : given_since p.events ≡ p.sending.sent ++ p.queued

-- more may be sent, and the rest is as it was
pub record SendsOn {T : Type 0} (old new : Sending T) : Type 0 where
  pub ring : new.ring ≡ old.ring
  pub before : new.before ≡ old.before
  pub dooms : new.dooms ≡ old.dooms
  pub grows : old.counted ≤ new.counted
  pub looks : old.looks ≤ new.looks

-- it has looked once more how many items were acknowledged, and that leaves no room
abbrev pub FindsNoRoom : {T : Type 0} → Sending T → Sending T → Type 0
FindsNoRoom old new = HasNoRoom new × (old.looks < new.looks)

-- the same worker, from which more may be sent
abbrev pub GoesOn : OutboxModel → OutboxModel → Type 0
GoesOn old new = (new.worker ≡ old.worker) × SendsOn old.sending new.sending

-- the first item is handed out, and the others follow it
abbrev pub HandsOn : {T : Type 0} → List T → Option T → List T → Type 0
HandsOn old item new = MatchOption item ((old ≡ []) × (new ≡ [])) (λ x. old ≡ x ∷ new)

-- the same ring, through which the same was sent
pub record IsSameMeeting {T : Type 0} (old new : Meeting T) : Type 0 where
  pub ring : new.ring ≡ old.ring
  pub before : new.before ≡ old.before
  pub sent : new.sent ≡ old.sent
