-- Why an item was refused, by what the store said.
--     comes_change, refused_change      the events of a transaction whose change was refused, and why it was
--     comes_touch, refused_touch      the same of an item that changes no row
--     refusal_told      a fault for which the latter is refused is one for which a change may be
use Rattle.std.specs.Prelude.{◌≡◌, ℕ, List, ◌++◌, Option, Some, None, IsSome, Err}
use Rattle.std.proofs.Common.{refl, sym, ap, subst}
use Rattle.model.specs.declared.change.Change.{Change}
use Rattle.model.specs.declared.item.Item.TheVariants.{Change as ChangeItem, Touch as TouchItem}
use Rattle.model.specs.Effect.{ClashCause}
use Rattle.model.specs.Rows.{Rows, Schema}
use Rattle.change.specs.declared.outcome.Clash.{Clash}
use Rattle.world.specs.World.{Opened}
use Rattle.engine.specs.declared.events.Event.{Event}
use Rattle.engine.specs.declared.events.Event.TheVariants.{Wants}
use Rattle.engine.specs.Events.{refusal_events, events_of}
use Rattle.engine.specs.EventLemmas.{opened_more}
use Rattle.live_tables.specs.declared.answers.EngineFault.{EngineFault}
use Rattle.live_tables.specs.declared.answers.EngineFault.TheVariants.{AlreadyOpen as AlreadyOpenFault, TooManyOpen as TooManyOpenFault, Clash as ClashFault, Stopped as StoppedFault, OutOfMemory as NoMemory}
use Rattle.live_tables.specs.Answers.{cause_of, told_clash, told_fault, told}
use Rattle.parted_store.specs.Touching.{IsRefusal}
use Rattle.table_locks.specs.Answers.{IsTold}
use Rattle.table_locks.specs.Clashing.{WasClash}
use Rattle.worker.specs.declared.ended.Ended.{Ended}
use Rattle.worker.specs.declared.ended.Ended.TheVariants.{Clashed}
use Rattle.worker.specs.Working.{WasRefused, ended_by, Wanted, Comes}

-- what its transaction's list tells then
pub comes_change : (events : List Event) (sub : ℕ) (c : Change) (new : List Event) (ended : Ended) (fault : EngineFault)
    → new ≡ events ++ events_of sub c (told (Err fault)) → ended ≡ ended_by fault → IsTold fault → Comes (Err ended) (ChangeItem sub c) events new
comes_change events sub c new ended fault told_is ended_is is =
    subst (λ (e : Ended). Comes (Err e) (ChangeItem sub c) events new) (sym ended_is)
    (subst (λ (es : List Event). Comes (Err (ended_by fault)) (ChangeItem sub c) events es) (sym told_is) (by_fault fault is))
  where
    by_cause : (cause : Option ClashCause) → IsSome cause → Wanted (ChangeItem sub c) events (events ++ events_of sub c (told_clash cause))
    by_cause None some = cc
    by_cause (Some cause) some = (sub, c, refl, refl)

    by_fault : (fault : EngineFault) → IsTold fault → Comes (Err (ended_by fault)) (ChangeItem sub c) events (events ++ events_of sub c (told (Err fault)))
    by_fault AlreadyOpenFault is = absurd is
    by_fault TooManyOpenFault is = absurd is
    by_fault (ClashFault clash) is = by_cause (cause_of clash) is
    by_fault StoppedFault is = refl
    by_fault NoMemory is = refl

pub comes_touch : (events : List Event) (sub : ℕ) (new : List Event) (ended : Ended) (fault : EngineFault)
    → new ≡ events ++ refusal_events (told_fault fault) → ended ≡ ended_by fault → IsRefusal fault → Comes (Err ended) (TouchItem sub) events new
comes_touch events sub new ended fault told_is ended_is is =
    subst (λ (e : Ended). Comes (Err e) (TouchItem sub) events new) (sym ended_is)
    (subst (λ (es : List Event). Comes (Err (ended_by fault)) (TouchItem sub) events es) (sym told_is) (by_fault fault is))
  where
    by_fault : (fault : EngineFault) → IsRefusal fault → Comes (Err (ended_by fault)) (TouchItem sub) events (events ++ refusal_events (told_fault fault))
    by_fault AlreadyOpenFault is = absurd is
    by_fault TooManyOpenFault is = absurd is
    by_fault (ClashFault clash) is = absurd is
    by_fault StoppedFault is = refl
    by_fault NoMemory is = refl

-- ---- why

module _ (keys : Schema) (first : Rows) (xid : ℕ) (events : List Event) where
  module _ (sub : ℕ) (c : Change) where
    -- it clashed, and its transaction tells it as wanted
    clashed : (clash : Clash) → WasClash keys first xid c clash → (cause : Option ClashCause) → IsSome cause
        → WasRefused keys first Clashed xid (events ++ events_of sub c (told_clash cause))
    clashed clash was None some = cc
    clashed clash was (Some cause) some = (sub, c, clash, ap (λ (o : Opened). o.wants) (opened_more events (Wants sub c)), was)

    by_fault : (fault : EngineFault) → IsTold fault → ((clash : Clash) → fault ≡ ClashFault clash → WasClash keys first xid c clash)
        → WasRefused keys first (ended_by fault) xid (events ++ events_of sub c (told (Err fault)))
    by_fault AlreadyOpenFault is was = absurd is
    by_fault TooManyOpenFault is was = absurd is
    by_fault (ClashFault clash) is was = clashed clash (was clash refl) (cause_of clash) is
    by_fault StoppedFault is was = (events, refl)
    by_fault NoMemory is was = (events, refl)

    -- a change was refused
    pub refused_change : (new : List Event) (ended : Ended) (fault : EngineFault) → new ≡ events ++ events_of sub c (told (Err fault)) → ended ≡ ended_by fault
        → IsTold fault → ((clash : Clash) → fault ≡ ClashFault clash → WasClash keys first xid c clash) → WasRefused keys first ended xid new
    refused_change new ended fault told_is ended_is is was =
        subst (λ (e : Ended). WasRefused keys first e xid new) (sym ended_is)
        (subst (λ (es : List Event). WasRefused keys first (ended_by fault) xid es) (sym told_is) (by_fault fault is was))

  touch_by_fault : (fault : EngineFault) → IsRefusal fault → WasRefused keys first (ended_by fault) xid (events ++ refusal_events (told_fault fault))
  touch_by_fault AlreadyOpenFault is = absurd is
  touch_by_fault TooManyOpenFault is = absurd is
  touch_by_fault (ClashFault clash) is = absurd is
  touch_by_fault StoppedFault is = (events, refl)
  touch_by_fault NoMemory is = (events, refl)

  -- an item that changes no row was refused
  pub refused_touch : (new : List Event) (ended : Ended) (fault : EngineFault) → new ≡ events ++ refusal_events (told_fault fault) → ended ≡ ended_by fault
      → IsRefusal fault → WasRefused keys first ended xid new
  refused_touch new ended fault told_is ended_is is =
      subst (λ (e : Ended). WasRefused keys first e xid new) (sym ended_is)
      (subst (λ (es : List Event). WasRefused keys first (ended_by fault) xid es) (sym told_is) (touch_by_fault fault is))

pub refusal_told : (fault : EngineFault) → IsRefusal fault → IsTold fault
refusal_told AlreadyOpenFault is = absurd is
refusal_told TooManyOpenFault is = absurd is
refusal_told (ClashFault clash) is = absurd is
refusal_told StoppedFault is = tt
refusal_told NoMemory is = tt
