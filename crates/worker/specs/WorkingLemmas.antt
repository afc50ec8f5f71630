-- What follows of the items and events of a job.
--     IsWaiting      while an item is tried, and waits
--     waits_there      a transaction that waits with a change waits in no table that the change doesn't name
--     refused_goes_on      a job once its item was refused
--     done_goes_on, done_in_step, done_item      once it was done and acknowledged
use Rattle.std.proofs.Common.{◌≡◌, ◌≢◌, ℕ, List, [], ◌∷◌, ◌++◌, Option, Some, None, refl, sym, ap, subst, ◌∙◌, append-nil}
use Rattle.std.specs.Prelude.{All, MatchOption, Ok, Err}
use Rattle.std.proofs.lemmas.List.Elements.{All-append, All-cons, All-nil}
use Rattle.atomic_table.specs.Seated.{TableId}
use Rattle.model.specs.declared.change.Change.{Change}
use Rattle.model.specs.declared.item.Item.{Item}
use Rattle.model.specs.declared.item.Item.TheVariants.{Change as ChangeItem, Last}
use Rattle.model.specs.Beginning.{Begins}
use Rattle.ring.specs.Ends.{Taking, Waited, Acknowledged}
use Rattle.world.specs.World.{Opened}
use Rattle.engine.specs.Events.{opened_by}
use Rattle.world_parts.specs.ByTable.{change_at, changes_at}
use Rattle.world_parts.specs.Parts.{wanted_by}
use Rattle.parted_store.specs.Lent.{OpenTicket}
use Rattle.worker.specs.declared.ended.Ended.{Ended}
use Rattle.worker.specs.declared.ended.Ended.TheVariants.{Last as AtLast, Doomed, Clashed, Stopped, OutOfMemory}
use Rattle.worker.specs.Working.{working, IsTaken, IsInStep, GoesOn, HasDone, ComesTo}

-- The item taken is tried: nothing is done yet, and where a change waits it is that item.
pub record IsWaiting (first now : OpenTicket) (before after : Taking Item) : Type 0 where
  pub taker : Waited before after
  pub number : now.number ≡ first.number
  pub events : Begins first.events now.events
  pub done : (opened_by now.events).items ≡ (opened_by first.events).items
  pub next : (item : Item) × (before.taken ≡ Some item) × (item ≢ Last)
  pub wants : IsTaken (opened_by now.events).wants after.taken

-- what a transaction waits with is the change that it tries next
pub waits_there : (wants : Option (ℕ × Change)) (sub : ℕ) (c : Change) → IsTaken wants (Some (ChangeItem sub c))
    → (table : ℕ) → change_at table c ≡ [] → changes_at table (wanted_by wants) ≡ []
waits_there None sub c next table nothing = refl
waits_there (Some w) sub c next table nothing =
    ap (λ (cs : List Change). cs ++ []) (ap (change_at table) (sym (same_change sub c w next)) ∙ nothing)
  where
    same_change : (sub : ℕ) (c : Change) (w : ℕ × Change) → Some (ChangeItem sub c) ≡ Some (ChangeItem w.0 w.1) → c ≡ w.1
    same_change sub c w is = cc

refused_items : (e : Ended) (t : Taking Item) (old new : Opened) → ComesTo (Err e) t old new → new.items ≡ old.items
refused_items AtLast t old new comes = absurd comes
refused_items Doomed t old new comes = comes.1
refused_items Clashed t old new comes = comes.1
refused_items Stopped t old new comes = comes.0
refused_items OutOfMemory t old new comes = comes.0

-- what is known of the item that was taken
of_item : (taken : Option Item) {P Q : Item → Type 0} → MatchOption taken ⊥ P → MatchOption taken (Unit {0}) Q
    → (item : Item) × (taken ≡ Some item) × P item × Q item
of_item None p q = absurd p
of_item (Some x) p q = (x, refl, p, q)

was_taken : (before after : Option Item) (x : Item) → MatchOption before (Unit {0}) (λ y. after ≡ Some y) → (item : Item) × (before ≡ Some item)
    → after ≡ Some x → before ≡ Some x
was_taken None after x stays has is = absurd (cc)
was_taken (Some y) after x stays has is = sym stays ∙ is

module _ (its_worker : ℕ) (first now : OpenTicket) (before after : Taking Item) (waited : Waited before after) (number : now.number ≡ first.number)
    (events : Begins first.events now.events) where
  pub refused_goes_on : (e : Ended) → ComesTo (Err e) after (opened_by first.events) (opened_by now.events)
      → GoesOn (working its_worker first before) (working its_worker now after)
  refused_goes_on e comes = record {
    worker = refl;
    xid = number;
    ring = waited.ring;
    events = events;
    done = ([], refused_items e after (opened_by first.events) (opened_by now.events) comes ∙ sym (append-nil (opened_by first.events).items));
    doomed = waited.doomed;
  }

  module _ (last : Taking Item) (comes : ComesTo (Ok tt) after (opened_by first.events) (opened_by now.events)) (acknowledged : Acknowledged after last) where
    abbrev parts : (item : Item) × (after.taken ≡ Some item) × ((opened_by now.events).items ≡ (opened_by first.events).items ++ item ∷ []) ×
        (last.acked ≡ after.acked ++ item ∷ [])
    parts = of_item after.taken comes.1 acknowledged.acked

    pub done_goes_on : GoesOn (working its_worker first before) (working its_worker now last)
    done_goes_on = record {
      worker = refl;
      xid = number;
      ring = acknowledged.ring ∙ waited.ring;
      events = events;
      done = (parts.0 ∷ [], parts.2);
      doomed = λ was. acknowledged.doomed ∙ waited.doomed was;
    }

    same_item : (item : Item) → before.taken ≡ Some item → parts.0 ≡ item
    same_item item is = let e : Some parts.0 ≡ Some item = sym (was_taken before.taken after.taken parts.0 waited.stays (item, is) parts.1) ∙ is in cc

    pub done_in_step : (its_ring : TableId) → IsInStep its_ring (working its_worker first before)
        → (item : Item) × (before.taken ≡ Some item) × (item ≢ Last) → IsInStep its_ring (working its_worker now last)
    done_in_step its_ring step has = record {
      ring = acknowledged.ring ∙ waited.ring ∙ step.ring;
      done =
          parts.2 ∙ ap (λ (items : List Item). items ++ parts.0 ∷ []) (step.done ∙ sym waited.acked) ∙ sym parts.3;
      own =
          let P : Item → Type 0 = λ i. i ≢ Last in
          subst (All P) (sym parts.2)
          (All-append P (opened_by first.events).items (parts.0 ∷ []) step.own
          (All-cons P parts.0 [] (λ is. has.2 (sym (same_item has.0 has.1) ∙ is)) (All-nil P)));
      next = subst (λ w. IsTaken w last.taken) (sym comes.0) tt;
    }

    pub done_item : (item : Item) × (before.taken ≡ Some item) → HasDone (working its_worker first before) (working its_worker now last)
    done_item has = (parts.0, was_taken before.taken after.taken parts.0 waited.stays has parts.1, parts.2)
