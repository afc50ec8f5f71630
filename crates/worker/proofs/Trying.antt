-- What a transaction has done once its item was tried.
--     comes_done, comes_refused      it was done; it was refused
--     comes_begins      its events go on
use Rattle.std.proofs.Common.{◌≡◌, List, [], ◌∷◌, ◌++◌, Some, None, refl, sym, ap, subst, ◌∙◌}
use Rattle.std.specs.Prelude.{IsSome, MatchOption, Result, Ok, Err}
use Rattle.std.specs.Result.{IsErrAnd}
use Rattle.std.proofs.lemmas.List.{append_assoc}
use Rattle.model.specs.declared.item.Item.{Item}
use Rattle.model.specs.Beginning.{Begins}
use Rattle.ring.specs.Ends.{Taking, Waited}
use Rattle.world.specs.World.{Opened}
use Rattle.engine.specs.declared.events.Event.{Event}
use Rattle.engine.specs.declared.events.Event.TheVariants.{Done, Wants, FoundStopped, FoundNoMemory}
use Rattle.engine.specs.Events.{opened_by}
use Rattle.engine.specs.EventLemmas.{opened_more}
use Rattle.worker.specs.declared.ended.Ended.{Ended}
use Rattle.worker.specs.declared.ended.Ended.TheVariants.{Last as AtLast, Doomed, Clashed, Stopped, OutOfMemory}
use Rattle.worker.specs.declared.ended.Tried.{Tried}
use Rattle.worker.specs.declared.ended.Tried.TheVariants.{Done as WasDone, Held as WasHeld}
use Rattle.worker.specs.Working.{IsTaken, Comes, ComesTo}

-- what was taken is so still, and the transaction had done these items before
module _ (before after : Taking Item) (waited : Waited before after) (old new : List Event) (first : Opened) (same : (opened_by old).items ≡ first.items) where
  still_taken : (item : Item) → before.taken ≡ Some item → after.taken ≡ Some item
  still_taken item is = subst (λ taken. MatchOption taken (Unit {0}) (λ (x : Item). after.taken ≡ Some x)) is waited.stays

  -- it was done
  pub comes_done : (tried : Tried) → tried ≡ WasDone → (item : Item) × (before.taken ≡ Some item) × Comes (Ok tried) item old new
      → ComesTo (Ok tt) after first (opened_by new)
  comes_done tried done (item, taken, comes) =
      let told_is : new ≡ old ++ Done item ∷ [] = subst (λ (t : Tried). Comes (Ok t) item old new) done comes in
      let is : opened_by new ≡ record { items = (opened_by old).items ++ item ∷ []; wants = None } = ap opened_by told_is ∙ opened_more old (Done item) in (
        ap (λ (o : Opened). o.wants) is,
        subst (λ taken. MatchOption taken ⊥ (λ (x : Item). (opened_by new).items ≡ first.items ++ x ∷ [])) (sym (still_taken item taken))
            (ap (λ (o : Opened). o.items) is ∙ ap (λ (items : List Item). items ++ item ∷ []) same),
      )

  -- what it waited with it waits with still
  module _ (next : IsTaken (opened_by old).wants before.taken) (item : Item) (taken : before.taken ≡ Some item) where
    stays : opened_by new ≡ opened_by old → ((opened_by new).items ≡ first.items) × IsTaken (opened_by new).wants after.taken
    stays is = (
      ap (λ (o : Opened). o.items) is ∙ same,
      subst (λ (o : Opened). IsTaken o.wants after.taken) (sym is)
          (subst (IsTaken (opened_by old).wants) (taken ∙ sym (still_taken item taken)) next),
    )

    by_end : (e : Ended) → Comes (Err e) item old new → ComesTo (Err e) after first (opened_by new)
    by_end AtLast comes = absurd comes
    by_end Doomed comes = absurd comes
    by_end Clashed (sub, c, of, told_is) =
        let is : opened_by new ≡ record (opened_by old) { wants = Some (sub, c) } = ap opened_by told_is ∙ opened_more old (Wants sub c) in (
          subst (λ (o : Opened). IsSome o.wants) (sym is) refl,
          ap (λ (o : Opened). o.items) is ∙ same,
          subst (λ (o : Opened). IsTaken o.wants after.taken) (sym is) (still_taken item taken ∙ ap Some of),
        )
    by_end Stopped told_is = stays (ap opened_by told_is ∙ opened_more old FoundStopped)
    by_end OutOfMemory told_is = stays (ap opened_by told_is ∙ opened_more old FoundNoMemory)

  -- it was refused
  pub comes_refused : (r : Result (Unit {0}) Ended) (e : Ended) → IsErrAnd r (λ end. end ≡ e) → IsTaken (opened_by old).wants before.taken
      → (item : Item) × (before.taken ≡ Some item) × Comes (Err e) item old new → ComesTo r after first (opened_by new)
  comes_refused (Ok u) e is next comes = absurd is
  comes_refused (Err end) e is next (item, taken, comes) =
      subst (λ (x : Ended). ComesTo (Err x) after first (opened_by new)) (sym is) (by_end next item taken e comes)

-- its events go on
comes_more : (r : Result Tried Ended) (item : Item) (old new : List Event) → Comes r item old new → Begins old new
comes_more (Ok WasDone) item old new comes = (Done item ∷ [], comes)
comes_more (Ok WasHeld) item old new (sub, c, of, told_is) = (Wants sub c ∷ [], told_is)
comes_more (Err AtLast) item old new comes = absurd comes
comes_more (Err Doomed) item old new comes = absurd comes
comes_more (Err Clashed) item old new (sub, c, of, told_is) = (Wants sub c ∷ [], told_is)
comes_more (Err Stopped) item old new comes = (FoundStopped ∷ [], comes)
comes_more (Err OutOfMemory) item old new comes = (FoundNoMemory ∷ [], comes)

pub comes_begins : (first old new : List Event) → Begins first old → (r : Result Tried Ended) (item : Item) → Comes r item old new → Begins first new
comes_begins first old new begins r item comes =
    let more = comes_more r item old new comes in
    (begins.0 ++ more.0, more.1 ∙ ap (λ (es : List Event). es ++ more.0) begins.1 ∙ append_assoc first begins.0 more.0)
