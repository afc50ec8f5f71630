use Rattle.std.proofs.Common.{◌≡◌, ◌++◌, ◌∷◌, [], length, sym, ◌∙◌, ap, subst}
use Rattle.std.specs.Prelude.{All}
use Rattle.std.specs.Vec.Iter.{into_iter_items}
use Rattle.model.specs.Named.{NamesTables}
use Rattle.model.specs.Survivors.{changes_of}
use Rattle.model.specs.SurvivorLemmas.{changes_of_both}
use Rattle.engine.specs.FirstClash.{ClashesIn}
use Rattle.live_tables.specs.NamedLemmas.{changes_at}
use Rattle.engine.specs.Serial.{Serial, rows_now}
use Rattle.engine.proofs.SerialSteps.{item_applied, item_clear, item_refused, if_err, on_err, taken_front}
use Rattle.engine.proofs.serial.SerialStore.take_all.Goals as goal
use Rattle.engine.proofs.serial.SerialStore.take_all.Goals.{In-Some}

-- the items are those so far, this one, and those that are left
split : (c : In-Some) → c.args.items.items ≡ c.loop-item.yielded ++ c.in-Some.item ∷ into_iter_items c.next.new.self
split c =
    sym c.into_iter-item-iterator.ensures.into_iter_gives.0 ∙ taken_front c.into_iter-item-iterator.result c.loop-item.yielded c.loop-item.item-iterator c.loop-item.yielded_by
    ∙ ap (λ xs. c.loop-item.yielded ++ xs) c.in-Some.ensures.steps.0

pub take-requires : goal.take-requires
take-requires c =
    let at = (goal.at.take-requires c).In-Some in
    subst (λ (s : Serial). All (NamesTables (length s.store.schema)) (changes_of (c.in-Some.item ∷ []))) (sym c.loop-item.invariant.done)
    (changes_at (NamesTables (length c.args.self.now.store.schema)) c.loop-item.yielded (into_iter_items c.next.new.self) c.in-Some.item
    (subst (λ items. All (NamesTables (length c.args.self.now.store.schema)) (changes_of items)) (split at) c.requires))

pub loop-item-preserved : goal.loop-item-preserved
loop-item-preserved c = record {
  can_next = tt;
  is_finite = tt;
  done = item_applied c.args.self.now c.loop-item.self c.take.new.self c.loop-item.yielded c.in-Some.item c.loop-item.invariant.done c.in_ok-take.ensures.ok;
  clear = item_clear c.args.self.now c.loop-item.self c.loop-item.yielded c.in-Some.item c.loop-item.invariant.done c.loop-item.invariant.clear c.in_ok-take.ensures.clear;
}

pub returns-in_err-take-clause-refused : goal.returns-in_err-take-clause-refused
returns-in_err-take-clause-refused c =
    let at = (goal.at.returns-in_err-take-clause-refused c).In-Some in
    if_err c.from_residual.result c.in_err-take.field-0.0 _ c.from_residual.ensures.1
    (subst (λ items. ClashesIn c.args.self.now.store.schema (rows_now c.args.self.now) (changes_of items) c.in_err-take.field-0.0) (sym (split at))
    (item_refused c.args.self.now c.loop-item.self c.loop-item.yielded (into_iter_items c.next.new.self) c.in-Some.item c.in_err-take.field-0.0 c.loop-item.invariant.done c.loop-item.invariant.clear c.in_err-take.ensures.refused))

pub returns-in_err-take-clause-err : goal.returns-in_err-take-clause-err
returns-in_err-take-clause-err c =
    let rest = c.in-Some.item ∷ into_iter_items c.next.new.self in
    on_err c.from_residual.result _ (
      changes_of c.loop-item.yielded,
      changes_of rest,
      ap changes_of (split (goal.at.returns-in_err-take-clause-err c).In-Some) ∙ changes_of_both c.loop-item.yielded rest,
      c.in_err-take.ensures.err ∙ c.loop-item.invariant.done,
    )
