use Rattle.std.proofs.Common.{◌++◌, ◌∷◌, [], List, refl, sym, ap, subst, ◌∙◌, append-nil}
use Rattle.model.specs.declared.item.Item.{Item}
use Rattle.model.specs.declared.item.Item.TheVariants.{Change as ChangeItem}
use Rattle.model.specs.Survivors.{changes_of}
use Rattle.model.specs.SurvivorLemmas.{changes_of_both}
use Rattle.engine.specs.OpenWork.{Work, HasGrown}
use Rattle.engine.proofs.SerialSteps.{on_err}
use Rattle.engine.proofs.open_work.OpenWork.act.Goals as goal

pub returns-in_err-reserve-clause-err : goal.returns-in_err-reserve-clause-err
returns-in_err-reserve-clause-err c =
    let left : Work = record { live = c.self.inside.live; undo = c.self.inside.undo; changes = changes_of c.reserve.new.self.items } in
    on_err c.from_residual.result _ (subst (λ (w : Work). HasGrown w [] left) c.self.view_is (record {
      clear = tt;
      rows = refl;
      base = refl;
      schema = refl;
      live = refl;
      changes = ap changes_of c.in_err-reserve.ensures.items ∙ sym (append-nil (changes_of c.self.inside.items.items));
    }))

pub returns-in_err-apply-clause-err : goal.returns-in_err-apply-clause-err
returns-in_err-apply-clause-err c =
    let left : Work = record { live = record c.self.inside.live { tables = c.apply.new.t }; undo = c.apply.new.self; changes = changes_of c.reserve.new.self.items } in
    on_err c.from_residual-in_err-apply.result _ (subst (λ (w : Work). HasGrown w [] left) c.self.view_is (record {
      clear = tt;
      rows = c.in_err-apply.ensures.err;
      base = c.apply.ensures.base;
      schema = c.apply.ensures.schema;
      live = refl;
      changes = ap changes_of c.in_ok-reserve.ensures.items ∙ sym (append-nil (changes_of c.self.inside.items.items));
    }))

pub returns-clause-ok : goal.returns-clause-ok
returns-clause-ok c =
    let grown : Work = record { live = record c.self.inside.live { tables = c.apply.new.t }; undo = c.apply.new.self; changes = changes_of c.push_reserved.new.self.items } in
    let last : List Item = ChangeItem c.args.sub c.args.change ∷ [] in
    subst (λ (w : Work). HasGrown w (c.args.change ∷ []) grown) c.self.view_is (record {
      clear = (c.in_ok-apply.ensures.passes, tt);
      rows = c.in_ok-apply.ensures.ok;
      base = c.apply.ensures.base;
      schema = c.apply.ensures.schema;
      live = refl;
      changes = ap changes_of (c.push_reserved.ensures.items ∙ ap (λ (items : List Item). items ++ last) c.in_ok-reserve.ensures.items) ∙ changes_of_both c.self.inside.items.items last;
    })
