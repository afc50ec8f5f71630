use Rattle.std.proofs.Common.{◌++◌, ◌∷◌, [], refl, arith}
use Rattle.std.proofs.lemmas.Bool.{eq-eqb}
use Rattle.model.specs.declared.item.Item.TheVariants.{Touch}
use Rattle.savepoint.proofs.Marked.{marked_more, named_more, all_named, is_noted, are_named}
use Rattle.savepoint.proofs.record.TxRecord.keep_touch.Goals as goal

pub invariant_of-self : goal.invariant_of-self
invariant_of-self c =
    let a = c.self.inside in
    let r = c.args.self.now in
    let v = c.self.view_is in
    rw c.push_reserved.ensures.items
    (marked_more a.top a.survivors.items a.savepoints a.undo.inverses c.self.invariant c.args.sub (Touch c.args.sub) a.undo.inverses (λ other. refl)
    (is_noted a r v c.args.sub c.requires.noted) (are_named a r v c.args.sub c.requires.named) (omega arith))

pub returns-clause-named : goal.returns-clause-named
returns-clause-named c =
    let a = c.self.inside in
    rw c.push_reserved.ensures.items
    (all_named (a.survivors.items ++ Touch c.args.sub ∷ []) a.savepoints (named_more a.top a.survivors.items a.savepoints a.undo.inverses c.self.invariant c.args.sub (Touch c.args.sub) (eq-eqb c.args.sub c.args.sub refl) (are_named a c.args.self.now c.self.view_is c.args.sub c.requires.named)))
