use Rattle.std.proofs.Common.{◌++◌, ◌∷◌, [], refl, arith, length-append}
use Rattle.std.proofs.lemmas.Bool.{eq-eqb}
use Rattle.model.specs.declared.item.Item.TheVariants.{Change}
use Rattle.savepoint.proofs.Marked.{marked_more, named_more, all_named, is_noted, are_named}
use Rattle.savepoint.proofs.record.TxRecord.keep_change.Goals as goal

pub invariant_of-self : goal.invariant_of-self
invariant_of-self c =
    let a = c.self.inside in
    let r = c.args.self.now in
    let v = c.self.view_is in
    let long = length-append a.undo.inverses (c.in-Some.inverse ∷ []) in
    rw (c.push_reserved.ensures.items, c.push_reserved-in-Some.ensures.inverses)
    (marked_more a.top a.survivors.items a.savepoints a.undo.inverses c.self.invariant c.args.sub (Change c.args.sub c.args.change) _ (λ other. refl)
    (is_noted a r v c.args.sub c.requires.noted) (are_named a r v c.args.sub c.requires.named) (omega arith))

pub invariant_of-self-in_default : goal.invariant_of-self-in_default
invariant_of-self-in_default c =
    let a = c.self.inside in
    let r = c.args.self.now in
    let v = c.self.view_is in
    rw c.push_reserved.ensures.items
    (marked_more a.top a.survivors.items a.savepoints a.undo.inverses c.self.invariant c.args.sub (Change c.args.sub c.args.change) a.undo.inverses (λ other. refl)
    (is_noted a r v c.args.sub c.requires.noted) (are_named a r v c.args.sub c.requires.named) (omega arith))

pub returns-in-Some-clause-named : goal.returns-in-Some-clause-named
returns-in-Some-clause-named c =
    let a = c.self.inside in
    rw c.push_reserved.ensures.items
    (all_named (a.survivors.items ++ Change c.args.sub c.args.change ∷ []) a.savepoints (named_more a.top a.survivors.items a.savepoints a.undo.inverses c.self.invariant c.args.sub (Change c.args.sub c.args.change) (eq-eqb c.args.sub c.args.sub refl) (are_named a c.args.self.now c.self.view_is c.args.sub c.requires.named)))

pub returns-in_default-clause-named : goal.returns-in_default-clause-named
returns-in_default-clause-named c =
    let a = c.self.inside in
    rw c.push_reserved.ensures.items
    (all_named (a.survivors.items ++ Change c.args.sub c.args.change ∷ []) a.savepoints (named_more a.top a.survivors.items a.savepoints a.undo.inverses c.self.invariant c.args.sub (Change c.args.sub c.args.change) (eq-eqb c.args.sub c.args.sub refl) (are_named a c.args.self.now c.self.view_is c.args.sub c.requires.named)))
