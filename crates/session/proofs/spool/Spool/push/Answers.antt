use Rattle.std.proofs.Common.{◌≡◌, length, ◌++◌, ◌∷◌, [], ap, ◌∙◌, arith}
use Rattle.std.specs.List.{zip}
use Rattle.savepoint.specs.Savepoints.{with_mark_of}
use Rattle.session.proofs.Spools.{zip-push, IsSpool-push, pushed}
use Rattle.session.proofs.spool.Spool.push.Goals as goal

-- what was pushed
items_are : (c : goal.After-unwrap-2) → c.push.new.self.items ≡ c.self.inside.items.items ++ c.args.item ∷ []
items_are c = pushed c.push.result _ _ _ _ c.push.ensures.items c.unwrap.ensures ∙ ap (λ is. is ++ c.args.item ∷ []) c.reserve.ensures.items

sizes_are : (c : goal.After-unwrap-2) → c.push-2.new.self.items ≡ c.self.inside.sizes.items ++ c.args.size ∷ []
sizes_are c = pushed c.push-2.result _ _ _ _ c.push-2.ensures.items c.unwrap-2.ensures ∙ ap (λ ns. ns ++ c.args.size ∷ []) c.reserve-2.ensures.items

index_is : (c : goal.After-unwrap-2) → c.len.result ≡ length c.self.inside.items.items
index_is c = omega (arith, c.len.ensures, c.reserve.ensures.len, c.self.inside.items.ok.0)

pub invariant_of-self-2 : goal.invariant_of-self-2
invariant_of-self-2 c =
    let marks = c.in_ok-note.ensures.ok ∙ ap (λ n. with_mark_of c.args.item n c.self.inside.savepoints) (index_is c) in
    rw (items_are c, sizes_are c, marks) (IsSpool-push c.self.inside.items.items c.self.inside.sizes.items c.self.inside.savepoints c.args.item c.args.size c.self.invariant)

pub returns-clause-ok : goal.returns-clause-ok
returns-clause-ok c =
    let kept : zip c.push.new.self.items c.push-2.new.self.items ≡ zip c.self.inside.items.items c.self.inside.sizes.items ++ (c.args.item, c.args.size) ∷ [] = rw (items_are c, sizes_are c) (zip-push c.self.inside.items.items c.self.inside.sizes.items c.args.item c.args.size c.self.invariant.paired) in
    kept ∙ ap (λ is. is ++ (c.args.item, c.args.size) ∷ []) c.self.view_is
