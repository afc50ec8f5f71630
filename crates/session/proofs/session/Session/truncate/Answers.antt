use Rattle.std.proofs.Common.{ap, ◌∙◌, refl}
use Rattle.session.specs.Table.{truncate_change, plans, gives}
use Rattle.model.specs.declared.item.Item.TheVariants.{Change}
use Rattle.session.proofs.Steps.{stays, follows_same}
use Rattle.session.proofs.Items.{relation_refused, fault_of_relation, stands_known}
use Rattle.session.proofs.session.Session.truncate.Goals as goal

pub returns-in_default : goal.returns-in_default
returns-in_default c = λ g h same represents.
    let passed = rw c.in_default.is at (c.in_ok-xid.ensures g h represents) in
    stays g c.args.self.now h _ represents (passed (truncate_change g h c.args.m.now.relations))

pub returns-in_err-change : goal.returns-in_err-change
returns-in_err-change c = λ g h same represents.
    let of = rw c.in-Some.is at (c.in_ok-xid.ensures g h represents) in
    let planned = rw c.as_slice.ensures.value at (c.in_err-change.ensures g h same represents.relations) in
    relation_refused g c.args.self.now _ h _ c.from_residual-in_err-change.result c.in_err-change.field-0.0 represents planned.1 refl refl refl refl c.from_residual-in_err-change.ensures.1
    (fault_of_relation c.in_err-change.field-0.0 (truncate_change g h c.args.m.now.relations) _ planned.0 (λ fault. of.3 (truncate_change g h c.args.m.now.relations) ∙ ap (λ p. plans p (λ d. gives h c.in-Some.xid (Change c.in-Some.sub d) c.args.size of.0)) fault))

pub returns : goal.returns
returns c = λ g h same represents.
    let of = rw c.in-Some.is at (c.in_ok-xid.ensures g h represents) in
    let planned = rw c.as_slice.ensures.value at (c.in_ok-change.ensures g h same represents.relations) in
    follows_same g _ h _ _ c.add_item.result (of.3 (truncate_change g h c.args.m.now.relations) ∙ ap (λ p. plans p (λ d. gives h c.in-Some.xid (Change c.in-Some.sub d) c.args.size of.0)) planned.0)
    (c.add_item.ensures g h of.0 (stands_known g c.args.self.now _ h represents planned.2 refl refl refl refl) of.1 of.2 tt planned.1 (λ direct. tt))
