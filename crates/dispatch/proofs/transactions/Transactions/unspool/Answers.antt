use Rattle.std.proofs.Common.{◌≡◌, ◌++◌, ◌∷◌, Some, sym, ap, subst, ◌∙◌, inr}
use Rattle.std.specs.Vec.Iter.{into_iter_items}
use Rattle.dispatch.specs.Standing.{IsStoreEnd, HasTried}
use Rattle.dispatch.proofs.Trying.{taken_front, on_err, if_err, met_end, tried_more, own_all}
use Rattle.dispatch.proofs.transactions.Transactions.unspool.Goals as goal

pub returns-in_err-apply-clause-err : goal.returns-in_err-apply-clause-err
returns-in_err-apply-clause-err g c =
    let rest = into_iter_items c.next.new.self in
    let split : c.args.items.items ≡ c.loop-item.yielded ++ c.in-Some.item ∷ rest =
    sym c.into_iter-item-iterator.ensures.into_iter_gives.0
    ∙ taken_front c.into_iter-item-iterator.result c.loop-item.yielded c.loop-item.item-iterator c.loop-item.yielded_by
    ∙ ap (λ xs. c.loop-item.yielded ++ xs) c.in-Some.ensures.steps.0
    in
    on_err c.from_residual-in_err-apply.result (inr
    (subst (λ items. HasTried c.args.self.now c.args.xid items c.apply.new.self) (sym split)
    (tried_more c.args.self.now c.loop-item.self c.apply.new.self c.args.xid c.loop-item.yielded rest c.in-Some.item c.loop-item.invariant.done _ c.in_err-apply.ensures.err)))

-- what was begun is the leader's own
pub apply-requires-clause-ours : goal.apply-requires-clause-ours
apply-requires-clause-ours g c = own_all c.args.self.now c.loop-item.self c.args.xid c.loop-item.yielded c.loop-item.invariant.done

pub returns-in_err-begin-clause-end : goal.returns-in_err-begin-clause-end
returns-in_err-begin-clause-end g c = if_err c.from_residual.result c.in_err-begin.field-0.0 (IsStoreEnd (Some c.args.xid)) c.from_residual.ensures.1 (c.in_err-begin.ensures.err (Some c.args.xid))

pub returns-in_err-apply-clause-end : goal.returns-in_err-apply-clause-end
returns-in_err-apply-clause-end g c =
    if_err c.from_residual-in_err-apply.result c.in_err-apply.field-0.0 (IsStoreEnd (Some c.args.xid)) c.from_residual-in_err-apply.ensures.1
    (met_end c.loop-item.self c.apply.new.self c.args.xid c.in-Some.item c.in_err-apply.field-0.0 c.in_err-apply.ensures.err)
