use Rattle.std.proofs.Common.{sym, subst, ◌∙◌, inl, inr}
use Rattle.dispatch.specs.Standing.{Standing, IsOwn, HasTried}
use Rattle.dispatch.proofs.Trying.{on_err_so, own_all, tried_all}
use Rattle.dispatch.proofs.transactions.Transactions.commit.Goals as goal
use Rattle.dispatch.proofs.transactions.Transactions.commit.Goals.{then-not-is_own+in_ok-unspool, else-not-is_own}

pub settle_own-requires-clause-own : goal.settle_own-requires-clause-own
settle_own-requires-clause-own g c =
    elim c.if-not-is_own.branch [
      | then-not-is_own+in_ok-unspool w ↦
          subst (λ (t : Standing). IsOwn t c.args.xid) (sym w.self-is)
          (own_all c.args.self.now w.unspool.new.self c.args.xid c.args.items.items w.in_ok-unspool.ensures.ok)
      | else-not-is_own w ↦ subst (λ (t : Standing). IsOwn t c.args.xid) (sym w.self-is) w.if-not-is_own.ensures
    ]

pub returns-clause-err : goal.returns-clause-err
returns-clause-err g c =
    on_err_so c.settle_own.result c.settle_own.ensures.same (λ same.
    elim c.if-not-is_own.branch [
      | then-not-is_own+in_ok-unspool w ↦
          inr (subst (HasTried c.args.self.now c.args.xid c.args.items.items) (sym (same ∙ w.self-is))
          (tried_all c.args.self.now w.unspool.new.self c.args.xid c.args.items.items w.in_ok-unspool.ensures.ok))
      | else-not-is_own w ↦ inl (same ∙ w.self-is)
    ])
