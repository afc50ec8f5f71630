use Rattle.std.proofs.Common.{◌≡◌, ℕ, Some, refl}
use Rattle.std.specs.Ordering.{nat_cmp}
use Rattle.std.specs.BTreeMap as tree
use Rattle.std.specs.Map.Iter.{deref_pair}
use Rattle.std.proofs.lemmas.Map.Views.{All-turn}
use Rattle.live_tables.specs.declared.transaction.OpenTransaction.{OpenTransaction}
use Rattle.live_tables.specs.StopLemmas.{IsSettledAt, one_less, none_less, settled}
use Rattle.live_tables.proofs.live_tables.Live.is_settled.Goals as goal

pub loop-xid-init : goal.loop-xid-init
loop-xid-init c = rw c.into_iter-xid-iterator.ensures.into_iter_gives.0 (λ all. all)

pub is_settled_at-requires-clause-found : goal.is_settled_at-requires-clause-found
is_settled_at-requires-clause-found c =
    let gives = c.into_iter-xid-iterator.ensures.into_iter_gives in
    All-turn deref_pair (λ (t : ℕ × OpenTransaction). tree.get nat_cmp c.args.self.now.transactions t.0 ≡ Some t.1) _ _ _ _ _ _ _ gives.6 gives.0 c.loop-xid.yielded_by
    c.in-Some.is c.next.ensures.steps

pub returns-then-not-is_settled_at-clause-unsettled : goal.returns-then-not-is_settled_at-clause-unsettled
returns-then-not-is_settled_at-clause-unsettled c = c.if-not-is_settled_at.ensures.unsettled

pub loop-xid-preserved : goal.loop-xid-preserved
loop-xid-preserved c =
    one_less (IsSettledAt c.args.self.now c.args.sent.now) c.args.self.now.transactions.entries c.loop-xid.xid-iterator c.loop-xid.invariant
    (c.in-Some.xid.now, c.in-Some.transaction.now) c.next.new.self c.in-Some.ensures.steps (c.if-not-is_settled_at.ensures.settled refl)

pub returns-clause-settled : goal.returns-clause-settled
returns-clause-settled c = λ yes w tied.
    settled w c.args.self.now tied c.into_iter-xid-iterator.ensures.into_iter_gives.5 c.args.sent.now
    (none_less (IsSettledAt c.args.self.now c.args.sent.now) c.args.self.now.transactions.entries c.loop-xid.xid-iterator c.loop-xid.invariant c.in-None.ensures.steps.0)
