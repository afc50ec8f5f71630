use Rattle.wire_tests.proofs.tests.framing.take_kept.Goals as goal

pub loop-item-preserved : goal.loop-item-preserved
loop-item-preserved c = record {
  ending = cc;
  read = λ fed h. rw c.in_ok-push.ensures.items (c.in-Some.ensures.read fed c.loop-item.items.items (c.loop-item.invariant.read fed h));
}

pub returns-clause-read : goal.returns-clause-read
returns-clause-read c = λ fed h. rw c.in_default.ensures.none.1 (c.loop-item.invariant.read fed h)
