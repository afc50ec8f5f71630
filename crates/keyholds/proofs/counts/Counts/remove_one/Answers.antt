use Rattle.std.proofs.Common.{◌∙◌, ap}
use Rattle.std.specs.Prelude.{unwrap_or}
use Rattle.keyholds.proofs.Counting.{lowered_count, lowered_counted, removed_count, removed_counted}
use Rattle.keyholds.proofs.counts.Counts.remove_one.Goals as goal

pub invariant_of-self : goal.invariant_of-self
invariant_of-self c = record {
  counted = lowered_counted c.args.self.now.counts c.set_count.new.counts c.args.table c.args.xid c.unwrap_or-count.result
      (c.unwrap_or-count.ensures ∙ ap (λ o. unwrap_or o 0) (c.copied.ensures ∙ c.get.ensures.value))
      c.if-count-gt1.true c.set_count.ensures c.args.self.now.counted;
}

pub invariant_of-self-else-count-gt1 : goal.invariant_of-self-else-count-gt1
invariant_of-self-else-count-gt1 c = record {
  counted = removed_counted c.args.self.now.counts c.remove.new.self c.args.table c.args.xid c.unwrap_or-count.result
      (c.unwrap_or-count.ensures ∙ ap (λ o. unwrap_or o 0) (c.copied.ensures ∙ c.get.ensures.value))
      c.remove.ensures.updates c.args.self.now.counted;
}

pub returns-then-count-gt1 : goal.returns-then-count-gt1
returns-then-count-gt1 c =
    lowered_count c.args.self.now.counts c.set_count.new.counts c.args.table c.args.xid c.unwrap_or-count.result
    (c.unwrap_or-count.ensures ∙ ap (λ o. unwrap_or o 0) (c.copied.ensures ∙ c.get.ensures.value))
    c.set_count.ensures

pub returns-else-count-gt1 : goal.returns-else-count-gt1
returns-else-count-gt1 c =
    removed_count c.args.self.now.counts c.remove.new.self c.args.table c.args.xid c.unwrap_or-count.result
    (c.unwrap_or-count.ensures ∙ ap (λ o. unwrap_or o 0) (c.copied.ensures ∙ c.get.ensures.value))
    c.if-count-gt1.false c.remove.ensures.updates
