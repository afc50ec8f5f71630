use Rattle.std.proofs.Common.{◌∙◌, ap}
use Rattle.std.specs.Prelude.{unwrap_or}
use Rattle.keyholds.proofs.Counting.{raised_count, raised_counted, first_count, first_counted}
use Rattle.keyholds.proofs.counts.Counts.add.Goals as goal

pub invariant_of-self : goal.invariant_of-self
invariant_of-self c = record {
  counted = raised_counted c.args.self.now.counts c.set_count.new.counts c.args.table c.args.xid c.unwrap_or-count.result
      (c.unwrap_or-count.ensures ∙ ap (λ o. unwrap_or o 0) (c.copied.ensures ∙ c.get.ensures.value))
      c.set_count.ensures c.args.self.now.counted;
}

pub invariant_of-self-else-count-gt0 : goal.invariant_of-self-else-count-gt0
invariant_of-self-else-count-gt0 c = record {
  counted = first_counted c.args.self.now.counts c.insert.new.self c.args.table c.args.xid
      c.insert.result c.insert.ensures.updates c.insert.ensures.err c.args.self.now.counted;
}

pub returns-then-count-gt0-clause-ok : goal.returns-then-count-gt0-clause-ok
returns-then-count-gt0-clause-ok c =
    raised_count c.args.self.now.counts c.set_count.new.counts c.args.table c.args.xid c.unwrap_or-count.result
    (c.unwrap_or-count.ensures ∙ ap (λ o. unwrap_or o 0) (c.copied.ensures ∙ c.get.ensures.value))
    c.set_count.ensures

pub returns-in_ok-insert-clause-ok : goal.returns-in_ok-insert-clause-ok
returns-in_ok-insert-clause-ok c =
    first_count c.args.self.now.counts c.insert.new.self c.args.table c.args.xid c.unwrap_or-count.result
    (c.unwrap_or-count.ensures ∙ ap (λ o. unwrap_or o 0) (c.copied.ensures ∙ c.get.ensures.value))
    c.if-count-gt0.false c.in_ok-insert.ensures.updates
