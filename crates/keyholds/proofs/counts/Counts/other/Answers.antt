use Rattle.std.specs.Map.Iter.{deref_pair}
use Rattle.keyholds.proofs.Counting.{by_side, none_below, none_above, none_past, ended}
use Rattle.keyholds.proofs.counts.Counts.other.Goals as goal

pub returns-in_default-next-clause-none : goal.returns-in_default-next-clause-none
returns-in_default-next-clause-none c =
    by_side c.args.self.now.counts c.args.table c.args.xid
    (none_below c.args.self.now.counts c.args.table c.args.xid ((c.range.ensures.in_range tt).5 c.in_default.ensures.steps.0))
    (none_past c.args.self.now.counts c.args.table c.args.xid c.range-2.result (c.range-2.ensures.in_range tt) c.in-Some-next.field-0-0.now c.in-Some-next.field-0-1.now c.next-2.new.self c.in-Some-next.ensures.steps c.if-found-table.false)

pub returns-in_default-next-2-clause-none : goal.returns-in_default-next-2-clause-none
returns-in_default-next-2-clause-none c =
    by_side c.args.self.now.counts c.args.table c.args.xid
    (none_below c.args.self.now.counts c.args.table c.args.xid ((c.range.ensures.in_range tt).5 c.in_default.ensures.steps.0))
    (none_above c.args.self.now.counts c.args.table c.args.xid ((c.range-2.ensures.in_range tt).5 (ended deref_pair c.next-2.result c.range-2.result c.next-2.new.self c.in_default-next.is c.next-2.ensures.steps)))
