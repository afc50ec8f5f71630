use Rattle.std.specs.Prelude.{◌<◌, length}
use Rattle.std.proofs.Common.{arith}
use Rattle.indexes.specs.Unique.{Sets}
use Rattle.indexes.proofs.Steps.{done_more, left_more}
use Rattle.indexes.proofs.unique.set_all.Goals as goal

pub loop-unique-preserved : goal.loop-unique-preserved
loop-unique-preserved c =
    let inv = c.loop-unique.invariant in
    let within : c.loop-unique.unique-index < length c.loop-unique.uniques = omega arith in
    record {
      done = done_more (Sets c.args.row.now c.args.number) c.args.uniques.now c.loop-unique.uniques c.loop-unique.unique-index within inv.left c.unique-item.result c.set.new.self inv.done c.set.ensures;
      left = left_more (Sets c.args.row.now c.args.number) c.args.uniques.now c.loop-unique.uniques c.loop-unique.unique-index within inv.left c.unique-item.result c.set.new.self;
    }
