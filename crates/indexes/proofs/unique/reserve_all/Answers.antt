use Rattle.std.specs.Prelude.{◌<◌, length}
use Rattle.std.proofs.Common.{arith}
use Rattle.indexes.specs.Unique.{KeepsSlots, HasSlot}
use Rattle.indexes.proofs.Steps.{done_more, left_more, each_more, all_kept}
use Rattle.indexes.proofs.unique.reserve_all.Goals as goal

pub loop-unique-preserved : goal.loop-unique-preserved
loop-unique-preserved c =
    let inv = c.loop-unique.invariant in
    let within : c.loop-unique.unique-index < length c.loop-unique.uniques = omega arith in
    record {
      done = done_more KeepsSlots c.args.uniques.now c.loop-unique.uniques c.loop-unique.unique-index within inv.left c.unique-item.result c.reserve.new.self inv.done c.reserve.ensures.kept;
      made = each_more KeepsSlots c.args.uniques.now c.loop-unique.uniques c.loop-unique.unique-index within inv.left c.unique-item.result c.reserve.new.self (HasSlot c.args.row.now) inv.made c.in_ok-reserve.ensures.ok;
      left = left_more KeepsSlots c.args.uniques.now c.loop-unique.uniques c.loop-unique.unique-index within inv.left c.unique-item.result c.reserve.new.self;
    }

pub returns-in_err-reserve-clause-kept : goal.returns-in_err-reserve-clause-kept
returns-in_err-reserve-clause-kept c =
    let inv = c.loop-unique.invariant in
    let within : c.loop-unique.unique-index < length c.loop-unique.uniques = omega arith in
    all_kept c.args.uniques.now c.loop-unique.uniques c.loop-unique.unique-index within inv.left c.unique-item.result c.reserve.new.self inv.done c.reserve.ensures.kept (let same = c.loop-unique.auto.uniques in same)
