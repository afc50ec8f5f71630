use Rattle.std.specs.Prelude.{◌<◌, length}
use Rattle.std.proofs.Common.{arith}
use Rattle.indexes.specs.Unique.{KeepsSlots}
use Rattle.indexes.proofs.Steps.{done_more, left_more, all_kept}
use Rattle.indexes.proofs.unique.make_room_in_all.Goals as goal

pub loop-unique-preserved : goal.loop-unique-preserved
loop-unique-preserved c =
    let inv = c.loop-unique.invariant in
    let within : c.loop-unique.unique-index < length c.loop-unique.uniques = omega arith in
    record {
      done = done_more KeepsSlots c.args.uniques.now c.loop-unique.uniques c.loop-unique.unique-index within inv.left c.unique-item.result c.make_room.new.self inv.done c.make_room.ensures;
      left = left_more KeepsSlots c.args.uniques.now c.loop-unique.uniques c.loop-unique.unique-index within inv.left c.unique-item.result c.make_room.new.self;
    }

pub returns-in_err-make_room : goal.returns-in_err-make_room
returns-in_err-make_room c =
    let inv = c.loop-unique.invariant in
    let within : c.loop-unique.unique-index < length c.loop-unique.uniques = omega arith in
    all_kept c.args.uniques.now c.loop-unique.uniques c.loop-unique.unique-index within inv.left c.unique-item.result c.make_room.new.self inv.done c.make_room.ensures (let same = c.loop-unique.auto.uniques in same)
