use Rattle.indexes.specs.Unique.{KeepsSlots}
use Rattle.indexes.proofs.Steps.{whole_step}
use Rattle.indexes.proofs.unique.make_room_in_each.Goals as goal

pub returns : goal.returns
returns c = whole_step KeepsSlots c.args.uniques.now _ c.make_room_in_all.new.uniques c.as_mut_slice.ensures.value c.make_room_in_all.ensures
