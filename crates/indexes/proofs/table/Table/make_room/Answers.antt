use Rattle.indexes.proofs.Tabling.{left_widened, itself}
use Rattle.indexes.proofs.table.Table.make_room.Goals as goal

pub returns-in_err-make_room : goal.returns-in_err-make_room
returns-in_err-make_room c =
    left_widened c.self.inside.primary.items c.self.inside.rows c.make_room.new.self c.self.inside.uniques.items c.self.inside.uniques.items _ c.self.view_is
    c.make_room.ensures (itself c.self.inside.uniques.items) c.self.invariant

pub returns : goal.returns
returns c =
    left_widened c.self.inside.primary.items c.self.inside.rows c.make_room.new.self c.self.inside.uniques.items c.make_room_in_each.new.uniques.items _ c.self.view_is
    c.make_room.ensures c.make_room_in_each.ensures c.self.invariant
