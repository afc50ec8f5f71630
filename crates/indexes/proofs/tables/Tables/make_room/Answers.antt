use Rattle.indexes.proofs.Seen as seen
use Rattle.indexes.proofs.tables.Tables.make_room.Goals as goal

pub invariant_of-self : goal.invariant_of-self
invariant_of-self c = seen.sound_with c.self.inside.tables.items _ c.self.view_is _ c.requires _ c.index_mut-table.ensures.value c.make_room.new.self c.self.invariant c.make_room.ensures.sound

pub returns : goal.returns
returns c =
    seen.left_same c.self.inside.tables.items _ c.self.view_is _ c.requires _ c.index_mut-table.ensures.value c.make_room.new.self
    c.make_room.ensures.keys c.make_room.ensures.rows c.make_room.ensures.kept
