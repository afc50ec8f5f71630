use Rattle.indexes.proofs.Seen as seen
use Rattle.indexes.proofs.tables.Tables.put_back.Goals as goal

pub invariant_of-self : goal.invariant_of-self
invariant_of-self c = seen.sound_with c.self.inside.tables.items _ c.self.view_is _ c.requires.known _ c.index_mut-table.ensures.value c.put_back.new.self c.self.invariant c.put_back.ensures.sound

pub put_back-requires : goal.put_back-requires
put_back-requires c =
    let may = seen.may_come c.self.inside.tables.items _ c.self.view_is _ c.requires.known _ c.index_mut-table.ensures.value c.args.row c.args.key.now c.requires.own_key c.requires.free c.requires.unique in
    let room = seen.own_room c.self.inside.tables.items _ c.self.view_is _ c.requires.known _ c.index_mut-table.ensures.value c.args.row c.requires.room in
    record { own_key = may.own_key; free = may.free; unique = may.unique; room = room }

pub returns : goal.returns
returns c =
    seen.left_put c.self.inside.tables.items _ c.self.view_is _ c.requires.known _ c.index_mut-table.ensures.value c.put_back.new.self c.args.key.now c.args.row
    c.put_back.ensures.keys c.put_back.ensures.rows c.put_back.ensures.kept
