use Rattle.indexes.proofs.Seen as seen
use Rattle.indexes.proofs.tables.Tables.replace_back.Goals as goal

pub invariant_of-self : goal.invariant_of-self
invariant_of-self c = seen.sound_with c.self.inside.tables.items _ c.self.view_is _ c.requires.known _ c.index_mut-table.ensures.value c.replace_back.new.self c.self.invariant c.replace_back.ensures.sound

pub replace_back-requires : goal.replace_back-requires
replace_back-requires c =
    let may = seen.may_replace c.self.inside.tables.items _ c.self.view_is _ c.requires.known _ c.index_mut-table.ensures.value c.args.new_key.now c.args.row c.args.key
    c.requires.there c.requires.own_key c.requires.free c.requires.unique in
    let room = seen.own_room c.self.inside.tables.items _ c.self.view_is _ c.requires.known _ c.index_mut-table.ensures.value c.args.row c.requires.room in
    record { there = may.there; own_key = may.own_key; free = may.free; unique = may.unique; room = room }

pub returns : goal.returns
returns c =
    seen.left_replace c.self.inside.tables.items _ c.self.view_is _ c.requires.known _ c.index_mut-table.ensures.value c.replace_back.new.self
    c.args.new_key.now c.args.key c.args.row c.replace_back.ensures.keys c.replace_back.ensures.rows c.replace_back.ensures.kept
