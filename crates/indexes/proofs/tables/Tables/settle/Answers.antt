use Rattle.indexes.proofs.Seen as seen
use Rattle.indexes.proofs.Emptied.{left_settled}
use Rattle.indexes.proofs.tables.Tables.settle.Goals as goal

pub invariant_of-self : goal.invariant_of-self
invariant_of-self c = seen.sound_with c.self.inside.tables.items _ c.self.view_is _ c.requires _ c.index_mut-table.ensures.value c.settle.new.self c.self.invariant c.settle.ensures.sound

pub returns : goal.returns
returns c =
    let told = c.settle.ensures in
    left_settled c.self.inside.tables.items _ c.self.view_is _ c.requires _ c.index_mut-table.ensures.value c.settle.new.self c.self.invariant
    c.args.key.now c.args.row.now told.gone told.keys told.rows told.fewer told.others
