use Rattle.std.proofs.Common.{◌∙◌}
use Rattle.indexes.proofs.Seen as seen
use Rattle.indexes.proofs.tables.Tables.remove.Goals as goal

pub invariant_of-self : goal.invariant_of-self
invariant_of-self c = seen.sound_with c.self.inside.tables.items _ c.self.view_is _ c.requires.known _ c.index_mut-table.ensures.value c.remove.new.self c.self.invariant c.remove.ensures.sound

pub remove-requires : goal.remove-requires
remove-requires c = seen.there c.self.inside.tables.items _ c.self.view_is _ c.requires.known _ c.index_mut-table.ensures.value c.args.key.now c.requires.there

pub returns : goal.returns
returns c =
    let left = seen.left_remove c.self.inside.tables.items _ c.self.view_is _ c.requires.known _ c.index_mut-table.ensures.value c.remove.new.self c.args.key.now
    c.remove.ensures.keys c.remove.ensures.rows c.remove.ensures.kept in
    record {
      schema = left.schema;
      rows = left.rows;
      stood = seen.seen_get c.self.inside.tables.items _ c.self.view_is _ c.requires.known _ c.index_mut-table.ensures.value c.args.key.now ∙ c.remove.ensures.stood;
      kept = left.kept;
    }
