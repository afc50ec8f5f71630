use Rattle.indexes.proofs.Seen as seen
use Rattle.indexes.proofs.tables.Tables.put.Goals as goal

pub invariant_of-self : goal.invariant_of-self
invariant_of-self c = seen.sound_with c.self.inside.tables.items _ c.self.view_is _ c.requires.known _ c.index_mut-table.ensures.value c.put.new.self c.self.invariant c.put.ensures.sound

pub put-requires : goal.put-requires
put-requires c = seen.own_key c.self.inside.tables.items _ c.self.view_is _ c.requires.known _ c.index_mut-table.ensures.value c.args.row c.args.key c.requires.own_key

pub returns : goal.returns
returns c =
    let told = c.put.ensures in
    let tried = seen.tried_put c.self.inside.tables.items _ c.self.view_is _ c.requires.known _ c.index_mut-table.ensures.value c.put.new.self c.put.result
    c.args.row c.args.key told.keys told.ok told.err told.kept told.room in
    record {
      schema = tried.schema;
      ok = tried.ok;
      err = tried.err;
      told = seen.told_taken c.self.inside.tables.items _ c.self.view_is _ c.requires.known _ c.index_mut-table.ensures.value c.args.key c.args.row c.put.result told.told;
      kept = tried.kept;
      room = tried.room;
    }
