use Rattle.std.proofs.Common.{◌∙◌}
use Rattle.std.proofs.lemmas.Result.{IfOk-weaker}
use Rattle.indexes.proofs.Seen as seen
use Rattle.indexes.proofs.tables.Tables.replace.Goals as goal

pub invariant_of-self : goal.invariant_of-self
invariant_of-self c = seen.sound_with c.self.inside.tables.items _ c.self.view_is _ c.requires.known _ c.index_mut-table.ensures.value c.replace.new.self c.self.invariant c.replace.ensures.sound

pub replace-requires : goal.replace-requires
replace-requires c =
    seen.may_replace c.self.inside.tables.items _ c.self.view_is _ c.requires.known _ c.index_mut-table.ensures.value c.args.key.now c.args.row c.args.new_key
    c.requires.there c.requires.own_key c.requires.free c.requires.unique

pub returns : goal.returns
returns c =
    let told = c.replace.ensures in
    let tried = seen.tried_replace c.self.inside.tables.items _ c.self.view_is _ c.requires.known _ c.index_mut-table.ensures.value c.replace.new.self c.replace.result
    c.args.row c.args.key.now c.args.new_key told.keys told.ok told.err told.kept told.room in
    record {
      schema = tried.schema;
      ok = tried.ok;
      stood = IfOk-weaker c.replace.result _ _ (λ stood e. seen.seen_get c.self.inside.tables.items _ c.self.view_is _ c.requires.known _ c.index_mut-table.ensures.value c.args.key.now ∙ e) told.stood;
      err = tried.err;
      kept = tried.kept;
      room = tried.room;
    }
