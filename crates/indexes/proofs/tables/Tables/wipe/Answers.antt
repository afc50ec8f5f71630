use Rattle.std.proofs.Common.{sym, ◌∙◌, ap, subst}
use Rattle.std.specs.List.{Contains}
use Rattle.std.specs.FinMap.{get, get-empty}
use Rattle.std.proofs.lemmas.Result.{on_ok_weaker, IfOk-weaker}
use Rattle.model.specs.declared.row.Row.{Row}
use Rattle.model.specs.Key.{key_cmp}
use Rattle.indexes.specs.Table.{TableContent, cells_in}
use Rattle.indexes.proofs.Seen as seen
use Rattle.indexes.proofs.tables.Tables.wipe.Goals as goal

pub invariant_of-self : goal.invariant_of-self
invariant_of-self c =
    seen.sound_with c.self.inside.tables.items _ c.self.view_is _ c.requires _ c.index_mut-table.ensures.value c.wipe.new.self c.self.invariant c.wipe.ensures.sound

pub returns-clause-schema : goal.returns-clause-schema
returns-clause-schema c =
    seen.schema_stays c.self.inside.tables.items _ c.self.view_is _ c.requires _ c.index_mut-table.ensures.value c.wipe.new.self c.wipe.ensures.keys

pub returns-clause-empty : goal.returns-clause-empty
returns-clause-empty c =
    on_ok_weaker c.wipe.result (λ e key. seen.new_get c.self.inside.tables.items _ c.self.view_is _ c.requires _ c.index_mut-table.ensures.value c.wipe.new.self key ∙ ap (λ m. get m key) e ∙ get-empty {X = Row} key_cmp key) c.wipe.ensures.empty

pub returns-clause-elsewhere : goal.returns-clause-elsewhere
returns-clause-elsewhere c =
    seen.elsewhere c.self.inside.tables.items _ c.self.view_is _ c.requires _ c.index_mut-table.ensures.value c.wipe.new.self

pub returns-clause-room_elsewhere : goal.returns-clause-room_elsewhere
returns-clause-room_elsewhere c =
    seen.same_room_elsewhere c.self.inside.tables.items _ c.self.view_is _ c.requires _ c.index_mut-table.ensures.value c.wipe.new.self

pub returns-clause-keys : goal.returns-clause-keys
returns-clause-keys c =
    IfOk-weaker c.wipe.result _ _ (λ contents e. ap (λ (s : TableContent). s.keys) e ∙ sym (seen.seen_keys c.self.inside.tables.items _ c.self.view_is _ c.requires _ c.index_mut-table.ensures.value)) c.wipe.ensures.out

pub returns-clause-out : goal.returns-clause-out
returns-clause-out c =
    IfOk-weaker c.wipe.result _ _ (λ contents e key. seen.seen_get c.self.inside.tables.items _ c.self.view_is _ c.requires _ c.index_mut-table.ensures.value key ∙ ap (λ (s : TableContent). get s.rows key) (sym e)) c.wipe.ensures.out

pub returns-clause-room_out : goal.returns-clause-room_out
returns-clause-room_out c =
    IfOk-weaker c.wipe.result _ _ (λ contents e cell is has. subst (λ (s : TableContent). Contains (cells_in c.args.table s) cell) (sym e) (seen.out_room c.self.inside.tables.items _ c.self.view_is _ c.requires _ c.index_mut-table.ensures.value cell is has)) c.wipe.ensures.out
