use Rattle.std.proofs.Common.{sym, ◌∙◌, ap, subst}
use Rattle.std.specs.Prelude.{slice_set}
use Rattle.std.specs.FinMap.{get}
use Rattle.indexes.specs.Table.{TableContent, cells_in}
use Rattle.indexes.specs.Content.{KeepsCells}
use Rattle.indexes.specs.Gathered.{cells_from}
use Rattle.indexes.proofs.Seen as seen
use Rattle.indexes.proofs.tables.Tables.unwipe.Goals as goal

pub unwipe-requires-clause-keys : goal.unwipe-requires-clause-keys
unwipe-requires-clause-keys c =
    c.requires.keys ∙ seen.seen_keys c.self.inside.tables.items _ c.self.view_is _ c.requires.known _ c.index_mut-table.ensures.value

pub unwipe-requires-clause-empty : goal.unwipe-requires-clause-empty
unwipe-requires-clause-empty c =
    λ key. sym (seen.seen_get c.self.inside.tables.items _ c.self.view_is _ c.requires.known _ c.index_mut-table.ensures.value key) ∙ c.requires.empty key

pub invariant_of-self : goal.invariant_of-self
invariant_of-self c =
    seen.sound_with c.self.inside.tables.items _ c.self.view_is _ c.requires.known _ c.index_mut-table.ensures.value c.unwipe.new.self c.self.invariant c.unwipe.ensures.sound

pub returns-clause-schema : goal.returns-clause-schema
returns-clause-schema c =
    seen.schema_stays c.self.inside.tables.items _ c.self.view_is _ c.requires.known _ c.index_mut-table.ensures.value c.unwipe.new.self (ap (λ (s : TableContent). s.keys) c.unwipe.ensures.back ∙ c.requires.keys ∙ seen.seen_keys c.self.inside.tables.items _ c.self.view_is _ c.requires.known _ c.index_mut-table.ensures.value)

pub returns-clause-rows : goal.returns-clause-rows
returns-clause-rows c =
    λ key. seen.new_get c.self.inside.tables.items _ c.self.view_is _ c.requires.known _ c.index_mut-table.ensures.value c.unwipe.new.self key ∙ ap (λ (s : TableContent). get s.rows key) c.unwipe.ensures.back

pub returns-clause-elsewhere : goal.returns-clause-elsewhere
returns-clause-elsewhere c =
    seen.elsewhere c.self.inside.tables.items _ c.self.view_is _ c.requires.known _ c.index_mut-table.ensures.value c.unwipe.new.self

pub returns-clause-room : goal.returns-clause-room
returns-clause-room c =
    subst (λ (s : TableContent). KeepsCells (cells_in c.args.table s) (cells_from 0 (slice_set c.self.inside.tables.items c.args.table c.unwipe.new.self))) c.unwipe.ensures.back (seen.new_room c.self.inside.tables.items _ c.self.view_is _ c.requires.known _ c.index_mut-table.ensures.value c.unwipe.new.self)

pub returns-clause-room_elsewhere : goal.returns-clause-room_elsewhere
returns-clause-room_elsewhere c =
    seen.same_room_elsewhere c.self.inside.tables.items _ c.self.view_is _ c.requires.known _ c.index_mut-table.ensures.value c.unwipe.new.self
