use Rattle.std.specs.Prelude.{refl}
use Rattle.std.proofs.Common.{sym, ◌∙◌, ap, subst}
use Rattle.rows.specs.Kept.{Kept}
use Rattle.indexes.specs.Indexed.{IsIndexed, columns_of, room_of}
use Rattle.indexes.proofs.Patterns.{no_room}
use Rattle.indexes.proofs.Tabling.{indexed_empty, sound}
use Rattle.indexes.proofs.table.Table.empty.Goals as goal

pub invariant_of-result : goal.invariant_of-result
invariant_of-result c =
    subst (λ (k : Kept). IsIndexed c.args.primary.items k c.args.uniques.items) (sym c.with_hasher.ensures) (indexed_empty c.args.primary.items c.args.uniques.items c.requires)

pub returns-clause-sound : goal.returns-clause-sound
returns-clause-sound c =
    sound (record { primary = c.args.primary.items; uniques = columns_of c.args.uniques.items }) c.with_hasher.result c.args.uniques.items refl (invariant_of-result c)

pub returns-clause-room : goal.returns-clause-room
returns-clause-room c = ap (λ (k : Kept). room_of k c.args.uniques.items) c.with_hasher.ensures ∙ no_room c.args.uniques.items c.requires
