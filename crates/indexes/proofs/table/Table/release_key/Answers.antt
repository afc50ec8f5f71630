use Rattle.std.specs.Prelude.{refl}
use Rattle.std.proofs.Common.{subst}
use Rattle.indexes.specs.Table.{TableContent, ReleasesSpot}
use Rattle.indexes.specs.Indexed.{columns_of}
use Rattle.indexes.proofs.Copying.{seen_as}
use Rattle.indexes.proofs.Released.{indexed_without_slot, slot_released}
use Rattle.indexes.proofs.Tabling.{sound}
use Rattle.indexes.proofs.table.Table.release_key.Goals as goal

pub invariant_of-self : goal.invariant_of-self
invariant_of-self c =
    indexed_without_slot c.self.inside.primary.items c.self.inside.rows c.settle.new.self c.self.inside.uniques.items c.args.key.now c.self.invariant c.settle.ensures.rows c.settle.ensures.slots

pub returns-clause-released : goal.returns-clause-released
returns-clause-released c =
    subst (λ (t : TableContent). ReleasesSpot t (seen_as c.self.inside.primary.items c.settle.new.self c.self.inside.uniques.items) (0, c.args.key.now)) c.self.view_is
    (slot_released c.self.inside.primary.items c.self.inside.rows c.settle.new.self c.self.inside.uniques.items c.args.key.now c.self.invariant c.settle.ensures.rows c.settle.ensures.slots)

pub returns-clause-sound : goal.returns-clause-sound
returns-clause-sound c =
    sound (record { primary = c.self.inside.primary.items; uniques = columns_of c.self.inside.uniques.items }) c.settle.new.self c.self.inside.uniques.items refl (invariant_of-self c)
