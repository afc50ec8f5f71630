use Rattle.std.specs.Prelude.{refl}
use Rattle.std.proofs.Common.{subst}
use Rattle.indexes.specs.Table.{IsSound}
use Rattle.indexes.specs.Indexed.{columns_of}
use Rattle.indexes.proofs.Tabling.{sound}
use Rattle.indexes.proofs.table.Table.recall_invariant.Goals as goal

pub returns : goal.returns
returns c =
    let a = c.self.inside in
    subst IsSound c.self.view_is (sound (record { primary = a.primary.items; uniques = columns_of a.uniques.items }) a.rows a.uniques.items refl c.self.invariant)
