-- A mapping fits the catalog that it was resolved in, and a planned change fits its mapping.
use Rattle.std.specs.Prelude.{◌≡◌, ◌<◌, List, length, Some, slice_get}
use Rattle.model.specs.Definition.{Definition}
use Rattle.model.specs.declared.change.Change.{Change}
use Rattle.model.specs.declared.change.Change.TheVariants.{Put, Set, Remove, Wipe}
use Rattle.relcache.specs.Mapping.{Mapped}

-- the mapping's table is in the catalog, and each of its columns has a source
pub record FitsCatalog (definitions : List Definition) (m : Mapped) : Type 0 where
  pub known : m.table < length definitions
  pub definition : Definition
  pub in_catalog : slice_get definitions m.table ≡ Some definition
  pub width : length m.columns ≡ length definition.columns

-- the change is of the mapping's table, and says something of each of its columns
abbrev pub FitsMapping : Mapped → Change → Type 0
FitsMapping m (Put table row) = (table ≡ m.table) × (length row ≡ length m.columns)
FitsMapping m (Set table key patch) = (table ≡ m.table) × (length patch ≡ length m.columns)
FitsMapping m (Remove table key) = table ≡ m.table
FitsMapping m (Wipe tables) = ⊥
