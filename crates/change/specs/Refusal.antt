-- A change clashes as its refusal says.
use Rattle.std.specs.Prelude.{◌≡◌}
use Rattle.model.specs.Rows.{Schema, Rows}
use Rattle.model.specs.Effect.{Clashes, NullKey, Unique, outcome}
use Rattle.model.specs.declared.change.Change.{Change}
use Rattle.change.specs.declared.outcome.Clash.{Clash}
use Rattle.change.specs.declared.outcome.Clash.TheVariants.{Unique as UniqueClash, NullKey as NullKeyClash, OutOfMemory}

-- the change clashes so; or memory was refused
abbrev pub ClashesAs : Schema → Rows → Change → Clash → Type 0
ClashesAs schema rows c (UniqueClash table key) = outcome schema rows c ≡ Clashes (Unique table key)
ClashesAs schema rows c (NullKeyClash table) = outcome schema rows c ≡ Clashes (NullKey table)
ClashesAs schema rows c OutOfMemory = Unit {0}
