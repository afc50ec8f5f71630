-- The tables that a change names.
use Rattle.std.specs.Prelude.{ℕ, ◌<◌, All}
use Rattle.model.specs.declared.change.Change.{Change}
use Rattle.model.specs.declared.change.Change.TheVariants.{Put, Set, Remove, Wipe}

-- The tables that the change names are among the first so many.
abbrev pub NamesTables : ℕ → Change → Type 0
NamesTables count (Put table row) = table < count
NamesTables count (Set table key patch) = table < count
NamesTables count (Remove table key) = table < count
NamesTables count (Wipe tables) = All (λ table. table < count) tables
