-- What is known of the rows of a table, key by key, and what goes beneath it.
--     known_at      what is known at a key: a row, or that none stands there
--     IsLaidUnder      edits go beneath what is known
use Rattle.std.specs.Prelude.{◌≡◌, ℕ, Option}
use Rattle.std.specs.BTreeMap as tree
use Rattle.std.specs.BTreeMap.{BTreeMap}
use Rattle.std.specs.FinMap.{get}
use Rattle.model.specs.declared.key.Key.{Key}
use Rattle.model.specs.declared.row.Row.{Row}
use Rattle.model.specs.Key.{key_cmp}
use Rattle.model.specs.Effect.{Edits}
use Rattle.change.specs.Edits.{or_else}

-- what is known at a key: a row, or that none stands there
abbrev pub known_at : BTreeMap Key (Option Row) → Key → Option (Option Row)
known_at known key = tree.get key_cmp known key

-- What was known stays; at other keys of the table edits have the say, and where they have none nothing is known.
abbrev pub IsLaidUnder : BTreeMap Key (Option Row) → ℕ → Edits → BTreeMap Key (Option Row) → Type 0
IsLaidUnder old table edits new = (key : Key) → known_at new key ≡ or_else (known_at old key) (get edits (table, key))
