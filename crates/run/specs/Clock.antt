-- What a clock tells of the times that it gives.
use Rattle.std.specs.Prelude.{◌≡◌, ℤ, List, ◌++◌, Option, Some, None}

-- times that were told grow by these
abbrev pub Ticks : Option (List ℤ) → Option (List ℤ) → List ℤ → Type 0
Ticks None new times = Unit {0}
Ticks (Some old) None times = ⊥
Ticks (Some old) (Some new) times = new ≡ old ++ times
