-- The limits that several layers keep.
use Rattle.std.specs.Prelude.{ℕ}

-- how many transactions can be open
abbrev pub most_open : ℕ
most_open = 4096
