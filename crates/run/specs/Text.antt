-- The text of positions in a report.
use Rattle.std.specs.Prelude.{ℕ, ◌/◌, ◌%◌, ◌^◌, true, List, ◌++◌, codes}
use Rattle.std.specs.Fmt.{digits}

-- the upper and the lower 32 bits in hexadecimal, without leading zeros
abbrev pub lsn_text : ℕ → List ℕ
lsn_text lsn = digits 16 true (lsn / 2 ^ 32) ++ codes "/" ++ digits 16 true (lsn % 2 ^ 32)
