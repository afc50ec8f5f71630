-- What an answer tells of the keys of a row that was to come into its table.
use Rattle.std.specs.Prelude.{◌≡◌, ℕ, Option, Some, None, Result, Ok, Err}
use Rattle.indexes.specs.declared.refused.Refused.{Refused}
use Rattle.indexes.specs.declared.refused.Refused.TheVariants.{Taken, OutOfMemory}

-- it is done where no key is taken, and refused for the least that is; a want of memory tells nothing
abbrev pub Tells : {T : Type 0} → Option ℕ → Result T Refused → Type 0
Tells taken (Ok done) = taken ≡ None
Tells taken (Err (Taken key)) = taken ≡ Some key
Tells taken (Err OutOfMemory) = Unit {0}
