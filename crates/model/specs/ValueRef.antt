-- A value as it is read is the value that is kept.
use Rattle.model.specs.declared.value.Value.{Value}
use Rattle.model.specs.declared.value.Value.TheVariants.{Int, Text, Bool}
use Rattle.model.specs.declared.value_ref.ValueRef.{ValueRef}
use Rattle.model.specs.declared.value_ref.ValueRef.TheVariants.{Int as IntRef, Text as TextRef, Bool as BoolRef}

-- the value that is kept, as it is read
abbrev pub read_value : ValueRef → Value
read_value (IntRef n) = Int n
read_value (TextRef t) = Text t.now
read_value (BoolRef b) = Bool b
