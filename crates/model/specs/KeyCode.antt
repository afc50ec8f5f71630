-- The values of a key, whichever way they lie.
use Rattle.std.specs.Prelude.{List, [], ◌∷◌}
use Rattle.std.specs.Arc.{arc_value, arc_slice_items}
use Rattle.model.specs.declared.value.Value.{Value}
use Rattle.model.specs.declared.value.Value.TheVariants as values
use Rattle.model.specs.declared.key.Values.{Values}
use Rattle.model.specs.declared.key.Values.TheVariants.{Int, One, Many}
use Rattle.model.specs.declared.key.KeyValues.{KeyValues}
use Rattle.model.specs.declared.key.KeyValues.TheVariants.{Int as Lone, List as Listed}

-- the values of a key, however it keeps them: one integer, one value, or a list
abbrev pub values_in : Values → List Value
values_in (Int number) = values.Int number ∷ []
values_in (One value) = arc_value value ∷ []
values_in (Many values) = arc_slice_items values

-- as they are read
abbrev pub values_lent : KeyValues → List Value
values_lent (Lone number) = values.Int number ∷ []
values_lent (Listed values) = values.now
