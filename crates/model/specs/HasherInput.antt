-- What a hasher is fed of a key: each value in turn, so that equal keys are fed alike.
use Rattle.std.specs.Prelude.{◌≡◌, ℕ, ◌/◌, List, IsTrue}
use Rattle.std.proofs.Common.{ap}
use Rattle.std.specs.List.{flat_map}
use Rattle.std.specs.Hash as fed
use Rattle.std.specs.Int.{w64, cast_unsigned}
use Rattle.std.specs.Ordering.{eq_by_cmp}
use Rattle.std.proofs.lemmas.Map.Views.{tells_apart}
use Rattle.model.specs.declared.value.Value.{Value}
use Rattle.model.specs.declared.value.Value.TheVariants.{Int, Text, Bool}
use Rattle.model.specs.declared.key.Key.{Key}
use Rattle.model.specs.Key.{key_cmp}
use Rattle.model.specs.ExactLemmas.{key_cmp_exact}

-- of a value, what Rust's types feed; of an integer its quarter, so four neighbours are fed alike
abbrev pub value_writes : Value → List (List ℕ)
value_writes (Int n) = fed.u64 (cast_unsigned w64 n / 4)
value_writes (Text t) = fed.str t
value_writes (Bool b) = fed.bool b

-- of a key, its values in turn
abbrev pub key_writes : Key → List (List ℕ)
key_writes key = flat_map value_writes key

-- equal keys are fed alike
pub same_writes : (x y : Key) → IsTrue (eq_by_cmp key_cmp x y) → key_writes x ≡ key_writes y
same_writes x y e = ap (λ key. key_writes key) (tells_apart key_cmp_exact x y e)
