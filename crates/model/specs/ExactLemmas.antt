-- The orders of values, keys and places tell them apart: those that tie are equal.
use Rattle.std.specs.Prelude.{◌≡◌, refl}
use Rattle.std.proofs.Common.{ap}
use Rattle.std.specs.Ordering.{nat_cmp, int_cmp, ordering_then}
use Rattle.std.specs.declared.cmp.Ordering.{Ordering}
use Rattle.std.specs.declared.cmp.Ordering.TheVariants.{Less, Equal, Greater}
use Rattle.std.specs.FinMap.{IsAntisymmetric, slice_cmp-IsAntisymmetric, nat_cmp-IsAntisymmetric, int_cmp-IsAntisymmetric}
use Rattle.std.specs.Cmp.Lexicographic.{slice_cmp}
use Rattle.std.proofs.lemmas.Map.Lookups.{exact_pairs}
use Rattle.model.specs.declared.value.Value.TheVariants.{Int, Text, Bool as Truth}
use Rattle.model.specs.Types.Boolean.{truth_exact}
use Rattle.model.specs.Value.{value_cmp}
use Rattle.model.specs.Key.{key_cmp}
use Rattle.model.specs.Rows.{place_cmp}

-- ---- values

-- Equal is what a comparison followed by an equal one gives only if it is Equal itself
first_equal : (o : Ordering) → ordering_then o Equal ≡ Equal → o ≡ Equal
first_equal Less e = e
first_equal Equal e = refl
first_equal Greater e = e

pub value_cmp_exact : IsAntisymmetric value_cmp
value_cmp_exact (Int n) (Int m) e = ap Int (int_cmp-IsAntisymmetric n m (first_equal (int_cmp n m) e))
value_cmp_exact (Text t) (Text u) e =
    ap Text (slice_cmp-IsAntisymmetric nat_cmp-IsAntisymmetric t u (first_equal (slice_cmp nat_cmp t u) e))
value_cmp_exact (Truth b) (Truth c) e = ap Truth (truth_exact b c e)
value_cmp_exact v w e = cc

-- ---- keys and places

pub key_cmp_exact : IsAntisymmetric key_cmp
key_cmp_exact = slice_cmp-IsAntisymmetric value_cmp_exact

pub place_cmp_exact : IsAntisymmetric place_cmp
place_cmp_exact = exact_pairs nat_cmp key_cmp nat_cmp-IsAntisymmetric key_cmp_exact
