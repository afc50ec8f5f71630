-- The order of keys: by their first values that differ.
use Rattle.std.specs.Prelude.{List}
use Rattle.std.specs.Cmp.{IsTotalOrder}
use Rattle.std.specs.Cmp.Lexicographic.{slice_cmp}
use Rattle.std.proofs.lemmas.Cmp.{lists_total}
use Rattle.std.specs.declared.cmp.Ordering.{Ordering}
use Rattle.model.specs.declared.value.Value.{Value}
use Rattle.model.specs.Value.{value_cmp, value_cmp_total}

-- the order of keys: by their first values that differ; a key comes before the longer ones it begins
abbrev pub key_cmp : List Value → List Value → Ordering
key_cmp = slice_cmp value_cmp

pub key_cmp_total : IsTotalOrder key_cmp
key_cmp_total = lists_total value_cmp_total
