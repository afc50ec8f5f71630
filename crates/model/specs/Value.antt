-- The order of values: by kind, then an int by its number, a text by its bytes, and false before true.
use Rattle.std.specs.Prelude.{ℕ}
use Rattle.std.specs.Ordering.{nat_cmp, int_cmp, on, then_cmp}
use Rattle.std.specs.Cmp.{IsTotalOrder, on_total, nat_cmp_total, int_cmp_total}
use Rattle.std.proofs.lemmas.Cmp.{then_total}
use Rattle.std.specs.declared.cmp.Ordering.{Ordering}
use Rattle.std.specs.Cmp.Lexicographic.{slice_cmp, nat_list_cmp_total}
use Rattle.model.specs.declared.value.Value.{Value}
use Rattle.model.specs.declared.value.Value.TheVariants.{Int, Text, Bool as Truth}
use Rattle.model.specs.Types.Int.{number_of}
use Rattle.model.specs.Types.Text.{text_of}
use Rattle.model.specs.Types.Boolean.{truth_of}

-- int, text, bool
abbrev pub kind_of : Value → ℕ
kind_of (Int n) = 0
kind_of (Text t) = 1
kind_of (Truth b) = 2

-- the order of values: by kind, then by number, bytes or truth
abbrev pub value_cmp : Value → Value → Ordering
value_cmp = then_cmp (on kind_of nat_cmp) (then_cmp (on number_of int_cmp) (then_cmp (on text_of (slice_cmp nat_cmp)) (on truth_of nat_cmp)))

pub value_cmp_total : IsTotalOrder value_cmp
value_cmp_total = then_total (on_total kind_of nat_cmp_total) (then_total (on_total number_of int_cmp_total) (then_total (on_total text_of nat_list_cmp_total) (on_total truth_of nat_cmp_total)))
