-- A list of entries in the order of their keys is the list of the finite map that it makes.
use Rattle.std.specs.Prelude.{◌≡◌, List, T}
use Rattle.std.proofs.Common.{sym, ◌∙◌, ap}
use Rattle.std.specs.Cmp.{IsTotalOrder}
use Rattle.std.specs.FinMap.{entries, from_entries, from_sorted, is_sorted, get-from_entries, get-from_sorted, entries-from_sorted, same_map, IsAntisymmetric}
use Rattle.std.specs.declared.cmp.Ordering.{Ordering}

pub entries-from_entries : {K X : Type 0} {R : K → K → Ordering} → IsTotalOrder R → IsAntisymmetric R → (es : List (K × X)) → T (is_sorted R es) → entries (from_entries {R = R} es) ≡ es
entries-from_entries {R = R} o same es h =
    ap entries (same_map o same (from_entries es) (from_sorted es) (λ q. get-from_entries o es q ∙ sym (get-from_sorted R es q h))) ∙ entries-from_sorted R es h
