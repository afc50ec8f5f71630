-- The order of cells: that which Rust derives.
--     cell_cmp      the order; it is total, and cells that tie are equal
use Rattle.std.specs.Prelude.{◌≡◌, ℕ, refl}
use Rattle.std.proofs.Common.{ap}
use Rattle.std.specs.Ordering.{nat_cmp, ordering_then}
use Rattle.std.specs.Cmp.{IsTotalOrder}
use Rattle.std.specs.FinMap.{IsAntisymmetric, nat_cmp-IsAntisymmetric}
use Rattle.std.specs.declared.cmp.Ordering.{Ordering}
use Rattle.std.specs.declared.cmp.Ordering.TheVariants.{Less, Equal, Greater}
use Rattle.model.specs.declared.cell.Cell.{Cell}
use Rattle.model.specs.declared.cell.Cell.TheVariants.{Row, Uniq, Whole}
use Rattle.model.specs.contracts.cell.CellOrd.TheImpl as derived
use Rattle.model.specs.contracts.cell.CellOrd.TheImpl.Laws as laws
use Rattle.model.specs.Key.{key_cmp}
use Rattle.model.specs.ExactLemmas.{key_cmp_exact}

-- rows come before values of unique keys, and those before whole tables; then by table, number and key
abbrev pub cell_cmp : Cell → Cell → Ordering
cell_cmp = derived.ghosts.cmp

pub cell_cmp_total : IsTotalOrder cell_cmp
cell_cmp_total = laws.total-law

-- a comparison and the one behind it are Equal only together
first_equal : (first second : Ordering) → ordering_then first second ≡ Equal → first ≡ Equal
first_equal Less second e = cc
first_equal Equal second e = refl
first_equal Greater second e = cc

second_equal : (first second : Ordering) → ordering_then first second ≡ Equal → second ≡ Equal
second_equal Less second e = cc
second_equal Equal second e = e
second_equal Greater second e = cc

same_number : (n m : ℕ) (rest : Ordering) → ordering_then (nat_cmp n m) rest ≡ Equal → n ≡ m
same_number n m rest e = nat_cmp-IsAntisymmetric n m (first_equal (nat_cmp n m) rest e)

pub cell_cmp_exact : IsAntisymmetric cell_cmp
cell_cmp_exact (Row t k) (Row u l) e = λ i. Row (same_number t u (key_cmp k l) e i) (key_cmp_exact k l (second_equal (nat_cmp t u) (key_cmp k l) e) i)
cell_cmp_exact (Uniq t n k) (Uniq u m l) e =
    let rest = second_equal (nat_cmp t u) (ordering_then (nat_cmp n m) (key_cmp k l)) e in
    λ i. Uniq (same_number t u (ordering_then (nat_cmp n m) (key_cmp k l)) e i) (same_number n m (key_cmp k l) rest i) (key_cmp_exact k l (second_equal (nat_cmp n m) (key_cmp k l) rest) i)
cell_cmp_exact (Whole t) (Whole u) e = ap Whole (nat_cmp-IsAntisymmetric t u e)
cell_cmp_exact c d e = cc
