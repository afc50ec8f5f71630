use Rattle.std.specs.Prelude.{None}
use Rattle.std.proofs.Common.{ap, slice_index_or}
use Rattle.rows.proofs.HashedSlots.{none_found}
use Rattle.rows.proofs.hashed.HashedRows.with_hasher.Goals as goal

pub invariant_of-result : goal.invariant_of-result
invariant_of-result g c =
    none_found c.with_hasher.result c.new.result c.new-2.result c.with_hasher.ensures.empty c.new.ensures (λ n. ap (λ xs. slice_index_or xs n None) c.new-2.ensures.empty)
