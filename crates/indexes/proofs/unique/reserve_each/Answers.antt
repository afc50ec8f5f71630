use Rattle.indexes.specs.Unique.{KeepsSlots}
use Rattle.indexes.proofs.Steps.{whole_step}
use Rattle.indexes.proofs.unique.reserve_each.Goals as goal

pub returns-clause-kept : goal.returns-clause-kept
returns-clause-kept c = whole_step KeepsSlots c.args.uniques.now _ c.reserve_all.new.uniques c.as_mut_slice.ensures.value c.reserve_all.ensures.kept
