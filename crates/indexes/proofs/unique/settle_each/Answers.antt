use Rattle.indexes.specs.Unique.{Settles}
use Rattle.indexes.proofs.Steps.{whole_step}
use Rattle.indexes.proofs.unique.settle_each.Goals as goal

pub returns : goal.returns
returns c = whole_step (Settles c.args.row.now) c.args.uniques.now _ c.settle_all.new.uniques c.as_mut_slice.ensures.value c.settle_all.ensures
