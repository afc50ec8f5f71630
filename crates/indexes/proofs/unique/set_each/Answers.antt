use Rattle.indexes.specs.Unique.{Sets}
use Rattle.indexes.proofs.Steps.{whole_step}
use Rattle.indexes.proofs.unique.set_each.Goals as goal

pub returns : goal.returns
returns c = whole_step (Sets c.args.row.now c.args.number) c.args.uniques.now _ c.set_all.new.uniques c.as_mut_slice.ensures.value c.set_all.ensures
