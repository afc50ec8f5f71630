use Rattle.model.specs.declared.cell.Cell.TheVariants.{Row}
use Rattle.keyholds.specs.Holds.{cells_held}
use Rattle.live_tables.specs.StopLemmas.{one_free, one_held}
use Rattle.live_tables.proofs.waits.place_holder.Goals as goal

pub returns-clause-held : goal.returns-clause-held
returns-clause-held c =
    one_held (cells_held c.args.holds.now) c.args.xid (Row c.args.table c.args.key.now) c.other_holder_of.result c.other_holder_of.ensures.held

pub returns-clause-free : goal.returns-clause-free
returns-clause-free c =
    one_free (cells_held c.args.holds.now) c.args.xid (Row c.args.table c.args.key.now) c.other_holder_of.result c.other_holder_of.ensures.free
