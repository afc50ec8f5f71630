use Rattle.std.proofs.Common.{sym, ap, ◌∙◌}
use Rattle.model.specs.declared.change.Change.TheVariants.{Wipe}
use Rattle.model.specs.Footprint.{footprint}
use Rattle.change.proofs.footprint.footprint.Goals as goal

pub returns-in-Put : goal.returns-in-Put
unfolding footprint
returns-in-Put c = rw c.in-Put.is c.put_cells.ensures

pub returns-in-Set : goal.returns-in-Set
unfolding footprint
returns-in-Set c = rw c.in-Set.is (rw c.get.ensures at c.set_cells.ensures)

pub returns-in-Remove : goal.returns-in-Remove
unfolding footprint
returns-in-Remove c = rw c.in-Remove.is (rw c.get-in-Remove.ensures at c.remove_cells.ensures)

pub returns-in-Wipe : goal.returns-in-Wipe
unfolding footprint
returns-in-Wipe c = rw (c.in-Wipe.is ∙ ap Wipe (sym c.ids.ensures)) c.wipe_cells.ensures
