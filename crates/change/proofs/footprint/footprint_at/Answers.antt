use Rattle.std.proofs.Common.{sym, ap, ◌∙◌}
use Rattle.model.specs.declared.change.Change.TheVariants.{Wipe}
use Rattle.change.proofs.footprint.footprint_at.Goals as goal

pub returns-in-Put : goal.returns-in-Put
returns-in-Put c = rw c.in-Put.is c.put_cells.ensures

pub returns-in-Set : goal.returns-in-Set
returns-in-Set c = rw c.in-Set.is c.set_cells.ensures

pub returns-in-Remove : goal.returns-in-Remove
returns-in-Remove c = rw c.in-Remove.is c.remove_cells.ensures

pub returns-in-Wipe : goal.returns-in-Wipe
returns-in-Wipe c = rw (c.in-Wipe.is ∙ ap Wipe (sym c.ids.ensures)) c.wipe_cells.ensures
