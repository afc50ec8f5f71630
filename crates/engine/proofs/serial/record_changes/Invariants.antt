-- What the call appends to the line, which proofs alone know.
use Rattle.std.proofs.Common.{[], ◌∷◌, map}
use Rattle.model.specs.declared.item.Item.TheVariants.{Change as ChangeItem}
use Rattle.model.specs.Survivors.{changes_of}
use Rattle.engine.specs.declared.events.LineEvent.TheVariants.{Committed}
use Rattle.engine.proofs.serial.record_changes.Given as goal

abbrev pub ghosts-grow_changes : goal.ghosts-grow_changes
ghosts-grow_changes a = record { items = Committed a.xid (map (ChangeItem a.xid) (changes_of a.items.now)) a.info ∷ [] }
