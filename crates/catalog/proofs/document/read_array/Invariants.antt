use Rattle.std.proofs.Common.{◌≡◌, Some, take}
use Rattle.toml.specs.View.{items_view}
use Rattle.catalog.specs.Document.{each}
use Rattle.catalog.proofs.document.read_array.Given as goal

abbrev pub invariant-loop-item : goal.invariant-loop-item
invariant-loop-item g l = each g.T.Described.of (items_view (take l.item-index l.item-items)) ≡ Some l.array.items
