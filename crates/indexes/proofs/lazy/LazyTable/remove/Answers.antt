use Rattle.std.specs.Box.{box_value}
use Rattle.indexes.proofs.Patterns.{shown_no_rows, no_row}
use Rattle.indexes.proofs.lazy.LazyTable.remove.Goals as goal

pub unreachable-requires : goal.unreachable-requires
unreachable-requires c =
    no_row c.args.self.now c.args.key.now (shown_no_rows box_value _ c.self.inside.made c.args.self.now c.self.view_is c.self.invariant.no_rows c.in-None.is) c.requires
