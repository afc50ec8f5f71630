use Rattle.std.proofs.Common.{◌≡◌, ◌++◌, ◌∷◌, sym, ◌∙◌, ap}
use Rattle.std.specs.Vec.Iter.{into_iter_items}
use Rattle.keyholds.specs.Holds.{cells_held}
use Rattle.live_tables.specs.RowSource.{row_read}
use Rattle.live_tables.proofs.Stands.{taken_front, among, cells_more, one_more}
use Rattle.live_tables.proofs.before_image.with_before_images.Goals as goal

pub loop-cell-preserved : goal.loop-cell-preserved
loop-cell-preserved c =
    let whole = sym c.into_iter-cell-iterator.ensures.into_iter_gives.0 ∙ taken_front c.into_iter-cell-iterator.result c.loop-cell.yielded c.loop-cell.cell-iterator c.loop-cell.yielded_by in
    let split : c.args.cells.items ≡ c.loop-cell.yielded ++ c.in-Some.cell ∷ into_iter_items c.next.new.self = whole ∙ ap (λ xs. c.loop-cell.yielded ++ xs) c.in-Some.ensures.steps.0 in
    record {
      can_next = c.loop-cell.invariant.can_next;
      is_finite = c.loop-cell.invariant.is_finite;
      cells = cells_more c.loop-cell.more.items c.push.new.self.items c.in-Some.cell c.in_ok-before_image.before_image c.loop-cell.yielded c.in_ok-push.ensures.items c.loop-cell.invariant.cells;
      stand =
          one_more (row_read c.args.source) c.args.count (cells_held c.args.holds.now) c.args.cells.items c.loop-cell.more.items c.push.new.self.items c.in-Some.cell c.in_ok-before_image.before_image
          c.loop-cell.invariant.stand (among c.args.cells.items c.loop-cell.yielded (into_iter_items c.next.new.self) c.in-Some.cell split)
          c.in_ok-before_image.ensures c.in_ok-push.ensures.items;
    }
