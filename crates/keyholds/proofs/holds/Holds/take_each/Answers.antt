use Rattle.std.proofs.Common.{◌≡◌, ◌++◌, ◌∷◌, sym, ◌∙◌, ap, length, take}
use Rattle.std.specs.Vec.Iter.{into_iter_items}
use Rattle.keyholds.specs.Holds.{holds_of, cells_held}
use Rattle.keyholds.proofs.Taking.{held_first, free_still, free_among, taken_front}
use Rattle.keyholds.proofs.holds.Holds.take_each.Goals as goal

pub take_one-requires : goal.take_one-requires
take_one-requires g c =
    let whole = sym c.into_iter-cell-iterator.ensures.into_iter_gives.0 ∙ taken_front c.into_iter-cell-iterator.result c.loop-cell.yielded c.loop-cell.cell-iterator c.loop-cell.yielded_by in
    let split : c.args.cells.items ≡ c.loop-cell.yielded ++ (c.in-Some.cell, c.in-Some.before_image) ∷ into_iter_items c.next.new.self = whole ∙ ap (λ xs. c.loop-cell.yielded ++ xs) c.in-Some.ensures.steps.0 in
    free_still c.args.self.now c.loop-cell.self c.args.xid c.in-Some.cell c.loop-cell.invariant.others
    (free_among (cells_held c.args.self.now) c.args.xid c.args.cells.items c.loop-cell.yielded (into_iter_items c.next.new.self) (c.in-Some.cell, c.in-Some.before_image) split c.requires)

pub returns-in_err-take_one-clause-first : goal.returns-in_err-take_one-clause-first
returns-in_err-take_one-clause-first g c =
    let before = holds_of c.args.self.now c.args.xid in
    ap (take (length before)) (c.in_err-take_one.ensures.err ∙ c.loop-cell.invariant.own) ∙ held_first before c.loop-cell.yielded

pub returns-clause-first : goal.returns-clause-first
returns-clause-first g c =
    let before = holds_of c.args.self.now c.args.xid in
    ap (take (length before)) c.loop-cell.invariant.own ∙ held_first before c.loop-cell.yielded
