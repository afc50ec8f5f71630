use Rattle.std.proofs.Common.{refl, true≢false}
use Rattle.std.proofs.lemmas.List.Elements.{All-nil}
use Rattle.keyholds.specs.Holds.{cells_held, IsFreeCell}
use Rattle.keyholds.proofs.Seen.{seen_placed, seen_apart}
use Rattle.keyholds.proofs.Answering.{free_so_far, all_free, first_held, not_all_free}
use Rattle.keyholds.proofs.holds.Holds.free_for.Goals as goal

pub loop-cell-init : goal.loop-cell-init
loop-cell-init g c = All-nil (IsFreeCell (cells_held c.args.self.now) c.args.xid)

pub returns-in-Some-clause-free : goal.returns-in-Some-clause-free
returns-in-Some-clause-free g c =
    let held = cells_held c.args.self.now in
    let here = c.in-Some.ensures held (seen_placed c.self.inside.lists c.args.self.now c.self.view_is c.self.inside.addresses c.self.invariant) in
    (λ e. absurd (true≢false e), λ free. absurd (not_all_free held c.args.xid c.args.cells.now c.loop-cell.cell-index c.cell-item.result c.loop-cell-test.true c.cell-item.is c.in-Some.other here free))

pub returns-in-Some-clause-first : goal.returns-in-Some-clause-first
returns-in-Some-clause-first g c =
    let held = cells_held c.args.self.now in
    let here = c.in-Some.ensures held (seen_placed c.self.inside.lists c.args.self.now c.self.view_is c.self.inside.addresses c.self.invariant) in
    first_held held c.args.xid c.args.cells.now c.loop-cell.cell-index c.cell-item.result c.loop-cell-test.true c.cell-item.is c.in-Some.other here c.loop-cell.invariant

pub loop-cell-preserved : goal.loop-cell-preserved
loop-cell-preserved g c =
    let held = cells_held c.args.self.now in
    free_so_far held c.args.xid c.args.cells.now c.loop-cell.cell-index c.cell-item.result c.loop-cell-test.true c.cell-item.is c.loop-cell.invariant
    (c.in_default.ensures held (seen_placed c.self.inside.lists c.args.self.now c.self.view_is c.self.inside.addresses c.self.invariant))

pub returns-clause-free : goal.returns-clause-free
returns-clause-free g c =
    (λ e. all_free (cells_held c.args.self.now) c.args.xid c.args.cells.now c.loop-cell.cell-index c.loop-cell.auto.cell-index-end c.loop-cell-test.false c.loop-cell.invariant, λ free. refl)

pub returns-clause-apart : goal.returns-clause-apart
returns-clause-apart g c = seen_apart c.self.inside.lists c.args.self.now c.self.view_is c.self.inside.addresses c.self.invariant

pub returns-in-Some-clause-apart : goal.returns-in-Some-clause-apart
returns-in-Some-clause-apart g c = seen_apart c.self.inside.lists c.args.self.now c.self.view_is c.self.inside.addresses c.self.invariant
