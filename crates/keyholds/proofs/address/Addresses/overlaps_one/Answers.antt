use Rattle.std.specs.List.{list_any}
use Rattle.std.proofs.Common.{sym, ◌∙◌, ap, subst, nat_lt}
use Rattle.model.specs.declared.cell.Cell.{Cell}
use Rattle.model.specs.declared.cell.Cell.TheVariants.{Whole}
use Rattle.model.specs.Cells.{overlaps}
use Rattle.keyholds.specs.Addresses.{TellsAt}
use Rattle.keyholds.proofs.Addressing.{whole_or_not, no_whole, positive, whole_overlaps_one, held_overlaps_one, above_overlaps_one}
use Rattle.keyholds.proofs.Overlaps.{overlaps_itself}
use Rattle.keyholds.proofs.address.Addresses.overlaps_one.Goals as goal

pub returns-then-is_whole : goal.returns-then-is_whole
returns-then-is_whole g c =
    let is = whole_or_not (g.C.SoughtCell.cell c.args.cell.now) (sym c.is_whole.ensures ∙ c.if-is_whole.true) ∙ ap Whole (sym c.table-table.ensures) in
    λ held kept. whole_overlaps_one held c.args.self.now kept c.args.holder c.table-table.result c.count.result c.count.ensures (nat_lt 0 c.count.result) (positive c.count.result)
    ∙ ap (λ (cell : Cell). list_any (overlaps cell) (held c.args.holder)) (sym is)

pub returns-then-is_at : goal.returns-then-is_at
returns-then-is_at g c =
    λ held kept. held_overlaps_one held c.args.self.now kept c.args.holder (g.C.SoughtCell.cell c.args.cell.now) (g.C.SoughtCell.cell c.args.cell.now)
    (overlaps_itself (g.C.SoughtCell.cell c.args.cell.now))
    (subst (TellsAt c.args.holder (g.C.SoughtCell.cell c.args.cell.now) c.args.self.now) c.if-is_at.true c.is_at.ensures)

pub returns : goal.returns
returns g c =
    λ held kept. above_overlaps_one held c.args.self.now kept c.args.holder (g.C.SoughtCell.cell c.args.cell.now)
    (no_whole (g.C.SoughtCell.cell c.args.cell.now) (sym c.is_whole.ensures ∙ c.if-is_whole.false))
    (subst (TellsAt c.args.holder (g.C.SoughtCell.cell c.args.cell.now) c.args.self.now) c.if-is_at.false c.is_at.ensures) c.is_at-2.result
    (subst (λ t. TellsAt c.args.holder (Whole t) c.args.self.now c.is_at-2.result) c.table-table.ensures c.is_at-2.ensures)
