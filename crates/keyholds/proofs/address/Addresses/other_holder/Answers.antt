use Rattle.std.specs.Prelude.{MatchOption}
use Rattle.std.proofs.Common.{sym, ◌∙◌, ap, subst}
use Rattle.model.specs.declared.cell.Cell.TheVariants.{Whole}
use Rattle.keyholds.specs.Addresses.{IsAlone, IsHeldAt}
use Rattle.keyholds.proofs.Addressing.{whole_or_not, no_whole, answered_whole, answered_here, answered_above}
use Rattle.keyholds.proofs.address.Addresses.other_holder.Goals as goal

pub returns-then-is_whole : goal.returns-then-is_whole
returns-then-is_whole g c =
    let is = whole_or_not (g.C.SoughtCell.cell c.args.cell.now) (sym c.is_whole.ensures ∙ c.if-is_whole.true) ∙ ap Whole (sym c.table-table.ensures) in
    λ held kept. answered_whole held c.args.self.now kept c.args.xid c.table-table.result (g.C.SoughtCell.cell c.args.cell.now) is c.other.result c.other.ensures.found c.other.ensures.none

pub returns-in-Some : goal.returns-in-Some
returns-in-Some g c = λ held kept. answered_here held c.args.self.now kept c.args.xid (g.C.SoughtCell.cell c.args.cell.now) c.in-Some.other c.in-Some.ensures

pub returns-in-None : goal.returns-in-None
returns-in-None g c =
    λ held kept. answered_above held c.args.self.now kept c.args.xid (g.C.SoughtCell.cell c.args.cell.now)
    (no_whole (g.C.SoughtCell.cell c.args.cell.now) (sym c.is_whole.ensures ∙ c.if-is_whole.false)) c.in-None.ensures c.other_at-in-None.result
    (subst (λ t. MatchOption c.other_at-in-None.result (IsAlone c.args.xid (Whole t) c.args.self.now) (IsHeldAt c.args.xid (Whole t) c.args.self.now)) c.table-table.ensures c.other_at-in-None.ensures)
