use Rattle.std.proofs.Common.{sym, ◌∙◌, ap}
use Rattle.std.specs.FinMap.{get}
use Rattle.rows.specs.Kept.{Kept}
use Rattle.rows.proofs.Slots.{row_has_slot, get-numbers_in}
use Rattle.rows.proofs.Names.{numbered}
use Rattle.rows.specs.Slots.{numbers_in}
use Rattle.rows.proofs.ordered.OrderedRowsRowStore.slot.Goals as goal

pub returns-clause-numbered : goal.returns-clause-numbered
returns-clause-numbered c = λ key other number e f.
    numbered (numbers_in c.self.inside.slots.entries) c.self.inside.keys c.self.invariant key other number
    (ap (λ (k : Kept). get k.slots key) c.self.view_is ∙ e) (ap (λ (k : Kept). get k.slots other) c.self.view_is ∙ f)

pub returns-clause-slotted : goal.returns-clause-slotted
returns-clause-slotted c = λ key row e.
    let has = row_has_slot c.self.inside.slots.entries key row (ap (λ (k : Kept). get k.rows key) c.self.view_is ∙ e) in
    (has.0, ap (λ (k : Kept). get k.slots key) (sym c.self.view_is) ∙ has.1)

pub returns-clause-number : goal.returns-clause-number
returns-clause-number c =
    c.number_of.ensures ∙ sym (get-numbers_in c.self.inside.slots.entries c.args.key.now) ∙ ap (λ (k : Kept). get k.slots c.args.key.now) c.self.view_is
