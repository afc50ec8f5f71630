use Rattle.std.proofs.Common.{sym, ◌∙◌, ap}
use Rattle.std.specs.FinMap.{get}
use Rattle.rows.specs.Hashed.{seen, keys_in}
use Rattle.rows.specs.Kept.{Kept}
use Rattle.rows.proofs.HashedSlots.{get-numbers}
use Rattle.rows.proofs.Names.{numbered}
use Rattle.rows.proofs.Slots.{row_has_slot}
use Rattle.rows.specs.Slots.{numbers_in}
use Rattle.rows.proofs.hashed.HashedRows.slot.Goals as goal

pub returns-clause-number : goal.returns-clause-number
returns-clause-number g c =
    c.number_of.ensures ∙ c.self.invariant.hashed c.args.key.now
    ∙ sym (get-numbers c.self.inside.slots c.self.inside.order c.args.key.now) ∙ ap (λ (k : Kept). get k.slots c.args.key.now) c.self.view_is

pub returns-clause-numbered : goal.returns-clause-numbered
returns-clause-numbered g c = λ key other number e f.
    let es = seen c.self.inside.slots c.self.inside.order in
    numbered (numbers_in es) (keys_in c.self.inside.slots) c.self.invariant.named key other number
    (ap (λ (k : Kept). get k.slots key) c.self.view_is ∙ e) (ap (λ (k : Kept). get k.slots other) c.self.view_is ∙ f)

pub returns-clause-slotted : goal.returns-clause-slotted
returns-clause-slotted g c = λ key row e.
    let es = seen c.self.inside.slots c.self.inside.order in
    let has = row_has_slot es key row (ap (λ (k : Kept). get k.rows key) c.self.view_is ∙ e) in
    (has.0, ap (λ (k : Kept). get k.slots key) (sym c.self.view_is) ∙ has.1)
