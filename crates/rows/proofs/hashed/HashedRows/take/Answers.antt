use Rattle.std.proofs.Common.{sym, ◌∙◌}
use Rattle.rows.proofs.Slots.{none_taken}
use Rattle.rows.proofs.hashed.HashedRows.take.Goals as goal

pub returns-in_err-number-clause-rows : goal.returns-in_err-number-clause-rows
returns-in_err-number-clause-rows g c =
    none_taken c.args.self.now c.args.key.now c.slot.ensures.slotted (sym c.slot.ensures.number ∙ c.in_err-number.was)
