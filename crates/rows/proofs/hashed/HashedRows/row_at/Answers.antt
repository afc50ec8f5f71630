use Rattle.std.proofs.Common.{sym, ◌∙◌, ap}
use Rattle.std.specs.FinMap.{get}
use Rattle.rows.specs.Kept.{Kept}
use Rattle.rows.proofs.HashedSlots.{row_by_number}
use Rattle.rows.proofs.hashed.HashedRows.row_at.Goals as goal

pub returns : goal.returns
returns g c = λ key e.
    c.view_at.ensures ∙ sym (row_by_number c.self.inside.slots c.self.inside.order key c.args.number (ap (λ (k : Kept). get k.slots key) c.self.view_is ∙ e))
    ∙ ap (λ (k : Kept). get k.rows key) c.self.view_is
