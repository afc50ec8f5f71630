use Rattle.std.proofs.Common.{sym, ◌∙◌, ap}
use Rattle.std.specs.FinMap.{get}
use Rattle.rows.specs.Hashed.{row_for}
use Rattle.rows.specs.Kept.{Kept}
use Rattle.rows.proofs.HashedSlots.{get-rows}
use Rattle.rows.proofs.hashed.HashedRows.get.Goals as goal

pub returns : goal.returns
returns g c =
    c.view_at.ensures ∙ ap (row_for c.self.inside.slots) (c.number_of.ensures ∙ c.self.invariant.hashed c.args.key.now)
    ∙ sym (get-rows c.self.inside.slots c.self.inside.order c.args.key.now) ∙ ap (λ (k : Kept). get k.rows c.args.key.now) c.self.view_is
