use Rattle.std.proofs.Common.{sym, ap, ◌∙◌}
use Rattle.change.specs.Edits.{or_else}
use Rattle.change.specs.EditsLemmas.{as_edit}
use Rattle.change.specs.KeptRow.{came_to}
use Rattle.change.proofs.KeptRows.{taken_if, edit_is_kept}
use Rattle.change.proofs.inverse.Inverse.edit_at.Goals as goal

pub returns-in-Some : goal.returns-in-Some
returns-in-Some c =
    ap (λ o. or_else (as_edit o) (taken_if (came_to c.args.self.now c.args.table c.args.key.now))) c.in-Some.ensures
    ∙ sym (edit_is_kept c.args.self.now c.args.table c.args.key.now)

pub returns-in-None : goal.returns-in-None
returns-in-None c =
    c.no_row_at.ensures
    ∙ ap (λ o. or_else (as_edit o) (taken_if (came_to c.args.self.now c.args.table c.args.key.now))) c.in-None.ensures
    ∙ sym (edit_is_kept c.args.self.now c.args.table c.args.key.now)
