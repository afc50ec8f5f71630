use Rattle.std.proofs.Common.{sym, ◌∙◌}
use Rattle.change.proofs.KeptRows.{row_is_kept}
use Rattle.change.proofs.inverse.Inverse.row_at.Goals as goal

pub returns : goal.returns
returns c = c.kept_row.ensures ∙ sym (row_is_kept c.args.self.now c.args.table c.args.key.now)
