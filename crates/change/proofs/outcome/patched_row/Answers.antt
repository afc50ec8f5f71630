use Rattle.std.proofs.Common.{◌≡◌, length, sym, ◌∙◌, arith}
use Rattle.change.proofs.PatchedColumns.{whole_patch}
use Rattle.change.proofs.outcome.patched_row.Goals as goal

pub returns : goal.returns
returns c =
    let same : length c.in-Some.row ≡ length c.args.old.now = omega arith in
    whole_patch c.args.patch.now c.args.old.now c.in-Some.row (sym c.in_ok-row.ensures ∙ c.in-Some.is) same
