use Rattle.std.proofs.Common.{arith, sym, ◌∙◌}
use Rattle.std.specs.FinMap.{remove}
use Rattle.change.proofs.Clashes.{first_taken_found, first_taken_passed}
use Rattle.change.proofs.outcome.first_clash.Goals as goal

pub returns-then-has_duplicate : goal.returns-then-has_duplicate
returns-then-has_duplicate c =
    first_taken_found c.args.t.now.schema (remove c.args.t.now.rows (c.args.table, c.args.old.key.now)) c.args.table c.args.row.now c.loop-index.index (omega arith) _
    (sym c.has_duplicate.ensures ∙ c.if-has_duplicate.true) c.loop-index.invariant

pub loop-index-preserved : goal.loop-index-preserved
loop-index-preserved c =
    first_taken_passed c.args.t.now.schema (remove c.args.t.now.rows (c.args.table, c.args.old.key.now)) c.args.table c.args.row.now c.loop-index.index (omega arith) _
    (sym c.has_duplicate.ensures ∙ c.if-has_duplicate.false) c.loop-index.invariant
