use Rattle.std.proofs.Common.{◌∙◌, ap, ◌++◌, arith}
use Rattle.model.specs.Rows.{value_at}
use Rattle.model.specs.Types.{value_text}
use Rattle.run.proofs.ReportLoops.{row_first, row_more}
use Rattle.run.proofs.printing.push_row.Goals.{then-column-gt0+in_ok-push, else-column-gt0}
use Rattle.run.proofs.printing.push_row.Goals as goal

pub loop-column-preserved : goal.loop-column-preserved
loop-column-preserved c =
    let value = c.in_ok-push_value.ensures ∙ ap (λ v. c.if-column-gt0.text.items ++ value_text v) c.column.ensures in
    elim c.if-column-gt0.branch [
      | then-column-gt0+in_ok-push w ↦
          row_more c.args.text.now.items c.args.row.now c.loop-column.column (omega (arith, w.if-column-gt0.true)) (omega arith) c.loop-column.invariant
          (ap (λ t. t.items) w.text-is ∙ w.in_ok-push.ensures.items) value
      | else-column-gt0 w ↦
          row_first c.args.text.now.items c.args.row.now c.loop-column.column (omega (arith, w.if-column-gt0.false)) (omega arith) c.loop-column.invariant
          (value ∙ ap (λ t. t.items ++ value_text (value_at c.args.row.now c.loop-column.column)) w.text-is)
    ]
