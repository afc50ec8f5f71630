use Rattle.messages.specs.Messages.{column}
use Rattle.messages.specs.Writing.{Says, column_bytes}
use Rattle.messages.proofs.Written.{written_more, all_more}
use Rattle.messages.proofs.encoding.put_columns.Goals as goal

pub loop-column-preserved : goal.loop-column-preserved
loop-column-preserved c = record {
  written = written_more column_bytes c.args.out.now.items c.loop-column.out.items _ c.args.columns.now c.loop-column.column-index c.column-item.result c.loop-column-test.true c.column-item.is c.loop-column.invariant.written c.in_ok-put_column.ensures.written;
  says = all_more (λ x. Says column (column_bytes x) x) c.args.columns.now c.loop-column.column-index c.column-item.result c.loop-column-test.true c.column-item.is c.loop-column.invariant.says c.in_ok-put_column.ensures.says;
}
