use Rattle.messages.specs.Messages.{relation_column}
use Rattle.messages.specs.Writing.{Says, relation_column_bytes}
use Rattle.messages.proofs.Written.{written_more, all_more}
use Rattle.messages.proofs.encoding.put_relation_columns.Goals as goal

pub loop-column-preserved : goal.loop-column-preserved
loop-column-preserved c = record {
  written = written_more relation_column_bytes c.args.out.now.items c.loop-column.out.items _ c.args.columns.now c.loop-column.column-index c.column-item.result c.loop-column-test.true c.column-item.is c.loop-column.invariant.written c.in_ok-put_relation_column.ensures.written;
  says = all_more (λ x. Says relation_column (relation_column_bytes x) x) c.args.columns.now c.loop-column.column-index c.column-item.result c.loop-column-test.true c.column-item.is c.loop-column.invariant.says c.in_ok-put_relation_column.ensures.says;
}
