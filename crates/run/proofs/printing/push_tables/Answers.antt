use Rattle.std.proofs.Common.{◌∙◌, ap, sym, ◌++◌, length, arith}
use Rattle.std.specs.List.{flat_map}
use Rattle.run.specs.Report.{table_text, numbered_text}
use Rattle.run.proofs.ReportLoops.{numbered_more, numbered_all}
use Rattle.run.proofs.printing.push_tables.Goals as goal

pub push_table-requires : goal.push_table-requires
push_table-requires c = c.count-count.ensures ∙ ap length (c.walk.ensures.rows ∙ sym c.walk-in-loop-table.ensures.rows)

pub loop-table-preserved : goal.loop-table-preserved
loop-table-preserved c =
    let definition = c.index-definitions-table.result in
    c.in_ok-push_table.ensures ∙ ap (λ rows. c.loop-table.text.items ++ table_text definition rows) c.walk-in-loop-table.ensures.rows ∙ ap (λ t. t ++ numbered_text c.args.tables.now.rows (c.loop-table.table, definition)) c.loop-table.invariant
    ∙ numbered_more (numbered_text c.args.tables.now.rows) c.args.text.now.items c.args.definitions.now c.loop-table.table definition (omega arith) c.index-definitions-table.is

pub returns : goal.returns
returns c =
    c.loop-table.invariant
    ∙ ap (λ es. c.args.text.now.items ++ flat_map (numbered_text c.args.tables.now.rows) es) (numbered_all c.args.definitions.now c.loop-table.table (omega arith))
