use Rattle.std.proofs.Common.{◌∙◌, sym, ap}
use Rattle.world_parts.specs.ByTable.{rows_at}
use Rattle.world_parts.specs.TwiceLemmas.{rows_twice}
use Rattle.table_locks.proofs.made.cut.Goals as goal

pub begin-requires-clause-own : goal.begin-requires-clause-own
begin-requires-clause-own c =
    let own = c.in_ok-own.ensures.rows in
    ap (rows_at c.args.number) own ∙ rows_twice c.args.number c.args.start.now.rows ∙ sym own

pub returns-in-Err-clause-err : goal.returns-in-Err-clause-err
returns-in-Err-clause-err c =
    c.put_in.ensures.here ∙ ap (rows_at c.args.number) (c.in-Err.ensures.rows ∙ c.in_ok-own.ensures.rows) ∙ rows_twice c.args.number c.args.start.now.rows
