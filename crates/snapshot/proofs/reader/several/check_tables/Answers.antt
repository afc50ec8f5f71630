use Rattle.std.proofs.Common.{rules, arith, ◌≡◌, ◌<◌, length, take, take_all, sym, subst}
use Rattle.std.specs.Prelude.{All}
use Rattle.std.proofs.lemmas.List.{take_more}
use Rattle.std.proofs.lemmas.List.Elements.{All-push}
use Rattle.snapshot.proofs.reader.several.check_tables.Goals as goal

pub loop-table-preserved : goal.loop-table-preserved
loop-table-preserved c =
    let tables = c.args.tables.now in
    let index = c.loop-table.table-index in
    subst (All (λ table. table < c.args.count)) (sym (take_more tables index _ c.loop-table-test.true))
    (All-push (λ table. table < c.args.count) (take index tables) _ c.loop-table.invariant c.in_ok-check_table.ensures.known)

pub returns-clause-known : goal.returns-clause-known
returns-clause-known c =
    let tables = c.args.tables.now in
    let ends : c.loop-table.table-index ≡ length tables = search rules in
    subst (All (λ table. table < c.args.count)) (take_all c.loop-table.table-index tables (omega (arith, ends))) c.loop-table.invariant
