use Rattle.std.proofs.Common.{◌≡◌, map, ap, subst, ◌∙◌}
use Rattle.sqlite.specs.Held.{state}
use Rattle.sql_batch.specs.Batches.{RunInOne, bound_text}
use Rattle.mirror_statements.specs.Asked.{asked_by}
use Rattle.mirror_file.proofs.following.follow.Goals as goal

pub returns-clause-all : goal.returns-clause-all
returns-clause-all g c clean =
    let file = c.args.file.now in
    let asked : map bound_text c.as_slice.result.now ≡ asked_by file.tables.items file.position.text c.args.commits.now c.args.end =
    ap (map bound_text) c.as_slice.ensures.value ∙ c.in_ok-statements.ensures in
    subst (λ statements. RunInOne g.S.Store statements c.args.conn.now (state g.S.Store c.run_in_one.new.conn).committed) asked (c.in_ok-run_in_one.ensures.all clean)
