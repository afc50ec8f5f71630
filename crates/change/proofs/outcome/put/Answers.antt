use Rattle.std.specs.Prelude.{◌≡◌, None}
use Rattle.std.proofs.Common.{sym, ◌∙◌, ap, subst}
use Rattle.std.specs.FinMap.{insert}
use Rattle.model.specs.declared.row.Row.{Row}
use Rattle.indexes.specs.Content.{least_taken}
use Rattle.change.proofs.Outcomes.{none_taken, put_leaves}
use Rattle.change.proofs.outcome.put.Goals as goal

pub returns-in-Ok : goal.returns-in-Ok
returns-in-Ok c =
    let told = subst (λ (row : Row). least_taken c.args.t.now.schema c.args.t.now.rows c.args.table c.in-Some.key row ≡ None) c.in_ok-copy.ensures c.in-Ok.ensures.told in
    let free = none_taken c.args.t.now.schema c.args.t.now.rows c.args.table c.args.row.now c.in-Some.key told in
    put_leaves c.args.t.now c.put.new.self c.args.table c.args.row.now c.in-Some.key c.in_ok-stands_at.stands_at c.in_ok-stands_at.ensures c.requires.sound.valid
    c.requires.known (sym c.in_ok-key.ensures ∙ c.in-Some.is) free.0 free.1 c.in-Ok.ensures.schema
    (c.in-Ok.ensures.ok ∙ ap (insert c.args.t.now.rows (c.args.table, c.in-Some.key)) c.in_ok-copy.ensures) c.in-Ok.ensures.kept
