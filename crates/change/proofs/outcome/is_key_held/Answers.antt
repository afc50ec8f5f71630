use Rattle.std.proofs.Common.{◌∙◌}
use Rattle.change.proofs.Clashes.{held_elsewhere, held_by_itself}
use Rattle.change.proofs.outcome.is_key_held.Goals as goal

pub returns-then-ne : goal.returns-then-ne
returns-then-ne c =
    c.is_some.ensures
    ∙ held_elsewhere c.args.t.now.rows c.args.table c.args.key.now c.args.except.now c.ne.result c.ne.ensures c.if-ne.true c.get.result c.get.ensures

pub returns-else-ne : goal.returns-else-ne
returns-else-ne c = held_by_itself c.args.t.now.rows c.args.table c.args.key.now c.args.except.now c.ne.result c.ne.ensures c.if-ne.false
