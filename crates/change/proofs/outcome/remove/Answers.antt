use Rattle.std.proofs.Common.{ap}
use Rattle.model.specs.declared.change.Change.TheVariants.{Remove}
use Rattle.model.specs.Effect.{remove_outcome}
use Rattle.change.proofs.Outcomes.{nothing_there, remove_leaves, skipped_leaves}
use Rattle.change.proofs.outcome.remove.Goals as goal

pub returns-then-is_none : goal.returns-then-is_none
returns-then-is_none c =
    skipped_leaves c.args.t.now (Remove c.args.table c.args.key.now)
    (ap (remove_outcome (c.args.table, c.args.key.now)) (nothing_there _ _ _ c.get.ensures c.is_none.ensures c.if-is_none.true))

pub returns : goal.returns
returns c =
    remove_leaves c.args.t.now c.remove-row.new.self c.args.table c.args.key.now c.in_ok-key.key c.remove-row.result c.in_ok-key.ensures c.requires.sound
    c.requires.known c.remove-row.ensures.stood c.remove-row.ensures.schema c.remove-row.ensures.rows c.remove-row.ensures.kept
