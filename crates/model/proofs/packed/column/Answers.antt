use Rattle.std.proofs.Common.{subst, ℕ, ◌<◌}
use Rattle.model.proofs.Blocks.{count_columns}
use Rattle.model.proofs.packed.column.Goals as goal

pub cut_at-requires-clause-within : goal.cut_at-requires-clause-within
cut_at-requires-clause-within c = subst (λ (n : ℕ). c.args.number < n) (count_columns c.args.block.now) c.requires.within
