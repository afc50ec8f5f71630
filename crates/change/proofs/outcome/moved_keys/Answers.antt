use Rattle.std.proofs.Common.{sym, ◌∙◌}
use Rattle.std.proofs.lemmas.Map.Views.{tells_apart}
use Rattle.model.specs.ExactLemmas.{key_cmp_exact}
use Rattle.change.proofs.outcome.moved_keys.Goals as goal

pub returns-then-eq : goal.returns-then-eq
returns-then-eq c = tells_apart key_cmp_exact c.args.new_key.now c.args.key.now (sym c.eq.ensures ∙ c.if-eq.true)
