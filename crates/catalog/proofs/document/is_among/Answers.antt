use Rattle.std.proofs.Common.{ℕ, List, Bor, sym, ◌∙◌, arith}
use Rattle.std.proofs.lemmas.Grind.{common_steps}
use Rattle.std.specs.Str.{bytes_eq}
use Rattle.std.proofs.lemmas.List.Folds.{list_any_at}
use Rattle.catalog.proofs.Members.{list_any-now}
use Rattle.catalog.proofs.document.is_among.Goals as goal

pub returns-then-eq : goal.returns-then-eq
returns-then-eq c =
    sym (list_any-now (bytes_eq c.args.text.now) c.args.texts.now ∙ list_any_at (λ (t : Bor (List ℕ)). bytes_eq c.args.text.now t.now) c.args.texts.now c.loop-other.other-index _ (omega arith) (sym c.if-eq.ensures))

pub returns : goal.returns
returns c = grind (arith, common_steps, list_any-now (bytes_eq c.args.text.now) c.args.texts.now)
