use Rattle.std.proofs.Common.{rules, ap, sym, ◌∙◌}
use Rattle.origin.proofs.Moves.{tells}
use Rattle.origin.proofs.origin.Loader.split.Goals as goal

pub split_pass-pass-requires : goal.split_pass-pass-requires
split_pass-pass-requires c =
    let own = ap (λ t. t.origin) c.self.view_is ∙ c.requires.own ∙ sym c.origin.view_is in
    (search rules, (search rules, (own, tells _ _)))
