use Rattle.std.proofs.Common.{rules, ap, sym, ◌∙◌}
use Rattle.origin.proofs.Moves.{loads}
use Rattle.origin.proofs.origin.Origin.load.Goals as goal

pub load_as-published-requires : goal.load_as-published-requires
load_as-published-requires g c =
    let own = ap (λ t. t.origin) c.by.view_is ∙ c.requires.own ∙ sym c.self.view_is in
    (search rules, (search rules, (own, loads _ _)))
