use Rattle.std.proofs.Common.{rules, ap, sym, ◌∙◌, ◌+◌, length}
use Rattle.origin.proofs.Moves.{publishes}
use Rattle.origin.proofs.origin.Origin.publish.Goals as goal

pub swap_as-requires : goal.swap_as-requires
swap_as-requires g c =
    let own = ap (λ t. t.origin) c.by.view_is ∙ c.requires.own ∙ sym c.self.view_is in
    let next = c.requires.next ∙ ap (λ t. length t.ends + 1) (sym c.by.view_is) in
    (search rules, (search rules, (own, publishes _ _ _ c.by.invariant next)))
