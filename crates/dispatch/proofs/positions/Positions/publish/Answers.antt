use Rattle.std.proofs.Common.{◌∷◌, ◌+◌, [], length, sym, ap, ◌∙◌, length-append}
use Rattle.dispatch.proofs.positions.Positions.publish.Goals as goal

pub publish-requires-clause-next : goal.publish-requires-clause-next
publish-requires-clause-next g c =
    c.requires.count ∙ ap length c.requires.last ∙ length-append c.args.self.now (c.args.end ∷ [])
    ∙ ap (λ ends. length ends + 1) (sym c.self.view_is)
