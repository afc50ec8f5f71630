use Rattle.std.proofs.Common.{◌∷◌, ◌++◌, [], sym, ap, ◌∙◌}
use Rattle.std.proofs.lemmas.List.{length-map}
use Rattle.world.specs.World.{Past}
use Rattle.engine.specs.Events.{commits_in, ends_in, opened_by}
use Rattle.engine.specs.EventLemmas.{ends_more}
use Rattle.dispatch.proofs.transactions.Transactions.commit_ticket.Goals as goal

pub publish-requires-clause-last : goal.publish-requires-clause-last
publish-requires-clause-last g c =
    ap ends_in c.commit-commits.ensures.appended
    ∙ ends_more c.self.inside.line.list c.args.ticket.number (opened_by c.args.ticket.events).items c.args.info
    ∙ ap (λ ends. ends ++ c.args.info.end ∷ []) (sym c.self.invariant.1)

-- there are as many ends as commits
pub publish-requires-clause-count : goal.publish-requires-clause-count
publish-requires-clause-count g c =
    c.commit-commits.ensures.count ∙ sym (length-map (commits_in c.commit-commits.new.line.list) (λ (p : Past). p.info.end))
