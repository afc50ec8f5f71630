-- What `collect` tells of the items that were given.
use Rattle.std.proofs.Common.{rules, ◌≡◌, ◌++◌, ◌∷◌, []}
use Rattle.model.specs.declared.item.Item.TheVariants.{Last}
use Rattle.worker.specs.Outbox.{given_since}
use Rattle.worker.proofs.OutboxLists.{just_these, next_given}
use Rattle.worker.proofs.outbox.Outbox.collect.Goals as goal

pub returns-clause-all : goal.returns-clause-all
returns-clause-all g c =
    let whole : given_since c.args.token.now.list ≡ c.in-Some.sender.sent ++ c.self.inside.queued.items
    = search rules
    in
    let these
    = just_these _ _ c.args.taker.acked c.meet-ends.result.left c.self.inside.queued.items (Last ∷ []) whole
    c.meet-ends.ensures.parts
    in
    let all = c.drop_rest-collected.ensures.all in
    ((λ is. these.0 (all.0 is)), (λ is. all.1 (these.1 is)))

pub returns-clause-next : goal.returns-clause-next
returns-clause-next g c =
    let whole : given_since c.args.token.now.list ≡ c.in-Some.sender.sent ++ c.self.inside.queued.items
    = search rules
    in
    next_given _ _ c.args.taker.acked c.meet-ends.result.left c.self.inside.queued.items c.args.taker.taken whole
    c.meet-ends.ensures.parts c.meet-ends.ensures.next
