use Rattle.session.proofs.Mappings.{Represents-learnt}
use Rattle.session.proofs.relations.KnownRelations.learn.Goals as goal

pub returns : goal.returns
returns c = λ g relations known. Represents-learnt g c.args.self.now _ relations c.args.relation.now known c.in_ok-learn.ensures.learnt c.remove.ensures.updates
