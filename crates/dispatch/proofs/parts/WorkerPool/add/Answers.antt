use Rattle.dispatch.proofs.Making.{one_longer}
use Rattle.dispatch.proofs.parts.WorkerPool.add.Goals as goal

pub returns-clause-given : goal.returns-clause-given
returns-clause-given g c = one_longer c.args.self.now.given.items c.push-3.new.self.items _ c.in_ok-push-3.ensures.items
