use Rattle.engine.specs.ShutLemmas.{closed_alone}
use Rattle.engine.proofs.store.Store.close.Goals as goal

pub returns-clause-closes : goal.returns-clause-closes
returns-clause-closes c = closed_alone c.args.self.schema c.args.self.world c.requires.none c.shut.ensures.shut
