use Rattle.std.proofs.Common.{List, ap, ◌∙◌}
use Rattle.engine.specs.declared.events.LineEvent.{LineEvent}
use Rattle.engine.specs.Events.{ends_in}
use Rattle.engine.specs.EventLemmas.{last_more}
use Rattle.model.specs.Beginning.{last_end}
use Rattle.store_tests.proofs.tests.threads.readers.scene.Scene.commit.Goals as goal

pub invariant_of-self-clause-ended : goal.invariant_of-self-clause-ended
invariant_of-self-clause-ended g c =
    ap (λ (events : List LineEvent). last_end (ends_in events)) c.commit.ensures.appended ∙ last_more c.args.self.now.line.list _ _ _
