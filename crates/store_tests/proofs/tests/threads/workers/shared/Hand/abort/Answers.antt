use Rattle.std.proofs.Common.{List, ap, refl, ◌∙◌}
use Rattle.engine.specs.declared.events.LineEvent.{LineEvent}
use Rattle.engine.specs.declared.events.LineEvent.TheVariants.{Aborted as WasAborted}
use Rattle.model.specs.Beginning.{last_end}
use Rattle.engine.specs.EventLemmas.{last_same}
use Rattle.store_tests.proofs.tests.threads.workers.shared.Hand.abort.Goals as goal
use Rattle.engine.specs.Events.{ends_in}

pub invariant_of-self-clause-ended : goal.invariant_of-self-clause-ended
invariant_of-self-clause-ended g c =
    ap (λ (events : List LineEvent). last_end (ends_in events)) c.abort.ensures.appended
    ∙ last_same c.args.self.now.line.list (WasAborted _) refl ∙ c.args.self.now.ended
