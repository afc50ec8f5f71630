use Rattle.std.proofs.Common.{refl, ap, ◌∙◌}
use Rattle.engine.specs.declared.events.LineEvent.TheVariants.{Opened}
use Rattle.engine.specs.Events.{ends_in}
use Rattle.engine.specs.EventLemmas.{ends_same}
use Rattle.dispatch.proofs.transactions.open_in.Goals as goal

pub returns-in-Ok-clause-ends : goal.returns-in-Ok-clause-ends
returns-in-Ok-clause-ends g c = ap ends_in c.in-Ok.ensures.ok ∙ ends_same c.args.line.now.list (Opened c.args.xid) refl
