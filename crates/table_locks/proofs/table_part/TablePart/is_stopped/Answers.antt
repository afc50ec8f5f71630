use Rattle.std.proofs.Common.{◌∙◌, is_some, ap}
use Rattle.parted_store.specs.KeptLemmas.{told_some}
use Rattle.table_locks.specs.TableStates.{TableState}
use Rattle.table_locks.proofs.table_part.TablePart.is_stopped.Goals as goal

pub returns : goal.returns
returns g c = c.is_some.ensures ∙ told_some c.self.inside.stopped c.self.invariant.1 ∙ ap (λ (s : TableState). is_some s.stopped) c.self.view_is
