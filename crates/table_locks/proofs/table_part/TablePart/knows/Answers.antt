use Rattle.std.proofs.Common.{◌∙◌, sym, ap}
use Rattle.live_tables.specs.Answers.{told_stop}
use Rattle.table_locks.specs.TableStates.{TableState}
use Rattle.table_locks.proofs.table_part.TablePart.knows.Goals as goal

pub returns-in-Some : goal.returns-in-Some
returns-in-Some g c so =
    let (change, cause, of, told, its) = c.has_noted.ensures so in
    (change, cause, of, sym (ap (λ (s : TableState). s.stopped) c.self.view_is) ∙ ap told_stop c.in-Some.is ∙ told, its)
