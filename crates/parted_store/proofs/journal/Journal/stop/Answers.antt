use Rattle.std.proofs.Common.{sym, subst, Some}
use Rattle.std.specs.Prelude.{Option, IfSome}
use Rattle.live_tables.specs.declared.answers.Stop.{Stop}
use Rattle.live_tables.specs.declared.live_tables.Stopped as stopped_type
use Rattle.live_tables.specs.Answers.{stop_of, told_stop, TellsWhatStopped, HasCause}
use Rattle.parted_store.specs.Journal.{JournalPart}
use Rattle.parted_store.specs.KeptLemmas.{stop_told}
use Rattle.parted_store.proofs.journal.Journal.stop.Goals as goal

pub returns-in-Some : goal.returns-in-Some
returns-in-Some c =
    subst (λ (stop : Stop). TellsWhatStopped (Some stop) c.args.self.now.stopped) (sym c.stop_of.ensures)
    (subst (λ (j : JournalPart). TellsWhatStopped (Some (stop_of c.in-Some.stopped)) j.stopped) c.self.view_is
    (subst (λ (stopped : Option stopped_type.Stopped). TellsWhatStopped (Some (stop_of c.in-Some.stopped)) (told_stop stopped)) (sym c.in-Some.is)
    (stop_told c.in-Some.stopped
    (subst (λ (stopped : Option stopped_type.Stopped). IfSome stopped HasCause) c.in-Some.is c.self.invariant.caused))))
