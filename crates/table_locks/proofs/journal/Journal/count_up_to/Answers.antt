use Rattle.std.proofs.Common.{◌≡◌, ℕ, List, Some, MatchOption, subst}
use Rattle.std.specs.Prelude.{slice_get}
use Rattle.std.specs.List.{Contains}
use Rattle.table_locks.specs.ReadingLemmas.{positions_told}
use Rattle.table_locks.proofs.journal.Journal.count_up_to.Goals as goal

pub returns : goal.returns
returns g c =
    subst (λ (ns : List ℕ).
    MatchOption c.count_up_to.result (¬ Contains ns c.args.position) (λ count. slice_get ns count ≡ Some c.args.position))
    (positions_told c.entries.result.now c.args.self.now.part.line.list c.entries.ensures) c.count_up_to.ensures
