use Rattle.std.proofs.Common.{ap, subst, ◌∙◌}
use Rattle.std.specs.Prelude.{List, Option, map}
use Rattle.dispatch.specs.Handle.{Given, AreCounted}
use Rattle.dispatch.specs.Standing.{Standing, goes_by}
use Rattle.dispatch.proofs.transactions.Transactions.into_left.Goals as goal

pub returns-clause-given : goal.returns-clause-given
returns-clause-given g c =
    subst (λ (goes : List (Option Given)). AreCounted goes c.count_given.new.given.items)
    (ap (map goes_by) c.deref.ensures.value ∙ c.bring_home.ensures.same ∙ ap (λ (t : Standing). t.workers) c.self.view_is) c.count_given.ensures
