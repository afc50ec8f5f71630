use Rattle.std.proofs.Common.{sym, ap, ◌∙◌}
use Rattle.std.specs.Prelude.{Ok}
use Rattle.session.specs.declared.fault.SessionFault.TheVariants.{NotInTransaction}
use Rattle.session.specs.Table.{at, refuse}
use Rattle.session.proofs.Steps.{stays}
use Rattle.session.proofs.session.Session.origin.Goals as goal

pub returns-in-Begun : goal.returns-in-Begun
returns-in-Begun c = λ g h represents. stays g _ h _ represents (ap (λ p. at p (refuse NotInTransaction) (λ _ _. Ok h) (λ _. Ok h)) (sym represents.phase ∙ c.in-Begun.is))

pub returns-in-Block : goal.returns-in-Block
returns-in-Block c = λ g h represents. stays g _ h _ represents (ap (λ p. at p (refuse NotInTransaction) (λ _ _. Ok h) (λ _. Ok h)) (sym represents.phase ∙ c.in-Block.is))
