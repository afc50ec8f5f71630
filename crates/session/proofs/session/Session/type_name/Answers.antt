use Rattle.std.proofs.Common.{◌≡◌, sym, subst, ◌∙◌}
use Rattle.session.specs.declared.phase.Phase.TheVariants.{Block}
use Rattle.session.proofs.Steps.{stays, follows_block}
use Rattle.session.proofs.Items.{at_rest, IsAtRest}
use Rattle.session.proofs.session.Session.type_name.Goals as goal

pub returns-in-Outside : goal.returns-in-Outside
returns-in-Outside c = λ g h represents. stays g _ h _ represents (at_rest h.phase _ _ (subst IsAtRest represents.phase c.in-Outside.is))

pub returns-in-Block : goal.returns-in-Block
returns-in-Block c = λ g h represents.
    let block : h.phase ≡ Block c.in-Block.xid = sym represents.phase ∙ c.in-Block.is in
    follows_block g _ h c.in-Block.xid _ _ _ c.touch.result block (rw c.unwrap_or.ensures at (c.touch.ensures g h represents block))
