use Rattle.std.proofs.Common.{◌≡◌, ap, ◌∙◌}
use Rattle.session.specs.State.{in_block}
use Rattle.session.proofs.Streams.{takes_spelled, takes_fault, inside_block, inside_none}
use Rattle.session.proofs.session.Session.admit.Goals as goal
use Rattle.session.proofs.session.Session.admit.Goals.{Joined-matches, in-Block, in_default}

-- a payload is read as one in a block exactly in a block
inside : (c : Joined-matches) → c.match-matches.matches ≡ in_block c.args.self.now.phase
inside c = elim c.match-matches.branch [
  | in-Block w ↦ inside_block c.args.self.now.phase _ c.match-matches.matches w.in-Block.is w.matches-is
  | in_default w ↦ inside_none c.args.self.now.phase c.match-matches.matches (λ xid block. w.in_default.not-Block xid block) w.matches-is
]

pub returns-in_err-message : goal.returns-in_err-message
returns-in_err-message c = λ g h same represents.
    takes_fault g _ h c.args.payload.now c.match-matches.matches c.in_err-message.field-0.0 c.from_residual.result (record { phase = represents.phase; here = represents.here; alone = represents.alone; transactions = represents.transactions; relations = represents.relations; position = represents.position; skip = represents.skip })
    c.in_err-message.ensures.fault (inside (goal.at.returns-in_err-message c).Joined-matches ∙ ap in_block represents.phase) c.from_residual.ensures.1

pub returns : goal.returns
returns c = λ g h same represents.
    takes_spelled g c.message.new.self h c.args.payload.now c.match-matches.matches c.len.result c.in_ok-message.message c.message.result c.in_ok-message.ensures.spelled (inside (goal.at.returns c).Joined-matches ∙ ap in_block represents.phase) c.len.ensures.value (c.message.ensures g h same represents)
