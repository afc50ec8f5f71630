use Rattle.std.proofs.Common.{◌∷◌, [], ap, ◌∙◌}
use Rattle.engine.specs.Serial.{Serial, with_changes}
use Rattle.engine.proofs.SerialSteps.{on_err, worked_view, worked_kept, unworked_view}
use Rattle.engine.proofs.serial.SerialStore.act.Goals as goal

pub invariant_of-self : goal.invariant_of-self
invariant_of-self c = worked_kept c.self.inside c.self.invariant c.act.new.self [] c.in_err-act.ensures.err

pub invariant_of-self-2 : goal.invariant_of-self-2
invariant_of-self-2 c = worked_kept c.self.inside c.self.invariant c.act.new.self (c.args.change ∷ []) c.in_ok-act.ensures.ok

pub returns-in_err-act-clause-err : goal.returns-in_err-act-clause-err
returns-in_err-act-clause-err c =
    on_err c.from_residual.result _ (unworked_view c.self.inside c.self.invariant c.act.new.self c.in_err-act.ensures.err ∙ c.self.view_is)

pub returns-clause-ok : goal.returns-clause-ok
returns-clause-ok c =
    worked_view c.self.inside c.self.invariant c.act.new.self (c.args.change ∷ []) c.in_ok-act.ensures.ok
    ∙ ap (λ (s : Serial). with_changes s (c.args.change ∷ [])) c.self.view_is
