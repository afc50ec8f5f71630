use Rattle.std.proofs.Common.{[], ap, ◌∙◌}
use Rattle.model.specs.Survivors.{changes_of}
use Rattle.engine.specs.Serial.{Serial, with_changes}
use Rattle.engine.proofs.SerialSteps.{on_err, rows_idle, worked_view, worked_kept, unworked_view}
use Rattle.engine.proofs.serial.SerialStore.take_list.Goals as goal

pub take_list-requires-clause-idle : goal.take_list-requires-clause-idle
take_list-requires-clause-idle c = rows_idle c.self.inside c.self.invariant (ap (λ (s : Serial). s.changes) c.self.view_is ∙ c.requires.none)

pub invariant_of-self : goal.invariant_of-self
invariant_of-self c = worked_kept c.self.inside c.self.invariant c.take_list.new.self [] c.in_err-take_list.ensures.err

pub invariant_of-self-2 : goal.invariant_of-self-2
invariant_of-self-2 c = worked_kept c.self.inside c.self.invariant c.take_list.new.self (changes_of c.args.items.items) c.in_ok-take_list.ensures.ok

pub returns-in_err-take_list-clause-err : goal.returns-in_err-take_list-clause-err
returns-in_err-take_list-clause-err c =
    on_err c.from_residual.result _ (unworked_view c.self.inside c.self.invariant c.take_list.new.self c.in_err-take_list.ensures.err ∙ c.self.view_is)

pub returns-clause-ok : goal.returns-clause-ok
returns-clause-ok c =
    worked_view c.self.inside c.self.invariant c.take_list.new.self (changes_of c.args.items.items) c.in_ok-take_list.ensures.ok
    ∙ ap (λ (s : Serial). with_changes s (changes_of c.args.items.items)) c.self.view_is
