use Rattle.std.proofs.Common.{◌≡◌, List, ◌++◌, [], ◌∷◌, map, Result, Ok, sym, ◌∙◌, ap, subst}
use Rattle.model.specs.Rows.{Rows}
use Rattle.model.specs.Effect.{inverse, outcome, all_back, back}
use Rattle.model.specs.EffectLemmas.{effect_skipped}
use Rattle.indexes.specs.Content.{KeepsCells}
use Rattle.change.specs.declared.inverse.Inverse.{Inverse}
use Rattle.change.specs.declared.outcome.Applied.{Applied}
use Rattle.change.specs.declared.outcome.Applied.TheVariants.{Done, Skipped}
use Rattle.change.specs.declared.outcome.Clash.{Clash}
use Rattle.change.specs.Inverse.{edits_of, CanPutBack}
use Rattle.change.specs.Applied.{AnswersOutcome, IfDone, room_after}
use Rattle.undo.specs.Undo.{CanUndo}
use Rattle.undo.specs.UndoLemmas.{CanUndo_applied, CanUndo_keeps}
use Rattle.undo.proofs.Applied.{rows_back, base_back}
use Rattle.undo.proofs.log.UndoLog.apply.Goals as goal
use Rattle.undo.proofs.log.UndoLog.apply.Goals.{After-push_reserved, In-Ok-Skipped, In-Err}

is_done : (c : After-push_reserved) → c.apply.result ≡ Ok (Done c.in-Ok-Done.inverse)
is_done c = c.in-Ok-Done.is ∙ ap Ok c.in-Ok-Done.field-0-is

is_back : (c : After-push_reserved) → back c.apply.new.t.rows (edits_of c.in-Ok-Done.inverse) ≡ c.args.t.now.rows
is_back c =
    rows_back c.args.t.now c.apply.new.t c.args.change.now c.in-Ok-Done.inverse c.in-Ok-Done.ensures.ok
    (subst (λ (r : Result Applied Clash). IfDone r (λ i. edits_of i ≡ inverse c.args.t.now.schema c.args.t.now.rows c.args.change.now)) (is_done c) c.apply.ensures.inverse)

log_is : (c : After-push_reserved) → c.push_reserved.new.self.inverses ≡ c.args.self.now.inverses ++ c.in-Ok-Done.inverse ∷ []
log_is c = c.push_reserved.ensures.inverses ∙ ap (λ (is : List Inverse). is ++ c.in-Ok-Done.inverse ∷ []) c.in_ok-reserve.ensures.inverses

pub returns-in-Ok-Done-clause-can : goal.returns-in-Ok-Done-clause-can
returns-in-Ok-Done-clause-can c =
    subst (CanUndo c.apply.new.t) (sym (log_is c))
    (CanUndo_applied c.args.t.now c.apply.new.t c.args.self.now.inverses c.in-Ok-Done.inverse c.apply.ensures.schema (is_back c)
    (subst (λ (r : Result Applied Clash). KeepsCells c.args.t.now.room (room_after c.apply.new.t.room r)) (is_done c) c.apply.ensures.room)
    (subst (λ (r : Result Applied Clash). IfDone r (λ i. CanPutBack c.apply.new.t i)) (is_done c) c.apply.ensures.can_put_back)
    c.requires.can)

pub returns-in-Ok-Done-clause-base : goal.returns-in-Ok-Done-clause-base
returns-in-Ok-Done-clause-base c =
    ap (λ (is : List Inverse). all_back c.apply.new.t.rows (map edits_of is)) (log_is c)
    ∙ base_back c.args.t.now c.apply.new.t c.args.self.now.inverses c.in-Ok-Done.inverse (is_back c)

is_skipped : (c : In-Ok-Skipped) → c.apply.result ≡ Ok Skipped
is_skipped c = c.in-Ok-Skipped.is ∙ ap Ok c.in-Ok-Skipped.field-0-is

same_rows : (c : In-Ok-Skipped) → c.apply.new.t.rows ≡ c.args.t.now.rows
same_rows c =
    c.in-Ok-Skipped.ensures.ok
    ∙ effect_skipped c.args.t.now.schema c.args.t.now.rows c.args.change.now
    (subst (AnswersOutcome (outcome c.args.t.now.schema c.args.t.now.rows c.args.change.now)) (is_skipped c) c.apply.ensures.answer)

pub returns-in-Ok-Skipped-clause-can : goal.returns-in-Ok-Skipped-clause-can
returns-in-Ok-Skipped-clause-can c =
    subst (CanUndo c.apply.new.t) (sym c.in_ok-reserve.ensures.inverses)
    (CanUndo_keeps c.args.t.now c.apply.new.t (sym c.apply.ensures.schema) (sym (same_rows c))
    (subst (λ (r : Result Applied Clash). KeepsCells c.args.t.now.room (room_after c.apply.new.t.room r)) (is_skipped c) c.apply.ensures.room)
    c.args.self.now.inverses c.requires.can)

pub returns-in-Ok-Skipped-clause-base : goal.returns-in-Ok-Skipped-clause-base
returns-in-Ok-Skipped-clause-base c =
    ap (λ (is : List Inverse). all_back c.apply.new.t.rows (map edits_of is)) c.in_ok-reserve.ensures.inverses
    ∙ ap (λ (r : Rows). all_back r (map edits_of c.args.self.now.inverses)) (same_rows c)

pub returns-in-Err-clause-can : goal.returns-in-Err-clause-can
returns-in-Err-clause-can c =
    subst (CanUndo c.apply.new.t) (sym c.in_ok-reserve.ensures.inverses)
    (CanUndo_keeps c.args.t.now c.apply.new.t (sym c.apply.ensures.schema) (sym c.in-Err.ensures.err)
    (subst (λ (r : Result Applied Clash). KeepsCells c.args.t.now.room (room_after c.apply.new.t.room r)) c.in-Err.is c.apply.ensures.room)
    c.args.self.now.inverses c.requires.can)
