use Rattle.std.proofs.Common.{◌≡◌, ℕ, [], ◌∷◌, ◌∙◌, sym, ap, subst}
use Rattle.std.specs.Prelude.{Ok, Err}
use Rattle.model.specs.declared.change.Change.TheVariants.{Wipe}
use Rattle.live_tables.specs.declared.answers.Acted.TheVariants.{Done, Held}
use Rattle.live_tables.specs.declared.answers.EngineFault.{EngineFault}
use Rattle.live_tables.specs.declared.answers.Verdict.TheVariants.{Acted}
use Rattle.table_parts.specs.Part.{Part}
use Rattle.table_parts.specs.Several.{Share, FitsOwn, IsAttempted, IsWaiting, IsRefused}
use Rattle.table_parts.proofs.Attempts.{on_err, refused_at_once, attempted, held_up, never_else, refused_as_tried}
use Rattle.table_parts.proofs.part.Part.attempt.Goals as goal
use Rattle.table_parts.proofs.part.Part.attempt.Goals.{After-try_change}

pub returns-in_err-waited-clause-err : goal.returns-in_err-waited-clause-err
returns-in_err-waited-clause-err c =
    on_err c.from_residual.result _
    (subst (λ (q : Part). IsRefused c.args.self.now c.args.t.now q c.wanted.new.t) (sym c.in_err-waited.ensures.same)
    (subst (λ (s : Share). IsRefused c.args.self.now c.args.t.now c.args.self.now s) (sym c.in_err-waited.ensures.ticket)
    (refused_at_once c.args.self.now c.args.t.now c.in_err-waited.ensures.stood)))

pub returns-in_default-clause-err : goal.returns-in_default-clause-err
returns-in_default-clause-err c =
    subst (λ (q : Part). IsRefused c.args.self.now c.args.t.now q c.own_mark.new.t) (sym (c.own_mark.ensures.same ∙ c.in_ok-waited.ensures.same))
    (subst (λ (s : Share). IsRefused c.args.self.now c.args.t.now c.args.self.now s) (sym (c.own_mark.ensures.ticket ∙ c.in_ok-waited.ensures.ticket))
    (refused_at_once c.args.self.now c.args.t.now c.in_ok-waited.ensures.stood))

pub returns-in_err-cut-clause-err : goal.returns-in_err-cut-clause-err
returns-in_err-cut-clause-err c =
    on_err c.from_residual-in_err-cut.result _
    (subst (λ (q : Part). IsRefused c.args.self.now c.args.t.now q c.own_mark.new.t) (sym (c.own_mark.ensures.same ∙ c.in_ok-waited.ensures.same))
    (subst (λ (s : Share). IsRefused c.args.self.now c.args.t.now c.args.self.now s) (sym (c.own_mark.ensures.ticket ∙ c.in_ok-waited.ensures.ticket))
    (refused_at_once c.args.self.now c.args.t.now c.in_ok-waited.ensures.stood)))

module _ (c : After-try_change) where
  part_is : c.own_mark.new.self ≡ c.args.self.now
  part_is = c.own_mark.ensures.same ∙ c.in_ok-waited.ensures.same

  ticket_is : c.own_mark.new.t ≡ c.args.t.now
  ticket_is = c.own_mark.ensures.ticket ∙ c.in_ok-waited.ensures.ticket

  cut_is : c.in_ok-cut.cut ≡ Wipe (c.args.self.now.number ∷ [])
  cut_is = c.in_ok-cut.ensures ∙ ap (λ n. Wipe (n ∷ [])) (c.number.ensures ∙ ap (λ (p : Part). p.number) part_is)

  done : c.try_change.result ≡ Ok (Acted Done) → IsAttempted c.args.self.now c.args.t.now c.args.mark (Wipe (c.args.self.now.number ∷ []))
      (record { own = c.in-Some.own; waited = c.in_ok-waited.waited }) c.try_change.new.self c.try_change.new.t
  done is =
      attempted c.args.self.now c.args.t.now c.own_mark.new.self c.own_mark.new.t c.in_ok-cut.cut part_is ticket_is cut_is c.in_ok-waited.ensures.stood c.in-Some.own
      c.try_change.result c.try_change.new.self c.try_change.new.t c.try_change.ensures.in_part c.try_change.ensures.ticket c.try_change.ensures.number c.try_change.ensures.same
      c.try_change.ensures.end is c.args.mark c.in_ok-waited.waited
      (subst (λ (s : Share). FitsOwn s c.args.mark c.in-Some.own) c.in_ok-waited.ensures.ticket c.in-Some.ensures.fits)
      c.in_ok-waited.ensures.wanted c.in_ok-waited.ensures.named

  held : (holder : ℕ) → c.try_change.result ≡ Ok (Acted (Held holder)) → IsWaiting c.args.self.now c.args.t.now holder c.try_change.new.self c.try_change.new.t
  held holder is =
      held_up c.args.self.now c.args.t.now c.own_mark.new.self c.own_mark.new.t c.in_ok-cut.cut part_is ticket_is cut_is c.in_ok-waited.ensures.stood c.in-Some.own
      c.try_change.result c.try_change.new.self c.try_change.new.t c.try_change.ensures.in_part c.try_change.ensures.ticket c.try_change.ensures.number c.try_change.ensures.same
      c.try_change.ensures.end holder is

  refused : (fault : EngineFault) → c.try_change.result ≡ Err fault → IsRefused c.args.self.now c.args.t.now c.try_change.new.self c.try_change.new.t
  refused fault is =
      refused_as_tried c.args.self.now c.args.t.now c.own_mark.new.self c.own_mark.new.t c.in_ok-cut.cut part_is ticket_is cut_is c.in_ok-waited.ensures.stood c.in-Some.own
      c.try_change.result c.try_change.new.self c.try_change.new.t c.try_change.ensures.in_part c.try_change.ensures.ticket c.try_change.ensures.number c.try_change.ensures.same
      c.try_change.ensures.end fault is

pub returns-in-Err-clause-err : goal.returns-in-Err-clause-err
returns-in-Err-clause-err c = refused (goal.at.returns-in-Err-clause-err c).After-try_change c.in-Err.fault c.in-Err.is

pub returns-in-Ok-Acted-Done-clause-ok : goal.returns-in-Ok-Acted-Done-clause-ok
returns-in-Ok-Acted-Done-clause-ok c =
    done (goal.at.returns-in-Ok-Acted-Done-clause-ok c).After-try_change
    (c.in-Ok-Acted-Done.is ∙ ap Ok (c.in-Ok-Acted-Done.field-0-is ∙ ap Acted c.in-Ok-Acted-Done.field-0-0-is))
