use Rattle.table_parts.proofs.Attempts.{kept_adopted}
use Rattle.table_parts.proofs.part.Part.keep.Goals as goal

pub returns-then-attempt-mark-clause-kept : goal.returns-then-attempt-mark-clause-kept
returns-then-attempt-mark-clause-kept c = λ p share d is.
    kept_adopted p share c.args.mark d c.args.attempt c.args.self.now c.args.t.now is c.adopt.new.self c.adopt.new.t c.adopt.ensures.in_part c.adopt.ensures.ticket
    c.adopt.ensures.number c.adopt.ensures.same c.adopt.ensures.end
