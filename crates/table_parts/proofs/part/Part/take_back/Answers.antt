use Rattle.table_parts.proofs.Attempts.{BackThen, back_then, left_none, left_waiting}
use Rattle.table_parts.proofs.part.Part.take_back.Goals as goal

pub returns-in-Some-clause-left : goal.returns-in-Some-clause-left
returns-in-Some-clause-left c = λ p share mark d is.
    let back : BackThen p share mark d c.args.attempt c.args.self.now c.args.t.now is c.back_to.new.self c.back_to.new.t =
    back_then p share mark d c.args.attempt c.args.self.now c.args.t.now is c.back_to.new.self c.back_to.new.t c.back_to.ensures.in_part c.back_to.ensures.ticket
    c.back_to.ensures.number c.back_to.ensures.same c.back_to.ensures.end in
    left_waiting p share mark d c.args.attempt c.args.self.now c.args.t.now is c.back_to.new.self c.back_to.new.t back c.in-Some.mark c.in-Some.change c.in-Some.is
    c.wait_with.new.self c.wait_with.new.t c.wait_with.ensures.in_part c.wait_with.ensures.ticket c.wait_with.ensures.number c.wait_with.ensures.same c.wait_with.ensures.end

pub returns-in-None-clause-left : goal.returns-in-None-clause-left
returns-in-None-clause-left c = λ p share mark d is.
    let back : BackThen p share mark d c.args.attempt c.args.self.now c.args.t.now is c.back_to.new.self c.back_to.new.t =
    back_then p share mark d c.args.attempt c.args.self.now c.args.t.now is c.back_to.new.self c.back_to.new.t c.back_to.ensures.in_part c.back_to.ensures.ticket
    c.back_to.ensures.number c.back_to.ensures.same c.back_to.ensures.end in
    left_none p share mark d c.args.attempt c.args.self.now c.args.t.now is c.back_to.new.self c.back_to.new.t back c.in-None.is
