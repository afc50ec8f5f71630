use Rattle.std.proofs.Common.{◌≡◌, take, Some, sym, ◌∙◌}
use Rattle.savepoint.specs.Savepoints.{mark_at, before_mark}
use Rattle.savepoint.proofs.Marked.{marked_cut, named_cut, named_uncut, all_named, are_named, marked_uncut, survivors_cut, survivors_kept, cut_seen, marks_cut}
use Rattle.savepoint.proofs.record.TxRecord.cut.Goals as goal

pub invariant_of-self : goal.invariant_of-self
invariant_of-self c =
    let a = c.self.inside in
    let at : mark_at c.args.sub a.savepoints ≡ Some c.in-Some.point = sym c.in-Some.ensures.mark in
    let bounds = c.self.invariant.within c.args.sub c.in-Some.point at in
    rw (c.truncate.ensures.items, c.in-Some.ensures.rest)
    (marked_cut a.top a.survivors.items a.savepoints a.undo.inverses c.self.invariant c.args.sub c.in-Some.point a.undo.inverses at bounds.1)

pub invariant_of-self-in_default : goal.invariant_of-self-in_default
invariant_of-self-in_default c =
    let a = c.self.inside in
    rw c.in_default.ensures.rest (marked_uncut a.top a.survivors.items a.savepoints a.undo.inverses c.self.invariant c.args.sub (sym c.in_default.ensures.mark))

pub returns-in-Some-clause-survivors : goal.returns-in-Some-clause-survivors
returns-in-Some-clause-survivors c =
    let a = c.self.inside in
    let at : mark_at c.args.sub a.savepoints ≡ Some c.in-Some.point = sym c.in-Some.ensures.mark in
    c.truncate.ensures.items ∙ sym (survivors_cut a.top a.survivors.items a.savepoints a.undo.inverses c.self.invariant c.args.sub c.in-Some.point at) ∙ cut_seen a c.args.self.now c.self.view_is c.args.sub

pub returns-in_default-clause-survivors : goal.returns-in_default-clause-survivors
returns-in_default-clause-survivors c =
    let a = c.self.inside in
    sym (survivors_kept a.top a.survivors.items a.savepoints a.undo.inverses c.self.invariant c.args.sub (sym c.in_default.ensures.mark)) ∙ cut_seen a c.args.self.now c.self.view_is c.args.sub

pub returns-in-Some-clause-marks : goal.returns-in-Some-clause-marks
returns-in-Some-clause-marks c = marks_cut c.self.inside c.args.self.now c.self.view_is c.args.sub c.cut.new.self c.in-Some.ensures.rest

pub returns-in_default-clause-marks : goal.returns-in_default-clause-marks
returns-in_default-clause-marks c = marks_cut c.self.inside c.args.self.now c.self.view_is c.args.sub c.cut.new.self c.in_default.ensures.rest

pub returns-in-Some-clause-named : goal.returns-in-Some-clause-named
returns-in-Some-clause-named c named =
    let a = c.self.inside in
    let at : mark_at c.args.sub a.savepoints ≡ Some c.in-Some.point = sym c.in-Some.ensures.mark in
    rw (c.truncate.ensures.items, c.in-Some.ensures.rest)
    (all_named (take c.in-Some.point.items a.survivors.items) (before_mark c.args.sub a.savepoints) (named_cut a.top a.survivors.items a.savepoints a.undo.inverses c.self.invariant c.args.sub c.in-Some.point at (are_named a c.args.self.now c.self.view_is c.args.sub named)))

pub returns-in_default-clause-named : goal.returns-in_default-clause-named
returns-in_default-clause-named c named =
    named_uncut c.self.inside c.args.self.now c.self.view_is c.args.sub (sym c.in_default.ensures.mark) named c.cut.new.self c.in_default.ensures.rest
