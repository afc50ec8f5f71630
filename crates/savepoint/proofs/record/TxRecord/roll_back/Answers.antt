use Rattle.std.proofs.Common.{◌≡◌, take, Some, sym, ap, subst, ◌∙◌, arith, map, length-take-le}
use Rattle.std.specs.Option.{option_map}
use Rattle.model.specs.Effect.{all_back}
use Rattle.indexes.specs.Content.{KeepsCells}
use Rattle.change.specs.Inverse.{edits_of}
use Rattle.undo.specs.Undo.{CanUndo, content_undone}
use Rattle.savepoint.specs.declared.record.CutPoint.{CutPoint}
use Rattle.savepoint.specs.Savepoints.{mark_at, before_mark}
use Rattle.savepoint.proofs.Marked.{marked_cut, named_cut, named_uncut, all_named, are_named, marked_uncut, survivors_cut, survivors_kept, mark_seen, cut_seen, marks_cut, since_none, before_none, since_mark, before_point}
use Rattle.savepoint.proofs.record.TxRecord.roll_back.Goals as goal

pub invariant_of-self : goal.invariant_of-self
invariant_of-self c =
    let a = c.self.inside in
    rw c.in_err-point.ensures.rest (marked_uncut a.top a.survivors.items a.savepoints a.undo.inverses c.self.invariant c.args.sub (sym c.in_err-point.ensures.mark))

pub returns-in_err-point-clause-mark : goal.returns-in_err-point-clause-mark
returns-in_err-point-clause-mark c =
    c.from_residual.ensures ∙ ap (option_map (λ (p : CutPoint). p.mark)) c.in_err-point.ensures.mark ∙ sym (mark_seen c.self.inside c.args.self.now c.self.view_is c.args.sub)

pub returns-in_err-point-clause-survivors : goal.returns-in_err-point-clause-survivors
returns-in_err-point-clause-survivors c =
    let a = c.self.inside in
    sym (survivors_kept a.top a.survivors.items a.savepoints a.undo.inverses c.self.invariant c.args.sub (sym c.in_err-point.ensures.mark)) ∙ cut_seen a c.args.self.now c.self.view_is c.args.sub

pub returns-in_err-point-clause-marks : goal.returns-in_err-point-clause-marks
returns-in_err-point-clause-marks c = marks_cut c.self.inside c.args.self.now c.self.view_is c.args.sub c.cut.new.self c.in_err-point.ensures.rest

pub returns-in_err-point-clause-inverses : goal.returns-in_err-point-clause-inverses
returns-in_err-point-clause-inverses c = sym (before_none c.self.inside c.args.self.now c.self.view_is c.args.sub (sym c.in_err-point.ensures.mark))

pub returns-in_err-point-clause-rows : goal.returns-in_err-point-clause-rows
returns-in_err-point-clause-rows c = rw (since_none c.self.inside c.args.self.now c.self.view_is c.args.sub (sym c.in_err-point.ensures.mark))

pub returns-in_err-point-clause-room : goal.returns-in_err-point-clause-room
returns-in_err-point-clause-room c =
    subst (λ is. KeepsCells (content_undone c.args.t.now is).room c.args.t.now.room) (sym (since_none c.self.inside c.args.self.now c.self.view_is c.args.sub (sym c.in_err-point.ensures.mark))) (λ cell has. has)

pub undo_to-requires-clause-mark : goal.undo_to-requires-clause-mark
undo_to-requires-clause-mark c = (c.self.invariant.within c.args.sub c.in_ok-point.point (sym c.in_ok-point.ensures.mark)).1

pub undo_to-requires-clause-can : goal.undo_to-requires-clause-can
undo_to-requires-clause-can c =
    subst (CanUndo c.args.t.now) (since_mark c.self.inside c.args.self.now c.self.view_is c.args.sub c.in_ok-point.point (sym c.in_ok-point.ensures.mark)) c.requires

pub invariant_of-self-2 : goal.invariant_of-self-2
invariant_of-self-2 c =
    let a = c.self.inside in
    let at : mark_at c.args.sub a.savepoints ≡ Some c.in_ok-point.point = sym c.in_ok-point.ensures.mark in
    let bounds = c.self.invariant.within c.args.sub c.in_ok-point.point at in
    let long = length-take-le c.in_ok-point.point.mark.undo a.undo.inverses bounds.1 in
    rw (c.truncate.ensures.items, c.in_ok-point.ensures.rest, c.undo_to.ensures.left)
    (marked_cut a.top a.survivors.items a.savepoints a.undo.inverses c.self.invariant c.args.sub c.in_ok-point.point _ at (omega arith))

pub returns-clause-mark : goal.returns-clause-mark
returns-clause-mark c =
    ap (option_map (λ (p : CutPoint). p.mark)) c.in_ok-point.ensures.mark ∙ sym (mark_seen c.self.inside c.args.self.now c.self.view_is c.args.sub)

pub returns-clause-survivors : goal.returns-clause-survivors
returns-clause-survivors c =
    let a = c.self.inside in
    c.truncate.ensures.items ∙ sym (survivors_cut a.top a.survivors.items a.savepoints a.undo.inverses c.self.invariant c.args.sub c.in_ok-point.point (sym c.in_ok-point.ensures.mark)) ∙ cut_seen a c.args.self.now c.self.view_is c.args.sub

pub returns-clause-marks : goal.returns-clause-marks
returns-clause-marks c = marks_cut c.self.inside c.args.self.now c.self.view_is c.args.sub c.cut.new.self c.in_ok-point.ensures.rest

pub returns-clause-inverses : goal.returns-clause-inverses
returns-clause-inverses c =
    c.undo_to.ensures.left ∙ sym (before_point c.self.inside c.args.self.now c.self.view_is c.args.sub c.in_ok-point.point (sym c.in_ok-point.ensures.mark))

pub returns-clause-rows : goal.returns-clause-rows
returns-clause-rows c =
    c.undo_to.ensures.rows ∙ ap (λ is. all_back c.args.t.now.rows (map edits_of is)) (sym (since_mark c.self.inside c.args.self.now c.self.view_is c.args.sub c.in_ok-point.point (sym c.in_ok-point.ensures.mark)))

pub returns-clause-room : goal.returns-clause-room
returns-clause-room c =
    subst (λ is. KeepsCells (content_undone c.args.t.now is).room c.undo_to.new.t.room) (sym (since_mark c.self.inside c.args.self.now c.self.view_is c.args.sub c.in_ok-point.point (sym c.in_ok-point.ensures.mark)))
    c.undo_to.ensures.room

pub returns-in_err-point-clause-named : goal.returns-in_err-point-clause-named
returns-in_err-point-clause-named c named =
    named_uncut c.self.inside c.args.self.now c.self.view_is c.args.sub (sym c.in_err-point.ensures.mark) named c.cut.new.self c.in_err-point.ensures.rest

pub returns-clause-named : goal.returns-clause-named
returns-clause-named c named =
    let a = c.self.inside in
    let at : mark_at c.args.sub a.savepoints ≡ Some c.in_ok-point.point = sym c.in_ok-point.ensures.mark in
    rw (c.truncate.ensures.items, c.in_ok-point.ensures.rest)
    (all_named (take c.in_ok-point.point.items a.survivors.items) (before_mark c.args.sub a.savepoints) (named_cut a.top a.survivors.items a.savepoints a.undo.inverses c.self.invariant c.args.sub c.in_ok-point.point at (are_named a c.args.self.now c.self.view_is c.args.sub named)))
