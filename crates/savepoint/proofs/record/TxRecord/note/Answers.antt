use Rattle.std.proofs.Common.{ap, ◌∙◌}
use Rattle.std.proofs.lemmas.Result.{on_ok_weaker}
use Rattle.savepoint.specs.declared.mark.Mark.{Mark}
use Rattle.savepoint.proofs.Marked.{marked_after_note, note_seen, noted_there, named_noted}
use Rattle.savepoint.proofs.record.TxRecord.note.Goals as goal

pub invariant_of-self : goal.invariant_of-self
invariant_of-self c =
    let a = c.self.inside in
    marked_after_note a.top a.survivors.items a.savepoints a.undo.inverses c.self.invariant c.args.sub (record { items = c.len-items.result; mark = record { undo = c.mark.result; held = c.args.held } })
    c.if-sub-self.false (c.len-items.ensures ∙ a.survivors.ok.0) c.mark.ensures c.note.result c.note.new.self c.note.ensures.ok c.note.ensures.err

pub returns-clause-ok : goal.returns-clause-ok
returns-clause-ok c = on_ok_weaker c.note.result (λ e.
    note_seen c.self.inside c.args.self.now c.self.view_is c.args.sub (record { items = c.len-items.result; mark = record { undo = c.mark.result; held = c.args.held } }) c.note.new.self c.args.held
    c.if-sub-self.false (ap (λ n. let m : Mark = record { undo = n; held = c.args.held } in m) c.mark.ensures) e) c.note.ensures.ok

pub returns-clause-noted : goal.returns-clause-noted
returns-clause-noted c = on_ok_weaker c.note.result (λ e differs. noted_there c.args.sub _ c.self.inside.savepoints c.note.new.self e) c.note.ensures.ok

pub returns-clause-named : goal.returns-clause-named
returns-clause-named c named =
    named_noted c.self.inside c.args.self.now c.self.view_is c.args.sub named (record { items = c.len-items.result; mark = record { undo = c.mark.result; held = c.args.held } }) c.note.result c.note.new.self c.note.ensures.ok c.note.ensures.err
