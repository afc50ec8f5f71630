use Rattle.std.proofs.Common.{List, sym, subst}
use Rattle.model.specs.Rows.{Rows, Schema}
use Rattle.change.specs.declared.inverse.Inverse.{Inverse}
use Rattle.undo.specs.Undo.{Log, AreSettled}
use Rattle.undo.specs.Vacated.{AreVacated}
use Rattle.undo.proofs.Turning.{vacated}
use Rattle.undo.proofs.log.UndoLog.undo_and_settle.Goals as goal

pub returns-clause-vacated : goal.returns-clause-vacated
returns-clause-vacated c =
    let turned = c.turn_all_back.ensures in
    let settled = c.settle_all.ensures in
    subst (λ (l : Log). AreVacated c.args.t.now.schema c.args.t.now.rows c.settle_all.new.t.rows c.settle_all.new.t.room l.inverses) c.self.view_is
    (vacated c.args.t.now.schema c.settle_all.new.t.rows c.settle_all.new.t.room c.args.t.now.rows c.self.inside.inverses.items c.turn_all_back.new.inverses.items turned.turned
    (subst (λ (s : Schema). AreSettled s c.settle_all.new.t.rows c.settle_all.new.t.room c.turn_all_back.new.inverses.items) turned.schema
    (subst (λ (r : Rows). AreSettled c.turn_all_back.new.t.schema r c.settle_all.new.t.room c.turn_all_back.new.inverses.items) (sym settled.rows)
    (subst (λ (is : List Inverse). AreSettled c.turn_all_back.new.t.schema c.turn_all_back.new.t.rows c.settle_all.new.t.room is) c.as_slice.ensures.value settled.gone))))
