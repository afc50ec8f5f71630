use Rattle.std.proofs.Common.{sym, ◌∙◌, ap, subst}
use Rattle.model.specs.Effect.{back}
use Rattle.indexes.specs.Content.{KeepsCells}
use Rattle.change.specs.declared.inverse.Inverse.{Inverse}
use Rattle.change.specs.Inverse.{edits_of, room_back, CanPutBack}
use Rattle.change.specs.Turned.{IsTurned}
use Rattle.change.proofs.inverse.turn_back.Goals as goal

pub put_back_and_keep-requires : goal.put_back_and_keep-requires
put_back_and_keep-requires c = subst (λ (i : Inverse). CanPutBack c.args.t.now i) (sym c.replace-was.ensures.value) c.requires

pub returns-clause-rows : goal.returns-clause-rows
returns-clause-rows c = c.put_back_and_keep.ensures.rows ∙ ap (λ (i : Inverse). back c.args.t.now.rows (edits_of i)) c.replace-was.ensures.value

pub returns-clause-room : goal.returns-clause-room
returns-clause-room c =
    subst (λ (i : Inverse). KeepsCells (room_back c.args.t.now.room i) c.put_back_and_keep.new.t.room) c.replace-was.ensures.value c.put_back_and_keep.ensures.room

pub returns-clause-turned : goal.returns-clause-turned
returns-clause-turned c =
    subst (λ (i : Inverse). IsTurned c.args.t.now.rows i c.put_back_and_keep.result) c.replace-was.ensures.value c.put_back_and_keep.ensures.turned
