use Rattle.std.proofs.Common.{◌≡◌, [], ◌∷◌, false, not, is_some, Option, Some, None, refl, sym, ap, subst, ◌∙◌}
use Rattle.std.specs.Prelude.{Result, Ok, Err, OnOk, IfNone}
use Rattle.std.specs.Result.{is_err}
use Rattle.model.specs.declared.item.Item.TheVariants.{Change}
use Rattle.model.specs.Effect.{outcome, inverse}
use Rattle.model.specs.Footprint.{footprint}
use Rattle.model.specs.EffectLemmas.{effect_skipped}
use Rattle.indexes.specs.Content.{KeepsCells}
use Rattle.savepoint.specs.declared.mark.Mark.{Mark}
use Rattle.change.specs.declared.outcome.Applied.{Applied}
use Rattle.change.specs.Inverse.{edits_of, CanPutBack}
use Rattle.change.specs.Altered.{cells_altered}
use Rattle.change.specs.Applied.{AnswersOutcome, IfDone, room_after}
use Rattle.undo.specs.Undo.{Log}
use Rattle.live_tables.specs.declared.transaction.OpenTransaction.{OpenTransaction}
use Rattle.live_tables.specs.Transactions.{IsAsBefore, HasMadeRoom}
use Rattle.live_tables.specs.MadeRoomLemmas.{waits_made, item_made, same_marks, same_cut}
use Rattle.live_tables.proofs.transaction.OpenTransaction.apply.Goals as goal
use Rattle.live_tables.proofs.transaction.OpenTransaction.apply.Goals.{then-is_first, else-is_first}

-- what is told of a call that was not refused
told : {X E P : Type 0} (r : Result X E) → OnOk r P → is_err r ≡ false → P
told (Ok x) p went = p
told (Err e) p went = absurd cc

pub returns-in-Ok-Done-clause-ok : goal.returns-in-Ok-Done-clause-ok
returns-in-Ok-Done-clause-ok c =
    let made : HasMadeRoom c.args.sub c.args.held c.args.self.now c.make_room.new.self =
    told {P = HasMadeRoom c.args.sub c.args.held c.args.self.now c.make_room.new.self} c.make_room.result c.make_room.ensures.ok (sym c.is_err.ensures.value ∙ c.if-is_err.false) in
    let i = c.in-Ok-Done.inverse in
    let is = c.in-Ok-Done.field-0-is in (
      waits_made c.args.sub c.args.held c.args.self.now c.make_room.new.self made c.keep.new.self c.keep.ensures.more,
      (
        i,
        record {
          schema_is = c.apply.ensures.schema;
          done = subst (λ (a : Applied). AnswersOutcome (outcome c.args.tables.now.schema c.args.tables.now.rows c.args.change) (Ok a)) is c.in-Ok-Done.ensures.answer;
          rows = c.in-Ok-Done.ensures.ok;
          back_is = subst (λ (a : Applied). IfDone (Ok a) (λ j. edits_of j ≡ inverse c.args.tables.now.schema c.args.tables.now.rows c.args.change)) is c.in-Ok-Done.ensures.inverse;
          alters = subst (λ (a : Applied). IfDone (Ok a) (λ j. KeepsCells (cells_altered j) (footprint c.args.tables.now.schema c.args.tables.now.rows c.args.change))) is c.in-Ok-Done.ensures.altered;
          can_back = subst (λ (a : Applied). IfDone (Ok a) (λ j. CanPutBack c.apply.new.t j)) is c.in-Ok-Done.ensures.can_put_back;
          room = subst (λ (a : Applied). KeepsCells c.args.tables.now.room (room_after c.apply.new.t.room (Ok a))) is c.in-Ok-Done.ensures.room;
        },
        item_made c.args.sub c.args.held c.args.self.now c.make_room.new.self made (Change c.args.sub c.args.change) (i ∷ []) c.keep.new.self.record c.keep.ensures.top c.keep.ensures.survivors
            c.keep.ensures.marks c.keep.ensures.inverses c.keep.ensures.named,
      ),
    )

pub returns-in-Ok-Skipped-clause-ok : goal.returns-in-Ok-Skipped-clause-ok
returns-in-Ok-Skipped-clause-ok c =
    let made : HasMadeRoom c.args.sub c.args.held c.args.self.now c.make_room.new.self =
    told {P = HasMadeRoom c.args.sub c.args.held c.args.self.now c.make_room.new.self} c.make_room.result c.make_room.ensures.ok (sym c.is_err.ensures.value ∙ c.if-is_err.false) in
    let is = c.in-Ok-Skipped.field-0-is in
    let skips = subst (λ (a : Applied). AnswersOutcome (outcome c.args.tables.now.schema c.args.tables.now.rows c.args.change) (Ok a)) is c.in-Ok-Skipped.ensures.answer in (
      waits_made c.args.sub c.args.held c.args.self.now c.make_room.new.self made c.keep-in-Ok-Skipped.new.self c.keep-in-Ok-Skipped.ensures.more,
      skips,
      record {
        schema_is = c.apply.ensures.schema;
        rows = c.in-Ok-Skipped.ensures.ok ∙ effect_skipped c.args.tables.now.schema c.args.tables.now.rows c.args.change skips;
        room = subst (λ (a : Applied). KeepsCells c.args.tables.now.room (room_after c.apply.new.t.room (Ok a))) is c.in-Ok-Skipped.ensures.room;
      },
      item_made c.args.sub c.args.held c.args.self.now c.make_room.new.self made (Change c.args.sub c.args.change) [] c.keep-in-Ok-Skipped.new.self.record c.keep-in-Ok-Skipped.ensures.top
          c.keep-in-Ok-Skipped.ensures.survivors c.keep-in-Ok-Skipped.ensures.marks c.keep-in-Ok-Skipped.ensures.inverses c.keep-in-Ok-Skipped.ensures.named,
    )

-- that none names it, where none was there
whole_is : {P : Type 0} (found : Option Mark) → is_some found ≡ false → IfNone found P → P
whole_is None none p = p
whole_is (Some m) none p = absurd cc

same_self : (old new self : OpenTransaction) → self ≡ new → IsAsBefore old new → IsAsBefore old self
same_self old new self is = subst (IsAsBefore old) (sym is)

pub returns-after-is_first-clause-err : goal.returns-after-is_first-clause-err
returns-after-is_first-clause-err c =
    let made : HasMadeRoom c.args.sub c.args.held c.args.self.now c.make_room.new.self =
    told {P = HasMadeRoom c.args.sub c.args.held c.args.self.now c.make_room.new.self} c.make_room.result c.make_room.ensures.ok (sym c.is_err.ensures.value ∙ c.if-is_err.false) in
    record {
      change_is = refl;
      clash = c.in-Err.ensures.answer;
      tables = record { schema_is = c.apply.ensures.schema; rows = c.in-Err.ensures.err; room = c.in-Err.ensures.room };
      kept =
          elim c.if-is_first.branch [
            | then-is_first w ↦
                let none = c.is_none-is_first.ensures ∙ ap not w.if-is_first.true in
                same_self c.args.self.now (record { «record» = w.cut.new.self; wants = c.make_room.new.self.wants; done = c.make_room.new.self.done }) c.if-is_first.self w.self-is
                (record {
                  record_same =
                      same_cut c.args.sub c.args.held c.args.self.now c.make_room.new.self made (ap is_some (sym c.mark_of.ensures.mark) ∙ none)
                      (λ below. whole_is c.mark_of.result none (c.mark_of.ensures.unmarked below)) w.cut.new.self w.cut.ensures.top w.cut.ensures.survivors w.cut.ensures.marks
                      (ap (λ (log : Log). log.inverses) w.cut.ensures.log) (w.cut.ensures.named made.named);
                  wants = made.wants;
                  done = made.done;
                })
            | else-is_first w ↦
                let there = c.is_none-is_first.ensures ∙ ap not w.if-is_first.false in
                same_self c.args.self.now c.make_room.new.self c.if-is_first.self w.self-is
                (record {
                  record_same = same_marks c.args.sub c.args.held c.args.self.now c.make_room.new.self made c.requires.named (ap is_some (sym c.mark_of.ensures.mark) ∙ there);
                  wants = made.wants;
                  done = made.done;
                })
          ];
    }
