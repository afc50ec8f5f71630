use Rattle.std.proofs.Common.{[], ◌∷◌, ◌++◌, ◌+◌, ◌-◌, ◌^◌, length, min, refl, sym, ap, ◌∙◌, append-nil}
use Rattle.model.specs.declared.item.Item.TheVariants.{Touch}
use Rattle.live_tables.proofs.transaction.OpenTransaction.touch.Goals as goal

pub returns-clause-ok : goal.returns-clause-ok
returns-clause-ok c =
    let room = c.in_ok-make_room.ensures.ok in
    let kept = c.keep_touch.ensures in
    record {
      more = record { wants = refl; done = c.saturating_add-self.ensures ∙ ap (λ n. min (n + 1) (2 ^ 64 - 1)) room.done };
      item = record {
        mark = record { undo = length c.args.self.now.record.log.inverses; held = c.args.held };
        undo = refl;
        top = kept.top ∙ room.top;
        survivors = kept.survivors ∙ ap (λ is. is ++ Touch c.args.sub ∷ []) room.survivors;
        marks = kept.marks ∙ room.marks;
        inverses = ap (λ l. l.inverses) kept.log ∙ room.inverses ∙ sym (append-nil _);
        named = kept.named;
      };
      mark_held = refl;
    }
