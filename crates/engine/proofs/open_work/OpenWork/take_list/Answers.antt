use Rattle.std.proofs.Common.{◌≡◌, ◌++◌, [], List, refl, sym, ap, subst, ◌∙◌, append-nil}
use Rattle.std.specs.Prelude.{map}
use Rattle.model.specs.declared.change.Change.{Change}
use Rattle.model.specs.declared.item.Item.{Item}
use Rattle.model.specs.Effect.{all_back, serial}
use Rattle.model.specs.Rows.{Rows, Schema}
use Rattle.model.specs.Survivors.{changes_of}
use Rattle.model.specs.Accepted.{AreAccepted}
use Rattle.change.specs.declared.inverse.Inverse.{Inverse}
use Rattle.change.specs.Inverse.{edits_of}
use Rattle.undo.specs.UndoLemmas.{CanUndo_keeps}
use Rattle.engine.specs.OpenWork.{Work, HasGrown}
use Rattle.engine.proofs.open_work.OpenWork.take_list.Goals as goal
use Rattle.engine.proofs.open_work.OpenWork.take_list.Goals.{After-apply_each}

pub apply_each-requires-clause-can_undo : goal.apply_each-requires-clause-can_undo
apply_each-requires-clause-can_undo c =
    CanUndo_keeps c.self.inside.live.tables c.make_room.new.tables (sym c.make_room.ensures.schema) (sym c.make_room.ensures.rows) c.make_room.ensures.room c.self.inside.undo.inverses
    c.self.invariant

module _ (c : After-apply_each) where
  schema : c.apply_each.new.tables.schema ≡ c.self.inside.live.tables.schema
  schema = c.apply_each.ensures.schema ∙ c.make_room.ensures.schema

  -- the rows without the work are what they were, and no work was open
  abbrev base_rows : Rows
  base_rows = all_back c.self.inside.live.tables.rows (map edits_of c.self.inside.undo.inverses)

  base : all_back c.apply_each.new.tables.rows (map edits_of c.apply_each.new.undo.inverses) ≡ base_rows
  base = c.apply_each.ensures.base ∙ ap (λ (r : Rows). all_back r (map edits_of c.self.inside.undo.inverses)) c.make_room.ensures.rows

  idle : c.self.inside.live.tables.rows ≡ base_rows
  idle = subst (λ (w : Work). w.live.tables.rows ≡ all_back w.live.tables.rows (map edits_of w.undo.inverses)) (sym c.self.view_is) c.requires.idle

  unchanged : changes_of c.self.inside.items.items ≡ []
  unchanged = ap (λ (w : Work). w.changes) c.self.view_is ∙ c.requires.none

pub returns-in-Err-clause-err : goal.returns-in-Err-clause-err
returns-in-Err-clause-err c =
    let at = (goal.at.returns-in-Err-clause-err c).After-apply_each in
    let left : Work = record { live = record c.self.inside.live { tables = c.undo_to.new.t }; undo = c.undo_to.new.self; changes = changes_of c.self.inside.items.items } in
    let undone : c.undo_to.new.t.rows ≡ base_rows at = c.undo_to.ensures.rows ∙ base at in
    subst (λ (w : Work). HasGrown w [] left) c.self.view_is (record {
      clear = tt;
      rows = undone ∙ sym (idle at);
      base = ap (λ (is : List Inverse). all_back c.undo_to.new.t.rows (map edits_of is)) c.undo_to.ensures.left ∙ undone;
      schema = c.undo_to.ensures.schema ∙ schema at;
      live = refl;
      changes = sym (append-nil (changes_of c.self.inside.items.items));
    })

pub returns-clause-ok : goal.returns-clause-ok
returns-clause-ok c =
    let at = (goal.at.returns-clause-ok c).After-apply_each in
    let cs = changes_of c.args.items.items in
    let grown : Work = record { live = record c.self.inside.live { tables = c.apply_each.new.tables }; undo = c.apply_each.new.undo; changes = cs } in
    subst (λ (w : Work). HasGrown w cs grown) c.self.view_is (record {
      clear =
          subst (λ (keys : Schema). AreAccepted keys c.self.inside.live.tables.rows cs) c.make_room.ensures.schema
          (subst (λ (r : Rows). AreAccepted c.make_room.new.tables.schema r cs) c.make_room.ensures.rows
          (subst (λ (items : List Item). AreAccepted c.make_room.new.tables.schema c.make_room.new.tables.rows (changes_of items)) c.deref-2.ensures.value c.in_default.ensures.clear));
      rows = c.in_default.ensures.ok ∙ (λ i. serial (c.make_room.ensures.schema i) (c.make_room.ensures.rows i) (changes_of (c.deref-2.ensures.value i)));
      base = base at;
      schema = schema at;
      live = refl;
      changes = ap (λ (ds : List Change). ds ++ cs) (sym (unchanged at));
    })
