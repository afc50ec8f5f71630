-- What a store keeps where a subtransaction is rolled back.
--     can_since      what a rollback is to undo can be undone
--     kept_back      the store after it
use Rattle.std.proofs.Common.{◌≡◌, ◌≢◌, ℕ, List, [], ◌∷◌, ◌++◌, take, drop, Option, Some, None, map, refl, sym, ap, subst, ◌∙◌, append-nil}
use Rattle.std.specs.List.{Contains}
use Rattle.std.specs.FinMap.{get}
use Rattle.std.specs.Option.{option_map}
use Rattle.std.proofs.lemmas.List.{take-append-drop}
use Rattle.std.proofs.lemmas.List.Elements.{Contains-append_right}
use Rattle.model.specs.declared.change.Change as change_type
use Rattle.model.specs.declared.cell.Cell.{Cell}
use Rattle.model.specs.declared.item.Item.{Item}
use Rattle.model.specs.declared.item.Item.TheVariants.{BackTo}
use Rattle.model.specs.Rows.{Schema}
use Rattle.model.specs.Effect.{serial, all_back}
use Rattle.model.specs.Footprint.{held_cells}
use Rattle.model.specs.Survivors.{survivors, after_item, changes_of}
use Rattle.model.specs.SurvivorLemmas.{survivors_with, changes_of_both}
use Rattle.model.specs.SerialLemmas.{held_append}
use Rattle.indexes.specs.Content.{Content, KeepsCells}
use Rattle.change.specs.declared.inverse.Inverse.{Inverse}
use Rattle.change.specs.Inverse.{edits_of}
use Rattle.undo.specs.Undo.{content_undone, CanUndo}
use Rattle.undo.specs.UndoLemmas.{rows_undone, schema_undone, CanUndo_keeps, CanUndo_both}
use Rattle.undo.specs.Others.{all_altered}
use Rattle.undo.specs.OthersLemmas.{CanUndo_past_undo}
use Rattle.undo.specs.LogOf.{IsLogOf}
use Rattle.undo.specs.LogLemmas.{log_valid, log_undone, log_altered, log_rest, apart_of_fewer}
use Rattle.savepoint.specs.declared.mark.Mark.{Mark}
use Rattle.savepoint.specs.declared.record.CutPoint.{CutPoint}
use Rattle.savepoint.specs.Savepoints.{mark_at, before_mark}
use Rattle.savepoint.specs.Record.{Record, AllAreNamed, after_mark, up_to_mark, inverses_since, inverses_before}
use Rattle.savepoint.specs.RecordInside.{marks_of}
use Rattle.savepoint.proofs.Marked.{marked_uncut, marked_before, survivors_cut, survivors_kept, mark_at-marks_of, before_mark-marks_of}
use Rattle.world.specs.World.{Opened, World, work, holds}
use Rattle.world.specs.Live.{IsLive}
use Rattle.world.specs.Steps.{done_with}
use Rattle.world.specs.FineLemmas.{fine_back}
use Rattle.world.specs.Fine.{IsFine}
use Rattle.world.specs.ListingLemmas.{got_other}
use Rattle.world.specs.WorldLemmas.{live_cut}
use Rattle.world.specs.BackLemmas.{valid_back}
use Rattle.live_tables.specs.KeptRecords.{IsRecordOf, Represents, IsPutAt}
use Rattle.live_tables.specs.RecordLemmas.{AreLogs, has_logs, logs_of, logs_cut}
use Rattle.live_tables.specs.KeptLemmas.{log_of_work, kept_put}

-- what a rollback is to undo can be undone
pub can_since : (t : Content) (sub : ℕ) (r : Record) → CanUndo t r.log.inverses → CanUndo t (inverses_since sub r)
can_since t sub r can = by_mark (mark_at sub r.marks)
  where
    by_mark : (mark : Option Mark) → CanUndo t (after_mark mark r.log.inverses)
    by_mark None = tt
    by_mark (Some mark) =
        (CanUndo_both t (take mark.undo r.log.inverses) (drop mark.undo r.log.inverses)
        (subst (CanUndo t) (sym (take-append-drop mark.undo r.log.inverses)) can)).0

module _ (schema : Schema) (t : Content) (w : World) (records : ℕ → Option Record) (kept : Represents schema t w records)
    (xid : ℕ) (o : Opened) (is : get w.opened xid ≡ Some o) (r : Record) (tells : IsRecordOf schema w xid o r) (can : CanUndo t r.log.inverses) (sub : ℕ)
    (new : Content) (after : ℕ → Option Record) (s : Record) (put : IsPutAt records xid (Some s) after) (schema_is : new.schema ≡ schema) (top : s.top ≡ r.top) (named : AllAreNamed s) where
  abbrev then_back : World
  then_back = done_with w xid o (BackTo sub)

  fine : IsFine schema then_back
  fine = fine_back schema w kept.fine xid o sub is

  -- these items are left, with these inverses, and the others were undone
  module _ (items : List Item) (gone : List change_type.Change) (points : List (ℕ × CutPoint)) (front rest : List Inverse)
      (left : survivors xid (o.items ++ BackTo sub ∷ []) ≡ items) (was : work xid o ≡ changes_of items ++ gone) (both : r.log.inverses ≡ front ++ rest)
      (are : AreLogs schema w.committed xid items points front)
      (survivors_are : s.survivors ≡ items) (marks : s.marks ≡ marks_of points) (undo : s.log.inverses ≡ front)
      (rows : new.rows ≡ all_back t.rows (map edits_of rest)) (room : KeepsCells (content_undone t rest).room new.room) where
    log_gone : IsLogOf schema (serial schema w.committed (changes_of items)) gone rest
    log_gone =
        log_rest schema w.committed (changes_of items) gone front rest
        (subst (λ (js : List Inverse). IsLogOf schema w.committed (changes_of items ++ gone) js) both
        (subst (λ cs. IsLogOf schema w.committed cs r.log.inverses) was (log_of_work schema w xid o r tells))) are.log

    undone : new.rows ≡ (content_undone t rest).rows
    undone = rows ∙ sym (rows_undone t rest)

    live : IsLive schema then_back new.rows
    live =
        subst (IsLive schema then_back) (sym (undone ∙ log_undone schema t (serial schema w.committed (changes_of items)) gone rest log_gone))
        (live_cut schema w kept.fine t.rows kept.live xid o is sub (changes_of items) gone was (ap changes_of left) fine)

    parts : CanUndo t rest × CanUndo (content_undone t rest) front
    parts = CanUndo_both t front rest (subst (CanUndo t) both can)

    altered_held : KeepsCells (all_altered rest) (holds schema w xid o)
    altered_held cell there =
        subst (λ (cells : List Cell). Contains cells cell)
        (sym (ap (held_cells schema w.committed) was ∙ held_append schema w.committed (changes_of items) gone))
        (Contains-append_right (held_cells schema w.committed (changes_of items)) (held_cells schema (serial schema w.committed (changes_of items)) gone) cell
        (log_altered schema (serial schema w.committed (changes_of items)) gone rest log_gone cell there))

    others_can : (other : ℕ) (p : Opened) (q : Record) → other ≢ xid → get w.opened other ≡ Some p → IsRecordOf schema w other p q
        → CanUndo t q.log.inverses → CanUndo new q.log.inverses
    others_can other p q differs at theirs their_can =
        CanUndo_past_undo t new q.log.inverses rest (schema_is ∙ sym kept.schema_is) undone room
        (apart_of_fewer (all_altered q.log.inverses) (holds schema w other p) (all_altered rest) (holds schema w xid o)
        (log_altered schema w.committed (work other p) q.log.inverses (log_of_work schema w other p q theirs)) altered_held (kept.fine.apart other xid p o differs at is))
        (log_valid schema new schema_is w.committed (work other p) q.log.inverses (log_of_work schema w other p q theirs)
        (valid_back schema then_back fine other p (got_other w.opened xid (record { items = o.items ++ BackTo sub ∷ []; wants = None }) other differs ∙ at) new.rows live))
        their_can

    kept_left : Represents schema new then_back after
    kept_left =
        kept_put schema t w records kept xid (record { items = o.items ++ BackTo sub ∷ []; wants = None }) w.stopped new after s put schema_is fine live
        (record {
          top = top ∙ tells.top;
          survives = survivors_are ∙ sym left;
          named = named;
          logs = has_logs schema w.committed xid items points front are s survivors_are marks undo;
        })
        (subst (CanUndo new) (sym undo)
        (CanUndo_keeps (content_undone t rest) new (schema_undone t rest ∙ kept.schema_is ∙ sym schema_is) (sym undone) room front parts.1))
        others_can

  -- the items that a rollback leaves
  abbrev left_items : List Item
  left_items = after_item xid r.survivors (BackTo sub)

  left_is : survivors xid (o.items ++ BackTo sub ∷ []) ≡ left_items
  left_is = survivors_with xid o.items (BackTo sub) ∙ ap (λ (js : List Item). after_item xid js (BackTo sub)) (sym tells.survives)

  work_is : (items : List Item) (dropped : List Item) → r.survivors ≡ items ++ dropped → work xid o ≡ changes_of items ++ changes_of dropped
  work_is items dropped split = ap changes_of (sym tells.survives ∙ split) ∙ changes_of_both items dropped

  pub kept_back : s.survivors ≡ after_item r.top r.survivors (BackTo sub) → s.marks ≡ before_mark sub r.marks → s.log.inverses ≡ inverses_before sub r
      → new.rows ≡ all_back t.rows (map edits_of (inverses_since sub r)) → KeepsCells (content_undone t (inverses_since sub r)).room new.room
      → Represents schema new then_back after
  kept_back survivors_are marks undo rows room = by_point (mark_at sub tells.logs.points) refl
    where
      kept_marks : s.marks ≡ marks_of (before_mark sub tells.logs.points)
      kept_marks = marks ∙ ap (before_mark sub) tells.logs.marks ∙ before_mark-marks_of sub tells.logs.points

      items_are : s.survivors ≡ left_items
      items_are = survivors_are ∙ ap (λ (n : ℕ). after_item n r.survivors (BackTo sub)) tells.top

      mark_is : (found : Option CutPoint) → mark_at sub tells.logs.points ≡ found → mark_at sub r.marks ≡ option_map (λ (p : CutPoint). p.mark) found
      mark_is found at = ap (mark_at sub) tells.logs.marks ∙ mark_at-marks_of sub tells.logs.points ∙ ap (option_map (λ (p : CutPoint). p.mark)) at

      by_point : (found : Option CutPoint) → mark_at sub tells.logs.points ≡ found → Represents schema new then_back after
      by_point None at =
          let same : left_items ≡ r.survivors = survivors_kept xid r.survivors tells.logs.points r.log.inverses tells.logs.marked sub at in
          let since : inverses_since sub r ≡ [] = ap (λ m. after_mark m r.log.inverses) (mark_is None at) in
          let before : inverses_before sub r ≡ r.log.inverses = ap (λ m. up_to_mark m r.log.inverses) (mark_is None at) in
          kept_left r.survivors [] (before_mark sub tells.logs.points) r.log.inverses [] (left_is ∙ same)
          (work_is r.survivors [] (sym (append-nil r.survivors))) (sym (append-nil r.log.inverses))
          (record {
            marked = marked_uncut xid r.survivors tells.logs.points r.log.inverses tells.logs.marked sub at;
            log = tells.logs.log;
            logs = λ other p there. tells.logs.logs other p (marked_before sub other tells.logs.points p there);
          })
          (items_are ∙ same) kept_marks (undo ∙ before)
          (rows ∙ ap (λ (js : List Inverse). all_back t.rows (map edits_of js)) since)
          (subst (λ (js : List Inverse). KeepsCells (content_undone t js).room new.room) since room)
      by_point (Some p) at =
          let cut : left_items ≡ take p.items r.survivors = survivors_cut xid r.survivors tells.logs.points r.log.inverses tells.logs.marked sub p at in
          let since : inverses_since sub r ≡ drop p.mark.undo r.log.inverses = ap (λ m. after_mark m r.log.inverses) (mark_is (Some p) at) in
          let before : inverses_before sub r ≡ take p.mark.undo r.log.inverses = ap (λ m. up_to_mark m r.log.inverses) (mark_is (Some p) at) in
          kept_left (take p.items r.survivors) (changes_of (drop p.items r.survivors)) (before_mark sub tells.logs.points)
          (take p.mark.undo r.log.inverses) (drop p.mark.undo r.log.inverses) (left_is ∙ cut)
          (work_is (take p.items r.survivors) (drop p.items r.survivors) (sym (take-append-drop p.items r.survivors)))
          (sym (take-append-drop p.mark.undo r.log.inverses))
          (logs_cut schema w.committed xid r.survivors tells.logs.points r.log.inverses (logs_of schema w.committed xid r tells.logs) sub p at)
          (items_are ∙ cut) kept_marks (undo ∙ before)
          (rows ∙ ap (λ (js : List Inverse). all_back t.rows (map edits_of js)) since)
          (subst (λ (js : List Inverse). KeepsCells (content_undone t js).room new.room) since room)
