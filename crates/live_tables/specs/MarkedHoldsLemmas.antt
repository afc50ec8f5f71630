-- The laws of holds and savepoints.
use Rattle.std.proofs.Common.{◌≡◌, ◌≢◌, ℕ, true, false, List, [], ◌∷◌, ◌++◌, take, Option, Some, None, refl, sym, ap, subst, ◌∙◌, inl, inr, is_some}
use Rattle.std.specs.Prelude.{if◌then◌else◌}
use Rattle.std.proofs.lemmas.Bool.{cases_eq, eq-eqb, ne_eqb}
use Rattle.model.specs.declared.cell.Cell.{Cell}
use Rattle.model.specs.declared.item.Item.{Item}
use Rattle.model.specs.declared.item.Item.TheVariants.{BackTo}
use Rattle.model.specs.Rows.{Schema}
use Rattle.model.specs.Footprint.{held_cells, shares_cell}
use Rattle.model.specs.Survivors.{before_savepoint, after_item, changes_of}
use Rattle.model.specs.SurvivorLemmas.{survivors_with}
use Rattle.savepoint.specs.declared.mark.Mark.{Mark}
use Rattle.savepoint.specs.Savepoints.{mark_at, before_mark}
use Rattle.savepoint.specs.Record.{Record}
use Rattle.savepoint.proofs.Cutting.{before_mark-unmarked}
use Rattle.savepoint.proofs.Marked.{marked-marks_of}
use Rattle.world.specs.World.{Opened, World, work, holds}
use Rattle.world.specs.FineLemmas.{committed_valid}
use Rattle.live_tables.specs.KeptRecords.{IsRecordOf}
use Rattle.live_tables.specs.Held.{HasSameCells, HasHeldMarks, up_to_held}
use Rattle.live_tables.specs.HoldsLemmas.{holds_put}
use Rattle.live_tables.specs.MarksLemmas.{unmarked_whole, marks_same, marks_more, marks_cut, marks_past}
use Rattle.live_tables.specs.Statements.{ItemKeepsMarks, RollbackKeepsMarks, RollbackIsHeld, CommitKeepsMarks}

pub item_keeps_marks : ItemKeepsMarks
item_keeps_marks schema w xid o r s tells cells more had its sub item names inverses has held front longer =
    marks_more schema w.committed xid r s cells more had
    (subst (λ (js : List Item). HasSameCells cells (held_cells schema w.committed (changes_of js))) (sym tells.survives) its)
    sub item names tells.named has.survivors front longer has.mark held (unmarked_whole schema w.committed xid r tells.logs sub) has.marks

module _ (schema : Schema) (w : World) (xid : ℕ) (o : Opened) (r : Record) (tells : IsRecordOf schema w xid o r) (sub : ℕ) where
  -- the top transaction has no savepoint
  below_top : (m : Mark) → mark_at sub r.marks ≡ Some m → sub ≢ xid
  below_top m at same =
      let none : is_some (mark_at sub r.marks) ≡ false =
      ap (λ (n : ℕ). is_some (mark_at n r.marks)) same ∙ ap (λ (ms : List (ℕ × Mark)). is_some (mark_at xid ms)) tells.logs.marks
      ∙ marked-marks_of xid tells.logs.points ∙ ap is_some tells.logs.marked.top_unmarked in
      let both : true ≡ false = sym (ap is_some at) ∙ none in cc

  left_by_mark : (m : Mark) → mark_at sub r.marks ≡ Some m → after_item xid r.survivors (BackTo sub) ≡ before_savepoint sub r.survivors
  left_by_mark m at = ap (λ b. if b then r.survivors else before_savepoint sub r.survivors) (ne_eqb sub xid (below_top m at))

  left_whole : mark_at sub r.marks ≡ None → after_item xid r.survivors (BackTo sub) ≡ r.survivors
  left_whole none =
      elim (cases_eq sub xid) [
        | inl same ↦ ap (λ b. if b then r.survivors else before_savepoint sub r.survivors) (eq-eqb sub xid same)
        | inr below ↦
            ap (λ b. if b then r.survivors else before_savepoint sub r.survivors) (ne_eqb sub xid below)
            ∙ unmarked_whole schema w.committed xid r tells.logs sub below (ap is_some none)
      ]

  marks_back : (s : Record) (cells : List Cell) → HasHeldMarks schema w.committed r cells → s.survivors ≡ after_item xid r.survivors (BackTo sub)
      → s.marks ≡ before_mark sub r.marks → (found : Option Mark) → mark_at sub r.marks ≡ found → HasHeldMarks schema w.committed s (up_to_held found cells)
  marks_back s cells had items marks None at =
      marks_same schema w.committed r s cells (items ∙ left_whole at) (marks ∙ before_mark-unmarked sub r.marks (ap is_some at)) had
  marks_back s cells had items marks (Some m) at =
      marks_cut schema w.committed r s cells had sub m at (items ∙ left_by_mark m at) marks

  cells_back : (cells : List Cell) → HasHeldMarks schema w.committed r cells → HasSameCells cells (held_cells schema w.committed (changes_of r.survivors))
      → (found : Option Mark) → mark_at sub r.marks ≡ found
      → HasSameCells (up_to_held found cells) (held_cells schema w.committed (changes_of (after_item xid r.survivors (BackTo sub))))
  cells_back cells had its None at =
      subst (λ (js : List Item). HasSameCells cells (held_cells schema w.committed (changes_of js))) (sym (left_whole at)) its
  cells_back cells had its (Some m) at =
      subst (λ (js : List Item). HasSameCells (take m.held cells) (held_cells schema w.committed (changes_of js))) (sym (left_by_mark m at)) (had.before sub m at)

pub rollback_keeps_marks : RollbackKeepsMarks
rollback_keeps_marks schema w xid o r s tells cells had sub items marks = marks_back schema w xid o r tells sub s cells had items marks (mark_at sub r.marks) refl

pub rollback_is_held : RollbackIsHeld
rollback_is_held schema w held are xid o is r tells had sub new at =
    holds_put schema w held are xid o is (record { items = o.items ++ BackTo sub ∷ []; wants = None }) w.stopped new at.beside
    (subst (λ (js : List Item). HasSameCells (new xid) (held_cells schema w.committed (changes_of js)))
    (ap (λ (js : List Item). after_item xid js (BackTo sub)) tells.survives ∙ sym (survivors_with xid o.items (BackTo sub)))
    (subst (λ (cs : List Cell). HasSameCells cs (held_cells schema w.committed (changes_of (after_item xid r.survivors (BackTo sub))))) (sym at.here)
    (cells_back schema w xid o r tells sub (held xid) had
    (subst (λ (js : List Item). HasSameCells (held xid) (held_cells schema w.committed (changes_of js))) (sym tells.survives) (are.its xid o is))
    (mark_at sub r.marks) refl)))

pub commit_keeps_marks : CommitKeepsMarks
commit_keeps_marks schema w fine xid o is other p differs at r tells cells had =
    marks_past schema w.committed (committed_valid schema w fine) r cells (work xid o)
    (ap (λ (js : List Item). shares_cell (held_cells schema w.committed (changes_of js)) (holds schema w xid o)) tells.survives
    ∙ fine.apart other xid p o differs at is) had
