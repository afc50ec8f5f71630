use Rattle.std.proofs.Common.{◌≡◌, ℕ, List, [], Option, Some, None, refl, sym, ap, subst, ◌∙◌, inl, inr}
use Rattle.std.specs.Prelude.{All, option_to_list}
use Rattle.std.proofs.lemmas.List.Elements.{All-cons, All-nil}
use Rattle.model.specs.declared.cell.Cell.{Cell}
use Rattle.model.specs.Footprint.{looked_up}
use Rattle.keyholds.specs.Holds.{cells_held, IsFreeCell, IsCellHeldBy, IsFirstHeldBy}
use Rattle.live_tables.proofs.cells.find_cells.Goals as goal
use Rattle.live_tables.proofs.cells.find_cells.Goals.{in-Some+in_default-other_holder+in-Row-1, in-Some+in_default-other_holder+in-Uniq-1, in-Some+in_default-other_holder+in-Whole-1, in_default}

module _ (held : ℕ → List Cell) (xid : ℕ) where
  -- of a list of one cell
  one_held : (cell : Cell) (cells : List Cell) → option_to_list (Some cell) ≡ cells → (holder : ℕ) → IsCellHeldBy held xid cell holder → IsFirstHeldBy held xid cells holder
  one_held cell cells one holder holds =
      subst (λ (cs : List Cell). IsFirstHeldBy held xid cs holder) one
      (record { address = 0; cell = cell; at = refl; before = All-nil (IsFreeCell held xid); here = holds })

  one_free : (cell : Cell) (cells : List Cell) → option_to_list (Some cell) ≡ cells → IsFreeCell held xid cell → All (IsFreeCell held xid) cells
  one_free cell cells one free = subst (All (IsFreeCell held xid)) one (All-cons (IsFreeCell held xid) cell [] free (All-nil (IsFreeCell held xid)))

  none_free : (found : Option Cell) (cells : List Cell) → option_to_list found ≡ cells → ((cell : Cell) → found ≡ Some cell → ⊥) → All (IsFreeCell held xid) cells
  none_free None cells none not = subst (All (IsFreeCell held xid)) none (All-nil (IsFreeCell held xid))
  none_free (Some cell) cells one not = absurd (not cell refl)

pub returns-in-Some-other_holder : goal.returns-in-Some-other_holder
returns-in-Some-other_holder c =
    inl (one_held (cells_held c.args.holds.now) c.args.xid c.in-Some.cell (looked_up c.args.c.now) (ap option_to_list (sym c.in-Some.is) ∙ c.in_ok-cell.ensures) c.in-Some-other_holder.holder
    c.in-Some-other_holder.ensures.held)

-- the cell of the row is free, where none was found that holds it
row_free : (c : goal.After-drop-cells) → All (IsFreeCell (cells_held c.args.holds.now) c.args.xid) (looked_up c.args.c.now)
row_free c =
    elim c.match-branch-2.branch [
      | in-Some+in_default-other_holder+in-Row-1 w ↦ one_free (cells_held c.args.holds.now) c.args.xid w.in-Some.cell (looked_up c.args.c.now) (ap option_to_list (sym w.in-Some.is) ∙ c.in_ok-cell.ensures) w.in_default-other_holder.ensures.free
      | in-Some+in_default-other_holder+in-Uniq-1 w ↦ one_free (cells_held c.args.holds.now) c.args.xid w.in-Some.cell (looked_up c.args.c.now) (ap option_to_list (sym w.in-Some.is) ∙ c.in_ok-cell.ensures) w.in_default-other_holder.ensures.free
      | in-Some+in_default-other_holder+in-Whole-1 w ↦ one_free (cells_held c.args.holds.now) c.args.xid w.in-Some.cell (looked_up c.args.c.now) (ap option_to_list (sym w.in-Some.is) ∙ c.in_ok-cell.ensures) w.in_default-other_holder.ensures.free
      | in_default w ↦ none_free (cells_held c.args.holds.now) c.args.xid c.in_ok-cell.field-0 (looked_up c.args.c.now) c.in_ok-cell.ensures w.in_default.not-Some
    ]

pub returns-in-Some-free_for : goal.returns-in-Some-free_for
returns-in-Some-free_for c =
    inr (row_free c, subst (λ (cells : List Cell). IsFirstHeldBy (cells_held c.args.holds.now) c.args.xid cells c.in-Some-free_for.holder) (c.as_slice.ensures.value ∙ c.in_ok-cells.ensures) c.in-Some-free_for.ensures.first)

pub returns-in-None : goal.returns-in-None
returns-in-None c =
    let row : All (IsFreeCell (cells_held c.args.holds.now) c.args.xid) (looked_up c.args.c.now) =
    elim c.match-branch-2.branch [
      | in-Some+in_default-other_holder+in-Row-1 w ↦ one_free (cells_held c.args.holds.now) c.args.xid w.in-Some.cell (looked_up c.args.c.now) (ap option_to_list (sym w.in-Some.is) ∙ c.in_ok-cell.ensures) w.in_default-other_holder.ensures.free
      | in-Some+in_default-other_holder+in-Uniq-1 w ↦ one_free (cells_held c.args.holds.now) c.args.xid w.in-Some.cell (looked_up c.args.c.now) (ap option_to_list (sym w.in-Some.is) ∙ c.in_ok-cell.ensures) w.in_default-other_holder.ensures.free
      | in-Some+in_default-other_holder+in-Whole-1 w ↦ one_free (cells_held c.args.holds.now) c.args.xid w.in-Some.cell (looked_up c.args.c.now) (ap option_to_list (sym w.in-Some.is) ∙ c.in_ok-cell.ensures) w.in_default-other_holder.ensures.free
      | in_default w ↦ none_free (cells_held c.args.holds.now) c.args.xid c.in_ok-cell.field-0 (looked_up c.args.c.now) c.in_ok-cell.ensures w.in_default.not-Some
    ] in
    let all = c.in-None.ensures.free.0 refl in (
      record { row = row; all = subst (All (IsFreeCell (cells_held c.args.holds.now) c.args.xid)) (c.as_slice.ensures.value ∙ c.in_ok-cells.ensures) all },
      c.in_ok-cells.ensures,
    )
