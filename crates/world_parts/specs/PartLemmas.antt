-- What is so in a part is so in its world.
--     own_at, outcome_at, footprint_at      what a transaction sees of a table, and what a change of the table does and meets there
--     free_lifts, held_lifts      cells of the table are free, or held, in the world where they are in the part
--     free_here      and free in the part where they are in the world
--     clashing_lifts      a change of the table clashes in the world where it does in the part
--     acts_lifts      and comes there to what it comes to in the part
use Rattle.std.specs.Prelude.{◌≡◌, ℕ, true, false, List, Option, Some, None, Ok, refl}
use Rattle.std.proofs.Common.{sym, ◌∙◌, ap, subst, true≢false}
use Rattle.std.specs.FinMap.{get}
use Rattle.model.specs.declared.change.Change as change_type
use Rattle.model.specs.declared.cell.Cell.{Cell}
use Rattle.model.specs.Rows.{Rows, Schema}
use Rattle.model.specs.Effect.{ClashCause, outcome, serial}
use Rattle.model.specs.Footprint.{footprint, held_cells, shares_cell}
use Rattle.world.specs.World.{Opened, World, own_rows, IsHeldBy, IsFree}
use Rattle.world.specs.Steps.{Acted, IsDone, IsSkipped, Held, Clashed, Acts, IsClashing}
use Rattle.world_parts.specs.ByTable.{rows_at, changes_at, IsIn, AreOf, AreSameIn}
use Rattle.world_parts.specs.ByTableLemmas.{get_rows_here, InTable, in_view, outcome_in, footprint_of, serial_at}
use Rattle.world_parts.specs.HeldLemmas.{footprint_in, shares_at, holds_nothing}
use Rattle.world_parts.specs.Parts.{work_if, own_if, IsPartOf, after_tried}

module _ (schema : Schema) (table : ℕ) (w part : World) (is : IsPartOf table w part) where
  -- what a transaction sees of the table
  pub own_at : (xid : ℕ) → own_if schema part xid ≡ rows_at table (own_if schema w xid)
  own_at xid =
      ap (λ cs. serial schema part.committed cs) (is.work xid)
      ∙ ap (λ (r : Rows). serial schema r (changes_at table (work_if xid (get w.opened xid)))) is.committed
      ∙ sym (serial_at schema table w.committed (work_if xid (get w.opened xid)))

  own_same : (xid : ℕ) → AreSameIn table (own_if schema part xid) (own_if schema w xid)
  own_same xid key =
      ap (λ (r : Rows). get r (table, key)) (own_at xid) ∙ get_rows_here table (own_if schema w xid) key

  -- what a change of the table does there
  pub outcome_at : (xid : ℕ) (c : change_type.Change) → InTable table c
      → outcome schema (own_if schema part xid) c ≡ outcome schema (own_if schema w xid) c
  outcome_at xid c its = outcome_in schema (own_if schema part xid) (own_if schema w xid) table (own_same xid) c its

  -- and which cells it meets
  pub footprint_at : (xid : ℕ) (c : change_type.Change) → InTable table c
      → footprint schema (own_if schema part xid) c ≡ footprint schema (own_if schema w xid) c
  footprint_at xid c its = footprint_in schema (own_if schema part xid) (own_if schema w xid) table (own_same xid) c its

  -- the cells of the table that a transaction holds
  shares_here : (xid : ℕ) (cells : List Cell) → AreOf table cells
      → shares_cell cells (held_cells schema w.committed (work_if xid (get w.opened xid)))
      ≡ shares_cell cells (held_cells schema part.committed (work_if xid (get part.opened xid)))
  shares_here xid cells are =
      shares_at schema table w.committed (work_if xid (get w.opened xid)) cells are
      ∙ ap (λ cs. shares_cell cells (held_cells schema (rows_at table w.committed) cs)) (sym (is.work xid))
      ∙ ap (λ (r : Rows). shares_cell cells (held_cells schema r (work_if xid (get part.opened xid)))) (sym is.committed)

  -- cells that are free in the part are free
  pub free_lifts : (xid : ℕ) (cells : List Cell) → AreOf table cells → IsFree schema part xid cells → IsFree schema w xid cells
  free_lifts xid cells are free other o differs at =
      ap (λ open_one. shares_cell cells (held_cells schema w.committed (work_if other open_one))) (sym at)
      ∙ shares_here other cells are ∙ by_open (get part.opened other) refl
    where
      by_open : (open_one : Option Opened) → get part.opened other ≡ open_one
          → shares_cell cells (held_cells schema part.committed (work_if other open_one)) ≡ false
      by_open None gone = holds_nothing cells
      by_open (Some p) there = free other p differs there

  -- and back
  pub free_here : (xid : ℕ) (cells : List Cell) → AreOf table cells → IsFree schema w xid cells → IsFree schema part xid cells
  free_here xid cells are free other p differs at =
      ap (λ open_one. shares_cell cells (held_cells schema part.committed (work_if other open_one))) (sym at)
      ∙ sym (shares_here other cells are) ∙ by_open (get w.opened other) refl
    where
      by_open : (open_one : Option Opened) → get w.opened other ≡ open_one
          → shares_cell cells (held_cells schema w.committed (work_if other open_one)) ≡ false
      by_open None gone = holds_nothing cells
      by_open (Some o) there = free other o differs there

  -- cells that another holds in the part it holds
  pub held_lifts : (xid : ℕ) (cells : List Cell) → AreOf table cells → (holder : ℕ) → IsHeldBy schema part xid cells holder
      → IsHeldBy schema w xid cells holder
  held_lifts xid cells are holder held =
      by_open (get w.opened holder) refl
    where
      shares : shares_cell cells (held_cells schema w.committed (work_if holder (get w.opened holder))) ≡ true
      shares =
          shares_here holder cells are
          ∙ ap (λ open_one. shares_cell cells (held_cells schema part.committed (work_if holder open_one))) held.2
          ∙ held.3

      by_open : (open_one : Option Opened) → get w.opened holder ≡ open_one → IsHeldBy schema w xid cells holder
      by_open None gone =
          absurd (true≢false (sym shares
          ∙ ap (λ open_one. shares_cell cells (held_cells schema w.committed (work_if holder open_one))) gone
          ∙ holds_nothing cells))
      by_open (Some o) there =
          (held.0, o, there, ap (λ open_one. shares_cell cells (held_cells schema w.committed (work_if holder open_one))) (sym there) ∙ shares)

-- ---- a change that is tried

module _ (schema : Schema) (table : ℕ) (w part : World) (is : IsPartOf table w part)
    (xid : ℕ) (o p : Opened) (at : get w.opened xid ≡ Some o) (here : get part.opened xid ≡ Some p)
    (c : change_type.Change) (inside : IsIn table c) where
  same_view : own_rows schema w xid o ≡ own_if schema w xid
  same_view = ap (λ open_one. serial schema w.committed (work_if xid open_one)) (sym at)

  same_view_here : own_rows schema part xid p ≡ own_if schema part xid
  same_view_here = ap (λ open_one. serial schema part.committed (work_if xid open_one)) (sym here)

  same_outcome : outcome schema (own_rows schema w xid o) c ≡ outcome schema (own_rows schema part xid p) c
  same_outcome =
      ap (λ (r : Rows). outcome schema r c) same_view
      ∙ sym (outcome_at schema table w part is xid c (in_view table c inside))
      ∙ ap (λ (r : Rows). outcome schema r c) (sym same_view_here)

  same_cells : footprint schema (own_rows schema part xid p) c ≡ footprint schema (own_rows schema w xid o) c
  same_cells =
      ap (λ (r : Rows). footprint schema r c) same_view_here
      ∙ footprint_at schema table w part is xid c (in_view table c inside)
      ∙ ap (λ (r : Rows). footprint schema r c) (sym same_view)

  its_cells : AreOf table (footprint schema (own_rows schema w xid o) c)
  its_cells = footprint_of schema (own_rows schema w xid o) table c (in_view table c inside)

  free_too : IsFree schema part xid (footprint schema (own_rows schema part xid p) c)
      → IsFree schema w xid (footprint schema (own_rows schema w xid o) c)
  free_too free =
      free_lifts schema table w part is xid (footprint schema (own_rows schema w xid o) c) its_cells
      (subst (λ cells. IsFree schema part xid cells) same_cells free)

  held_too : (holder : ℕ) → IsHeldBy schema part xid (footprint schema (own_rows schema part xid p) c) holder
      → IsHeldBy schema w xid (footprint schema (own_rows schema w xid o) c) holder
  held_too holder held =
      held_lifts schema table w part is xid (footprint schema (own_rows schema w xid o) c) its_cells holder
      (subst (λ cells. IsHeldBy schema part xid cells holder) same_cells held)

  -- what clashes in the part clashes in the world
  pub clashing_lifts : (cause : ClashCause) → IsClashing schema part xid p c cause → IsClashing schema w xid o c cause
  clashing_lifts cause clashing = (free_too clashing.0, same_outcome ∙ clashing.1)

  -- what comes of it in the part comes of it in the world
  pub acts_lifts : w.stopped ≡ None → (sub mark : ℕ) (answer : Acted) (new : World) → Acts schema part xid p mark c (Ok answer) new
      → Acts schema w xid o sub c (Ok answer) (after_tried w xid o sub c answer)
  acts_lifts runs sub mark IsDone new acts = (runs, free_too acts.1, (acts.2.0, same_outcome ∙ acts.2.1), refl)
  acts_lifts runs sub mark IsSkipped new acts = (runs, free_too acts.1, same_outcome ∙ acts.2, refl)
  acts_lifts runs sub mark (Held holder) new acts = (runs, held_too holder acts.1, refl)
  acts_lifts runs sub mark (Clashed cause) new acts = (runs, free_too acts.1, same_outcome ∙ acts.2, refl)
