-- A truncate of several tables, by the parts of each.
--     shares_of_named      a cell of a table that is named overlaps where the whole table does
--     wipe_free, wipe_held      its tables are free where each is in its part, and held where one is
--     wipe_lifts, wait_lifts      so it is done, or held
use Rattle.std.specs.Prelude.{◌≡◌, ℕ, ◌==◌, Bool, true, false, ◌||◌, List, [], ◌∷◌, map, None, Ok, refl}
use Rattle.std.proofs.Common.{sym, ap, subst, true≢false}
use Rattle.std.specs.List.{AllByRecursion, list_any}
use Rattle.model.specs.declared.change.Change.TheVariants.{Wipe}
use Rattle.model.specs.declared.cell.Cell.{Cell}
use Rattle.model.specs.declared.cell.Cell.TheVariants.{Whole}
use Rattle.model.specs.declared.item.Item.TheVariants.{Change}
use Rattle.model.specs.Rows.{Schema}
use Rattle.model.specs.Cells.{overlaps}
use Rattle.model.specs.Effect.{wipe_edits}
use Rattle.model.specs.Footprint.{footprint, shares_cell}
use Rattle.model.specs.OverlapLemmas.{neither, neither_first}
use Rattle.model.specs.TakenLemmas.{number_is}
use Rattle.world.specs.World.{Opened, World, holds, own_rows, IsHeldBy, IsFree}
use Rattle.world.specs.Steps.{IsDone, Held, Acts, done_with, wanting}
use Rattle.world_parts.specs.ByTable.{names_table}
use Rattle.world_parts.specs.Parts.{IsPartOf}
use Rattle.world_parts.specs.PartLemmas.{free_lifts, held_lifts}
use Rattle.world_parts.specs.Statements.{IsFreeByPart}

free_with : (schema : Schema) (w : World) (xid : ℕ) (cell : Cell) (cells : List Cell) → IsFree schema w xid (cell ∷ [])
    → IsFree schema w xid cells → IsFree schema w xid (cell ∷ cells)
free_with schema w xid cell cells first rest other o differs at =
    neither (list_any (overlaps cell) (holds schema w other o)) (shares_cell cells (holds schema w other o))
    (neither_first _ false (first other o differs at)) (rest other o differs at)

pub wipe_free : (schema : Schema) (w : World) (xid : ℕ) (tables : List ℕ) → AllByRecursion (IsFreeByPart schema w xid) tables
    → IsFree schema w xid (map Whole tables)
wipe_free schema w xid [] all = λ other o differs at. refl
wipe_free schema w xid (table ∷ tables) all =
    free_with schema w xid (Whole table) (map Whole tables)
    (free_lifts schema table w all.0.0 all.0.1 xid (Whole table ∷ []) (refl, tt) all.0.2)
    (wipe_free schema w xid tables all.1)

-- one of these cells overlaps where that of a table among them does
pub shares_of_named : (table : ℕ) (others : List Cell) → list_any (overlaps (Whole table)) others ≡ true → (tables : List ℕ)
    → names_table tables table ≡ true → shares_cell (map Whole tables) others ≡ true
shares_of_named table others is [] named = absurd (true≢false (sym named))
shares_of_named table others is (first ∷ tables) named =
    by_first (table == first) refl named (shares_of_named table others is tables)
  where
    or_true : (a b : Bool) → b ≡ true → (a || b) ≡ true
    or_true true b e = refl
    or_true false b e = e

    by_first : (b : Bool) → (table == first) ≡ b → (b || names_table tables table) ≡ true
        → (names_table tables table ≡ true → shares_cell (map Whole tables) others ≡ true)
        → shares_cell (map Whole (first ∷ tables)) others ≡ true
    by_first true here named rest =
        ap (λ b. b || shares_cell (map Whole tables) others)
        (subst (λ (n : ℕ). list_any (overlaps (Whole n)) others ≡ true) (number_is table first here) is)
    by_first false not named rest =
        or_true (list_any (overlaps (Whole first)) others) (shares_cell (map Whole tables) others) (rest named)

first_of_one : (b : Bool) → (b || false) ≡ true → b ≡ true
first_of_one true e = refl
first_of_one false e = e

pub wipe_held : (schema : Schema) (w part : World) (table : ℕ) → IsPartOf table w part → (xid : ℕ) (tables : List ℕ)
    → names_table tables table ≡ true → (holder : ℕ) → IsHeldBy schema part xid (Whole table ∷ []) holder
    → IsHeldBy schema w xid (map Whole tables) holder
wipe_held schema w part table is xid tables named holder held =
    let lifted : IsHeldBy schema w xid (Whole table ∷ []) holder =
    held_lifts schema table w part is xid (Whole table ∷ []) (refl, tt) holder held in
    (lifted.0, lifted.1, lifted.2, shares_of_named table (holds schema w holder lifted.1) (first_of_one _ lifted.3) tables named)

module _ (schema : Schema) (w : World) (xid : ℕ) (o : Opened) (runs : w.stopped ≡ None) (sub : ℕ) (tables : List ℕ) where
  -- it is done where each of its tables is free
  pub wipe_lifts : AllByRecursion (IsFreeByPart schema w xid) tables
      → Acts schema w xid o sub (Wipe tables) (Ok IsDone) (done_with w xid o (Change sub (Wipe tables)))
  unfolding footprint
  wipe_lifts all = (runs, wipe_free schema w xid tables all, (wipe_edits (own_rows schema w xid o) tables, refl), refl)

  -- it waits where one of them is held
  pub wait_lifts : (table : ℕ) (part : World) → IsPartOf table w part → names_table tables table ≡ true
      → (holder : ℕ) → IsHeldBy schema part xid (Whole table ∷ []) holder
      → Acts schema w xid o sub (Wipe tables) (Ok (Held holder)) (wanting w xid o sub (Wipe tables))
  unfolding footprint
  wait_lifts table part is named holder held = (runs, wipe_held schema w part table is xid tables named holder held, refl)
