-- A truncate of several tables leads on in the part of one of them: it is a step of some world that has the part, though the
-- parts of the other tables are not known.
--     apart_twice      what changes are in one table is nothing in another
--     truncate_leads      it is done, where nobody else holds anything of the table
--     waiting_leads      its transaction waits with it, since another is in the way in another table
use Rattle.std.specs.Prelude.{◌≡◌, ◌≢◌, ℕ, suc, ◌==◌, Bool, true, false, ◌||◌, List, [], ◌∷◌, ◌++◌, Option, Some, None, Ok, refl, map}
use Rattle.std.proofs.Common.{sym, ◌∙◌, ap, subst, append-nil, arith}
use Rattle.std.proofs.lemmas.List.Folds.{list_any-append}
use Rattle.std.specs.FinMap.{get, insert}
use Rattle.std.specs.List.{AllByRecursion, list_any}
use Rattle.model.specs.declared.change.Change as change_type
use Rattle.model.specs.declared.change.Change.TheVariants.{Put, Set, Remove, Wipe}
use Rattle.model.specs.declared.cell.Cell.TheVariants.{Whole}
use Rattle.model.specs.declared.item.Item.{Item}
use Rattle.model.specs.declared.item.Item.TheVariants.{Change}
use Rattle.model.specs.Rows.{Schema}
use Rattle.model.specs.Cells.{overlaps}
use Rattle.model.specs.Effect.{serial}
use Rattle.model.specs.Footprint.{footprint, held_cells, shares_cell}
use Rattle.model.specs.SerialLemmas.{held_append}
use Rattle.model.specs.Survivors.{survivors}
use Rattle.model.specs.SurvivorLemmas.{work_of, work_with_change}
use Rattle.model.specs.TakenLemmas.{number_is, same_number}
use Rattle.world.specs.ListingLemmas.{got_same, got_other}
use Rattle.world.specs.Steps.{IsDone, Held, acts, done_with, wanting}
use Rattle.world.specs.World.{Opened, World, holds, IsHeldBy, IsFree}
use Rattle.world_parts.specs.ByTable.{names_table, only_if, change_at, changes_at}
use Rattle.world_parts.specs.ByTableLemmas.{changes_both, turned}
use Rattle.world_parts.specs.HeldLemmas.{holds_nothing}
use Rattle.world_parts.specs.Lines.{HasLine}
use Rattle.world_parts.specs.MarkLemmas.{or_true, told_beside}
use Rattle.world_parts.specs.Marks.{items_at, survivors_if, HasPart}
use Rattle.world_parts.specs.PartOf.{part_of}
use Rattle.world_parts.specs.PartOfLemmas.{part_is}
use Rattle.world_parts.specs.Parts.{work_if, wanted_by, wanted_if}
use Rattle.world_parts.specs.Reached.{PartStep, part_step}
use Rattle.world_parts.specs.Statements.{IsFreeByPart, Behind, HasOpen}
use Rattle.world_parts.specs.ToldLemmas.{moved_beside}
use Rattle.world_parts.specs.TruncateLemmas.{shares_of_named, wipe_lifts}

-- ---- what changes are in one table is nothing in another

if_apart : (table : ℕ) (c : change_type.Change) (b : Bool) → (b ≡ true → change_at table c ≡ []) → changes_at table (only_if b c) ≡ []
if_apart table c true none = append-nil (change_at table c) ∙ none refl
if_apart table c false none = refl

module _ (table at : ℕ) (apart : (at == table) ≡ false) where
  -- a number that is the one isn't the other
  number_apart : (n : ℕ) → (n == at) ≡ true → (n == table) ≡ false
  number_apart n is = ap (λ m. m == table) (number_is n at is) ∙ apart

  one_apart : (c : change_type.Change) → changes_at table (change_at at c) ≡ []
  one_apart (Put n row) = if_apart table (Put n row) (n == at) (λ is. ap (λ b. only_if b (Put n row)) (number_apart n is))
  one_apart (Set n key patch) = if_apart table (Set n key patch) (n == at) (λ is. ap (λ b. only_if b (Set n key patch)) (number_apart n is))
  one_apart (Remove n key) = if_apart table (Remove n key) (n == at) (λ is. ap (λ b. only_if b (Remove n key)) (number_apart n is))
  one_apart (Wipe tables) =
      if_apart table (Wipe (at ∷ [])) (names_table tables at)
      (λ named. ap (λ b. only_if (b || false) (Wipe (table ∷ []))) (turned table at ∙ apart))

  pub apart_twice : (cs : List change_type.Change) → changes_at table (changes_at at cs) ≡ []
  apart_twice [] = refl
  apart_twice (c ∷ cs) =
      changes_both table (change_at at c) (changes_at at cs)
      ∙ ap (λ ds. ds ++ changes_at table (changes_at at cs)) (one_apart c) ∙ apart_twice cs

-- ---- a part, whose transaction has done and wants there what an open one has done and wants

module _ (schema : Schema) (table : ℕ) (p new : World) (xid : ℕ) (o : Opened) (its_own : HasOpen table p xid o) (sub : ℕ) (tables : List ℕ) where
  -- the part's own world, which nothing stopped, with the transaction open so
  abbrev there : World
  there = record p { opened = insert p.opened xid o; stopped = None }

  has_part : HasPart table there p
  has_part =
      let moved = moved_beside table p p its_own.own xid o its_own.told its_own.wants in
      (record { committed = moved.0.committed; work = moved.0.work; wanted = moved.0.wanted }, moved.1)

  -- ---- it is done

  -- nobody else has done anything in another table
  idle_elsewhere : (at : ℕ) → (table == at) ≡ false → (other : ℕ) → other ≢ xid → work_if other (get (part_of at there).opened other) ≡ []
  idle_elsewhere at apart other differs =
      (part_is at there).work other
      ∙ ap (λ open_one. changes_at at (work_if other open_one)) (got_other p.opened xid o other differs)
      ∙ ap (changes_at at) (its_own.own.0.work other) ∙ apart_twice at table apart (work_if other (get p.opened other))

  free_elsewhere : (at : ℕ) → (table == at) ≡ false → IsFree schema (part_of at there) xid (Whole at ∷ [])
  free_elsewhere at apart other q differs is =
      ap (λ cs. shares_cell (Whole at ∷ []) (held_cells schema (part_of at there).committed cs))
      (ap (work_if other) (sym is) ∙ idle_elsewhere at apart other differs)
      ∙ holds_nothing (Whole at ∷ [])

  each_free : IsFree schema p xid (Whole table ∷ []) → (all : List ℕ) → AllByRecursion (IsFreeByPart schema there xid) all
  each_free here [] = tt
  each_free here (at ∷ all) = (by_table (table == at) refl, each_free here all)
    where
      by_table : (b : Bool) → (table == at) ≡ b → IsFreeByPart schema there xid at
      by_table true same = subst (IsFreeByPart schema there xid) (number_is table at same) (p, has_part.0, here)
      by_table false apart = (part_of at there, part_is at there, free_elsewhere at apart)

  pub truncate_leads : IsFree schema p xid (Whole table ∷ []) → Behind table p xid o (λ w. done_with w xid o (Change sub (Wipe tables))) new
      → PartStep schema table p new
  truncate_leads here behind =
      let same_line : HasLine table there p = record { start = its_own.starts; line = refl } in
      let then = behind there has_part same_line (got_same p.opened xid o) in
      part_step there (done_with there xid o (Change sub (Wipe tables))) new has_part same_line
      (acts xid o sub (Wipe tables) (Ok IsDone) (done_with there xid o (Change sub (Wipe tables))) (got_same p.opened xid o)
      (wipe_lifts schema there xid o refl sub tables (each_free here tables)))
      then.0 then.1

  -- ---- its transaction waits with it

  module _ (at : ℕ) (apart : (at == table) ≡ false) (named : names_table tables at ≡ true) where
    -- who is in the way: another transaction, whichever
    abbrev holder : ℕ
    holder = suc xid

    abbrev items_if : Option Opened → List Item
    items_if None = []
    items_if (Some q) = q.items

    abbrev wants_if : Option Opened → Option (ℕ × change_type.Change)
    wants_if None = None
    wants_if (Some q) = q.wants

    -- it has truncated the other table besides
    abbrev besides : Option Opened → Opened
    besides q = record { items = items_if q ++ Change holder (Wipe (at ∷ [])) ∷ []; wants = wants_if q }

    nothing_here : change_at table (Wipe (at ∷ [])) ≡ []
    nothing_here = ap (λ b. only_if (b || false) (Wipe (table ∷ []))) (turned table at ∙ apart)

    told_besides : (q : Option Opened) → survivors_if holder q ≡ items_at table holder (survivors_if holder q)
        → survivors_if holder q ≡ items_at table holder (survivors holder (besides q).items)
    told_besides None same = told_beside table holder holder [] [] refl (Wipe (at ∷ [])) nothing_here
    told_besides (Some q) same = told_beside table holder holder q.items q.items same (Wipe (at ∷ [])) nothing_here

    wants_besides : (q : Option Opened) → wanted_if q ≡ changes_at table (wanted_if q) → wanted_if q ≡ changes_at table (wanted_by (besides q).wants)
    wants_besides None same = refl
    wants_besides (Some q) same = same

    abbrev its : Opened
    its = besides (get p.opened holder)

    -- a world in which that is so
    abbrev beside : World
    beside = record there { opened = insert there.opened holder its }

    has_beside : HasPart table beside p
    has_beside =
        moved_beside table there p has_part holder its (told_besides (get p.opened holder) (its_own.own.1 holder))
        (wants_besides (get p.opened holder) (its_own.own.0.wanted holder))

    other : xid ≢ holder
    other same = omega (arith, same)

    opened_beside : get beside.opened xid ≡ Some o
    opened_beside = got_other there.opened holder its xid other ∙ got_same p.opened xid o

    -- it holds the whole of the other table
    in_the_way : list_any (overlaps (Whole at)) (holds schema beside holder its) ≡ true
    unfolding footprint
    in_the_way =
        let before = work_of holder (items_if (get p.opened holder)) in
        ap (list_any (overlaps (Whole at)))
        (ap (held_cells schema beside.committed) (work_with_change holder holder (items_if (get p.opened holder)) (Wipe (at ∷ [])))
        ∙ held_append schema beside.committed before (Wipe (at ∷ []) ∷ []))
        ∙ list_any-append (overlaps (Whole at)) (held_cells schema beside.committed before)
        (held_cells schema (serial schema beside.committed before) (Wipe (at ∷ []) ∷ []))
        ∙ or_true (list_any (overlaps (Whole at)) (held_cells schema beside.committed before))
        (list_any (overlaps (Whole at)) (held_cells schema (serial schema beside.committed before) (Wipe (at ∷ []) ∷ [])))
        (ap (λ b. b || false) (same_number at))

    held_beside : IsHeldBy schema beside xid (map Whole tables) holder
    held_beside =
        ((λ same. other (sym same)), its, got_same there.opened holder its, shares_of_named at (holds schema beside holder its) in_the_way tables named)

    pub waiting_leads : Behind table p xid o (λ w. wanting w xid o sub (Wipe tables)) new → PartStep schema table p new
    unfolding footprint
    waiting_leads behind =
        let same_line : HasLine table beside p = record { start = its_own.starts; line = refl } in
        let then = behind beside has_beside same_line opened_beside in
        part_step beside (wanting beside xid o sub (Wipe tables)) new has_beside same_line
        (acts xid o sub (Wipe tables) (Ok (Held holder)) (wanting beside xid o sub (Wipe tables)) opened_beside (refl, held_beside, refl))
        then.0 then.1
