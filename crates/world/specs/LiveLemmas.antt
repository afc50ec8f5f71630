-- Lists of changes that pairwise share no cell, one list after the other.
--     AreApartFrom, ArePairwiseApart      no list shares a cell with this one; no two share one
--     any_order      they give the same rows in any order
--     first_or_last      the first list may as well come last
--     in_turn_valid, in_turn_accepted      the rows stay valid, and no change clashes
--     leaves_in_turn      they leave the cells that none of them holds
use Rattle.std.specs.Prelude.{◌≡◌, false, List, [], ◌∷◌, flat_map, refl}
use Rattle.std.proofs.Common.{sym, ◌∙◌, ap}
use Rattle.std.specs.List.{list_any, AllByRecursion}
use Rattle.model.specs.declared.change.Change.{Change}
use Rattle.model.specs.declared.cell.Cell.{Cell}
use Rattle.model.specs.Rows.{Rows, Schema, IsValid}
use Rattle.model.specs.Effect.{serial}
use Rattle.model.specs.EffectLemmas.{serial_valid, serial_append}
use Rattle.model.specs.Cells.{overlaps}
use Rattle.model.specs.Footprint.{held_cells, shares_cell}
use Rattle.model.specs.CellContents.{SameAt}
use Rattle.model.specs.Accepted.{AreAccepted}
use Rattle.world.specs.Live.{in_turn, Reordered, same, under, swapped, through}
use Rattle.model.specs.OverlapLemmas.{shares_either_way}
use Rattle.model.specs.FrameLemmas.{same_at_itself, same_through}
use Rattle.model.specs.SerialLemmas.{leaves_free_cell, held_past, accepted_past, either_first, accepted_append}

-- no list shares a cell with this one, each on these rows
abbrev pub AreApartFrom : Schema → Rows → List Change → List (List Change) → Type 0
AreApartFrom schema rows cs lists =
    AllByRecursion (λ others. shares_cell (held_cells schema rows cs) (held_cells schema rows others) ≡ false) lists

-- no two lists share a cell
abbrev pub ArePairwiseApart : Schema → Rows → List (List Change) → Type 0
ArePairwiseApart schema rows [] = Unit {0}
ArePairwiseApart schema rows (cs ∷ lists) = AreApartFrom schema rows cs lists × ArePairwiseApart schema rows lists

-- ---- past one of them

module _ (schema : Schema) (rows : Rows) (valid : IsValid schema rows) (past : List Change) where
  -- what two lists hold, past one that shares no cell with them
  apart_past : (cs others : List Change) → shares_cell (held_cells schema rows past) (held_cells schema rows cs) ≡ false
      → shares_cell (held_cells schema rows past) (held_cells schema rows others) ≡ false
      → shares_cell (held_cells schema rows cs) (held_cells schema rows others) ≡ false
      → shares_cell (held_cells schema (serial schema rows past) cs)
      (held_cells schema (serial schema rows past) others) ≡ false
  apart_past cs others from from_others apart =
      ap (λ cells. shares_cell cells (held_cells schema (serial schema rows past) others))
      (sym (held_past schema rows valid cs past (shares_either_way (held_cells schema rows past) (held_cells schema rows cs) from)))
      ∙ ap (shares_cell (held_cells schema rows cs))
      (sym (held_past schema rows valid others past (shares_either_way (held_cells schema rows past) (held_cells schema rows others) from_others)))
      ∙ apart

  pub apart_from_past : (cs : List Change) (lists : List (List Change))
      → shares_cell (held_cells schema rows past) (held_cells schema rows cs) ≡ false
      → AreApartFrom schema rows past lists → AreApartFrom schema rows cs lists
      → AreApartFrom schema (serial schema rows past) cs lists
  apart_from_past cs [] from all apart = tt
  apart_from_past cs (others ∷ lists) from all apart =
      (apart_past cs others from all.0 apart.0, apart_from_past cs lists from all.1 apart.1)

  pub pairwise_past : (lists : List (List Change)) → AreApartFrom schema rows past lists
      → ArePairwiseApart schema rows lists
      → ArePairwiseApart schema (serial schema rows past) lists
  pairwise_past [] all apart = tt
  pairwise_past (cs ∷ lists) all apart =
      (apart_from_past cs lists all.0 all.1 apart.0, pairwise_past lists all.1 apart.1)

-- ---- in any order

reordered_from : (schema : Schema) (rows : Rows) (cs : List Change) (lists others : List (List Change))
    → Reordered lists others
    → AreApartFrom schema rows cs lists → AreApartFrom schema rows cs others
reordered_from schema rows cs _ _ same all = all
reordered_from schema rows cs _ _ (under x {xs = lists} {ys = others} rest) all =
    (all.0, reordered_from schema rows cs lists others rest all.1)
reordered_from schema rows cs _ _ (swapped x y lists) all = (all.1.0, (all.0, all.1.1))
reordered_from schema rows cs _ _ (through {xs = lists} {ys = middle} {zs = others} first rest) all =
    reordered_from schema rows cs middle others rest (reordered_from schema rows cs lists middle first all)

pub reordered_pairwise : (schema : Schema) (rows : Rows) (lists others : List (List Change)) → Reordered lists others
    → ArePairwiseApart schema rows lists → ArePairwiseApart schema rows others
reordered_pairwise schema rows _ _ same all = all
reordered_pairwise schema rows _ _ (under x {xs = lists} {ys = others} rest) all =
    (reordered_from schema rows x lists others rest all.0, reordered_pairwise schema rows lists others rest all.1)
reordered_pairwise schema rows _ _ (swapped x y lists) all =
    ((shares_either_way (held_cells schema rows x) (held_cells schema rows y) all.0.0, all.1.0), (all.0.1, all.1.1))
reordered_pairwise schema rows _ _ (through {xs = lists} {ys = middle} {zs = others} first rest) all =
    reordered_pairwise schema rows middle others rest (reordered_pairwise schema rows lists middle first all)

pub any_order : (schema : Schema) (rows : Rows) → IsValid schema rows → (lists others : List (List Change))
    → Reordered lists others
    → ArePairwiseApart schema rows lists → in_turn schema rows lists ≡ in_turn schema rows others
any_order schema rows valid _ _ same all = refl
any_order schema rows valid _ _ (under x {xs = lists} {ys = others} rest) all =
    any_order schema (serial schema rows x) (serial_valid schema rows x valid) lists others rest
    (pairwise_past schema rows valid x lists all.0 all.1)
any_order schema rows valid _ _ (swapped x y lists) all =
    ap (λ (r : Rows). in_turn schema r lists) (either_first schema rows valid x y all.0.0)
any_order schema rows valid _ _ (through {xs = lists} {ys = middle} {zs = others} first rest) all =
    any_order schema rows valid lists middle first all
    ∙ any_order schema rows valid middle others rest (reordered_pairwise schema rows lists middle first all)

-- the first list may as well come last
pub first_or_last : (schema : Schema) (rows : Rows) → IsValid schema rows
    → (cs : List Change) (lists : List (List Change))
    → AreApartFrom schema rows cs lists → ArePairwiseApart schema rows lists
    → in_turn schema (serial schema rows cs) lists ≡ serial schema (in_turn schema rows lists) cs
first_or_last schema rows valid cs [] from all = refl
first_or_last schema rows valid cs (others ∷ lists) from all =
    ap (λ (r : Rows). in_turn schema r lists) (either_first schema rows valid cs others from.0)
    ∙ first_or_last schema (serial schema rows others) (serial_valid schema rows others valid) cs lists
    (apart_from_past schema rows valid others cs lists (shares_either_way (held_cells schema rows cs) (held_cells schema rows others) from.0) all.0 from.1)
    (pairwise_past schema rows valid others lists all.0 all.1)

-- ---- what they leave

pub in_turn_valid : (schema : Schema) (rows : Rows) → IsValid schema rows → (lists : List (List Change))
    → IsValid schema (in_turn schema rows lists)
in_turn_valid schema rows valid [] = valid
in_turn_valid schema rows valid (cs ∷ lists) =
    in_turn_valid schema (serial schema rows cs) (serial_valid schema rows cs valid) lists

accepted_each_past : (schema : Schema) (rows : Rows) → IsValid schema rows
    → (past : List Change) (lists : List (List Change))
    → AreApartFrom schema rows past lists → AllByRecursion (AreAccepted schema rows) lists
    → AllByRecursion (AreAccepted schema (serial schema rows past)) lists
accepted_each_past schema rows valid past [] from all = tt
accepted_each_past schema rows valid past (cs ∷ lists) from all = (
  accepted_past schema rows valid cs past
      (shares_either_way (held_cells schema rows past) (held_cells schema rows cs) from.0) all.0,
  accepted_each_past schema rows valid past lists from.1 all.1,
)

-- where no change of a list clashes by itself, none does after the lists before it
pub in_turn_accepted : (schema : Schema) (rows : Rows) → IsValid schema rows → (lists : List (List Change))
    → ArePairwiseApart schema rows lists → AllByRecursion (AreAccepted schema rows) lists
    → AreAccepted schema rows (flat_map (λ (cs : List Change). cs) lists)
in_turn_accepted schema rows valid [] apart all = tt
in_turn_accepted schema rows valid (cs ∷ lists) apart all =
    accepted_append schema rows cs (flat_map (λ (l : List Change). l) lists) all.0
    (in_turn_accepted schema (serial schema rows cs) (serial_valid schema rows cs valid) lists
    (pairwise_past schema rows valid cs lists apart.0 apart.1)
    (accepted_each_past schema rows valid cs lists apart.0 all.1))

-- the lists as one
pub in_turn_serial : (schema : Schema) (rows : Rows) (lists : List (List Change))
    → in_turn schema rows lists ≡ serial schema rows (flat_map (λ (cs : List Change). cs) lists)
in_turn_serial schema rows [] = refl
in_turn_serial schema rows (cs ∷ lists) =
    in_turn_serial schema (serial schema rows cs) lists
    ∙ sym (serial_append schema rows cs (flat_map (λ (l : List Change). l) lists))

-- the cell is free of all lists, each on these rows
abbrev pub IsFreeOfAll : Schema → Rows → Cell → List (List Change) → Type 0
IsFreeOfAll schema rows cell lists =
    AllByRecursion (λ cs. list_any (overlaps cell) (held_cells schema rows cs) ≡ false) lists

pub free_past : (schema : Schema) (rows : Rows) → IsValid schema rows
    → (past : List Change) (cell : Cell) (lists : List (List Change))
    → AreApartFrom schema rows past lists → IsFreeOfAll schema rows cell lists
    → IsFreeOfAll schema (serial schema rows past) cell lists
free_past schema rows valid past cell [] from all = tt
free_past schema rows valid past cell (cs ∷ lists) from all = (
  ap (list_any (overlaps cell))
      (sym (held_past schema rows valid cs past (shares_either_way (held_cells schema rows past) (held_cells schema rows cs) from.0))) ∙ all.0,
  free_past schema rows valid past cell lists from.1 all.1,
)

pub leaves_in_turn : (schema : Schema) (rows : Rows) → IsValid schema rows → (lists : List (List Change))
    → ArePairwiseApart schema rows lists
    → (cell : Cell) → IsFreeOfAll schema rows cell lists → SameAt schema rows (in_turn schema rows lists) cell
leaves_in_turn schema rows valid [] apart cell free = same_at_itself schema rows cell
leaves_in_turn schema rows valid (cs ∷ lists) apart cell free =
    same_through schema rows (serial schema rows cs) (in_turn schema (serial schema rows cs) lists) cell
    (leaves_free_cell schema rows cs cell free.0)
    (leaves_in_turn schema (serial schema rows cs) (serial_valid schema rows cs valid) lists
    (pairwise_past schema rows valid cs lists apart.0 apart.1) cell
    (free_past schema rows valid cs cell lists apart.0 free.1))
