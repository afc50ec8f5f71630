-- The changes of one transaction, and those of others that share no cell with them.
--     alone_as_live      in the cells that no other holds, its own view and the live rows are the same
--     outcome_on_live, footprint_on_live, inverse_on_live      a change that meets no other's cell does there what it
--         does on its own view
--     still_apart, acted, cut_back      its changes with one more, and with the last of them undone
use Rattle.std.specs.Prelude.{◌≡◌, false, List, [], ◌∷◌, ◌++◌}
use Rattle.std.proofs.Common.{sym, ◌∙◌, ap, subst}
use Rattle.std.specs.List.{list_any, AllByRecursion}
use Rattle.model.specs.declared.change.Change.{Change}
use Rattle.model.specs.declared.cell.Cell.{Cell}
use Rattle.model.specs.Cells.{overlaps}
use Rattle.model.specs.Rows.{Rows, Schema, IsValid}
use Rattle.model.specs.Effect.{outcome, inverse, serial, inverses, all_back}
use Rattle.model.specs.EffectLemmas.{serial_valid, serial_append, all_back_serial}
use Rattle.model.specs.Footprint.{footprint, held_cells, shares_cell}
use Rattle.model.specs.CellContents.{SameAt, AreSame}
use Rattle.world.specs.Live.{in_turn}
use Rattle.model.specs.OverlapLemmas.{neither_first, neither_second, neither, shares_append}
use Rattle.model.specs.FrameLemmas.{Each}
use Rattle.model.specs.AlikeLemmas.{same_footprint, same_outcome, same_inverse}
use Rattle.model.specs.SerialLemmas.{each_so, same_inverses, held_append}
use Rattle.world.specs.LiveLemmas.{AreApartFrom, ArePairwiseApart, IsFreeOfAll, pairwise_past, free_past, first_or_last, in_turn_valid, leaves_in_turn}

-- these cells are free of all lists
abbrev pub AreFreeOfAll : Schema → Rows → List Cell → List (List Change) → Type 0
AreFreeOfAll schema rows cells lists =
    AllByRecursion (λ (cs : List Change). shares_cell cells (held_cells schema rows cs) ≡ false) lists

-- what is so of the cells that each list holds, and what follows from it
in_each : (schema : Schema) (rows : Rows) (P Q : List Cell → Type 0) → ((held : List Cell) → P held → Q held) → (lists : List (List Change))
    → AllByRecursion (λ (cs : List Change). P (held_cells schema rows cs)) lists
    → AllByRecursion (λ (cs : List Change). Q (held_cells schema rows cs)) lists
in_each schema rows P Q so [] all = tt
in_each schema rows P Q so (cs ∷ lists) all = (so (held_cells schema rows cs) all.0, in_each schema rows P Q so lists all.1)

-- cells that meet what a list holds only where others do are free where these are
fewer_cells_free : (schema : Schema) (rows : Rows) (cells fewer : List Cell)
    → ((held : List Cell) → shares_cell cells held ≡ false → shares_cell fewer held ≡ false) → (lists : List (List Change))
    → AreFreeOfAll schema rows cells lists → AreFreeOfAll schema rows fewer lists
fewer_cells_free schema rows cells fewer so lists =
    in_each schema rows (λ held. shares_cell cells held ≡ false) (λ held. shares_cell fewer held ≡ false) so lists

each_free : (schema : Schema) (rows : Rows) (cells : List Cell) (lists : List (List Change))
    → AreFreeOfAll schema rows cells lists
    → Each (λ cell. IsFreeOfAll schema rows cell lists) cells
each_free schema rows [] lists free = tt
each_free schema rows (cell ∷ cells) lists free = (
  in_each schema rows (λ held. shares_cell (cell ∷ cells) held ≡ false) (λ held. list_any (overlaps cell) held ≡ false) (λ held e. neither_first _ _ e) lists free,
  each_free schema rows cells lists (fewer_cells_free schema rows (cell ∷ cells) cells (λ held e. neither_second _ _ e) lists free),
)

-- some cells of them
pub fewer_free : (schema : Schema) (rows : Rows) (cells more : List Cell) (lists : List (List Change))
    → AreFreeOfAll schema rows (cells ++ more) lists
    → AreFreeOfAll schema rows cells lists
fewer_free schema rows cells more =
    fewer_cells_free schema rows (cells ++ more) cells (λ held e. neither_first _ _ (sym (shares_append cells more held) ∙ e))

pub later_free : (schema : Schema) (rows : Rows) (cells more : List Cell) (lists : List (List Change))
    → AreFreeOfAll schema rows (cells ++ more) lists
    → AreFreeOfAll schema rows more lists
later_free schema rows cells more =
    fewer_cells_free schema rows (cells ++ more) more (λ held e. neither_second _ _ (sym (shares_append cells more held) ∙ e))

pub both_free : (schema : Schema) (rows : Rows) (cells more : List Cell) (lists : List (List Change))
    → AreFreeOfAll schema rows cells lists
    → AreFreeOfAll schema rows more lists → AreFreeOfAll schema rows (cells ++ more) lists
both_free schema rows cells more [] free too = tt
both_free schema rows cells more (cs ∷ lists) free too =
    (shares_append cells more (held_cells schema rows cs) ∙ neither _ _ free.0 too.0, both_free schema rows cells more lists free.1 too.1)

module _ (schema : Schema) (rows : Rows) (valid : IsValid schema rows) (cs : List Change) (others : List (List Change))
    (from : AreApartFrom schema rows cs others) (apart : ArePairwiseApart schema rows others) where
  abbrev own : Rows
  own = serial schema rows cs

  abbrev live : Rows
  live = in_turn schema own others

  own_valid : IsValid schema own
  own_valid = serial_valid schema rows cs valid

  live_valid : IsValid schema live
  live_valid = in_turn_valid schema own own_valid others

  pub alone_as_live : (cell : Cell) → IsFreeOfAll schema rows cell others → SameAt schema own live cell
  alone_as_live cell free =
      leaves_in_turn schema own own_valid others (pairwise_past schema rows valid cs others from apart) cell
      (free_past schema rows valid cs cell others from free)

  pub alone_as_live_each : (cells : List Cell) → AreFreeOfAll schema rows cells others → AreSame schema own live cells
  alone_as_live_each cells free =
      each_so (λ cell. IsFreeOfAll schema rows cell others) (SameAt schema own live) alone_as_live cells
      (each_free schema rows cells others free)

  -- a change whose footprint on its own view meets no cell of another
  module _ (c : Change) (free : AreFreeOfAll schema rows (footprint schema own c) others) where
    pub outcome_on_live : outcome schema live c ≡ outcome schema own c
    outcome_on_live =
        sym (same_outcome schema own live own_valid live_valid c (alone_as_live_each (footprint schema own c) free))

    pub footprint_on_live : footprint schema live c ≡ footprint schema own c
    footprint_on_live = sym (same_footprint schema own live c (alone_as_live_each (footprint schema own c) free))

    pub inverse_on_live : inverse schema live c ≡ inverse schema own c
    inverse_on_live =
        sym (same_inverse schema own live own_valid live_valid c (alone_as_live_each (footprint schema own c) free))

-- its changes with more that meet no cell of another
module _ (schema : Schema) (rows : Rows) (valid : IsValid schema rows) (cs more : List Change) (others : List (List Change)) where
  pub still_apart : AreApartFrom schema rows cs others
      → AreFreeOfAll schema rows (held_cells schema (serial schema rows cs) more) others
      → AreApartFrom schema rows (cs ++ more) others
  still_apart from free =
      subst (λ cells. AreFreeOfAll schema rows cells others) (sym (held_append schema rows cs more))
      (both_free schema rows (held_cells schema rows cs) (held_cells schema (serial schema rows cs) more) others from free)

  pub apart_before : AreApartFrom schema rows (cs ++ more) others → AreApartFrom schema rows cs others
  apart_before from =
      fewer_free schema rows (held_cells schema rows cs) (held_cells schema (serial schema rows cs) more) others
      (subst (λ cells. AreFreeOfAll schema rows cells others) (held_append schema rows cs more) from)

  pub apart_later : AreApartFrom schema rows (cs ++ more) others
      → AreFreeOfAll schema rows (held_cells schema (serial schema rows cs) more) others
  apart_later from =
      later_free schema rows (held_cells schema rows cs) (held_cells schema (serial schema rows cs) more) others
      (subst (λ cells. AreFreeOfAll schema rows cells others) (held_append schema rows cs more) from)

  -- the live rows with them are those without, and then these
  pub live_with_more : AreApartFrom schema rows (cs ++ more) others → ArePairwiseApart schema rows others
      → in_turn schema (serial schema rows (cs ++ more)) others ≡ serial schema
      (in_turn schema (serial schema rows cs) others) more
  live_with_more from apart =
      first_or_last schema rows valid (cs ++ more) others from apart
      ∙ serial_append schema (in_turn schema rows others) cs more
      ∙ ap (λ (r : Rows). serial schema r more)
      (sym (first_or_last schema rows valid cs others (apart_before from) apart))

  -- their inverses, put back past all that others did, give the live rows without them
  pub cut_back : AreApartFrom schema rows (cs ++ more) others → ArePairwiseApart schema rows others
      → all_back (in_turn schema (serial schema rows (cs ++ more)) others) (inverses schema (serial schema rows cs) more)
      ≡ in_turn schema (serial schema rows cs) others
  cut_back from apart =
      let own = serial schema rows cs in
      let live = in_turn schema (serial schema rows cs) others in
      let alike = alone_as_live_each schema rows valid cs others (apart_before from) apart (held_cells schema own more) (apart_later from) in
      ap (λ (r : Rows). all_back r (inverses schema own more)) (live_with_more from apart)
      ∙ ap (all_back (serial schema live more))
      (same_inverses schema own live (serial_valid schema rows cs valid) (in_turn_valid schema own (serial_valid schema rows cs valid) others) more alike)
      ∙ all_back_serial schema live more
