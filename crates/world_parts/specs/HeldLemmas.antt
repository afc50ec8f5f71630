-- What changes hold, by their table.
--     footprint_in      a change of one table meets the same cells where the table's rows are the same
--     held_at, shares_at      of the cells of a table, changes hold those that the table's changes hold
--     holds_nothing, named_overlap      no changes hold no cell; a truncate holds the cells of each of its tables
use Rattle.std.specs.Prelude.{◌≡◌, ℕ, ◌==◌, Bool, true, false, ◌&&◌, ◌||◌, List, [], ◌∷◌, map, refl}
use Rattle.std.proofs.Common.{sym, ◌∙◌, ap, subst, append-nil}
use Rattle.std.proofs.lemmas.List.Folds.{list_any-append}
use Rattle.std.specs.List.{list_any}
use Rattle.model.specs.declared.cell.Cell.{Cell}
use Rattle.model.specs.declared.cell.Cell.TheVariants.{Row, Uniq, Whole}
use Rattle.model.specs.declared.change.Change.{Change}
use Rattle.model.specs.declared.change.Change.TheVariants.{Put, Set, Remove, Wipe}
use Rattle.model.specs.Rows.{Rows, Schema}
use Rattle.model.specs.Cells.{table_of, overlaps, same_key}
use Rattle.model.specs.Footprint.{looked_up, footprint, held_cells, shares_cell}
use Rattle.model.specs.CellContents.{AreSame}
use Rattle.model.specs.Effect.{effect, serial}
use Rattle.model.specs.TakenLemmas.{number_is, same_number}
use Rattle.model.specs.AlikeLemmas.{footprint_by_looked_up}
use Rattle.model.specs.OverlapLemmas.{neither}
use Rattle.model.specs.SerialLemmas.{held_append}
use Rattle.world_parts.specs.ByTable.{names_table, rows_at, only_if, change_at, changes_at, AreOf, AreSameIn}
use Rattle.world_parts.specs.ByTableLemmas.{get_rows_here, turned, InTable, puts, sets, removes, wipes, footprint_of, effect_at}

-- ---- where the table's rows are the same

looked_up_in : (schema : Schema) (rows others : Rows) (table : ℕ) → AreSameIn table rows others
    → (c : Change) → InTable table c → AreSame schema rows others (looked_up c)
looked_up_in schema rows others table same _ (puts row) = tt
looked_up_in schema rows others table same _ (sets key patch) = (same key, tt)
looked_up_in schema rows others table same _ (removes key) = (same key, tt)
looked_up_in schema rows others table same _ wipes = tt

pub footprint_in : (schema : Schema) (rows others : Rows) (table : ℕ) → AreSameIn table rows others
    → (c : Change) → InTable table c → footprint schema rows c ≡ footprint schema others c
footprint_in schema rows others table same c is =
    footprint_by_looked_up schema rows others c (looked_up_in schema rows others table same c is)

-- ---- cells of two tables

apart_tables : (cell other : Cell) → (table_of cell == table_of other) ≡ false → overlaps cell other ≡ false
apart_tables (Row t k) (Row u l) not = ap (λ b. b && same_key k l) not
apart_tables (Row t k) (Uniq u j w) not = refl
apart_tables (Row t k) (Whole u) not = not
apart_tables (Uniq t i v) (Row u l) not = refl
apart_tables (Uniq t i v) (Uniq u j w) not = ap (λ b. b && ((i == j) && same_key v w)) not
apart_tables (Uniq t i v) (Whole u) not = not
apart_tables (Whole t) other not = not

pub apart_from_all : (cell : Cell) (at : ℕ) → (table_of cell == at) ≡ false → (cells : List Cell) → AreOf at cells
    → list_any (overlaps cell) cells ≡ false
apart_from_all cell at not [] are = refl
apart_from_all cell at not (other ∷ cells) are =
    neither _ _ (apart_tables cell other (ap (λ t. table_of cell == t) are.0 ∙ not)) (apart_from_all cell at not cells are.1)

whole_overlap : (cell : Cell) (table : ℕ) → overlaps cell (Whole table) ≡ (table_of cell == table)
whole_overlap (Row t k) table = refl
whole_overlap (Uniq t i v) table = refl
whole_overlap (Whole t) table = refl

-- a truncate holds the cells of each of its tables
pub named_overlap : (cell : Cell) (tables : List ℕ) → list_any (overlaps cell) (map Whole tables) ≡ names_table tables (table_of cell)
named_overlap cell [] = refl
named_overlap cell (table ∷ tables) =
    ap (λ b. b || list_any (overlaps cell) (map Whole tables)) (whole_overlap cell table)
    ∙ ap (λ b. (table_of cell == table) || b) (named_overlap cell tables)

-- ---- the cells that changes hold

module _ (schema : Schema) (table : ℕ) (rows : Rows) (cell : Cell) (lies : table_of cell ≡ table) where
  abbrev its : List Change → Bool
  its cs = list_any (overlaps cell) (held_cells schema (rows_at table rows) cs)

  of_one : (c : Change) (at : ℕ) → InTable at c → (b : Bool) → (at == table) ≡ b
      → list_any (overlaps cell) (footprint schema rows c) ≡ its (only_if b c)
  of_one c at is true here =
      let inside : InTable table c = subst (λ (n : ℕ). InTable n c) (number_is at table here) is in
      ap (list_any (overlaps cell))
      (footprint_in schema rows (rows_at table rows) table (λ key. sym (get_rows_here table rows key)) c inside
      ∙ sym (append-nil (footprint schema (rows_at table rows) c)))
  of_one c at is false not =
      apart_from_all cell at (ap (λ t. t == at) lies ∙ turned table at ∙ not) (footprint schema rows c) (footprint_of schema rows at c is)

  of_wipe : (tables : List ℕ) (b : Bool) → names_table tables table ≡ b
      → list_any (overlaps cell) (footprint schema rows (Wipe tables)) ≡ its (only_if b (Wipe (table ∷ [])))
  unfolding footprint
  of_wipe tables true named =
      named_overlap cell tables ∙ ap (names_table tables) lies ∙ named
      ∙ sym (ap (λ b. b || false) (whole_overlap cell table ∙ ap (λ t. t == table) lies ∙ same_number table))
  of_wipe tables false not = named_overlap cell tables ∙ ap (names_table tables) lies ∙ not

  of_change : (c : Change) → list_any (overlaps cell) (footprint schema rows c) ≡ its (change_at table c)
  of_change (Put at row) = of_one (Put at row) at (puts row) (at == table) refl
  of_change (Set at key patch) = of_one (Set at key patch) at (sets key patch) (at == table) refl
  of_change (Remove at key) = of_one (Remove at key) at (removes key) (at == table) refl
  of_change (Wipe tables) = of_wipe tables (names_table tables table) refl

-- a cell of the table is held by just the table's changes
pub held_at : (schema : Schema) (table : ℕ) (rows : Rows) (cell : Cell) → table_of cell ≡ table → (cs : List Change)
    → list_any (overlaps cell) (held_cells schema rows cs)
    ≡ list_any (overlaps cell) (held_cells schema (rows_at table rows) (changes_at table cs))
held_at schema table rows cell lies [] = refl
held_at schema table rows cell lies (c ∷ cs) =
    list_any-append (overlaps cell) (footprint schema rows c) (held_cells schema (effect schema rows c) cs)
    ∙ ap (λ b. b || list_any (overlaps cell) (held_cells schema (effect schema rows c) cs)) (of_change schema table rows cell lies c)
    ∙ ap (λ b. list_any (overlaps cell) (held_cells schema (rows_at table rows) (change_at table c)) || b)
    (held_at schema table (effect schema rows c) cell lies cs
    ∙ ap (λ (r : Rows). list_any (overlaps cell) (held_cells schema r (changes_at table cs))) (effect_at schema table rows c))
    ∙ sym (list_any-append (overlaps cell) (held_cells schema (rows_at table rows) (change_at table c)) (held_cells schema (serial schema (rows_at table rows) (change_at table c)) (changes_at table cs)))
    ∙ ap (list_any (overlaps cell)) (sym (held_append schema (rows_at table rows) (change_at table c) (changes_at table cs)))

-- and so are cells of the table
pub shares_at : (schema : Schema) (table : ℕ) (rows : Rows) (cs : List Change) (cells : List Cell) → AreOf table cells
    → shares_cell cells (held_cells schema rows cs) ≡ shares_cell cells (held_cells schema (rows_at table rows) (changes_at table cs))
shares_at schema table rows cs [] are = refl
shares_at schema table rows cs (cell ∷ cells) are =
    ap (λ b. b || shares_cell cells (held_cells schema rows cs)) (held_at schema table rows cell are.0 cs)
    ∙ ap (λ b. list_any (overlaps cell) (held_cells schema (rows_at table rows) (changes_at table cs)) || b) (shares_at schema table rows cs cells are.1)

-- no changes hold no cell
pub holds_nothing : (cells : List Cell) → shares_cell cells [] ≡ false
holds_nothing [] = refl
holds_nothing (cell ∷ cells) = holds_nothing cells
