-- A world keeps what every world keeps that calls reach where its parts do, and they do where it does.
--     wipe_accepted      a truncate clashes with nothing
--     accepted_at, accepted_by_tables      changes of which none clashes, by table
--     apart_at, apart_by_tables      two lists of changes that share no cell, by table
--     serial_by_tables      rows are those after changes where each table's are
--     fine_here      a part that begins with its committed rows keeps it
--     fine_by_parts      so does a world of which each part does
use Rattle.std.specs.Prelude.{◌≡◌, ◌≢◌, ℕ, ◌==◌, Bool, true, false, List, [], ◌∷◌, ◌++◌, Option, Some, None, refl}
use Rattle.std.proofs.Common.{sym, ◌∙◌, ap, subst, inl, inr}
use Rattle.std.proofs.lemmas.Bool.{cases_Bool}
use Rattle.std.specs.List.{list_any}
use Rattle.std.specs.FinMap.{get}
use Rattle.model.specs.declared.change.Change.{Change}
use Rattle.model.specs.declared.change.Change.TheVariants.{Put, Set, Remove, Wipe}
use Rattle.model.specs.declared.cell.Cell.{Cell}
use Rattle.model.specs.Accepted.{HasNoClash, AreAccepted}
use Rattle.model.specs.Rows.{Rows, Schema, IsValid}
use Rattle.model.specs.Cells.{overlaps, table_of}
use Rattle.model.specs.Effect.{effect, serial}
use Rattle.model.specs.Footprint.{footprint, held_cells, shares_cell}
use Rattle.model.specs.OverlapLemmas.{neither, neither_first, neither_second, shares_either_way}
use Rattle.model.specs.SerialLemmas.{held_append, accepted_append}
use Rattle.model.specs.TakenLemmas.{number_is, same_number}
use Rattle.model.specs.FrameLemmas.{each_of_both}
use Rattle.world.specs.Fine.{StillClashes, IsFine}
use Rattle.world.specs.FineLemmas.{committed_valid}
use Rattle.world.specs.World.{Opened, World, Past, work, changes_in, holds}
use Rattle.world_parts.specs.ByTable.{names_table, rows_at, only_if, change_at, changes_at, AreOf}
use Rattle.world_parts.specs.ByTableLemmas.{get_rows_here, all_tables, valid_at, InTable, puts, sets, removes, outcome_in, footprint_of, effect_at, serial_at}
use Rattle.world_parts.specs.HeldLemmas.{held_at, shares_at, apart_from_all, holds_nothing}
use Rattle.world_parts.specs.Parts.{work_if, IsPartOf}
use Rattle.world_parts.specs.Statements.{HasFinePart}

-- ---- changes of which none clashes

pub wipe_accepted : (schema : Schema) (rows : Rows) (tables : List ℕ) → HasNoClash schema rows (Wipe tables)
wipe_accepted schema rows tables cause e = cc

module _ (schema : Schema) (table : ℕ) (rows : Rows) where
  one_accepted : (c : Change) (at : ℕ) → InTable at c → HasNoClash schema rows c → (b : Bool) → (at == table) ≡ b
      → AreAccepted schema (rows_at table rows) (only_if b c)
  one_accepted c at is none true here =
      let its : InTable table c = subst (λ (n : ℕ). InTable n c) (number_is at table here) is in
      (λ cause e. none cause (sym (outcome_in schema (rows_at table rows) rows table (get_rows_here table rows) c its) ∙ e), tt)
  one_accepted c at is none false not = tt

  wiped_accepted : (b : Bool) → AreAccepted schema (rows_at table rows) (only_if b (Wipe (table ∷ [])))
  wiped_accepted true = (wipe_accepted schema (rows_at table rows) (table ∷ []), tt)
  wiped_accepted false = tt

  change_accepted : (c : Change) → HasNoClash schema rows c → AreAccepted schema (rows_at table rows) (change_at table c)
  change_accepted (Put at row) none = one_accepted (Put at row) at (puts row) none (at == table) refl
  change_accepted (Set at key patch) none = one_accepted (Set at key patch) at (sets key patch) none (at == table) refl
  change_accepted (Remove at key) none = one_accepted (Remove at key) at (removes key) none (at == table) refl
  change_accepted (Wipe tables) none = wiped_accepted (names_table tables table)

pub accepted_at : (schema : Schema) (table : ℕ) (rows : Rows) (cs : List Change) → AreAccepted schema rows cs
    → AreAccepted schema (rows_at table rows) (changes_at table cs)
accepted_at schema table rows [] all = tt
accepted_at schema table rows (c ∷ cs) all =
    accepted_append schema (rows_at table rows) (change_at table c) (changes_at table cs)
    (change_accepted schema table rows c all.0)
    (subst (λ (r : Rows). AreAccepted schema r (changes_at table cs)) (effect_at schema table rows c)
    (accepted_at schema table (effect schema rows c) cs all.1))

accepted_rest : (schema : Schema) (rows : Rows) (cs more : List Change) → AreAccepted schema rows (cs ++ more)
    → AreAccepted schema (serial schema rows cs) more
accepted_rest schema rows [] more all = all
accepted_rest schema rows (c ∷ cs) more all = accepted_rest schema (effect schema rows c) cs more all.1

-- none clashes, by what its own table says
own_accepted : (schema : Schema) (rows : Rows) (at : ℕ) (c : Change) → InTable at c → (more : List Change) (b : Bool) → b ≡ true
    → AreAccepted schema (rows_at at rows) (only_if b c ++ more) → HasNoClash schema rows c
own_accepted schema rows at c is more true same all =
    λ cause e. all.0 cause (outcome_in schema (rows_at at rows) rows at (get_rows_here at rows) c is ∙ e)
own_accepted schema rows at c is more false same all = cc

head_accepted : (schema : Schema) (rows : Rows) (c : Change) (cs : List Change)
    → ((table : ℕ) → AreAccepted schema (rows_at table rows) (changes_at table (c ∷ cs))) → HasNoClash schema rows c
head_accepted schema rows (Put at row) cs each =
    own_accepted schema rows at (Put at row) (puts row) (changes_at at cs) (at == at) (same_number at) (each at)
head_accepted schema rows (Set at key patch) cs each =
    own_accepted schema rows at (Set at key patch) (sets key patch) (changes_at at cs) (at == at) (same_number at) (each at)
head_accepted schema rows (Remove at key) cs each =
    own_accepted schema rows at (Remove at key) (removes key) (changes_at at cs) (at == at) (same_number at) (each at)
head_accepted schema rows (Wipe tables) cs each = wipe_accepted schema rows tables

pub accepted_by_tables : (schema : Schema) (rows : Rows) (cs : List Change)
    → ((table : ℕ) → AreAccepted schema (rows_at table rows) (changes_at table cs)) → AreAccepted schema rows cs
accepted_by_tables schema rows [] each = tt
accepted_by_tables schema rows (c ∷ cs) each = (
  head_accepted schema rows c cs each,
  accepted_by_tables schema (effect schema rows c) cs (λ table.
      subst (λ (r : Rows). AreAccepted schema r (changes_at table cs)) (sym (effect_at schema table rows c))
      (accepted_rest schema (rows_at table rows) (change_at table c) (changes_at table cs) (each table))),
)

-- ---- cells of changes

module _ (schema : Schema) (table : ℕ) (rows : Rows) where
  one_held : (c : Change) (at : ℕ) → InTable at c → (b : Bool) → (at == table) ≡ b
      → AreOf table (held_cells schema (rows_at table rows) (only_if b c))
  one_held c at is true here =
      each_of_both (λ (cell : Cell). table_of cell ≡ table) (footprint schema (rows_at table rows) c) []
      (footprint_of schema (rows_at table rows) table c (subst (λ (n : ℕ). InTable n c) (number_is at table here) is)) tt
  one_held c at is false not = tt

  wipe_holds : (b : Bool) → AreOf table (held_cells schema (rows_at table rows) (only_if b (Wipe (table ∷ []))))
  unfolding footprint
  wipe_holds true = (refl, tt)
  wipe_holds false = tt

  change_held : (c : Change) → AreOf table (held_cells schema (rows_at table rows) (change_at table c))
  change_held (Put at row) = one_held (Put at row) at (puts row) (at == table) refl
  change_held (Set at key patch) = one_held (Set at key patch) at (sets key patch) (at == table) refl
  change_held (Remove at key) = one_held (Remove at key) at (removes key) (at == table) refl
  change_held (Wipe tables) = wipe_holds (names_table tables table)

-- the table's changes hold cells of the table
held_of : (schema : Schema) (table : ℕ) (rows : Rows) (cs : List Change)
    → AreOf table (held_cells schema (rows_at table rows) (changes_at table cs))
held_of schema table rows [] = tt
held_of schema table rows (c ∷ cs) =
    subst (AreOf table) (sym (held_append schema (rows_at table rows) (change_at table c) (changes_at table cs)))
    (each_of_both (λ (cell : Cell). table_of cell ≡ table) (held_cells schema (rows_at table rows) (change_at table c)) _
    (change_held schema table rows c)
    (subst (λ (r : Rows). AreOf table (held_cells schema r (changes_at table cs))) (effect_at schema table rows c)
    (held_of schema table (effect schema rows c) cs)))

module _ (schema : Schema) (rows : Rows) (cs others : List Change) where
  abbrev its : List Cell
  its = held_cells schema rows cs

  abbrev its_at : ℕ → List Cell
  its_at table = held_cells schema (rows_at table rows) (changes_at table cs)

  abbrev theirs : List Cell
  theirs = held_cells schema rows others

  abbrev theirs_at : ℕ → List Cell
  theirs_at table = held_cells schema (rows_at table rows) (changes_at table others)

  -- a cell that overlaps none of all overlaps none of a table's
  free_at : (table : ℕ) (cell : Cell) → list_any (overlaps cell) its ≡ false → list_any (overlaps cell) (its_at table) ≡ false
  free_at table cell free =
      elim (cases_Bool (table_of cell == table)) [
        | inl here ↦ sym (held_at schema table rows cell (number_is (table_of cell) table here) cs) ∙ free
        | inr not ↦ apart_from_all cell table not (its_at table) (held_of schema table rows cs)
      ]

  each_free_at : (table : ℕ) (cells : List Cell) → shares_cell cells its ≡ false → shares_cell cells (its_at table) ≡ false
  each_free_at table [] free = refl
  each_free_at table (cell ∷ cells) free =
      neither _ _ (free_at table cell (neither_first _ _ free)) (each_free_at table cells (neither_second _ _ free))

  -- lists that share no cell share none of a table
  pub apart_at : (table : ℕ) → shares_cell its theirs ≡ false → shares_cell (its_at table) (theirs_at table) ≡ false
  apart_at table apart =
      sym (shares_at schema table rows others (its_at table) (held_of schema table rows cs))
      ∙ shares_either_way theirs (its_at table) (each_free_at table theirs (shares_either_way its theirs apart))

  -- a cell that overlaps none of its table's overlaps none
  all_free : (cells : List Cell) → ((table : ℕ) → shares_cell cells (its_at table) ≡ false) → shares_cell cells its ≡ false
  all_free [] each = refl
  all_free (cell ∷ cells) each =
      neither _ _ (held_at schema (table_of cell) rows cell refl cs ∙ neither_first _ _ (each (table_of cell)))
      (all_free cells (λ table. neither_second _ _ (each table)))

  pub apart_by_tables : ((table : ℕ) → shares_cell (its_at table) (theirs_at table) ≡ false) → shares_cell its theirs ≡ false
  apart_by_tables each =
      shares_either_way theirs its (all_free theirs (λ table.
      shares_either_way (its_at table) theirs
      (shares_at schema table rows others (its_at table) (held_of schema table rows cs) ∙ each table)))

-- ---- rows after changes

pub serial_by_tables : (schema : Schema) (rows start : Rows) (cs : List Change)
    → ((table : ℕ) → rows_at table rows ≡ serial schema (rows_at table start) (changes_at table cs)) → rows ≡ serial schema start cs
serial_by_tables schema rows start cs each =
    all_tables rows (serial schema start cs) (λ table. each table ∙ sym (serial_at schema table start cs))

-- ---- a part of a world

module _ (schema : Schema) (table : ℕ) (w part : World) (is : IsPartOf table w part) where
  -- what a transaction holds in the part
  holds_in : (xid : ℕ) (p : Opened) → get part.opened xid ≡ Some p
      → holds schema part xid p ≡ held_cells schema (rows_at table w.committed) (changes_at table (work_if xid (get w.opened xid)))
  holds_in xid p here =
      ap (λ (r : Rows). held_cells schema r (work xid p)) is.committed
      ∙ ap (held_cells schema (rows_at table w.committed)) (ap (work_if xid) (sym here) ∙ is.work xid)

  module _ (fine : IsFine schema w) where
    works_apart : (xid other : ℕ) → xid ≢ other → (o p : Option Opened) → get w.opened xid ≡ o → get w.opened other ≡ p
        → shares_cell (held_cells schema w.committed (work_if xid o)) (held_cells schema w.committed (work_if other p)) ≡ false
    works_apart xid other differ None p at there = refl
    works_apart xid other differ (Some o) None at there = holds_nothing (held_cells schema w.committed (work xid o))
    works_apart xid other differ (Some o) (Some p) at there = fine.apart xid other o p differ at there

    part_apart : (xid other : ℕ) (o p : Opened) → xid ≢ other → get part.opened xid ≡ Some o → get part.opened other ≡ Some p
        → shares_cell (holds schema part xid o) (holds schema part other p) ≡ false
    part_apart xid other o p differ here there =
        ap (λ cells. shares_cell cells (holds schema part other p)) (holds_in xid o here)
        ∙ ap (shares_cell (held_cells schema (rows_at table w.committed) (changes_at table (work_if xid (get w.opened xid))))) (holds_in other p there)
        ∙ apart_at schema w.committed (work_if xid (get w.opened xid)) (work_if other (get w.opened other)) table
        (works_apart xid other differ (get w.opened xid) (get w.opened other) refl refl)

    works_accepted : (xid : ℕ) (o : Option Opened) → get w.opened xid ≡ o → AreAccepted schema w.committed (work_if xid o)
    works_accepted xid None at = tt
    works_accepted xid (Some o) at = fine.accepted xid o at

    part_accepted : (xid : ℕ) (p : Opened) → get part.opened xid ≡ Some p → AreAccepted schema part.committed (work xid p)
    part_accepted xid p here =
        subst (λ (r : Rows). AreAccepted schema r (work xid p)) (sym is.committed)
        (subst (AreAccepted schema (rows_at table w.committed)) (sym (ap (work_if xid) (sym here) ∙ is.work xid))
        (accepted_at schema table w.committed (work_if xid (get w.opened xid)) (works_accepted xid (get w.opened xid) refl)))

    -- a part that begins with its committed rows
    pub fine_here : part.start ≡ part.committed → part.line ≡ [] → StillClashes schema part → IsFine schema part
    fine_here begins no_commits noted = record {
      valid_start = subst (IsValid schema) (sym (begins ∙ is.committed)) (valid_at schema table w.committed (committed_valid schema w fine));
      serial_commits = sym begins ∙ ap (λ (line : List Past). serial schema part.start (changes_in line)) (sym no_commits);
      apart = part_apart;
      accepted = part_accepted;
      noted = noted;
    }

-- ---- a world by its parts

module _ (schema : Schema) (w : World) (each : (table : ℕ) → HasFinePart schema w table) where
  all_apart : (xid other : ℕ) (o p : Opened) → xid ≢ other → get w.opened xid ≡ Some o → get w.opened other ≡ Some p
      → shares_cell (holds schema w xid o) (holds schema w other p) ≡ false
  all_apart xid other o p differ at there =
      apart_by_tables schema w.committed (work xid o) (work other p) (λ table.
      let h = each table in
      let in_part : (k : ℕ) (q : Opened) → get w.opened k ≡ Some q
      → held_cells schema (rows_at table w.committed) (changes_at table (work k q))
      ≡ held_cells schema h.0.committed (work_if k (get h.0.opened k)) = λ k q open_there.
      ap (λ (r : Rows). held_cells schema r (changes_at table (work k q))) (sym h.1.committed)
      ∙ ap (held_cells schema h.0.committed) (ap (λ open_one. changes_at table (work_if k open_one)) (sym open_there) ∙ sym (h.1.work k)) in
      ap (λ cells. shares_cell cells (held_cells schema (rows_at table w.committed) (changes_at table (work other p)))) (in_part xid o at)
      ∙ ap (shares_cell (held_cells schema h.0.committed (work_if xid (get h.0.opened xid)))) (in_part other p there)
      ∙ parts_apart table xid other differ (get h.0.opened xid) (get h.0.opened other) refl refl)
    where
      parts_apart : (table xid other : ℕ) → xid ≢ other → (o p : Option Opened) → get (each table).0.opened xid ≡ o
          → get (each table).0.opened other ≡ p
          → shares_cell (held_cells schema (each table).0.committed (work_if xid o)) (held_cells schema (each table).0.committed (work_if other p)) ≡ false
      parts_apart table xid other differ None p at there = refl
      parts_apart table xid other differ (Some o) None at there = holds_nothing (held_cells schema (each table).0.committed (work xid o))
      parts_apart table xid other differ (Some o) (Some p) at there = (each table).2.apart xid other o p differ at there

  all_accepted : (xid : ℕ) (o : Opened) → get w.opened xid ≡ Some o → AreAccepted schema w.committed (work xid o)
  all_accepted xid o at =
      accepted_by_tables schema w.committed (work xid o) (λ table.
      subst (λ (r : Rows). AreAccepted schema r (changes_at table (work xid o))) (each table).1.committed
      (subst (AreAccepted schema (each table).0.committed)
      ((each table).1.work xid ∙ ap (λ open_one. changes_at table (work_if xid open_one)) at)
      (in_part table xid (get (each table).0.opened xid) refl)))
    where
      in_part : (table xid : ℕ) (p : Option Opened) → get (each table).0.opened xid ≡ p
          → AreAccepted schema (each table).0.committed (work_if xid p)
      in_part table xid None at = tt
      in_part table xid (Some p) at = (each table).2.accepted xid p at

  pub fine_by_parts : IsValid schema w.start → w.committed ≡ serial schema w.start (changes_in w.line) → StillClashes schema w → IsFine schema w
  fine_by_parts valid serial_so noted = record {
    valid_start = valid;
    serial_commits = serial_so;
    apart = all_apart;
    accepted = all_accepted;
    noted = noted;
  }
