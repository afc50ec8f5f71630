-- The committed rows of a table, by the log of the one transaction that changed it.
--     taken_back, log_laid      its log says what is committed in a table where nobody else holds anything
--     log_there, log_beside      so it is with one that holds the table as a whole
--     none_row, lone_row, lone_laid      and with one that is alone, or where none is open
use Rattle.std.specs.Prelude.{◌≡◌, ◌≢◌, ℕ, false, List, Option, Some, None, IsSome, map, unwrap_or, refl}
use Rattle.std.proofs.Common.{sym, ◌∙◌, ap, subst, arith, inl, inr}
use Rattle.std.proofs.lemmas.Bool.{eq-eqb}
use Rattle.std.specs.List.{Contains, list_any}
use Rattle.std.specs.Ordering.{nat_cmp}
use Rattle.std.specs.BTreeMap as tree
use Rattle.std.specs.BTreeMap.{BTreeMap}
use Rattle.std.specs.FinMap as finite
use Rattle.std.specs.FinMap.{get}
use Rattle.model.specs.declared.key.Key.{Key}
use Rattle.model.specs.declared.row.Row.{Row as RecordRow}
use Rattle.model.specs.declared.cell.Cell.{Cell}
use Rattle.model.specs.declared.cell.Cell.TheVariants.{Row, Whole}
use Rattle.model.specs.Rows.{Rows}
use Rattle.model.specs.Cells.{overlaps}
use Rattle.model.specs.Effect.{all_back}
use Rattle.model.specs.EditLemmas.{get_overlay}
use Rattle.model.specs.ValidLemmas.{not_none}
use Rattle.change.specs.declared.inverse.Inverse.{Inverse}
use Rattle.change.specs.Inverse.{edits_of}
use Rattle.change.specs.Edits.{or_else, laid_together}
use Rattle.change.specs.EditsLemmas.{back_together}
use Rattle.change.specs.Laid.{known_at, IsLaidUnder}
use Rattle.undo.specs.UndoLemmas.{rows_undone}
use Rattle.undo.specs.LogLemmas.{log_undone}
use Rattle.keyholds.specs.Holds.{holds_of, cells_held}
use Rattle.world.specs.World.{Opened, World, holds, work}
use Rattle.world.specs.Live.{IsLive}
use Rattle.world.specs.Steps.{aborted_with}
use Rattle.world.specs.FineLemmas.{fine_aborted}
use Rattle.world.specs.ListingLemmas.{xid_cases, gone_same, gone_other}
use Rattle.world.specs.WorldLemmas.{live_aborted, unheld_live}
use Rattle.live_tables.specs.declared.live_tables.Live.{Live}
use Rattle.live_tables.specs.declared.transaction.OpenTransaction.{OpenTransaction}
use Rattle.live_tables.specs.BasicLemmas.{is_there, its_tells}
use Rattle.live_tables.specs.KeptLemmas.{log_of_work}
use Rattle.live_tables.specs.Merged.{or_row}
use Rattle.live_tables.specs.ReadLemmas.{holder_open, same_holder}
use Rattle.live_tables.specs.Represents.{records_in, Represents}
use Rattle.live_tables.specs.ByHolds.{RepresentsByHolds}
use Rattle.live_tables.specs.ByHoldsLemmas.{by_would}
use Rattle.live_tables.specs.LoneLemmas.{nobody_else}
use Rattle.live_tables.specs.ReadingLemmas.{committed_live}
use Rattle.live_tables.specs.UnheldLemmas.{free_by_cells, whole_overlaps}

-- an open transaction, whose log is put back
module _ (w : World) (l : Live) (tied : RepresentsByHolds w l) (xid : ℕ) (o : Opened) (open_there : get w.opened xid ≡ Some o) (kept : OpenTransaction)
    (at : tree.get nat_cmp l.transactions xid ≡ Some kept) where
  abbrev is : List Inverse
  is = kept.record.log.inverses

  -- that leaves the live rows of a world in which it was aborted
  live_after : IsLive l.tables.schema (aborted_with w xid) (all_back l.tables.rows (map edits_of is))
  live_after =
      subst (IsLive l.tables.schema (aborted_with w xid))
      (sym (sym (rows_undone l.tables is)
      ∙ log_undone l.tables.schema l.tables w.committed (work xid o) is (log_of_work l.tables.schema w xid o kept.record (its_tells w l tied xid o open_there kept at))))
      (live_aborted l.tables.schema w tied.kept.fine l.tables.rows tied.kept.live xid o open_there (fine_aborted l.tables.schema w tied.kept.fine xid))

  -- where nobody else holds anything in a table, its rows are then the committed ones
  module _ (table : ℕ) (free_after : (key : Key) (other : ℕ) (p : Opened) → get (aborted_with w xid).opened other ≡ Some p
      → list_any (overlaps (Row table key)) (holds l.tables.schema (aborted_with w xid) other p) ≡ false) where
    pub taken_back : (key : Key) → unwrap_or (get (laid_together (map edits_of is)) (table, key)) (get l.tables.rows (table, key)) ≡ get w.committed (table, key)
    taken_back key =
        sym (get_overlay l.tables.rows (laid_together (map edits_of is)) (table, key))
        ∙ ap (λ (r : Rows). get r (table, key)) (back_together l.tables.rows (map edits_of is))
        ∙ sym (unheld_live l.tables.schema (aborted_with w xid) (fine_aborted l.tables.schema w tied.kept.fine xid) (all_back l.tables.rows (map edits_of is)) live_after (Row table key)
        (free_after key))

    pub log_laid : (old new : BTreeMap Key (Option RecordRow)) → IsLaidUnder old table (laid_together (map edits_of is)) new
        → (key : Key) → or_row (known_at new key) (get l.tables.rows (table, key)) ≡ or_row (known_at old key) (get w.committed (table, key))
    log_laid old new laid key =
        ap (λ (o : Option (Option RecordRow)). or_row o (get l.tables.rows (table, key))) (laid key)
        ∙ either (known_at old key) (get (laid_together (map edits_of is)) (table, key))
        ∙ ap (or_row (known_at old key)) (taken_back key)
      where
        either : (o edit : Option (Option RecordRow)) → or_row (or_else o edit) (get l.tables.rows (table, key)) ≡ or_row o (unwrap_or edit (get l.tables.rows (table, key)))
        either None None = refl
        either None (Some row) = refl
        either (Some row) edit = refl

-- ---- a transaction that holds the table as a whole

module _ (w : World) (l : Live) (tied : RepresentsByHolds w l) (xid table : ℕ) (whole : Contains (cells_held l.holds xid) (Whole table)) where
  its : (o : Opened) × (get w.opened xid ≡ Some o)
  its = holder_open l.tables.schema l.tables w (records_in l.transactions) tied.kept (holds_of l.holds) tied.holds tied.before_image xid (Whole table) whole

  pub log_there : IsSome (tree.get nat_cmp l.transactions xid)
  log_there = is_there w l tied xid its.0 its.1

  -- nobody else holds anything in the table
  alone : (other : ℕ) (key : Key) → other ≢ xid → ¬ Contains (cells_held l.holds other) (Row table key)
  alone other key differs has =
      differs (same_holder l.tables.schema l.tables w (records_in l.transactions) tied.kept (holds_of l.holds) tied.holds tied.before_image other xid (Row table key) (Whole table) has whole
      (whole_overlaps table key))

  alone_whole : (other : ℕ) → other ≢ xid → ¬ Contains (cells_held l.holds other) (Whole table)
  alone_whole other differs has =
      differs (same_holder l.tables.schema l.tables w (records_in l.transactions) tied.kept (holds_of l.holds) tied.holds tied.before_image other xid (Whole table) (Whole table) has whole
      (eq-eqb table table refl))

  module _ (kept : OpenTransaction) (at : tree.get nat_cmp l.transactions xid ≡ Some kept) where
    -- there nobody holds anything in the table
    free_after : (key : Key) (other : ℕ) (p : Opened) → get (aborted_with w xid).opened other ≡ Some p
        → list_any (overlaps (Row table key)) (holds l.tables.schema (aborted_with w xid) other p) ≡ false
    free_after key other p there = elim (xid_cases other xid) [
      | inl same ↦ absurd (not_none p (sym (gone_same w.opened xid) ∙ ap (get (finite.remove w.opened xid)) (sym same) ∙ there))
      | inr differs ↦
          let was : get w.opened other ≡ Some p = sym (gone_other w.opened xid other differs) ∙ there in
          free_by_cells table key (cells_held l.holds other) (holds l.tables.schema w other p) (tied.holds.its other p was) (alone other key differs) (alone_whole other differs)
    ]

    pub log_beside : (old new : BTreeMap Key (Option RecordRow)) → IsLaidUnder old table (laid_together (map edits_of kept.record.log.inverses)) new
        → (key : Key) → or_row (known_at new key) (get l.tables.rows (table, key)) ≡ or_row (known_at old key) (get w.committed (table, key))
    log_beside = log_laid w l tied xid its.0 its.1 kept at table free_after

-- ---- a transaction that is alone

module _ (w : World) (l : Live) (tied : Represents w l) (alone : l.made ≡ false) where
  -- the live rows are the committed ones where none is open
  pub none_row : ((other : ℕ) → get w.opened other ≡ None) → (table : ℕ) (key : Key) → get l.tables.rows (table, key) ≡ get w.committed (table, key)
  none_row nobody table key =
      let stood = by_would w l tied alone in
      let none : (xid : ℕ) (cell : Cell) → ¬ Contains (cells_held (tied.lone alone).would xid) cell =
      λ xid cell has. omega (arith, (subst (λ (cells : List Cell). Contains cells cell) (stood.holds.none xid (nobody xid)) has).1) in
      committed_live w (record l { holds = (tied.lone alone).would }) stood table key (λ xid. none xid (Row table key)) (λ xid. none xid (Whole table))

  module _ (xid : ℕ) (o : Opened) (open_there : get w.opened xid ≡ Some o) (kept : OpenTransaction) (at : tree.get nat_cmp l.transactions xid ≡ Some kept) (table : ℕ) where
    nobody_after : (key : Key) (other : ℕ) (p : Opened) → get (aborted_with w xid).opened other ≡ Some p
        → list_any (overlaps (Row table key)) (holds l.tables.schema (aborted_with w xid) other p) ≡ false
    nobody_after key other p there = elim (xid_cases other xid) [
      | inl same ↦ absurd (not_none p (sym (gone_same w.opened xid) ∙ ap (get (finite.remove w.opened xid)) (sym same) ∙ there))
      | inr differs ↦
          absurd (not_none p (sym (nobody_else w l tied alone xid o open_there other differs) ∙ sym (gone_other w.opened xid other differs) ∙ there))
    ]

    -- what its log says of a place, or else the live row
    pub lone_row : (key : Key) → unwrap_or (get (laid_together (map edits_of kept.record.log.inverses)) (table, key)) (get l.tables.rows (table, key)) ≡ get w.committed (table, key)
    lone_row = taken_back w (record l { holds = (tied.lone alone).would }) (by_would w l tied alone) xid o open_there kept at table nobody_after

    pub lone_laid : (old new : BTreeMap Key (Option RecordRow)) → IsLaidUnder old table (laid_together (map edits_of kept.record.log.inverses)) new
        → (key : Key) → or_row (known_at new key) (get l.tables.rows (table, key)) ≡ or_row (known_at old key) (get w.committed (table, key))
    lone_laid = log_laid w (record l { holds = (tied.lone alone).would }) (by_would w l tied alone) xid o open_there kept at table nobody_after
