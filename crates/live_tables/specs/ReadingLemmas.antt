-- The committed row at a place, as a store that is tied finds it.
--     tied_fits      what lies beside each cell fits it
--     committed_live, committed_beside, committed_emptied      the row in the tables, beside the place, in an inverse
use Rattle.std.proofs.Common.{◌≡◌, ℕ, Option, Some, ◌∙◌}
use Rattle.std.specs.Prelude.{slice_get}
use Rattle.std.specs.List.{Contains}
use Rattle.std.specs.FinMap.{get}
use Rattle.model.specs.declared.key.Key.{Key}
use Rattle.model.specs.declared.row.Row.{Row as RecordRow}
use Rattle.model.specs.declared.cell.Cell.TheVariants.{Row, Whole}
use Rattle.change.specs.declared.inverse.Inverse.{Inverse}
use Rattle.change.specs.Inverse.{row_by_inverse}
use Rattle.keyholds.specs.Holds.{holds_of, cells_held}
use Rattle.savepoint.specs.Record.{Record}
use Rattle.world.specs.World.{World}
use Rattle.live_tables.specs.declared.live_tables.Live.{Live}
use Rattle.live_tables.specs.declared.before_image.BeforeImage.TheVariants.{Row as BeforeImageRow, Wiped}
use Rattle.live_tables.specs.ReadLemmas.{free_row_is_committed, held_row_is_committed, wiped_row_is_committed, each_fits, before_image_of}
use Rattle.live_tables.specs.BeforeImages.{BeforeImageFits, HasNoRowBeside}
use Rattle.live_tables.specs.BeforeImageCallLemmas.{contains_key}
use Rattle.live_tables.specs.Represents.{records_in}
use Rattle.live_tables.specs.ByHolds.{RepresentsByHolds}

module _ (w : World) (l : Live) (tied : RepresentsByHolds w l) where
  pub tied_fits : BeforeImageFits (holds_of l.holds)
  tied_fits = each_fits l.tables.schema l.tables w (records_in l.transactions) tied.kept (holds_of l.holds) tied.holds tied.before_image

  module _ (table : ℕ) (key : Key) where
    -- nobody holds the place or its table
    pub committed_live : ((xid : ℕ) → ¬ Contains (cells_held l.holds xid) (Row table key)) → ((xid : ℕ) → ¬ Contains (cells_held l.holds xid) (Whole table))
        → get l.tables.rows (table, key) ≡ get w.committed (table, key)
    committed_live = free_row_is_committed l.tables.schema l.tables w (records_in l.transactions) tied.kept (cells_held l.holds) tied.holds table key

    -- a row lies beside the place
    pub committed_beside : (xid : ℕ) (row : Option RecordRow) → Contains (holds_of l.holds xid) (Row table key, BeforeImageRow row) → row ≡ get w.committed (table, key)
    committed_beside xid row has =
        held_row_is_committed l.tables.schema l.tables w (records_in l.transactions) tied.kept (holds_of l.holds) tied.holds tied.before_image xid table key row has

    -- its table was emptied
    pub committed_emptied : (xid count : ℕ) → Contains (holds_of l.holds xid) (Whole table, Wiped count) → HasNoRowBeside (holds_of l.holds) table key
        → (row : Option RecordRow)
        → ((r : Record) (i : Inverse) → records_in l.transactions xid ≡ Some r → slice_get r.log.inverses count ≡ Some i → row ≡ row_by_inverse i (table, key))
        → row ≡ get w.committed (table, key)
    committed_emptied xid count whole place row is_kept =
        let its =
        before_image_of l.tables.schema l.tables w (records_in l.transactions) tied.kept (holds_of l.holds) tied.holds tied.before_image xid (Whole table)
        (contains_key (holds_of l.holds xid) (Whole table) (Wiped count) whole) in
        let found =
        wiped_row_is_committed l.tables.schema l.tables w (records_in l.transactions) tied.kept (holds_of l.holds) tied.holds tied.before_image xid table key count whole place its.0 its.1 in
        is_kept its.0 found.0 its.1 found.1 ∙ found.2
