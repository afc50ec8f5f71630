-- What lies beside the cells that are held, through each call of a store. Each law has the statement of its name.
use Rattle.std.proofs.Common.{◌≡◌, ◌≢◌, ℕ, ◌≤◌, ◌⊎◌, true, false, List, [], ◌∷◌, ◌++◌, length, take, Option, Some, None, refl, sym, ap, subst, ◌∙◌, arith, inl, inr}
use Rattle.std.specs.Prelude.{slice_get, unwrap_or}
use Rattle.std.specs.List.{Contains, list_any}
use Rattle.std.specs.Map.{keys_of}
use Rattle.std.specs.Ordering.{nat_cmp}
use Rattle.std.specs.FinMap.{get, get-empty}
use Rattle.std.proofs.lemmas.Map.Entries.{length-keys_of}
use Rattle.model.specs.ValidLemmas.{not_none}
use Rattle.model.specs.declared.key.Key.{Key}
use Rattle.model.specs.declared.row.Row.{Row as RecordRow}
use Rattle.model.specs.declared.change.Change as change_type
use Rattle.model.specs.declared.change.Change.TheVariants.{Wipe}
use Rattle.model.specs.declared.cell.Cell.{Cell}
use Rattle.model.specs.declared.cell.Cell.TheVariants.{Row, Uniq, Whole}
use Rattle.model.specs.declared.item.Item.{Item}
use Rattle.model.specs.declared.item.Item.TheVariants.{Change, Touch, BackTo}
use Rattle.model.specs.Rows.{Place, Rows, Schema}
use Rattle.model.specs.Effect.{Done, Skip, wipe_edits, outcome, inverse}
use Rattle.model.specs.EffectLemmas.{is_named, row_before_wipe, get_inverse_wipe}
use Rattle.model.specs.Cells.{overlaps}
use Rattle.model.specs.CellContents.{SameAt}
use Rattle.model.specs.Footprint.{footprint}
use Rattle.model.specs.SerialLemmas.{leaves_free_cell}
use Rattle.indexes.specs.Content.{Content}
use Rattle.change.specs.declared.inverse.Inverse.{Inverse}
use Rattle.change.specs.Inverse.{edits_of, row_by_inverse}
use Rattle.change.specs.InverseLemmas.{contains_first, contains_here, contains_later}
use Rattle.savepoint.specs.declared.mark.Mark.{Mark}
use Rattle.savepoint.specs.Savepoints.{mark_at, before_mark}
use Rattle.savepoint.specs.Record.{Record}
use Rattle.world.specs.World.{Opened, World, work, own_rows, holds}
use Rattle.world.specs.Steps.{done_with, aborted_with, committed_with}
use Rattle.world.specs.ListingLemmas.{xid_cases}
use Rattle.keyholds.specs.Holds.{with_holds}
use Rattle.live_tables.specs.declared.before_image.BeforeImage.{BeforeImage}
use Rattle.live_tables.specs.declared.before_image.BeforeImage.TheVariants.{Row as BeforeImageRow, Wiped, Other}
use Rattle.live_tables.specs.KeptRecords.{Represents, IsPutAt}
use Rattle.live_tables.specs.Held.{AreHolds, HasHeldMarks}
use Rattle.live_tables.specs.CallResults.{HasItem}
use Rattle.live_tables.specs.Statements.{IsFreeLive}
use Rattle.live_tables.specs.BeforeImages.{HasTable, LiesBeside, AreBeforeImages, HasBeforeImages, IsToStand, cells_of_each, up_to_before_image, IsStoodAt}
use Rattle.live_tables.specs.UnheldLemmas.{free_by_cells, free_by_first, free_in_table, unheld_row, wipe_of}
use Rattle.live_tables.specs.BeforeImageLemmas.{beside_over, before_image_more, marks_with, before_image_cut, before_image_put, before_image_same, before_image_gone, slice_next, contains_index}
use Rattle.live_tables.specs.ReadStatements.{StartKeepsBeforeImages, OpenKeepsBeforeImages, DoneKeepsBeforeImages, SkipKeepsBeforeImages, TouchKeepsBeforeImages, SameKeepsBeforeImages, RollbackKeepsBeforeImages, AbortKeepsBeforeImages, CommitKeepsBeforeImages, StopKeepsBeforeImages}

pub start_keeps_before_images : StartKeepsBeforeImages
start_keeps_before_images rows records held xid o r at found = absurd (not_none o (sym (get-empty nat_cmp xid) ∙ at))

-- ---- a transaction opens

pub no_holds : {S : Type 0} (held : List (Cell × S)) → keys_of held ≡ [] → held ≡ []
no_holds [] none = refl
no_holds (hold ∷ held) none = absurd cc

pub no_before_image : (committed : Rows) (log : List Inverse) (marks : List (ℕ × Mark)) (held : List (Cell × BeforeImage)) → held ≡ [] → AreBeforeImages committed log marks held
no_before_image committed log marks held none =
    subst (AreBeforeImages committed log marks) (sym none)
    (record {
      beside = λ index cell before_image at. absurd (nothing index (cell, before_image) at);
      once = λ index cell before_image at. absurd (nothing index (cell, before_image) at);
      marked = λ sub m at index table count below there. absurd (nothing index (Whole table, Wiped count) there);
    })
  where
    nothing : (index : ℕ) (hold : Cell × BeforeImage) → ¬ (slice_get [] index ≡ Some hold)
    nothing index hold at = cc

pub open_keeps_before_images : OpenKeepsBeforeImages
open_keeps_before_images schema w records held are had xid absent after r put =
    before_image_put w records held had xid after (record { items = []; wants = None }) w.stopped r put held (λ other differs. refl)
    (no_before_image w.committed r.log.inverses r.marks (held xid) (no_holds (held xid) (are.none xid absent)))

-- ---- a change is done or skipped

before_wipe : (row : Option RecordRow) → unwrap_or (row_before_wipe true row) None ≡ row
before_wipe None = refl
before_wipe (Some row) = refl

-- the inverse of a wipe has the rows of each table that it names
pub row_of_wipe : (schema : Schema) (rows : Rows) (tables : List ℕ) (i : Inverse) → edits_of i ≡ inverse schema rows (Wipe tables) → (table : ℕ) (key : Key)
    → is_named tables table ≡ true → row_by_inverse i (table, key) ≡ get rows (table, key)
row_of_wipe schema rows tables i is table key named =
    ap (λ e. unwrap_or (get e (table, key)) None) is
    ∙ ap (λ e. unwrap_or e None) (get_inverse_wipe schema rows tables (table, key))
    ∙ ap (λ b. unwrap_or (row_before_wipe b (get rows (table, key))) None) named
    ∙ before_wipe (get rows (table, key))

module _ (schema : Schema) (t : Content) (w : World) (records : ℕ → Option Record) (kept : Represents schema t w records) (held : ℕ → List (Cell × BeforeImage))
    (are : AreHolds schema w (cells_of_each held)) (xid : ℕ) (o : Opened) (is : get w.opened xid ≡ Some o) (c : change_type.Change) (free : IsFreeLive schema t w xid c) where
  -- the live row at a place that the transaction didn't hold yet, and no other holds, is the committed one
  row_unheld : (table : ℕ) (key : Key) → ¬ Contains (keys_of (held xid)) (Row table key) → ¬ Contains (keys_of (held xid)) (Whole table)
      → ((other : ℕ) (p : Opened) → other ≢ xid → get w.opened other ≡ Some p → list_any (overlaps (Row table key)) (holds schema w other p) ≡ false)
      → get t.rows (table, key) ≡ get w.committed (table, key)
  row_unheld table key no_row no_table apart =
      unheld_row schema t w records kept table key
      (λ other p at.
      elim (xid_cases other xid) [
        | inl same ↦
            free_by_cells table key (keys_of (held other)) (holds schema w other p) (are.its other p at)
            (subst (λ (n : ℕ). ¬ Contains (keys_of (held n)) (Row table key)) (sym same) no_row)
            (subst (λ (n : ℕ). ¬ Contains (keys_of (held n)) (Whole table)) (sym same) no_table)
        | inr differs ↦ apart other p differs at
      ])

  -- so it is where the change meets the place, or its table as a whole
  row_first_held : (table : ℕ) (key : Key) → Contains (footprint schema t.rows c) (Row table key) ⊎ Contains (footprint schema t.rows c) (Whole table)
      → ¬ Contains (keys_of (held xid)) (Row table key) → ¬ Contains (keys_of (held xid)) (Whole table) → get t.rows (table, key) ≡ get w.committed (table, key)
  row_first_held table key (inl its) no_row no_table =
      row_unheld table key no_row no_table
      (λ other p differs at. free_by_first (footprint schema t.rows c) (holds schema w other p) (free.1 other p differs at) (Row table key) its)
  row_first_held table key (inr its) no_row no_table =
      row_unheld table key no_row no_table
      (λ other p differs at.
      free_in_table table key (holds schema w other p) (free_by_first (footprint schema t.rows c) (holds schema w other p) (free.1 other p differs at) (Whole table) its))

-- What lies beside the cells of a change, where what is to lie there was read before it: at its places these rows, which are the
-- committed ones where nothing was held yet.
module _ (schema : Schema) (committed rows : Rows) (c : change_type.Change) (held : List Cell)
    (first_held : (table : ℕ) (key : Key) → Contains (footprint schema rows c) (Row table key) ⊎ Contains (footprint schema rows c) (Whole table)
    → ¬ Contains held (Row table key) → ¬ Contains held (Whole table) → get rows (table, key) ≡ get committed (table, key))
    (read : Place → Option RecordRow) (is_read : (table : ℕ) (key : Key) → Contains (footprint schema rows c) (Row table key) → read (table, key) ≡ get rows (table, key))
    (log inverses : List Inverse) (has : (tables : List ℕ) → c ≡ Wipe tables → (i : Inverse) × (inverses ≡ i ∷ []) × (edits_of i ≡ inverse schema rows c))
    (before : List Cell) (over : (cell : Cell) → Contains held cell → Contains before cell) where
  -- the table that a wipe meets first lies in its inverse
  table_emptied : (table count : ℕ) → Contains (footprint schema rows c) (Whole table) → ¬ Contains before (Whole table) → count ≡ length log
      → HasTable committed (log ++ inverses) before table count
  table_emptied table count its no_table last =
      let wipe = wipe_of schema rows c table its in
      let inv = has wipe.0 wipe.1 in
      record {
        inverse = inv.0;
        at =
            subst (λ (n : ℕ). slice_get (log ++ inverses) n ≡ Some inv.0) (sym last)
            (subst (λ (is : List Inverse). slice_get (log ++ is) (length log) ≡ Some inv.0) (sym inv.1) (slice_next log inv.0));
        rows = λ key no_row.
            row_of_wipe schema rows wipe.0 inv.0 (inv.2 ∙ ap (inverse schema rows) wipe.1) table key wipe.2
            ∙ first_held table key (inr its) (λ there. no_row (over (Row table key) there)) (λ there. no_table (over (Whole table) there));
      }

  pub stands_beside : (cell : Cell) (before_image : BeforeImage) → Contains (footprint schema rows c) cell → ¬ Contains before cell
      → IsToStand read (length log) held cell before_image → LiesBeside committed (log ++ inverses) before cell before_image
  stands_beside (Row table key) (BeforeImageRow row) its new stands =
      stands.0 ∙ is_read table key its ∙ first_held table key (inl its) (λ there. new (over (Row table key) there)) stands.1
  stands_beside (Row table key) (Wiped count) its new stands = stands
  stands_beside (Row table key) Other its new stands = over (Whole table) stands
  stands_beside (Uniq table number values) before_image its new stands = tt
  stands_beside (Whole table) (BeforeImageRow row) its new stands = stands
  stands_beside (Whole table) (Wiped count) its new stands = table_emptied table count its new stands
  stands_beside (Whole table) Other its new stands = stands

pub contains_key : {S : Type 0} (holds : List (Cell × S)) (cell : Cell) (before_image : S) → Contains holds (cell, before_image) → Contains (keys_of holds) cell
contains_key [] cell before_image is = absurd (omega (arith, is.1))
contains_key {S} (hold ∷ holds) cell before_image is =
    elim (contains_first hold holds (cell, before_image) is) [
      | inl same ↦ subst (λ (c : Cell). Contains (keys_of (hold ∷ holds)) c) (ap (λ (h : Cell × S). h.0) same) (contains_here hold.0 (keys_of holds))
      | inr later ↦ contains_later hold.0 (keys_of holds) cell (contains_key holds cell before_image later)
    ]

-- one more item of a transaction
module _ (schema : Schema) (w : World) (records : ℕ → Option Record) (held : ℕ → List (Cell × BeforeImage)) (had : HasBeforeImages w records held)
    (xid : ℕ) (o : Opened) (is : get w.opened xid ≡ Some o) (r : Record) (found : records xid ≡ Some r) (marks : HasHeldMarks schema w.committed r (keys_of (held xid)))
    (sub : ℕ) (item : Item) (inverses : List Inverse) (after : ℕ → Option Record) (s : Record) (put : IsPutAt records xid (Some s) after)
    (has : HasItem xid sub item inverses r s) (held_is : has.mark.held ≡ length (held xid)) where
  with_item : (more : List (Cell × BeforeImage)) (later : ℕ → List (Cell × BeforeImage)) → IsStoodAt held xid (with_holds (held xid) more) later
      → ((before : List Cell) → ((cell : Cell) → Contains (keys_of (held xid)) cell → Contains before cell)
      → (cell : Cell) (before_image : BeforeImage) → Contains more (cell, before_image) → ¬ Contains before cell → LiesBeside w.committed (r.log.inverses ++ inverses) before cell before_image)
      → HasBeforeImages (done_with w xid o item) after later
  with_item more later at fits =
      before_image_put w records held had xid after (record { items = o.items ++ item ∷ []; wants = None }) w.stopped s put later at.beside
      (subst (AreBeforeImages w.committed s.log.inverses s.marks) (sym at.here)
      (subst (λ (log : List Inverse). AreBeforeImages w.committed log s.marks (with_holds (held xid) more)) (sym has.inverses)
      (before_image_more w.committed r.log.inverses r.marks (held xid) (had xid o r is found)
      (λ other m there. subst (λ (n : ℕ). m.held ≤ n) (length-keys_of (held xid)) (marks.within other m there)) inverses more fits s.marks
      (marks_with xid sub has.mark r.marks s.marks (length r.log.inverses) (length (held xid)) has.undo held_is has.marks))))

pub done_keeps_before_images : DoneKeepsBeforeImages
done_keeps_before_images new i schema t w records kept held are had xid o is marks sub c free applied after s put has held_is later takes =
    let before = kept.ready xid o is in
    with_item schema w records held had xid o is before.its before.found marks sub (Change sub c) (i ∷ []) after s put has held_is takes.more later takes.at
    (λ front over cell before_image its fresh.
    stands_beside schema w.committed t.rows c (keys_of (held xid)) (row_first_held schema t w records kept held are xid o is c free) (get t.rows) (λ table key at. refl)
    before.its.log.inverses (i ∷ []) (λ tables wipe. (i, refl, applied.back_is)) front over cell before_image
    (subst (λ (cs : List Cell). Contains cs cell) takes.its (contains_key takes.more cell before_image its)) fresh
    (takes.stand cell before_image its (λ there. fresh (over cell there))))

-- a wipe is never skipped
pub wipe_is_done : (schema : Schema) (rows : Rows) (c : change_type.Change) (tables : List ℕ) → c ≡ Wipe tables → ¬ (outcome schema rows c ≡ Skip)
wipe_is_done schema rows c tables wipe skipped = differ (sym (ap (outcome schema rows) wipe) ∙ skipped)
  where
    differ : ¬ (Done (wipe_edits rows tables) ≡ Skip)
    differ e = cc

pub skip_keeps_before_images : SkipKeepsBeforeImages
skip_keeps_before_images schema t w records kept held are had xid o is marks sub c free skipped after s put has held_is later takes =
    let before = kept.ready xid o is in
    with_item schema w records held had xid o is before.its before.found marks sub (Change sub c) [] after s put has held_is takes.more later takes.at
    (λ front over cell before_image its fresh.
    stands_beside schema w.committed t.rows c (keys_of (held xid)) (row_first_held schema t w records kept held are xid o is c free) (get t.rows) (λ table key at. refl)
    before.its.log.inverses [] (λ tables wipe. absurd (wipe_is_done schema t.rows c tables wipe skipped)) front over cell before_image
    (subst (λ (cs : List Cell). Contains cs cell) takes.its (contains_key takes.more cell before_image its)) fresh
    (takes.stand cell before_image its (λ there. fresh (over cell there))))

pub touch_keeps_before_images : TouchKeepsBeforeImages
touch_keeps_before_images schema t w records kept held had xid o is marks sub after s put has held_is =
    let before = kept.ready xid o is in
    with_item schema w records held had xid o is before.its before.found marks sub (Touch sub) [] after s put has held_is [] held
    (record { here = refl; beside = λ other differs. refl })
    (λ front over cell before_image its fresh. absurd (omega (arith, its.1)))

-- ---- what leaves a transaction's work, and what takes a part of it back

pub same_keeps_before_images : SameKeepsBeforeImages
same_keeps_before_images schema t w records kept held had xid o is after s put same =
    let before = kept.ready xid o is in
    let its : AreBeforeImages w.committed s.log.inverses s.marks (held xid) =
    subst (λ (ms : List (ℕ × Mark)). AreBeforeImages w.committed s.log.inverses ms (held xid)) (sym same.marks)
    (subst (λ (log : List Inverse). AreBeforeImages w.committed log before.its.marks (held xid)) (sym same.inverses) (had xid o before.its is before.found)) in (
      before_image_same w records held had xid after s put its,
      λ sub c stopped. before_image_put w records held had xid after (record o { wants = Some (sub, c) }) stopped s put held (λ other differs. refl) its,
    )

pub rollback_keeps_before_images : RollbackKeepsBeforeImages
rollback_keeps_before_images schema t w records kept held had xid o is sub new after s put back later at =
    let before = kept.ready xid o is in
    before_image_put w records held had xid after (record { items = o.items ++ BackTo sub ∷ []; wants = None }) w.stopped s put later at.beside
    (subst (AreBeforeImages w.committed s.log.inverses s.marks) (sym at.here)
    (subst (λ (ms : List (ℕ × Mark)). AreBeforeImages w.committed s.log.inverses ms (up_to_before_image (mark_at sub before.its.marks) (held xid))) (sym back.marks)
    (subst (λ (log : List Inverse). AreBeforeImages w.committed log (before_mark sub before.its.marks) (up_to_before_image (mark_at sub before.its.marks) (held xid))) (sym back.inverses)
    (before_image_cut w.committed before.its.log.inverses before.its.marks (held xid) (had xid o before.its is before.found) sub (mark_at sub before.its.marks) refl))))

-- ---- a transaction ends

pub abort_keeps_before_images : AbortKeepsBeforeImages
abort_keeps_before_images w records held had xid after gone later at =
    before_image_gone w records held had xid after w.committed (aborted_with w xid) refl refl gone later at.beside (λ other p differs there log marks before_image. before_image)

-- the cells that another holds have what they had
over_others : (schema : Schema) (committed others : Rows) (log : List Inverse) (marks : List (ℕ × Mark)) (held : List (Cell × BeforeImage))
    → ((cell : Cell) → Contains (keys_of held) cell → SameAt schema committed others cell) → AreBeforeImages committed log marks held → AreBeforeImages others log marks held
over_others schema committed others log marks held same had = record {
  beside = λ index cell before_image at.
      beside_over schema committed others log (keys_of (take index held)) cell before_image
      (same cell (contains_key held cell before_image (contains_index held index (cell, before_image) at))) (had.beside index cell before_image at);
  once = had.once;
  marked = had.marked;
}

pub commit_keeps_before_images : CommitKeepsBeforeImages
commit_keeps_before_images schema t w records kept held are had xid o is info after gone later at =
    before_image_gone w records held had xid after (own_rows schema w xid o) (committed_with schema w xid o info) refl refl gone later at.beside
    (λ other p differs there log marks.
    over_others schema w.committed (own_rows schema w xid o) log marks (held other)
    (λ cell its.
    leaves_free_cell schema w.committed (work xid o) cell
    (free_by_first (holds schema w other p) (holds schema w xid o) (kept.fine.apart other xid p o differs there is) cell ((are.its other p there cell).0 its))))

pub stop_keeps_before_images : StopKeepsBeforeImages
stop_keeps_before_images schema w records held had sent waiter (Some holder) new h = subst (λ (v : World). HasBeforeImages v records held) (sym h.1) had
stop_keeps_before_images schema w records held had sent waiter None new h = subst (λ (v : World). HasBeforeImages v records held) (sym h.1) had
