-- The laws of a store's reads.
use Rattle.std.proofs.Common.{◌≡◌, ℕ, zero, suc, ◌<◌, ◌⊎◌, true, List, [], take, Option, Some, None, refl, sym, ap, subst, ◌∙◌, arith, inl, inr, true≢false}
use Rattle.std.specs.Prelude.{slice_get}
use Rattle.std.specs.List.{Contains}
use Rattle.std.specs.Map.{keys_of}
use Rattle.std.specs.FinMap.{get}
use Rattle.model.specs.declared.key.Key.{Key}
use Rattle.model.specs.declared.cell.Cell.{Cell}
use Rattle.model.specs.declared.cell.Cell.TheVariants.{Row, Whole}
use Rattle.model.specs.Rows.{Rows, Schema}
use Rattle.model.specs.Cells.{overlaps}
use Rattle.indexes.specs.Content.{Content}
use Rattle.change.specs.declared.inverse.Inverse.{Inverse}
use Rattle.change.specs.Inverse.{row_by_inverse}
use Rattle.savepoint.specs.declared.mark.Mark.{Mark}
use Rattle.savepoint.specs.Record.{Record}
use Rattle.world.specs.World.{Opened, World, holds}
use Rattle.world.specs.ListingLemmas.{xid_cases}
use Rattle.live_tables.specs.declared.before_image.BeforeImage.{BeforeImage}
use Rattle.live_tables.specs.declared.before_image.BeforeImage.TheVariants.{Row as BeforeImageRow, Wiped, Other}
use Rattle.live_tables.specs.KeptRecords.{Represents}
use Rattle.live_tables.specs.Held.{AreHolds}
use Rattle.live_tables.specs.BeforeImages.{HasTable, LiesBeside, AreBeforeImages, HasBeforeImages, cells_of_each}
use Rattle.live_tables.specs.HoldsLemmas.{share_one}
use Rattle.live_tables.specs.UnheldLemmas.{free_by_cells, unheld_row, whole_overlaps}
use Rattle.live_tables.specs.BeforeImageLemmas.{slice_front, front_slice, contains_index, index_contains, same_record, cells_front, index_of_key}
use Rattle.live_tables.specs.BeforeImageCallLemmas.{contains_key}
use Rattle.live_tables.specs.ReadStatements.{FreeRowIsCommitted, HeldRowIsCommitted, WipedRowIsCommitted, EachFits}

pub free_row_is_committed : FreeRowIsCommitted
free_row_is_committed schema t w records kept held are table key no_row no_table =
    unheld_row schema t w records kept table key
    (λ xid o is. free_by_cells table key (held xid) (holds schema w xid o) (are.its xid o is) (no_row xid) (no_table xid))

-- ---- what lies beside the cells of one transaction

-- what it has before a cell
cells_sooner : (held : List (Cell × BeforeImage)) (m n : ℕ) (cell : Cell) → m < n → Contains (keys_of (take m held)) cell → Contains (keys_of (take n held)) cell
cells_sooner held m n cell below is =
    let found = index_of_key (take m held) cell is in
    let was = slice_front m held found.0 (cell, found.1) found.2 in
    contains_key (take n held) cell found.1
    (contains_index (take n held) found.0 (cell, found.1) (front_slice n held found.0 (cell, found.1) (omega (arith, below, was.0)) was.1))

nat_cases : (i j : ℕ) → (i < j) ⊎ ((j < i) ⊎ (i ≡ j))
nat_cases zero zero = inr (inr refl)
nat_cases zero (suc j) = inl (omega arith)
nat_cases (suc i) zero = inr (inl (omega arith))
nat_cases (suc i) (suc j) =
    elim (nat_cases i j) [
      | inl below ↦ inl (omega (arith, below))
      | inr rest ↦
          elim rest [
            | inl above ↦ inr (inl (omega (arith, above)))
            | inr same ↦ inr (inr (ap suc same))
          ]
    ]

module _ (committed : Rows) (inverses : List Inverse) (marks : List (ℕ × Mark)) (held : List (Cell × BeforeImage)) (had : AreBeforeImages committed inverses marks held) where
  -- no cell lies there twice
  not_sooner : (cell : Cell) (one two : BeforeImage) (i j : ℕ) → i < j → slice_get held i ≡ Some (cell, one) → ¬ (slice_get held j ≡ Some (cell, two))
  not_sooner cell one two i j below first second =
      had.once j cell two second
      (contains_key (take j held) cell one (contains_index (take j held) i (cell, one) (front_slice j held i (cell, one) below first)))

  same_index : (cell : Cell) (one two : BeforeImage) (i j : ℕ) → slice_get held i ≡ Some (cell, one) → slice_get held j ≡ Some (cell, two) → i ≡ j
  same_index cell one two i j first second =
      elim (nat_cases i j) [
        | inl below ↦ absurd (not_sooner cell one two i j below first second)
        | inr rest ↦
            elim rest [
              | inl above ↦ absurd (not_sooner cell two one j i above second first)
              | inr same ↦ same
            ]
      ]

  -- a place with nothing beside it was held behind its table
  behind_table : (table : ℕ) (key : Key) (i j count : ℕ) → slice_get held i ≡ Some (Row table key, Other) → slice_get held j ≡ Some (Whole table, Wiped count)
      → ¬ Contains (keys_of (take j held)) (Row table key)
  behind_table table key i j count place whole is =
      let found = index_of_key (take j held) (Row table key) is in
      let was = slice_front j held found.0 (Row table key, found.1) found.2 in
      let same = same_index (Row table key) found.1 Other found.0 i was.1 place in
      had.once j (Whole table) (Wiped count) whole
      (cells_sooner held i j (Whole table) (omega (arith, same, was.0)) (had.beside i (Row table key) Other place))

-- ---- in a store

module _ (schema : Schema) (t : Content) (w : World) (records : ℕ → Option Record) (kept : Represents schema t w records)
    (held : ℕ → List (Cell × BeforeImage)) (are : AreHolds schema w (cells_of_each held)) (had : HasBeforeImages w records held) where
  -- whoever holds a cell is open
  pub holder_open : (xid : ℕ) (cell : Cell) → Contains (keys_of (held xid)) cell → (o : Opened) × (get w.opened xid ≡ Some o)
  holder_open xid cell has = by (get w.opened xid) refl
    where
      by : (found : Option Opened) → get w.opened xid ≡ found → (o : Opened) × (get w.opened xid ≡ Some o)
      by None at = absurd (let none : Contains [] cell = subst (λ (cs : List Cell). Contains cs cell) (are.none xid at) has in omega (arith, none.1))
      by (Some o) at = (o, at)

  -- what lies beside its cells
  pub before_image_of : (xid : ℕ) (cell : Cell) → Contains (keys_of (held xid)) cell → (r : Record) × (records xid ≡ Some r) × AreBeforeImages w.committed r.log.inverses r.marks (held xid)
  before_image_of xid cell has =
      let open_one = holder_open xid cell has in
      let before = kept.ready xid open_one.0 open_one.1 in
      (before.its, before.found, had xid open_one.0 before.its open_one.1 before.found)

  beside_of : (xid : ℕ) (cell : Cell) (before_image : BeforeImage) → Contains (held xid) (cell, before_image)
      → (r : Record) × (records xid ≡ Some r) × AreBeforeImages w.committed r.log.inverses r.marks (held xid) × (i : ℕ) × (slice_get (held xid) i ≡ Some (cell, before_image))
      × LiesBeside w.committed r.log.inverses (keys_of (take i (held xid))) cell before_image
  beside_of xid cell before_image has =
      let its = before_image_of xid cell (contains_key (held xid) cell before_image has) in
      let at = index_contains (held xid) (cell, before_image) has in
      (its.0, its.1, its.2, at.0, at.1, its.2.beside at.0 cell before_image at.1)

  -- nobody else holds a cell that overlaps
  pub same_holder : (xid other : ℕ) (c d : Cell) → Contains (keys_of (held xid)) c → Contains (keys_of (held other)) d → overlaps c d ≡ true → xid ≡ other
  same_holder xid other c d has too meets =
      elim (xid_cases xid other) [
        | inl same ↦ same
        | inr differs ↦
            let one = holder_open xid c has in
            let two = holder_open other d too in
            absurd (true≢false (sym (share_one (holds schema w xid one.0) (holds schema w other two.0) c d ((are.its xid one.0 one.1 c).0 has) ((are.its other two.0 two.1 d).0 too) meets)
            ∙ kept.fine.apart xid other one.0 two.0 differs one.1 two.1))
      ]

  wiped_row : (xid table : ℕ) (key : Key) (count : ℕ) → Contains (held xid) (Whole table, Wiped count)
      → ((other : ℕ) → ¬ Contains (keys_of (held other)) (Row table key)) ⊎ ((other : ℕ) × Contains (held other) (Row table key, Other))
      → (r : Record) → records xid ≡ Some r
      → (i : Inverse) × (slice_get r.log.inverses count ≡ Some i) × (row_by_inverse i (table, key) ≡ get w.committed (table, key))
  wiped_row xid table key count whole place r found =
      let its = beside_of xid (Whole table) (Wiped count) whole in
      let has : HasTable w.committed r.log.inverses (keys_of (take its.3 (held xid))) table count =
      subst (λ (s : Record). HasTable w.committed s.log.inverses (keys_of (take its.3 (held xid))) table count) (same_record its.0 r (sym its.1 ∙ found)) its.5 in (
        has.inverse,
        has.at,
        has.rows key (elim place [
          | inl none ↦ λ sooner. none xid (cells_front its.3 (held xid) (Row table key) sooner)
          | inr there ↦
              let same : there.0 ≡ xid =
              same_holder there.0 xid (Row table key) (Whole table) (contains_key (held there.0) (Row table key) Other there.1) (contains_key (held xid) (Whole table) (Wiped count) whole) (whole_overlaps table key) in
              let at = index_contains (held xid) (Row table key, Other) (subst (λ (n : ℕ). Contains (held n) (Row table key, Other)) same there.1) in
              behind_table w.committed its.0.log.inverses its.0.marks (held xid) its.2 table key at.0 its.3 count at.1 its.4
        ]),
      )

pub held_row_is_committed : HeldRowIsCommitted
held_row_is_committed schema t w records kept held are had xid table key row has =
    (beside_of schema t w records kept held are had xid (Row table key) (BeforeImageRow row) has).5

pub wiped_row_is_committed : WipedRowIsCommitted
wiped_row_is_committed schema t w records kept held are had = wiped_row schema t w records kept held are had

pub each_fits : EachFits
each_fits schema t w records kept held are had = record {
  place = λ xid table key count has. (beside_of schema t w records kept held are had xid (Row table key) (Wiped count) has).5;
  emptied = λ xid table key has.
      let its = beside_of schema t w records kept held are had xid (Row table key) Other has in
      cells_front its.3 (held xid) (Whole table) its.5;
  table = λ xid table row has. (beside_of schema t w records kept held are had xid (Whole table) (BeforeImageRow row) has).5;
  numbered = λ xid table has. (beside_of schema t w records kept held are had xid (Whole table) Other has).5;
}
