-- What lies beside the cells that are held, through the calls of a store.
--     beside_more, beside_over      over a longer log; over other committed rows that have the same in the cell
--     before_image_more, before_image_cut      with one more item and its cells; back to a savepoint
--     before_image_put, before_image_gone      in a world with another record for a transaction, or with none for it
use Rattle.std.proofs.Common.{◌≡◌, ◌≢◌, ℕ, ◌<◌, ◌≤◌, ◌⊎◌, List, [], ◌∷◌, ◌++◌, zero, suc, length, take, drop, Option, Some, None, refl, sym, ap, subst, ◌∙◌, arith, inl, inr, is_some}
use Rattle.std.specs.Prelude.{if◌then◌else◌, slice_get}
use Rattle.std.specs.List.{Contains}
use Rattle.std.specs.Map.{keys_of}
use Rattle.std.specs.FinMap as finite
use Rattle.std.specs.FinMap.{get}
use Rattle.std.proofs.lemmas.Bool.{cases_eq, eq-eqb, ne_eqb}
use Rattle.std.proofs.lemmas.Option.{slice_get_read, slice_get_within, get_or_from_slice_get}
use Rattle.std.proofs.lemmas.List.{map-append, take-append-drop}
use Rattle.std.proofs.lemmas.List.Elements.{Contains-append_left}
use Rattle.model.specs.declared.cell.Cell.{Cell}
use Rattle.model.specs.declared.cell.Cell.TheVariants.{Row, Uniq, Whole}
use Rattle.model.specs.Rows.{Rows, Schema}
use Rattle.model.specs.CellContents.{SameAt}
use Rattle.change.specs.declared.inverse.Inverse.{Inverse}
use Rattle.change.specs.InverseLemmas.{contains_first}
use Rattle.savepoint.specs.declared.mark.Mark.{Mark}
use Rattle.savepoint.specs.Savepoints.{mark_at, with_mark, before_mark}
use Rattle.savepoint.specs.Record.{Record, with_mark_unless_top, up_to_mark}
use Rattle.savepoint.proofs.Cutting.{before_mark-unmarked}
use Rattle.savepoint.proofs.Indexed.{take-take}
use Rattle.savepoint.proofs.Marked.{marked_before, noted_or_old}
use Rattle.keyholds.specs.Holds.{with_holds}
use Rattle.keyholds.proofs.HoldsLemmas.{taking_adds_each, taking_keeps_held}
use Rattle.world.specs.World.{Opened, Stop, World}
use Rattle.world.specs.FineLemmas.{put_cases, gone_cases}
use Rattle.world.specs.ListingLemmas.{xid_cases}
use Rattle.live_tables.specs.declared.before_image.BeforeImage.{BeforeImage}
use Rattle.live_tables.specs.declared.before_image.BeforeImage.TheVariants.{Row as BeforeImageRow, Wiped, Other}
use Rattle.live_tables.specs.KeptRecords.{IsPutAt}
use Rattle.live_tables.specs.BeforeImages.{HasTable, LiesBeside, AreBeforeImages, HasBeforeImages, up_to_before_image}

-- ---- fronts of lists

-- what is in the front of a list at an index below its length
pub slice_front : {X : Type 0} (n : ℕ) (xs : List X) (i : ℕ) (x : X) → slice_get (take n xs) i ≡ Some x → (i < n) × (slice_get xs i ≡ Some x)
slice_front zero xs i x at = absurd cc
slice_front (suc n) [] i x at = absurd cc
slice_front (suc n) (y ∷ xs) zero x at = (omega arith, at)
slice_front (suc n) (y ∷ xs) (suc i) x at = let rest = slice_front n xs i x at in (omega (arith, rest.0), rest.1)

pub front_slice : {X : Type 0} (n : ℕ) (xs : List X) (i : ℕ) (x : X) → i < n → slice_get xs i ≡ Some x → slice_get (take n xs) i ≡ Some x
front_slice zero xs i x below at = absurd (omega (arith, below))
front_slice (suc n) [] i x below at = at
front_slice (suc n) (y ∷ xs) zero x below at = at
front_slice (suc n) (y ∷ xs) (suc i) x below at = front_slice n xs i x (omega (arith, below)) at

-- what is at an index of a list is there with more behind it
pub slice_longer : {X : Type 0} (xs ys : List X) (i : ℕ) (x : X) → slice_get xs i ≡ Some x → slice_get (xs ++ ys) i ≡ Some x
slice_longer [] ys i x at = absurd cc
slice_longer (y ∷ xs) ys zero x at = at
slice_longer (y ∷ xs) ys (suc i) x at = slice_longer xs ys i x at

pub slice_next : {X : Type 0} (xs : List X) (x : X) → slice_get (xs ++ x ∷ []) (length xs) ≡ Some x
slice_next [] x = refl
slice_next (y ∷ xs) x = slice_next xs x

pub contains_index : {X : Type 0} (xs : List X) (i : ℕ) (x : X) → slice_get xs i ≡ Some x → Contains xs x
contains_index xs i x at = (i, slice_get_within xs i x at, get_or_from_slice_get xs i x x at)

pub index_contains : {X : Type 0} (xs : List X) (x : X) → Contains xs x → (i : ℕ) × (slice_get xs i ≡ Some x)
index_contains xs x is = (is.0, slice_get_read xs (length xs) is.0 x refl is.1 (sym is.2))

-- a cell of a list of holds has something beside it
pub index_of_key : {S : Type 0} (held : List (Cell × S)) (cell : Cell) → Contains (keys_of held) cell → (i : ℕ) × (before_image : S) × (slice_get held i ≡ Some (cell, before_image))
index_of_key [] cell is = absurd (omega (arith, is.1))
index_of_key {S} (hold ∷ held) cell is =
    elim (contains_first hold.0 (keys_of held) cell is) [
      | inl same ↦ (0, hold.1, (λ i. Some (same i, hold.1)))
      | inr later ↦ let found = index_of_key held cell later in (suc found.0, found.1, found.2)
    ]

-- the cells at the front are among all
pub cells_front : {S : Type 0} (n : ℕ) (held : List (Cell × S)) (cell : Cell) → Contains (keys_of (take n held)) cell → Contains (keys_of held) cell
cells_front {S} n held cell is =
    subst (λ (hs : List (Cell × S)). Contains (keys_of hs) cell) (take-append-drop n held)
    (subst (λ (cs : List Cell). Contains cs cell) (sym (map-append (λ (h : Cell × S). h.0) (take n held) (drop n held)))
    (Contains-append_left (keys_of (take n held)) (keys_of (drop n held)) cell is))

-- ---- beside one cell

-- over a log with more inverses
pub beside_more : (committed : Rows) (inverses more : List Inverse) (before : List Cell) (cell : Cell) (before_image : BeforeImage)
    → LiesBeside committed inverses before cell before_image → LiesBeside committed (inverses ++ more) before cell before_image
beside_more committed inverses more before (Row table key) (BeforeImageRow row) is = is
beside_more committed inverses more before (Row table key) (Wiped count) is = is
beside_more committed inverses more before (Row table key) Other is = is
beside_more committed inverses more before (Uniq table number values) before_image is = is
beside_more committed inverses more before (Whole table) (BeforeImageRow row) is = is
beside_more committed inverses more before (Whole table) (Wiped count) is =
    record { inverse = is.inverse; at = slice_longer inverses more count is.inverse is.at; rows = is.rows }
beside_more committed inverses more before (Whole table) Other is = is

-- over the front of it, if it has the inverse that lies there
pub beside_front : (committed : Rows) (inverses : List Inverse) (n : ℕ) (before : List Cell) (cell : Cell) (before_image : BeforeImage)
    → ((table count : ℕ) → cell ≡ Whole table → before_image ≡ Wiped count → count < n)
    → LiesBeside committed inverses before cell before_image → LiesBeside committed (take n inverses) before cell before_image
beside_front committed inverses n before (Row table key) (BeforeImageRow row) below is = is
beside_front committed inverses n before (Row table key) (Wiped count) below is = is
beside_front committed inverses n before (Row table key) Other below is = is
beside_front committed inverses n before (Uniq table number values) before_image below is = is
beside_front committed inverses n before (Whole table) (BeforeImageRow row) below is = is
beside_front committed inverses n before (Whole table) (Wiped count) below is =
    record { inverse = is.inverse; at = front_slice n inverses count is.inverse (below table count refl refl) is.at; rows = is.rows }
beside_front committed inverses n before (Whole table) Other below is = is

-- over other committed rows, which have the same in the cell
pub beside_over : (schema : Schema) (committed others : Rows) (inverses : List Inverse) (before : List Cell) (cell : Cell) (before_image : BeforeImage)
    → SameAt schema committed others cell → LiesBeside committed inverses before cell before_image → LiesBeside others inverses before cell before_image
beside_over schema committed others inverses before (Row table key) (BeforeImageRow row) same is = is ∙ same
beside_over schema committed others inverses before (Row table key) (Wiped count) same is = is
beside_over schema committed others inverses before (Row table key) Other same is = is
beside_over schema committed others inverses before (Uniq table number values) before_image same is = is
beside_over schema committed others inverses before (Whole table) (BeforeImageRow row) same is = is
beside_over schema committed others inverses before (Whole table) (Wiped count) same is =
    record { inverse = is.inverse; at = is.at; rows = λ key unheld. is.rows key unheld ∙ same key }
beside_over schema committed others inverses before (Whole table) Other same is = is

-- the inverse that lies beside a table is in the log
within_log : (committed : Rows) (inverses : List Inverse) (before : List Cell) (table count : ℕ) → HasTable committed inverses before table count
    → count < length inverses
within_log committed inverses before table count has = slice_get_within inverses count has.inverse has.at

-- ---- one more item, and the cells of its change

module _ (committed : Rows) (inverses : List Inverse) (marks : List (ℕ × Mark)) (held : List (Cell × BeforeImage)) (had : AreBeforeImages committed inverses marks held)
    (within : (sub : ℕ) (m : Mark) → mark_at sub marks ≡ Some m → m.held ≤ length held)
    (inverse : List Inverse) (more : List (Cell × BeforeImage))
    (fits : (before : List Cell) → ((cell : Cell) → Contains (keys_of held) cell → Contains before cell)
    → (cell : Cell) (before_image : BeforeImage) → Contains more (cell, before_image) → ¬ Contains before cell → LiesBeside committed (inverses ++ inverse) before cell before_image) where
  abbrev later : List (Cell × BeforeImage)
  later = with_holds held more

  front : take (length held) later ≡ held
  front = taking_keeps_held held more

  same_front : (n : ℕ) → n ≤ length held → take n later ≡ take n held
  same_front n below = sym (take-take n (length held) later below) ∙ ap (take n) front

  -- what is held at a mark was held before
  was_held : (n index : ℕ) (hold : Cell × BeforeImage) → n ≤ length held → index < n → slice_get later index ≡ Some hold → slice_get held index ≡ Some hold
  was_held n index hold below under at =
      (slice_front n held index hold (subst (λ (hs : List (Cell × BeforeImage)). slice_get hs index ≡ Some hold) (same_front n below) (front_slice n later index hold under at))).1

  -- all that was held lies before a new cell
  over_held : (index : ℕ) → length held ≤ index → (cell : Cell) → Contains (keys_of held) cell → Contains (keys_of (take index later)) cell
  over_held index behind cell is =
      cells_front (length held) (take index later) cell
      (subst (λ (hs : List (Cell × BeforeImage)). Contains (keys_of hs) cell) (sym (take-take (length held) index later behind ∙ front)) is)

  more_beside : (index : ℕ) (cell : Cell) (before_image : BeforeImage) → slice_get later index ≡ Some (cell, before_image)
      → LiesBeside committed (inverses ++ inverse) (keys_of (take index later)) cell before_image
  more_beside index cell before_image at =
      elim (taking_adds_each held more index (cell, before_image) at) [
        | inl was ↦
            beside_more committed inverses inverse (keys_of (take index later)) cell before_image
            (subst (λ (hs : List (Cell × BeforeImage)). LiesBeside committed inverses (keys_of hs) cell before_image)
            (sym (same_front index (let below = slice_get_within held index (cell, before_image) was in omega (arith, below)))) (had.beside index cell before_image was))
        | inr new ↦ fits (keys_of (take index later)) (over_held index new.0) cell before_image new.1 new.2
      ]

  more_once : (index : ℕ) (cell : Cell) (before_image : BeforeImage) → slice_get later index ≡ Some (cell, before_image) → ¬ Contains (keys_of (take index later)) cell
  more_once index cell before_image at =
      elim (taking_adds_each held more index (cell, before_image) at) [
        | inl was ↦
            subst (λ (hs : List (Cell × BeforeImage)). ¬ Contains (keys_of hs) cell)
            (sym (same_front index (let below = slice_get_within held index (cell, before_image) was in omega (arith, below)))) (had.once index cell before_image was)
        | inr new ↦ new.2
      ]

  -- with marks of which each was there, or tells how much there was
  pub before_image_more : (later_marks : List (ℕ × Mark))
      → ((sub : ℕ) (m : Mark) → mark_at sub later_marks ≡ Some m → ((m.undo ≡ length inverses) × (m.held ≡ length held)) ⊎ (mark_at sub marks ≡ Some m))
      → AreBeforeImages committed (inverses ++ inverse) later_marks later
  before_image_more later_marks each = record {
    beside = more_beside;
    once = more_once;
    marked = λ sub m at index table count below there.
        elim (each sub m at) [
          | inl new ↦
              let was = was_held m.held index (Whole table, Wiped count) (omega (arith, new.1)) below there in
              let inside = within_log committed inverses (keys_of (take index held)) table count (had.beside index (Whole table) (Wiped count) was) in
              omega (arith, inside, new.0)
          | inr old ↦ had.marked sub m old index table count below (was_held m.held index (Whole table, Wiped count) (within sub m old) below there)
        ];
  }

-- the marks once an item has come that may set a savepoint
pub marks_with : (top sub : ℕ) (mark : Mark) (marks new : List (ℕ × Mark)) (undo held : ℕ) → mark.undo ≡ undo → mark.held ≡ held
    → new ≡ with_mark_unless_top top sub mark marks
    → (other : ℕ) (m : Mark) → mark_at other new ≡ Some m → ((m.undo ≡ undo) × (m.held ≡ held)) ⊎ (mark_at other marks ≡ Some m)
marks_with top sub mark marks new undo held undo_is held_is is other m at =
    elim (cases_eq sub top) [
      | inl same ↦ inr (ap (mark_at other) (sym (is ∙ ap (λ b. if b then marks else with_mark sub mark marks) (eq-eqb sub top same))) ∙ at)
      | inr below ↦
          elim (noted_or_old sub other mark m marks (ap (mark_at other) (sym (is ∙ ap (λ b. if b then marks else with_mark sub mark marks) (ne_eqb sub top below))) ∙ at)) [
            | inl noted ↦ inl (ap (λ (k : Mark). k.undo) (sym noted.2) ∙ undo_is, ap (λ (k : Mark). k.held) (sym noted.2) ∙ held_is)
            | inr old ↦ inr old
          ]
    ]

-- ---- back to a savepoint

module _ (committed : Rows) (inverses : List Inverse) (marks : List (ℕ × Mark)) (held : List (Cell × BeforeImage)) (had : AreBeforeImages committed inverses marks held) (sub : ℕ) where
  before_image_at_mark : (m : Mark) → mark_at sub marks ≡ Some m → AreBeforeImages committed (take m.undo inverses) (before_mark sub marks) (take m.held held)
  before_image_at_mark m at = record {
    beside = λ index cell before_image there.
        let was = slice_front m.held held index (cell, before_image) there in
        subst (λ (hs : List (Cell × BeforeImage)). LiesBeside committed (take m.undo inverses) (keys_of hs) cell before_image) (fronts index was.0)
        (beside_front committed inverses m.undo (keys_of (take index held)) cell before_image
        (λ table count c_is s_is.
        had.marked sub m at index table count was.0 (was.1 ∙ λ i. Some (c_is i, s_is i)))
        (had.beside index cell before_image was.1));
    once = λ index cell before_image there.
        let was = slice_front m.held held index (cell, before_image) there in
        subst (λ (hs : List (Cell × BeforeImage)). ¬ Contains (keys_of hs) cell) (fronts index was.0) (had.once index cell before_image was.1);
    marked = λ other q there index table count below stands.
        had.marked other q (marked_before sub other marks q there) index table count below (slice_front m.held held index (Whole table, Wiped count) stands).1;
  }
    where
      fronts : (index : ℕ) → index < m.held → take index held ≡ take index (take m.held held)
      fronts index below = sym (take-take index m.held held (omega (arith, below)))

  -- whether there is one or not
  pub before_image_cut : (found : Option Mark) → mark_at sub marks ≡ found
      → AreBeforeImages committed (up_to_mark found inverses) (before_mark sub marks) (up_to_before_image found held)
  before_image_cut None at =
      subst (λ (ms : List (ℕ × Mark)). AreBeforeImages committed inverses ms held) (sym (before_mark-unmarked sub marks (ap is_some at))) had
  before_image_cut (Some m) at = before_image_at_mark m at

-- ---- in the next world

pub same_record : (one two : Record) → Some one ≡ Some two → one ≡ two
same_record one two e = cc

module _ (w : World) (records : ℕ → Option Record) (held : ℕ → List (Cell × BeforeImage)) (had : HasBeforeImages w records held) (xid : ℕ) (after : ℕ → Option Record) where
  -- a transaction has another record, and holds these
  pub before_image_put : (o : Opened) (stopped : Option Stop) (s : Record) → IsPutAt records xid (Some s) after → (new : ℕ → List (Cell × BeforeImage))
      → ((other : ℕ) → other ≢ xid → new other ≡ held other) → AreBeforeImages w.committed s.log.inverses s.marks (new xid)
      → HasBeforeImages (record w { opened = finite.insert w.opened xid o; stopped = stopped }) after new
  before_image_put o stopped s put new beside its other p r at found =
      elim (put_cases w.opened xid o other p at) [
        | inl here ↦
            let same : s ≡ r = same_record s r (sym put.here ∙ ap after (sym here.0) ∙ found) in
            subst (λ (n : ℕ). AreBeforeImages w.committed r.log.inverses r.marks (new n)) (sym here.0)
            (subst (λ (q : Record). AreBeforeImages w.committed q.log.inverses q.marks (new xid)) same its)
        | inr was ↦
            subst (AreBeforeImages w.committed r.log.inverses r.marks) (sym (beside other was.0))
            (had other p r was.1 (sym (put.beside other was.0) ∙ found))
      ]

  -- it has another record in the same world
  pub before_image_same : (s : Record) → IsPutAt records xid (Some s) after → AreBeforeImages w.committed s.log.inverses s.marks (held xid) → HasBeforeImages w after held
  before_image_same s put its other p r at found =
      elim (xid_cases other xid) [
        | inl here ↦
            let same : s ≡ r = same_record s r (sym put.here ∙ ap after (sym here) ∙ found) in
            subst (λ (n : ℕ). AreBeforeImages w.committed r.log.inverses r.marks (held n)) (sym here)
            (subst (λ (q : Record). AreBeforeImages w.committed q.log.inverses q.marks (held xid)) same its)
        | inr differs ↦ had other p r at (sym (put.beside other differs) ∙ found)
      ]

  -- it is gone; the committed rows may be others, which have the same beside what is held
  pub before_image_gone : (committed : Rows) (next : World) → next.committed ≡ committed → next.opened ≡ finite.remove w.opened xid → IsPutAt records xid None after
      → (new : ℕ → List (Cell × BeforeImage)) → ((other : ℕ) → other ≢ xid → new other ≡ held other)
      → ((other : ℕ) (p : Opened) → other ≢ xid → get w.opened other ≡ Some p → (log : List Inverse) (marks : List (ℕ × Mark))
      → AreBeforeImages w.committed log marks (held other) → AreBeforeImages committed log marks (held other))
      → HasBeforeImages next after new
  before_image_gone committed next committed_is opened_is gone new beside over other p r at found =
      let was = gone_cases w.opened xid other p (ap (λ m. get m other) (sym opened_is) ∙ at) in
      subst (λ (rows : Rows). AreBeforeImages rows r.log.inverses r.marks (new other)) (sym committed_is)
      (subst (AreBeforeImages committed r.log.inverses r.marks) (sym (beside other was.0))
      (over other p was.0 was.1 r.log.inverses r.marks (had other p r was.1 (sym (gone.beside other was.0) ∙ found))))
