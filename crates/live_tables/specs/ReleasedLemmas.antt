-- That a store represents its world past what was released.
--     are_released, lets_go_free      that is so; and nobody holds a cell that overlaps one of these
--     released_is_kept, tied_released      records and live tables represent their world past what was released
use Rattle.std.proofs.Common.{◌≡◌, ◌≢◌, ℕ, zero, suc, ◌≤◌, ◌⊎◌, false, List, [], ◌∷◌, take, Option, Some, None, refl, sym, ap, subst, ◌∙◌, inl, inr, arith, true≢false}
use Rattle.std.specs.List.{Contains, list_any}
use Rattle.std.specs.FinMap.{get}
use Rattle.std.proofs.lemmas.Bool.{cases_Bool}
use Rattle.model.specs.declared.cell.Cell.{Cell}
use Rattle.model.specs.Cells.{overlaps}
use Rattle.model.specs.Rows.{Rows, Schema}
use Rattle.change.specs.InverseLemmas.{contains_first, contains_here, contains_later}
use Rattle.indexes.specs.Content.{Content, IsEmptyCell}
use Rattle.keyholds.specs.Holds.{cells_held}
use Rattle.savepoint.specs.Record.{Record}
use Rattle.undo.specs.LogLemmas.{secured, needed_settled, filled_live}
use Rattle.undo.specs.LogOf.{IsSecured}
use Rattle.undo.specs.Others.{all_needed, StaysInRoom, IsFilled, HasRoomForAll}
use Rattle.undo.specs.OthersLemmas.{CanUndo_past_gone}
use Rattle.world.specs.BackLemmas.{held_live}
use Rattle.world.specs.FineLemmas.{committed_valid}
use Rattle.world.specs.Live.{IsLive}
use Rattle.world.specs.ListingLemmas.{xid_cases}
use Rattle.world.specs.World.{Opened, World, work, own_rows, holds}
use Rattle.live_tables.specs.declared.live_tables.Live.{Live}
use Rattle.live_tables.specs.Held.{AreHolds, IsHeldAt}
use Rattle.live_tables.specs.HoldsLemmas.{free_of_others, meets_one, share_one, contains_at}
use Rattle.live_tables.specs.KeptRecords.{IsRecordOf, Represents as RecordsRepresent}
use Rattle.live_tables.specs.KeptLemmas.{log_of_work}
use Rattle.live_tables.specs.Released.{IsLetGo, HasReleased, AreReleased}
use Rattle.live_tables.specs.Represents.{records_in}
use Rattle.live_tables.specs.ByHolds.{RepresentsByHolds}
use Rattle.live_tables.specs.BasicLemmas.{tied_by}

pub are_released : (mark : ℕ) (cells : List Cell) (old new : Content) → HasReleased (IsLetGo mark cells) old new → AreReleased mark cells new
are_released mark cells old new given cell goes empty =
    given.gone cell goes
    (subst (λ (s : Schema). IsEmptyCell s old.rows cell) given.schema (subst (λ (r : Rows). IsEmptyCell new.schema r cell) given.rows empty))

-- ---- what is kept past that

-- no transaction holds a cell that overlaps one that goes
abbrev pub HoldsNone : (Cell → Type 0) → (ℕ → List Cell) → Type 0
HoldsNone Goes held = (cell : Cell) → Goes cell → (xid : ℕ) (d : Cell) → Contains (held xid) d → overlaps cell d ≡ false

-- a cell that overlaps none of a list overlaps no cell of it
overlaps_none : (cell : Cell) (cells : List Cell) → list_any (overlaps cell) cells ≡ false → (d : Cell) → Contains cells d → overlaps cell d ≡ false
overlaps_none cell cells none d there =
    elim (cases_Bool (overlaps cell d)) [
      | inr free ↦ free
      | inl meets ↦ absurd (true≢false (sym (meets_one cell d cells there meets) ∙ none))
    ]

-- a front of a list is within a longer one
front_within : (n m : ℕ) (cells : List Cell) → n ≤ m → (d : Cell) → Contains (take n cells) d → Contains (take m cells) d
front_within zero m cells below d there = absurd (omega (arith, there.1))
front_within (suc n) zero cells below d there = absurd (omega (arith, below))
front_within (suc n) (suc m) [] below d there = there
front_within (suc n) (suc m) (cell ∷ cells) below d there =
    elim (contains_first cell (take n cells) d there) [
      | inl same ↦ subst (λ (c : Cell). Contains (cell ∷ take m cells) c) same (contains_here cell (take m cells))
      | inr later ↦ contains_later cell (take m cells) d (front_within n m cells (omega (arith, below)) d later)
    ]

-- where a transaction lets the cells past a mark go, nobody holds one that overlaps one of those
pub lets_go_free : (w : World) (l : Live) → RepresentsByHolds w l → (xid : ℕ) (o : Opened) → get w.opened xid ≡ Some o → (mark : ℕ) (new : ℕ → List Cell)
    → IsHeldAt (cells_held l.holds) xid (take mark (cells_held l.holds xid)) new → HoldsNone (IsLetGo mark (cells_held l.holds xid)) new
lets_go_free w l tied xid o is mark new at cell goes other d there =
    elim (xid_cases other xid) [
      | inl same ↦
          overlaps_none cell (take goes.index (cells_held l.holds xid)) goes.alone d
          (front_within mark goes.index (cells_held l.holds xid) goes.past d
          (subst (λ (cells : List Cell). Contains cells d) (ap new same ∙ at.here) there))
      | inr differs ↦ by_open differs (subst (λ (cells : List Cell). Contains cells d) (at.beside other differs) there) (get w.opened other) refl
    ]
  where
    by_open : other ≢ xid → Contains (cells_held l.holds other) d → (found : Option Opened) → get w.opened other ≡ found → overlaps cell d ≡ false
    by_open differs held None closed =
        absurd (let none = subst (λ (cells : List Cell). Contains cells d) (tied.holds.none other closed) held in omega (arith, none.1))
    by_open differs held (Some p) open_too =
        let its = (tied.holds.its xid o is cell).0 (contains_at (cells_held l.holds xid) goes.index cell goes.at) in
        let theirs = (tied.holds.its other p open_too d).0 held in
        elim (cases_Bool (overlaps cell d)) [
          | inr free ↦ free
          | inl meets ↦
              absurd (true≢false (sym (share_one (holds l.tables.schema w xid o) (holds l.tables.schema w other p) cell d its theirs meets)
              ∙ tied.kept.fine.apart xid other o p (λ e. differs (sym e)) is open_too))
        ]

module _ (schema : Schema) (t : Content) (w : World) (records : ℕ → Option Record) (kept : RecordsRepresent schema t w records) (held : ℕ → List Cell) (are : AreHolds schema w held)
    (Goes : Cell → Type 0) (new : Content) (given : HasReleased Goes t new) (room : HasRoomForAll new) (free : HoldsNone Goes held) where
  module _ (xid : ℕ) (o : Opened) (is : get w.opened xid ≡ Some o) (cell : Cell) (goes : Goes cell) where
    filled_by : IsSecured schema (own_rows schema w xid o) (holds schema w xid o) cell → IsFilled schema t.rows cell
    filled_by (inl its) =
        absurd (true≢false (sym its ∙ free_of_others cell (holds schema w xid o) (λ d there. free cell goes xid d ((are.its xid o is d).1 there))))
    filled_by (inr fills) = filled_live schema t.rows (own_rows schema w xid o) (holds schema w xid o) (held_live schema w kept.fine xid o is t.rows kept.live) cell fills

  -- what a transaction needs stays in the room, or a row fills it
  needed : (xid : ℕ) (o : Opened) → get w.opened xid ≡ Some o → (r : Record) → IsRecordOf schema w xid o r
      → (cell : Cell) → Contains (all_needed schema r.log.inverses) cell → StaysInRoom t new cell ⊎ IsFilled schema t.rows cell
  needed xid o is r tells cell needs =
      elim (given.others cell) [
        | inl stays ↦ inl stays
        | inr goes ↦
            inr (filled_by xid o is cell goes
            (secured schema w.committed (work xid o) r.log.inverses (committed_valid schema w kept.fine) (log_of_work schema w xid o r tells) cell
            (needed_settled schema r.log.inverses cell needs)))
      ]

  pub released_is_kept : RecordsRepresent schema new w records
  released_is_kept = record {
    schema_is = given.schema ∙ kept.schema_is;
    fine = kept.fine;
    live = subst (IsLive schema w) (sym given.rows) kept.live;
    ready = λ xid o is.
        let ready = kept.ready xid o is in
        record {
          its = ready.its;
          found = ready.found;
          tells = ready.tells;
          can = CanUndo_past_gone t new ready.its.log.inverses given.schema given.rows room
              (subst (λ (s : Schema). (cell : Cell) → Contains (all_needed s ready.its.log.inverses) cell → StaysInRoom t new cell ⊎ IsFilled s t.rows cell) (sym kept.schema_is)
              (needed xid o is ready.its ready.tells)) ready.can;
        };
    closed = kept.closed;
  }

-- a store is tied to its world past what was given up
pub tied_released : (w : World) (l : Live) → RepresentsByHolds w l → (Goes : Cell → Type 0) (new : Content) → HasReleased Goes l.tables new → HasRoomForAll new
    → HoldsNone Goes (cells_held l.holds) → RepresentsByHolds w (record l { tables = new })
tied_released w l tied Goes new given room free =
    tied_by w (record l { tables = new }) l.tables.schema given.schema
    (released_is_kept l.tables.schema l.tables w (records_in l.transactions) tied.kept (cells_held l.holds) tied.holds Goes new given room free)
    tied.holds tied.marks tied.beside tied.count tied.stopped tied.caused tied.before_image
