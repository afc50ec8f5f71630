-- What the record of an open transaction keeps.
use Rattle.std.specs.Prelude.{◌≡◌, ◌≢◌, ℕ, ◌-◌, ◌≤◌, List, length, take, map, Some, None, vec_len, vec_capacity}
use Rattle.change.specs.declared.inverse.Inverse.{Inverse}
use Rattle.model.specs.declared.item.Item.{Item}
use Rattle.savepoint.specs.declared.mark.Mark.{Mark}
use Rattle.savepoint.specs.declared.record.CutPoint.{CutPoint}
use Rattle.savepoint.specs.declared.record.TxRecord.TheInside.{Inside}
use Rattle.model.specs.Survivors.{before_savepoint}
use Rattle.savepoint.specs.Savepoints.{mark_at, before_mark}
use Rattle.savepoint.specs.Record.{Record}

-- the marks, without where they stand among the items
abbrev pub marks_of : List (ℕ × CutPoint) → List (ℕ × Mark)
marks_of points = map (λ (p : ℕ × CutPoint). (p.0, p.1.mark)) points

-- a record as its callers see it, from what it keeps
abbrev pub record_in : Inside → Record
record_in r = record {
  top = r.top;
  survivors = r.survivors.items;
  marks = marks_of r.savepoints;
  log = r.undo;
  room = vec_capacity r.survivors - vec_len r.survivors;
}

-- Each savepoint stands where the first item of its subtransaction stands, or behind all items if none names it.
pub record IsMarked (top : ℕ) (survivors : List Item) (points : List (ℕ × CutPoint)) (inverses : List Inverse) : Type 0 where
  pub top_unmarked : mark_at top points ≡ None
  pub marked : (sub : ℕ) (p : CutPoint) → mark_at sub points ≡ Some p → before_savepoint sub survivors ≡ take p.items survivors
  pub unmarked : (sub : ℕ) → sub ≢ top → mark_at sub points ≡ None → before_savepoint sub survivors ≡ survivors
  pub within : (sub : ℕ) (p : CutPoint) → mark_at sub points ≡ Some p → (p.items ≤ length survivors) × (p.mark.undo ≤ length inverses)
  pub rising : (sub other : ℕ) (p q : CutPoint) → mark_at sub points ≡ Some p → mark_at other (before_mark sub points) ≡ Some q → (q.items ≤ p.items) × (q.mark.undo ≤ p.mark.undo)
