-- A store stays tied where another subtransaction adopts the last change of its transaction.
--     adopter_noted, has_savepoint      in the transaction's record who adopts it has its mark; there is a savepoint
--     tells_then, marks_then, before_images_then      the record then
--     tied_adopted      the store then
use Rattle.std.proofs.Common.{◌≡◌, ◌≢◌, ℕ, ◌-◌, ◌^◌, ◌≤◌, ◌++◌, ◌∷◌, [], List, length, min, take, Option, Some, None, refl, sym, ap, subst, ◌∙◌, arith, is_some, length-append}
use Rattle.std.specs.Prelude.{IsSome, IsTrue, IfSome, option_map}
use Rattle.std.specs.List.{list_any}
use Rattle.std.specs.FinMap as finite
use Rattle.std.specs.FinMap.{get}
use Rattle.std.specs.Ordering.{nat_cmp}
use Rattle.std.proofs.lemmas.List.{take-append-le}
use Rattle.model.specs.declared.change.Change as change_type
use Rattle.model.specs.declared.cell.Cell.{Cell}
use Rattle.model.specs.declared.item.Item.{Item}
use Rattle.model.specs.declared.item.Item.TheVariants.{Change}
use Rattle.model.specs.Named.{NamesTables}
use Rattle.model.specs.Footprint.{held_cells}
use Rattle.model.specs.Rows.{Schema}
use Rattle.model.specs.Survivors.{is_of, before_savepoint, survivors, changes_of}
use Rattle.model.specs.SurvivorLemmas.{changes_of_both}
use Rattle.model.specs.ValidLemmas.{not_none}
use Rattle.indexes.specs.Content.{Content}
use Rattle.undo.specs.Undo.{Log, CanUndo}
use Rattle.undo.specs.LogOf.{IsLogOf}
use Rattle.keyholds.specs.Holds.{holds_of, cells_held}
use Rattle.savepoint.specs.declared.mark.Mark.{Mark}
use Rattle.savepoint.specs.declared.record.CutPoint.{CutPoint}
use Rattle.savepoint.specs.Savepoints.{mark_at, before_mark}
use Rattle.savepoint.specs.Record.{Record, AllAreNamed, HasMark}
use Rattle.savepoint.specs.RecordInside.{marks_of, IsMarked}
use Rattle.savepoint.specs.Adopted.{adopted, CanAdopt}
use Rattle.savepoint.specs.AdoptedLemmas.{survive, adopted_items, adopted_survivors, adopted_work, adopted_last}
use Rattle.savepoint.proofs.Adopting.{point, items_before, front_named, adopted_marked}
use Rattle.savepoint.proofs.Marked.{marked_before, before_before, before-behind, never_whole, any-more, marked-marks_of, before_mark-marks_of}
use Rattle.world.specs.World.{Opened, World, work}
use Rattle.world.specs.FineLemmas.{fine_same}
use Rattle.world.specs.Fine.{IsFine}
use Rattle.world.specs.Live.{IsLive}
use Rattle.world.specs.WorldLemmas.{live_same}
use Rattle.live_tables.specs.declared.live_tables.Live.{Live}
use Rattle.live_tables.specs.declared.before_image.BeforeImage.{BeforeImage}
use Rattle.live_tables.specs.declared.transaction.OpenTransaction.{OpenTransaction}
use Rattle.live_tables.specs.Answers.{told_stop}
use Rattle.live_tables.specs.Adopting.{adopted_with}
use Rattle.live_tables.specs.Held.{HasSameCells, AreHolds, HasHeldMarks}
use Rattle.live_tables.specs.HoldsLemmas.{holds_same}
use Rattle.live_tables.specs.KeptRecords.{HasLogs, IsRecordOf, Represents as RecordsRepresent, IsPutAt}
use Rattle.live_tables.specs.KeptLemmas.{kept_put}
use Rattle.live_tables.specs.RecordLemmas.{AreLogs, has_logs}
use Rattle.live_tables.specs.BeforeImages.{LiveHolds, AreBeforeImages, HasBeforeImages}
use Rattle.live_tables.specs.BeforeImageLemmas.{before_image_put}
use Rattle.live_tables.specs.Represents.{records_in, IsBeside, Represents}
use Rattle.live_tables.specs.ByHolds.{RepresentsByHolds}
use Rattle.live_tables.specs.BasicLemmas.{records_put, still_caused, its_record, its_tells, its_can, its_marks, its_beside, tied_put}
use Rattle.live_tables.specs.EndedLemmas.{wants_none}
use Rattle.live_tables.specs.Transactions.{WritesTransaction, IsAdoptedRecord, IsAdopted}

-- ---- the record of a transaction whose last change is to be adopted

module _ (schema : Schema) (w : World) (xid : ℕ) (o : Opened) (r : Record) (tells : IsRecordOf schema w xid o r) (own sub : ℕ) (can : CanAdopt xid own sub o.items) where
  abbrev front : List Item
  front = survivors xid can.front

  its_items : r.survivors ≡ front ++ Change own can.change ∷ []
  its_items = tells.survives ∙ survive xid own sub o.items can

  abbrev points : List (ℕ × CutPoint)
  points = tells.logs.points

  was : IsMarked xid (front ++ Change own can.change ∷ []) points r.log.inverses
  was = subst (λ (is : List Item). IsMarked xid is points r.log.inverses) its_items tells.logs.marked

  -- the marks are those of its points
  some_mark : (other : ℕ) → is_some (mark_at other r.marks) ≡ is_some (mark_at other points)
  some_mark other = ap (λ (ms : List (ℕ × Mark)). is_some (mark_at other ms)) tells.logs.marks ∙ marked-marks_of other points

  named : (other : ℕ) → IsSome (mark_at other points) → IsTrue (list_any (is_of other) (front ++ Change own can.change ∷ []))
  named other some = subst (λ (is : List Item). IsTrue (list_any (is_of other) is)) its_items (tells.named other (some_mark other ∙ some))

  -- who adopts it has a savepoint
  noted : sub ≢ xid → IsSome (mark_at sub points)
  noted differs = by_mark (mark_at sub points) refl
    where
      by_mark : (found : Option CutPoint) → mark_at sub points ≡ found → IsSome (mark_at sub points)
      by_mark (Some p) at = ap is_some at
      by_mark None none = absurd (let whole = was.unmarked sub differs none in never_whole sub (front ++ Change own can.change ∷ []) (any-more sub front (Change own can.change ∷ []) (can.known differs)) whole)

  pub adopter_noted : HasMark r sub
  adopter_noted differs = some_mark sub ∙ noted (λ same. differs (same ∙ sym tells.top))

  abbrev own_point : CutPoint
  own_point = (point xid own sub front can.change points r.log.inverses was can.alone can.below can.apart noted named).0

  own_at : mark_at own points ≡ Some own_point
  own_at = (point xid own sub front can.change points r.log.inverses was can.alone can.below can.apart noted named).1

  own_items : own_point.items ≡ length front
  own_items = items_before xid own sub front can.change points r.log.inverses was can.alone can.below can.apart noted named

  still_named : (other : ℕ) → IsSome (mark_at other (before_mark own points)) → IsTrue (list_any (is_of other) front)
  still_named = front_named xid own sub front can.change points r.log.inverses was can.alone can.below can.apart noted named

  -- the items before another savepoint are the same
  same_before : (other : ℕ) → IsTrue (list_any (is_of other) front)
      → before_savepoint other (front ++ Change sub can.change ∷ []) ≡ before_savepoint other (front ++ Change own can.change ∷ [])
  same_before other any = before-behind other front (Change sub can.change ∷ []) any ∙ sym (before-behind other front (Change own can.change ∷ []) any)

  -- there is a savepoint
  pub has_savepoint : r.marks ≢ []
  has_savepoint none = let marked = sym (ap is_some own_at) ∙ sym (some_mark own) ∙ ap (λ (ms : List (ℕ × Mark)). is_some (mark_at own ms)) none in cc

  -- once it is
  module _ (s : Record) (came : IsAdoptedRecord own sub r s) where
    kept_items : s.survivors ≡ front ++ Change sub can.change ∷ []
    kept_items = came.survivors ∙ ap (adopted sub) its_items ∙ adopted_last sub own front can.change

    same_changes : changes_of (front ++ Change sub can.change ∷ []) ≡ changes_of (front ++ Change own can.change ∷ [])
    same_changes = changes_of_both front (Change sub can.change ∷ []) ∙ sym (changes_of_both front (Change own can.change ∷ []))

    logs_then : AreLogs schema w.committed xid (front ++ Change sub can.change ∷ []) (before_mark own points) r.log.inverses
    logs_then = record {
      marked = adopted_marked xid own sub front can.change points r.log.inverses was can.alone can.below can.apart noted named;
      log =
          subst (λ (cs : List change_type.Change). IsLogOf schema w.committed cs r.log.inverses) (ap changes_of its_items ∙ sym same_changes) tells.logs.log;
      logs = λ other q there.
          let lower = (was.rising own other own_point q own_at there).0 in
          let within : q.items ≤ length front = omega (arith, own_items) in
          subst (λ (is : List Item). IsLogOf schema w.committed (changes_of is) (take q.mark.undo r.log.inverses))
          (ap (take q.items) its_items ∙ take-append-le q.items front (Change own can.change ∷ []) within ∙ sym (take-append-le q.items front (Change sub can.change ∷ []) within))
          (tells.logs.logs other q (marked_before own other points q there));
    }

    kept_marks : s.marks ≡ marks_of (before_mark own points)
    kept_marks = came.marks ∙ ap (before_mark own) tells.logs.marks ∙ before_mark-marks_of own points

    pub tells_then : IsRecordOf schema (adopted_with w xid o sub) xid (record { items = adopted sub o.items; wants = None }) s
    tells_then = record {
      top = came.top ∙ tells.top;
      survives = came.survivors ∙ ap (adopted sub) tells.survives ∙ sym (adopted_survivors xid own sub o.items can);
      named = came.named;
      logs = has_logs schema w.committed xid (front ++ Change sub can.change ∷ []) (before_mark own points) r.log.inverses logs_then s kept_items kept_marks
          (ap (λ (log : Log). log.inverses) came.log);
    }

    -- ---- what is held at its marks

    -- a mark that is left was there
    mark_was : (other : ℕ) (m : Mark) → mark_at other s.marks ≡ Some m → mark_at other r.marks ≡ Some m
    mark_was other m at = marked_before own other r.marks m (ap (mark_at other) (sym came.marks) ∙ at)

    mark_named : (other : ℕ) (m : Mark) → mark_at other s.marks ≡ Some m → IsTrue (list_any (is_of other) front)
    mark_named other m at =
        still_named other (sym (marked-marks_of other (before_mark own points)) ∙ ap (λ (ms : List (ℕ × Mark)). is_some (mark_at other ms)) (sym kept_marks) ∙ ap is_some at)

    before_is : (other : ℕ) (m : Mark) → mark_at other s.marks ≡ Some m → before_savepoint other s.survivors ≡ before_savepoint other r.survivors
    before_is other m at =
        ap (before_savepoint other) kept_items ∙ same_before other (mark_named other m at) ∙ ap (before_savepoint other) (sym its_items)

    pub marks_then : (cells : List Cell) → HasHeldMarks schema w.committed r cells → HasHeldMarks schema w.committed s cells
    marks_then cells had = record {
      within = λ other m at. had.within other m (mark_was other m at);
      before = λ other m at.
          subst (λ (is : List Item). HasSameCells (take m.held cells) (held_cells schema w.committed (changes_of is))) (sym (before_is other m at))
          (had.before other m (mark_was other m at));
      rising = λ one other p q at there.
          let first = ap (λ (ms : List (ℕ × Mark)). mark_at other (before_mark one ms)) (sym came.marks) ∙ there in
          let at_kept = ap (mark_at one) (sym came.marks) ∙ at in
          let was_there : mark_at other (before_mark one r.marks) ≡ Some q = ap (mark_at other) (sym (before_before own one r.marks p at_kept)) ∙ first in
          let still : mark_at other s.marks ≡ Some q = marked_before one other s.marks q there in
          let were = had.rising one other p q (mark_was one p at) was_there in
          (were.0, ap (before_savepoint other) (before_is one p at) ∙ were.1 ∙ sym (before_is other q still));
    }

    pub before_images_then : (held : List (Cell × BeforeImage)) → AreBeforeImages w.committed r.log.inverses r.marks held
        → AreBeforeImages w.committed s.log.inverses s.marks held
    before_images_then held had =
        subst (λ (log : Log). AreBeforeImages w.committed log.inverses s.marks held) (sym came.log)
        (record { beside = had.beside; once = had.once; marked = λ other m at. had.marked other m (mark_was other m at) })

-- ---- the store

module _ (w : World) (l : Live) (tied : RepresentsByHolds w l) (xid : ℕ) (o : Opened) (is : get w.opened xid ≡ Some o) (old kept : OpenTransaction) (n : Live)
    (writes : WritesTransaction xid old kept l.transactions n.transactions) (own sub : ℕ) (can : CanAdopt xid own sub o.items) (came : IsAdopted own sub old kept) where
  abbrev schema : Schema
  schema = l.tables.schema

  abbrev later : Opened
  later = record { items = adopted sub o.items; wants = None }

  abbrev next : World
  next = adopted_with w xid o sub

  same_work : work xid later ≡ work xid o
  same_work = adopted_work xid own sub o.items can

  fine : IsFine schema next
  fine = fine_same schema w tied.kept.fine xid o later is refl same_work

  live : IsLive schema next l.tables.rows
  live = live_same schema w tied.kept.fine l.tables.rows tied.kept.live xid o is later w.stopped same_work fine

  tells : IsRecordOf schema w xid o old.record
  tells = its_tells w l tied xid o is old writes.at

  records_at : IsPutAt (records_in l.transactions) xid (Some kept.record) (records_in n.transactions)
  records_at = records_put xid (Some kept) l.transactions n.transactions writes.puts

  kept_then : RecordsRepresent schema l.tables next (records_in n.transactions)
  kept_then =
      kept_put schema l.tables w (records_in l.transactions) tied.kept xid later w.stopped l.tables (records_in n.transactions) kept.record records_at tied.kept.schema_is fine live
      (tells_then schema w xid o old.record tells own sub can kept.record came.record_is)
      (subst (λ (log : Log). CanUndo l.tables log.inverses) (sym came.record_is.log) (its_can w l tied xid o is old writes.at)) (λ other p s differs at told can_other. can_other)

  images_then : HasBeforeImages next (records_in n.transactions) (holds_of l.holds)
  images_then =
      before_image_put w (records_in l.transactions) (holds_of l.holds) tied.before_image xid (records_in n.transactions) later w.stopped kept.record records_at (holds_of l.holds) (λ other differs. refl)
      (before_images_then schema w xid o old.record tells own sub can kept.record came.record_is (holds_of l.holds xid)
      (subst (λ (r : Record). AreBeforeImages w.committed r.log.inverses r.marks (holds_of l.holds xid)) (sym (its_record w l tied xid o is old writes.at))
      (tied.before_image xid o (tied.kept.ready xid o is).its is (tied.kept.ready xid o is).found)))

  as_many_items : length (adopted sub o.items) ≡ length o.items
  as_many_items =
      ap length (adopted_items xid own sub o.items can) ∙ length-append can.front (Change sub can.change ∷ [])
      ∙ sym (ap length can.is ∙ length-append can.front (Change own can.change ∷ []))

  beside_then : IsBeside (length schema) later kept
  beside_then = record {
    wants = came.wants;
    named = wants_none (length schema) kept.wants came.wants;
    done = came.done ∙ (its_beside w l tied xid o is old writes.at).done ∙ ap (λ (count : ℕ). min count (2 ^ 64 - 1)) (sym as_many_items);
  }

  pub tied_adopted : n.tables ≡ l.tables → n.holds ≡ l.holds → n.stopped ≡ l.stopped → RepresentsByHolds next n
  tied_adopted tables holds stops =
      tied_put w l tied xid o is old writes.at later w.stopped n kept (ap (λ (t : Content). t.schema) tables) writes.puts
      (subst (λ (t : Content). RecordsRepresent schema t next (records_in n.transactions)) (sym tables) kept_then)
      (subst (λ (h : LiveHolds). AreHolds schema next (cells_held h)) (sym holds)
      (holds_same schema w (cells_held l.holds) tied.holds xid o is later w.stopped same_work))
      (subst (λ (h : LiveHolds). HasHeldMarks schema w.committed kept.record (cells_held h xid)) (sym holds)
      (marks_then schema w xid o old.record tells own sub can kept.record came.record_is (cells_held l.holds xid) (its_marks w l tied xid o is old writes.at)))
      (λ other differs. ap (λ (h : LiveHolds). cells_held h other) holds) beside_then writes.as_many (ap told_stop stops ∙ tied.stopped) (still_caused l n stops tied.caused)
      (subst (λ (h : LiveHolds). HasBeforeImages next (records_in n.transactions) (holds_of h)) (sym holds) images_then)
