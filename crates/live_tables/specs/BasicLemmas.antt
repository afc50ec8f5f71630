-- What the calls of one open transaction have in common: what is told of it, of the map and of the holds, as the laws ask it.
--     puts_by_update, writes_by_borrow, records_put      the map with another transaction, and its records
--     its_record, its_tells, its_can, its_marks, its_beside      what a store keeps of the transaction is what the map has
--     taken_cells, released_again      the cells once some were taken; once they were let go again
--     is_there, never_missing, its_names      an open transaction is in the map; each savepoint of its record is named by an item
--     still_caused      what stopped a store is what had
--     tied_by, marks_put, beside_put      a store is tied, its marks and what it keeps beside them, where one transaction has another record
--     tied_put      a store stays tied there
use Rattle.std.proofs.Common.{◌≡◌, ◌≢◌, ℕ, ◌+◌, cond, List, length, take, Option, Some, None, refl, sym, ap, subst, ◌∙◌, inl, inr, is_some, true≢false}
use Rattle.std.specs.Prelude.{option_map, IsSome, IfSome}
use Rattle.std.specs.Ordering.{nat_cmp}
use Rattle.std.specs.Cmp.{nat_cmp_total, unsigned_tied}
use Rattle.std.specs.Map.{keys_of}
use Rattle.std.specs.BTreeMap as tree
use Rattle.std.specs.BTreeMap.{BTreeMap, btree_map_len}
use Rattle.std.specs.FinMap as finite
use Rattle.std.specs.FinMap.{FinMap, get, len-insert}
use Rattle.std.proofs.lemmas.Bool.{ne_eqb}
use Rattle.std.proofs.Math.Path.{fun_ext}
use Rattle.model.specs.declared.cell.Cell.{Cell}
use Rattle.model.specs.Rows.{Rows, Schema}
use Rattle.keyholds.specs.Holds.{holds_of, cells_held, with_holds}
use Rattle.keyholds.proofs.HoldsLemmas.{taking_keeps_held}
use Rattle.undo.specs.Undo.{CanUndo}
use Rattle.savepoint.specs.Record.{Record, AllAreNamed}
use Rattle.world.specs.World.{Opened, Stop, World}
use Rattle.world.specs.FineLemmas.{put_cases}
use Rattle.world.specs.ListingLemmas.{xid_cases}
use Rattle.live_tables.specs.declared.live_tables.Live.{Live}
use Rattle.live_tables.specs.declared.live_tables.Stopped.{Stopped}
use Rattle.live_tables.specs.declared.before_image.BeforeImage.{BeforeImage}
use Rattle.live_tables.specs.declared.transaction.OpenTransaction.{OpenTransaction}
use Rattle.live_tables.specs.Answers.{told_stop, HasCause}
use Rattle.live_tables.specs.Held.{AreHolds, HasHeldMarks}
use Rattle.live_tables.specs.CellLemmas.{before_image_is_held}
use Rattle.live_tables.specs.KeptRecords.{IsRecordOf, Represents as RecordsRepresent, IsPutAt}
use Rattle.live_tables.specs.BeforeImages.{HasBeforeImages, TakesBeforeImages, cells_of_each}
use Rattle.live_tables.specs.Represents.{records_in, IsBeside}
use Rattle.live_tables.specs.ByHolds.{RepresentsByHolds}
use Rattle.live_tables.specs.Transactions.{PutsTransaction, WritesTransaction, HasTaken}

same_some : {X : Type 0} (x y : X) → Some x ≡ Some y → x ≡ y
same_some x y e = cc

-- ---- the map of transactions

-- what an update of the map says of it
pub puts_by_update : (xid : ℕ) (kept : Option OpenTransaction) (old new : BTreeMap ℕ OpenTransaction) → tree.Updates nat_cmp old new xid kept
    → PutsTransaction xid kept old new
puts_by_update xid kept old new update = record {
  here = update.1;
  beside = λ other differs. update.2 other (unsigned_tied xid other ∙ ne_eqb xid other (λ e. differs (sym e)));
}

-- what was written through a borrow of one in the map
pub writes_by_borrow : (xid : ℕ) (was kept : OpenTransaction) (old new : BTreeMap ℕ OpenTransaction) → tree.get nat_cmp old xid ≡ Some was
    → tree.WritesThrough nat_cmp (nat_cmp xid) old kept new → WritesTransaction xid was kept old new
writes_by_borrow xid was kept old new at writes = record {
  at = at;
  puts = puts_by_update xid (Some kept) old new (writes.3 (ap is_some at));
  as_many = writes.2;
}

-- the records of a map with another transaction
pub records_put : (xid : ℕ) (kept : Option OpenTransaction) (old new : BTreeMap ℕ OpenTransaction) → PutsTransaction xid kept old new
    → IsPutAt (records_in old) xid (option_map (λ (k : OpenTransaction). k.record) kept) (records_in new)
records_put xid kept old new puts = record {
  here = ap (option_map (λ (k : OpenTransaction). k.record)) puts.here;
  beside = λ other differs. ap (option_map (λ (k : OpenTransaction). k.record)) (puts.beside other differs);
}

-- ---- cells

-- cells that were taken with what stood there
pub taken_cells : (live : Rows) (cells : List Cell) (count : ℕ) (held : ℕ → List (Cell × BeforeImage)) (xid : ℕ) (new : ℕ → List (Cell × BeforeImage))
    → TakesBeforeImages live cells count held xid new → HasTaken xid cells (cells_of_each held) (cells_of_each new)
taken_cells live cells count held xid new takes = record {
  front = (before_image_is_held.front live cells count held xid new takes).0;
  all = before_image_is_held.taken live cells count held xid new takes;
  beside = λ other differs. ap keys_of (takes.at.beside other differs);
}

-- what was taken was let go again
pub released_again : {S : Type 0} (old taken new : FinMap nat_cmp (List (Cell × S))) (xid mark : ℕ) (pairs : List (Cell × S)) → mark ≡ length (holds_of old xid)
    → holds_of taken xid ≡ with_holds (holds_of old xid) pairs → ((other : ℕ) → other ≢ xid → holds_of taken other ≡ holds_of old other)
    → holds_of new xid ≡ take mark (holds_of taken xid) → ((other : ℕ) → other ≢ xid → holds_of new other ≡ holds_of taken other) → holds_of new ≡ holds_of old
released_again old taken new xid mark pairs count own others back rest = fun_ext (λ other.
    elim (xid_cases other xid) [
      | inl same ↦
          ap (holds_of new) same ∙ back ∙ ap (λ (n : ℕ). take n (holds_of taken xid)) count ∙ ap (take (length (holds_of old xid))) own
          ∙ taking_keeps_held (holds_of old xid) pairs ∙ ap (holds_of old) (sym same)
      | inr differs ↦ rest other differs ∙ others other differs
    ])

-- ---- a store that is tied

kept_there : (found : Option OpenTransaction) (r : Record) → option_map (λ (k : OpenTransaction). k.record) found ≡ Some r → IsSome found
kept_there None r is = absurd cc
kept_there (Some k) r is = refl

-- an open transaction is in the map
pub is_there : (w : World) (l : Live) → RepresentsByHolds w l → (xid : ℕ) (o : Opened) → get w.opened xid ≡ Some o → IsSome (tree.get nat_cmp l.transactions xid)
is_there w l tied xid o is = kept_there (tree.get nat_cmp l.transactions xid) (tied.kept.ready xid o is).its (tied.kept.ready xid o is).found

-- so it is never missing there
pub never_missing : (l : Live) (xid : ℕ) → ((w : World) × (o : Opened) × RepresentsByHolds w l × (get w.opened xid ≡ Some o)) → None ≡ tree.get nat_cmp l.transactions xid → ⊥
never_missing l xid (w, o, tied, is) none = true≢false (sym (is_there w l tied xid o is) ∙ ap is_some (sym none))

-- what stopped it is what had
pub still_caused : (l n : Live) → n.stopped ≡ l.stopped → IfSome l.stopped HasCause → IfSome n.stopped HasCause
still_caused l n same caused = subst (λ (s : Option Stopped). IfSome s HasCause) (sym same) caused

-- with what is said at the schema of the tables before
pub tied_by : (w : World) (n : Live) (schema : Schema) → n.tables.schema ≡ schema → RecordsRepresent schema n.tables w (records_in n.transactions)
    → AreHolds schema w (cells_held n.holds)
    → ((xid : ℕ) (r : Record) → records_in n.transactions xid ≡ Some r → HasHeldMarks schema w.committed r (cells_held n.holds xid))
    → ((xid : ℕ) (o : Opened) (kept : OpenTransaction) → get w.opened xid ≡ Some o → tree.get nat_cmp n.transactions xid ≡ Some kept → IsBeside (length schema) o kept)
    → finite.len w.opened ≡ btree_map_len n.transactions → told_stop n.stopped ≡ w.stopped → IfSome n.stopped HasCause
    → HasBeforeImages w (records_in n.transactions) (holds_of n.holds) → RepresentsByHolds w n
tied_by w n schema same kept holds marks beside count stopped caused before_image = record {
  kept = subst (λ (s : Schema). RecordsRepresent s n.tables w (records_in n.transactions)) (sym same) kept;
  holds = subst (λ (s : Schema). AreHolds s w (cells_held n.holds)) (sym same) holds;
  marks = subst (λ (s : Schema). (xid : ℕ) (r : Record) → records_in n.transactions xid ≡ Some r → HasHeldMarks s w.committed r (cells_held n.holds xid)) (sym same) marks;
  beside = subst (λ (s : Schema). (xid : ℕ) (o : Opened) (kept : OpenTransaction) → get w.opened xid ≡ Some o → tree.get nat_cmp n.transactions xid ≡ Some kept → IsBeside (length s) o kept)
      (sym same) beside;
  count = count;
  stopped = stopped;
  caused = caused;
  before_image = before_image;
}

module _ (w : World) (l : Live) (tied : RepresentsByHolds w l) (xid : ℕ) where
  -- ---- the map has another transaction there

  module _ (later : Opened) (n : Live) (kept : OpenTransaction) (puts : PutsTransaction xid (Some kept) l.transactions n.transactions) where
    pub marks_put : HasHeldMarks l.tables.schema w.committed kept.record (cells_held n.holds xid)
        → ((other : ℕ) → other ≢ xid → cells_held n.holds other ≡ cells_held l.holds other)
        → (other : ℕ) (r : Record) → records_in n.transactions other ≡ Some r → HasHeldMarks l.tables.schema w.committed r (cells_held n.holds other)
    marks_put here beside other r at =
        elim (xid_cases other xid) [
          | inl same ↦
              let record_is : kept.record ≡ r =
              same_some kept.record r (sym (ap (option_map (λ (k : OpenTransaction). k.record)) puts.here) ∙ sym (ap (records_in n.transactions) same) ∙ at) in
              subst (λ (number : ℕ). HasHeldMarks l.tables.schema w.committed r (cells_held n.holds number)) (sym same)
              (subst (λ (s : Record). HasHeldMarks l.tables.schema w.committed s (cells_held n.holds xid)) record_is here)
          | inr differs ↦
              subst (λ (cells : List Cell). HasHeldMarks l.tables.schema w.committed r cells) (sym (beside other differs))
              (tied.marks other r (sym ((records_put xid (Some kept) l.transactions n.transactions puts).beside other differs) ∙ at))
        ]

    pub beside_put : IsBeside (length l.tables.schema) later kept → (other : ℕ) (p : Opened) (k : OpenTransaction)
        → get (finite.insert w.opened xid later) other ≡ Some p → tree.get nat_cmp n.transactions other ≡ Some k → IsBeside (length l.tables.schema) p k
    beside_put its other p k at_open at =
        elim (put_cases w.opened xid later other p at_open) [
          | inl here ↦
              let kept_is : kept ≡ k = same_some kept k (sym puts.here ∙ sym (ap (tree.get nat_cmp n.transactions) here.0) ∙ at) in
              subst (λ (q : Opened). IsBeside (length l.tables.schema) q k) (sym here.1)
              (subst (λ (q : OpenTransaction). IsBeside (length l.tables.schema) later q) kept_is its)
          | inr there ↦ tied.beside other p k there.1 (sym (puts.beside other there.0) ∙ at)
        ]

  module _ (o : Opened) (is : get w.opened xid ≡ Some o) where
    module _ (old : OpenTransaction) (was : tree.get nat_cmp l.transactions xid ≡ Some old) where
      -- its record is the one in the map
      pub its_record : old.record ≡ (tied.kept.ready xid o is).its
      its_record = same_some old.record (tied.kept.ready xid o is).its (sym (ap (option_map (λ (k : OpenTransaction). k.record)) was) ∙ (tied.kept.ready xid o is).found)

      -- it tells what the transaction has done
      pub its_tells : IsRecordOf l.tables.schema w xid o old.record
      its_tells = subst (λ (r : Record). IsRecordOf l.tables.schema w xid o r) (sym its_record) (tied.kept.ready xid o is).tells

      pub its_names : AllAreNamed old.record
      its_names = its_tells.named

      -- and what can be undone now
      pub its_can : CanUndo l.tables old.record.log.inverses
      its_can = subst (λ (r : Record). CanUndo l.tables r.log.inverses) (sym its_record) (tied.kept.ready xid o is).can

      pub its_marks : HasHeldMarks l.tables.schema w.committed old.record (cells_held l.holds xid)
      its_marks = tied.marks xid old.record (ap (option_map (λ (k : OpenTransaction). k.record)) was)

      pub its_beside : IsBeside (length l.tables.schema) o old
      its_beside = tied.beside xid o old is was

      -- as many are open once it has other items
      open_as_many : (later : Opened) → finite.len (finite.insert w.opened xid later) ≡ finite.len w.opened
      open_as_many later =
          len-insert nat_cmp_total w.opened xid later ∙ ap (λ b. cond b (finite.len w.opened) (finite.len w.opened + 1)) (ap is_some is)

      module _ (later : Opened) (stopped : Option Stop) (n : Live) (kept : OpenTransaction) (schema : n.tables.schema ≡ l.tables.schema)
          (puts : PutsTransaction xid (Some kept) l.transactions n.transactions) where
        abbrev next : World
        next = record w { opened = finite.insert w.opened xid later; stopped = stopped }

        -- it has other items or wants something, and no other transaction changed
        pub tied_put : RecordsRepresent l.tables.schema n.tables next (records_in n.transactions) → AreHolds l.tables.schema next (cells_held n.holds)
            → HasHeldMarks l.tables.schema w.committed kept.record (cells_held n.holds xid)
            → ((other : ℕ) → other ≢ xid → cells_held n.holds other ≡ cells_held l.holds other) → IsBeside (length l.tables.schema) later kept
            → btree_map_len n.transactions ≡ btree_map_len l.transactions → told_stop n.stopped ≡ stopped → IfSome n.stopped HasCause
            → HasBeforeImages next (records_in n.transactions) (holds_of n.holds) → RepresentsByHolds next n
        tied_put is_kept holds here beside its as_many stops caused before_image =
            tied_by next n l.tables.schema schema is_kept holds (marks_put later n kept puts here beside) (beside_put later n kept puts its)
            (open_as_many later ∙ tied.count ∙ sym as_many) stops caused before_image
