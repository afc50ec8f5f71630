-- What ties a store to its world where a transaction opens, is named by an item, is rolled back and ends.
--     before_image_since, before_image_still      what is held once the cells since a mark were let go, and without a mark
--     fine_touched      a world that is stopped is fine after a touch too
--     tied_at_start      a store in which no transaction is open
--     tied_opened, tied_alike      one opens; it is refused
--     records_alike      the records are the same where the map has the same transactions
--     tied_touched      one is named by an item
--     tied_back      one is rolled back to a savepoint
--     tied_aborted, tied_committed      one ends
use Rattle.std.proofs.Common.{◌≡◌, ◌≢◌, ℕ, Bool, ◌+◌, ◌-◌, ◌^◌, ◌++◌, ◌∷◌, [], cond, List, length, take, min, Option, Some, None, refl, sym, ap, subst, ◌∙◌, inl, inr, arith, is_some, true≢false, length-append, append-nil}
use Rattle.std.specs.Prelude.{option_map, IfSome}
use Rattle.std.specs.Ordering.{nat_cmp}
use Rattle.std.specs.Cmp.{nat_cmp_total}
use Rattle.std.specs.Map.{keys_of, lookup}
use Rattle.std.specs.BTreeMap as tree
use Rattle.std.specs.BTreeMap.{BTreeMap, btree_map_len}
use Rattle.std.specs.FinMap as finite
use Rattle.std.specs.FinMap.{get, get-empty, len-empty, len-insert, len-remove}
use Rattle.std.proofs.lemmas.List.{take_all}
use Rattle.std.proofs.lemmas.Map.Entries.{length-keys_of}
use Rattle.std.proofs.Math.Path.{fun_ext}
use Rattle.model.specs.declared.change.Change as change_type
use Rattle.model.specs.declared.cell.Cell.{Cell}
use Rattle.model.specs.declared.item.Item.{Item}
use Rattle.model.specs.declared.item.Item.TheVariants.{Touch, BackTo}
use Rattle.model.specs.declared.item.CommitInfo.{CommitInfo}
use Rattle.model.specs.Accepted.{AreAccepted}
use Rattle.model.specs.Named.{NamesTables}
use Rattle.model.specs.Rows.{Rows, Schema, IsValid}
use Rattle.model.specs.Footprint.{held_cells, shares_cell}
use Rattle.model.specs.Survivors.{after_item, changes_of}
use Rattle.model.specs.SurvivorLemmas.{work_with_touch}
use Rattle.model.specs.ValidLemmas.{not_none}
use Rattle.indexes.specs.Content.{Content}
use Rattle.change.specs.declared.inverse.Inverse.{Inverse}
use Rattle.keyholds.specs.Holds.{holds_of, cells_held}
use Rattle.savepoint.specs.declared.mark.Mark.{Mark}
use Rattle.savepoint.specs.Savepoints.{mark_at}
use Rattle.savepoint.specs.Record.{Record}
use Rattle.world.specs.World.{Opened, Past, ByClash, World, starting, own_rows, holds}
use Rattle.world.specs.Steps.{opened_with, done_with, aborted_with, committed_with}
use Rattle.world.specs.FineLemmas.{fine_put, fine_same, gone_cases, same_some}
use Rattle.world.specs.Fine.{IsFine}
use Rattle.world.specs.ListingLemmas.{xid_cases}
use Rattle.live_tables.specs.declared.live_tables.Live.{Live}
use Rattle.live_tables.specs.declared.transaction.OpenTransaction.{OpenTransaction}
use Rattle.live_tables.specs.Answers.{told_stop}
use Rattle.live_tables.specs.CellLemmas.{before_image_is_held}
use Rattle.live_tables.specs.Held.{AreHolds, IsHeldAt, HasHeldMarks}
use Rattle.live_tables.specs.HoldsLemmas.{holds_opened, holds_touched, abort_is_held, commit_is_held}
use Rattle.live_tables.specs.KeptRecords.{IsRecordOf, Represents as RecordsRepresent, IsPutAt}
use Rattle.live_tables.specs.KeptLemmas.{kept_opened, kept_touched}
use Rattle.live_tables.specs.CallLemmas.{start_is_kept, rollback_is_kept, abort_is_kept, commit_is_kept}
use Rattle.live_tables.specs.MarkedHoldsLemmas.{item_keeps_marks, rollback_keeps_marks, rollback_is_held, commit_keeps_marks}
use Rattle.live_tables.specs.BeforeImages.{LiveHolds, HasBeforeImages, IsStoodAt, up_to_before_image}
use Rattle.live_tables.specs.BeforeImageCallLemmas.{start_keeps_before_images, open_keeps_before_images, touch_keeps_before_images, rollback_keeps_before_images, abort_keeps_before_images, commit_keeps_before_images}
use Rattle.live_tables.specs.Represents.{records_in, IsBeside}
use Rattle.live_tables.specs.ByHolds.{RepresentsByHolds}
use Rattle.live_tables.specs.BasicLemmas.{records_put, tied_by, marks_put, beside_put, is_there, still_caused, its_record, its_tells, its_can, its_marks, its_beside, tied_put}
use Rattle.live_tables.specs.CallResults.{IsFresh, IsRolledBack, IsTakenBack, IsReleased}
use Rattle.live_tables.specs.Transactions.{PutsTransaction, WritesTransaction, WaitsNoMore, HasHeldItem, HasTouched}

-- ---- an item that is no change, with which it waits no more

counted : (old new items more most : ℕ) → old ≡ min items most → new ≡ min (old + 1) most → more ≡ items + 1 → new ≡ min more most
counted old new items more most was is one_more = omega (arith, was, is, one_more)

pub wants_none : (tables : ℕ) (wants : Option (ℕ × change_type.Change)) → wants ≡ None → IfSome wants (λ (w : ℕ × change_type.Change). NamesTables tables w.1)
wants_none tables None none = tt
wants_none tables (Some w) some = absurd (not_none w (sym some))

beside_more : (tables : ℕ) (o : Opened) (item : Item) (old kept : OpenTransaction) → IsBeside tables o old → changes_of (item ∷ []) ≡ [] → WaitsNoMore old kept
    → IsBeside tables (record { items = o.items ++ item ∷ []; wants = None }) kept
beside_more tables o item old kept was none more = record {
  wants = more.wants;
  named = wants_none tables kept.wants more.wants;
  done = counted old.done kept.done (length o.items) (length (o.items ++ item ∷ [])) (2 ^ 64 - 1) was.done more.done (length-append o.items (item ∷ []));
}

-- an item, as the record of the transaction tells it
item_at : (xid top sub : ℕ) (item : Item) (more : List Inverse) (r s : Record) (held : ℕ) → top ≡ xid → HasHeldItem top sub item more r s held → HasHeldItem xid sub item more r s held
item_at xid top sub item more r s held same has = subst (λ (number : ℕ). HasHeldItem number sub item more r s held) same has

-- ---- cells that are let go

-- those taken since a mark
pub before_image_since : (old new : LiveHolds) (xid : ℕ) (m : Mark) (found : Option Mark) → Some m ≡ found → holds_of new xid ≡ take m.held (holds_of old xid)
    → ((other : ℕ) → other ≢ xid → holds_of new other ≡ holds_of old other) → IsStoodAt (holds_of old) xid (up_to_before_image found (holds_of old xid)) (holds_of new)
before_image_since old new xid m found same own others = record {
  here = own ∙ ap (λ (f : Option Mark). up_to_before_image f (holds_of old xid)) same;
  beside = others;
}

-- none without a mark
pub before_image_still : (held : LiveHolds) (xid : ℕ) (found : Option Mark) → None ≡ found → IsStoodAt (holds_of held) xid (up_to_before_image found (holds_of held xid)) (holds_of held)
before_image_still held xid found same = record { here = ap (λ (f : Option Mark). up_to_before_image f (holds_of held xid)) same; beside = λ other differs. refl }

-- ---- a touch

fine_touched : (schema : Schema) (w : World) → IsFine schema w → (xid : ℕ) (o : Opened) → get w.opened xid ≡ Some o → (sub : ℕ) → IsFine schema (done_with w xid o (Touch sub))
fine_touched schema w fine xid o is sub = fine_same schema w fine xid o (record { items = o.items ++ Touch sub ∷ []; wants = None }) is refl (work_with_touch xid sub o.items)

module _ (w : World) (l : Live) (tied : RepresentsByHolds w l) (xid : ℕ) (o : Opened) (is : get w.opened xid ≡ Some o) (old kept : OpenTransaction) (n : Live)
    (writes : WritesTransaction xid old kept l.transactions n.transactions) where
  abbrev schema : Schema
  schema = l.tables.schema

  tells : IsRecordOf schema w xid o old.record
  tells = its_tells w l tied xid o is old writes.at

  records_at : IsPutAt (records_in l.transactions) xid (Some kept.record) (records_in n.transactions)
  records_at = records_put xid (Some kept) l.transactions n.transactions writes.puts

  marks_there : HasHeldMarks schema w.committed (tied.kept.ready xid o is).its (cells_held l.holds xid)
  marks_there = tied.marks xid (tied.kept.ready xid o is).its (tied.kept.ready xid o is).found

  before_image_touched : (sub : ℕ) → HasHeldItem xid sub (Touch sub) [] old.record kept.record (length (cells_held l.holds xid))
      → HasBeforeImages (done_with w xid o (Touch sub)) (records_in n.transactions) (holds_of l.holds)
  before_image_touched sub has_old =
      let has =
      subst (λ (r : Record). HasHeldItem xid sub (Touch sub) [] r kept.record (length (cells_held l.holds xid))) (its_record w l tied xid o is old writes.at) has_old in
      touch_keeps_before_images schema l.tables w (records_in l.transactions) tied.kept (holds_of l.holds) tied.before_image xid o is marks_there sub (records_in n.transactions) kept.record records_at
      has.0 (has.1 ∙ length-keys_of (holds_of l.holds xid))

  -- a subtransaction of it is named by an item that changes no row
  pub tied_touched : (sub : ℕ) → HasTouched sub (length (cells_held l.holds xid)) old kept → n.tables ≡ l.tables → n.holds ≡ l.holds → n.stopped ≡ l.stopped
      → RepresentsByHolds (done_with w xid o (Touch sub)) n
  tied_touched sub was_touched tables holds stops =
      let cells = cells_held l.holds xid in
      let has = item_at xid old.record.top sub (Touch sub) [] old.record kept.record (length cells) tells.top (was_touched.item, was_touched.mark_held) in
      let item = has.0 in
      tied_put w l tied xid o is old writes.at (record { items = o.items ++ Touch sub ∷ []; wants = None }) w.stopped n kept (ap (λ (t : Content). t.schema) tables) writes.puts
      (subst (λ (t : Content). RecordsRepresent schema t (done_with w xid o (Touch sub)) (records_in n.transactions)) (sym tables)
      (kept_touched schema l.tables w (records_in l.transactions) tied.kept xid o is old.record tells (its_can w l tied xid o is old writes.at)
      sub (records_in n.transactions) kept.record item.mark records_at
      (fine_touched schema w tied.kept.fine xid o is sub) item.undo item.top item.survivors item.marks (item.inverses ∙ append-nil old.record.log.inverses) item.named))
      (subst (λ (held : LiveHolds). AreHolds schema (done_with w xid o (Touch sub)) (cells_held held)) (sym holds)
      (holds_touched schema w (cells_held l.holds) tied.holds xid o is sub))
      (subst (λ (held : LiveHolds). HasHeldMarks schema w.committed kept.record (cells_held held xid)) (sym holds)
      (item_keeps_marks schema w xid o old.record kept.record tells cells cells (its_marks w l tied xid o is old writes.at) (tied.holds.its xid o is)
      sub (Touch sub) (λ other. refl) [] item has.1 (take_all (length cells) cells (omega arith)) (omega arith)))
      (λ other differs. ap (λ (held : LiveHolds). cells_held held other) holds)
      (beside_more (length schema) o (Touch sub) old kept (its_beside w l tied xid o is old writes.at) refl was_touched.more) writes.as_many (ap told_stop stops ∙ tied.stopped)
      (still_caused l n stops tied.caused) (subst (λ (held : LiveHolds). HasBeforeImages (done_with w xid o (Touch sub)) (records_in n.transactions) (holds_of held)) (sym holds) (before_image_touched sub has))

  -- ---- a rollback

  -- the cells taken since the savepoint are let go
  pub tied_back : (sub : ℕ) → WaitsNoMore old kept → IsRolledBack schema l.tables n.tables sub old.record kept.record
      → IsStoodAt (holds_of l.holds) xid (up_to_before_image (mark_at sub old.record.marks) (holds_of l.holds xid)) (holds_of n.holds) → n.stopped ≡ l.stopped
      → RepresentsByHolds (done_with w xid o (BackTo sub)) n
  tied_back sub more back at stops =
      let held = before_image_is_held.back (holds_of l.holds) xid (mark_at sub old.record.marks) (holds_of n.holds) at in
      let back_there = subst (λ (r : Record). IsRolledBack schema l.tables n.tables sub r kept.record) (its_record w l tied xid o is old writes.at) back in
      tied_put w l tied xid o is old writes.at (record { items = o.items ++ BackTo sub ∷ []; wants = None }) w.stopped n kept back.schema_is writes.puts
      (rollback_is_kept schema l.tables w (records_in l.transactions) tied.kept xid o is sub (done_with w xid o (BackTo sub)) refl n.tables (records_in n.transactions) kept.record records_at
      back_there)
      (rollback_is_held schema w (cells_held l.holds) tied.holds xid o is old.record tells (its_marks w l tied xid o is old writes.at) sub (cells_held n.holds) held)
      (subst (λ (cells : List Cell). HasHeldMarks schema w.committed kept.record cells) (sym held.here)
      (rollback_keeps_marks schema w xid o old.record kept.record tells (cells_held l.holds xid) (its_marks w l tied xid o is old writes.at) sub
      (back.survivors ∙ ap (λ (top : ℕ). after_item top old.record.survivors (BackTo sub)) tells.top) back.marks))
      held.beside (beside_more (length schema) o (BackTo sub) old kept (its_beside w l tied xid o is old writes.at) refl more) writes.as_many (ap told_stop stops ∙ tied.stopped)
      (still_caused l n stops tied.caused)
      (rollback_keeps_before_images schema l.tables w (records_in l.transactions) tied.kept (holds_of l.holds) tied.before_image xid o is sub n.tables (records_in n.transactions) kept.record records_at
      back_there (holds_of n.holds)
      (subst (λ (r : Record). IsStoodAt (holds_of l.holds) xid (up_to_before_image (mark_at sub r.marks) (holds_of l.holds xid)) (holds_of n.holds)) (its_record w l tied xid o is old writes.at) at))

-- ---- a transaction opens

-- no transaction is open at the start
pub tied_at_start : (t : Content) (holds : LiveHolds) (made : Bool) (transactions : BTreeMap ℕ OpenTransaction) → IsValid t.schema t.rows
    → ((xid : ℕ) → holds_of holds xid ≡ []) → transactions.entries ≡ []
    → RepresentsByHolds (starting t.rows) (record { tables = t; holds = holds; made = made; transactions = transactions; stopped = None })
tied_at_start t holds made transactions valid nothing none = record {
  kept = start_is_kept t (records_in transactions) valid (λ xid. ap (option_map (λ (k : OpenTransaction). k.record)) (no_transaction xid));
  holds = record { its = λ xid o is. absurd (not_none o (sym (get-empty nat_cmp xid) ∙ is)); none = λ xid is. ap keys_of (nothing xid) };
  marks = λ xid r at. absurd (not_none r (sym (ap (option_map (λ (k : OpenTransaction). k.record)) (no_transaction xid)) ∙ at));
  beside = λ xid o kept is at. absurd (not_none o (sym (get-empty nat_cmp xid) ∙ is));
  count = len-empty nat_cmp Opened ∙ ap (λ (es : List (ℕ × OpenTransaction)). length es) (sym none);
  stopped = refl;
  caused = tt;
  before_image = start_keeps_before_images t.rows (records_in transactions) (holds_of holds);
}
  where
    no_transaction : (xid : ℕ) → tree.get nat_cmp transactions xid ≡ None
    no_transaction xid = ap (λ (es : List (ℕ × OpenTransaction)). lookup (tree.is_at (nat_cmp xid)) es) none

module _ (w : World) (l : Live) (tied : RepresentsByHolds w l) (xid : ℕ) (absent : tree.get nat_cmp l.transactions xid ≡ None) where
  -- one that the map has not isn't open
  not_open : get w.opened xid ≡ None
  not_open = by_open (get w.opened xid) refl
    where
      by_open : (found : Option Opened) → get w.opened xid ≡ found → get w.opened xid ≡ None
      by_open None is = is
      by_open (Some o) is = absurd (true≢false (sym (is_there w l tied xid o is) ∙ ap is_some absent))

  abbrev fresh : Opened
  fresh = record { items = []; wants = None }

  -- one with no savepoint has no mark
  marks_fresh : (r : Record) → r.marks ≡ [] → HasHeldMarks l.tables.schema w.committed r (cells_held l.holds xid)
  marks_fresh r unmarked = record {
    within = λ sub m at. absurd (no_mark sub m at);
    before = λ sub m at. absurd (no_mark sub m at);
    rising = λ sub other p q at later. absurd (no_mark sub p at);
  }
    where
      no_mark : (sub : ℕ) (m : Mark) → ¬ (mark_at sub r.marks ≡ Some m)
      no_mark sub m at = not_none m (sym (ap (λ (ms : List (ℕ × Mark)). mark_at sub ms) unmarked) ∙ at)

  pub tied_opened : (kept : OpenTransaction) (after : BTreeMap ℕ OpenTransaction) → IsFresh xid kept.record → kept.wants ≡ None → kept.done ≡ 0
      → PutsTransaction xid (Some kept) l.transactions after → btree_map_len after ≡ btree_map_len l.transactions + 1 → w.stopped ≡ None
      → RepresentsByHolds (opened_with w xid) (record l { transactions = after })
  tied_opened kept after new wants done puts one_more running =
      let n : Live = record l { transactions = after } in
      tied_by (opened_with w xid) n l.tables.schema refl
      (kept_opened l.tables.schema l.tables w (records_in l.transactions) tied.kept xid (records_in after) kept.record
      (fine_put l.tables.schema w tied.kept.fine xid fresh w.stopped tt (λ other p differs at. refl) (λ other c cause stops. absurd (not_none (ByClash other c cause) (sym running ∙ stops))))
      not_open (records_put xid (Some kept) l.transactions after puts) new.top new.survivors new.marks new.inverses new.named)
      (holds_opened l.tables.schema w (cells_held l.holds) tied.holds xid not_open)
      (marks_put w l tied xid fresh n kept puts (marks_fresh kept.record new.marks) (λ other differs. refl))
      (beside_put w l tied xid fresh n kept puts (record {
        wants = wants;
        named = wants_none (length l.tables.schema) kept.wants wants;
        done = done;
      }))
      (len-insert nat_cmp_total w.opened xid fresh ∙ ap (λ b. cond b (finite.len w.opened) (finite.len w.opened + 1)) (ap is_some not_open)
      ∙ ap (λ (count : ℕ). count + 1) tied.count ∙ sym one_more)
      tied.stopped tied.caused
      (open_keeps_before_images l.tables.schema w (records_in l.transactions) (holds_of l.holds) tied.holds tied.before_image xid not_open (records_in after) kept.record
      (records_put xid (Some kept) l.transactions after puts))

-- the map has the same transactions
got_alike : (before after : BTreeMap ℕ OpenTransaction) → after.entries ≡ before.entries → (xid : ℕ) → tree.get nat_cmp after xid ≡ tree.get nat_cmp before xid
got_alike before after same xid = ap (λ (es : List (ℕ × OpenTransaction)). lookup (tree.is_at (nat_cmp xid)) es) same

pub records_alike : (before after : BTreeMap ℕ OpenTransaction) → after.entries ≡ before.entries → records_in after ≡ records_in before
records_alike before after same = fun_ext (λ xid. ap (option_map (λ (k : OpenTransaction). k.record)) (got_alike before after same xid))

pub tied_alike : (w : World) (l : Live) → RepresentsByHolds w l → (after : BTreeMap ℕ OpenTransaction) → after.entries ≡ l.transactions.entries → RepresentsByHolds w (record l { transactions = after })
tied_alike w l tied after same = record {
  kept = subst (λ (records : ℕ → Option Record). RecordsRepresent l.tables.schema l.tables w records) (sym same_records) tied.kept;
  holds = tied.holds;
  marks = λ xid r at. tied.marks xid r (ap (λ (records : ℕ → Option Record). records xid) (sym same_records) ∙ at);
  beside = λ xid o kept is at. tied.beside xid o kept is (sym (got_alike l.transactions after same xid) ∙ at);
  count = tied.count ∙ ap (λ (es : List (ℕ × OpenTransaction)). length es) (sym same);
  stopped = tied.stopped;
  caused = tied.caused;
  before_image = subst (λ (records : ℕ → Option Record). HasBeforeImages w records (holds_of l.holds)) (sym same_records) tied.before_image;
}
  where
    same_records : records_in after ≡ records_in l.transactions
    same_records = records_alike l.transactions after same

-- ---- a transaction ends

module _ (w : World) (l : Live) (tied : RepresentsByHolds w l) (xid : ℕ) (o : Opened) (is : get w.opened xid ≡ Some o) (old : OpenTransaction)
    (was : tree.get nat_cmp l.transactions xid ≡ Some old) (n : Live) (puts : PutsTransaction xid None l.transactions n.transactions)
    (one_less : btree_map_len n.transactions + 1 ≡ btree_map_len l.transactions) (at : IsStoodAt (holds_of l.holds) xid [] (holds_of n.holds)) (stops : n.stopped ≡ l.stopped) where
  held : IsHeldAt (cells_held l.holds) xid [] (cells_held n.holds)
  held = before_image_is_held.gone (holds_of l.holds) xid (holds_of n.holds) at

  records_gone : IsPutAt (records_in l.transactions) xid None (records_in n.transactions)
  records_gone = records_put xid None l.transactions n.transactions puts

  open_one_less : finite.len (finite.remove w.opened xid) ≡ btree_map_len n.transactions
  open_one_less =
      let removed = len-remove nat_cmp_total w.opened xid ∙ ap (λ b. cond b (finite.len w.opened - 1) (finite.len w.opened)) (ap is_some is) in
      let count = tied.count in
      omega (arith, removed, count, one_less)

  module _ (committed : Rows) (line : List Past)
      (stay : (other : ℕ) (p : Opened) (r : Record) → other ≢ xid → get w.opened other ≡ Some p → IsRecordOf l.tables.schema w other p r
      → HasHeldMarks l.tables.schema w.committed r (cells_held l.holds other) → HasHeldMarks l.tables.schema committed r (cells_held l.holds other)) where
    abbrev then_gone : World
    then_gone = record w { committed = committed; line = line; opened = finite.remove w.opened xid }

    marks_of_other : (other : ℕ) (r : Record) → other ≢ xid → records_in l.transactions other ≡ Some r → (found : Option Opened) → get w.opened other ≡ found
        → HasHeldMarks l.tables.schema committed r (cells_held l.holds other)
    marks_of_other other r differs at None closed = absurd (not_none r (sym (tied.kept.closed other closed) ∙ at))
    marks_of_other other r differs at (Some p) open_there =
        let ready = tied.kept.ready other p open_there in
        stay other p r differs open_there
        (subst (λ (s : Record). IsRecordOf l.tables.schema w other p s) (same_some ready.its r (sym ready.found ∙ at)) ready.tells) (tied.marks other r at)

    marks_gone : (other : ℕ) (r : Record) → records_in n.transactions other ≡ Some r → HasHeldMarks l.tables.schema committed r (cells_held n.holds other)
    marks_gone other r at =
        elim (xid_cases other xid) [
          | inl same ↦ absurd (not_none r (sym records_gone.here ∙ sym (ap (records_in n.transactions) same) ∙ at))
          | inr differs ↦
              subst (λ (cells : List Cell). HasHeldMarks l.tables.schema committed r cells) (sym (held.beside other differs))
              (marks_of_other other r differs (sym (records_gone.beside other differs) ∙ at) (get w.opened other) refl)
        ]

    tied_gone : n.tables.schema ≡ l.tables.schema → RecordsRepresent l.tables.schema n.tables then_gone (records_in n.transactions)
        → AreHolds l.tables.schema then_gone (cells_held n.holds) → HasBeforeImages then_gone (records_in n.transactions) (holds_of n.holds) → RepresentsByHolds then_gone n
    tied_gone schema_is is_kept holds before_image =
        tied_by then_gone n l.tables.schema schema_is is_kept holds marks_gone
        (λ other p k at_open at.
        let there = gone_cases w.opened xid other p at_open in
        tied.beside other p k there.1 (sym (puts.beside other there.0) ∙ at))
        open_one_less (ap told_stop stops ∙ tied.stopped) (still_caused l n stops tied.caused) before_image

  -- its changes are undone
  pub tied_aborted : IsTakenBack l.tables.schema l.tables n.tables old.record → RepresentsByHolds (aborted_with w xid) n
  tied_aborted back =
      tied_gone w.committed w.line (λ other p r differs at theirs had. had) back.schema_is
      (abort_is_kept l.tables.schema l.tables w (records_in l.transactions) tied.kept xid o is (aborted_with w xid) refl n.tables (records_in n.transactions) records_gone
      (subst (λ (r : Record). IsTakenBack l.tables.schema l.tables n.tables r) (its_record w l tied xid o is old was) back))
      (abort_is_held l.tables.schema w (cells_held l.holds) tied.holds xid o is (cells_held n.holds) held)
      (abort_keeps_before_images w (records_in l.transactions) (holds_of l.holds) tied.before_image xid (records_in n.transactions) records_gone (holds_of n.holds) at)

  -- its changes are committed
  pub tied_committed : (info : CommitInfo) → IsReleased l.tables.schema l.tables n.tables old.record → RepresentsByHolds (committed_with l.tables.schema w xid o info) n
  tied_committed info given =
      tied_gone (own_rows l.tables.schema w xid o) (w.line ++ (record { xid = xid; items = o.items; info = info }) ∷ [])
      (λ other p r differs at theirs had. commit_keeps_marks l.tables.schema w tied.kept.fine xid o is other p differs at r theirs (cells_held l.holds other) had) given.schema_is
      (commit_is_kept l.tables.schema l.tables w (records_in l.transactions) tied.kept xid o is info (committed_with l.tables.schema w xid o info) refl n.tables (records_in n.transactions) records_gone
      (subst (λ (r : Record). IsReleased l.tables.schema l.tables n.tables r) (its_record w l tied xid o is old was) given))
      (commit_is_held l.tables.schema w (cells_held l.holds) tied.holds xid o is tied.kept.fine info (cells_held n.holds) held)
      (commit_keeps_before_images l.tables.schema l.tables w (records_in l.transactions) tied.kept (holds_of l.holds) tied.holds tied.before_image xid o is info (records_in n.transactions) records_gone
      (holds_of n.holds) at)
