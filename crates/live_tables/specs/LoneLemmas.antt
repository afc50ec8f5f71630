-- A store whose one transaction is alone and holds nothing, through its calls: it represents its world by the holds that there
-- would be.
--     lone_free      nobody is in the way of a change
--     lone_taken, lone_refused, lone_stops      a change is done or skipped; nothing came of a call; a change clashes
--     lone_waits      it waits with a change
--     lone_touched, lone_back      an item of the top transaction that changes no row; a rollback, which finds no savepoint
--     lone_aborted, lone_committed      it ends
--     lone_opened, open_refused      one opens where none is open; it is refused
--     none_open      none is, where the map has none
--     lone_not_waiting, lone_not_stuck      it waits for nobody
use Rattle.std.proofs.Common.{◌≡◌, ◌≢◌, ℕ, ◌+◌, ◌==◌, Bool, true, false, cond, List, [], ◌∷◌, ◌++◌, length, map, Option, Some, None, refl, sym, ap, subst, ◌∙◌, inl, inr, arith}
use Rattle.std.specs.Prelude.{Ok, All, not, if◌then◌else◌, unwrap_or, option_map, take_while}
use Rattle.std.specs.List.{Contains}
use Rattle.std.specs.Ordering.{nat_cmp}
use Rattle.std.specs.BTreeMap as tree
use Rattle.std.specs.BTreeMap.{BTreeMap, btree_map_len}
use Rattle.std.specs.FinMap as finite
use Rattle.std.specs.FinMap.{FinMap, get, get-empty}
use Rattle.std.proofs.lemmas.Bool.{cases_Bool, eq-eqb}
use Rattle.std.proofs.lemmas.List.Sums.{take_while-cons}
use Rattle.std.proofs.lemmas.List.Elements.{All-nil, All-cons, All-head, All-tail, All-append}
use Rattle.model.specs.declared.cell.Cell.{Cell}
use Rattle.model.specs.declared.change.Change as change_type
use Rattle.model.specs.declared.item.Item.{Item}
use Rattle.model.specs.declared.item.Item.TheVariants.{Change, Touch, BackTo, Last}
use Rattle.model.specs.declared.item.CommitInfo.{CommitInfo}
use Rattle.model.specs.Rows.{Schema}
use Rattle.model.specs.Effect.{ClashCause, all_back}
use Rattle.change.specs.declared.outcome.Clash.{Clash}
use Rattle.model.specs.ValidLemmas.{not_none}
use Rattle.model.specs.Named.{NamesTables}
use Rattle.model.specs.Survivors.{is_of, before_savepoint, changes_of, after_item}
use Rattle.model.specs.SurvivorLemmas.{changes_of_both}
use Rattle.indexes.specs.Content.{Content}
use Rattle.model.specs.Footprint.{looked_up, footprint}
use Rattle.change.specs.declared.inverse.Inverse.{Inverse}
use Rattle.change.specs.Inverse.{edits_of}
use Rattle.undo.specs.Undo.{content_undone}
use Rattle.undo.specs.UndoLemmas.{rows_undone, schema_undone}
use Rattle.savepoint.specs.declared.mark.Mark.{Mark}
use Rattle.savepoint.specs.Savepoints.{mark_at, with_mark, before_mark}
use Rattle.savepoint.specs.Record.{Record, with_mark_unless_top}
use Rattle.keyholds.specs.Holds.{holds_of, cells_held, with_holds, IsFreeCell}
use Rattle.world.specs.World.{Opened, ByClash, World}
use Rattle.world.specs.Live.{IsLive}
use Rattle.world.specs.Settled.{WaitsFor}
use Rattle.world.specs.Steps.{StopsHeld, Acts, IsClashing, IsDone, IsSkipped, opened_with, done_with, wanting, aborted_with, committed_with}
use Rattle.world.specs.FineLemmas.{put_cases}
use Rattle.world.specs.ListingLemmas.{xid_cases, got_same, got_other, gone_same, gone_other}
use Rattle.live_tables.specs.declared.live_tables.Live.{Live}
use Rattle.live_tables.specs.declared.before_image.BeforeImage.{BeforeImage}
use Rattle.live_tables.specs.declared.transaction.OpenTransaction.{OpenTransaction}
use Rattle.live_tables.specs.declared.live_tables.Stopped.TheVariants.{Clash as StoppedByClash}
use Rattle.live_tables.specs.Answers.{cause_of}
use Rattle.live_tables.specs.Cells.{IsFreeOf}
use Rattle.live_tables.specs.Waits.{WaitsForNobody, IsNotStuck, not_open, not_waiting}
use Rattle.live_tables.specs.WaitLemmas.{passes_live_tells, stop_is_refused}
use Rattle.live_tables.specs.KeptRecords.{IsPutAt}
use Rattle.live_tables.specs.BeforeImages.{LiveHolds, IsStoodAt, up_to_before_image}
use Rattle.live_tables.specs.Represents.{records_in, Represents}
use Rattle.live_tables.specs.ByHolds.{RepresentsByHolds, RepresentsWith}
use Rattle.live_tables.specs.ByHoldsLemmas.{by_holds, from_holds, by_some, by_would, from_would, as_made, holds_none}
use Rattle.live_tables.specs.WouldHoldLemmas.{would_take, would_cells, would_stand}
use Rattle.live_tables.specs.BasicLemmas.{records_put, tied_by}
use Rattle.live_tables.specs.ActLemmas.{tied_taken, tied_waits, tied_stops, tied_refused}
use Rattle.live_tables.specs.EndedLemmas.{tied_opened, tied_alike, records_alike, tied_touched, tied_back, tied_aborted, tied_committed}
use Rattle.live_tables.specs.CallResults.{HasSameRows, IsRolledBack, IsReleased, IsFresh, HasItem}
use Rattle.live_tables.specs.Transactions.{PutsTransaction, WritesTransaction, WantsChange, WaitsNoMore, IsAsBefore, HasApplied, HasTouched}

all_free : (held : ℕ → List Cell) (xid : ℕ) → ((other : ℕ) → other ≢ xid → held other ≡ []) → (cells : List Cell) → All (IsFreeCell held xid) cells
all_free held xid none [] = All-nil (IsFreeCell held xid)
all_free held xid none (cell ∷ cells) =
    All-cons (IsFreeCell held xid) cell cells
    (λ other d differs has. absurd (let is = subst (λ (l : List Cell). Contains l d) (none other differs) has in omega (arith, is.1)))
    (all_free held xid none cells)

-- a mark that the top transaction doesn't get may be any
with_mark_as : (xid sub : ℕ) (item : Item) (more : List Inverse) (r s : Record) (held : ℕ) → sub ≡ xid → HasItem xid sub item more r s
    → (has : HasItem xid sub item more r s) × (has.mark.held ≡ held)
with_mark_as xid sub item more r s held top has = (
  record {
    mark = record { undo = has.mark.undo; held = held };
    undo = has.undo;
    top = has.top;
    survivors = has.survivors;
    marks = has.marks ∙ no_mark has.mark ∙ sym (no_mark (record { undo = has.mark.undo; held = held }));
    inverses = has.inverses;
    named = has.named;
  },
  refl,
)
  where
    no_mark : (m : Mark) → with_mark_unless_top xid sub m r.marks ≡ r.marks
    no_mark m = ap (λ (b : Bool). if b then r.marks else with_mark sub m r.marks) (eq-eqb sub xid top)

-- where no transaction is open, the tables may have any room
with_other_room : (w : World) (l : Live) (t : Content) → ((other : ℕ) → get w.opened other ≡ None) → t.schema ≡ l.tables.schema → t.rows ≡ l.tables.rows → RepresentsByHolds w l
    → RepresentsByHolds w (record l { tables = t })
with_other_room w l t nobody schema rows stood =
    tied_by w (record l { tables = t }) l.tables.schema schema
    (record {
      schema_is = schema;
      fine = stood.kept.fine;
      live = subst (IsLive l.tables.schema w) (sym rows) stood.kept.live;
      ready = λ other p at. absurd (not_none p (sym (nobody other) ∙ at));
      closed = stood.kept.closed;
    })
    stood.holds stood.marks stood.beside stood.count stood.stopped stood.caused stood.before_image

-- ---- names of tables

-- a front of the items that begins with the same item, where it is so of what is behind
names_first : (N : change_type.Change → Type 0) (item : Item) (items front : List Item) → (All N (changes_of items) → All N (changes_of front))
    → All N (changes_of (item ∷ items)) → All N (changes_of (item ∷ front))
names_first N (Change sub c) items front behind all = All-cons N c (changes_of front) (All-head N c (changes_of items) all) (behind (All-tail N c (changes_of items) all))
names_first N (Touch sub) items front behind all = behind all
names_first N (BackTo sub) items front behind all = behind all
names_first N Last items front behind all = behind all

-- the changes of a front of the items name tables that those of all do
names_before : (N : change_type.Change → Type 0) (p : Item → Bool) (items : List Item) → All N (changes_of items) → All N (changes_of (take_while p items))
names_before N p [] all = all
names_before N p (item ∷ items) all =
    subst (λ (front : List Item). All N (changes_of front)) (sym (take_while-cons p item items))
    (elim (p item) as (λ b. All N (changes_of (cond b (item ∷ take_while p items) []))) [
      | false ↦ All-nil N
      | true ↦ names_first N item items (take_while p items) (names_before N p items) all
    ])

-- so it is with what a rollback leaves
names_left : (N : change_type.Change → Type 0) (top sub : ℕ) (items : List Item) → All N (changes_of items) → All N (changes_of (after_item top items (BackTo sub)))
names_left N top sub items all =
    elim (sub == top) as (λ b. All N (changes_of (if b then items else before_savepoint sub items))) [
      | true ↦ all
      | false ↦ names_before N (λ item. not (is_of sub item)) items all
    ]

-- and with one item more
names_more : (N : change_type.Change → Type 0) (items more : List Item) (item : Item) → more ≡ items ++ item ∷ [] → All N (changes_of items) → All N (changes_of (item ∷ []))
    → All N (changes_of more)
names_more N items more item is had its =
    subst (λ (l : List Item). All N (changes_of l)) (sym is)
    (subst (All N) (sym (changes_of_both items (item ∷ []))) (All-append N (changes_of items) (changes_of (item ∷ [])) had its))

-- ---- a transaction that is alone

same_some : {X : Type 0} (x y : X) → Some x ≡ Some y → x ≡ y
same_some x y e = cc

module _ (w : World) (l : Live) (tied : Represents w l) (alone : l.made ≡ false) (xid : ℕ) (o : Opened) (is : get w.opened xid ≡ Some o) where
  abbrev pub would : LiveHolds
  would = (tied.lone alone).would

  abbrev pub stands : RepresentsWith would w l
  stands = by_would w l tied alone

  pub nobody_else : (other : ℕ) → other ≢ xid → get w.opened other ≡ None
  nobody_else other differs = by (get w.opened other) refl
    where
      by : (found : Option Opened) → get w.opened other ≡ found → get w.opened other ≡ None
      by None at = at
      by (Some p) at = absurd (differs ((tied.lone alone).only xid other o p is at))

  -- nobody is in the way of a change
  pub lone_free : (c : change_type.Change) → IsFreeOf l.tables.schema l.tables.rows (cells_held would) xid c
  lone_free c =
      let none = λ (other : ℕ) (differs : other ≢ xid). stands.holds.none other (nobody_else other differs) in
      record { row = all_free (cells_held would) xid none (looked_up c); all = all_free (cells_held would) xid none (footprint l.tables.schema l.tables.rows c) }

  -- it has other items, and is the only one that is open
  only_put : (later : Opened) (a b : ℕ) (p q : Opened) → get (finite.insert w.opened xid later) a ≡ Some p → get (finite.insert w.opened xid later) b ≡ Some q → b ≡ a
  only_put later a b p q at too = its b q too ∙ sym (its a p at)
    where
      its : (other : ℕ) (x : Opened) → get (finite.insert w.opened xid later) other ≡ Some x → other ≡ xid
      its other x found =
          elim (put_cases w.opened xid later other x found) [
            | inl here ↦ here.0
            | inr there ↦ (tied.lone alone).only xid other o x is there.1
          ]

  module _ (old kept : OpenTransaction) (n : Live) (writes : WritesTransaction xid old kept l.transactions n.transactions)
      (holds : n.holds ≡ l.holds) (still : n.made ≡ l.made) (schema : n.tables.schema ≡ l.tables.schema) where
    still_alone : n.made ≡ false
    still_alone = still ∙ alone

    none_still : (other : ℕ) → holds_of n.holds other ≡ []
    none_still other = ap (λ (held : LiveHolds). holds_of held other) holds ∙ (tied.lone alone).none other

    -- what is so of its record and of all others is so of all
    each_put : (P : Record → Type 0) → P kept.record → ((other : ℕ) (r : Record) → records_in l.transactions other ≡ Some r → P r)
        → (other : ℕ) (r : Record) → records_in n.transactions other ≡ Some r → P r
    each_put P its had other r at =
        elim (xid_cases other xid) [
          | inl here ↦ subst P (same_some kept.record r (sym puts.here ∙ ap (records_in n.transactions) (sym here) ∙ at)) its
          | inr differs ↦ had other r (sym (puts.beside other differs) ∙ at)
        ]
      where
        puts : IsPutAt (records_in l.transactions) xid (Some kept.record) (records_in n.transactions)
        puts = records_put xid (Some kept) l.transactions n.transactions writes.puts

    its_place : records_in l.transactions xid ≡ Some old.record
    its_place = ap (option_map (λ (k : OpenTransaction). k.record)) writes.at

    its_marks_none : old.record.marks ≡ []
    its_marks_none = (tied.lone alone).unmarked xid old.record its_place

    unmarked_put : kept.record.marks ≡ old.record.marks → (other : ℕ) (r : Record) → records_in n.transactions other ≡ Some r → r.marks ≡ []
    unmarked_put same = each_put (λ (r : Record). r.marks ≡ []) (same ∙ its_marks_none) (tied.lone alone).unmarked

    abbrev IsNamed : Record → Type 0
    IsNamed r = All (NamesTables (length n.tables.schema)) (changes_of r.survivors)

    named_before : (other : ℕ) (r : Record) → records_in l.transactions other ≡ Some r → IsNamed r
    named_before other r at =
        subst (λ (s : Schema). All (NamesTables (length s)) (changes_of r.survivors)) (sym schema) ((tied.lone alone).named other r at)

    named_put : IsNamed kept.record → (other : ℕ) (r : Record) → records_in n.transactions other ≡ Some r → IsNamed r
    named_put its = each_put IsNamed its named_before

    named_as : kept.record.survivors ≡ old.record.survivors → IsNamed kept.record
    named_as same = subst (λ (items : List Item). All (NamesTables (length n.tables.schema)) (changes_of items)) (sym same) (named_before xid old.record its_place)

    abbrev taken_more : change_type.Change → List (Cell × BeforeImage)
    taken_more c = would_take l.tables.rows (length old.record.log.inverses) (cells_held would xid) (footprint l.tables.schema l.tables.rows c)

    abbrev taken_held : change_type.Change → LiveHolds
    taken_held c = finite.insert would xid (with_holds (holds_of would xid) (taken_more c))

    top_marks_same : (sub : ℕ) (m : Mark) → sub ≡ old.record.top → with_mark_unless_top old.record.top sub m old.record.marks ≡ old.record.marks
    top_marks_same sub m top = ap (λ (b : Bool). if b then old.record.marks else with_mark sub m old.record.marks) (eq-eqb sub old.record.top top)

    -- a change of it is done or skipped
    pub lone_taken : (sub : ℕ) (c : change_type.Change) → NamesTables (length l.tables.schema) c → l.stopped ≡ None → sub ≡ old.record.top → (mark : ℕ) (done : Bool)
        → HasApplied done sub c mark l.tables n.tables old kept → n.stopped ≡ l.stopped
        → Acts l.tables.schema w xid o sub c (Ok (if done then IsDone else IsSkipped)) (done_with w xid o (Change sub c)) × Represents (done_with w xid o (Change sub c)) n
    lone_taken sub c names running top mark done applied stops =
        let came =
        tied_taken w (record l { holds = would }) stands xid o is old kept (record n { holds = taken_held c }) writes sub c names running (lone_free c)
        (length (holds_of would xid)) (taken_more c) refl (would_cells l.tables.rows (length old.record.log.inverses) (cells_held would xid) (footprint l.tables.schema l.tables.rows c))
        (would_stand l.tables.rows (length old.record.log.inverses) (cells_held would xid) (footprint l.tables.schema l.tables.rows c))
        (ap (λ f. unwrap_or f []) (got_same would xid (with_holds (holds_of would xid) (taken_more c))))
        (λ other differs. ap (λ f. unwrap_or f []) (got_other would xid (with_holds (holds_of would xid) (taken_more c)) other differs))
        done (with_length done applied) stops in (
          came.0,
          from_would (done_with w xid o (Change sub c)) n (taken_held c) came.1 still_alone (only_put (record { items = o.items ++ Change sub c ∷ []; wants = None }))
              (unmarked_put (marks_same done applied))
              (named_put (names_more (NamesTables (length n.tables.schema)) old.record.survivors kept.record.survivors (Change sub c) (survivors_are done applied)
              (named_before xid old.record its_place)
              (All-cons (NamesTables (length n.tables.schema)) c [] (subst (λ (s : Schema). NamesTables (length s) c) (sym schema) names) (All-nil (NamesTables (length n.tables.schema))))))
              none_still,
        )
      where
        with_length : (done : Bool) → HasApplied done sub c mark l.tables n.tables old kept → HasApplied done sub c (length (holds_of would xid)) l.tables n.tables old kept
        with_length true a = (a.0, (a.1.0, a.1.1, with_mark_as old.record.top sub (Change sub c) (a.1.0 ∷ []) old.record kept.record (length (holds_of would xid)) top a.1.2.0))
        with_length false a = (a.0, a.1, a.2, with_mark_as old.record.top sub (Change sub c) [] old.record kept.record (length (holds_of would xid)) top a.3.0)

        marks_same : (done : Bool) → HasApplied done sub c mark l.tables n.tables old kept → kept.record.marks ≡ old.record.marks
        marks_same true a = a.1.2.0.marks ∙ top_marks_same sub a.1.2.0.mark top
        marks_same false a = a.3.0.marks ∙ top_marks_same sub a.3.0.mark top

        survivors_are : (done : Bool) → HasApplied done sub c mark l.tables n.tables old kept → kept.record.survivors ≡ old.record.survivors ++ Change sub c ∷ []
        survivors_are true a = a.1.2.0.survivors
        survivors_are false a = a.3.0.survivors

    -- nothing came of a call
    pub left_stands : HasSameRows l.tables.schema l.tables n.tables → IsAsBefore old kept → n.stopped ≡ l.stopped → RepresentsWith would w n
    left_stands left before stops = tied_refused w (record l { holds = would }) stands xid o is old kept (record n { holds = would }) writes left before refl stops

    pub lone_refused : HasSameRows l.tables.schema l.tables n.tables → IsAsBefore old kept → n.stopped ≡ l.stopped → Represents w n
    lone_refused left before stops =
        from_would w n would (left_stands left before stops) still_alone (tied.lone alone).only (unmarked_put before.record_same.marks) (named_put (named_as before.record_same.survivors))
        none_still

    -- a rollback finds no savepoint, and undoes nothing
    pub lone_back : (sub : ℕ) → WaitsNoMore old kept → IsRolledBack l.tables.schema l.tables n.tables sub old.record kept.record → n.stopped ≡ l.stopped
        → Represents (done_with w xid o (BackTo sub)) n
    lone_back sub more back stops =
        from_would (done_with w xid o (BackTo sub)) n would
        (tied_back w (record l { holds = would }) stands xid o is old kept (record n { holds = would }) writes sub more back
        (record { here = ap (λ (f : Option Mark). up_to_before_image f (holds_of would xid)) (sym (ap (mark_at sub) its_marks_none)); beside = λ other differs. refl }) stops)
        still_alone (only_put (record { items = o.items ++ BackTo sub ∷ []; wants = None }))
        (unmarked_put (back.marks ∙ ap (before_mark sub) its_marks_none ∙ sym its_marks_none))
        (named_put (subst (λ (items : List Item). All (NamesTables (length n.tables.schema)) (changes_of items)) (sym back.survivors)
        (names_left (NamesTables (length n.tables.schema)) old.record.top sub old.record.survivors (named_before xid old.record its_place))))
        none_still

    -- it waits with a change
    pub lone_waits : (sub : ℕ) (c : change_type.Change) → NamesTables (length l.tables.schema) c → l.stopped ≡ None → WantsChange sub c old kept → n.tables ≡ l.tables → n.stopped ≡ l.stopped
        → Represents (wanting w xid o sub c) n
    lone_waits sub c names running wants tables stops =
        from_would (wanting w xid o sub c) n would
        (tied_waits w (record l { holds = would }) stands xid o is old kept (record n { holds = would }) writes sub c names running wants tables refl stops)
        still_alone (only_put (record o { wants = Some (sub, c) })) (unmarked_put (ap (λ (r : Record). r.marks) wants.record_is))
        (named_put (named_as (ap (λ (r : Record). r.survivors) wants.record_is))) none_still

    -- a change clashes, and stops the store
    pub lone_stops : (sub : ℕ) (c : change_type.Change) → NamesTables (length l.tables.schema) c → l.stopped ≡ None → WantsChange sub c old kept → n.tables ≡ l.tables
        → (clash : Clash) (cause : ClashCause) → cause_of clash ≡ Some cause → IsClashing l.tables.schema w xid o c cause → n.stopped ≡ Some (StoppedByClash xid c clash)
        → Represents (record (wanting w xid o sub c) { stopped = Some (ByClash xid c cause) }) n
    lone_stops sub c names running wants tables clash cause caused clashing stops =
        from_would (record (wanting w xid o sub c) { stopped = Some (ByClash xid c cause) }) n would
        (tied_stops w (record l { holds = would }) stands xid o is old kept (record n { holds = would }) writes sub c names running wants tables refl clash cause caused clashing stops)
        still_alone (only_put (record o { wants = Some (sub, c) })) (unmarked_put (ap (λ (r : Record). r.marks) wants.record_is))
        (named_put (named_as (ap (λ (r : Record). r.survivors) wants.record_is))) none_still

    -- an item that changes no row
    pub lone_touched : (sub mark : ℕ) → sub ≡ old.record.top → HasTouched sub mark old kept → n.tables ≡ l.tables → n.stopped ≡ l.stopped → Represents (done_with w xid o (Touch sub)) n
    lone_touched sub mark top touched tables stops =
        from_would (done_with w xid o (Touch sub)) n would
        (tied_touched w (record l { holds = would }) stands xid o is old kept (record n { holds = would }) writes sub
        (let has = with_mark_as old.record.top sub (Touch sub) [] old.record kept.record (length (cells_held would xid)) top touched.item in
        record { more = touched.more; item = has.0; mark_held = has.1 }) tables refl stops)
        still_alone (only_put (record { items = o.items ++ Touch sub ∷ []; wants = None }))
        (unmarked_put (touched.item.marks ∙ top_marks_same sub touched.item.mark top))
        (named_put (names_more (NamesTables (length n.tables.schema)) old.record.survivors kept.record.survivors (Touch sub) touched.item.survivors (named_before xid old.record its_place)
        (All-nil (NamesTables (length n.tables.schema)))))
        none_still

  -- ---- it ends

  module _ (old : OpenTransaction) (was : tree.get nat_cmp l.transactions xid ≡ Some old) (n : Live) (puts : PutsTransaction xid None l.transactions n.transactions)
      (one_less : btree_map_len n.transactions + 1 ≡ btree_map_len l.transactions) (stops : n.stopped ≡ l.stopped) (still : n.made ≡ l.made)
      (none : (other : ℕ) → holds_of n.holds other ≡ []) where
    abbrev gone_held : LiveHolds
    gone_held = finite.remove would xid

    gone_at : IsStoodAt (holds_of would) xid [] (holds_of gone_held)
    gone_at = record {
      here = ap (λ f. unwrap_or f []) (gone_same would xid);
      beside = λ other differs. ap (λ f. unwrap_or f []) (gone_other would xid other differs);
    }

    nobody_left : (other : ℕ) → get (finite.remove w.opened xid) other ≡ None
    nobody_left other =
        elim (xid_cases other xid) [
          | inl here ↦ ap (get (finite.remove w.opened xid)) here ∙ gone_same w.opened xid
          | inr differs ↦ gone_other w.opened xid other differs ∙ nobody_else other differs
        ]

    no_record : (other : ℕ) (r : Record) → records_in n.transactions other ≡ Some r → ⊥
    no_record other r at =
        elim (xid_cases other xid) [
          | inl here ↦ not_none r (sym gone.here ∙ ap (records_in n.transactions) (sym here) ∙ at)
          | inr differs ↦ not_none r (sym (stands.kept.closed other (nobody_else other differs)) ∙ sym (gone.beside other differs) ∙ at)
        ]
      where
        gone : IsPutAt (records_in l.transactions) xid None (records_in n.transactions)
        gone = records_put xid None l.transactions n.transactions puts

    -- then none is open
    then_lone : (v : World) → v.opened ≡ finite.remove w.opened xid → RepresentsWith gone_held v n → Represents v n
    then_lone v opened stood =
        from_would v n gone_held stood (still ∙ alone)
        (λ a b p q at too. absurd (not_none p (sym (ap (λ (m : FinMap nat_cmp Opened). get m a) opened ∙ nobody_left a) ∙ at)))
        (λ other r at. absurd (no_record other r at)) (λ other r at. absurd (no_record other r at)) none

    -- its changes are undone; the tables may have whatever room
    pub lone_aborted : n.tables.schema ≡ l.tables.schema → n.tables.rows ≡ all_back l.tables.rows (map edits_of old.record.log.inverses) → Represents (aborted_with w xid) n
    lone_aborted schema rows =
        let undone = content_undone l.tables old.record.log.inverses in
        then_lone (aborted_with w xid) refl
        (with_other_room (aborted_with w xid) (record n { tables = undone; holds = gone_held }) n.tables nobody_left (schema ∙ sym (schema_undone l.tables old.record.log.inverses))
        (rows ∙ sym (rows_undone l.tables old.record.log.inverses))
        (tied_aborted w (record l { holds = would }) stands xid o is old was (record n { tables = undone; holds = gone_held }) puts one_less gone_at stops
        (record { schema_is = schema_undone l.tables old.record.log.inverses; rows = rows_undone l.tables old.record.log.inverses; room = λ cell there. there })))

    -- its changes are committed
    pub lone_committed : (info : CommitInfo) → IsReleased l.tables.schema l.tables n.tables old.record → Represents (committed_with l.tables.schema w xid o info) n
    lone_committed info given =
        then_lone (committed_with l.tables.schema w xid o info) refl
        (tied_committed w (record l { holds = would }) stands xid o is old was (record n { holds = gone_held }) puts one_less gone_at stops info given)

-- ---- one opens where none is open

module _ (w : World) (l : Live) (tied : Represents w l) (nobody : (other : ℕ) → get w.opened other ≡ None) (xid : ℕ) (absent : tree.get nat_cmp l.transactions xid ≡ None)
    (kept : OpenTransaction) (n : Live) (puts : PutsTransaction xid (Some kept) l.transactions n.transactions) where
  each_new : (P : Record → Type 0) → P kept.record → (other : ℕ) (r : Record) → records_in n.transactions other ≡ Some r → P r
  each_new P its other r at =
      elim (xid_cases other xid) [
        | inl here ↦ subst P (same_some kept.record r (sym new.here ∙ ap (records_in n.transactions) (sym here) ∙ at)) its
        | inr differs ↦ absurd (not_none r (sym (tied.kept.closed other (nobody other)) ∙ sym (new.beside other differs) ∙ at))
      ]
    where
      new : IsPutAt (records_in l.transactions) xid (Some kept.record) (records_in n.transactions)
      new = records_put xid (Some kept) l.transactions n.transactions puts

  pub lone_opened : IsFresh xid kept.record → kept.wants ≡ None → kept.done ≡ 0 → btree_map_len n.transactions ≡ btree_map_len l.transactions + 1 → w.stopped ≡ None
      → n ≡ record l { transactions = n.transactions; made = false } → Represents (opened_with w xid) n
  lone_opened fresh wants done one_more running same =
      let some = by_some w l tied in
      let made : n.made ≡ false = ap (λ (m : Live). m.made) same in
      let stood = tied_opened w (record l { holds = some.0 }) some.1 xid absent kept n.transactions fresh wants done puts one_more running in
      from_would (opened_with w xid) n some.0
      (as_made (opened_with w xid) (record l { holds = some.0; transactions = n.transactions }) (record n { holds = some.0 }) stood
      (ap (λ (m : Live). record m { holds = some.0 }) same ∙ ap (λ (b : Bool). record l { holds = some.0; transactions = n.transactions; made = b }) (sym made)))
      made only
      (each_new (λ (r : Record). r.marks ≡ []) fresh.marks)
      (each_new (λ (r : Record). All (NamesTables (length n.tables.schema)) (changes_of r.survivors))
      (subst (λ (items : List Item). All (NamesTables (length n.tables.schema)) (changes_of items)) (sym fresh.survivors) (All-nil (NamesTables (length n.tables.schema)))))
      (λ other. ap (λ (m : Live). holds_of m.holds other) same ∙ holds_none w l tied nobody other)
    where
      only : (a b : ℕ) (p q : Opened) → get (opened_with w xid).opened a ≡ Some p → get (opened_with w xid).opened b ≡ Some q → b ≡ a
      only a b p q at too = its b q too ∙ sym (its a p at)
        where
          its : (other : ℕ) (x : Opened) → get (opened_with w xid).opened other ≡ Some x → other ≡ xid
          its other x found =
              elim (put_cases w.opened xid (record { items = []; wants = None }) other x found) [
                | inl here ↦ here.0
                | inr there ↦ absurd (not_none x (sym (nobody other) ∙ there.1))
              ]

-- it is refused, and the map has the same transactions
pub open_refused : (w : World) (l : Live) → Represents w l → (after : BTreeMap ℕ OpenTransaction) → after.entries ≡ l.transactions.entries
    → Represents w (record l { transactions = after })
open_refused w l tied after same =
    elim (cases_Bool l.made) [
      | inl made ↦ from_holds w (record l { transactions = after }) (tied_alike w l (by_holds w l tied made) after same) made
      | inr alone ↦
          let lone = tied.lone alone in
          from_would w (record l { transactions = after }) lone.would (tied_alike w (record l { holds = lone.would }) (by_would w l tied alone) after same) alone lone.only
          (λ xid r at. lone.unmarked xid r (was xid ∙ at)) (λ xid r at. lone.named xid r (was xid ∙ at)) lone.none
    ]
  where
    was : (xid : ℕ) → records_in l.transactions xid ≡ records_in after xid
    was xid = ap (λ (records : ℕ → Option Record). records xid) (sym (records_alike l.transactions after same))

-- where the map has no transaction, none is open
pub none_open : (w : World) (l : Live) → Represents w l → btree_map_len l.transactions ≡ 0 → (other : ℕ) → get w.opened other ≡ None
none_open w l tied none other =
    ap (λ (m : FinMap nat_cmp Opened). get m other) (finite.empty_of_len w.opened (tied.count ∙ none)) ∙ get-empty nat_cmp other

-- nobody is there to wait for
module _ (w : World) (l : Live) (tied : Represents w l) (alone : l.made ≡ false) (waiter : ℕ) where
  nobody : (o : Opened) → get w.opened waiter ≡ Some o → WaitsForNobody l.tables.schema l.tables.rows (cells_held (tied.lone alone).would) waiter o
  nobody o is = by_wants o.wants refl
    where
      by_wants : (wants : Option (ℕ × change_type.Change)) → o.wants ≡ wants
          → WaitsForNobody l.tables.schema l.tables.rows (cells_held (tied.lone alone).would) waiter o
      by_wants None none = inl none
      by_wants (Some (sub, c)) its = let free = lone_free w l tied alone waiter o is c in inr (sub, c, its, (free.row, free.all))

  pub lone_not_waiting : (o : Opened) → get w.opened waiter ≡ Some o → (holder : ℕ) → ¬ (WaitsFor l.tables.schema w waiter o holder)
  lone_not_waiting o is =
      passes_live_tells l.tables.schema l.tables w (records_in l.transactions) tied.kept (cells_held (tied.lone alone).would)
      (tied.lone alone).held.holds waiter o is (nobody o is)

  pub lone_not_stuck : (sent : List (ℕ × ℕ)) → StopsHeld l.tables.schema w sent waiter None w
  lone_not_stuck sent = by (get w.opened waiter) refl
    where
      refused : IsNotStuck l.tables.schema l.tables.rows (cells_held (tied.lone alone).would) w sent waiter → StopsHeld l.tables.schema w sent waiter None w
      refused =
          stop_is_refused l.tables.schema l.tables w (records_in l.transactions) tied.kept (cells_held (tied.lone alone).would)
          (tied.lone alone).held.holds sent waiter

      by : (found : Option Opened) → get w.opened waiter ≡ found → StopsHeld l.tables.schema w sent waiter None w
      by None closed = refused (not_open closed)
      by (Some o) is = refused (not_waiting o is (nobody o is))
