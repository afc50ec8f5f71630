-- The logs of a record, as items come and go.
--     logs_at_first      nothing is done yet
--     logs_more      one more item, and the inverse of its change if it has one
--     logs_cut      a rollback to a savepoint
--     logs_past      others commit
use Rattle.std.proofs.Common.{◌≡◌, ◌≢◌, ℕ, ◌≤◌, ◌==◌, true, false, List, [], ◌∷◌, ◌++◌, length, take, drop, Some, refl, sym, ap, subst, ◌∙◌, arith, inl, inr, is_some}
use Rattle.std.specs.Prelude.{IsSome, IsTrue}
use Rattle.std.specs.List.{list_any}
use Rattle.std.proofs.lemmas.Bool.{cases_Bool, ne_eqb}
use Rattle.std.proofs.lemmas.List.{length-append, length-take-le, take-append-le, take-append-drop}
use Rattle.std.proofs.Math.Seq.{take-length}
use Rattle.model.specs.declared.change.Change as change_type
use Rattle.change.specs.declared.inverse.Inverse.{Inverse}
use Rattle.model.specs.declared.item.Item.{Item}
use Rattle.model.specs.Rows.{Rows, Schema, IsValid}
use Rattle.model.specs.Effect.{serial}
use Rattle.model.specs.Footprint.{held_cells, shares_cell}
use Rattle.model.specs.Survivors.{is_of, changes_of}
use Rattle.model.specs.SurvivorLemmas.{changes_of_both}
use Rattle.model.specs.SerialLemmas.{held_append}
use Rattle.model.specs.OverlapLemmas.{neither_first, shares_append}
use Rattle.undo.specs.LogOf.{IsLogOf, no_change}
use Rattle.undo.specs.LogLemmas.{log_past}
use Rattle.savepoint.specs.declared.mark.Mark.{Mark}
use Rattle.savepoint.specs.declared.record.CutPoint.{CutPoint}
use Rattle.savepoint.specs.Savepoints.{mark_at, with_mark, before_mark}
use Rattle.savepoint.specs.Record.{Record}
use Rattle.savepoint.specs.RecordInside.{marks_of, IsMarked}
use Rattle.savepoint.proofs.Cutting.{unmarked_noted_other}
use Rattle.savepoint.proofs.Indexed.{take-take}
use Rattle.savepoint.proofs.Marked.{marked_before, noted_or_old, marked_noted, marked_more, marked_cut, marked-marks_of, noted_there}
use Rattle.live_tables.specs.KeptRecords.{HasLogs}

-- the record has these items, marks and inverses, and they are tied so
pub record AreLogs (schema : Schema) (committed : Rows) (xid : ℕ) (items : List Item) (points : List (ℕ × CutPoint)) (inverses : List Inverse) : Type 0 where
  pub marked : IsMarked xid items points inverses
  pub log : IsLogOf schema committed (changes_of items) inverses
  pub logs : (sub : ℕ) (p : CutPoint) → mark_at sub points ≡ Some p → IsLogOf schema committed (changes_of (take p.items items)) (take p.mark.undo inverses)

-- a record with such logs
pub has_logs : (schema : Schema) (committed : Rows) (xid : ℕ) (items : List Item) (points : List (ℕ × CutPoint)) (inverses : List Inverse)
    → AreLogs schema committed xid items points inverses → (r : Record) → r.survivors ≡ items → r.marks ≡ marks_of points → r.log.inverses ≡ inverses
    → HasLogs schema committed xid r
has_logs schema committed xid items points inverses are r same marks undo = record {
  points = points;
  marks = marks;
  marked = subst (λ (is : List Item). IsMarked xid is points r.log.inverses) (sym same) (subst (IsMarked xid items points) (sym undo) are.marked);
  log = subst (λ (is : List Item). IsLogOf schema committed (changes_of is) r.log.inverses) (sym same) (subst (IsLogOf schema committed (changes_of items)) (sym undo) are.log);
  logs = λ sub p at.
      subst (λ (is : List Item). IsLogOf schema committed (changes_of (take p.items is)) (take p.mark.undo r.log.inverses)) (sym same)
      (subst (λ (js : List Inverse). IsLogOf schema committed (changes_of (take p.items items)) (take p.mark.undo js)) (sym undo) (are.logs sub p at));
}

pub logs_of : (schema : Schema) (committed : Rows) (xid : ℕ) (r : Record) → (had : HasLogs schema committed xid r)
    → AreLogs schema committed xid r.survivors had.points r.log.inverses
logs_of schema committed xid r had = record { marked = had.marked; log = had.log; logs = had.logs }

-- ---- nothing is done yet

pub logs_at_first : (schema : Schema) (committed : Rows) (xid : ℕ) → AreLogs schema committed xid [] [] []
logs_at_first schema committed xid = record {
  marked = record {
    top_unmarked = refl;
    marked = λ sub p at. cc;
    unmarked = λ sub differs none. refl;
    within = λ sub p at. absurd cc;
    rising = λ sub other p q at there. absurd cc;
  };
  log = no_change committed;
  logs = λ sub p at. absurd cc;
}

-- ---- one more item

module _ (schema : Schema) (committed : Rows) (xid : ℕ) (items : List Item) (points : List (ℕ × CutPoint)) (inverses : List Inverse)
    (are : AreLogs schema committed xid items points inverses) (sub : ℕ) (item : Item) (more : List Inverse)
    (names : (other : ℕ) → is_of other item ≡ (sub == other))
    (named : (other : ℕ) → IsSome (mark_at other points) → IsTrue (list_any (is_of other) items))
    (log : IsLogOf schema committed (changes_of (items ++ item ∷ [])) (inverses ++ more)) where
  longer : length inverses ≤ length (inverses ++ more)
  longer = let long = length-append inverses more in omega arith

  old_log : (other : ℕ) (p : CutPoint) → mark_at other points ≡ Some p
      → IsLogOf schema committed (changes_of (take p.items (items ++ item ∷ []))) (take p.mark.undo (inverses ++ more))
  old_log other p at =
      let within = are.marked.within other p at in
      subst (λ (is : List Item). IsLogOf schema committed (changes_of is) (take p.mark.undo (inverses ++ more))) (sym (take-append-le p.items items (item ∷ []) within.0))
      (subst (IsLogOf schema committed (changes_of (take p.items items))) (sym (take-append-le p.mark.undo inverses more within.1)) (are.logs other p at))

  -- of the top transaction, which needs no savepoint
  pub logs_more_top : sub ≡ xid → AreLogs schema committed xid (items ++ item ∷ []) points (inverses ++ more)
  logs_more_top same = record {
    marked = marked_more xid items points inverses are.marked sub item (inverses ++ more) names (λ differs. absurd (differs same)) (λ other differs some. named other some) longer;
    log = log;
    logs = old_log;
  }

  module _ (mark : Mark) (undo : mark.undo ≡ length inverses) (below : sub ≢ xid) where
    abbrev noted : List (ℕ × CutPoint)
    noted = with_mark sub (record { items = length items; mark = mark }) points

    noted_marked : IsMarked xid items noted inverses
    noted_marked = marked_noted xid items points inverses are.marked sub (record { items = length items; mark = mark }) below refl undo

    has_mark : IsSome (mark_at sub noted)
    has_mark = sym (marked-marks_of sub noted) ∙ noted_there sub (record { items = length items; mark = mark }) points noted refl

    others_named : (other : ℕ) → other ≢ sub → IsSome (mark_at other noted) → IsTrue (list_any (is_of other) items)
    others_named other differs some =
        elim (cases_Bool (is_some (mark_at other points))) [
          | inl was ↦ named other was
          | inr none ↦
              absurd (let still = unmarked_noted_other other sub (record { items = length items; mark = mark }) points (ne_eqb sub other (λ s. differs (sym s))) none in
              let both : true ≡ false = sym some ∙ still in cc)
        ]

    new_log : (other : ℕ) (p : CutPoint) → mark_at other noted ≡ Some p
        → IsLogOf schema committed (changes_of (take p.items (items ++ item ∷ []))) (take p.mark.undo (inverses ++ more))
    new_log other p at =
        elim (noted_or_old sub other (record { items = length items; mark = mark }) p points at) [
          | inr old ↦ old_log other p old
          | inl new ↦
              subst (λ (q : CutPoint). IsLogOf schema committed (changes_of (take q.items (items ++ item ∷ []))) (take q.mark.undo (inverses ++ more))) new.2
              (let whole : take (length items) (items ++ item ∷ []) ≡ items = take-append-le (length items) items (item ∷ []) (omega arith) ∙ take-length items in
              let all : take mark.undo (inverses ++ more) ≡ inverses =
              ap (λ (n : ℕ). take n (inverses ++ more)) undo ∙ take-append-le (length inverses) inverses more (omega arith) ∙ take-length inverses in
              subst (λ (is : List Item). IsLogOf schema committed (changes_of is) (take mark.undo (inverses ++ more))) (sym whole)
              (subst (IsLogOf schema committed (changes_of items)) (sym all) are.log))
        ]

    -- of a subtransaction, which gets a savepoint here if it has none
    pub logs_more_sub : AreLogs schema committed xid (items ++ item ∷ []) noted (inverses ++ more)
    logs_more_sub = record {
      marked = marked_more xid items noted inverses noted_marked sub item (inverses ++ more) names (λ differs. has_mark) others_named longer;
      log = log;
      logs = new_log;
    }

-- ---- a rollback

module _ (schema : Schema) (committed : Rows) (xid : ℕ) (items : List Item) (points : List (ℕ × CutPoint)) (inverses : List Inverse)
    (are : AreLogs schema committed xid items points inverses) (sub : ℕ) where
  pub logs_cut : (p : CutPoint) → mark_at sub points ≡ Some p
      → AreLogs schema committed xid (take p.items items) (before_mark sub points) (take p.mark.undo inverses)
  logs_cut p at =
      let within = are.marked.within sub p at in
      record {
        marked = marked_cut xid items points inverses are.marked sub p (take p.mark.undo inverses) at
            (let long = length-take-le p.mark.undo inverses within.1 in omega arith);
        log = are.logs sub p at;
        logs = λ other q there.
            let lower = are.marked.rising sub other p q at there in
            subst (λ (is : List Item). IsLogOf schema committed (changes_of is) (take q.mark.undo (take p.mark.undo inverses))) (sym (take-take q.items p.items items lower.0))
            (subst (IsLogOf schema committed (changes_of (take q.items items))) (sym (take-take q.mark.undo p.mark.undo inverses lower.1))
            (are.logs other q (marked_before sub other points q there)));
      }

-- ---- others commit

-- of a beginning of the changes
begins : (items : List Item) (n : ℕ) → changes_of items ≡ changes_of (take n items) ++ changes_of (drop n items)
begins items n = ap changes_of (sym (take-append-drop n items)) ∙ changes_of_both (take n items) (drop n items)

module _ (schema : Schema) (rows : Rows) (valid : IsValid schema rows) (xid : ℕ) (items : List Item) (points : List (ℕ × CutPoint)) (inverses : List Inverse)
    (are : AreLogs schema rows xid items points inverses) (others : List change_type.Change)
    (apart : shares_cell (held_cells schema rows (changes_of items)) (held_cells schema rows others) ≡ false) where
  apart_begins : (n : ℕ) → shares_cell (held_cells schema rows (changes_of (take n items))) (held_cells schema rows others) ≡ false
  apart_begins n =
      neither_first _ _
      (sym (shares_append (held_cells schema rows (changes_of (take n items))) (held_cells schema (serial schema rows (changes_of (take n items))) (changes_of (drop n items))) (held_cells schema rows others))
      ∙ ap (λ cells. shares_cell cells (held_cells schema rows others))
      (sym (held_append schema rows (changes_of (take n items)) (changes_of (drop n items))) ∙ ap (held_cells schema rows) (sym (begins items n)))
      ∙ apart)

  pub logs_past : AreLogs schema (serial schema rows others) xid items points inverses
  logs_past = record {
    marked = are.marked;
    log = log_past schema rows valid (changes_of items) others inverses apart are.log;
    logs = λ sub p at. log_past schema rows valid (changes_of (take p.items items)) others (take p.mark.undo inverses) (apart_begins p.items) (are.logs sub p at);
  }
