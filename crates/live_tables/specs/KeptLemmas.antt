-- What a store keeps through each call.
--     kept_put      a transaction has done or wants something
--     kept_opened      a transaction opens
--     kept_done, kept_skipped, kept_touched, kept_wanting      an item of it, and a change that it wants
--     kept_refused      a call that is refused
use Rattle.std.proofs.Common.{◌≡◌, ◌≢◌, ℕ, ◌==◌, List, [], ◌∷◌, ◌++◌, length, Option, Some, None, is_some, refl, sym, ap, subst, ◌∙◌, inl, inr, append-nil}
use Rattle.std.specs.Prelude.{Ok}
use Rattle.std.specs.List.{list_any}
use Rattle.std.specs.FinMap as finite
use Rattle.std.specs.FinMap.{get}
use Rattle.std.proofs.lemmas.Bool.{cases_eq, eq-eqb, ne_eqb}
use Rattle.std.specs.Prelude.{IsSome, IsTrue, if◌then◌else◌}
use Rattle.model.specs.declared.change.Change as change_type
use Rattle.model.specs.declared.cell.Cell.{Cell}
use Rattle.model.specs.declared.item.Item.{Item}
use Rattle.model.specs.declared.item.Item.TheVariants.{Change, Touch}
use Rattle.model.specs.Rows.{Rows, Schema}
use Rattle.model.specs.Effect.{Outcome, Done, Skip, Clashes, outcome, effect, inverse, back, serial}
use Rattle.model.specs.EffectLemmas.{back_of_inverse, effect_skipped}
use Rattle.model.specs.Footprint.{looked_up, footprint}
use Rattle.model.specs.OverlapLemmas.{shares_either_way}
use Rattle.model.specs.Survivors.{is_of, survivors, changes_of}
use Rattle.model.specs.SurvivorLemmas.{survivors_with, changes_of_both}
use Rattle.model.specs.ValidLemmas.{not_none}
use Rattle.indexes.specs.Content.{Content, KeepsCells}
use Rattle.change.specs.declared.inverse.Inverse.{Inverse}
use Rattle.change.specs.Inverse.{edits_of, room_back, CanPutBack}
use Rattle.change.specs.Altered.{cells_altered}
use Rattle.change.specs.Applied.{IsDone as WasDone}
use Rattle.undo.specs.Undo.{CanUndo}
use Rattle.undo.specs.UndoLemmas.{CanUndo_keeps, CanUndo_applied}
use Rattle.undo.specs.Others.{all_altered}
use Rattle.undo.specs.OthersLemmas.{CanUndo_past_change}
use Rattle.undo.specs.LogOf.{IsLogOf}
use Rattle.undo.specs.LogLemmas.{log_valid, log_altered, log_more_done, log_more_skipped, apart_of_fewer}
use Rattle.savepoint.specs.declared.mark.Mark.{Mark}
use Rattle.savepoint.specs.Savepoints.{mark_at, with_mark}
use Rattle.savepoint.specs.Record.{Record, with_mark_unless_top, AllAreNamed}
use Rattle.savepoint.proofs.Marked.{marked-marks_of, with_mark-marks_of}
use Rattle.world.specs.World.{Opened, Stop, World, work, own_rows, holds, IsFree}
use Rattle.world.specs.Live.{IsLive}
use Rattle.world.specs.Steps.{IsDone, IsSkipped, opened_with, done_with, wanting, acts}
use Rattle.world.specs.FineLemmas.{fine_step, put_cases}
use Rattle.world.specs.Fine.{IsFine}
use Rattle.world.specs.ListingLemmas.{xid_cases, got_same, got_other}
use Rattle.world.specs.WorldLemmas.{footprint_live, outcome_live, inverse_live, live_opened, live_acted, live_touched, live_wanting}
use Rattle.world.specs.BackLemmas.{valid_back}
use Rattle.live_tables.specs.KeptRecords.{HasLogs, IsRecordOf, IsReady, Represents, IsPutAt}
use Rattle.live_tables.specs.RecordLemmas.{has_logs, logs_of, logs_at_first, logs_more_top, logs_more_sub}

-- the log of an open transaction's work
pub log_of_work : (schema : Schema) (w : World) (xid : ℕ) (o : Opened) (r : Record) → IsRecordOf schema w xid o r
    → IsLogOf schema w.committed (work xid o) r.log.inverses
log_of_work schema w xid o r tells =
    subst (λ (is : List Item). IsLogOf schema w.committed (changes_of is) r.log.inverses) tells.survives tells.logs.log

module _ (schema : Schema) (t : Content) (w : World) (records : ℕ → Option Record) (kept : Represents schema t w records) where
  -- with the same rows and more room, what could be undone can be
  pub same_rows_can : (new : Content) → new.schema ≡ schema → new.rows ≡ t.rows → KeepsCells t.room new.room
      → (js : List Inverse) → CanUndo t js → CanUndo new js
  same_rows_can new schema_is rows room js can_js = CanUndo_keeps t new (kept.schema_is ∙ sym schema_is) (sym rows) room js can_js

  -- ---- one transaction has another record, the committed rows stay

  module _ (xid : ℕ) (o : Opened) (stopped : Option Stop) (new : Content) (after : ℕ → Option Record) (r : Record) (put : IsPutAt records xid (Some r) after) where
    abbrev next : World
    next = record w { opened = finite.insert w.opened xid o; stopped = stopped }

    pub kept_put : new.schema ≡ schema → IsFine schema next → IsLive schema next new.rows → IsRecordOf schema next xid o r
        → CanUndo new r.log.inverses
        → ((other : ℕ) (p : Opened) (s : Record) → other ≢ xid → get w.opened other ≡ Some p → IsRecordOf schema w other p s → CanUndo t s.log.inverses → CanUndo new s.log.inverses)
        → Represents schema new next after
    kept_put schema_is fine live tells can others = record {
      schema_is = schema_is;
      fine = fine;
      live = live;
      ready = λ other p at.
          elim (put_cases w.opened xid o other p at) [
            | inl is ↦
                subst (λ (n : ℕ). IsReady schema new next after n p) (sym is.0)
                (subst (λ (q : Opened). IsReady schema new next after xid q) (sym is.1) (record { its = r; found = put.here; tells = tells; can = can }))
            | inr was ↦
                let before = kept.ready other p was.1 in
                record {
                  its = before.its;
                  found = put.beside other was.0 ∙ before.found;
                  tells = record { top = before.tells.top; survives = before.tells.survives; named = before.tells.named; logs = before.tells.logs };
                  can = others other p before.its was.0 was.1 before.tells before.can;
                }
          ];
      closed = λ other none.
          elim (xid_cases other xid) [
            | inl is ↦ absurd (not_none o (sym none ∙ ap (get next.opened) is ∙ got_same w.opened xid o))
            | inr differs ↦ put.beside other differs ∙ kept.closed other (sym (got_other w.opened xid o other differs) ∙ none)
          ];
    }

  -- ---- a transaction opens

  pub kept_opened : (xid : ℕ) (after : ℕ → Option Record) (r : Record) → IsFine schema (opened_with w xid) → get w.opened xid ≡ None → IsPutAt records xid (Some r) after
      → r.top ≡ xid → r.survivors ≡ [] → r.marks ≡ [] → r.log.inverses ≡ [] → AllAreNamed r → Represents schema t (opened_with w xid) after
  kept_opened xid after r fine absent put top none unmarked nothing named =
      kept_put xid (record { items = []; wants = None }) w.stopped t after r put kept.schema_is fine
      (live_opened schema w kept.fine t.rows kept.live xid absent fine)
      (record {
        top = top;
        survives = none;
        named = named;
        logs = has_logs schema w.committed xid [] [] [] (logs_at_first schema w.committed xid) r none unmarked nothing;
      })
      (subst (CanUndo t) (sym nothing) tt) (λ other p s differs at tells can. can)

  -- ---- a call of an open transaction

  module _ (xid : ℕ) (o : Opened) (is : get w.opened xid ≡ Some o) (r : Record) (tells : IsRecordOf schema w xid o r) (can : CanUndo t r.log.inverses) where
    -- its record tells the same
    pub tells_same : (stopped : Option Stop) (wants : Option (ℕ × change_type.Change)) (s : Record) → s.top ≡ r.top → s.survivors ≡ r.survivors → s.marks ≡ r.marks
        → s.log.inverses ≡ r.log.inverses → AllAreNamed s → (later : World) → later.committed ≡ w.committed
        → IsRecordOf schema later xid (record { items = o.items; wants = wants }) s
    tells_same stopped wants s top survivors_are marks undo named later committed = record {
      top = top ∙ tells.top;
      survives = survivors_are ∙ tells.survives;
      named = named;
      logs = subst (λ (rows : Rows). HasLogs schema rows xid s) (sym committed)
          (has_logs schema w.committed xid r.survivors tells.logs.points r.log.inverses (logs_of schema w.committed xid r tells.logs) s survivors_are (marks ∙ tells.logs.marks) undo);
    }

    -- one more item, whose subtransaction has a savepoint
    pub tells_more : (sub : ℕ) (item : Item) (more : List Inverse) (mark : Mark) (s : Record) → ((other : ℕ) → is_of other item ≡ (sub == other))
        → survivors xid (o.items ++ item ∷ []) ≡ survivors xid o.items ++ item ∷ [] → mark.undo ≡ length r.log.inverses
        → AllAreNamed r → s.top ≡ r.top → s.survivors ≡ r.survivors ++ item ∷ [] → s.marks ≡ with_mark_unless_top xid sub mark r.marks
        → s.log.inverses ≡ r.log.inverses ++ more → AllAreNamed s
        → IsLogOf schema w.committed (changes_of (r.survivors ++ item ∷ [])) (r.log.inverses ++ more) → (later : World) → later.committed ≡ w.committed
        → IsRecordOf schema later xid (record { items = o.items ++ item ∷ []; wants = None }) s
    tells_more sub item more mark s names after undo_at named top survivors_are marks undo named_after log later committed = record {
      top = top ∙ tells.top;
      survives = survivors_are ∙ ap (λ (js : List Item). js ++ item ∷ []) tells.survives ∙ sym after;
      named = named_after;
      logs = subst (λ (rows : Rows). HasLogs schema rows xid s) (sym committed) by_sub;
    }
      where
        points_named : (other : ℕ) → IsSome (mark_at other tells.logs.points) → IsTrue (list_any (is_of other) r.survivors)
        points_named other some =
            named other (ap (λ (ms : List (ℕ × Mark)). is_some (mark_at other ms)) tells.logs.marks ∙ marked-marks_of other tells.logs.points ∙ some)

        by_sub : HasLogs schema w.committed xid s
        by_sub =
            elim (cases_eq sub xid) [
              | inl same ↦
                  has_logs schema w.committed xid (r.survivors ++ item ∷ []) tells.logs.points (r.log.inverses ++ more)
                  (logs_more_top schema w.committed xid r.survivors tells.logs.points r.log.inverses (logs_of schema w.committed xid r tells.logs) sub item more names points_named log same)
                  s survivors_are
                  (marks ∙ ap (λ b. if b then r.marks else with_mark sub mark r.marks) (eq-eqb sub xid same) ∙ tells.logs.marks) undo
              | inr below ↦
                  has_logs schema w.committed xid (r.survivors ++ item ∷ []) (with_mark sub (record { items = length r.survivors; mark = mark }) tells.logs.points) (r.log.inverses ++ more)
                  (logs_more_sub schema w.committed xid r.survivors tells.logs.points r.log.inverses (logs_of schema w.committed xid r tells.logs) sub item more names points_named log mark undo_at below)
                  s survivors_are
                  (marks ∙ ap (λ b. if b then r.marks else with_mark sub mark r.marks) (ne_eqb sub xid below) ∙ ap (with_mark sub mark) tells.logs.marks
                  ∙ sym (with_mark-marks_of sub (record { items = length r.survivors; mark = mark }) tells.logs.points)) undo
            ]

    -- ---- its change is done

    done_edits : (came : Outcome) → WasDone came → (edits : _) × (came ≡ Done edits)
    done_edits (Done edits) done = (edits, refl)
    done_edits Skip done = absurd done
    done_edits (Clashes cause) done = absurd done

    module _ (sub : ℕ) (c : change_type.Change) (running : w.stopped ≡ None) (free : IsFree schema w xid (footprint schema (own_rows schema w xid o) c)) where
      own_is : own_rows schema w xid o ≡ serial schema w.committed (changes_of r.survivors)
      own_is = ap (λ (js : List Item). serial schema w.committed (changes_of js)) (sym tells.survives)

      module _ (new : Content) (i : Inverse) (after : ℕ → Option Record) (s : Record) (mark : Mark) (put : IsPutAt records xid (Some s) after)
          (free_row : IsFree schema w xid (looked_up c)) (schema_is : new.schema ≡ schema) (done : WasDone (outcome schema t.rows c)) (rows : new.rows ≡ effect schema t.rows c)
          (back_is : edits_of i ≡ inverse schema t.rows c) (alters : KeepsCells (cells_altered i) (footprint schema t.rows c)) (can_back : CanPutBack new i)
          (room : KeepsCells t.room (room_back new.room i)) where
        abbrev then_done : World
        then_done = done_with w xid o (Change sub c)

        fine_done : IsFine schema then_done
        fine_done =
            let came = done_edits (outcome schema (own_rows schema w xid o) c) (subst WasDone (outcome_live schema w kept.fine xid o is t.rows kept.live c free) done) in
            fine_step schema w then_done kept.fine (acts xid o sub c (Ok IsDone) then_done is (running, free, came, refl))

        live_done : IsLive schema then_done new.rows
        live_done = subst (IsLive schema then_done) (sym rows) (live_acted schema w kept.fine t.rows kept.live xid o is sub c free fine_done)

        schemas : new.schema ≡ t.schema
        schemas = schema_is ∙ sym kept.schema_is

        undone : back new.rows (edits_of i) ≡ t.rows
        undone =
            ap (λ (q : Rows). back q (edits_of i)) rows ∙ ap (back (effect schema t.rows c)) back_is ∙ back_of_inverse schema t.rows c

        same_cells : footprint schema t.rows c ≡ footprint schema (own_rows schema w xid o) c
        same_cells = footprint_live schema w kept.fine xid o is t.rows kept.live c free_row

        log_done : IsLogOf schema w.committed (changes_of r.survivors ++ c ∷ []) (r.log.inverses ++ i ∷ [])
        log_done =
            log_more_done schema w.committed (changes_of r.survivors) r.log.inverses c i tells.logs.log
            (subst (λ (q : Rows). WasDone (outcome schema q c)) own_is (subst WasDone (outcome_live schema w kept.fine xid o is t.rows kept.live c free) done))
            (back_is ∙ inverse_live schema w kept.fine xid o is t.rows kept.live c free ∙ ap (λ (q : Rows). inverse schema q c) own_is)
            (subst (λ (cells : List Cell). KeepsCells (cells_altered i) cells) (same_cells ∙ ap (λ (q : Rows). footprint schema q c) own_is) alters)

        others_done : (other : ℕ) (p : Opened) (q : Record) → other ≢ xid → get w.opened other ≡ Some p → IsRecordOf schema w other p q
            → CanUndo t q.log.inverses → CanUndo new q.log.inverses
        others_done other p q differs at theirs their_can =
            CanUndo_past_change t new q.log.inverses i schemas undone room
            (apart_of_fewer (all_altered q.log.inverses) (holds schema w other p) (cells_altered i) (footprint schema (own_rows schema w xid o) c)
            (log_altered schema w.committed (work other p) q.log.inverses (log_of_work schema w other p q theirs))
            (subst (λ (cells : List Cell). KeepsCells (cells_altered i) cells) same_cells alters)
            (shares_either_way (footprint schema (own_rows schema w xid o) c) (holds schema w other p) (free other p differs at)))
            (log_valid schema new schema_is w.committed (work other p) q.log.inverses (log_of_work schema w other p q theirs)
            (valid_back schema then_done fine_done other p
            (got_other w.opened xid (record { items = o.items ++ Change sub c ∷ []; wants = None }) other differs ∙ at) new.rows live_done))
            their_can

        pub kept_done : AllAreNamed r → mark.undo ≡ length r.log.inverses → s.top ≡ r.top → s.survivors ≡ r.survivors ++ Change sub c ∷ []
            → s.marks ≡ with_mark_unless_top xid sub mark r.marks → s.log.inverses ≡ r.log.inverses ++ i ∷ [] → AllAreNamed s
            → Represents schema new then_done after
        kept_done named undo_at top survivors_are marks undo named_after =
            kept_put xid (record { items = o.items ++ Change sub c ∷ []; wants = None }) w.stopped new after s put schema_is fine_done live_done
            (tells_more sub (Change sub c) (i ∷ []) mark s (λ other. refl) (survivors_with xid o.items (Change sub c)) undo_at named top survivors_are marks undo named_after
            (subst (λ cs. IsLogOf schema w.committed cs (r.log.inverses ++ i ∷ [])) (sym (changes_of_both r.survivors (Change sub c ∷ []))) log_done) then_done refl)
            (subst (CanUndo new) (sym undo) (CanUndo_applied t new r.log.inverses i schemas undone room can_back can))
            others_done

      -- ---- no row is there for it

      module _ (new : Content) (after : ℕ → Option Record) (s : Record) (mark : Mark) (put : IsPutAt records xid (Some s) after)
          (schema_is : new.schema ≡ schema) (skips : outcome schema t.rows c ≡ Skip) (rows : new.rows ≡ t.rows) (room : KeepsCells t.room new.room) where
        abbrev then_skipped : World
        then_skipped = done_with w xid o (Change sub c)

        fine_skipped : IsFine schema then_skipped
        fine_skipped =
            fine_step schema w then_skipped kept.fine
            (acts xid o sub c (Ok IsSkipped) then_skipped is (running, free, sym (outcome_live schema w kept.fine xid o is t.rows kept.live c free) ∙ skips, refl))

        live_skipped : IsLive schema then_skipped new.rows
        live_skipped =
            subst (IsLive schema then_skipped) (effect_skipped schema t.rows c skips ∙ sym rows)
            (live_acted schema w kept.fine t.rows kept.live xid o is sub c free fine_skipped)

        pub kept_skipped : mark.undo ≡ length r.log.inverses → s.top ≡ r.top → s.survivors ≡ r.survivors ++ Change sub c ∷ []
            → s.marks ≡ with_mark_unless_top xid sub mark r.marks → s.log.inverses ≡ r.log.inverses → AllAreNamed s → Represents schema new then_skipped after
        kept_skipped undo_at top survivors_are marks undo named_after =
            kept_put xid (record { items = o.items ++ Change sub c ∷ []; wants = None }) w.stopped new after s put schema_is fine_skipped live_skipped
            (tells_more sub (Change sub c) [] mark s (λ other. refl) (survivors_with xid o.items (Change sub c)) undo_at tells.named top survivors_are marks
            (undo ∙ sym (append-nil r.log.inverses)) named_after
            (subst (λ (js : List Inverse). IsLogOf schema w.committed (changes_of (r.survivors ++ Change sub c ∷ [])) js) (sym (append-nil r.log.inverses))
            (subst (λ cs. IsLogOf schema w.committed cs r.log.inverses) (sym (changes_of_both r.survivors (Change sub c ∷ [])))
            (log_more_skipped schema w.committed (changes_of r.survivors) r.log.inverses c tells.logs.log
            (ap (λ (q : Rows). outcome schema q c) (sym own_is) ∙ sym (outcome_live schema w kept.fine xid o is t.rows kept.live c free) ∙ skips))))
            then_skipped refl)
            (subst (CanUndo new) (sym undo) (same_rows_can new schema_is rows room r.log.inverses can))
            (λ other p q differs at theirs their_can. same_rows_can new schema_is rows room q.log.inverses their_can)

    -- ---- what changes no row

    pub kept_touched : (sub : ℕ) (after : ℕ → Option Record) (s : Record) (mark : Mark) → IsPutAt records xid (Some s) after → IsFine schema (done_with w xid o (Touch sub))
        → mark.undo ≡ length r.log.inverses → s.top ≡ r.top → s.survivors ≡ r.survivors ++ Touch sub ∷ [] → s.marks ≡ with_mark_unless_top xid sub mark r.marks
        → s.log.inverses ≡ r.log.inverses → AllAreNamed s → Represents schema t (done_with w xid o (Touch sub)) after
    kept_touched sub after s mark put fine undo_at top survivors_are marks undo named_after =
        let next = done_with w xid o (Touch sub) in
        kept_put xid (record { items = o.items ++ Touch sub ∷ []; wants = None }) w.stopped t after s put kept.schema_is fine
        (live_touched schema w kept.fine t.rows kept.live xid o is sub fine)
        (tells_more sub (Touch sub) [] mark s (λ other. refl) (survivors_with xid o.items (Touch sub)) undo_at tells.named top survivors_are marks
        (undo ∙ sym (append-nil r.log.inverses)) named_after
        (subst (λ (js : List Inverse). IsLogOf schema w.committed (changes_of (r.survivors ++ Touch sub ∷ [])) js) (sym (append-nil r.log.inverses))
        (subst (λ cs. IsLogOf schema w.committed cs r.log.inverses) (sym (changes_of_both r.survivors (Touch sub ∷ []) ∙ append-nil (changes_of r.survivors))) tells.logs.log))
        next refl)
        (subst (CanUndo t) (sym undo) can) (λ other p q differs at theirs their_can. their_can)

    -- a change that it wants, and has not done; a refusal may have left more room
    pub kept_wanting : (sub : ℕ) (c : change_type.Change) (stopped : Option Stop) (new : Content) (after : ℕ → Option Record) (s : Record) → IsPutAt records xid (Some s) after
        → IsFine schema (record (wanting w xid o sub c) { stopped = stopped }) → new.schema ≡ schema → new.rows ≡ t.rows → KeepsCells t.room new.room
        → s.top ≡ r.top → s.survivors ≡ r.survivors → s.marks ≡ r.marks → s.log.inverses ≡ r.log.inverses → AllAreNamed s
        → Represents schema new (record (wanting w xid o sub c) { stopped = stopped }) after
    kept_wanting sub c stopped new after s put fine schema_is rows room top survivors_are marks undo named_after =
        let next = record (wanting w xid o sub c) { stopped = stopped } in
        kept_put xid (record o { wants = Some (sub, c) }) stopped new after s put schema_is fine
        (subst (IsLive schema next) (sym rows) (live_wanting schema w kept.fine t.rows kept.live xid o is sub c stopped fine))
        (tells_same stopped (Some (sub, c)) s top survivors_are marks undo named_after next refl)
        (subst (CanUndo new) (sym undo) (same_rows_can new schema_is rows room r.log.inverses can))
        (λ other p q differs at theirs their_can. same_rows_can new schema_is rows room q.log.inverses their_can)

    -- a call that is refused leaves what it had noted, and perhaps more room
    pub kept_refused : (new : Content) (after : ℕ → Option Record) (s : Record) → IsPutAt records xid (Some s) after
        → new.schema ≡ schema → new.rows ≡ t.rows → KeepsCells t.room new.room
        → s.top ≡ r.top → s.survivors ≡ r.survivors → s.marks ≡ r.marks → s.log.inverses ≡ r.log.inverses → AllAreNamed s → Represents schema new w after
    kept_refused new after s put schema_is rows room top survivors_are marks undo named_after = record {
      schema_is = schema_is;
      fine = kept.fine;
      live = subst (IsLive schema w) (sym rows) kept.live;
      ready = λ other p at.
          elim (xid_cases other xid) [
            | inl same ↦
                let one : Some p ≡ Some o = sym at ∙ ap (get w.opened) same ∙ is in
                let same_one : p ≡ o = cc in
                subst (λ (n : ℕ). IsReady schema new w after n p) (sym same)
                (subst (λ (q : Opened). IsReady schema new w after xid q) (sym same_one)
                (record {
                  its = s;
                  found = put.here;
                  tells = tells_same w.stopped o.wants s top survivors_are marks undo named_after w refl;
                  can = subst (CanUndo new) (sym undo) (same_rows_can new schema_is rows room r.log.inverses can);
                }))
            | inr differs ↦
                let before = kept.ready other p at in
                record {
                  its = before.its;
                  found = put.beside other differs ∙ before.found;
                  tells = before.tells;
                  can = same_rows_can new schema_is rows room before.its.log.inverses before.can;
                }
          ];
      closed = λ other none.
          elim (xid_cases other xid) [
            | inl same ↦ absurd (not_none o (sym none ∙ ap (get w.opened) same ∙ is))
            | inr differs ↦ put.beside other differs ∙ kept.closed other none
          ];
    }
