-- What a store keeps where changes are taken back, and where a transaction ends.
--     kept_back      a rollback of a subtransaction
--     kept_aborted      an abort
--     kept_committed      a commit
use Rattle.std.proofs.Common.{◌≡◌, ◌≢◌, ℕ, false, List, Option, Some, None, map, refl, sym, ap, subst, ◌∙◌, inl, inr}
use Rattle.std.specs.List.{Contains}
use Rattle.std.specs.FinMap as finite
use Rattle.std.specs.FinMap.{get}
use Rattle.model.specs.declared.cell.Cell.{Cell}
use Rattle.model.specs.declared.item.Item.{Item}
use Rattle.model.specs.declared.item.CommitInfo.{CommitInfo}
use Rattle.model.specs.Rows.{Schema}
use Rattle.model.specs.Effect.{all_back}
use Rattle.model.specs.Footprint.{held_cells, shares_cell}
use Rattle.model.specs.Survivors.{changes_of}
use Rattle.model.specs.ValidLemmas.{not_none}
use Rattle.indexes.specs.Content.{Content, KeepsCells}
use Rattle.change.specs.Inverse.{edits_of}
use Rattle.undo.specs.Undo.{content_undone, CanUndo, all_settled}
use Rattle.undo.specs.UndoLemmas.{rows_undone}
use Rattle.undo.specs.Others.{all_needed, StaysInRoom, HasRoomForAll, IsFilled}
use Rattle.undo.specs.OthersLemmas.{CanUndo_past_undo, CanUndo_past_settle}
use Rattle.undo.specs.LogLemmas.{log_valid, log_undone, logs_apart, settled_filled}
use Rattle.savepoint.specs.Record.{Record}
use Rattle.world.specs.World.{Opened, World, work, own_rows, holds}
use Rattle.world.specs.Live.{IsLive}
use Rattle.world.specs.Steps.{aborted_with, committed_with}
use Rattle.world.specs.FineLemmas.{committed_valid, fine_aborted, fine_committed}
use Rattle.world.specs.Fine.{IsFine}
use Rattle.world.specs.ListingLemmas.{xid_cases, gone_same, gone_other}
use Rattle.world.specs.WorldLemmas.{live_aborted, live_committed}
use Rattle.world.specs.BackLemmas.{valid_back, held_live}
use Rattle.live_tables.specs.KeptRecords.{IsRecordOf, Represents, IsPutAt}
use Rattle.live_tables.specs.RecordLemmas.{has_logs, logs_of, logs_past}
use Rattle.live_tables.specs.KeptLemmas.{log_of_work}

module _ (schema : Schema) (t : Content) (w : World) (records : ℕ → Option Record) (kept : Represents schema t w records) where
  -- ---- a transaction is gone

  module _ (xid : ℕ) (next : World) (opened : next.opened ≡ finite.remove w.opened xid) (new : Content) (after : ℕ → Option Record) (gone : IsPutAt records xid None after) where
    kept_gone : new.schema ≡ schema → IsFine schema next → IsLive schema next new.rows
        → ((other : ℕ) (p : Opened) (s : Record) → other ≢ xid → get w.opened other ≡ Some p → IsRecordOf schema w other p s → CanUndo t s.log.inverses
        → IsRecordOf schema next other p s × CanUndo new s.log.inverses)
        → Represents schema new next after
    kept_gone schema_is fine live others = record {
      schema_is = schema_is;
      fine = fine;
      live = live;
      ready = λ other p at.
          let there : get (finite.remove w.opened xid) other ≡ Some p = ap (λ m. get m other) (sym opened) ∙ at in
          elim (xid_cases other xid) [
            | inl is ↦ absurd (not_none p (sym (gone_same w.opened xid) ∙ ap (get (finite.remove w.opened xid)) (sym is) ∙ there))
            | inr differs ↦
                let was : get w.opened other ≡ Some p = sym (gone_other w.opened xid other differs) ∙ there in
                let before = kept.ready other p was in
                let still = others other p before.its differs was before.tells before.can in
                record { its = before.its; found = gone.beside other differs ∙ before.found; tells = still.0; can = still.1 }
          ];
      closed = λ other none.
          elim (xid_cases other xid) [
            | inl is ↦ ap after is ∙ gone.here
            | inr differs ↦
                gone.beside other differs
                ∙ kept.closed other (sym (gone_other w.opened xid other differs) ∙ ap (λ m. get m other) (sym opened) ∙ none)
          ];
    }

  module _ (xid : ℕ) (o : Opened) (is : get w.opened xid ≡ Some o) (r : Record) (tells : IsRecordOf schema w xid o r) (new : Content) (after : ℕ → Option Record)
      (gone : IsPutAt records xid None after) (schema_is : new.schema ≡ schema) where
    schemas : new.schema ≡ t.schema
    schemas = schema_is ∙ sym kept.schema_is

    -- ---- an abort

    module _ (rows : new.rows ≡ all_back t.rows (map edits_of r.log.inverses)) (room : KeepsCells (content_undone t r.log.inverses).room new.room) where
      abbrev then_aborted : World
      then_aborted = aborted_with w xid

      undone : new.rows ≡ (content_undone t r.log.inverses).rows
      undone = rows ∙ sym (rows_undone t r.log.inverses)

      live_after : IsLive schema then_aborted new.rows
      live_after =
          subst (IsLive schema then_aborted)
          (sym (undone ∙ log_undone schema t w.committed (work xid o) r.log.inverses (log_of_work schema w xid o r tells)))
          (live_aborted schema w kept.fine t.rows kept.live xid o is (fine_aborted schema w kept.fine xid))

      pub kept_aborted : Represents schema new then_aborted after
      kept_aborted =
          kept_gone xid then_aborted refl new after gone schema_is (fine_aborted schema w kept.fine xid) live_after
          (λ other p s differs at theirs can. (
            record { top = theirs.top; survives = theirs.survives; named = theirs.named; logs = theirs.logs },
            CanUndo_past_undo t new s.log.inverses r.log.inverses schemas undone room
                (logs_apart schema w.committed (work other p) (work xid o) s.log.inverses r.log.inverses (kept.fine.apart other xid p o differs at is)
                (log_of_work schema w other p s theirs) (log_of_work schema w xid o r tells))
                (log_valid schema new schema_is w.committed (work other p) s.log.inverses (log_of_work schema w other p s theirs)
                (valid_back schema then_aborted (fine_aborted schema w kept.fine xid) other p (gone_other w.opened xid other differs ∙ at) new.rows live_after))
                can,
          ))

    -- ---- a commit

    module _ (info : CommitInfo) (rows : new.rows ≡ t.rows) (all_room : HasRoomForAll new)
        (stays : (cell : Cell) → ¬ Contains (all_settled t.schema r.log.inverses) cell → StaysInRoom t new cell) where
      abbrev then_committed : World
      then_committed = committed_with schema w xid o info

      apart_from : (other : ℕ) (p : Opened) → other ≢ xid → get w.opened other ≡ Some p → shares_cell (holds schema w other p) (holds schema w xid o) ≡ false
      apart_from other p differs at = kept.fine.apart other xid p o differs at is

      tells_past : (other : ℕ) (p : Opened) (s : Record) → other ≢ xid → get w.opened other ≡ Some p → IsRecordOf schema w other p s → IsRecordOf schema then_committed other p s
      tells_past other p s differs at theirs = record {
        top = theirs.top;
        survives = theirs.survives;
        named = theirs.named;
        logs =
            has_logs schema (own_rows schema w xid o) other s.survivors theirs.logs.points s.log.inverses
            (logs_past schema w.committed (committed_valid schema w kept.fine) other s.survivors theirs.logs.points s.log.inverses (logs_of schema w.committed other s theirs.logs) (work xid o)
            (ap (λ (js : List Item). shares_cell (held_cells schema w.committed (changes_of js)) (holds schema w xid o)) theirs.survives ∙ apart_from other p differs at))
            s refl theirs.logs.marks refl;
      }

      filled : (other : ℕ) (p : Opened) (s : Record) → other ≢ xid → get w.opened other ≡ Some p → IsRecordOf schema w other p s
          → (cell : Cell) → Contains (all_needed t.schema s.log.inverses) cell → Contains (all_settled t.schema r.log.inverses) cell → IsFilled t.schema t.rows cell
      filled other p s differs at theirs =
          subst (λ (d : Schema). (cell : Cell) → Contains (all_needed d s.log.inverses) cell → Contains (all_settled d r.log.inverses) cell → IsFilled d t.rows cell) (sym kept.schema_is)
          (settled_filled schema w.committed t.rows (work other p) (work xid o) s.log.inverses r.log.inverses (committed_valid schema w kept.fine)
          (log_of_work schema w other p s theirs) (log_of_work schema w xid o r tells)
          (held_live schema w kept.fine other p at t.rows kept.live) (held_live schema w kept.fine xid o is t.rows kept.live) (apart_from other p differs at))

      pub kept_committed : Represents schema new then_committed after
      kept_committed =
          let fine = fine_committed schema w kept.fine xid o info is in
          kept_gone xid then_committed refl new after gone schema_is fine
          (subst (IsLive schema then_committed) (sym rows) (live_committed schema w kept.fine t.rows kept.live xid o is info fine))
          (λ other p s differs at theirs can. (
            tells_past other p s differs at theirs,
            CanUndo_past_settle t new s.log.inverses r.log.inverses schemas rows all_room stays (filled other p s differs at theirs) can,
          ))
