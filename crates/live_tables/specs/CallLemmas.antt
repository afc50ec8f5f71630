-- The laws of a store's calls, one a call, from what the layers below tell.
use Rattle.std.proofs.Common.{◌≡◌, ℕ, ◌⊎◌, List, [], ◌∷◌, Option, Some, None, refl, sym, ap, subst, ◌∙◌, inl, inr, append-nil}
use Rattle.std.specs.Prelude.{Ok}
use Rattle.std.specs.Ordering.{nat_cmp}
use Rattle.std.specs.FinMap.{get, get-empty}
use Rattle.model.specs.declared.change.Change as change_type
use Rattle.model.specs.declared.cell.Cell.{Cell}
use Rattle.model.specs.declared.item.Item.TheVariants.{Touch}
use Rattle.model.specs.Rows.{Rows, Schema}
use Rattle.model.specs.Effect.{ClashCause, Outcome, Done, Skip, Clashes, Edits, outcome}
use Rattle.model.specs.Footprint.{looked_up, footprint}
use Rattle.model.specs.FootprintLemmas.{looked_up_meets}
use Rattle.model.specs.ValidLemmas.{not_none}
use Rattle.indexes.specs.Content.{Content}
use Rattle.change.specs.declared.inverse.Inverse.{Inverse}
use Rattle.change.specs.Inverse.{IsKnown}
use Rattle.change.specs.Applied.{IsDone as WasDone}
use Rattle.undo.specs.Undo.{CanUndo, AreKnownAll}
use Rattle.undo.specs.UndoLemmas.{schema_undone}
use Rattle.world.specs.World.{Opened, Stop, ByClash, ByHold, World, starting, own_rows, holds, IsHeldBy, IsFree}
use Rattle.world.specs.Live.{Reordered, same}
use Rattle.world.specs.Steps.{Held, Clashed, IsClashing, opened_with, done_with, wanting, opens, acts, touches, stops_held}
use Rattle.world.specs.FineLemmas.{fine_start, fine_step}
use Rattle.world.specs.Fine.{IsFine}
use Rattle.world.specs.WorldLemmas.{no_entries, live_by, live_alone, footprint_live, outcome_live}
use Rattle.live_tables.specs.KeptRecords.{Represents}
use Rattle.live_tables.specs.KeptLemmas.{kept_opened, kept_done, kept_skipped, kept_touched, kept_wanting, kept_refused}
use Rattle.live_tables.specs.EndLemmas.{kept_aborted, kept_committed}
use Rattle.live_tables.specs.BackToLemmas.{can_since, kept_back}
use Rattle.live_tables.specs.Statements.{Records, IsFreeLive, StartIsKept, OpenIsKept, DoneIsKept, SkipIsKept, HeldIsKept, ClashIsKept, TouchIsKept, RefusalIsKept, UndoIsReady, RollbackIsKept, AbortIsKept, CommitIsKept, StopIsKept, RowIsLive, AloneIsCommitted}
use Rattle.live_tables.specs.Held.{AreHolds}

pub start_is_kept : StartIsKept
start_is_kept t records valid none = record {
  schema_is = refl;
  fine = fine_start t.schema t.rows valid;
  live =
      live_by t.schema (starting t.rows) (fine_start t.schema t.rows valid) t.rows []
      (subst (λ (listed : List (ℕ × Opened)). Reordered [] listed) (sym (no_entries (starting t.rows).opened refl)) same) refl;
  ready = λ xid o is. absurd (not_none o (sym (get-empty nat_cmp xid) ∙ is));
  closed = λ xid is. none xid;
}

pub open_is_kept : OpenIsKept
open_is_kept schema t w records kept xid new opened after r put fresh =
    let next = opened_with w xid in
    let fine = fine_step schema w next kept.fine (opens xid (Ok tt) next (opened.0, opened.1, opened.2, refl)) in
    subst (λ (v : World). Represents schema t v after) (sym opened.3)
    (kept_opened schema t w records kept xid after r fine opened.1 put fresh.top fresh.survivors fresh.marks fresh.inverses fresh.named)

-- what was done has its edits
edits_done : (came : Outcome) → WasDone came → (edits : Edits) × (came ≡ Done edits)
edits_done (Done edits) done = (edits, refl)
edits_done Skip done = absurd done
edits_done (Clashes cause) done = absurd done

module _ (schema : Schema) (t : Content) (w : World) (records : Records) (kept : Represents schema t w records) (xid : ℕ) (o : Opened) (is : get w.opened xid ≡ Some o) where
  -- the footprint on the live rows is that on its own view
  own_footprint : (c : change_type.Change) → IsFree schema w xid (looked_up c) → footprint schema t.rows c ≡ footprint schema (own_rows schema w xid o) c
  own_footprint c free_row = footprint_live schema w kept.fine xid o is t.rows kept.live c free_row

  own_free : (c : change_type.Change) → IsFreeLive schema t w xid c → IsFree schema w xid (footprint schema (own_rows schema w xid o) c)
  own_free c free = subst (λ (cells : List Cell). IsFree schema w xid cells) (own_footprint c free.0) free.1

  own_outcome : (c : change_type.Change) → IsFreeLive schema t w xid c → outcome schema t.rows c ≡ outcome schema (own_rows schema w xid o) c
  own_outcome c free = outcome_live schema w kept.fine xid o is t.rows kept.live c (own_free c free)

  own_held : (c : change_type.Change) (holder : ℕ)
      → IsHeldBy schema w xid (looked_up c) holder ⊎ (IsFree schema w xid (looked_up c) × IsHeldBy schema w xid (footprint schema t.rows c) holder)
      → IsHeldBy schema w xid (footprint schema (own_rows schema w xid o) c) holder
  own_held c holder (inl row) = (row.0, row.1, row.2, looked_up_meets schema (own_rows schema w xid o) c (holds schema w holder row.1) row.3)
  own_held c holder (inr all) = subst (λ (cells : List Cell). IsHeldBy schema w xid cells holder) (own_footprint c all.0) all.1

pub done_is_kept : DoneIsKept
done_is_kept schema t w records kept xid o is running sub c free new i applied after s put has =
    let ready = kept.ready xid o is in
    let own = own_free schema t w records kept xid o is c free in
    let came = edits_done (outcome schema (own_rows schema w xid o) c) (subst WasDone (own_outcome schema t w records kept xid o is c free) applied.done) in (
      (running, own, came, refl),
      kept_done schema t w records kept xid o is ready.its ready.tells ready.can sub c running own new i after s has.mark put free.0 applied.schema_is applied.done applied.rows applied.back_is
          applied.alters applied.can_back applied.room ready.tells.named has.undo has.top has.survivors has.marks has.inverses has.named,
    )

pub skip_is_kept : SkipIsKept
skip_is_kept schema t w records kept xid o is running sub c free skips new left after s put has =
    let ready = kept.ready xid o is in
    let own = own_free schema t w records kept xid o is c free in (
      (running, own, sym (own_outcome schema t w records kept xid o is c free) ∙ skips, refl),
      kept_skipped schema t w records kept xid o is ready.its ready.tells ready.can sub c running own new after s has.mark put left.schema_is skips left.rows left.room
          has.undo has.top has.survivors has.marks (has.inverses ∙ append-nil ready.its.log.inverses) has.named,
    )

pub held_is_kept : HeldIsKept
held_is_kept schema t w records kept xid o is running sub c holder held new left after s put has =
    let ready = kept.ready xid o is in
    let meets = own_held schema t w records kept xid o is c holder held in (
      (running, meets, refl),
      kept_wanting schema t w records kept xid o is ready.its ready.tells ready.can sub c w.stopped new after s put
          (fine_step schema w (wanting w xid o sub c) kept.fine (acts xid o sub c (Ok (Held holder)) (wanting w xid o sub c) is (running, meets, refl)))
          left.schema_is left.rows left.room has.top has.survivors has.marks has.inverses has.named,
    )

-- a change that clashes on the live rows, and of which nobody else holds a cell, clashes on its own view
pub clash_on_view : (schema : Schema) (t : Content) (w : World) (records : Records) → Represents schema t w records → (xid : ℕ) (o : Opened) → get w.opened xid ≡ Some o
    → (c : change_type.Change) (cause : ClashCause) → IsFreeLive schema t w xid c → outcome schema t.rows c ≡ Clashes cause → IsClashing schema w xid o c cause
clash_on_view schema t w records kept xid o is c cause free clashes =
    (own_free schema t w records kept xid o is c free, sym (own_outcome schema t w records kept xid o is c free) ∙ clashes)

pub clash_is_kept : ClashIsKept
clash_is_kept schema t w records kept xid o is running sub c cause free clashes new left after s put has =
    let ready = kept.ready xid o is in
    let own = clash_on_view schema t w records kept xid o is c cause free clashes in
    let stopped : World = record (wanting w xid o sub c) { stopped = Some (ByClash xid c cause) } in (
      (running, own.0, own.1, refl),
      kept_wanting schema t w records kept xid o is ready.its ready.tells ready.can sub c (Some (ByClash xid c cause)) new after s put
          (fine_step schema w stopped kept.fine (acts xid o sub c (Ok (Clashed cause)) stopped is (running, own.0, own.1, refl)))
          left.schema_is left.rows left.room has.top has.survivors has.marks has.inverses has.named,
    )

pub touch_is_kept : TouchIsKept
touch_is_kept schema t w records kept xid o is sub new touched after s put has =
    let ready = kept.ready xid o is in
    let next = done_with w xid o (Touch sub) in
    let fine = fine_step schema w next kept.fine (touches xid o sub (Ok tt) next is (touched.0, refl)) in
    subst (λ (v : World). Represents schema t v after) (sym touched.1)
    (kept_touched schema t w records kept xid o is ready.its ready.tells ready.can sub after s has.mark put fine
    has.undo has.top has.survivors has.marks (has.inverses ∙ append-nil ready.its.log.inverses) has.named)

pub refusal_is_kept : RefusalIsKept
refusal_is_kept schema t w records kept xid o is new left after s put has =
    let ready = kept.ready xid o is in
    kept_refused schema t w records kept xid o is ready.its ready.tells ready.can new after s put left.schema_is left.rows left.room has.top has.survivors has.marks has.inverses has.named

pub known_all : (t : Content) (is : List Inverse) → CanUndo t is → AreKnownAll t.schema is
known_all t [] can = tt
known_all t (i ∷ is) can = (subst (λ (s : Schema). IsKnown s i) (schema_undone t is) can.1.known, known_all t is can.0)

pub undo_is_ready : UndoIsReady
undo_is_ready schema t w records kept xid o is =
    let ready = kept.ready xid o is in
    (ready.can, (λ sub. can_since t sub ready.its ready.can), known_all t ready.its.log.inverses ready.can)

pub rollback_is_kept : RollbackIsKept
rollback_is_kept schema t w records kept xid o is sub later goes new after s put back =
    let ready = kept.ready xid o is in
    subst (λ (v : World). Represents schema new v after) (sym goes)
    (kept_back schema t w records kept xid o is ready.its ready.tells ready.can sub new after s put back.schema_is back.top back.named
    back.survivors back.marks back.inverses back.rows back.room)

pub abort_is_kept : AbortIsKept
abort_is_kept schema t w records kept xid o is later aborts new after gone taken =
    let ready = kept.ready xid o is in
    subst (λ (v : World). Represents schema new v after) (sym aborts)
    (kept_aborted schema t w records kept xid o is ready.its ready.tells new after gone taken.schema_is taken.rows taken.room)

pub commit_is_kept : CommitIsKept
commit_is_kept schema t w records kept xid o is info later commits new after gone given =
    let ready = kept.ready xid o is in
    subst (λ (v : World). Represents schema new v after) (sym commits)
    (kept_committed schema t w records kept xid o is ready.its ready.tells new after gone given.schema_is info given.rows given.has_room given.others)

-- a world that differs in what stopped it alone
stopped_kept : (schema : Schema) (t : Content) (w : World) (records : Records) → Represents schema t w records → (stopped : Option Stop)
    → IsFine schema (record w { stopped = stopped }) → Represents schema t (record w { stopped = stopped }) records
stopped_kept schema t w records kept stopped fine = record {
  schema_is = kept.schema_is;
  fine = fine;
  live = kept.live;
  ready = λ xid o is.
      let ready = kept.ready xid o is in
      record {
        its = ready.its;
        found = ready.found;
        tells = record { top = ready.tells.top; survives = ready.tells.survives; named = ready.tells.named; logs = ready.tells.logs };
        can = ready.can;
      };
  closed = kept.closed;
}

pub stop_is_kept : StopIsKept
stop_is_kept schema t w records kept held are sent waiter None new stops =
    (subst (λ (v : World). Represents schema t v records) (sym stops.1) kept, subst (λ (v : World). AreHolds schema v held) (sym stops.1) are)
stop_is_kept schema t w records kept held are sent waiter (Some holder) new stops = (
  subst (λ (v : World). Represents schema t v records) (sym stops.1)
      (stopped_kept schema t w records kept (Some (ByHold waiter holder))
      (subst (IsFine schema) stops.1 (fine_step schema w new kept.fine (stops_held sent waiter (Some holder) new stops)))),
  subst (λ (v : World). AreHolds schema v held) (sym stops.1) (record { its = are.its; none = are.none }),
)

pub row_is_live : RowIsLive
row_is_live schema t w records kept place listing is = ap (λ (r : Rows). get r place) (kept.live listing is)

pub alone_is_committed : AloneIsCommitted
alone_is_committed schema t w records kept none =
    let alone = live_alone schema w kept.fine none t.rows kept.live in
    (alone, alone ∙ kept.fine.serial_commits)
