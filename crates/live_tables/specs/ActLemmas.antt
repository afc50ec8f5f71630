-- A store stays tied through a change that is tried: each outcome as one lemma, from what the layers below tell.
--     has_stopped, runs      what stopped a store stopped its world
--     free_again      what is free of a change is free of it again, once nothing came of it
--     tied_done, tied_skipped, tied_taken      it is an item of its transaction
--     after_refusal, refusal_caused, refusal_told      a change that clashed, or for which memory was refused
--     tied_waiting, tied_waits, tied_stops      its transaction wants it
--     tied_refused      nothing came of it
use Rattle.std.proofs.Common.{◌≡◌, ◌≢◌, ℕ, ◌⊎◌, ◌≤◌, ◌++◌, ◌∷◌, [], Bool, true, false, List, length, take, Option, Some, None, refl, sym, ap, subst, ◌∙◌, inl, inr, arith, length-append}
use Rattle.std.specs.Prelude.{Ok, Err, ◌↔◌, IfSome, IsSome, ◌==◌, if◌then◌else◌}
use Rattle.std.specs.Map.{keys_of}
use Rattle.std.specs.List.{Contains}
use Rattle.std.specs.FinMap as finite
use Rattle.std.specs.FinMap.{FinMap, get}
use Rattle.std.specs.Ordering.{nat_cmp}
use Rattle.std.proofs.lemmas.List.{length-take}
use Rattle.std.proofs.lemmas.Map.Entries.{length-keys_of}
use Rattle.model.specs.declared.cell.Cell.{Cell}
use Rattle.model.specs.declared.change.Change as change_type
use Rattle.model.specs.declared.item.Item.{Item}
use Rattle.model.specs.declared.item.Item.TheVariants.{Change}
use Rattle.model.specs.Rows.{Rows, Schema}
use Rattle.model.specs.Survivors.{is_of}
use Rattle.model.specs.Named.{NamesTables}
use Rattle.model.specs.Effect.{ClashCause, Clashes, Unique, NullKey, outcome}
use Rattle.model.specs.Footprint.{looked_up, footprint}
use Rattle.change.specs.declared.inverse.Inverse.{Inverse}
use Rattle.change.specs.declared.outcome.Clash as clash_type
use Rattle.change.specs.declared.outcome.Clash.TheVariants.{Unique as UniqueClash, NullKey as NullKeyClash, OutOfMemory as NoMemoryClash}
use Rattle.change.specs.Applied.{AnswersOutcome}
use Rattle.indexes.specs.Content.{Content}
use Rattle.keyholds.specs.Holds.{holds_of, cells_held, with_holds}
use Rattle.savepoint.specs.Record.{Record}
use Rattle.world.specs.World.{Opened, Stop, ByClash, World, IsHeldBy, IsFree}
use Rattle.world.specs.Steps.{Acts, IsClashing, IsDone, IsSkipped, Held, Clashed, acts, done_with, wanting}
use Rattle.world.specs.FineLemmas.{fine_step, fine_wanting}
use Rattle.world.specs.ListingLemmas.{xid_cases, got_same, got_other, same_by_xid}
use Rattle.world.specs.WorldLemmas.{footprint_live}
use Rattle.live_tables.specs.declared.live_tables.Live.{Live}
use Rattle.live_tables.specs.declared.live_tables.Stopped as stopped_type
use Rattle.live_tables.specs.declared.live_tables.Stopped.TheVariants.{Clash as StoppedByClash, Held as StoppedByHold}
use Rattle.live_tables.specs.declared.before_image.BeforeImage.{BeforeImage}
use Rattle.live_tables.specs.declared.transaction.OpenTransaction.{OpenTransaction}
use Rattle.live_tables.specs.Answers.{cause_of, told_stop, stop_for, HasCause, verdict_of, TellsVerdict}
use Rattle.live_tables.specs.Tried.{HasClash, Tries, after_try}
use Rattle.live_tables.specs.Cells.{IsFreeOf, IsHeldIn}
use Rattle.live_tables.specs.Held.{AreHolds, HasHeldMarks}
use Rattle.live_tables.specs.CallResults.{HasSameRows, HasTheSame}
use Rattle.live_tables.specs.KeptRecords.{IsReady, Represents as RecordsRepresent, IsPutAt}
use Rattle.live_tables.specs.Statements.{IsFreeLive}
use Rattle.live_tables.specs.KeptLemmas.{kept_wanting}
use Rattle.live_tables.specs.CallLemmas.{done_is_kept, skip_is_kept, held_is_kept, clash_on_view, refusal_is_kept}
use Rattle.live_tables.specs.HoldsLemmas.{holds_tell_the_world, taken_is_held, same_is_held}
use Rattle.live_tables.specs.MarkedHoldsLemmas.{item_keeps_marks}
use Rattle.live_tables.specs.MarksLemmas.{marks_same}
use Rattle.live_tables.specs.Transactions.{WaitsNoMore, IsAsBefore, HasApplied, WritesTransaction, WantsChange, HasHeldItem, HasTaken}
use Rattle.live_tables.specs.BeforeImages.{HasBeforeImages, AreToStand, TakesBeforeImages, cells_of_each}
use Rattle.live_tables.specs.BeforeImageCallLemmas.{done_keeps_before_images, skip_keeps_before_images, same_keeps_before_images}
use Rattle.live_tables.specs.Represents.{records_in, IsBeside}
use Rattle.live_tables.specs.ByHolds.{RepresentsByHolds}
use Rattle.live_tables.specs.BasicLemmas.{still_caused, its_record, its_beside, records_put, taken_cells, tied_put}

-- a list with this front is no shorter
longer : (cells more : List Cell) → take (length cells) more ≡ cells → length cells ≤ length more
longer cells more front = omega (arith, length-take (length cells) more, ap length front)

-- the same cells are free of the same change on the same rows
pub free_again : (schema : Schema) (rows : Rows) (held : ℕ → List Cell) (xid : ℕ) (c : change_type.Change) → IsFreeOf schema rows held xid c
    → (later : Schema) (now : Rows) (holds : ℕ → List Cell) (d : change_type.Change) → later ≡ schema → now ≡ rows → holds ≡ held → d ≡ c → IsFreeOf later now holds xid d
free_again schema rows held xid c free later now holds d schema_is rows_are holds_are change_is =
    subst (λ (s : Schema). IsFreeOf s now holds xid d) (sym schema_is)
    (subst (λ (r : Rows). IsFreeOf schema r holds xid d) (sym rows_are)
    (subst (λ (h : ℕ → List Cell). IsFreeOf schema rows h xid d) (sym holds_are)
    (subst (λ (e : change_type.Change). IsFreeOf schema rows held xid e) (sym change_is) free)))

-- with a cause it stops a world
stops_with : (found : Option stopped_type.Stopped) → IfSome found HasCause → IsSome found → IsSome (told_stop found)
stops_with None caused is = is
stops_with (Some (StoppedByClash xid c (UniqueClash table key))) caused is = refl
stops_with (Some (StoppedByClash xid c (NullKeyClash table))) caused is = refl
stops_with (Some (StoppedByClash xid c NoMemoryClash)) caused is = caused
stops_with (Some (StoppedByHold waiter holder)) caused is = refl

module _ (w : World) (l : Live) (tied : RepresentsByHolds w l) where
  -- a store that is stopped is a stopped world
  pub has_stopped : IsSome l.stopped → IsSome w.stopped
  has_stopped is = subst (λ (stop : Option Stop). IsSome stop) tied.stopped (stops_with l.stopped tied.caused is)

  -- a store that isn't stopped is no stopped world
  pub runs : l.stopped ≡ None → w.stopped ≡ None
  runs none = sym tied.stopped ∙ ap told_stop none

  -- cells that are free by the holds are free in the world
  pub free_live : (xid : ℕ) (c : change_type.Change) → IsFreeOf l.tables.schema l.tables.rows (cells_held l.holds) xid c
      → IsFreeLive l.tables.schema l.tables w xid c
  free_live xid c free = (
    (holds_tell_the_world l.tables.schema w (cells_held l.holds) tied.holds xid (looked_up c)).0 free.row,
    (holds_tell_the_world l.tables.schema w (cells_held l.holds) tied.holds xid (footprint l.tables.schema l.tables.rows c)).0 free.all,
  )

  -- and who holds the first that another has holds one in the world
  pub held_live : (xid : ℕ) (c : change_type.Change) (holder : ℕ) → IsHeldIn l.tables.schema l.tables.rows (cells_held l.holds) xid c holder
      → IsHeldBy l.tables.schema w xid (looked_up c) holder
      ⊎ (IsFree l.tables.schema w xid (looked_up c) × IsHeldBy l.tables.schema w xid (footprint l.tables.schema l.tables.rows c) holder)
  held_live xid c holder found =
      elim found [
        | inl row ↦ inl ((holds_tell_the_world l.tables.schema w (cells_held l.holds) tied.holds xid (looked_up c)).1 holder row)
        | inr all ↦
            inr (
              (holds_tell_the_world l.tables.schema w (cells_held l.holds) tied.holds xid (looked_up c)).0 all.0,
              (holds_tell_the_world l.tables.schema w (cells_held l.holds) tied.holds xid (footprint l.tables.schema l.tables.rows c)).1 holder all.1,
            )
      ]

-- ---- what a refusal comes to

-- the world is the same
pub after_refusal : (w : World) (xid : ℕ) (o : Opened) (sub : ℕ) (c : change_type.Change) (clash : clash_type.Clash) → after_try w xid o sub c (verdict_of clash) ≡ w
after_refusal w xid o sub c (UniqueClash table key) = refl
after_refusal w xid o sub c (NullKeyClash table) = refl
after_refusal w xid o sub c NoMemoryClash = refl

pub refusal_caused : (clash : clash_type.Clash) → TellsVerdict (verdict_of clash)
refusal_caused (UniqueClash table key) = refl
refusal_caused (NullKeyClash table) = refl
refusal_caused NoMemoryClash = tt

module _ (w : World) (l : Live) (tied : RepresentsByHolds w l) (xid : ℕ) (o : Opened) (is : get w.opened xid ≡ Some o) (sub : ℕ) (c : change_type.Change)
    (running : l.stopped ≡ None) (free : IsFreeOf l.tables.schema l.tables.rows (cells_held l.holds) xid c) where
  clash_told : (clash : clash_type.Clash) (cause : ClashCause) → cause_of clash ≡ Some cause → outcome l.tables.schema l.tables.rows c ≡ Clashes cause
      → (w.stopped ≡ None) × HasClash l.tables.schema w xid o c clash × (w ≡ w)
  clash_told clash cause caused clashes = (
    runs w l tied running,
    (cause, caused, clash_on_view l.tables.schema l.tables w (records_in l.transactions) tied.kept xid o is c cause (free_live w l tied xid c free) clashes),
    refl,
  )

  -- it clashes in the world, or memory was refused
  pub refusal_told : (clash : clash_type.Clash) → AnswersOutcome (outcome l.tables.schema l.tables.rows c) (Err clash)
      → Tries l.tables.schema w xid o sub c (verdict_of clash) (after_try w xid o sub c (verdict_of clash))
  refusal_told (UniqueClash table key) clashes = clash_told (UniqueClash table key) (Unique table key) refl clashes
  refusal_told (NullKeyClash table) clashes = clash_told (NullKeyClash table) (NullKey table) refl clashes
  refusal_told NoMemoryClash clashes = (runs w l tied running, refl)

module _ (w : World) (l : Live) (tied : RepresentsByHolds w l) (xid : ℕ) (o : Opened) (is : get w.opened xid ≡ Some o) (old kept : OpenTransaction) (n : Live)
    (writes : WritesTransaction xid old kept l.transactions n.transactions) where
  -- it is stopped as before
  caused_still : n.stopped ≡ l.stopped → IfSome n.stopped HasCause
  caused_still stops = still_caused l n stops tied.caused

  ready : IsReady l.tables.schema l.tables w (records_in l.transactions) xid o
  ready = tied.kept.ready xid o is

  -- its record is the one of the world
  same_record : old.record ≡ (tied.kept.ready xid o is).its
  same_record = its_record w l tied xid o is old writes.at

  records_at : IsPutAt (records_in l.transactions) xid (Some kept.record) (records_in n.transactions)
  records_at = records_put xid (Some kept) l.transactions n.transactions writes.puts

  marks_there : HasHeldMarks l.tables.schema w.committed (tied.kept.ready xid o is).its (cells_held l.holds xid)
  marks_there = tied.marks xid (tied.kept.ready xid o is).its (tied.kept.ready xid o is).found

  same_at : HasTheSame old.record kept.record → HasTheSame (tied.kept.ready xid o is).its kept.record
  same_at same = subst (λ (r : Record). HasTheSame r kept.record) same_record same

  -- ---- one more item

  item_at : (sub : ℕ) (item : Item) (more : List Inverse) (held : ℕ) → HasHeldItem old.record.top sub item more old.record kept.record held
      → HasHeldItem xid sub item more (tied.kept.ready xid o is).its kept.record held
  item_at sub item more held has =
      subst (λ (number : ℕ). HasHeldItem number sub item more (tied.kept.ready xid o is).its kept.record held) (tied.kept.ready xid o is).tells.top
      (subst (λ (r : Record). HasHeldItem r.top sub item more r kept.record held) same_record has)

  marks_item : (sub : ℕ) (item : Item) (more : List Inverse) → ((other : ℕ) → is_of other item ≡ (sub == other))
      → HasHeldItem old.record.top sub item more old.record kept.record (length (cells_held l.holds xid))
      → take (length (cells_held l.holds xid)) (cells_held n.holds xid) ≡ cells_held l.holds xid
      → HasHeldMarks l.tables.schema w.committed kept.record (cells_held n.holds xid)
  marks_item sub item more names has front =
      let has_at = item_at sub item more (length (cells_held l.holds xid)) has in
      item_keeps_marks l.tables.schema w xid o (tied.kept.ready xid o is).its kept.record (tied.kept.ready xid o is).tells (cells_held l.holds xid) (cells_held n.holds xid)
      marks_there (tied.holds.its xid o is) sub item names more has_at.0 has_at.1 front
      (longer (cells_held l.holds xid) (cells_held n.holds xid) front)

  beside_item : (sub : ℕ) (c : change_type.Change) → NamesTables (length l.tables.schema) c → WaitsNoMore old kept
      → IsBeside (length l.tables.schema) (record { items = o.items ++ Change sub c ∷ []; wants = None }) kept
  beside_item sub c names more = record {
    wants = more.wants;
    named = subst (λ (wanted : Option (ℕ × change_type.Change)). IfSome wanted (λ (v : ℕ × change_type.Change). NamesTables (length l.tables.schema) v.1)) (sym more.wants) tt;
    done = let was = (its_beside w l tied xid o is old writes.at).done in let now = more.done in omega (arith, was, now, length-append o.items (Change sub c ∷ []));
  }

  module _ (sub : ℕ) (c : change_type.Change) (names : NamesTables (length l.tables.schema) c) (running : l.stopped ≡ None) where
    module _ (free : IsFreeOf l.tables.schema l.tables.rows (cells_held l.holds) xid c)
        (takes : TakesBeforeImages l.tables.rows (footprint l.tables.schema l.tables.rows c) (length (tied.kept.ready xid o is).its.log.inverses) (holds_of l.holds) xid (holds_of n.holds)) where
      taken : HasTaken xid (footprint l.tables.schema l.tables.rows c) (cells_held l.holds) (cells_held n.holds)
      taken =
          taken_cells l.tables.rows (footprint l.tables.schema l.tables.rows c) (length (tied.kept.ready xid o is).its.log.inverses) (holds_of l.holds) xid (holds_of n.holds) takes

      holds_item : AreHolds l.tables.schema (done_with w xid o (Change sub c)) (cells_held n.holds)
      holds_item =
          taken_is_held l.tables.schema w (cells_held l.holds) tied.holds xid o is sub c (cells_held n.holds) taken.beside
          (λ cell. subst (λ (cells : List Cell). Contains (cells_held n.holds xid) cell ↔ (Contains (cells_held l.holds xid) cell ⊎ Contains cells cell))
          (footprint_live l.tables.schema w tied.kept.fine xid o is l.tables.rows tied.kept.live c (free_live w l tied xid c free).0) (taken.all cell))

      tied_item : (more : List Inverse) → WaitsNoMore old kept
          → HasHeldItem old.record.top sub (Change sub c) more old.record kept.record (length (cells_held l.holds xid))
          → n.tables.schema ≡ l.tables.schema → n.stopped ≡ l.stopped
          → RecordsRepresent l.tables.schema n.tables (done_with w xid o (Change sub c)) (records_in n.transactions)
          → HasBeforeImages (done_with w xid o (Change sub c)) (records_in n.transactions) (holds_of n.holds) → RepresentsByHolds (done_with w xid o (Change sub c)) n
      tied_item more waits has schema stops is_kept before_image =
          tied_put w l tied xid o is old writes.at (record { items = o.items ++ Change sub c ∷ []; wants = None }) w.stopped n kept schema writes.puts is_kept holds_item
          (marks_item sub (Change sub c) more (λ other. refl) has taken.front) taken.beside (beside_item sub c names waits) writes.as_many (ap told_stop stops ∙ tied.stopped)
          (caused_still stops) before_image

      -- it was done
      pub tied_done : HasApplied true sub c (length (cells_held l.holds xid)) l.tables n.tables old kept → n.stopped ≡ l.stopped
          → Acts l.tables.schema w xid o sub c (Ok IsDone) (done_with w xid o (Change sub c)) × RepresentsByHolds (done_with w xid o (Change sub c)) n
      tied_done applied stops =
          let i = applied.1.0 in
          let has = item_at sub (Change sub c) (i ∷ []) (length (cells_held l.holds xid)) applied.1.2 in
          let came =
          done_is_kept l.tables.schema l.tables w (records_in l.transactions) tied.kept xid o is (runs w l tied running) sub c (free_live w l tied xid c free) n.tables i applied.1.1
          (records_in n.transactions) kept.record records_at has.0 in (
            came.0,
            tied_item (i ∷ []) applied.0 applied.1.2 applied.1.1.schema_is stops came.1
                (done_keeps_before_images n.tables i l.tables.schema l.tables w (records_in l.transactions) tied.kept (holds_of l.holds) tied.holds tied.before_image xid o is marks_there sub c
                (free_live w l tied xid c free) applied.1.1 (records_in n.transactions) kept.record records_at has.0 (has.1 ∙ length-keys_of (holds_of l.holds xid))
                (holds_of n.holds) takes),
          )

      -- it was skipped
      pub tied_skipped : HasApplied false sub c (length (cells_held l.holds xid)) l.tables n.tables old kept → n.stopped ≡ l.stopped
          → Acts l.tables.schema w xid o sub c (Ok IsSkipped) (done_with w xid o (Change sub c)) × RepresentsByHolds (done_with w xid o (Change sub c)) n
      tied_skipped applied stops =
          let has = item_at sub (Change sub c) [] (length (cells_held l.holds xid)) applied.3 in
          let came =
          skip_is_kept l.tables.schema l.tables w (records_in l.transactions) tied.kept xid o is (runs w l tied running) sub c (free_live w l tied xid c free) applied.1 n.tables applied.2
          (records_in n.transactions) kept.record records_at has.0 in (
            came.0,
            tied_item [] applied.0 applied.3 applied.2.schema_is stops came.1
                (skip_keeps_before_images l.tables.schema l.tables w (records_in l.transactions) tied.kept (holds_of l.holds) tied.holds tied.before_image xid o is marks_there sub c
                (free_live w l tied xid c free) applied.1 (records_in n.transactions) kept.record records_at has.0 (has.1 ∙ length-keys_of (holds_of l.holds xid))
                (holds_of n.holds) takes),
          )

    takes_before_images : (pairs : List (Cell × BeforeImage)) → keys_of pairs ≡ footprint l.tables.schema l.tables.rows c
        → AreToStand (get l.tables.rows) (length old.record.log.inverses) (cells_held l.holds xid) pairs → holds_of n.holds xid ≡ with_holds (holds_of l.holds xid) pairs
        → ((other : ℕ) → other ≢ xid → holds_of n.holds other ≡ holds_of l.holds other)
        → TakesBeforeImages l.tables.rows (footprint l.tables.schema l.tables.rows c) (length (tied.kept.ready xid o is).its.log.inverses) (holds_of l.holds) xid (holds_of n.holds)
    takes_before_images pairs are stand own others = record {
      more = pairs;
      its = are;
      stand = subst (λ (r : Record). AreToStand (get l.tables.rows) (length r.log.inverses) (cells_held l.holds xid) pairs) same_record stand;
      at = record { here = own; beside = others };
    }

    -- one or the other, with the cells as the holds tell of them
    pub tied_taken : IsFreeOf l.tables.schema l.tables.rows (cells_held l.holds) xid c → (mark : ℕ) (pairs : List (Cell × BeforeImage)) → mark ≡ length (holds_of l.holds xid)
        → keys_of pairs ≡ footprint l.tables.schema l.tables.rows c → AreToStand (get l.tables.rows) (length old.record.log.inverses) (cells_held l.holds xid) pairs
        → holds_of n.holds xid ≡ with_holds (holds_of l.holds xid) pairs
        → ((other : ℕ) → other ≢ xid → holds_of n.holds other ≡ holds_of l.holds other) → (done : Bool) → HasApplied done sub c mark l.tables n.tables old kept → n.stopped ≡ l.stopped
        → Acts l.tables.schema w xid o sub c (Ok (if done then IsDone else IsSkipped)) (done_with w xid o (Change sub c)) × RepresentsByHolds (done_with w xid o (Change sub c)) n
    tied_taken free mark pairs count are stand own others true applied stops =
        tied_done free (takes_before_images pairs are stand own others)
        (subst (λ (number : ℕ). HasApplied true sub c number l.tables n.tables old kept) (count ∙ sym (length-keys_of (holds_of l.holds xid))) applied) stops
    tied_taken free mark pairs count are stand own others false applied stops =
        tied_skipped free (takes_before_images pairs are stand own others)
        (subst (λ (number : ℕ). HasApplied false sub c number l.tables n.tables old kept) (count ∙ sym (length-keys_of (holds_of l.holds xid))) applied) stops

    -- ---- a change that it wants

    module _ (wants : WantsChange sub c old kept) (tables : n.tables ≡ l.tables) (holds : holds_of n.holds ≡ holds_of l.holds) where
      left : HasSameRows l.tables.schema l.tables n.tables
      left = subst (λ (t : Content). HasSameRows l.tables.schema l.tables t) (sym tables) (record { schema_is = refl; rows = refl; room = λ cell has. has })

      same_wanting : HasTheSame (tied.kept.ready xid o is).its kept.record
      same_wanting =
          subst (λ (r : Record). HasTheSame (tied.kept.ready xid o is).its r) (sym (wants.record_is ∙ same_record))
          (record { top = refl; survivors = refl; marks = refl; inverses = refl; named = (tied.kept.ready xid o is).tells.named })

      beside_wanting : IsBeside (length l.tables.schema) (record o { wants = Some (sub, c) }) kept
      beside_wanting = record {
        wants = wants.wants;
        named = subst (λ (wanted : Option (ℕ × change_type.Change)). IfSome wanted (λ (v : ℕ × change_type.Change). NamesTables (length l.tables.schema) v.1)) (sym wants.wants) names;
        done = wants.done ∙ (its_beside w l tied xid o is old writes.at).done;
      }

      marks_wanting : HasHeldMarks l.tables.schema w.committed kept.record (cells_held n.holds xid)
      marks_wanting =
          subst (λ (held : ℕ → List (Cell × BeforeImage)). HasHeldMarks l.tables.schema w.committed kept.record (cells_of_each held xid)) (sym holds)
          (marks_same l.tables.schema w.committed (tied.kept.ready xid o is).its kept.record (cells_held l.holds xid) same_wanting.survivors same_wanting.marks marks_there)

      tied_wanting : (stopped : Option Stop) → told_stop n.stopped ≡ stopped → IfSome n.stopped HasCause
          → RecordsRepresent l.tables.schema n.tables (record (wanting w xid o sub c) { stopped = stopped }) (records_in n.transactions)
          → RepresentsByHolds (record (wanting w xid o sub c) { stopped = stopped }) n
      tied_wanting stopped stops caused is_kept =
          tied_put w l tied xid o is old writes.at (record o { wants = Some (sub, c) }) stopped n kept (ap (λ (t : Content). t.schema) tables) writes.puts is_kept
          (subst (λ (held : ℕ → List (Cell × BeforeImage)). AreHolds l.tables.schema (record (wanting w xid o sub c) { stopped = stopped }) (cells_of_each held)) (sym holds)
          ((same_is_held l.tables.schema w (cells_held l.holds) tied.holds xid o is).1 sub c stopped))
          marks_wanting (λ other differs. ap (λ (held : ℕ → List (Cell × BeforeImage)). cells_of_each held other) holds) beside_wanting writes.as_many stops caused
          (subst (λ (held : ℕ → List (Cell × BeforeImage)). HasBeforeImages (record (wanting w xid o sub c) { stopped = stopped }) (records_in n.transactions) held) (sym holds)
          ((same_keeps_before_images l.tables.schema l.tables w (records_in l.transactions) tied.kept (holds_of l.holds) tied.before_image xid o is (records_in n.transactions) kept.record records_at same_wanting).1
          sub c stopped))

      -- another transaction holds a cell of it
      pub tied_waiting : (holder : ℕ) → IsHeldIn l.tables.schema l.tables.rows (cells_held l.holds) xid c holder → n.stopped ≡ l.stopped
          → Acts l.tables.schema w xid o sub c (Ok (Held holder)) (wanting w xid o sub c) × RepresentsByHolds (wanting w xid o sub c) n
      tied_waiting holder found stops =
          let came =
          held_is_kept l.tables.schema l.tables w (records_in l.transactions) tied.kept xid o is (runs w l tied running) sub c holder (held_live w l tied xid c holder found) n.tables left
          (records_in n.transactions) kept.record records_at same_wanting in
          (came.0, tied_wanting w.stopped (ap told_stop stops ∙ tied.stopped) (caused_still stops) came.1)

      -- it waits with it, whoever is in its way
      pub tied_waits : n.stopped ≡ l.stopped → RepresentsByHolds (wanting w xid o sub c) n
      tied_waits stops =
          let its = tied.kept.ready xid o is in
          tied_wanting w.stopped (ap told_stop stops ∙ tied.stopped) (caused_still stops)
          (kept_wanting l.tables.schema l.tables w (records_in l.transactions) tied.kept xid o is its.its its.tells its.can sub c w.stopped n.tables (records_in n.transactions) kept.record records_at
          (fine_wanting l.tables.schema w tied.kept.fine xid o sub c is (runs w l tied running)) left.schema_is left.rows left.room
          same_wanting.top same_wanting.survivors same_wanting.marks same_wanting.inverses same_wanting.named)

      -- it clashes, and stops the store
      pub tied_stops : (clash : clash_type.Clash) (cause : ClashCause) → cause_of clash ≡ Some cause → IsClashing l.tables.schema w xid o c cause
          → n.stopped ≡ Some (StoppedByClash xid c clash) → RepresentsByHolds (record (wanting w xid o sub c) { stopped = Some (ByClash xid c cause) }) n
      tied_stops clash cause caused clashing stops =
          let its = tied.kept.ready xid o is in
          let stopped : World = record (wanting w xid o sub c) { stopped = Some (ByClash xid c cause) } in
          tied_wanting (Some (ByClash xid c cause)) (ap told_stop stops ∙ ap (stop_for xid c) caused)
          (subst (λ (found : Option stopped_type.Stopped). IfSome found HasCause) (sym stops) (subst (λ (told : Option ClashCause). IsSome told) (sym caused) refl))
          (kept_wanting l.tables.schema l.tables w (records_in l.transactions) tied.kept xid o is its.its its.tells its.can sub c (Some (ByClash xid c cause)) n.tables
          (records_in n.transactions) kept.record records_at
          (fine_step l.tables.schema w stopped tied.kept.fine (acts xid o sub c (Ok (Clashed cause)) stopped is (runs w l tied running, clashing.0, clashing.1, refl)))
          left.schema_is left.rows left.room same_wanting.top same_wanting.survivors same_wanting.marks same_wanting.inverses same_wanting.named)

  -- ---- nothing came of it

  put_again : finite.insert w.opened xid o ≡ w.opened
  put_again = same_by_xid (finite.insert w.opened xid o) w.opened (λ other.
      elim (xid_cases other xid) [
        | inl same ↦ ap (get (finite.insert w.opened xid o)) same ∙ got_same w.opened xid o ∙ sym is ∙ sym (ap (get w.opened) same)
        | inr differs ↦ got_other w.opened xid o other differs
      ])

  same_world : record w { opened = finite.insert w.opened xid o; stopped = w.stopped } ≡ w
  same_world = ap (λ (m : FinMap nat_cmp Opened). record w { opened = m; stopped = w.stopped }) put_again

  -- the tables have their rows, and the transaction has done what it had
  pub tied_refused : HasSameRows l.tables.schema l.tables n.tables → IsAsBefore old kept → holds_of n.holds ≡ holds_of l.holds → n.stopped ≡ l.stopped → RepresentsByHolds w n
  tied_refused left before holds stops =
      subst (λ (v : World). RepresentsByHolds v n) same_world
      (tied_put w l tied xid o is old writes.at o w.stopped n kept left.schema_is writes.puts
      (subst (λ (v : World). RecordsRepresent l.tables.schema n.tables v (records_in n.transactions)) (sym same_world)
      (refusal_is_kept l.tables.schema l.tables w (records_in l.transactions) tied.kept xid o is n.tables left (records_in n.transactions) kept.record records_at (same_at before.record_same)))
      (subst (λ (held : ℕ → List (Cell × BeforeImage)). AreHolds l.tables.schema (record w { opened = finite.insert w.opened xid o; stopped = w.stopped }) (cells_of_each held)) (sym holds)
      (subst (λ (v : World). AreHolds l.tables.schema v (cells_held l.holds)) (sym same_world) tied.holds))
      (subst (λ (held : ℕ → List (Cell × BeforeImage)). HasHeldMarks l.tables.schema w.committed kept.record (cells_of_each held xid)) (sym holds)
      (marks_same l.tables.schema w.committed (tied.kept.ready xid o is).its kept.record (cells_held l.holds xid) (same_at before.record_same).survivors (same_at before.record_same).marks
      marks_there))
      (λ other differs. ap (λ (held : ℕ → List (Cell × BeforeImage)). cells_of_each held other) holds)
      (record {
        wants = before.wants ∙ (its_beside w l tied xid o is old writes.at).wants;
        named = subst (λ (wanted : Option (ℕ × change_type.Change)). IfSome wanted (λ (v : ℕ × change_type.Change). NamesTables (length l.tables.schema) v.1)) (sym before.wants)
            (its_beside w l tied xid o is old writes.at).named;
        done = before.done ∙ (its_beside w l tied xid o is old writes.at).done;
      }) writes.as_many (ap told_stop stops ∙ tied.stopped) (caused_still stops)
      (subst (λ (v : World). HasBeforeImages v (records_in n.transactions) (holds_of n.holds)) (sym same_world)
      (subst (λ (held : ℕ → List (Cell × BeforeImage)). HasBeforeImages w (records_in n.transactions) held) (sym holds)
      (same_keeps_before_images l.tables.schema l.tables w (records_in l.transactions) tied.kept (holds_of l.holds) tied.before_image xid o is (records_in n.transactions) kept.record records_at
      (same_at before.record_same)).0)))
