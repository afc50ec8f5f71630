-- What the calls do keeps the worlds of parts sound.
--     sound_same      the part is the same
--     sound_opened, sound_tried, sound_put      a transaction opens; tries a change; has other items that were taken back, or other wants
--     sound_back, sound_committed, sound_aborted      it is rolled back; ends
--     sound_stopped      its change clashes, and stops the store
--     clashes_there      a change that clashes does so where the call left the part and its share
--     sound_rests, sound_truncated      the parts of other tables; those of a truncate of several tables
use Rattle.std.specs.Prelude.{◌≡◌, ℕ, true, List, [], ◌∷◌, ◌++◌, fold, Option, Some, None, IsSomeAnd, Result, Ok, Err, slice_get, refl}
use Rattle.std.proofs.Common.{sym, ◌∙◌, ap, subst, inl, inr, append-nil}
use Rattle.std.proofs.lemmas.Grind.{fold-append}
use Rattle.std.specs.FinMap.{get, insert}
use Rattle.model.specs.declared.change.Change as change_type
use Rattle.model.specs.declared.item.Item.TheVariants.{BackTo}
use Rattle.model.specs.declared.item.CommitInfo.{CommitInfo}
use Rattle.model.specs.Rows.{Schema}
use Rattle.model.specs.Survivors.{survivors}
use Rattle.change.specs.declared.outcome.Clash.{Clash}
use Rattle.world.specs.World.{Opened, OpenOnes, Stop, ByClash, World}
use Rattle.world.specs.Steps.{Acted, Fault, AlreadyOpen, TooManyOpen, Stopped, OutOfMemory, IsDone, IsSkipped, Held, Clashed, Opens, done_with, wanting, committed_with, aborted_with, Step, opens, acts, goes_back, commits, aborts}
use Rattle.world.specs.FineLemmas.{refused_stays}
use Rattle.world.specs.ListingLemmas.{got_same}
use Rattle.live_tables.specs.declared.answers.Acted.TheVariants.{Done as WasDone, Skipped, Held as HeldBy}
use Rattle.live_tables.specs.declared.answers.EngineFault.{EngineFault}
use Rattle.live_tables.specs.declared.answers.Verdict.{Verdict}
use Rattle.live_tables.specs.declared.answers.Verdict.TheVariants.{Acted as ActedVerdict, Clashes}
use Rattle.live_tables.specs.Answers.{told_fault, stop_for}
use Rattle.live_tables.specs.Tried.{HasClash, Tries}
use Rattle.engine.specs.declared.events.Event.{Event}
use Rattle.engine.specs.declared.events.Event.TheVariants.{Done}
use Rattle.engine.specs.Events.{after_event, opened_by}
use Rattle.world_parts.specs.Sound.{IsSound}
use Rattle.world_parts.specs.SoundLemmas.{sound_step, sound_unstopped, sound_waiting}
use Rattle.table_parts.specs.Part.{Part}
use Rattle.parted_store.specs.Back.{backs_to, BacksShare}
use Rattle.parted_store.specs.BackLemmas.{inserted_again}
use Rattle.parted_store.specs.EachPartLemmas.{some_then}
use Rattle.parted_store.specs.Ends.{CommitsShare, AbortsShare}
use Rattle.parted_store.specs.KeepsSound.{with_stop, KeepsSound, KeepsSoundRunning, StopsSound}
use Rattle.parted_store.specs.RestLemmas.{RestsPart}
use Rattle.parted_store.specs.Shares.{Share, Shares, share_of}
use Rattle.parted_store.specs.Truncating.{Both, IsStill, Stands, Keeps, Waits, HasTruncated, cut_of}

-- ---- rollbacks in any world

-- to these marks, one after another
sound_backs : (schema : Schema) (w : World) (xid : ℕ) (o : Opened) (mark : ℕ) (marks : List ℕ) → get w.opened xid ≡ Some o → IsSound schema w
    → IsSound schema (record w { opened = insert w.opened xid (fold after_event o (backs_to (mark ∷ marks))) })
sound_backs schema w xid o mark [] at sound =
    sound_step schema w (done_with w xid o (BackTo mark)) sound (goes_back xid o mark (done_with w xid o (BackTo mark)) at refl)
sound_backs schema w xid o mark (next ∷ marks) at sound =
    let between : Opened = after_event o (Done (BackTo mark)) in
    let new : World = done_with w xid o (BackTo mark) in
    subst (λ (ones : OpenOnes). IsSound schema (record w { opened = ones }))
    (inserted_again w.opened xid between (fold after_event between (backs_to (next ∷ marks))))
    (sound_backs schema new xid between next marks (got_same w.opened xid between)
    (sound_step schema w new sound (goes_back xid o mark new at refl)))

-- ---- of a part

module _ (p q : Part) where
  abbrev schema : Schema
  schema = p.store.schema

  -- its world is another
  led_to : (new : World) → q.store.world ≡ new → (stop : Option Stop) → IsSound schema (record new { stopped = stop })
      → IsSound schema (with_stop stop q)
  led_to new is stop sound = subst (λ (w : World). IsSound schema (record w { stopped = stop })) (sym is) sound

  pub sound_same : q ≡ p → KeepsSound p q
  sound_same is stop sound = subst (λ (r : Part). IsSound schema (with_stop stop r)) (sym is) sound

  sound_stays : q.store.world ≡ p.store.world → KeepsSoundRunning p q
  sound_stays is sound = led_to p.store.world is None sound

  -- a call led there that only a world that runs takes
  sound_led : p.store.world.stopped ≡ None → Step schema p.store.world q.store.world → KeepsSoundRunning p q
  sound_led runs step sound =
      sound_unstopped schema q.store.world
      (sound_step schema p.store.world q.store.world
      (subst (λ (stop : Option Stop). IsSound schema (with_stop stop p)) (sym runs) sound) step)

  pub sound_opened : (xid : ℕ) (answer : Result (Unit {0}) Fault) → Opens p.store.world xid answer q.store.world → KeepsSoundRunning p q
  sound_opened xid (Ok u) is = sound_led is.0 (opens xid (Ok u) q.store.world is)
  sound_opened xid (Err AlreadyOpen) is = sound_stays is.2
  sound_opened xid (Err TooManyOpen) is = sound_stays is.3
  sound_opened xid (Err Stopped) is = sound_stays is.1
  sound_opened xid (Err OutOfMemory) is = sound_stays is.3

  pub sound_tried : (xid : ℕ) (o : Opened) (mark : ℕ) (c : change_type.Change) → get p.store.world.opened xid ≡ Some o
      → (answer : Result Verdict EngineFault) → Tries schema p.store.world xid o mark c answer q.store.world → KeepsSoundRunning p q
  sound_tried xid o mark c at (Ok (ActedVerdict WasDone)) is = sound_led is.0 (acts xid o mark c (Ok IsDone) q.store.world at is)
  sound_tried xid o mark c at (Ok (ActedVerdict Skipped)) is = sound_led is.0 (acts xid o mark c (Ok IsSkipped) q.store.world at is)
  sound_tried xid o mark c at (Ok (ActedVerdict (HeldBy holder))) is =
      sound_led is.0 (acts xid o mark c (Ok (Held holder)) q.store.world at is)
  sound_tried xid o mark c at (Ok (Clashes clash)) is = sound_stays is.2
  sound_tried xid o mark c at (Err fault) is = sound_stays (refused_stays p.store.world q.store.world (told_fault fault) is)

  -- it has other items that were taken back, and waits with whatever it may
  pub sound_put : (xid : ℕ) (o after : Opened) → get p.store.world.opened xid ≡ Some o → survivors xid after.items ≡ survivors xid o.items
      → q.store.world ≡ record p.store.world { opened = insert p.store.world.opened xid after } → KeepsSoundRunning p q
  sound_put xid o after at same is sound =
      led_to (record p.store.world { opened = insert p.store.world.opened xid after }) is None
      (sound_waiting schema (with_stop None p) sound xid o after at same refl)

  pub sound_back : (mark : ℕ) (marks : List ℕ) (share new : Option Share) → BacksShare (mark ∷ marks) p share q new → KeepsSound p q
  sound_back mark marks None new did = sound_same did.0
  sound_back mark marks (Some share) None did = absurd did
  sound_back mark marks (Some share) (Some new) did =
      let behind : Opened = fold after_event (opened_by share.list) (backs_to (mark ∷ marks)) in
      let world : World = record p.store.world { opened = insert p.store.world.opened share.number behind } in
      let is : q.store.world ≡ world =
      did.world
      ∙ ap (λ (o : Opened). record p.store.world { opened = insert p.store.world.opened share.number o })
      (fold-append after_event (record { items = []; wants = None }) share.list (backs_to (mark ∷ marks))) in
      λ stop sound.
      led_to world is stop (sound_backs schema (with_stop stop p) share.number (opened_by share.list) mark marks did.stood sound)

  pub sound_committed : (info : CommitInfo) (share : Option Share) → CommitsShare info p share q → KeepsSound p q
  sound_committed info None did = sound_same did
  sound_committed info (Some share) did = λ stop sound.
      let before : World = with_stop stop p in
      let new : World = committed_with schema before share.number (opened_by share.list) info in
      led_to (committed_with schema p.store.world share.number (opened_by share.list) info) did.1 stop
      (sound_step schema before new sound (commits share.number (opened_by share.list) info new did.0 refl))

  pub sound_aborted : (share : Option Share) → AbortsShare p share q → KeepsSound p q
  sound_aborted None did = sound_same did
  sound_aborted (Some share) did = λ stop sound.
      let before : World = with_stop stop p in
      let new : World = aborted_with before share.number in
      led_to (aborted_with p.store.world share.number) did.1 stop
      (sound_step schema before new sound (aborts share.number (opened_by share.list) new did.0 refl))

  -- its change clashes: it wants it, and that stops the store
  pub sound_stopped : (xid : ℕ) (o : Opened) (mark : ℕ) (c : change_type.Change) (clash : Clash) → get p.store.world.opened xid ≡ Some o
      → HasClash schema p.store.world xid o c clash → q.store.world ≡ wanting p.store.world xid o mark c → StopsSound xid c clash p q
  sound_stopped xid o mark c clash at clashes is sound =
      subst (λ (stop : Option Stop). IsSound schema (with_stop stop q)) (ap (stop_for xid c) (sym clashes.1))
      (led_to (wanting p.store.world xid o mark c) is (Some (ByClash xid c clashes.0))
      (sound_step schema (with_stop None p) new sound
      (acts xid o mark c (Ok (Clashed clashes.0)) new at (refl, clashes.2.0, clashes.2.1, refl))))
    where
      new : World
      new = record (wanting p.store.world xid o mark c) { stopped = Some (ByClash xid c clashes.0) }

  -- a change that clashes alters nothing: so it clashes where the call left the part and its share
  pub clashes_there : (before : Share) (mark : ℕ) (c : change_type.Change) (clash : Clash)
      → Tries schema p.store.world before.number (opened_by before.list) mark c (Ok (Clashes clash)) q.store.world
      → q.store.schema ≡ schema → (share : Share) → share ≡ record before { list = before.list ++ [] }
      → HasClash q.store.schema q.store.world share.number (opened_by share.list) c clash
  clashes_there before mark c clash tries same share is =
      subst (λ (s : Share). HasClash q.store.schema q.store.world s.number (opened_by s.list) c clash)
      (sym (is ∙ ap (λ (list : List Event). record before { list = list }) (append-nil before.list)))
      (subst (λ (s : Schema). HasClash s q.store.world before.number (opened_by before.list) c clash) (sym same)
      (subst (λ (w : World). HasClash schema w before.number (opened_by before.list) c clash) (sym tries.2) tries.1))

  -- ---- several tables

  -- the part of another table
  pub sound_rests : (xid : ℕ) (answer : Result Acted Fault) (share new : Option Share) → RestsPart xid answer p share q new → KeepsSound p q
  sound_rests xid (Ok acted) share new did = sound_back xid [] share new did
  sound_rests xid (Err fault) share new did = sound_same did

  -- one of those of a truncate: it is done, or the transaction waits with it, or has what it had
  sound_kept : (mark i : ℕ) (share new : Option Share) → Keeps mark i p share q new → KeepsSoundRunning p q
  sound_kept mark i None new is = absurd is
  sound_kept mark i (Some share) None is = absurd is
  sound_kept mark i (Some share) (Some new) is =
      sound_led is.acts.0 (acts share.number (opened_by share.list) mark (cut_of p) (Ok IsDone) q.store.world is.stood is.acts)

  sound_waits : (i : ℕ) (share new : Option Share) → Waits i p share q new → KeepsSoundRunning p q
  sound_waits i None new is = absurd is
  sound_waits i (Some share) None is = absurd is
  sound_waits i (Some share) (Some new) is =
      sound_put share.number (opened_by share.list) (opened_by new.list) is.0.stood is.0.items is.0.world

  sound_stands : (i : ℕ) (share new : Option Share) → Stands true i p share q new → KeepsSoundRunning p q
  sound_stands i share new is = elim is [
    | inl same ↦ sound_same same.0 None
    | inr still ↦ by share new still
  ]
    where
      by : (share new : Option Share) → Both (λ s t. IsStill true p s q t) share new → KeepsSoundRunning p q
      by None new is = absurd is
      by (Some share) None is = absurd is
      by (Some share) (Some new) is = sound_put share.number (opened_by share.list) (opened_by new.list) is.stood is.items is.world

pub sound_truncated : (mark : ℕ) (start : List Part) (all : Shares) (result : Result Verdict EngineFault) (parts : List Part) (shares : Shares)
    → HasTruncated mark start all result parts shares → (i : ℕ) (p : Part) → slice_get start i ≡ Some p
    → IsSomeAnd (slice_get parts i) (KeepsSoundRunning p)
sound_truncated mark start all (Ok (ActedVerdict WasDone)) parts shares came i p at =
    some_then (slice_get parts i) (came.each i p at) (λ q is. sound_kept p q mark i (share_of all p.number) (share_of shares p.number) is)
sound_truncated mark start all (Ok (ActedVerdict Skipped)) parts shares came i p at = absurd came
sound_truncated mark start all (Ok (ActedVerdict (HeldBy holder))) parts shares came i p at =
    some_then (slice_get parts i) (came.1.each i p at) (λ q is. sound_waits p q i (share_of all p.number) (share_of shares p.number) is)
sound_truncated mark start all (Ok (Clashes clash)) parts shares came i p at = absurd came
sound_truncated mark start all (Err fault) parts shares came i p at =
    some_then (slice_get parts i) (came.1.each i p at) (λ q is. sound_stands p q i (share_of all p.number) (share_of shares p.number) is)
