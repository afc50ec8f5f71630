-- That every world is sound that calls reach, and which other worlds are.
--     sound_start, sound_step, sound_reached      the world before the first call is sound, and calls keep it so
--     sound_alike      so is one that is alike
--     sound_unstopped      one that nothing stopped any more
--     sound_waiting, sound_rested      a transaction waits with another change, or with none
--     sound_clashed      a change of it clashes
--     never_wanted, not_stopped      nothing is said of a clash where nothing stopped the world
use Rattle.std.specs.Prelude.{◌≡◌, ◌≢◌, ℕ, false, List, [], ◌∷◌, ◌++◌, Option, Some, None, Ok, Err, refl}
use Rattle.std.proofs.Common.{sym, ◌∙◌, ap, subst, inl, inr, append-nil}
use Rattle.std.proofs.lemmas.Grind.{flat_map-append}
use Rattle.std.specs.FinMap.{get, insert}
use Rattle.model.specs.declared.change.Change as change_type
use Rattle.model.specs.declared.cell.Cell.{Cell}
use Rattle.model.specs.declared.item.Item.{Item}
use Rattle.model.specs.declared.item.Item.TheVariants.{Change, Touch, BackTo}
use Rattle.model.specs.declared.item.CommitInfo.{CommitInfo}
use Rattle.model.specs.Accepted.{AreAccepted}
use Rattle.model.specs.Effect.{ClashCause, outcome, serial}
use Rattle.model.specs.Footprint.{footprint, held_cells, shares_cell}
use Rattle.model.specs.Rows.{Rows, Schema, IsValid}
use Rattle.model.specs.SerialLemmas.{accepted_append}
use Rattle.model.specs.Survivors.{survivors, changes_of}
use Rattle.world.specs.Fine.{StillClashes, IsFine}
use Rattle.world.specs.FineLemmas.{put_cases, gone_cases, refused_stays, fine_start, fine_step}
use Rattle.world.specs.ListingLemmas.{got_same, got_other}
use Rattle.world.specs.Steps.{IsClashing, AlreadyOpen, TooManyOpen, Stopped, OutOfMemory, IsDone, IsSkipped, Held, Clashed, opened_with, done_with, wanting, committed_with, aborted_with, Step, opens, acts, touches, goes_back, commits, aborts, stops_held, Reaches, at_start, by_step}
use Rattle.world.specs.World.{Opened, Stop, ByClash, ByHold, World, starting, work, work_behind, changes_in, own_rows, holds, IsFree}
use Rattle.world_parts.specs.Sound.{IsWanted, IsSound, IsOpenAlike, IsAlike}

-- ---- what the transaction wants

no_stop : (s : Stop) → None ≡ Some s → ⊥
no_stop s e = cc

not_by_hold : (waiter holder xid : ℕ) (c : change_type.Change) (cause : ClashCause)
    → Some (ByHold waiter holder) ≡ Some (ByClash xid c cause) → ⊥
not_by_hold waiter holder xid c cause e = cc

clash_is : (xid other : ℕ) (c d : change_type.Change) (cause why : ClashCause)
    → Some (ByClash xid c cause) ≡ Some (ByClash other d why) → (xid ≡ other) × (c ≡ d)
clash_is xid other c d cause why e = (cc, cc)

abbrev Wish : Type 0
Wish = ℕ × change_type.Change

same_wish : (p q : Wish) → Some p ≡ Some q → p ≡ q
same_wish p q e = cc

no_wish : (p : Wish) → None ≡ Some p → ⊥
no_wish p e = cc

-- nothing has stopped it
pub never_wanted : (w : World) → w.stopped ≡ None → IsWanted w
never_wanted w running xid c cause stopped o sub e at wants =
    absurd (no_stop (ByClash xid c cause) (sym running ∙ stopped))

pub not_stopped : (schema : Schema) (w : World) → w.stopped ≡ None → StillClashes schema w
not_stopped schema w running xid c cause stopped = absurd (no_stop (ByClash xid c cause) (sym running ∙ stopped))

module _ (schema : Schema) (w : World) (before : IsWanted w) where
  wanted_clash : (xid : ℕ) (o : Opened) (sub : ℕ) (c : change_type.Change) (cause : ClashCause)
      → IsWanted (record (wanting w xid o sub c) { stopped = Some (ByClash xid c cause) })
  wanted_clash xid o sub c cause x d why stopped p other e at wants =
      let same = clash_is xid x c d cause why stopped in
      elim (put_cases w.opened xid (record o { wants = Some (sub, c) }) x p at) [
        | inl it ↦
            ap (λ (q : Wish). q.1) (same_wish (other, e) (sub, c) (sym wants ∙ ap (λ (r : Opened). r.wants) it.1)) ∙ same.1
        | inr was ↦ absurd (was.0 (sym same.0))
      ]

  -- a transaction that waits no more
  wanted_rest : (xid : ℕ) (after : Opened) → after.wants ≡ None → IsWanted (record w { opened = insert w.opened xid after })
  wanted_rest xid after rests x d why stopped p other e at wants =
      elim (put_cases w.opened xid after x p at) [
        | inl it ↦ absurd (no_wish (other, e) (sym (ap (λ (r : Opened). r.wants) it.1 ∙ rests) ∙ wants))
        | inr was ↦ before x d why stopped p other e was.1 wants
      ]

  wanted_gone : (xid : ℕ) → IsWanted (aborted_with w xid)
  wanted_gone xid x d why stopped p other e at wants =
      before x d why stopped p other e (gone_cases w.opened xid x p at).1 wants

  wanted_commit : (xid : ℕ) (o : Opened) (info : CommitInfo) → IsWanted (committed_with schema w xid o info)
  wanted_commit xid o info x d why stopped p other e at wants =
      before x d why stopped p other e (gone_cases w.opened xid x p at).1 wants

  wanted_held : (waiter holder : ℕ) → IsWanted (record w { stopped = Some (ByHold waiter holder) })
  wanted_held waiter holder x d why stopped p other e at wants = absurd (not_by_hold waiter holder x d why stopped)

wanted_step : (schema : Schema) (w new : World) → IsWanted w → Step schema w new → IsWanted new
wanted_step schema w _ before (opens xid (Ok u) new h) = subst IsWanted (sym h.3) (never_wanted (opened_with w xid) h.0)
wanted_step schema w _ before (opens xid (Err AlreadyOpen) new h) = subst IsWanted (sym h.2) before
wanted_step schema w _ before (opens xid (Err TooManyOpen) new h) = subst IsWanted (sym h.3) before
wanted_step schema w _ before (opens xid (Err Stopped) new h) = subst IsWanted (sym h.1) before
wanted_step schema w _ before (opens xid (Err OutOfMemory) new h) = subst IsWanted (sym h.3) before
wanted_step schema w _ before (acts xid o sub c (Ok IsDone) new is h) =
    subst IsWanted (sym h.3) (never_wanted (done_with w xid o (Change sub c)) h.0)
wanted_step schema w _ before (acts xid o sub c (Ok IsSkipped) new is h) =
    subst IsWanted (sym h.3) (never_wanted (done_with w xid o (Change sub c)) h.0)
wanted_step schema w _ before (acts xid o sub c (Ok (Held holder)) new is h) =
    subst IsWanted (sym h.2) (never_wanted (wanting w xid o sub c) h.0)
wanted_step schema w _ before (acts xid o sub c (Ok (Clashed cause)) new is h) =
    subst IsWanted (sym h.3) (wanted_clash schema w before xid o sub c cause)
wanted_step schema w _ before (acts xid o sub c (Err fault) new is h) =
    subst IsWanted (sym (refused_stays w new fault h)) before
wanted_step schema w _ before (touches xid o sub (Ok u) new is h) =
    subst IsWanted (sym h.1) (never_wanted (done_with w xid o (Touch sub)) h.0)
wanted_step schema w _ before (touches xid o sub (Err fault) new is h) =
    subst IsWanted (sym (refused_stays w new fault h)) before
wanted_step schema w _ before (goes_back xid o sub new is h) =
    subst IsWanted (sym h) (wanted_rest schema w before xid (record { items = o.items ++ BackTo sub ∷ []; wants = None }) refl)
wanted_step schema w _ before (commits xid o info new is h) = subst IsWanted (sym h) (wanted_commit schema w before xid o info)
wanted_step schema w _ before (aborts xid o new is h) = subst IsWanted (sym h) (wanted_gone schema w before xid)
wanted_step schema w _ before (stops_held sent waiter (Some holder) new h) =
    subst IsWanted (sym h.1) (wanted_held schema w before waiter holder)
wanted_step schema w _ before (stops_held sent waiter None new h) = subst IsWanted (sym h.1) before
wanted_step schema w _ before step = before

-- ---- commits

module _ (schema : Schema) where
  -- none of the changes that were committed clashed
  abbrev AllAccepted : World → Type 0
  AllAccepted w = AreAccepted schema w.start (changes_in w.line)

  -- a commit's were accepted while it was open
  accepted_commit : (w : World) (xid : ℕ) (o : Opened) (info : CommitInfo) → IsFine schema w → get w.opened xid ≡ Some o
      → AllAccepted w → AreAccepted schema w.start (changes_in (w.line ++ (record { xid = xid; items = o.items; info = info }) ∷ []))
  accepted_commit w xid o info fine is before =
      subst (AreAccepted schema w.start) (sym (flat_map-append work_behind w.line ((record { xid = xid; items = o.items; info = info }) ∷ [])))
      (accepted_append schema w.start (changes_in w.line) (work xid o ++ []) before
      (subst (AreAccepted schema (serial schema w.start (changes_in w.line))) (sym (append-nil (work xid o)))
      (subst (λ r. AreAccepted schema r (work xid o)) fine.serial_commits (fine.accepted xid o is))))

  accepted_step : (w new : World) → IsFine schema w → AllAccepted w → Step schema w new → AllAccepted new
  accepted_step w _ fine before (opens xid (Ok u) new h) = subst AllAccepted (sym h.3) before
  accepted_step w _ fine before (opens xid (Err AlreadyOpen) new h) = subst AllAccepted (sym h.2) before
  accepted_step w _ fine before (opens xid (Err TooManyOpen) new h) = subst AllAccepted (sym h.3) before
  accepted_step w _ fine before (opens xid (Err Stopped) new h) = subst AllAccepted (sym h.1) before
  accepted_step w _ fine before (opens xid (Err OutOfMemory) new h) = subst AllAccepted (sym h.3) before
  accepted_step w _ fine before (acts xid o sub c (Ok IsDone) new is h) = subst AllAccepted (sym h.3) before
  accepted_step w _ fine before (acts xid o sub c (Ok IsSkipped) new is h) = subst AllAccepted (sym h.3) before
  accepted_step w _ fine before (acts xid o sub c (Ok (Held holder)) new is h) = subst AllAccepted (sym h.2) before
  accepted_step w _ fine before (acts xid o sub c (Ok (Clashed cause)) new is h) = subst AllAccepted (sym h.3) before
  accepted_step w _ fine before (acts xid o sub c (Err fault) new is h) =
      subst AllAccepted (sym (refused_stays w new fault h)) before
  accepted_step w _ fine before (touches xid o sub (Ok u) new is h) = subst AllAccepted (sym h.1) before
  accepted_step w _ fine before (touches xid o sub (Err fault) new is h) =
      subst AllAccepted (sym (refused_stays w new fault h)) before
  accepted_step w _ fine before (goes_back xid o sub new is h) = subst AllAccepted (sym h) before
  accepted_step w _ fine before (commits xid o info new is h) =
      subst AllAccepted (sym h) (accepted_commit w xid o info fine is before)
  accepted_step w _ fine before (aborts xid o new is h) = subst AllAccepted (sym h) before
  accepted_step w _ fine before (stops_held sent waiter (Some holder) new h) = subst AllAccepted (sym h.1) before
  accepted_step w _ fine before (stops_held sent waiter None new h) = subst AllAccepted (sym h.1) before
  accepted_step w _ fine before step = before

-- ---- any call

pub sound_start : (schema : Schema) (rows : Rows) → IsValid schema rows → IsSound schema (starting rows)
sound_start schema rows valid = record {
  fine = fine_start schema rows valid;
  accepted = tt;
  wanted = never_wanted (starting rows) refl;
}

pub sound_step : (schema : Schema) (w new : World) → IsSound schema w → Step schema w new → IsSound schema new
sound_step schema w new sound step = record {
  fine = fine_step schema w new sound.fine step;
  accepted = accepted_step schema w new sound.fine sound.accepted step;
  wanted = wanted_step schema w new sound.wanted step;
}

pub sound_reached : (schema : Schema) (rows : Rows) → IsValid schema rows → (w : World)
    → Reaches schema (starting rows) w → IsSound schema w
sound_reached schema rows valid _ at_start = sound_start schema rows valid
sound_reached schema rows valid _ (by_step w new before step) =
    sound_step schema w new (sound_reached schema rows valid w before) step

-- ---- worlds in which the same items survive

-- the transaction is open in the other world, and has the same items that survive
abbrev HasSame : World → ℕ → Opened → Type 0
HasSame w xid p = (o : Opened) × (get w.opened xid ≡ Some o) × (survivors xid p.items ≡ survivors xid o.items)

module _ (schema : Schema) (w v : World) (committed : v.committed ≡ w.committed)
    (opened : (xid : ℕ) (p : Opened) → get v.opened xid ≡ Some p → HasSame w xid p) where
  same_holds : (xid : ℕ) (p o : Opened) → survivors xid p.items ≡ survivors xid o.items
      → holds schema v xid p ≡ holds schema w xid o
  same_holds xid p o same =
      ap (λ (r : Rows). held_cells schema r (work xid p)) committed
      ∙ ap (λ (items : List Item). held_cells schema w.committed (changes_of items)) same

  same_view : (xid : ℕ) (p o : Opened) → survivors xid p.items ≡ survivors xid o.items
      → own_rows schema v xid p ≡ own_rows schema w xid o
  same_view xid p o same =
      ap (λ (r : Rows). serial schema r (work xid p)) committed
      ∙ ap (λ (items : List Item). serial schema w.committed (changes_of items)) same

  free_same : (xid : ℕ) (cells : List Cell) → IsFree schema w xid cells → IsFree schema v xid cells
  free_same xid cells free other p differs at =
      let there = opened other p at in
      ap (shares_cell cells) (same_holds other p there.0 there.2) ∙ free other there.0 differs there.1

  -- what clashed clashes
  clashing_same : (xid : ℕ) (p o : Opened) (c : change_type.Change) (cause : ClashCause)
      → survivors xid p.items ≡ survivors xid o.items
      → IsClashing schema w xid o c cause → IsClashing schema v xid p c cause
  clashing_same xid p o c cause same clashing = (
    subst (λ (cells : List Cell). IsFree schema v xid cells)
        (ap (λ (r : Rows). footprint schema r c) (sym (same_view xid p o same)))
        (free_same xid (footprint schema (own_rows schema w xid o) c) clashing.0),
    ap (λ (r : Rows). outcome schema r c) (same_view xid p o same) ∙ clashing.1,
  )

  fine_same : v.start ≡ w.start → v.line ≡ w.line → StillClashes schema v → IsFine schema w → IsFine schema v
  fine_same start line noted fine = record {
    valid_start = subst (IsValid schema) (sym start) fine.valid_start;
    serial_commits =
        committed ∙ fine.serial_commits
        ∙ ap (λ (r : Rows). serial schema r (changes_in w.line)) (sym start)
        ∙ ap (λ commits. serial schema v.start (changes_in commits)) (sym line);
    apart = λ xid other p q differs at too.
        let here = opened xid p at in
        let there = opened other q too in
        ap (λ (cells : List Cell). shares_cell cells (holds schema v other q)) (same_holds xid p here.0 here.2)
        ∙ ap (shares_cell (holds schema w xid here.0)) (same_holds other q there.0 there.2)
        ∙ fine.apart xid other here.0 there.0 differs here.1 there.1;
    accepted = λ xid p at.
        let here = opened xid p at in
        subst (λ (items : List Item). AreAccepted schema v.committed (changes_of items)) (sym here.2)
        (subst (λ (r : Rows). AreAccepted schema r (work xid here.0)) (sym committed) (fine.accepted xid here.0 here.1));
    noted = noted;
  }

  sound_same : v.start ≡ w.start → v.line ≡ w.line → StillClashes schema v → IsWanted v → IsSound schema w → IsSound schema v
  sound_same start line noted wanted sound = record {
    fine = fine_same start line noted sound.fine;
    accepted =
        subst (λ commits. AreAccepted schema v.start (changes_in commits)) (sym line)
        (subst (λ (r : Rows). AreAccepted schema r (changes_in w.line)) (sym start) sound.accepted);
    wanted = wanted;
  }

pub sound_alike : (schema : Schema) (w v : World) → IsAlike w v → IsSound schema w → IsSound schema v
sound_alike schema w v is sound =
    sound_same schema w v is.committed has_same is.start is.line noted wanted sound
  where
    has_same : (xid : ℕ) (p : Opened) → get v.opened xid ≡ Some p → HasSame w xid p
    has_same xid p at = let there = is.opened xid p at in (there.0, there.1, there.2)

    noted : StillClashes schema v
    noted xid c cause stopped p sub at wants =
        let there = is.opened xid p at in
        clashing_same schema w v is.committed has_same xid p there.0 c cause there.2
        (sound.fine.noted xid c cause (sym is.stopped ∙ stopped) there.0 sub there.1 (sym there.3 ∙ wants))

    wanted : IsWanted v
    wanted xid c cause stopped p sub e at wants =
        let there = is.opened xid p at in
        sound.wanted xid c cause (sym is.stopped ∙ stopped) there.0 sub e there.1 (sym there.3 ∙ wants)

pub sound_unstopped : (schema : Schema) (w : World) → IsSound schema w → IsSound schema (record w { stopped = None })
sound_unstopped schema w sound =
    let new : World = record w { stopped = None } in
    sound_same schema w new refl (λ xid p at. (p, at, refl)) refl refl (not_stopped schema new refl)
    (never_wanted new refl) sound

-- ---- a transaction that waits otherwise

module _ (schema : Schema) (w : World) (sound : IsSound schema w) (xid : ℕ) (o after : Opened)
    (is : get w.opened xid ≡ Some o) (same : survivors xid after.items ≡ survivors xid o.items) where
  abbrev put : World
  put = record w { opened = insert w.opened xid after }

  put_same : (other : ℕ) (p : Opened) → get put.opened other ≡ Some p → HasSame w other p
  put_same other p at =
      elim (put_cases w.opened xid after other p at) [
        | inl it ↦ (
          o,
          ap (get w.opened) it.0 ∙ is,
          ap (λ (q : Opened). survivors other q.items) it.1
              ∙ subst (λ (n : ℕ). survivors n after.items ≡ survivors n o.items) (sym it.0) same,
        )
        | inr was ↦ (p, was.1, refl)
      ]

  -- it waits with whatever it may, where nothing stopped the world
  pub sound_waiting : w.stopped ≡ None → IsSound schema put
  sound_waiting runs =
      sound_same schema w put refl put_same refl refl (not_stopped schema put runs) (never_wanted put runs) sound

  -- it waits no more, also where something did
  pub sound_rested : after.wants ≡ None → IsSound schema put
  sound_rested rests =
      sound_same schema w put refl put_same refl refl noted (wanted_rest schema w sound.wanted xid after rests) sound
    where
      noted : StillClashes schema put
      noted other c cause stopped p sub at wants =
          elim (put_cases w.opened xid after other p at) [
            | inl it ↦ absurd (no_wish (sub, c) (sym (ap (λ (r : Opened). r.wants) it.1 ∙ rests) ∙ wants))
            | inr was ↦
                clashing_same schema w put refl put_same other p p c cause refl
                (sound.fine.noted other c cause stopped p sub was.1 wants)
          ]

  -- a change of it clashes, and stops the world
  pub sound_clashed : w.stopped ≡ None → (sub : ℕ) (c : change_type.Change) (cause : ClashCause) → IsClashing schema w xid o c cause
      → IsSound schema (record (wanting w xid after sub c) { stopped = Some (ByClash xid c cause) })
  sound_clashed runs sub c cause clashing =
      sound_alike schema clashed new alike
      (sound_step schema w clashed sound
      (acts xid o sub c (Ok (Clashed cause)) clashed is (runs, clashing.0, clashing.1, refl)))
    where
      clashed : World
      clashed = record (wanting w xid o sub c) { stopped = Some (ByClash xid c cause) }

      new : World
      new = record (wanting w xid after sub c) { stopped = Some (ByClash xid c cause) }

      alike : IsAlike clashed new
      alike = record {
        start = refl;
        committed = refl;
        line = refl;
        stopped = refl;
        opened = λ other p at.
            elim (put_cases w.opened xid (record after { wants = Some (sub, c) }) other p at) as (λ _. IsOpenAlike clashed other p) [
              | inl it ↦ (
                record o { wants = Some (sub, c) },
                ap (get clashed.opened) it.0 ∙ got_same w.opened xid (record o { wants = Some (sub, c) }),
                ap (λ (q : Opened). survivors other q.items) it.1
                    ∙ subst (λ (n : ℕ). survivors n after.items ≡ survivors n o.items) (sym it.0) same,
                ap (λ (q : Opened). q.wants) it.1,
              )
              | inr was ↦ (p, got_other w.opened xid (record o { wants = Some (sub, c) }) other was.0 ∙ was.1, refl, refl)
            ];
      }
