-- That every world is fine that calls reach.
--     fine_start, fine_step, fine_reached      the world before the first call is fine, and calls keep it so
--     committed_valid, own_valid      the committed rows, and each view, are valid
use Rattle.std.specs.Prelude.{◌≡◌, ◌≢◌, ℕ, false, List, [], ◌∷◌, ◌++◌, Option, Some, None, Ok, Err, refl, ◌⊎◌}
use Rattle.std.proofs.Common.{sym, ◌∙◌, ap, subst, inl, inr, append-nil}
use Rattle.std.specs.List.{list_any}
use Rattle.std.specs.Ordering.{nat_cmp}
use Rattle.std.specs.FinMap as finite
use Rattle.std.specs.FinMap.{FinMap, get, get-empty}
use Rattle.std.proofs.lemmas.Grind.{flat_map-append}
use Rattle.model.specs.declared.change.Change as change_type
use Rattle.model.specs.declared.cell.Cell.{Cell}
use Rattle.model.specs.declared.item.Item.TheVariants.{Change, Touch, BackTo}
use Rattle.model.specs.declared.item.CommitInfo.{CommitInfo}
use Rattle.model.specs.Rows.{Rows, Schema, IsValid}
use Rattle.model.specs.Effect.{ClashCause, Edits, Done, Skip, Clashes, Outcome, outcome, serial}
use Rattle.model.specs.EffectLemmas.{serial_valid, serial_append}
use Rattle.model.specs.Cells.{overlaps}
use Rattle.model.specs.Footprint.{footprint, held_cells, shares_cell}
use Rattle.model.specs.ValidLemmas.{not_none}
use Rattle.world.specs.World.{Opened, Stop, ByClash, ByHold, World, starting, work, work_behind, changes_in, own_rows, holds, IsFree}
use Rattle.model.specs.CellContents.{SameAt, AreSame}
use Rattle.model.specs.Accepted.{AreAccepted}
use Rattle.world.specs.Fine.{StillClashes, IsFine}
use Rattle.world.specs.Steps.{IsClashing, Fault, AlreadyOpen, TooManyOpen, Stopped, OutOfMemory, IsDone, IsSkipped, Held, Clashed, done_with, wanting, opened_with, committed_with, aborted_with, IsRefused, Step, opens, acts, touches, goes_back, commits, aborts, stops_held, tells_stop, reads_live, reads_committed, reads_after, tells_journal, closes, watches, looks, Reaches, at_start, by_step}
use Rattle.model.specs.OverlapLemmas.{neither, shares_append, shares_either_way, apart_from_first, free_of_each}
use Rattle.model.specs.AlikeLemmas.{same_footprint, same_outcome}
use Rattle.model.specs.SerialLemmas.{each_so, held_past, accepted_past, cell_past, held_append, accepted_append, accepted_first}
use Rattle.world.specs.ListingLemmas.{xid_cases, got_same, got_other, gone_same, gone_other}
use Rattle.model.specs.SurvivorLemmas.{work_with_change, work_with_touch, work_before}

pub committed_valid : (schema : Schema) (w : World) → IsFine schema w → IsValid schema w.committed
committed_valid schema w fine =
    subst (IsValid schema) (sym fine.serial_commits) (serial_valid schema w.start (changes_in w.line) fine.valid_start)

pub own_valid : (schema : Schema) (w : World) → IsFine schema w → (xid : ℕ) (o : Opened)
    → IsValid schema (own_rows schema w xid o)
own_valid schema w fine xid o = serial_valid schema w.committed (work xid o) (committed_valid schema w fine)

-- an open transaction's cells are free of the others'
pub holds_free : (schema : Schema) (w : World) → IsFine schema w → (xid : ℕ) (o : Opened) → get w.opened xid ≡ Some o
    → IsFree schema w xid (holds schema w xid o)
holds_free schema w fine xid o is other p differs at = fine.apart xid other o p (λ s. differs (sym s)) is at

pub same_some : {X : Type 0} (x y : X) → Some x ≡ Some y → x ≡ y
same_some x y e = cc

not_stopped : (schema : Schema) (w : World) → w.stopped ≡ None → StillClashes schema w
not_stopped schema w running xid c cause is = absurd (not_none (ByClash xid c cause) (sym running ∙ is))

-- ---- with another record of one transaction

-- one that is open afterwards is this one, or was open
pub put_cases : (m : FinMap nat_cmp Opened) (xid : ℕ) (o : Opened) (other : ℕ) (p : Opened)
    → get (finite.insert m xid o) other ≡ Some p
    → ((other ≡ xid) × (p ≡ o)) ⊎ ((other ≢ xid) × (get m other ≡ Some p))
put_cases m xid o other p at =
    elim (xid_cases other xid) [
      | inl is ↦ inl (is, same_some p o (sym at ∙ ap (get (finite.insert m xid o)) is ∙ got_same m xid o))
      | inr differs ↦ inr (differs, sym (got_other m xid o other differs) ∙ at)
    ]

module _ (schema : Schema) (w : World) (fine : IsFine schema w) (xid : ℕ) (o : Opened) (stopped : Option Stop) where
  abbrev put : World
  put = record w { opened = finite.insert w.opened xid o; stopped = stopped }

  same_holds : (other : ℕ) (p : Opened) → other ≡ xid → p ≡ o → holds schema w other p ≡ holds schema w xid o
  same_holds other p is same = ap (λ n. holds schema w n p) is ∙ ap (holds schema w xid) same

  apart_put : IsFree schema w xid (holds schema w xid o) → (one other : ℕ) (p q : Opened) → one ≢ other
      → get put.opened one ≡ Some p
      → get put.opened other ≡ Some q → shares_cell (holds schema w one p) (holds schema w other q) ≡ false
  apart_put free one other p q differs at too =
      elim (put_cases w.opened xid o one p at) [
        | inl is ↦
            elim (put_cases w.opened xid o other q too) [
              | inl is_too ↦ absurd (differs (is.0 ∙ sym is_too.0))
              | inr was ↦ ap (λ cells. shares_cell cells (holds schema w other q)) (same_holds one p is.0 is.1) ∙ free other q was.0 was.1
            ]
        | inr was ↦
            elim (put_cases w.opened xid o other q too) [
              | inl is ↦
                  shares_either_way (holds schema w other q) (holds schema w one p)
                  (ap (λ cells. shares_cell cells (holds schema w one p)) (same_holds other q is.0 is.1) ∙ free one p was.0 was.1)
              | inr was_too ↦ fine.apart one other p q differs was.1 was_too.1
            ]
      ]

  accepted_put : AreAccepted schema w.committed (work xid o) → (one : ℕ) (p : Opened) → get put.opened one ≡ Some p
      → AreAccepted schema w.committed (work one p)
  accepted_put accepted one p at =
      elim (put_cases w.opened xid o one p at) [
        | inl is ↦
            subst (λ (n : ℕ). AreAccepted schema w.committed (work n p)) (sym is.0)
            (subst (λ (r : Opened). AreAccepted schema w.committed (work xid r)) (sym is.1) accepted)
        | inr was ↦ fine.accepted one p was.1
      ]

  pub fine_put : AreAccepted schema w.committed (work xid o) → IsFree schema w xid (holds schema w xid o)
      → StillClashes schema put → IsFine schema put
  fine_put accepted free noted = record {
    valid_start = fine.valid_start;
    serial_commits = fine.serial_commits;
    apart = apart_put free;
    accepted = accepted_put accepted;
    noted = noted;
  }

  -- what was free of the others is so
  free_put : (cells : List Cell) → IsFree schema w xid cells → IsFree schema put xid cells
  free_put cells free other p differs at = free other p differs (sym (got_other w.opened xid o other differs) ∙ at)

-- ---- the calls

fine_opens : (schema : Schema) (w : World) → IsFine schema w → (xid : ℕ) → w.stopped ≡ None
    → IsFine schema (opened_with w xid)
fine_opens schema w fine xid running =
    fine_put schema w fine xid (record { items = []; wants = None }) w.stopped tt (λ other p differs at. refl)
    (not_stopped schema (opened_with w xid) running)

-- a change that meets no other's cell, and doesn't clash
fine_with_change : (schema : Schema) (w : World) → IsFine schema w
    → (xid : ℕ) (o : Opened) (sub : ℕ) (c : change_type.Change) → get w.opened xid ≡ Some o
    → w.stopped ≡ None → IsFree schema w xid (footprint schema (own_rows schema w xid o) c)
    → ((cause : ClashCause) → outcome schema (own_rows schema w xid o) c ≢ Clashes cause)
    → IsFine schema (done_with w xid o (Change sub c))
fine_with_change schema w fine xid o sub c is running free fits =
    let items = o.items ++ Change sub c ∷ [] in
    let after : Opened = record { items = items; wants = None } in
    let work_is : work xid after ≡ work xid o ++ c ∷ [] = work_with_change xid sub o.items c in
    let holds_are : holds schema w xid after ≡ holds schema w xid o ++ (footprint schema (own_rows schema w xid o) c ++ []) =
    ap (held_cells schema w.committed) work_is ∙ held_append schema w.committed (work xid o) (c ∷ []) in
    fine_put schema w fine xid after w.stopped
    (subst (AreAccepted schema w.committed) (sym work_is) (accepted_append schema w.committed (work xid o) (c ∷ []) (fine.accepted xid o is) (fits, tt)))
    (λ other p differs at.
    ap (λ cells. shares_cell cells (holds schema w other p)) holds_are
    ∙ shares_append (holds schema w xid o) (footprint schema (own_rows schema w xid o) c ++ []) (holds schema w other p)
    ∙ neither _ _ (holds_free schema w fine xid o is other p differs at)
    (ap (λ cells. shares_cell cells (holds schema w other p)) (append-nil (footprint schema (own_rows schema w xid o) c)) ∙ free other p differs at))
    (not_stopped schema (done_with w xid o (Change sub c)) running)

fits_done : (o : Outcome) (edits : Edits) → o ≡ Done edits → (cause : ClashCause) → o ≢ Clashes cause
fits_done o edits is cause clashes = apart (sym is ∙ clashes)
  where
    apart : ¬ (Done edits ≡ Clashes cause)
    apart e = cc

fits_skip : (o : Outcome) → o ≡ Skip → (cause : ClashCause) → o ≢ Clashes cause
fits_skip o is cause clashes = apart (sym is ∙ clashes)
  where
    apart : ¬ (Skip ≡ Clashes cause)
    apart e = cc

-- an item that leaves its work
fine_with_touch : (schema : Schema) (w : World) → IsFine schema w → (xid : ℕ) (o : Opened) (sub : ℕ)
    → get w.opened xid ≡ Some o → w.stopped ≡ None
    → IsFine schema (done_with w xid o (Touch sub))
fine_with_touch schema w fine xid o sub is running =
    let after : Opened = record { items = o.items ++ Touch sub ∷ []; wants = None } in
    let work_is : work xid after ≡ work xid o = work_with_touch xid sub o.items in
    fine_put schema w fine xid after w.stopped
    (subst (AreAccepted schema w.committed) (sym work_is) (fine.accepted xid o is))
    (λ other p differs at.
    ap (λ cs. shares_cell (held_cells schema w.committed cs) (holds schema w other p)) work_is
    ∙ holds_free schema w fine xid o is other p differs at)
    (not_stopped schema (done_with w xid o (Touch sub)) running)

pub fine_wanting : (schema : Schema) (w : World) → IsFine schema w → (xid : ℕ) (o : Opened) (sub : ℕ) (c : change_type.Change)
    → get w.opened xid ≡ Some o → w.stopped ≡ None
    → IsFine schema (wanting w xid o sub c)
fine_wanting schema w fine xid o sub c is running =
    fine_put schema w fine xid (record o { wants = Some (sub, c) }) w.stopped (fine.accepted xid o is)
    (holds_free schema w fine xid o is)
    (not_stopped schema (wanting w xid o sub c) running)

clash_is : (xid other : ℕ) (c d : change_type.Change) (cause why : ClashCause)
    → Some (ByClash xid c cause) ≡ Some (ByClash other d why)
    → (xid ≡ other) × (c ≡ d) × (cause ≡ why)
clash_is xid other c d cause why e = (cc, cc, cc)

-- the same clash of the same change of the same transaction
same_clashing : (schema : Schema) (w : World) (xid other : ℕ) (o p : Opened) (c d : change_type.Change) (cause why : ClashCause) → xid ≡ other → o ≡ p → c ≡ d → cause ≡ why
    → IsClashing schema w xid o c cause → IsClashing schema w other p d why
same_clashing schema w xid other o p c d cause why x_is o_is c_is cause_is clashing =
    subst (λ (n : ℕ). IsClashing schema w n p d why) x_is
    (subst (λ (r : Opened). IsClashing schema w xid r d why) o_is
    (subst (λ (e : change_type.Change). IsClashing schema w xid o e why) c_is
    (subst (λ (k : ClashCause). IsClashing schema w xid o c k) cause_is clashing)))

fine_clashed : (schema : Schema) (w : World) → IsFine schema w
    → (xid : ℕ) (o : Opened) (sub : ℕ) (c : change_type.Change) (cause : ClashCause) → get w.opened xid ≡ Some o
    → IsFree schema w xid (footprint schema (own_rows schema w xid o) c)
    → outcome schema (own_rows schema w xid o) c ≡ Clashes cause
    → IsFine schema (record (wanting w xid o sub c) { stopped = Some (ByClash xid c cause) })
fine_clashed schema w fine xid o sub c cause is free clashes =
    fine_put schema w fine xid after (Some (ByClash xid c cause)) (fine.accepted xid o is)
    (holds_free schema w fine xid o is) noted
  where
    after : Opened
    after = record o { wants = Some (sub, c) }

    new : World
    new = record (wanting w xid o sub c) { stopped = Some (ByClash xid c cause) }

    same_open : (other : ℕ) (p : Opened) → xid ≡ other → get new.opened other ≡ Some p → after ≡ p
    same_open other p same at =
        elim (put_cases w.opened xid after other p at) [
          | inl it ↦ sym it.1
          | inr was ↦ absurd (was.0 (sym same))
        ]

    noted : StillClashes schema new
    noted other d why stopped p named at wants =
        let same = clash_is xid other c d cause why stopped in
        same_clashing schema new xid other after p c d cause why same.0 (same_open other p same.0 at) same.1 same.2
        (free_put schema w fine xid after (Some (ByClash xid c cause)) (footprint schema (own_rows schema w xid o) c) free, clashes)

-- what clashed and was noted clashes still, where a transaction waits with nothing and holds no more cells than before
pub noted_put : (schema : Schema) (w : World) → IsFine schema w → (xid : ℕ) (o after : Opened) → get w.opened xid ≡ Some o → after.wants ≡ None
    → ((cells : List Cell) → shares_cell cells (holds schema w xid o) ≡ false → shares_cell cells (holds schema w xid after) ≡ false)
    → StillClashes schema (record w { opened = finite.insert w.opened xid after })
noted_put schema w fine xid o after is waits_not fewer other c cause stopped p named at wants =
    elim (put_cases w.opened xid after other p at) [
      | inl it ↦ absurd (not_none (named, c) (sym waits_not ∙ ap (λ (r : Opened). r.wants) (sym it.1) ∙ wants))
      | inr was ↦
          let before = fine.noted other c cause stopped p named was.1 wants in (
            λ third q differs there.
                elim (put_cases w.opened xid after third q there) [
                  | inl it ↦
                      ap (λ (n : ℕ). shares_cell (footprint schema (own_rows schema w other p) c) (holds schema w n q)) it.0
                      ∙ ap (λ (r : Opened). shares_cell (footprint schema (own_rows schema w other p) c) (holds schema w xid r)) it.1
                      ∙ fewer (footprint schema (own_rows schema w other p) c) (before.0 xid o (λ s. was.0 (sym s)) is)
                  | inr too ↦ before.0 third q differs too.1
                ],
            before.1,
          )
    ]

module _ (schema : Schema) (w : World) (fine : IsFine schema w) (xid : ℕ) (o : Opened) (sub : ℕ) (is : get w.opened xid ≡ Some o) where
  abbrev cut : Opened
  cut = record { items = o.items ++ BackTo sub ∷ []; wants = None }

  abbrev gone : List change_type.Change
  gone = (work_before xid sub o.items).0

  work_was : work xid o ≡ work xid cut ++ gone
  work_was = (work_before xid sub o.items).1

  holds_were : holds schema w xid o ≡ holds schema w xid cut ++ held_cells schema (own_rows schema w xid cut) gone
  holds_were = ap (held_cells schema w.committed) work_was ∙ held_append schema w.committed (work xid cut) gone

  -- what it holds afterwards it held before
  free_of_cut : (cells : List Cell) → shares_cell cells (holds schema w xid o) ≡ false
      → shares_cell cells (holds schema w xid cut) ≡ false
  free_of_cut cells free =
      apart_from_first cells (holds schema w xid cut) (held_cells schema (own_rows schema w xid cut) gone)
      (ap (shares_cell cells) (sym holds_were) ∙ free)

  pub fine_back : IsFine schema (done_with w xid o (BackTo sub))
  fine_back =
      fine_put schema w fine xid cut w.stopped
      (accepted_first schema w.committed (work xid cut) gone (subst (AreAccepted schema w.committed) work_was (fine.accepted xid o is)))
      (λ other p differs at.
      shares_either_way (holds schema w other p) (holds schema w xid cut)
      (free_of_cut (holds schema w other p)
      (shares_either_way (holds schema w xid o) (holds schema w other p) (holds_free schema w fine xid o is other p differs at))))
      (noted_put schema w fine xid o cut is refl free_of_cut)

-- a transaction that waits no more, and has the same work, also in a world that is stopped
pub fine_same : (schema : Schema) (w : World) → IsFine schema w → (xid : ℕ) (o after : Opened) → get w.opened xid ≡ Some o → after.wants ≡ None
    → work xid after ≡ work xid o → IsFine schema (record w { opened = finite.insert w.opened xid after })
fine_same schema w fine xid o after is waits_not same =
    let same_holds : holds schema w xid after ≡ holds schema w xid o = ap (held_cells schema w.committed) same in
    fine_put schema w fine xid after w.stopped (subst (AreAccepted schema w.committed) (sym same) (fine.accepted xid o is))
    (λ other p differs at. ap (λ cells. shares_cell cells (holds schema w other p)) same_holds ∙ holds_free schema w fine xid o is other p differs at)
    (noted_put schema w fine xid o after is waits_not (λ cells free. ap (shares_cell cells) same_holds ∙ free))

-- ---- once a transaction is gone

pub gone_cases : (m : FinMap nat_cmp Opened) (xid other : ℕ) (p : Opened) → get (finite.remove m xid) other ≡ Some p
    → (other ≢ xid) × (get m other ≡ Some p)
gone_cases m xid other p at =
    elim (xid_cases other xid) [
      | inl is ↦ absurd (not_none p (sym (gone_same m xid) ∙ ap (get (finite.remove m xid)) (sym is) ∙ at))
      | inr differs ↦ (differs, sym (gone_other m xid other differs) ∙ at)
    ]

pub fine_aborted : (schema : Schema) (w : World) → IsFine schema w → (xid : ℕ) → IsFine schema (aborted_with w xid)
fine_aborted schema w fine xid = record {
  valid_start = fine.valid_start;
  serial_commits = fine.serial_commits;
  apart =
      λ one other p q differs at too. fine.apart one other p q differs (gone_cases w.opened xid one p at).1
      (gone_cases w.opened xid other q too).1;
  accepted = λ one p at. fine.accepted one p (gone_cases w.opened xid one p at).1;
  noted = λ other d why stopped p named at wants.
      let before = fine.noted other d why stopped p named (gone_cases w.opened xid other p at).1 wants in
      (λ third q differs there. before.0 third q differs (gone_cases w.opened xid third q there).1, before.1);
}

module _ (schema : Schema) (w : World) (fine : IsFine schema w) (xid : ℕ) (o : Opened) (info : CommitInfo) (is : get w.opened xid ≡ Some o) where
  abbrev after : World
  after = committed_with schema w xid o info

  valid : IsValid schema w.committed
  valid = committed_valid schema w fine

  -- another's cells, and that none of them is among those of the one that commits
  apart_from : (other : ℕ) (p : Opened) → other ≢ xid → get w.opened other ≡ Some p
      → shares_cell (holds schema w other p) (holds schema w xid o) ≡ false
  apart_from other p differs at = fine.apart other xid p o differs at is

  pub holds_stay : (other : ℕ) (p : Opened) → other ≢ xid → get w.opened other ≡ Some p
      → holds schema w other p ≡ holds schema after other p
  holds_stay other p differs at =
      held_past schema w.committed valid (work other p) (work xid o) (apart_from other p differs at)

  apart_committed : (one other : ℕ) (p q : Opened) → one ≢ other → get after.opened one ≡ Some p
      → get after.opened other ≡ Some q
      → shares_cell (holds schema after one p) (holds schema after other q) ≡ false
  apart_committed one other p q differs at too =
      let first = gone_cases w.opened xid one p at in
      let second = gone_cases w.opened xid other q too in
      ap (λ cells. shares_cell cells (holds schema after other q)) (sym (holds_stay one p first.0 first.1))
      ∙ ap (shares_cell (holds schema w one p)) (sym (holds_stay other q second.0 second.1))
      ∙ fine.apart one other p q differs first.1 second.1

  serial_committed : after.committed ≡ serial schema w.start (changes_in after.line)
  serial_committed =
      ap (λ (r : Rows). serial schema r (work xid o)) fine.serial_commits
      ∙ ap (serial schema (serial schema w.start (changes_in w.line))) (sym (append-nil (work xid o)))
      ∙ sym (serial_append schema w.start (changes_in w.line) (work xid o ++ []))
      ∙ ap (serial schema w.start)
      (sym (flat_map-append work_behind w.line (record { xid = xid; items = o.items; info = info } ∷ [])))

  -- its cells that meet none of the committed have the same on its view as before
  same_view : (other : ℕ) (p : Opened) (cells : List Cell) → other ≢ xid → get w.opened other ≡ Some p
      → shares_cell cells (holds schema w xid o) ≡ false
      → AreSame schema (own_rows schema w other p) (own_rows schema after other p) cells
  same_view other p cells differs at free =
      each_so (λ cell. list_any (overlaps cell) (holds schema w xid o) ≡ false)
      (SameAt schema (own_rows schema w other p) (own_rows schema after other p))
      (cell_past schema w.committed valid (work other p) (work xid o) (apart_from other p differs at)) cells
      (free_of_each (holds schema w xid o) cells (shares_either_way cells (holds schema w xid o) free))

  after_valid : IsValid schema after.committed
  after_valid = serial_valid schema w.committed (work xid o) valid

  -- a change that meets no other's cell does afterwards what it did before
  pub outcome_stays : (other : ℕ) (p : Opened) (c : change_type.Change) → other ≢ xid → get w.opened other ≡ Some p
      → IsFree schema w other (footprint schema (own_rows schema w other p) c)
      → (outcome schema (own_rows schema after other p) c ≡ outcome schema (own_rows schema w other p) c)
      × (footprint schema (own_rows schema after other p) c ≡ footprint schema (own_rows schema w other p) c)
  outcome_stays other p c differs at free =
      let same = same_view other p (footprint schema (own_rows schema w other p) c) differs at (free xid o (λ s. differs (sym s)) is) in (
        sym (same_outcome schema (own_rows schema w other p) (own_rows schema after other p) (serial_valid schema w.committed (work other p) valid)
            (serial_valid schema after.committed (work other p) after_valid) c same),
        sym (same_footprint schema (own_rows schema w other p) (own_rows schema after other p) c same),
      )

  noted_committed : StillClashes schema after
  noted_committed other d why stopped p named at wants =
      let there = gone_cases w.opened xid other p at in
      let before = fine.noted other d why stopped p named there.1 wants in
      let stays = outcome_stays other p d there.0 there.1 before.0 in (
        λ third q differs third_at.
            let too = gone_cases w.opened xid third q third_at in
            ap (λ cells. shares_cell cells (holds schema after third q)) stays.1
            ∙ ap (shares_cell (footprint schema (own_rows schema w other p) d)) (sym (holds_stay third q too.0 too.1))
            ∙ before.0 third q differs too.1,
        stays.0 ∙ before.1,
      )

  pub fine_committed : IsFine schema after
  fine_committed = record {
    valid_start = fine.valid_start;
    serial_commits = serial_committed;
    apart = apart_committed;
    accepted = λ one p at.
        let there = gone_cases w.opened xid one p at in
        accepted_past schema w.committed valid (work one p) (work xid o) (apart_from one p there.0 there.1)
        (fine.accepted one p there.1);
    noted = noted_committed;
  }

-- ---- any call

fine_stopped : (schema : Schema) (w : World) → IsFine schema w → (waiter holder : ℕ)
    → IsFine schema (record w { stopped = Some (ByHold waiter holder) })
fine_stopped schema w fine waiter holder = record {
  valid_start = fine.valid_start;
  serial_commits = fine.serial_commits;
  apart = fine.apart;
  accepted = fine.accepted;
  noted = λ xid c cause stopped. absurd (other_stop xid c cause stopped);
}
  where
    other_stop : (xid : ℕ) (c : change_type.Change) (cause : ClashCause)
        → ¬ (Some (ByHold waiter holder) ≡ Some (ByClash xid c cause))
    other_stop xid c cause e = cc

pub refused_stays : (w new : World) (fault : Fault) → IsRefused w fault new → new ≡ w
refused_stays w new AlreadyOpen refused = absurd refused
refused_stays w new TooManyOpen refused = absurd refused
refused_stays w new Stopped refused = refused.1
refused_stays w new OutOfMemory refused = refused.1

pub fine_step : (schema : Schema) (w new : World) → IsFine schema w → Step schema w new → IsFine schema new
fine_step schema w _ fine (opens xid (Ok u) new h) = subst (IsFine schema) (sym h.3) (fine_opens schema w fine xid h.0)
fine_step schema w _ fine (opens xid (Err AlreadyOpen) new h) = subst (IsFine schema) (sym h.2) fine
fine_step schema w _ fine (opens xid (Err TooManyOpen) new h) = subst (IsFine schema) (sym h.3) fine
fine_step schema w _ fine (opens xid (Err Stopped) new h) = subst (IsFine schema) (sym h.1) fine
fine_step schema w _ fine (opens xid (Err OutOfMemory) new h) = subst (IsFine schema) (sym h.3) fine
fine_step schema w _ fine (acts xid o sub c (Ok IsDone) new is h) =
    subst (IsFine schema) (sym h.3)
    (fine_with_change schema w fine xid o sub c is h.0 h.1 (fits_done (outcome schema (own_rows schema w xid o) c) h.2.0 h.2.1))
fine_step schema w _ fine (acts xid o sub c (Ok IsSkipped) new is h) =
    subst (IsFine schema) (sym h.3)
    (fine_with_change schema w fine xid o sub c is h.0 h.1 (fits_skip (outcome schema (own_rows schema w xid o) c) h.2))
fine_step schema w _ fine (acts xid o sub c (Ok (Held holder)) new is h) =
    subst (IsFine schema) (sym h.2) (fine_wanting schema w fine xid o sub c is h.0)
fine_step schema w _ fine (acts xid o sub c (Ok (Clashed cause)) new is h) =
    subst (IsFine schema) (sym h.3) (fine_clashed schema w fine xid o sub c cause is h.1 h.2)
fine_step schema w _ fine (acts xid o sub c (Err fault) new is h) =
    subst (IsFine schema) (sym (refused_stays w new fault h)) fine
fine_step schema w _ fine (touches xid o sub (Ok u) new is h) =
    subst (IsFine schema) (sym h.1) (fine_with_touch schema w fine xid o sub is h.0)
fine_step schema w _ fine (touches xid o sub (Err fault) new is h) =
    subst (IsFine schema) (sym (refused_stays w new fault h)) fine
fine_step schema w _ fine (goes_back xid o sub new is h) =
    subst (IsFine schema) (sym h) (fine_back schema w fine xid o sub is)
fine_step schema w _ fine (commits xid o info new is h) =
    subst (IsFine schema) (sym h) (fine_committed schema w fine xid o info is)
fine_step schema w _ fine (aborts xid o new is h) = subst (IsFine schema) (sym h) (fine_aborted schema w fine xid)
fine_step schema w _ fine (stops_held sent waiter (Some holder) new h) =
    subst (IsFine schema) (sym h.1) (fine_stopped schema w fine waiter holder)
fine_step schema w _ fine (stops_held sent waiter None new h) = subst (IsFine schema) (sym h.1) fine
fine_step schema w _ fine (tells_stop answer h) = fine
fine_step schema w _ fine (reads_live place answer h) = fine
fine_step schema w _ fine (reads_committed place answer h) = fine
fine_step schema w _ fine (reads_after table count answer h) = fine
fine_step schema w _ fine (tells_journal answer h) = fine
fine_step schema w _ fine (closes rows entries h) = fine
fine_step schema w _ fine (watches seen h) = fine
fine_step schema w _ fine (looks seen now h) = fine

none_open : (xid : ℕ) (o : Opened) → ¬ (get (finite.empty {X = Opened} {R = nat_cmp}) xid ≡ Some o)
none_open xid o is = not_none o (sym (get-empty nat_cmp xid) ∙ is)

pub fine_start : (schema : Schema) (rows : Rows) → IsValid schema rows → IsFine schema (starting rows)
fine_start schema rows valid = record {
  valid_start = valid;
  serial_commits = refl;
  apart = λ xid other o p differs is at. absurd (none_open xid o is);
  accepted = λ xid o is. absurd (none_open xid o is);
  noted = not_stopped schema (starting rows) refl;
}

pub fine_reached : (schema : Schema) (rows : Rows) → IsValid schema rows → (w : World)
    → Reaches schema (starting rows) w → IsFine schema w
fine_reached schema rows valid _ at_start = fine_start schema rows valid
fine_reached schema rows valid _ (by_step w new before step) =
    fine_step schema w new (fine_reached schema rows valid w before) step
