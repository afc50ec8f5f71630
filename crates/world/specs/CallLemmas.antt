-- The laws of calls, proved from what every reached world keeps. Each has the statement of its name in `Laws`.
use Rattle.std.specs.Prelude.{◌≡◌, ℕ, List, [], ◌∷◌, ◌++◌, Some, None, Ok, Err, refl}
use Rattle.std.proofs.Common.{sym, ◌∙◌, ap, subst, append-nil}
use Rattle.std.specs.FinMap.{get, entries}
use Rattle.model.specs.declared.item.Item.TheVariants.{Change, Touch, BackTo}
use Rattle.model.specs.Rows.{Rows, Schema}
use Rattle.model.specs.Effect.{serial, inverses, all_back, effect}
use Rattle.model.specs.EffectLemmas.{effect_skipped}
use Rattle.world.specs.World.{Opened, Past, ByClash, ByHold, World, starting, work, changes_in, own_rows, holds}
use Rattle.world.specs.Live.{Reordered, same, under, swapped, through, IsLive}
use Rattle.world.specs.Steps.{AlreadyOpen, TooManyOpen, Stopped, OutOfMemory, IsDone, IsSkipped, Held, Clashed, opened_with, done_with, wanting, aborted_with, committed_with, GoesBack, Step, opens, acts, touches, goes_back, commits, aborts, stops_held, tells_stop, reads_live, reads_committed, reads_after, tells_journal, closes, watches, looks, Reaches, at_start, by_step}
use Rattle.world.specs.ListingLemmas.{got_same, gone_other}
use Rattle.model.specs.SerialLemmas.{held_append, inverses_append, leaves_free_cell}
use Rattle.model.specs.CellContents.{SameAt}
use Rattle.model.specs.SurvivorLemmas.{work_with_change, work_before}
use Rattle.model.specs.Footprint.{footprint, held_cells}
use Rattle.world.specs.FineLemmas.{fine_reached, fine_step, refused_stays, same_some, holds_stay}
use Rattle.world.specs.Fine.{IsFine}
use Rattle.world.specs.WorldLemmas.{one_live, live_valid, live_accepted, live_alone, footprint_live, outcome_live, inverse_live, live_opened, live_acted, live_touched, live_wanting, live_cut, live_aborted, live_committed, inverses_stay, unheld_live}
use Rattle.world.specs.Statements.{IsReached, SeesNoOthers, ListedInAnyOrder, OneLiveState, LiveIsValid, NoLiveChangeClashes, CommittedIsSerial, AloneIsSerial, NotedClashStands, FootprintOnLive, OutcomeOnLive, LiveAfterOpen, LiveAfterDone, LiveAfterSkip, LiveAfterHeld, LiveAfterClash, LiveAfterTouch, LiveAfterRollback, RollbackLeavesBeginning, DoneComesLast, RollbackKeepsTheRest, LineGrows, LiveAfterAbort, LiveAfterCommit, CommitMovesNoHolds, UnheldIsCommitted, CommitLeavesOtherCells}

-- ---- listings and views

pub sees_no_others : SeesNoOthers
sees_no_others schema w opened xid o = refl

swapped_within : {A : Type 0} (before after : List A) (x y : A)
    → Reordered (before ++ x ∷ y ∷ after) (before ++ y ∷ x ∷ after)
swapped_within [] after x y = swapped x y after
swapped_within (z ∷ before) after x y = under z (swapped_within before after x y)

pub listed_in_any_order : ListedInAnyOrder
listed_in_any_order w = (same, λ listing more t other is. through (swapped_within listing more other t) is)

-- ---- every world that is reached

pub fine : (schema : Schema) (start : Rows) (w : World) → IsReached schema start w → IsFine schema w
fine schema start w reached = fine_reached schema start reached.0 w reached.1

pub one_live_state : OneLiveState
one_live_state schema start w reached = one_live schema w (fine schema start w reached)

pub live_is_valid : LiveIsValid
live_is_valid schema start w reached = live_valid schema w (fine schema start w reached)

pub no_live_change_clashes : NoLiveChangeClashes
no_live_change_clashes schema start w reached = live_accepted schema w (fine schema start w reached)

-- a call leaves the start rows
pub start_stays : (schema : Schema) (w new : World) → Step schema w new → new.start ≡ w.start
start_stays schema w _ (opens xid (Ok u) new h) = ap (λ (v : World). v.start) h.3
start_stays schema w _ (opens xid (Err AlreadyOpen) new h) = ap (λ (v : World). v.start) h.2
start_stays schema w _ (opens xid (Err TooManyOpen) new h) = ap (λ (v : World). v.start) h.3
start_stays schema w _ (opens xid (Err Stopped) new h) = ap (λ (v : World). v.start) h.1
start_stays schema w _ (opens xid (Err OutOfMemory) new h) = ap (λ (v : World). v.start) h.3
start_stays schema w _ (acts xid o sub c (Ok IsDone) new is h) = ap (λ (v : World). v.start) h.3
start_stays schema w _ (acts xid o sub c (Ok IsSkipped) new is h) = ap (λ (v : World). v.start) h.3
start_stays schema w _ (acts xid o sub c (Ok (Held holder)) new is h) = ap (λ (v : World). v.start) h.2
start_stays schema w _ (acts xid o sub c (Ok (Clashed cause)) new is h) = ap (λ (v : World). v.start) h.3
start_stays schema w _ (acts xid o sub c (Err fault) new is h) =
    ap (λ (v : World). v.start) (refused_stays w new fault h)
start_stays schema w _ (touches xid o sub (Ok u) new is h) = ap (λ (v : World). v.start) h.1
start_stays schema w _ (touches xid o sub (Err fault) new is h) =
    ap (λ (v : World). v.start) (refused_stays w new fault h)
start_stays schema w _ (goes_back xid o sub new is h) = ap (λ (v : World). v.start) h
start_stays schema w _ (commits xid o info new is h) = ap (λ (v : World). v.start) h
start_stays schema w _ (aborts xid o new is h) = ap (λ (v : World). v.start) h
start_stays schema w _ (stops_held sent waiter (Some holder) new h) = ap (λ (v : World). v.start) h.1
start_stays schema w _ (stops_held sent waiter None new h) = ap (λ (v : World). v.start) h.1
start_stays schema w _ (tells_stop answer h) = refl
start_stays schema w _ (reads_live place answer h) = refl
start_stays schema w _ (reads_committed place answer h) = refl
start_stays schema w _ (reads_after table count answer h) = refl
start_stays schema w _ (tells_journal answer h) = refl
start_stays schema w _ (closes rows entries h) = refl
start_stays schema w _ (watches seen h) = refl
start_stays schema w _ (looks seen now h) = refl

start_is : (schema : Schema) (start : Rows) (w : World) → Reaches schema (starting start) w → w.start ≡ start
start_is schema start _ at_start = refl
start_is schema start _ (by_step w new before step) = start_stays schema w new step ∙ start_is schema start w before

pub committed_is_serial : CommittedIsSerial
committed_is_serial schema start w reached =
    let at = start_is schema start w reached.1 in
    (at, (fine schema start w reached).serial_commits ∙ ap (λ (r : Rows). serial schema r (changes_in w.line)) at)

pub alone_is_serial : AloneIsSerial
alone_is_serial schema start w reached none rows live =
    let alone = live_alone schema w (fine schema start w reached) none rows live in
    (alone, alone ∙ (committed_is_serial schema start w reached).1)

pub noted_clash_stands : NotedClashStands
noted_clash_stands schema start w reached = (fine schema start w reached).noted

-- ---- a change on the live rows

pub footprint_on_live : FootprintOnLive
footprint_on_live schema start w reached rows live xid o is =
    footprint_live schema w (fine schema start w reached) xid o is rows live

pub outcome_on_live : OutcomeOnLive
outcome_on_live schema start w reached rows live xid o is c free = (
  outcome_live schema w (fine schema start w reached) xid o is rows live c free,
  inverse_live schema w (fine schema start w reached) xid o is rows live c free,
)

-- ---- the live rows after each call

-- the next world, as the call says it
after : (schema : Schema) (start : Rows) (w new next : World) → IsReached schema start w → Step schema w new
    → new ≡ next → IsFine schema next
after schema start w new next reached step is =
    subst (IsFine schema) is (fine_step schema w new (fine schema start w reached) step)

carried : (schema : Schema) (new next : World) (rows : Rows) → new ≡ next → IsLive schema next rows
    → IsLive schema new rows
carried schema new next rows is = subst (λ (v : World). IsLive schema v rows) (sym is)

pub live_after_open : LiveAfterOpen
live_after_open schema start w new reached rows live xid (Ok u) h =
    carried schema new (opened_with w xid) rows h.3
    (live_opened schema w (fine schema start w reached) rows live xid h.1 (after schema start w new (opened_with w xid) reached (opens xid (Ok u) new h) h.3))
live_after_open schema start w new reached rows live xid (Err AlreadyOpen) h = carried schema new w rows h.2 live
live_after_open schema start w new reached rows live xid (Err TooManyOpen) h = carried schema new w rows h.3 live
live_after_open schema start w new reached rows live xid (Err Stopped) h = carried schema new w rows h.1 live
live_after_open schema start w new reached rows live xid (Err OutOfMemory) h = carried schema new w rows h.3 live

pub live_after_done : LiveAfterDone
live_after_done schema start w new reached rows live xid o is sub c h =
    carried schema new (done_with w xid o (Change sub c)) (effect schema rows c) h.3
    (live_acted schema w (fine schema start w reached) rows live xid o is sub c h.1
    (after schema start w new (done_with w xid o (Change sub c)) reached (acts xid o sub c (Ok IsDone) new is h) h.3))

pub live_after_skip : LiveAfterSkip
live_after_skip schema start w new reached rows live xid o is sub c h =
    let skipped = (outcome_on_live schema start w reached rows live xid o is c h.1).0 ∙ h.2 in
    carried schema new (done_with w xid o (Change sub c)) rows h.3
    (subst (IsLive schema (done_with w xid o (Change sub c))) (effect_skipped schema rows c skipped)
    (live_acted schema w (fine schema start w reached) rows live xid o is sub c h.1
    (after schema start w new (done_with w xid o (Change sub c)) reached (acts xid o sub c (Ok IsSkipped) new is h) h.3)))

pub live_after_held : LiveAfterHeld
live_after_held holder schema start w new reached rows live xid o is sub c h =
    carried schema new (wanting w xid o sub c) rows h.2
    (live_wanting schema w (fine schema start w reached) rows live xid o is sub c w.stopped
    (after schema start w new (wanting w xid o sub c) reached (acts xid o sub c (Ok (Held holder)) new is h) h.2))

pub live_after_clash : LiveAfterClash
live_after_clash cause schema start w new reached rows live xid o is sub c h =
    carried schema new (record (wanting w xid o sub c) { stopped = Some (ByClash xid c cause) }) rows h.3
    (live_wanting schema w (fine schema start w reached) rows live xid o is sub c (Some (ByClash xid c cause))
    (after schema start w new (record (wanting w xid o sub c) { stopped = Some (ByClash xid c cause) }) reached
    (acts xid o sub c (Ok (Clashed cause)) new is h) h.3))

pub live_after_touch : LiveAfterTouch
live_after_touch schema start w new reached rows live xid o is sub (Ok u) h =
    carried schema new (done_with w xid o (Touch sub)) rows h.1
    (live_touched schema w (fine schema start w reached) rows live xid o is sub
    (after schema start w new (done_with w xid o (Touch sub)) reached (touches xid o sub (Ok u) new is h) h.1))
live_after_touch schema start w new reached rows live xid o is sub (Err fault) h =
    carried schema new w rows (refused_stays w new fault h) live

-- the record of a transaction that was rolled back
after_back : (w new : World) (xid : ℕ) (o after : Opened) (sub : ℕ) → GoesBack w xid o sub new
    → get new.opened xid ≡ Some after
    → after ≡ record { items = o.items ++ BackTo sub ∷ []; wants = None }
after_back w new xid o after sub h at =
    same_some after (record { items = o.items ++ BackTo sub ∷ []; wants = None })
    (sym at ∙ ap (λ (v : World). get v.opened xid) h ∙ got_same w.opened xid (record { items = o.items ++ BackTo sub ∷ []; wants = None }))

pub rollback_leaves_beginning : RollbackLeavesBeginning
rollback_leaves_beginning w new xid o after sub h at =
    let cut = work_before xid sub o.items in
    (cut.0, cut.1 ∙ ap (λ (r : Opened). work xid r ++ cut.0) (sym (after_back w new xid o after sub h at)))

-- ---- what it holds, and what takes its changes back

pub done_comes_last : DoneComesLast
done_comes_last schema w new xid o after sub c h at =
    let next : Opened = record { items = o.items ++ Change sub c ∷ []; wants = None } in
    let is : after ≡ next = same_some after next (sym at ∙ ap (λ (v : World). get v.opened xid) h ∙ got_same w.opened xid next) in
    let work_is : work xid after ≡ work xid o ++ c ∷ [] = ap (work xid) is ∙ work_with_change xid sub o.items c in (
      work_is,
      ap (λ (v : World). held_cells schema v.committed (work xid after)) h
          ∙ ap (held_cells schema w.committed) work_is
          ∙ held_append schema w.committed (work xid o) (c ∷ [])
          ∙ ap (λ cells. holds schema w xid o ++ cells) (append-nil (footprint schema (own_rows schema w xid o) c)),
      ap (λ (v : World). inverses schema v.committed (work xid after)) h
          ∙ ap (inverses schema w.committed) work_is
          ∙ inverses_append schema w.committed (work xid o) (c ∷ []),
    )

pub rollback_keeps_the_rest : RollbackKeepsTheRest
rollback_keeps_the_rest schema w new xid o after sub h at gone was =
    let committed : w.committed ≡ new.committed = sym (ap (λ (v : World). v.committed) h) in (
      ap (λ (r : Rows). held_cells schema r (work xid o)) committed
          ∙ ap (held_cells schema new.committed) was
          ∙ held_append schema new.committed (work xid after) gone,
      ap (λ (r : Rows). inverses schema r (work xid o)) committed
          ∙ ap (inverses schema new.committed) was
          ∙ inverses_append schema new.committed (work xid after) gone,
    )

-- ---- the live rows after the other calls

pub live_after_rollback : LiveAfterRollback
live_after_rollback schema start w new reached rows live xid o next is sub h at gone was =
    let cut : Opened = record { items = o.items ++ BackTo sub ∷ []; wants = None } in
    let kept : work xid cut ≡ work xid next = ap (work xid) (sym (after_back w new xid o next sub h at)) in
    let committed : new.committed ≡ w.committed = ap (λ (v : World). v.committed) h in
    subst (λ (r : Rows). IsLive schema new (all_back rows (inverses schema (serial schema r (work xid next)) gone)))
    (sym committed)
    (carried schema new (done_with w xid o (BackTo sub)) (all_back rows (inverses schema (serial schema w.committed (work xid next)) gone)) h
    (live_cut schema w (fine schema start w reached) rows live xid o is sub (work xid next) gone was kept
    (after schema start w new (done_with w xid o (BackTo sub)) reached (goes_back xid o sub new is h) h)))

pub live_after_abort : LiveAfterAbort
live_after_abort schema start w new reached rows live xid o is h =
    carried schema new (aborted_with w xid) (all_back rows (inverses schema w.committed (work xid o))) h
    (live_aborted schema w (fine schema start w reached) rows live xid o is
    (after schema start w new (aborted_with w xid) reached (aborts xid o new is h) h))

pub live_after_commit : LiveAfterCommit
live_after_commit schema start w new reached rows live xid o is info h =
    carried schema new (committed_with schema w xid o info) rows h
    (live_committed schema w (fine schema start w reached) rows live xid o is info
    (after schema start w new (committed_with schema w xid o info) reached (commits xid o info new is h) h))

pub commit_moves_no_holds : CommitMovesNoHolds
commit_moves_no_holds schema start w new reached xid o is info h other p differs at =
    let next = committed_with schema w xid o info in (
      ap (λ (v : World). get v.opened other) h ∙ gone_other w.opened xid other differs ∙ at,
      ap (λ (v : World). holds schema v other p) h
          ∙ sym (holds_stay schema w (fine schema start w reached) xid o info is other p differs at),
      ap (λ (v : World). inverses schema v.committed (work other p)) h
          ∙ sym (inverses_stay schema w (fine schema start w reached) xid o is other p differs at),
    )

-- ---- the committed rows, by the live ones

pub unheld_is_committed : UnheldIsCommitted
unheld_is_committed schema start w reached rows live cell unheld =
    unheld_live schema w (fine schema start w reached) rows live cell unheld

pub commit_leaves_other_cells : CommitLeavesOtherCells
commit_leaves_other_cells schema w new xid o info h cell free =
    subst (λ (r : Rows). SameAt schema w.committed r cell) (sym (ap (λ (v : World). v.committed) h))
    (leaves_free_cell schema w.committed (work xid o) cell free)

-- ---- the line

stays : (w new : World) → new ≡ w → (more : List Past) × (new.line ≡ w.line ++ more)
stays w new is = ([], ap (λ (v : World). v.line) is ∙ sym (append-nil w.line))

same_line : (w new next : World) → new ≡ next → next.line ≡ w.line → (more : List Past) × (new.line ≡ w.line ++ more)
same_line w new next is line = ([], ap (λ (v : World). v.line) is ∙ line ∙ sym (append-nil w.line))

pub line_grows : LineGrows
line_grows schema w _ (opens xid (Ok u) new h) = same_line w new (opened_with w xid) h.3 refl
line_grows schema w _ (opens xid (Err AlreadyOpen) new h) = stays w new h.2
line_grows schema w _ (opens xid (Err TooManyOpen) new h) = stays w new h.3
line_grows schema w _ (opens xid (Err Stopped) new h) = stays w new h.1
line_grows schema w _ (opens xid (Err OutOfMemory) new h) = stays w new h.3
line_grows schema w _ (acts xid o sub c (Ok IsDone) new is h) =
    same_line w new (done_with w xid o (Change sub c)) h.3 refl
line_grows schema w _ (acts xid o sub c (Ok IsSkipped) new is h) =
    same_line w new (done_with w xid o (Change sub c)) h.3 refl
line_grows schema w _ (acts xid o sub c (Ok (Held holder)) new is h) = same_line w new (wanting w xid o sub c) h.2 refl
line_grows schema w _ (acts xid o sub c (Ok (Clashed cause)) new is h) =
    same_line w new (record (wanting w xid o sub c) { stopped = Some (ByClash xid c cause) }) h.3 refl
line_grows schema w _ (acts xid o sub c (Err fault) new is h) = stays w new (refused_stays w new fault h)
line_grows schema w _ (touches xid o sub (Ok u) new is h) = same_line w new (done_with w xid o (Touch sub)) h.1 refl
line_grows schema w _ (touches xid o sub (Err fault) new is h) = stays w new (refused_stays w new fault h)
line_grows schema w _ (goes_back xid o sub new is h) = same_line w new (done_with w xid o (BackTo sub)) h refl
line_grows schema w _ (commits xid o info new is h) =
    (record { xid = xid; items = o.items; info = info } ∷ [], ap (λ (v : World). v.line) h)
line_grows schema w _ (aborts xid o new is h) = same_line w new (aborted_with w xid) h refl
line_grows schema w _ (stops_held sent waiter (Some holder) new h) =
    same_line w new (record w { stopped = Some (ByHold waiter holder) }) h.1 refl
line_grows schema w _ (stops_held sent waiter None new h) = stays w new h.1
line_grows schema w _ (tells_stop answer h) = stays w w refl
line_grows schema w _ (reads_live place answer h) = stays w w refl
line_grows schema w _ (reads_committed place answer h) = stays w w refl
line_grows schema w _ (reads_after table count answer h) = stays w w refl
line_grows schema w _ (tells_journal answer h) = stays w w refl
line_grows schema w _ (closes rows entries h) = stays w w refl
line_grows schema w _ (watches seen h) = stays w w refl
line_grows schema w _ (looks seen now h) = stays w w refl
