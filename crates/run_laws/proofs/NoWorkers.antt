-- A run without threads is a run with no workers.
use Rattle.std.proofs.Common.{◌≡◌, ◌≢◌, ℕ, List, [], ◌∷◌, ◌++◌, Option, Some, None, refl, sym, ap, subst, ◌∙◌, append-nil, ◌⊎◌, inl, inr}
use Rattle.std.specs.Prelude.{map, IsSomeAnd}
use Rattle.std.proofs.lemmas.List.{map-append}
use Rattle.std.specs.Ordering.{nat_cmp}
use Rattle.std.specs.FinMap as finite
use Rattle.std.specs.FinMap.{get, get-empty}
use Rattle.model.specs.declared.change.Change as change_type
use Rattle.model.specs.declared.item.Item.{Item}
use Rattle.model.specs.declared.item.Item.TheVariants.{Change, Touch, BackTo, Last}
use Rattle.model.specs.Rows.{Rows}
use Rattle.model.specs.Effect.{ClashCause, NullKey, Unique}
use Rattle.model.specs.Survivors.{survivors}
use Rattle.model.specs.SurvivorLemmas.{survivors_with}
use Rattle.frames.specs.declared.fault.FrameFault.TheVariants.{Device}
use Rattle.frames.specs.declared.item.CopyItem.{CopyItem}
use Rattle.frames.specs.declared.item.CopyItem.TheVariants.{Wal, Keepalive, Done}
use Rattle.session.specs.declared.phase.Phase.{Phase}
use Rattle.session.specs.declared.phase.Phase.TheVariants.{Outside, Begun, Block}
use Rattle.session.specs.Sized.{SizedItems, item_of}
use Rattle.session.specs.State.{Way, Direct, Worker, Spooled, Open, OpenTransactions, Committed, State, Setting, start, IsHere}
use Rattle.session.specs.Table.{new_open}
use Rattle.session.specs.StreamEvents.{StreamEvent, NoEvent, TransactionOpens, ItemComes, TransactionCommits, TransactionAborts, Tells, IsChange, IsGiving}
use Rattle.run.specs.declared.end.End.{End}
use Rattle.run.specs.declared.end.End.TheVariants as ends
use Rattle.run.specs.declared.outcome.Outcome.{Outcome}
use Rattle.run.specs.Cause.{schema_of, IsNext, IsCause}
use Rattle.run.specs.Devices.{DeviceState}
use Rattle.run.specs.Progress.{Progress, Leads, start_progress}
use Rattle.run.specs.Run.{IsRun}
use Rattle.run.specs.StreamPart.{StreamPart}
use Rattle.world.specs.ListingLemmas.{xid_cases, got_same, got_other, gone_same, gone_other}
use Rattle.world.specs.Steps.{Reaches}
use Rattle.world.specs.World.{Opened, OpenOnes, World, starting}
use Rattle.world_parts.specs.LedLemmas.{led_reached}
use Rattle.run_laws.proofs.Begun.{IsSane, open_items, begun_in, begun, Moves}
use Rattle.run_laws.proofs.WorldAt.{committed_past, open_ones, world_at, TellsRun, conflict, IsTurnOf, IsStoppedBy}
use Rattle.run_laws.specs.Runs.{IsAtMostOne, DoesAtCommit, NextChange}
use Rattle.run_laws.specs.Threads.{IsWork, work_of, done_by_commit, DoesWork}
use Rattle.run_laws.specs.ThreadedRun.{HasConflict, IsThreadedCause, IsThreadedRun}
use Rattle.run_laws.proofs.Reaching.{handled_told}
use Rattle.run_laws.proofs.Running.{none_is, begun_open, run_reached, run_stopped}
use Rattle.run_laws.proofs.Telling.{same_open, not_there, sane_start}
use Rattle.run_laws.proofs.Threading.{sane_items, commits_open}
use Rattle.run_laws.proofs.Ways.{NoneWorks, AreAlike, handled, start_alike}

-- ---- the work of each transaction is what survives

-- all of its work survives
abbrev pub Survives : ℕ → Way → SizedItems → Type 0
Survives xid way items = work_of xid way items ≡ survivors xid (map item_of items)

-- so it is with each of these
abbrev pub AllSurvive : OpenTransactions → Type 0
AllSurvive m = (xid : ℕ) (o : Open) → get m xid ≡ Some o → Survives xid o.way o.items

-- so it is with each of these commits: for each all was done that survived, and nothing else
abbrev pub ArePlain : List Committed → Type 0
ArePlain past = map done_by_commit past ≡ map committed_past past

-- So it is with each transaction that is open in the state, and with each of its commits.
pub record IsPlain (s : State) : Type 0 where
  pub opened : AllSurvive s.transactions
  pub past : ArePlain s.past

put_in : (m : OpenTransactions) (xid : ℕ) (o : Open) → AllSurvive m → Survives xid o.way o.items
    → AllSurvive (finite.insert m xid o)
put_in m xid o all this x p at =
    elim (xid_cases x xid) [
      | inl is ↦
          let same : o ≡ p = same_open o p (sym (got_same m xid o) ∙ ap (get (finite.insert m xid o)) (sym is) ∙ at) in
          subst (λ (n : ℕ). Survives n p.way p.items) (sym is)
          (subst (λ (q : Open). Survives xid q.way q.items) same this)
      | inr differs ↦ all x p (sym (got_other m xid o x differs) ∙ at)
    ]

taken_out : (m : OpenTransactions) (xid : ℕ) → AllSurvive m → AllSurvive (finite.remove m xid)
taken_out m xid all x p at =
    elim (xid_cases x xid) [
      | inl is ↦ absurd (not_there p (sym (gone_same m xid) ∙ ap (get (finite.remove m xid)) (sym is) ∙ at))
      | inr differs ↦ all x p (sym (gone_other m xid x differs) ∙ at)
    ]

none_given : (xid : ℕ) (way : Way) → Survives xid way []
none_given xid Direct = refl
none_given xid Worker = refl
none_given xid Spooled = refl

with_change : (xid sub : ℕ) (c : change_type.Change) (size : ℕ) (items : SizedItems) → Survives xid Direct items
    → Survives xid Direct (items ++ (Change sub c, size) ∷ [])
with_change xid sub c size items all =
    let more = map-append item_of items ((Change sub c, size) ∷ []) in
    more ∙ ap (λ is. is ++ Change sub c ∷ []) all ∙ sym (survivors_with xid (map item_of items) (Change sub c))
    ∙ ap (survivors xid) (sym more)

-- with one item more, which is a change if the transaction goes directly
with_item : (xid : ℕ) (way : Way) (item : Item) (size : ℕ) (items : SizedItems) → way ≢ Worker
    → (way ≡ Direct → IsChange item) → Survives xid way items → Survives xid way (items ++ (item, size) ∷ [])
with_item xid Direct (Change sub c) size items not change all = with_change xid sub c size items all
with_item xid Direct (Touch sub) size items not change all = absurd (change refl)
with_item xid Direct (BackTo sub) size items not change all = absurd (change refl)
with_item xid Direct Last size items not change all = absurd (change refl)
with_item xid Worker item size items not change all = absurd (not refl)
with_item xid Spooled item size items not change all = refl

not_worker : Direct ≡ Worker → ⊥
not_worker e = cc

not_spooled : Direct ≡ Spooled → ⊥
not_spooled e = cc

worker_not_spooled : Worker ≡ Spooled → ⊥
worker_not_spooled e = cc

-- ---- what is told keeps it so

module _ (s t : State) (none : NoneWorks s.transactions) (all : AllSurvive s.transactions) where
  gives : (xid : ℕ) (item : Item) (size : ℕ) (o : Open) → IsGiving s t xid item size o
      → (o.way ≡ Direct → IsChange item) → AllSurvive t.transactions
  gives xid item size o is change =
      subst AllSurvive (sym is.transactions)
      (put_in s.transactions xid (record o { items = o.items ++ (item, size) ∷ [] }) all
      (with_item xid o.way item size o.items (none xid o is.present) change (all xid o is.present)))

  all_survive : (what : StreamEvent) → Tells s t what → Moves s t what → AllSurvive t.transactions
  all_survive NoEvent tells moves = subst AllSurvive (sym tells.transactions) all
  all_survive (TransactionOpens xid way) tells moves =
      subst AllSurvive (sym tells.transactions) (put_in s.transactions xid (new_open way) all (none_given xid way))
  all_survive (ItemComes xid Direct item size) tells moves = gives xid item size tells.0 tells.2 (λ e. moves.0)
  all_survive (ItemComes xid Worker item size) tells moves =
      gives xid item size tells.0 tells.2 (λ e. absurd (not_worker (sym e ∙ tells.1)))
  all_survive (ItemComes xid Spooled item size) tells moves =
      gives xid item size tells.0 tells.2 (λ e. absurd (not_spooled (sym e ∙ tells.1)))
  all_survive (TransactionCommits c) tells moves = subst AllSurvive (sym tells.transactions) (taken_out s.transactions c.xid all)
  all_survive (TransactionAborts xid way) tells moves =
      subst AllSurvive (sym tells.2.transactions) (taken_out s.transactions xid all)

  same_past : (what : StreamEvent) → Tells s t what → ArePlain s.past → ArePlain t.past
  same_past NoEvent tells same = subst ArePlain (sym tells.past) same
  same_past (TransactionOpens xid way) tells same = subst ArePlain (sym tells.past) same
  same_past (ItemComes xid way item size) tells same = subst ArePlain (sym tells.2.past) same
  same_past (TransactionCommits c) tells same =
      let this : Survives c.xid c.way c.items =
      elim tells.final [
        | inl same ↦ subst (Survives c.xid c.way) (sym same) (all c.xid (record { way = c.way; items = tells.items }) tells.present)
        | inr skipped ↦ subst (λ (way : Way). Survives c.xid way c.items) (sym skipped.0) refl
      ] in
      subst ArePlain (sym tells.past)
      (map-append done_by_commit s.past (c ∷ []) ∙ ap (λ line. line ++ done_by_commit c ∷ []) same
      ∙ ap (λ is. map committed_past s.past ++ (record { xid = c.xid; items = is; info = c.info }) ∷ []) this
      ∙ sym (map-append committed_past s.past (c ∷ [])))
  same_past (TransactionAborts xid way) tells same = subst ArePlain (sym tells.2.past) same

-- ---- items keep it so

plain_items : (g : Setting) → g.workers ≡ 0 → (p q : Progress) (items : List CopyItem) → IsSane p.state → AreAlike g p p
    → IsPlain p.state → Leads g p items q → IsPlain q.state
plain_items g zero p q [] sane alike plain is = subst (λ (r : Progress). IsPlain r.state) is plain
plain_items g zero p q (item ∷ items) sane alike plain is =
    let t = is.0.state in
    let now = handled_told g p is.0 item sane is.1 in
    let none = alike.state.ways zero in
    plain_items g zero is.0 q items now.3 (handled g g p p is.0 is.0 item refl refl alike is.1 is.1)
    (record {
      opened = all_survive p.state t none plain.opened now.0 now.1 now.2;
      past = same_past p.state t none plain.opened now.0 now.1 plain.past;
    }) is.2

plain_start : IsPlain start
plain_start = record { opened = λ xid o at. absurd (not_there o (sym (get-empty nat_cmp xid) ∙ at)); past = refl }

pub led_plain : (g : Setting) → g.workers ≡ 0 → (p : Progress) (items : List CopyItem) → Leads g start_progress items p
    → IsPlain p.state
led_plain g zero p items = plain_items g zero start_progress p items sane_start (start_alike g) plain_start

-- ---- a change that comes next

-- what is so of it makes something else so
next_so : {P Q : Opened → ℕ → change_type.Change → Type 0} (w : World) (xid : ℕ) (work : List Item) → NextChange w xid work P
    → ((o : Opened) (sub : ℕ) (c : change_type.Change) → P o sub c → Q o sub c) → NextChange w xid work Q
next_so w xid work next so =
    record {
      transaction = next.transaction;
      subtransaction = next.subtransaction;
      change = next.change;
      so = so next.transaction next.subtransaction next.change next.so;
      present = next.present;
      after = next.after;
      in_turn = next.in_turn;
    }

-- ---- the transaction that is open in the world

one_is : (a b : ℕ × List Item) → Some a ≡ Some b → a ≡ b
one_is a b e = cc

none_begun : (b : ℕ × List Item) → None ≡ Some b → ⊥
none_begun b e = cc

same_done : (a b : Opened) → Some a ≡ Some b → a ≡ b
same_done a b e = cc

module _ (g : Setting) (s : State) (rest : List CopyItem) (sane : IsSane s) (plain : IsPlain s) where
  -- It is open in the state, and this is its work.
  abbrev HasWork : ℕ → List Item → Type 0
  HasWork xid work =
      (o : Open) × (get s.transactions xid ≡ Some o) × IsWork g s rest xid o.way o.items work

  -- It is open in the state, and does its work.
  abbrev IsOpen : ℕ → Opened → Type 0
  IsOpen xid done = (o : Open) × (get s.transactions xid ≡ Some o) × DoesWork g s rest xid o done

  begun_work : (xid : ℕ) (items work : List Item) → begun s ≡ Some (xid, items) → survivors xid items ≡ work
      → HasWork xid work
  begun_work xid items work is survive = by_phase s.phase sane.here is
    where
      by_found : (x : ℕ) (found : Option Open) → get s.transactions x ≡ found → IsSomeAnd found (λ o. o.way ≡ Direct)
          → ◌≡◌ {A = Option (ℕ × List Item)} (Some (x, open_items found)) (Some (xid, items)) → HasWork xid work
      by_found x None at here e = absurd here
      by_found x (Some o) at here e =
          let same = one_is (x, map item_of o.items) (xid, items) e in
          let there : get s.transactions xid ≡ Some o =
          ap (get s.transactions) (ap (λ (b : ℕ × List Item). b.0) (sym same)) ∙ at in (
            o,
            there,
            subst (λ (way : Way). IsWork g s rest xid way o.items work) (sym here)
                (sym survive ∙ ap (survivors xid) (ap (λ (b : ℕ × List Item). b.1) (sym same))
                ∙ sym (subst (λ (way : Way). Survives xid way o.items) here (plain.opened xid o there))),
          )

      by_phase : (p : Phase) → IsHere p s.transactions → begun_in p s.transactions ≡ Some (xid, items) → HasWork xid work
      by_phase Outside here e = absurd (none_begun (xid, items) e)
      by_phase (Begun x final) here e = by_found x (get s.transactions x) refl here e
      by_phase (Block x) here e = absurd (none_begun (xid, items) e)

  -- what is final of a transaction's items is its work, if it isn't spooled
  final_work : (xid : ℕ) (way : Way) (items final : SizedItems) (work : List Item) → survivors xid (map item_of final) ≡ work
      → (final ≡ items) ⊎ ((way ≡ Spooled) × (final ≡ [])) → Survives xid way items → way ≢ Spooled
      → work ≡ work_of xid way items
  final_work xid way items final work does is all not =
      elim is [
        | inl same ↦ sym does ∙ ap (λ (is : SizedItems). survivors xid (map item_of is)) same ∙ sym all
        | inr skipped ↦ absurd (not skipped.0)
      ]

  committed_work : (first last : ℕ) (payload : List ℕ) (items : List CopyItem) (xid : ℕ) (work : List Item)
      → (does : DoesAtCommit g s payload xid work)
      → (o : Open) × (get s.transactions xid ≡ Some o) × IsWork g s (Wal first last payload ∷ items) xid o.way o.items work
  committed_work first last payload items xid work does =
      let c = does.0.committed in
      let closes = commits_open g s payload xid sane does.0 in
      let there : get s.transactions xid ≡ Some (record { way = c.way; items = closes.1.0 }) =
      subst (λ x. get s.transactions x ≡ Some (record { way = c.way; items = closes.1.0 })) does.0.xid_is closes.1.1 in (
        record { way = c.way; items = closes.1.0 },
        there,
        by_way c.way closes.1.0
            (final_work xid c.way closes.1.0 c.items work does.1 closes.1.2 (plain.opened xid (record { way = c.way; items = closes.1.0 }) there)),
      )
    where
      by_way : (way : Way) (was : SizedItems) → (way ≢ Spooled → work ≡ work_of xid way was)
          → IsWork g s (Wal first last payload ∷ items) xid way was work
      by_way Direct was is = is not_spooled
      by_way Worker was is = is worker_not_spooled
      by_way Spooled was is = does

  turn_work : (xid : ℕ) (work : List Item) → IsTurnOf g s rest xid work → HasWork xid work
  turn_work xid work turn = elim turn [ inl is ↦ begun_work xid is.0 work is.1 is.2 | inr next ↦ by_next rest next ]
    where
      by_next : (items : List CopyItem) → IsNext items (λ payload. DoesAtCommit g s payload xid work)
          → (o : Open) × (get s.transactions xid ≡ Some o) × IsWork g s items xid o.way o.items work
      by_next [] next = absurd next
      by_next (Wal first last payload ∷ items) next = committed_work first last payload items xid work next
      by_next (Keepalive last reply ∷ items) next = absurd next
      by_next (Done ∷ items) next = absurd next

  -- one that has done a beginning of its work
  works : (xid : ℕ) (work : List Item) (done : Opened) (left : List Item) → HasWork xid work → done.items ++ left ≡ work
      → IsOpen xid done
  works xid work done left is begins =
      (is.0, is.1, record { work = work; is_work = is.2; does = record { left = left; begins = begins } })

  -- it is the only one
  only : (m : OpenOnes) → IsAtMostOne m → (xid : ℕ) (done : Opened) → get m xid ≡ Some done → IsOpen xid done
      → (x : ℕ) (d : Opened) → get m x ≡ Some d → IsOpen x d
  only m alone xid done at is x d there =
      let same : xid ≡ x = alone xid x done d at there in
      subst (λ n. IsOpen n d) same (subst (IsOpen xid) (same_done done d (sym at ∙ ap (get m) same ∙ there)) is)

  -- in the world of the state it is the transaction that was begun
  begun_works : (b : Option (ℕ × List Item)) → begun s ≡ b → (xid : ℕ) (done : Opened)
      → get (open_ones b) xid ≡ Some done → IsOpen xid done
  begun_works None is xid done at = absurd (none_is done (sym (get-empty nat_cmp xid) ∙ at))
  begun_works (Some b) is xid done at =
      let work = survivors b.0 b.1 in
      let first : Opened = record { items = work; wants = None } in
      only (open_ones (Some b)) (begun_open (Some b)) b.0 first (got_same finite.empty b.0 first)
      (works b.0 work first [] (begun_work b.0 b.1 work is refl) (append-nil work)) xid done at

  -- in one that a conflict stops it is the one whose turn it is
  module _ (w : World) (xid : ℕ) (work : List Item) (turn : IsTurnOf g s rest xid work) (cause : ClashCause)
      (stopped : IsStoppedBy (schema_of g) w xid work cause) where
    stopped_works : IsAtMostOne w.opened → (x : ℕ) (d : Opened) → get w.opened x ≡ Some d → IsOpen x d
    stopped_works alone =
        only w.opened alone xid stopped.transaction stopped.present
        (works xid work stopped.transaction (Change stopped.subtransaction stopped.change ∷ stopped.after)
        (turn_work xid work turn) stopped.in_turn)

    stopped_conflict : HasConflict g s rest w cause
    stopped_conflict =
        let is = turn_work xid work turn in
        record {
          xid = xid;
          transaction = is.0;
          present = is.1;
          work = work;
          is_work = is.2;
          clashes = next_so w xid work stopped (λ o sub c stops. (stops.1.1, stops.1.2));
        }

-- ---- why a run ended

module _ (g : Setting) (rows : Rows) (old new : DeviceState) (part : StreamPart g old new) (w : World)
    (running : w.stopped ≡ None) where
  threaded_cause : (end : End) → IsCause rows part end
      → ((cause : ClashCause) → conflict end ≡ Some cause → HasConflict g part.progress.state part.rest w cause)
      → IsThreadedCause part w end
  threaded_cause ends.Clean is clashes = (is.1, running)
  threaded_cause (ends.Frame Device) is clashes = is.1
  threaded_cause (ends.Frame fault) is clashes = is.1
  threaded_cause (ends.Msg fault) is clashes =
      elim is [ inl next ↦ (next.1, next.2) | inr last ↦ absurd last.why ]
  threaded_cause (ends.Session fault) is clashes =
      elim is [ inl next ↦ (next.1, next.2) | inr last ↦ absurd last.why ]
  threaded_cause (ends.Rel fault) is clashes =
      elim is [ inl next ↦ (next.1, next.2) | inr last ↦ absurd last.why ]
  threaded_cause (ends.Unique table key) is clashes =
      (elim is [ inl next ↦ next.1 | inr last ↦ last.well ], clashes (Unique table key) refl)
  threaded_cause (ends.NullKey table) is clashes =
      (elim is [ inl next ↦ next.1 | inr last ↦ last.well ], clashes (NullKey table) refl)
  threaded_cause (ends.HeldKey xid holder) is clashes =
      elim is [ inl next ↦ absurd next.2 | inr last ↦ absurd last.why ]
  threaded_cause ends.OutOfMemory is clashes = is.1

-- ---- a run

no_cause : (cause : ClashCause) → None ≡ Some cause → ⊥
no_cause cause e = cc

one_cause : (a b : ClashCause) → Some a ≡ Some b → a ≡ b
one_cause a b e = cc

module _ (g : Setting) (rows : Rows) (old new : DeviceState) (o : Outcome) (run : IsRun g rows old new o)
    (zero : g.workers ≡ 0) where
  -- where it ended
  abbrev s : State
  s = run.part.progress.state

  sane : IsSane s
  sane = sane_items g start_progress run.part.progress run.part.handled sane_start run.part.lawful

  plain : IsPlain s
  plain = led_plain g zero run.part.progress run.part.handled run.part.lawful

  -- a run with workers that handled the same items
  abbrev IsSame : Type 0
  IsSame =
      (same : IsThreadedRun g rows old new o) × (same.part.handled ≡ run.part.handled)
      × ∥ Reaches (schema_of g) (starting rows) same.world ∥₁

  at_world : (w : World) → TellsRun g rows s o w
      → ((xid : ℕ) (done : Opened) → get w.opened xid ≡ Some done → IsOpen g s run.part.rest sane plain xid done)
      → ((cause : ClashCause) → conflict o.end ≡ Some cause → HasConflict g s run.part.rest w cause) → IsSame
  at_world w tells opened clashes = (
    record {
      part = run.part;
      world = w;
      is_world = record { led = led_reached (schema_of g) rows w ∣ tells.reached ∣₁; line = tells.line ∙ sym plain.past; opened = opened };
      cause = threaded_cause g rows old new run.part w tells.running o.end run.cause clashes;
      left = tells.left;
      schema = run.schema;
    },
    refl,
    ∣ tells.reached ∣₁,
  )

  by_conflict : (found : Option ClashCause) → conflict o.end ≡ found → IsSame
  by_conflict None is =
      at_world (world_at (schema_of g) rows s) (run_reached g rows old new o run is)
      (begun_works g s run.part.rest sane plain (begun s) refl)
      (λ cause e. absurd (no_cause cause (sym is ∙ e)))
  by_conflict (Some cause) is =
      let stopped = run_stopped g rows old new o run cause is in
      at_world stopped.0 stopped.1
      (stopped_works g s run.part.rest sane plain stopped.0 stopped.2 stopped.3 stopped.4 cause stopped.5 stopped.1.alone)
      (λ why e.
      subst (HasConflict g s run.part.rest stopped.0) (one_cause cause why (sym is ∙ e))
      (stopped_conflict g s run.part.rest sane plain stopped.0 stopped.2 stopped.3 stopped.4 cause stopped.5))

  pub without_workers : IsSame
  without_workers = by_conflict (conflict o.end) refl
