-- Each thing that a leader or a worker does keeps all of its transactions in step with the world.
use Rattle.std.proofs.Common.{◌≡◌, ◌≢◌, ℕ, List, [], ◌∷◌, ◌++◌, Option, Some, None, refl, sym, ap, subst, ◌∙◌, append_assoc, inl, inr}
use Rattle.std.specs.Prelude.{map, Ok}
use Rattle.std.proofs.lemmas.List.{map-append}
use Rattle.std.specs.Ordering.{nat_cmp}
use Rattle.std.specs.FinMap as finite
use Rattle.std.specs.FinMap.{get}
use Rattle.model.specs.declared.change.Change as change_type
use Rattle.model.specs.declared.item.Item.{Item}
use Rattle.model.specs.declared.item.Item.TheVariants.{Change}
use Rattle.model.specs.Rows.{Rows}
use Rattle.messages.specs.declared.message.Message.{Message}
use Rattle.frames.specs.declared.item.CopyItem.{CopyItem}
use Rattle.frames.specs.declared.item.CopyItem.TheVariants.{Wal}
use Rattle.session.specs.Sized.{SizedItems, item_of}
use Rattle.session.specs.Lawful.{Admits}
use Rattle.session.specs.State.{Way, Direct, Worker, Spooled, Open, Committed, State, Setting, start}
use Rattle.session.specs.StreamEvents.{Same, IsOpening, IsGiving, IsCommitting, IsAborting}
use Rattle.run.specs.Cause.{schema_of}
use Rattle.world.specs.ListingLemmas.{xid_cases, got_same, got_other, gone_same, gone_other}
use Rattle.world.specs.Steps.{Opens, Step, opens, commits, aborts, done_with, wanting, committed_with, aborted_with}
use Rattle.world.specs.World.{Opened, Stop, World, starting}
use Rattle.world_parts.specs.Led.{IsLed}
use Rattle.world_parts.specs.LedLemmas.{led_start, led_step}
use Rattle.run_laws.specs.Runs.{CommitsNext}
use Rattle.run_laws.specs.Threads.{IsWork, work_of, done_by_commit}
use Rattle.run_laws.specs.Leading.{Outbox, InStep, IsAgreed, AreInStep, IsWith}
use Rattle.run_laws.specs.Turns.{empty_outbox, with_queued}
use Rattle.session.proofs.Stepped.{not_longer}
use Rattle.run_laws.proofs.Threading.{next_commits, one_state, one_commit}

-- The next message commits none.
abbrev pub CommitsNone : Setting → State → List CopyItem → Type 0
CommitsNone g s rest = (xid : ℕ) → ¬ (CommitsNext g s rest xid)

-- What this transaction has to do at first, it has to do later too.
abbrev KeepsWork : Setting → State → State → List CopyItem → List CopyItem → ℕ → Type 0
KeepsWork g s t rest more xid =
    (way : Way) (items : SizedItems) (work : List Item) → IsWork g s rest xid way items work → IsWork g t more xid way items work

-- so it is where the next message doesn't commit it
keeps_work : (g : Setting) (s t : State) (rest more : List CopyItem) (xid : ℕ) → ¬ (CommitsNext g s rest xid)
    → KeepsWork g s t rest more xid
keeps_work g s t rest more xid none Direct items work is = is
keeps_work g s t rest more xid none Worker items work is = is
keeps_work g s t rest more xid none Spooled items work is = absurd (none (next_commits g s rest xid Spooled items work refl is))

module _ (g : Setting) (rows : Rows) (s t : State) (rest more : List CopyItem) where
  -- a transaction that is as it was
  same_agreed : (xid : ℕ) (o p : Option Open) (l k : Option Outbox) (d e : Option Opened) → p ≡ o → k ≡ l → e ≡ d
      → KeepsWork g s t rest more xid → IsAgreed g s rest xid o l d → IsAgreed g t more xid p k e
  same_agreed xid o p l k d e o_is l_is d_is next agreed =
      subst (λ x. IsAgreed g t more xid x k e) (sym o_is)
      (subst (λ x. IsAgreed g t more xid o x e) (sym l_is)
      (subst (λ x. IsAgreed g t more xid o l x) (sym d_is) (later o l d agreed)))
    where
      later : (o : Option Open) (l : Option Outbox) (d : Option Opened) → IsAgreed g s rest xid o l d → IsAgreed g t more xid o l d
      later None None None is = tt
      later (Some o) None None is = is
      later (Some o) (Some l) (Some d) is = record {
        all_work = next o.way o.items (l.sent ++ l.queued) is.all_work;
        does = is.does;
        wants = is.wants;
      }
      later None (Some l) d is = absurd is
      later (Some o) (Some l) None is = absurd is
      later None None (Some d) is = absurd is
      later (Some o) None (Some d) is = absurd is

  -- one transaction moves, and all others are as they were
  one_moves : (outboxes after : ℕ → Option Outbox) (w new : World) (xid : ℕ) → AreInStep g rows s rest outboxes w
      → IsLed (schema_of g) rows new → new.line ≡ map done_by_commit t.past
      → IsAgreed g t more xid (get t.transactions xid) (after xid) (get new.opened xid)
      → ((x : ℕ) → x ≢ xid → (get t.transactions x ≡ get s.transactions x) × (after x ≡ outboxes x) × (get new.opened x ≡ get w.opened x))
      → ((x : ℕ) → x ≢ xid → KeepsWork g s t rest more x)
      → AreInStep g rows t more after new
  one_moves outboxes after w new xid are led line here elsewhere next = record {
    led = led;
    line = line;
    agree = λ x.
        elim (xid_cases x xid) [
          | inl is ↦ subst (λ y. IsAgreed g t more y (get t.transactions y) (after y) (get new.opened y)) (sym is) here
          | inr differs ↦
              let same = elsewhere x differs in
              same_agreed x _ _ _ _ _ _ same.0 same.1 same.2 (next x differs) (are.agree x)
        ];
  }

-- ---- what the leader is told of a message

-- what has just opened
abbrev pub just_opened : Opened
just_opened = record { items = []; wants = None }

none_wanted : (sub : ℕ) (c : change_type.Change) → ◌≡◌ {A = Option (ℕ × change_type.Change)} None (Some (sub, c)) → ⊥
none_wanted sub c e = cc

one_more : (items : SizedItems) (work : List Item) (item : Item) (size : ℕ) → work ≡ map item_of items
    → work ++ item ∷ [] ≡ map item_of (items ++ (item, size) ∷ [])
one_more items work item size is = ap (λ w. w ++ item ∷ []) is ∙ sym (map-append item_of items ((item, size) ∷ []))

-- with an item more, one that isn't spooled has that to do besides
work_with : (g : Setting) (s t : State) (rest more : List CopyItem) (xid : ℕ) (way : Way) (items : SizedItems) (work : List Item) (item : Item) (size : ℕ)
    → way ≢ Spooled → IsWork g s rest xid way items work → IsWork g t more xid way (items ++ (item, size) ∷ []) (work ++ item ∷ [])
work_with g s t rest more xid Direct items work item size not is = one_more items work item size is
work_with g s t rest more xid Worker items work item size not is = one_more items work item size is
work_with g s t rest more xid Spooled items work item size not is = absurd (not refl)

no_work : (g : Setting) (s : State) (rest : List CopyItem) (xid : ℕ) (way : Way) → way ≢ Spooled → IsWork g s rest xid way [] []
no_work g s rest xid Direct not = refl
no_work g s rest xid Worker not = refl
no_work g s rest xid Spooled not = absurd (not refl)

-- what isn't open in the state has no outbox, and is not open in the world
nowhere : (g : Setting) (s : State) (rest : List CopyItem) (xid : ℕ) (o : Option Open) (l : Option Outbox) (d : Option Opened)
    → o ≡ None → IsAgreed g s rest xid o l d → (l ≡ None) × (d ≡ None)
nowhere g s rest xid None None None e is = (refl, refl)
nowhere g s rest xid (Some o) None None e is = cc
nowhere g s rest xid None (Some l) d e is = absurd is
nowhere g s rest xid (Some o) (Some l) None e is = absurd is
nowhere g s rest xid None None (Some d) e is = absurd is
nowhere g s rest xid (Some o) None (Some d) e is = absurd is
nowhere g s rest xid (Some o) (Some l) (Some d) e is = cc

-- what is spooled has neither, unless the next message commits it
not_yet : (g : Setting) (s : State) (rest : List CopyItem) (xid : ℕ) (o : Option Open) (p : Open) (l : Option Outbox) (d : Option Opened)
    → o ≡ Some p → p.way ≡ Spooled → ¬ (CommitsNext g s rest xid) → IsAgreed g s rest xid o l d → (l ≡ None) × (d ≡ None)
not_yet g s rest xid None p None None e spooled not is = cc
not_yet g s rest xid (Some o) p None None e spooled not is = (refl, refl)
not_yet g s rest xid None p (Some l) d e spooled not is = absurd is
not_yet g s rest xid (Some o) p (Some l) None e spooled not is = absurd is
not_yet g s rest xid None p None (Some d) e spooled not is = absurd is
not_yet g s rest xid (Some o) p None (Some d) e spooled not is = absurd is
not_yet g s rest xid (Some o) p (Some l) (Some d) e spooled not is =
    absurd (not (next_commits g s rest xid o.way o.items _ (ap (λ (q : Open). q.way) (same o p e) ∙ spooled) is.all_work))
  where
    same : (o p : Open) → Some o ≡ Some p → o ≡ p
    same o p e = cc

-- what has an outbox is in step
in_outbox : (g : Setting) (s : State) (rest : List CopyItem) (xid : ℕ) (o : Option Open) (p : Open) (l : Option Outbox) (k : Outbox) (d : Option Opened)
    → o ≡ Some p → l ≡ Some k → IsAgreed g s rest xid o l d
    → (done : Opened) × (d ≡ Some done) × InStep g s rest xid p k done
in_outbox g s rest xid None p None k None e f is = cc
in_outbox g s rest xid (Some o) p None k None e f is = cc
in_outbox g s rest xid None p (Some l) k d e f is = absurd is
in_outbox g s rest xid (Some o) p (Some l) k None e f is = absurd is
in_outbox g s rest xid None p None k (Some d) e f is = absurd is
in_outbox g s rest xid (Some o) p None k (Some d) e f is = absurd is
in_outbox g s rest xid (Some o) p (Some l) k (Some d) e f is =
    (d, refl, subst (λ (q : Open). InStep g s rest xid q k d) (same_open o p e) (subst (λ (m : Outbox). InStep g s rest xid o m d) (same_outbox l k f) is))
  where
    same_open : (o p : Open) → Some o ≡ Some p → o ≡ p
    same_open o p e = cc

    same_outbox : (l k : Outbox) → Some l ≡ Some k → l ≡ k
    same_outbox l k e = cc

module _ (g : Setting) (rows : Rows) (s t : State) (rest more : List CopyItem) (outboxes : ℕ → Option Outbox) (w : World) (are : AreInStep g rows s rest outboxes w) (commits_none : CommitsNone g s rest) where
  none_next : (xid : ℕ) → KeepsWork g s t rest more xid
  none_next xid = keeps_work g s t rest more xid (commits_none xid)

  -- nothing
  pub nothing_told : Same s t → AreInStep g rows t more outboxes w
  nothing_told same = record {
    led = are.led;
    line = are.line ∙ ap (map done_by_commit) (sym same.past);
    agree = λ x.
        same_agreed g rows s t rest more x _ _ _ _ _ _ (ap (λ m. get m x) same.transactions) refl refl (none_next x) (are.agree x);
  }

  line_same : (new : World) → new.line ≡ w.line → t.past ≡ s.past → new.line ≡ map done_by_commit t.past
  line_same new e past = e ∙ are.line ∙ ap (map done_by_commit) (sym past)

  -- a transaction opens, also in the world
  pub opens_told : (xid : ℕ) (way : Way) (after : ℕ → Option Outbox) (new : World) → IsOpening s t xid way → way ≢ Spooled
      → Opens w xid (Ok tt) new → IsWith outboxes after xid (Some empty_outbox) → AreInStep g rows t more after new
  opens_told xid way after new told not call outbox =
      let there : (x : ℕ) → get new.opened x ≡ get (finite.insert w.opened xid just_opened) x =
      λ x. ap (λ (v : World). get v.opened x) call.3 in
      one_moves g rows s t rest more outboxes after w new xid are
      (led_step (schema_of g) rows w new are.led (opens xid (Ok tt) new call))
      (line_same new (ap (λ (v : World). v.line) call.3) told.past)
      (subst (λ x. IsAgreed g t more xid x (after xid) (get new.opened xid)) (sym (ap (λ m. get m xid) told.transactions ∙ got_same s.transactions xid _))
      (subst (λ x. IsAgreed g t more xid (Some (record { way = way; items = [] })) x (get new.opened xid)) (sym outbox.here)
      (subst (λ x. IsAgreed g t more xid (Some (record { way = way; items = [] })) (Some empty_outbox) x) (sym (there xid ∙ got_same w.opened xid just_opened))
      (record {
        all_work = no_work g t more xid way not;
        does = record { left = []; begins = refl };
        wants = λ sub c e. absurd (none_wanted sub c e);
      }))))
      (λ x differs. (
        ap (λ m. get m x) told.transactions ∙ got_other s.transactions xid _ x differs,
        outbox.elsewhere x differs,
        there x ∙ got_other w.opened xid just_opened x differs,
      ))
      (λ x differs. none_next x)

  -- a spooled one opens, which is not open in the world yet
  pub spools_told : (xid : ℕ) → IsOpening s t xid Spooled → AreInStep g rows t more outboxes w
  spools_told xid told =
      let none = nowhere g s rest xid (get s.transactions xid) (outboxes xid) (get w.opened xid) told.absent (are.agree xid) in
      one_moves g rows s t rest more outboxes outboxes w w xid are are.led (line_same w refl told.past)
      (subst (λ x. IsAgreed g t more xid x (outboxes xid) (get w.opened xid)) (sym (ap (λ m. get m xid) told.transactions ∙ got_same s.transactions xid _))
      (subst (λ x. IsAgreed g t more xid (Some (record { way = Spooled; items = [] })) x (get w.opened xid)) (sym none.0)
      (subst (λ x. IsAgreed g t more xid (Some (record { way = Spooled; items = [] })) None x) (sym none.1) refl)))
      (λ x differs. (ap (λ m. get m x) told.transactions ∙ got_other s.transactions xid _ x differs, refl, refl))
      (λ x differs. none_next x)

  -- a transaction gets an item, which is queued at first
  pub gives_told : (xid : ℕ) (item : Item) (size : ℕ) (o : Open) (l : Outbox) (after : ℕ → Option Outbox) → IsGiving s t xid item size o
      → o.way ≢ Spooled → outboxes xid ≡ Some l → IsWith outboxes after xid (Some (with_queued l item)) → AreInStep g rows t more after w
  gives_told xid item size o l after told not was outbox =
      let is = in_outbox g s rest xid (get s.transactions xid) o (outboxes xid) l (get w.opened xid) told.present was (are.agree xid) in
      one_moves g rows s t rest more outboxes after w w xid are are.led (line_same w refl told.past)
      (subst (λ x. IsAgreed g t more xid x (after xid) (get w.opened xid)) (sym (ap (λ m. get m xid) told.transactions ∙ got_same s.transactions xid _))
      (subst (λ x. IsAgreed g t more xid (Some (record o { items = o.items ++ (item, size) ∷ [] })) x (get w.opened xid)) (sym outbox.here)
      (subst (λ x. IsAgreed g t more xid (Some (record o { items = o.items ++ (item, size) ∷ [] })) (Some (with_queued l item)) x) (sym is.1)
      (record {
        all_work =
            subst (IsWork g t more xid o.way (o.items ++ (item, size) ∷ [])) (append_assoc l.sent l.queued (item ∷ []))
            (work_with g s t rest more xid o.way o.items (l.sent ++ l.queued) item size not is.2.all_work);
        does = is.2.does;
        wants = is.2.wants;
      }))))
      (λ x differs. (
        ap (λ m. get m x) told.transactions ∙ got_other s.transactions xid _ x differs,
        outbox.elsewhere x differs,
        refl,
      ))
      (λ x differs. none_next x)

  -- a spooled one gets an item
  pub keeps_told : (xid : ℕ) (item : Item) (size : ℕ) (o : Open) → IsGiving s t xid item size o → o.way ≡ Spooled
      → AreInStep g rows t more outboxes w
  keeps_told xid item size o told spooled =
      let none = not_yet g s rest xid (get s.transactions xid) o (outboxes xid) (get w.opened xid) told.present spooled (commits_none xid) (are.agree xid) in
      one_moves g rows s t rest more outboxes outboxes w w xid are are.led (line_same w refl told.past)
      (subst (λ x. IsAgreed g t more xid x (outboxes xid) (get w.opened xid)) (sym (ap (λ m. get m xid) told.transactions ∙ got_same s.transactions xid _))
      (subst (λ x. IsAgreed g t more xid (Some (record o { items = o.items ++ (item, size) ∷ [] })) x (get w.opened xid)) (sym none.0)
      (subst (λ x. IsAgreed g t more xid (Some (record o { items = o.items ++ (item, size) ∷ [] })) None x) (sym none.1) spooled)))
      (λ x differs. (ap (λ m. get m x) told.transactions ∙ got_other s.transactions xid _ x differs, refl, refl))
      (λ x differs. none_next x)

  -- a transaction is dropped, also in the world
  pub drops_told : (xid : ℕ) (o : Open) (d : Opened) (after : ℕ → Option Outbox) → IsAborting s t xid o → get w.opened xid ≡ Some d
      → IsWith outboxes after xid None → AreInStep g rows t more after (aborted_with w xid)
  drops_told xid o d after told at outbox =
      one_moves g rows s t rest more outboxes after w (aborted_with w xid) xid are
      (led_step (schema_of g) rows w (aborted_with w xid) are.led (aborts xid d (aborted_with w xid) at refl))
      (line_same (aborted_with w xid) refl told.past)
      (subst (λ x. IsAgreed g t more xid x (after xid) (get (finite.remove w.opened xid) xid)) (sym (ap (λ m. get m xid) told.transactions ∙ gone_same s.transactions xid))
      (subst (λ x. IsAgreed g t more xid None x (get (finite.remove w.opened xid) xid)) (sym outbox.here)
      (subst (λ x. IsAgreed g t more xid None None x) (sym (gone_same w.opened xid)) tt)))
      (λ x differs. (
        ap (λ m. get m x) told.transactions ∙ gone_other s.transactions xid x differs,
        outbox.elsewhere x differs,
        gone_other w.opened xid x differs,
      ))
      (λ x differs. none_next x)

  -- a spooled one is dropped
  pub forgets_told : (xid : ℕ) (o : Open) → IsAborting s t xid o → o.way ≡ Spooled → AreInStep g rows t more outboxes w
  forgets_told xid o told spooled =
      let none = not_yet g s rest xid (get s.transactions xid) o (outboxes xid) (get w.opened xid) told.present spooled (commits_none xid) (are.agree xid) in
      one_moves g rows s t rest more outboxes outboxes w w xid are are.led (line_same w refl told.past)
      (subst (λ x. IsAgreed g t more xid x (outboxes xid) (get w.opened xid)) (sym (ap (λ m. get m xid) told.transactions ∙ gone_same s.transactions xid))
      (subst (λ x. IsAgreed g t more xid None x (get w.opened xid)) (sym none.0)
      (subst (λ x. IsAgreed g t more xid None None x) (sym none.1) tt)))
      (λ x differs. (ap (λ m. get m x) told.transactions ∙ gone_other s.transactions xid x differs, refl, refl))
      (λ x differs. none_next x)

-- ---- a commit

-- The leader is told of a commit, which the transaction is ready for: it has done all of its work.
pub commits_told : (g : Setting) (rows : Rows) (s t : State) (rest more : List CopyItem) (outboxes after : ℕ → Option Outbox) (w : World)
    (c : Committed) (d : Opened) → AreInStep g rows s rest outboxes w → IsCommitting s t c
    → ((x : ℕ) → CommitsNext g s rest x → x ≡ c.xid)
    → get w.opened c.xid ≡ Some d → d.items ≡ work_of c.xid c.way c.items → IsWith outboxes after c.xid None
    → AreInStep g rows t more after (committed_with (schema_of g) w c.xid d c.info)
commits_told g rows s t rest more outboxes after w c d are told only at all outbox =
    one_moves g rows s t rest more outboxes after w new c.xid are
    (led_step (schema_of g) rows w new are.led (commits c.xid d c.info new at refl))
    (ap (λ line. line ++ (record { xid = c.xid; items = d.items; info = c.info }) ∷ []) are.line
    ∙ ap (λ is. map done_by_commit s.past ++ (record { xid = c.xid; items = is; info = c.info }) ∷ []) all
    ∙ sym (map-append done_by_commit s.past (c ∷ [])) ∙ ap (map done_by_commit) (sym told.past))
    (subst (λ x. IsAgreed g t more c.xid x (after c.xid) (get (finite.remove w.opened c.xid) c.xid)) (sym (ap (λ m. get m c.xid) told.transactions ∙ gone_same s.transactions c.xid))
    (subst (λ x. IsAgreed g t more c.xid None x (get (finite.remove w.opened c.xid) c.xid)) (sym outbox.here)
    (subst (λ x. IsAgreed g t more c.xid None None x) (sym (gone_same w.opened c.xid)) tt)))
    (λ x differs. (
      ap (λ m. get m x) told.transactions ∙ gone_other s.transactions c.xid x differs,
      outbox.elsewhere x differs,
      gone_other w.opened c.xid x differs,
    ))
    (λ x differs. keeps_work g s t rest more x (λ next. differs (only x next)))
  where
    new : World
    new = committed_with (schema_of g) w c.xid d c.info

-- ---- between two messages

-- what is open in the state and in the world, and has an outbox, is in step
pub in_step_at : (g : Setting) (rows : Rows) (s : State) (rest : List CopyItem) (outboxes : ℕ → Option Outbox) (w : World) → AreInStep g rows s rest outboxes w
    → (xid : ℕ) (o : Open) (l : Outbox) (d : Opened) → get s.transactions xid ≡ Some o → outboxes xid ≡ Some l → get w.opened xid ≡ Some d
    → InStep g s rest xid o l d
in_step_at g rows s rest outboxes w are xid o l d at was there =
    let is = in_outbox g s rest xid (get s.transactions xid) o (outboxes xid) l (get w.opened xid) at was (are.agree xid) in
    subst (InStep g s rest xid o l) (same is.0 d (sym is.1 ∙ there)) is.2
  where
    same : (d e : Opened) → Some d ≡ Some e → d ≡ e
    same d e is = cc

module _ (g : Setting) (rows : Rows) (s : State) (rest : List CopyItem) (outboxes : ℕ → Option Outbox) (w : World) (are : AreInStep g rows s rest outboxes w) (xid : ℕ) (o : Open) (present : get s.transactions xid ≡ Some o) where
  -- one transaction's outbox, or what it has done, moves
  abbrev moves : (after : ℕ → Option Outbox) (new : World) (k : Outbox) (e : Opened) → IsLed (schema_of g) rows new
      → new.line ≡ w.line → InStep g s rest xid o k e → IsWith outboxes after xid (Some k)
      → ((x : ℕ) → get new.opened x ≡ get (finite.insert w.opened xid e) x) → AreInStep g rows s rest after new
  moves after new k e led line step outbox there =
      one_moves g rows s s rest rest outboxes after w new xid are led (line ∙ are.line)
      (subst (λ x. IsAgreed g s rest xid x (after xid) (get new.opened xid)) (sym present)
      (subst (λ x. IsAgreed g s rest xid (Some o) x (get new.opened xid)) (sym outbox.here)
      (subst (λ x. IsAgreed g s rest xid (Some o) (Some k) x) (sym (there xid ∙ got_same w.opened xid e)) step)))
      (λ x differs. (refl, outbox.elsewhere x differs, there x ∙ got_other w.opened xid e x differs)) (λ x differs way items work is. is)

  same_outboxes : (l : Outbox) → outboxes xid ≡ Some l → IsWith outboxes outboxes xid (Some l)
  same_outboxes l was = record { here = was; elsewhere = λ x differs. refl }

  -- the leader sends the first item that is queued
  pub sends : (l : Outbox) (d : Opened) (i : Item) (queued : List Item) (after : ℕ → Option Outbox) → InStep g s rest xid o l d → get w.opened xid ≡ Some d
      → l.queued ≡ i ∷ queued → IsWith outboxes after xid (Some (record { sent = l.sent ++ i ∷ []; queued = queued }))
      → AreInStep g rows s rest after w
  sends l d i queued after step at first outbox =
      moves after w (record { sent = l.sent ++ i ∷ []; queued = queued }) d are.led refl
      (record {
        all_work =
            subst (IsWork g s rest xid o.way o.items)
            (sym (append_assoc l.sent (i ∷ []) queued ∙ ap (λ is. l.sent ++ is) (sym first))) step.all_work;
        does = record { left = step.does.left ++ i ∷ []; begins = sym (append_assoc d.items step.does.left (i ∷ [])) ∙ ap (λ is. is ++ i ∷ []) step.does.begins };
        wants = λ sub c wanted. let is = step.wants sub c wanted in (is.0 ++ i ∷ [], ap (λ is. is ++ i ∷ []) is.1);
      })
      outbox (λ x. by_xid x)
    where
      by_xid : (x : ℕ) → get w.opened x ≡ get (finite.insert w.opened xid d) x
      by_xid x = elim (xid_cases x xid) [
        | inl is ↦ ap (get w.opened) is ∙ at ∙ sym (ap (get (finite.insert w.opened xid d)) is ∙ got_same w.opened xid d)
        | inr differs ↦ sym (got_other w.opened xid d x differs)
      ]

  -- the transaction does the next item that was sent
  pub does : (l : Outbox) (d : Opened) (i : Item) (left : List Item) → InStep g s rest xid o l d → outboxes xid ≡ Some l → d.items ++ i ∷ left ≡ l.sent
      → Step (schema_of g) w (done_with w xid d i) → AreInStep g rows s rest outboxes (done_with w xid d i)
  does l d i left step was first call =
      moves outboxes (done_with w xid d i) l (record { items = d.items ++ i ∷ []; wants = None })
      (led_step (schema_of g) rows w (done_with w xid d i) are.led call) refl
      (record {
        all_work = step.all_work;
        does = record { left = left; begins = append_assoc d.items (i ∷ []) left ∙ first };
        wants = λ sub c wanted. absurd (none_wanted sub c wanted);
      })
      (same_outboxes l was) (λ x. refl)

  -- that item is a change, which waits, or clashes and stops the world
  pub wants : (l : Outbox) (d : Opened) (sub : ℕ) (c : change_type.Change) (left : List Item) (stopped : Option Stop) → InStep g s rest xid o l d
      → outboxes xid ≡ Some l → d.items ++ Change sub c ∷ left ≡ l.sent
      → Step (schema_of g) w (record (wanting w xid d sub c) { stopped = stopped })
      → AreInStep g rows s rest outboxes (record (wanting w xid d sub c) { stopped = stopped })
  wants l d sub c left stopped step was first call =
      moves outboxes (record (wanting w xid d sub c) { stopped = stopped }) l (record d { wants = Some (sub, c) })
      (led_step (schema_of g) rows w (record (wanting w xid d sub c) { stopped = stopped }) are.led call) refl
      (record {
        all_work = step.all_work;
        does = record { left = Change sub c ∷ left; begins = first };
        wants = λ other e wanted. (left, ap (λ i. i ∷ left) (same_change sub other c e wanted));
      })
      (same_outboxes l was) (λ x. refl)
    where
      same_pair : (p q : ℕ × change_type.Change) → Some p ≡ Some q → p ≡ q
      same_pair p q e = cc

      same_change : (sub other : ℕ) (c e : change_type.Change)
          → ◌≡◌ {A = Option (ℕ × change_type.Change)} (Some (sub, c)) (Some (other, e)) → Change sub c ≡ Change other e
      same_change sub other c e wanted = ap (λ (p : ℕ × change_type.Change). Change p.0 p.1) (same_pair (sub, c) (other, e) wanted)

  -- a spooled one that the next message commits opens in the world, with all of its work queued
  pub unspools : (work : List Item) (after : ℕ → Option Outbox) (new : World) → IsWork g s rest xid o.way o.items work
      → Opens w xid (Ok tt) new → IsWith outboxes after xid (Some (record { sent = []; queued = work }))
      → AreInStep g rows s rest after new
  unspools work after new is call outbox =
      moves after new (record { sent = []; queued = work }) just_opened
      (led_step (schema_of g) rows w new are.led (opens xid (Ok tt) new call)) (ap (λ (v : World). v.line) call.3)
      (record {
        all_work = is;
        does = record { left = []; begins = refl };
        wants = λ sub c wanted. absurd (none_wanted sub c wanted);
      })
      outbox (λ x. ap (λ (v : World). get v.opened x) call.3)

-- a call that alters nothing but what stopped the world
pub stops : (g : Setting) (rows : Rows) (s : State) (rest : List CopyItem) (outboxes : ℕ → Option Outbox) (w : World) (stopped : Option Stop)
    → AreInStep g rows s rest outboxes w → Step (schema_of g) w (record w { stopped = stopped })
    → AreInStep g rows s rest outboxes (record w { stopped = stopped })
stops g rows s rest outboxes w stopped are call = record {
  led = led_step (schema_of g) rows w (record w { stopped = stopped }) are.led call;
  line = are.line;
  agree = are.agree;
}

-- ---- the start, and the message that comes next

pub start_in_step : (g : Setting) (rows : Rows) (rest : List CopyItem) → AreInStep g rows start rest (λ xid. None) (starting rows)
start_in_step g rows rest = record {
  led = led_start (schema_of g) rows;
  line = refl;
  agree = λ xid.
      subst (λ o. IsAgreed g start rest xid o None (get (starting rows).opened xid)) (sym (finite.get-empty nat_cmp xid))
      (subst (λ d. IsAgreed g start rest xid None None d) (sym (finite.get-empty nat_cmp xid)) tt);
}

module _ (g : Setting) (s t : State) (first last : ℕ) (payload : List ℕ) (more : List CopyItem) (m : Message) (admits : Admits g s payload m t) where
  -- a message that commits none
  pub none_commits : t.past ≡ s.past → CommitsNone g s (Wal first last payload ∷ more)
  none_commits past xid by =
      let same = one_state g s payload m by.message t by.state admits by.admits in
      not_longer s.past by.committed (sym by.past ∙ ap (λ (u : State). u.past) (sym same) ∙ past)

  -- one that commits
  pub commits_next : (c : Committed) → IsCommitting s t c → CommitsNext g s (Wal first last payload ∷ more) c.xid
  commits_next c told =
      record { message = m; state = t; admits = admits; committed = c; past = told.past; xid_is = refl }

  -- commits no other
  pub only_commits : (c : Committed) → IsCommitting s t c → (xid : ℕ) → CommitsNext g s (Wal first last payload ∷ more) xid
      → xid ≡ c.xid
  only_commits c told xid by = one_commit g s payload xid c.xid by (commits_next c told)
