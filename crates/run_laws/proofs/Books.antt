-- What follows where all of a leader's transactions are in step with the world.
use Rattle.std.proofs.Common.{◌≡◌, ◌≢◌, ℕ, List, [], ◌∷◌, ◌++◌, length, Option, Some, None, refl, sym, ap, subst, ◌∙◌, append_assoc, append-nil, arith, inl, inr}
use Rattle.std.specs.Prelude.{◌⊎◌}
use Rattle.std.specs.FinMap.{get}
use Rattle.model.specs.declared.change.Change as change_type
use Rattle.model.specs.declared.item.Item.{Item}
use Rattle.model.specs.declared.item.Item.TheVariants.{Change}
use Rattle.model.specs.Rows.{Rows, IsValid}
use Rattle.model.specs.Effect.{ClashCause}
use Rattle.frames.specs.declared.item.CopyItem.{CopyItem}
use Rattle.session.specs.State.{Spooled, Open, State, Setting, begun_at}
use Rattle.run.specs.Cause.{schema_of}
use Rattle.world.specs.Settled.{WaitsFor, IsSettled}
use Rattle.world.specs.Steps.{IsStuck}
use Rattle.world.specs.World.{Opened, World, ByClash}
use Rattle.run_laws.specs.Runs.{CommitsNext}
use Rattle.run_laws.specs.Threads.{IsWork, IsWorldOf}
use Rattle.run_laws.specs.ThreadedRun.{HasConflict, WaitsOn, HasDoneAll, AllWait, IsStuckBy}
use Rattle.run_laws.specs.Leading.{Outbox, InStep, IsAgreed, AreInStep, AreCounts}
use Rattle.run_laws.proofs.Noted.{is_wanted, still_clashes}

-- ---- one transaction

module _ (g : Setting) (s : State) (rest : List CopyItem) (xid : ℕ) where
  -- one that is open in the world is in step
  pub open_in_step : (found : Option Open) (outbox : Option Outbox) (there : Option Opened) (done : Opened)
      → there ≡ Some done → IsAgreed g s rest xid found outbox there
      → (o : Open) × (found ≡ Some o) × (l : Outbox) × (outbox ≡ Some l) × InStep g s rest xid o l done
  open_in_step None None None done e agreed = cc
  open_in_step (Some o) None None done e agreed = cc
  open_in_step None (Some l) None done e agreed = absurd agreed
  open_in_step (Some o) (Some l) None done e agreed = absurd agreed
  open_in_step None None (Some d) done e agreed = absurd agreed
  open_in_step None (Some l) (Some d) done e agreed = absurd agreed
  open_in_step (Some o) None (Some d) done e agreed = absurd agreed
  open_in_step (Some o) (Some l) (Some d) done e agreed =
      (o, refl, l, refl, subst (InStep g s rest xid o l) (same d done e) agreed)
    where
      same : (d done : Opened) → Some d ≡ Some done → d ≡ done
      same d done e = cc

  -- so is one of the state that isn't spooled
  pub streamed_in_step : (found : Option Open) (outbox : Option Outbox) (there : Option Opened) (o : Open)
      → found ≡ Some o → o.way ≢ Spooled → IsAgreed g s rest xid found outbox there
      → (l : Outbox) × (outbox ≡ Some l) × (done : Opened) × (there ≡ Some done) × InStep g s rest xid o l done
  streamed_in_step None outbox there o e not agreed = cc
  streamed_in_step (Some p) None None o e not agreed = absurd (not (sym (ap (λ (q : Open). q.way) (same p o e)) ∙ agreed))
    where
      same : (p o : Open) → Some p ≡ Some o → p ≡ o
      same p o e = cc
  streamed_in_step (Some p) (Some l) None o e not agreed = absurd agreed
  streamed_in_step (Some p) None (Some d) o e not agreed = absurd agreed
  streamed_in_step (Some p) (Some l) (Some d) o e not agreed =
      (l, refl, d, refl, subst (λ (q : Open). InStep g s rest xid q l d) (same p o e) agreed)
    where
      same : (p o : Open) → Some p ≡ Some o → p ≡ o
      same p o e = cc

  module _ (o : Open) (l : Outbox) (done : Opened) (step : InStep g s rest xid o l done) where
    -- what it has done and has still to do
    pub parted : done.items ++ (step.does.left ++ l.queued) ≡ l.sent ++ l.queued
    parted = sym (append_assoc done.items step.does.left l.queued) ∙ ap (λ is. is ++ l.queued) step.does.begins

    -- that is its work
    pub whole : IsWork g s rest xid o.way o.items (done.items ++ (step.does.left ++ l.queued))
    whole = subst (IsWork g s rest xid o.way o.items) (sym parted) step.all_work

    -- the change that waits or clashed comes next
    pub wanted_next : (sub : ℕ) (c : change_type.Change) (wanted : done.wants ≡ Some (sub, c))
        → IsWork g s rest xid o.way o.items (done.items ++ Change sub c ∷ ((step.wants sub c wanted).0 ++ l.queued))
    wanted_next sub c wanted =
        subst (IsWork g s rest xid o.way o.items) (ap (λ is. done.items ++ (is ++ l.queued)) (step.wants sub c wanted).1) whole

-- ---- the world

module _ (g : Setting) (rows : Rows) (s : State) (rest : List CopyItem) (outboxes : ℕ → Option Outbox) (w : World) (are : AreInStep g rows s rest outboxes w) where
  -- a transaction that is open in the world
  abbrev there : (xid : ℕ) (done : Opened) → get w.opened xid ≡ Some done
      → (o : Open) × (get s.transactions xid ≡ Some o) × (l : Outbox) × (outboxes xid ≡ Some l) × InStep g s rest xid o l done
  there xid done at =
      open_in_step g s rest xid (get s.transactions xid) (outboxes xid) (get w.opened xid) done at (are.agree xid)

  pub is_world : IsWorldOf g rows s rest w
  is_world = record {
    led = are.led;
    line = are.line;
    opened = λ xid done at.
        let is = there xid done at in (
          is.0,
          is.1,
          record {
            work = done.items ++ (is.4.does.left ++ is.2.queued);
            is_work = whole g s rest xid is.0 is.2 done is.4;
            does = record { left = is.4.does.left ++ is.2.queued; begins = refl };
          },
        );
  }

  -- what clashed and stopped the world is a conflict, while its transaction wants a change
  pub noted_conflict : IsValid (schema_of g) rows → (xid : ℕ) (c : change_type.Change) (cause : ClashCause)
      → w.stopped ≡ Some (ByClash xid c cause) → (done : Opened) → get w.opened xid ≡ Some done
      → (sub : ℕ) (e : change_type.Change) → done.wants ≡ Some (sub, e) → HasConflict g s rest w cause
  noted_conflict valid xid c cause stopped done at sub e wanted =
      let is = there xid done at in
      let same = is_wanted (schema_of g) rows w valid are.led xid c cause stopped done sub e at wanted in
      let wants : done.wants ≡ Some (sub, c) = wanted ∙ ap (λ (d : change_type.Change). Some (sub, d)) same in
      record {
        xid = xid;
        transaction = is.0;
        present = is.1;
        work = done.items ++ Change sub c ∷ ((is.4.wants sub c wants).0 ++ is.2.queued);
        is_work = wanted_next g s rest xid is.0 is.2 done is.4 sub c wants;
        clashes = record {
          transaction = done;
          present = at;
          subtransaction = sub;
          change = c;
          after = (is.4.wants sub c wants).0 ++ is.2.queued;
          in_turn = refl;
          so = still_clashes (schema_of g) rows w valid are.led xid c cause stopped done sub at wants;
        };
      }

  -- one that waits for a cell of another
  pub waits_on : (xid holder : ℕ) (o : Open) (l : Outbox) (done : Opened) → get w.opened xid ≡ Some done
      → InStep g s rest xid o l done → WaitsFor (schema_of g) w xid done holder → WaitsOn g s rest w xid o holder
  waits_on xid holder o l done at step waits = record {
    work = done.items ++ Change waits.0 waits.1 ∷ ((step.wants waits.0 waits.1 waits.2).0 ++ l.queued);
    is_work = wanted_next g s rest xid o l done step waits.0 waits.1 waits.2;
    waits = record {
      transaction = done;
      present = at;
      subtransaction = waits.0;
      change = waits.1;
      after = (step.wants waits.0 waits.1 waits.2).0 ++ l.queued;
      in_turn = refl;
      so = waits.3;
    };
  }

  none_after : (items more : List Item) → length items ≡ length (items ++ more) → more ≡ []
  none_after [] [] e = refl
  none_after [] (i ∷ more) e = let no : ⊥ = omega arith in absurd no
  none_after (i ∷ items) more e = none_after items more (omega arith)

  -- one that has done as many as it has to do
  pub has_done_all : (xid : ℕ) (o : Open) (l : Outbox) (done : Opened) → get w.opened xid ≡ Some done
      → InStep g s rest xid o l done → length done.items ≡ length (l.sent ++ l.queued) → HasDoneAll g s rest w xid o
  has_done_all xid o l done at step count =
      let none : step.does.left ++ l.queued ≡ [] =
      none_after done.items (step.does.left ++ l.queued) (count ∙ ap length (sym (parted g s rest xid o l done step))) in (
        done,
        at,
        subst (IsWork g s rest xid o.way o.items) (ap (λ more. done.items ++ more) none ∙ append-nil done.items)
            (whole g s rest xid o l done step),
      )

  pub all_wait : (named : List (ℕ × ℕ)) → AreCounts outboxes named → IsSettled (schema_of g) w named → AllWait g s rest w
  all_wait named counts settled xid o at not =
      let is = streamed_in_step g s rest xid (get s.transactions xid) (outboxes xid) (get w.opened xid) o at not (are.agree xid) in
      elim (settled xid is.2 is.3) [
        | inl name ↦ inl (has_done_all xid o is.0 is.2 is.3 is.4 (counts xid (length is.2.items) is.0 name.0 name.1 is.1))
        | inr waits ↦ inr (waits.0, waits_on xid waits.0 o is.0 is.2 is.3 is.4 waits.1)
      ]

  -- where all wait, and a transaction whose turn it is waits for a holder
  pub stuck_by : (named : List (ℕ × ℕ)) (waiter holder : ℕ) → AreCounts outboxes named
      → (begun_at s.phase ≡ Some waiter) ⊎ CommitsNext g s rest waiter
      → IsStuck (schema_of g) w named waiter holder → IsStuckBy g s rest w waiter holder
  stuck_by named waiter holder counts turn stuck =
      let is = there waiter stuck.1 stuck.2 in record {
        turn = turn;
        transaction = is.0;
        present = is.1;
        waits = waits_on waiter holder is.0 is.2 stuck.1 stuck.2 is.4 stuck.3;
        settled = all_wait named counts stuck.0;
      }
