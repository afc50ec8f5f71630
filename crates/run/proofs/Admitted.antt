-- What a message that was admitted leads to, whatever handles the items of a stream.
use Rattle.std.proofs.Common.{◌≡◌, ℕ, ◌<◌, Bool, true, false, List, [], ◌∷◌, ◌++◌, length, refl, sym, ap, ◌∙◌, append-nil, arith, inr, length-append}
use Rattle.std.specs.Prelude.{max}
use Rattle.std.proofs.lemmas.Bool.{lt-ltb, le-ltb}
use Rattle.model.specs.declared.item.CommitInfo.{CommitInfo}
use Rattle.messages.specs.declared.message.Message.{Message}
use Rattle.frames.specs.declared.item.CopyItem.{CopyItem}
use Rattle.frames.specs.declared.item.CopyItem.TheVariants.{Wal, Done}
use Rattle.session.specs.declared.step.Step.{Step}
use Rattle.session.specs.declared.step.Step.TheVariants as steps
use Rattle.session.specs.Answers.{HandsOut}
use Rattle.session.specs.Lawful.{Admits}
use Rattle.session.specs.State.{Committed, State, Setting}
use Rattle.run.specs.declared.end.End.{End}
use Rattle.run.specs.Handler.{HasTaken, HasHandled, EndsByItem}
use Rattle.run.specs.Progress.{Progress, Handles, due_updates, commits_from}

-- ---- progress

-- a message that commits nothing leads on to this
abbrev pub on_to : Progress → State → Progress
on_to p t = record { state = t; seen = p.seen; updates = p.updates }

-- one that commits leads to this
abbrev pub committed_to : Progress → State → Progress
committed_to p t = record { state = t; seen = p.seen; updates = p.updates ++ due_updates true t p.seen }

-- the same with a greater position seen
abbrev pub with_seen : Progress → ℕ → Progress
with_seen p seen = record { state = p.state; seen = seen; updates = p.updates }

pub not_committed : (s t : State) → t.past ≡ s.past → commits_from s t ≡ false
not_committed s t e = rw e (le-ltb (length s.past) (length s.past) (omega arith))

pub one_committed : (s t : State) (c : Committed) → t.past ≡ s.past ++ c ∷ [] → commits_from s t ≡ true
one_committed s t c e = lt-ltb (length s.past) (length t.past) (rw e (omega (arith, length-append s.past (c ∷ []))))

-- a position that a later one passes
pub later_max : (a b c : ℕ) → b < c → max (max a b) c ≡ max a c
later_max a b c lt = omega arith

-- what commits alone have, an answer that hands out items has
pub by_commit : (P : Step → Type 0) → ((xid : ℕ) (info : CommitInfo) (items : _) → P (steps.Commit xid info items) → ⊥)
    → (c : Committed) (step : Step) → HandsOut c step → P step → ⊥
by_commit P none c (steps.Commit xid info items) hands is = none xid info items is
by_commit P none c step hands is = hands

-- ---- whatever handles the items

module _ (g : Setting) (At : Progress → Type 0) (p : Progress) (payload : List ℕ) (m : Message) (t : State) (admits : Admits g p.state payload m t) where
  pub taken_on : t.past ≡ p.state.past → At (on_to p t) → HasTaken g At p payload false
  taken_on past at = record {
    message = m;
    progress = on_to p t;
    admits = admits;
    seen = refl;
    commits = sym (not_committed p.state t past);
    updates = sym (append-nil p.updates);
    at = at;
  }

  pub taken_commit : commits_from p.state t ≡ true → At (committed_to p t) → HasTaken g At p payload true
  taken_commit commits at = record {
    message = m;
    progress = committed_to p t;
    admits = admits;
    seen = refl;
    commits = sym commits;
    updates = refl;
    at = at;
  }

module _ {H : Type 0} (g : Setting) (At : H → Progress → Type 0) (h : H) (p : Progress) (Ended : H → List CopyItem → Progress → List CopyItem → End → Type 0) where
  -- a message was taken
  pub message_handled : (first last : ℕ) (payload : List ℕ) (is_commit : Bool)
      → HasTaken g (At h) (with_seen p (max (max p.seen first) last)) payload is_commit
      → HasHandled g At Ended h p (Wal first last payload) is_commit
  message_handled first last payload is_commit taken = record {
    progress = taken.progress;
    handles = (
      taken.message,
      taken.admits,
      taken.seen,
      taken.updates ∙ ap (λ c. p.updates ++ due_updates c taken.progress.state taken.progress.seen) taken.commits,
    );
    updates = taken.updates;
    at = taken.at;
  }

  -- one that commits nothing was taken, and ended the run
  pub ended_behind : (handled : List CopyItem) (first last : ℕ) (payload : List ℕ) (m : Message) (s : State) (end : End)
      → Admits g p.state payload m s → commits_from p.state s ≡ false
      → (Handles g p (Wal first last payload) (record { state = s; seen = max (max p.seen first) last; updates = p.updates })
      → (more : List CopyItem)
      → Ended h (handled ++ Wal first last payload ∷ []) (record { state = s; seen = max (max p.seen first) last; updates = p.updates }) more end)
      → EndsByItem g At Ended h handled p (Wal first last payload) end
  ended_behind handled first last payload m s end admits none ends =
      let seen = max (max p.seen first) last in
      let q : Progress = record { state = s; seen = seen; updates = p.updates } in
      let handles : Handles g p (Wal first last payload) q =
      (m, admits, refl, sym (append-nil p.updates) ∙ ap (λ c. p.updates ++ due_updates c s seen) (sym none)) in
      inr (q, handles, refl, ends handles)

  pub done_handled : At h p → HasHandled g At Ended h p Done false
  done_handled at = record { progress = p; handles = refl; updates = sym (append-nil p.updates); at = at }
