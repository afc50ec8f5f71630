-- What handling an item leaves of a run.
use Rattle.std.proofs.Common.{◌≡◌, ℕ, Bool, List, ◌++◌, refl, ap, ◌∙◌, arith, inl, inr}
use Rattle.std.specs.Prelude.{Result, Ok, Err, max}
use Rattle.model.specs.Rows.{Rows}
use Rattle.frames.specs.declared.item.CopyItem.{CopyItem}
use Rattle.frames.specs.declared.item.CopyItem.TheVariants.{Wal, Keepalive, Done}
use Rattle.session.specs.State.{Setting}
use Rattle.run.specs.declared.applier.Applier.{Applier}
use Rattle.run.specs.declared.end.End.{End}
use Rattle.run.specs.Progress.{Progress, seen_with, Leads, start_progress, due_updates}
use Rattle.model.specs.Accepted.{AreAccepted}
use Rattle.run.specs.Commits.{all_changes}
use Rattle.run.specs.Cause.{schema_of}
use Rattle.run.specs.Handler.{HandlesItem, HasHandled}
use Rattle.run.specs.Applier.{Represents, HasEnded, TakesMessage}
use Rattle.run.proofs.Admitted.{with_seen, message_handled, ended_behind}
use Rattle.run.proofs.Running.{with_item}

-- the greatest position of the log once an item more was seen, beside that of the commits
pub seen_item : (item : CopyItem) (written seen position : ℕ) → written ≡ max seen position → seen_with written item ≡ max (seen_with seen item) position
seen_item (Wal first last payload) written seen position e = omega arith
seen_item (Keepalive last reply) written seen position e = omega arith
seen_item Done written seen position e = e

-- what is kept, but for the greatest position
pub record IsSameBut (a b : Applier) : Type 0 where
  pub catalog : b.catalog ≡ a.catalog
  pub session : b.session ≡ a.session
  pub work : b.work ≡ a.work
  pub position : b.position ≡ a.position

Represents-seen : (g : Setting) (rows : Rows) (a b : Applier) (p : Progress) (seen : ℕ) → Represents g rows a p → IsSameBut a b → b.written ≡ max seen p.state.position → Represents g rows b (with_seen p seen)
Represents-seen g rows a b p seen at same written = record {
  workers = at.workers;
  catalog = at.catalog ∙ rw same.catalog;
  session = rw same.session at.session;
  served = at.served;
  commits = record {
    schema = rw same.work at.commits.schema;
    base = rw same.work at.commits.base;
    journal = rw same.work at.commits.journal;
    position = same.position ∙ at.commits.position;
  };
  reached = at.reached;
  begun = rw same.work at.begun;
  clear = at.clear;
  seen = written;
}

-- so it is once this item was seen
pub Represents-item : (g : Setting) (rows : Rows) (a b : Applier) (p : Progress) (item is : CopyItem) → item ≡ is → Represents g rows a p → IsSameBut a b → b.written ≡ seen_with a.written item → Represents g rows b (with_seen p (seen_with p.seen is))
Represents-item g rows a b p item is e at same written =
    Represents-seen g rows a b p (seen_with p.seen is) at same (written ∙ ap (seen_with a.written) e ∙ seen_item is a.written p.seen p.state.position at.seen)

-- a message was taken, or ended the run
pub handled_wal : (g : Setting) (rows : Rows) (b : Applier) (handled : List CopyItem) (p : Progress) (first last : ℕ) (payload : List ℕ) (result : Result Bool End) → Leads g start_progress handled p → AreAccepted (schema_of g) rows (all_changes p.state)
    → TakesMessage g rows b (with_seen p (max (max p.seen first) last)) payload result → HandlesItem g (Represents g rows) (HasEnded g rows) b handled p (Wal first last payload) result
handled_wal g rows b handled p first last payload (Ok is_commit) lawful clear taken =
    message_handled g (Represents g rows) b p (HasEnded g rows) first last payload is_commit taken
handled_wal g rows b handled p first last payload (Err end) lawful clear (inl (commits, why)) = inl (λ more. (commits, inl (clear, why first last more)))
handled_wal g rows b handled p first last payload (Err end) lawful clear (inr (m, s, admits, none, commits, committed, why)) =
    let q : Progress = record { state = s; seen = max (max p.seen first) last; updates = p.updates } in
    ended_behind g (Represents g rows) b p (HasEnded g rows) handled first last payload m s end admits none
    (λ handles more. (commits, inr (with_item g handled (Wal first last payload) p q lawful handles, clear, committed, why)))

pub handled_keepalive : (g : Setting) (rows : Rows) (b : Applier) (p : Progress) (last : ℕ) (reply : Bool) → Represents g rows b (with_seen p (max p.seen last)) → HasHandled g (Represents g rows) (HasEnded g rows) b p (Keepalive last reply) reply
handled_keepalive g rows b p last reply at =
    let q : Progress = record { state = p.state; seen = max p.seen last; updates = p.updates ++ due_updates reply p.state (max p.seen last) } in
    record {
      progress = q;
      handles = (refl, refl, refl);
      updates = refl;
      at = record {
        workers = at.workers;
        catalog = at.catalog;
        session = at.session;
        served = at.served;
        commits = at.commits;
        reached = at.reached;
        begun = at.begun;
        clear = at.clear;
        seen = at.seen;
      };
    }
