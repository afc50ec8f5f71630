-- What the items of a stream lead to, one after another.
--     Update, Progress      a status update but for its clock; the state, and what was told of it
--     seen_with      the greatest position of the log, with an item more
--     Handles, Leads      what an item, or each of a list in turn, leads to
--     status_bytes      the frames of status updates, each with its time
use Rattle.std.specs.Prelude.{◌≡◌, ℕ, ℤ, Bool, true, false, nat_lt, max}
use Rattle.std.specs.Prelude.{List, [], ◌∷◌, ◌++◌, length}
use Rattle.messages.specs.declared.message.Message.{Message}
use Rattle.frames.specs.declared.item.CopyItem.{CopyItem}
use Rattle.frames.specs.declared.item.CopyItem.TheVariants.{Wal, Keepalive, Done}
use Rattle.frames.specs.Status.{status_frame}
use Rattle.session.specs.State.{State, Setting, start}
use Rattle.session.specs.Lawful.{Admits}

-- a status update but for its clock: the greatest position of the publisher's log so far, and the
-- end of the last commit
pub record Update : Type 0 where
  pub written : ℕ
  pub applied : ℕ

-- what the items so far have led to
pub record Progress : Type 0 where
  pub state : State
  -- the greatest position of the log in the items so far
  pub seen : ℕ
  -- the status updates so far
  pub updates : List Update

-- the progress before the first item
abbrev pub start_progress : Progress
start_progress = record { state = start; seen = 0; updates = [] }

-- the status update at this state, where the log was seen up to this position
abbrev pub update : State → ℕ → Update
update s seen = record { written = max seen s.position; applied = s.position }

-- an update, if one is due
abbrev pub due_updates : Bool → State → ℕ → List Update
due_updates true s seen = update s seen ∷ []
due_updates false s seen = []

-- there is a commit more
abbrev pub commits_from : State → State → Bool
commits_from s t = nat_lt (length s.past) (length t.past)

-- the greatest position of the publisher's log, where this was it before the item
abbrev pub seen_with : ℕ → CopyItem → ℕ
seen_with seen (Wal first last payload) = max (max seen first) last
seen_with seen (Keepalive last reply) = max seen last
seen_with seen Done = seen

-- An item leads from one progress to the next: a payload that is admitted, with an update if it
-- commits; a keepalive, with an update if a reply is wanted; CopyDone, with nothing.
abbrev pub Handles : Setting → Progress → CopyItem → Progress → Type 0
Handles g p (Wal first last payload) q =
    (m : Message)
    × Admits g p.state payload m q.state
    × (q.seen ≡ max (max p.seen first) last)
    × (q.updates ≡ p.updates ++ due_updates (commits_from p.state q.state) q.state q.seen)
Handles g p (Keepalive last reply) q =
    (q.state ≡ p.state) × (q.seen ≡ max p.seen last)
    × (q.updates ≡ p.updates ++ due_updates reply q.state q.seen)
Handles g p Done q = q ≡ p

-- The items, one after another, lead to this.
abbrev pub Leads : Setting → Progress → List CopyItem → Progress → Type 0
Leads g p [] q = p ≡ q
Leads g p (item ∷ items) q = (r : Progress) × Handles g p item r × Leads g r items q

-- the frames of status updates, each with its time
abbrev pub status_bytes : List Update → List ℤ → List ℕ
status_bytes [] times = []
status_bytes (u ∷ updates) [] = []
status_bytes (u ∷ updates) (time ∷ times) =
    status_frame
    (record { written = u.written; flushed = u.applied; applied = u.applied; clock = time })
    ++ status_bytes updates times
