-- What a run's loop knows of whatever takes the items of its stream.
--     HasTaken      a message was taken
--     HasHandled, EndsByItem, HandlesItem      an item was handled, or it ended the run
--     HasTold      the status updates so far were sent
--     IsUnderWay, HasCome      some items were handled; these were
--     IsEnded, IsRunOver, StopsRun      an item ended the run; it is over
--     AnswersItem, HandlesKept      what came of one item more, and of all that were kept
--     end_of_result      the end that an answer says
use Rattle.std.specs.Prelude.{◌≡◌, ℕ, ℤ, Bool, List, [], ◌∷◌, ◌++◌, length}
use Rattle.std.specs.Prelude.{Result, Ok, Err, MatchResult, ◌⊎◌}
use Rattle.std.specs.Io.KnownBytes.{Appends, Consumes}
use Rattle.model.specs.Rows.{Rows}
use Rattle.frames.specs.declared.item.CopyItem.{CopyItem}
use Rattle.frames.specs.Device.{HasWorked}
use Rattle.frames.specs.Stream.{Reading, copy_items}
use Rattle.frames.specs.Reads.{HasRead}
use Rattle.messages.specs.declared.message.Message.{Message}
use Rattle.session.specs.State.{Setting}
use Rattle.session.specs.Lawful.{Admits}
use Rattle.run.specs.declared.end.End.{End}
use Rattle.run.specs.declared.end.End.TheVariants as ends
use Rattle.run.specs.Progress.{Progress, Handles, Leads, start_progress, commits_from}
use Rattle.run.specs.Progress.{Update, due_updates, status_bytes}
use Rattle.run.specs.Clock.{Ticks}
use Rattle.run.specs.Cause.{HasGoneWell, IsSendCause, IsInputCause}
use Rattle.run.specs.Devices.{DeviceState}
use Rattle.run.specs.StreamPart.{StreamPart}

-- The status updates so far were sent, each with its time, and the writer has not failed.
pub record HasTold (old new : DeviceState) (updates : List Update) : Type 0 where
  pub times : List ℤ
  pub told : Ticks old.times new.times times
  pub counted : length times ≡ length updates
  pub sent : Appends old.sent new.sent (status_bytes updates times)
  pub works : HasWorked old.writer new.writer

-- the end that an answer says
abbrev pub end_of_result : Result (Unit {0}) End → End
end_of_result (Ok u) = ends.Clean
end_of_result (Err end) = end

-- The handler stands at a progress to which some items led.
abbrev pub IsUnderWay : {H : Type 0} → (Setting → Rows → H → Progress → Type 0) → H → Type 0
IsUnderWay IsAt h =
    (g : Setting) × (rows : Rows) × (handled : List CopyItem) × (p : Progress)
    × Leads g start_progress handled p × IsAt g rows h p

-- A message was taken, which led to this progress, at which whatever took it stands. Whether it
-- commits is answered.
pub record HasTaken (g : Setting) (IsAt : Progress → Type 0) (p : Progress) (payload : List ℕ)
    (is_commit : Bool) : Type 0 where
  pub message : Message
  pub progress : Progress
  pub admits : Admits g p.state payload message progress.state
  pub seen : progress.seen ≡ p.seen
  pub commits : is_commit ≡ commits_from p.state progress.state
  pub updates : progress.updates ≡ p.updates ++ due_updates is_commit progress.state progress.seen
  pub at : IsAt progress

-- The handler stands at a progress; or it ended a run so, these items handled, which led to this
-- progress, with those left. What it says by this is its own.
module _ {H : Type 0} (g : Setting) (IsAt : H → Progress → Type 0)
    (HasEnded : H → List CopyItem → Progress → List CopyItem → End → Type 0) where
  -- ---- an item

  -- The item was handled. Whether an update is due is answered.
  pub record HasHandled (h : H) (p : Progress) (item : CopyItem) (told : Bool) : Type 0 where
    pub progress : Progress
    pub handles : Handles g p item progress
    pub updates : progress.updates ≡ p.updates ++ due_updates told progress.state progress.seen
    pub at : IsAt h progress

  -- The item ended the run: it was not handled, or it was, with no update due.
  abbrev pub EndsByItem : H → List CopyItem → Progress → CopyItem → End → Type 0
  EndsByItem h handled p item end =
      ((more : List CopyItem) → HasEnded h handled p (item ∷ more) end)
      ⊎ ((q : Progress) × Handles g p item q × (q.updates ≡ p.updates)
      × ((more : List CopyItem) → HasEnded h (handled ++ item ∷ []) q more end))

  -- The item was handled behind those, or it ended the run.
  abbrev pub HandlesItem : H → List CopyItem → Progress → CopyItem → Result Bool End → Type 0
  HandlesItem h handled p item result =
      MatchResult result (HasHandled h p item) (EndsByItem h handled p item)

  -- ---- the items so far

  -- These items were handled, no device failed, and the run goes on from here.
  pub record HasCome (old new : DeviceState) (h : H) (handled : List CopyItem) : Type 0 where
    pub progress : Progress
    pub lawful : Leads g start_progress handled progress
    pub at : IsAt h progress
    pub read : HasWorked old.reader new.reader
    pub told : HasTold old new progress.updates

  -- An item ended the run so, while no device failed and all updates were sent.
  pub record IsEnded {old new : DeviceState} (h : H) (part : StreamPart g old new) (end : End)
      : Type 0 where
    pub ended : HasEnded h part.handled part.progress part.rest end
    pub well : HasGoneWell part

  -- The run is over: an item ended it; or an update that was due did, or the input, where the
  -- handler stands at the progress.
  pub record IsRunOver (old new : DeviceState) (h : H) (end : End) : Type 0 where
    pub part : StreamPart g old new
    pub why : IsEnded h part end
        ⊎ (IsAt h part.progress × (IsSendCause part end ⊎ IsInputCause part end))

  -- The run is over, whatever bytes it has read of which these are the items.
  abbrev pub StopsRun : DeviceState → DeviceState → H → List CopyItem → End → Type 0
  StopsRun old new h items end =
      (bytes : List ℕ) → Consumes old.unread new.unread bytes → items ≡ copy_items bytes
      → IsRunOver old new h end

  -- An item more was handled, or the run is over, with whatever comes behind the item.
  abbrev pub AnswersItem : DeviceState → DeviceState → H → List CopyItem → CopyItem
      → Result (Unit {0}) End → Type 0
  AnswersItem old new h handled item result =
      MatchResult result (λ _. HasCome old new h (handled ++ item ∷ []))
      (λ end. (more : List CopyItem) → StopsRun old new h (handled ++ item ∷ more) end)

  -- All items that were kept of these bytes were handled; or the run is over, if it has read these.
  abbrev pub HandlesKept : DeviceState → DeviceState → H → List ℕ → Reading
      → Result (Unit {0}) End → Type 0
  HandlesKept old new h bytes kept result =
      MatchResult result
      (λ _. (handled : List CopyItem) × HasCome old new h handled × HasRead bytes handled kept)
      (λ end. Consumes old.unread new.unread bytes → IsRunOver old new h end)
