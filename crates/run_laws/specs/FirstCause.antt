-- What a stream gives a run without threads to end by.
--     IsStreamCause      a cause of an end, for each end, at a state with these items left
--     NoShorterCause      none at what a shorter beginning of the items led to
--     IsAtFirstCause      a run ends at its first cause
use Rattle.std.specs.Prelude.{◌≡◌, List, ◌∷◌, ◌++◌, ◌⊎◌}
use Rattle.model.specs.Rows.{Rows}
use Rattle.frames.specs.declared.item.CopyItem.{CopyItem}
use Rattle.session.specs.State.{State, Setting}
use Rattle.run.specs.declared.end.End.{End}
use Rattle.run.specs.declared.end.End.TheVariants as ends
use Rattle.run.specs.Cause.{IsNextCause, IsLastCause}
use Rattle.run.specs.Progress.{Progress, Leads, start_progress}

-- The stream gives this cause at a state, with these items left: by the next message, or by a
-- change of the transaction that was begun. Want of memory is not its doing.
abbrev pub IsStreamCause : Setting → Rows → State → List CopyItem → End → Type 0
IsStreamCause g rows s rest ends.OutOfMemory = ⊥
IsStreamCause g rows s rest end = IsNextCause g rows s rest end ⊎ IsLastCause g rows s end

-- The stream gives no cause at what a shorter beginning of the items handled led to.
abbrev pub NoShorterCause : Setting → Rows → List CopyItem → List CopyItem → Type 0
NoShorterCause g rows handled rest =
    (before after : List CopyItem) (item : CopyItem) (q : Progress) (end : End)
    → handled ≡ before ++ item ∷ after → Leads g start_progress before q
    → ¬ (IsStreamCause g rows q.state (item ∷ after ++ rest) end)

-- A run that handled these items, with these left, ends at its first cause: there is none at a
-- shorter beginning; and where a change of the transaction that was begun has clashed, the run ends
-- by that.
pub record IsAtFirstCause (g : Setting) (rows : Rows) (handled rest : List CopyItem) (s : State)
    (end : End) : Type 0 where
  pub none_before : NoShorterCause g rows handled rest
  pub by_clash : (clash : End) → IsLastCause g rows s clash → end ≡ clash
