-- What the items of the bytes that were read leave of a run.
use Rattle.std.proofs.Common.{◌≡◌, ℕ, List, [], ◌∷◌, ◌++◌, Some, None, refl, sym, ap, subst, ◌∙◌, append_assoc, append-nil, inl, inr}
use Rattle.std.specs.Prelude.{◌≢◌, Result, Ok, Err, IsErrAnd, ◌⊎◌}
use Rattle.std.specs.Io.KnownBytes.{Appends, Consumes}
use Rattle.frames.specs.declared.fault.FrameFault.{FrameFault}
use Rattle.frames.specs.declared.fault.FrameFault.TheVariants as frames
use Rattle.frames.specs.declared.item.CopyItem.{CopyItem}
use Rattle.frames.specs.Device.{HasFailed, HasWorked, HasFailedLast}
use Rattle.frames.specs.Stream.{Ending, Waits, Closed, Broken, Reading, copy_items, ending_of}
use Rattle.frames.specs.Reads.{Reads, HasRead, fault_of, fault_at_end, AtEndOf}
use Rattle.session.specs.State.{Setting}
use Rattle.run.specs.declared.end.End.{End}
use Rattle.run.specs.declared.end.End.TheVariants as ends
use Rattle.run.specs.Ends.{end_of_frame}
use Rattle.run.specs.Cause.{IsInputCause, IsOver}
use Rattle.run.specs.Devices.{DeviceState}
use Rattle.run.specs.Handler.{HasCome, HasTold, AnswersItem, HandlesKept, IsRunOver, end_of_result}
use Rattle.run.proofs.Running.{part_so, part_come, gone_well, Ticks-nil}
use Rattle.std.proofs.KnownBytes.{Appends-nil, Consumes-trans}
use Rattle.run.specs.Clock.{Ticks}
use Rattle.run.specs.Progress.{Progress, Update, start_progress, status_bytes}

-- ---- items that are kept

-- items of which it is known that they were read are a beginning of all
reads_beginning : (bytes : List ℕ) (items : List CopyItem) (ending : Ending) → Reads bytes items ending → (more : List CopyItem) × (items ++ more ≡ copy_items bytes)
reads_beginning bytes items (Broken frames.Device) read = ([], append-nil items ∙ read)
reads_beginning bytes items (Broken frames.OutOfMemory) read = read
reads_beginning bytes items ending read = ([], append-nil items ∙ read.0)

-- nothing was kept
pub kept_on : (bytes : List ℕ) (handled : List CopyItem) (old new : Reading) → new ≡ old → HasRead bytes handled old → HasRead bytes handled new
kept_on bytes handled old new same read = subst (HasRead bytes handled) (sym same) read

-- what is known of the items with none kept
pub none_kept : (bytes : List ℕ) (handled : List CopyItem) (kept : Reading) (ending : Ending) → HasRead bytes handled kept → kept.items ≡ [] → kept.ending ≡ ending → Reads bytes handled ending
none_kept bytes handled kept ending read none same =
    subst (Reads bytes handled) same (subst (λ items. Reads bytes items kept.ending) (ap (λ items. handled ++ items) none ∙ append-nil handled) read)

-- where a reader that was refused stands
pub broken_by : (ending : Ending) (f : FrameFault) → fault_of ending ≡ Some f → ending ≡ Broken f
broken_by (Waits rest) f e = cc
broken_by Closed f e = cc
broken_by (Broken x) f e = cc

-- a reader that was open does not answer that its device failed before
pub failed_now : (ending : Ending) (P : Type 0) → fault_of ending ≡ None → (ending ≡ Broken frames.Device) ⊎ P → P
failed_now ending P unbroken (inl e) = let broken : Some frames.Device ≡ None = ap fault_of (sym e) ∙ unbroken in cc
failed_now ending P unbroken (inr p) = p

-- a piece that a read gave, as the reader takes it
abbrev pub Gives : DeviceState → DeviceState → Reading → Reading → Type 0
Gives mid new kept more =
    (piece : List ℕ) × Consumes mid.unread new.unread piece × ((fed : List ℕ) (out : List CopyItem) → HasRead fed out kept → HasRead (fed ++ piece) out more)

module _ {H : Type 0} (g : Setting) (IsAt : H → Progress → Type 0) (HasEnded : H → List CopyItem → Progress → List CopyItem → End → Type 0) where
  -- the handler has come so far, and the run is over, in these words
  abbrev Come : DeviceState → DeviceState → H → List CopyItem → Type 0
  Come = HasCome g IsAt HasEnded

  abbrev Over : DeviceState → DeviceState → H → End → Type 0
  Over = IsRunOver g IsAt HasEnded

  -- an item that was kept ended the run
  pub kept_stopped : (old new : DeviceState) (a : H) (bytes : List ℕ) (handled : List CopyItem) (item : CopyItem) (kept : Reading) (end : End) (result : Result (Unit {0}) End) → HasRead bytes (handled ++ item ∷ []) kept
      → AnswersItem g IsAt HasEnded old new a handled item (Err end) → IsErrAnd result (λ e. e ≡ end) → HandlesKept g IsAt HasEnded old new a bytes kept result
  kept_stopped old new a bytes handled item kept end (Ok u) read stops is = absurd is
  kept_stopped old new a bytes handled item kept end (Err e) read stops is = λ consumed.
      let left = reads_beginning bytes ((handled ++ item ∷ []) ++ kept.items) kept.ending read in
      let more = kept.items ++ left.0 in
      let all : handled ++ item ∷ more ≡ copy_items bytes =
      sym (append_assoc handled (item ∷ []) more) ∙ sym (append_assoc (handled ++ item ∷ []) kept.items left.0) ∙ left.1 in
      subst (Over old new a) (sym is) (stops more bytes consumed all)

  -- ---- the end of the run

  -- the run came to the end of what it read
  over_by_end : (old new : DeviceState) (a : H) (bytes : List ℕ) (handled rest : List CopyItem) (end : End) (read : Consumes old.unread new.unread bytes) (come : Come old new a handled) (items : handled ++ rest ≡ copy_items bytes)
      → IsInputCause (part_come g IsAt HasEnded old new a bytes read handled rest items come) end → Over old new a end
  over_by_end old new a bytes handled rest end read come items cause =
      record { part = part_come g IsAt HasEnded old new a bytes read handled rest items come; why = inr (come.at, inr cause) }

  -- the items were handled, and the stream was refused there
  refused_there : (old new : DeviceState) (a : H) (bytes : List ℕ) (handled : List CopyItem) (f : FrameFault) → Consumes old.unread new.unread bytes → (come : Come old new a handled) → handled ≡ copy_items bytes
      → fault_at_end (ending_of bytes) ≡ Some f → AtEndOf (ending_of bytes) new.unread → (f ≡ frames.Device → ⊥) → (f ≡ frames.OutOfMemory → ⊥) → Over old new a (end_of_frame f)
  refused_there old new a bytes handled f read come items fault asked other ample =
      by f other ample (record { well = gone_well g IsAt HasEnded old new a bytes read handled [] all come; all_handled = refl; fault = fault; asked = asked })
    where
      all : handled ++ [] ≡ copy_items bytes
      all = append-nil handled ∙ items

      by : (f : FrameFault) → (f ≡ frames.Device → ⊥) → (f ≡ frames.OutOfMemory → ⊥)
          → IsOver (part_come g IsAt HasEnded old new a bytes read handled [] all come) (Some f) → Over old new a (end_of_frame f)
      by frames.Device other ample over = absurd (other refl)
      by frames.OutOfMemory other ample over = absurd (ample refl)
      by f other ample over = over_by_end old new a bytes handled [] (ends.Frame f) read come all over

  -- updates that were sent before a read
  told_on : (old mid new : DeviceState) (updates : List Update) → HasTold old mid updates → new.writer ≡ mid.writer
      → new.sent ≡ mid.sent → new.times ≡ mid.times → HasTold old new updates
  told_on old mid new updates told writer sent times = record {
    times = told.times;
    told = subst (λ ts. Ticks old.times ts told.times) (sym times) told.told;
    counted = told.counted;
    sent = subst (λ to. Appends old.sent to (status_bytes updates told.times)) (sym sent) told.sent;
    works = subst (HasWorked old.writer) (sym writer) told.works;
  }

  -- a read failed: all items of what the reader gave were handled
  over_by_device : (old mid new : DeviceState) (a : H) (bytes : List ℕ) (handled : List CopyItem) → Consumes old.unread new.unread bytes → Come old mid a handled → handled ≡ copy_items bytes
      → HasFailedLast mid.reader new.reader → new.writer ≡ mid.writer → new.sent ≡ mid.sent → new.times ≡ mid.times → Over old new a (ends.Frame frames.Device)
  over_by_device old mid new a bytes handled read come items failed writer sent times =
      let told = told_on old mid new come.progress.updates come.told writer sent times in
      record {
        part = part_so g old new bytes read handled [] (append-nil handled ∙ items) come.progress come.lawful told;
        why = inr (
          come.at,
          inr (record {
            all_handled = refl;
            failed = (subst (λ n. HasFailed n new.reader.failures) come.read failed.0, failed.1);
            sent = (told.works, told.sent);
          }),
        );
      }

  -- nothing has been handled yet
  pub come_none : (d : DeviceState) (a : H) → IsAt a start_progress → Come d d a []
  come_none d a at = record {
    progress = start_progress;
    lawful = refl;
    at = at;
    read = refl;
    told = record { times = []; told = Ticks-nil d.times; counted = refl; sent = Appends-nil d.sent; works = refl };
  }

  -- ---- a piece was read

  -- a read that did not fail leaves all that was done
  come_again : (old mid new : DeviceState) (a : H) (handled : List CopyItem) → Come old mid a handled → HasWorked mid.reader new.reader → new.writer ≡ mid.writer → new.sent ≡ mid.sent → new.times ≡ mid.times
      → Come old new a handled
  come_again old mid new a handled come works writer sent times = record {
    progress = come.progress;
    lawful = come.lawful;
    at = come.at;
    read = works ∙ come.read;
    told = told_on old mid new come.progress.updates come.told writer sent times;
  }

  -- the items handed out of the bytes so far were handled
  abbrev pub SoFar : DeviceState → DeviceState → H → Reading → Type 0
  SoFar old new a kept =
      (bytes : List ℕ) × (handled : List CopyItem) × Consumes old.unread new.unread bytes × Come old new a handled × HasRead bytes handled kept

  pub piece_read : (old mid new : DeviceState) (a : H) (kept more : Reading) → SoFar old mid a kept → Gives mid new kept more → HasWorked mid.reader new.reader
      → new.writer ≡ mid.writer → new.sent ≡ mid.sent → new.times ≡ mid.times → SoFar old new a more
  piece_read old mid new a kept more so gives works writer sent times = (
    so.0 ++ gives.0,
    so.1,
    Consumes-trans old.unread mid.unread new.unread so.0 gives.0 so.2 gives.1,
    come_again old mid new a so.1 so.3 works writer sent times,
    gives.2 so.0 so.1 so.4,
  )

  -- a read that failed gave nothing
  pub read_failed : (old mid new : DeviceState) (a : H) (kept more : Reading) → SoFar old mid a kept → Gives mid new kept more → more.items ≡ [] → more.ending ≡ Broken frames.Device → HasFailedLast mid.reader new.reader
      → new.writer ≡ mid.writer → new.sent ≡ mid.sent → new.times ≡ mid.times → Over old new a (ends.Frame frames.Device)
  read_failed old mid new a kept more so gives none broken failed writer sent times =
      over_by_device old mid new a (so.0 ++ gives.0) so.1 (Consumes-trans old.unread mid.unread new.unread so.0 gives.0 so.2 gives.1) so.3
      (none_kept (so.0 ++ gives.0) so.1 more (Broken frames.Device) (gives.2 so.0 so.1 so.4) none broken) failed writer sent times

  -- an error that is passed on
  pub ends_as : (old new : DeviceState) (a : H) (end : End) (result : Result (Unit {0}) End) → IsErrAnd result (λ e. e ≡ end) → Over old new a end → Over old new a (end_of_result result)
  ends_as old new a end (Ok u) is over = absurd is
  ends_as old new a end (Err e) is over = subst (Over old new a) (sym is) over

-- a reader that was refused: its fault ends the run, behind the items before it
module _ {H : Type 0} (g : Setting) (IsAt : H → Progress → Type 0) (HasEnded : H → List CopyItem → Progress → List CopyItem → End → Type 0) (old new : DeviceState) (a : H) (bytes : List ℕ) (handled : List CopyItem)
    (read : Consumes old.unread new.unread bytes) (come : HasCome g IsAt HasEnded old new a handled) where
  abbrev Ends : End → Type 0
  Ends = IsRunOver g IsAt HasEnded old new a

  pub over_by_fault : (f : FrameFault) → Reads bytes handled (Broken f) → f ≢ frames.Device → Ends (end_of_frame f)
  over_by_fault frames.Device known other = absurd (other refl)
  over_by_fault frames.OutOfMemory known other =
      over_by_end g IsAt HasEnded old new a bytes handled known.0 ends.OutOfMemory read come known.1
      (gone_well g IsAt HasEnded old new a bytes read handled known.0 known.1 come)
  over_by_fault f known other = refused_there g IsAt HasEnded old new a bytes handled f read come known.0 (ap fault_at_end known.1) (rw known.1 tt) other (λ e. cc)

  -- a reader that asks for no more: the input ends here, inside a frame
  pub over_inside : (ending : Ending) (f : FrameFault) → Reads bytes handled ending → AtEndOf ending new.unread → fault_of ending ≡ None → fault_at_end ending ≡ Some f → Ends (end_of_frame f)
  over_inside (Waits []) f known asked unbroken fault = absurd cc
  over_inside (Waits (b ∷ rest)) f known asked unbroken fault =
      let cut : frames.Truncated ≡ f = cc in
      subst (λ x. Ends (end_of_frame x)) cut
      (refused_there g IsAt HasEnded old new a bytes handled frames.Truncated read come known.0 (ap fault_at_end known.1) (rw known.1 asked) (λ e. cc) (λ e. cc))
  over_inside Closed f known asked unbroken fault = absurd cc
  over_inside (Broken x) f known asked unbroken fault = absurd cc

  at_edge : (ending : Ending) → (handled ≡ copy_items bytes) × (ending_of bytes ≡ ending) → fault_at_end ending ≡ None → AtEndOf ending new.unread → Ends ends.Clean
  at_edge ending known none asked =
      over_by_end g IsAt HasEnded old new a bytes handled [] ends.Clean read come (append-nil handled ∙ known.0)
      (record { well = gone_well g IsAt HasEnded old new a bytes read handled [] (append-nil handled ∙ known.0) come; all_handled = refl; fault = ap fault_at_end known.1 ∙ none; asked = rw known.1 asked })

  -- or at a frame's edge, or behind CopyDone
  pub over_at_edge : (ending : Ending) → Reads bytes handled ending → AtEndOf ending new.unread → fault_of ending ≡ None → fault_at_end ending ≡ None → Ends ends.Clean
  over_at_edge (Waits []) known asked unbroken fault = at_edge (Waits []) known refl asked
  over_at_edge (Waits (b ∷ rest)) known asked unbroken fault = absurd cc
  over_at_edge Closed known asked unbroken fault = at_edge Closed known refl asked
  over_at_edge (Broken x) known asked unbroken fault = absurd cc
