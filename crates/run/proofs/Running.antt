-- What the items so far, and the status updates after them, leave of a run.
use Rattle.std.proofs.Common.{◌≡◌, ℕ, ◌+◌, Bool, true, false, List, [], ◌∷◌, ◌++◌, length, Option, Some, None, refl, sym, ap, subst, ◌∙◌, append_assoc, append-nil, length-append, arith, inl, inr}
use Rattle.std.specs.Prelude.{Result, Ok, Err, ℤ, IsErrAnd, ◌⊎◌, max}
use Rattle.std.specs.Io.KnownBytes.{Appends, Keeps, Consumes}
use Rattle.std.proofs.KnownBytes.{Appends-nil, Appends-trans, Appends-kept, Consumes-nil}
use Rattle.model.specs.Rows.{Rows}
use Rattle.frames.specs.declared.fault.FrameFault.{FrameFault}
use Rattle.frames.specs.declared.fault.FrameFault.TheVariants as frames
use Rattle.frames.specs.declared.item.CopyItem.{CopyItem}
use Rattle.frames.specs.Device.{HasFailed, HasWorked, HasFailedLast}
use Rattle.frames.specs.Status.{status_frame}
use Rattle.frames.specs.Stream.{copy_items}
use Rattle.session.specs.State.{Setting}
use Rattle.run.specs.declared.end.End.{End}
use Rattle.run.specs.declared.end.End.TheVariants as ends
use Rattle.run.specs.Clock.{Ticks}
use Rattle.run.specs.Ends.{end_of_frame}
use Rattle.run.specs.Progress.{Progress, Handles, Leads, start_progress, Update, update, status_bytes}
use Rattle.run.specs.Cause.{LastStep, HasGoneWell, LastIsCut, IsSendCause}
use Rattle.run.specs.Devices.{DeviceState}
use Rattle.run.specs.Handler.{IsUnderWay, EndsByItem, HasHandled, HasTold, HasCome, StopsRun, AnswersItem}
use Rattle.frames.proofs.Handed.{Reads-nothing}
use Rattle.run.specs.StreamPart.{StreamPart}

pub Leads-more : (g : Setting) (p q r : Progress) (items : List CopyItem) (item : CopyItem) → Leads g p items q → Handles g q item r → Leads g p (items ++ item ∷ []) r
Leads-more g p q r [] item leads handles = (r, subst (λ (x : Progress). Handles g x item r) (sym leads) handles, refl)
Leads-more g p q r (i ∷ items) item leads handles = (leads.0, leads.1, Leads-more g leads.0 q r items item leads.2 handles)

-- ---- times and status updates

pub Ticks-trans : (a b c : Option (List ℤ)) (ts us : List ℤ) → Ticks a b ts → Ticks b c us → Ticks a c (ts ++ us)
Ticks-trans None b c ts us p q = tt
Ticks-trans (Some x) None c ts us p q = absurd p
Ticks-trans (Some x) (Some y) None ts us p q = absurd q
Ticks-trans (Some x) (Some y) (Some z) ts us p q = q ∙ ap (λ l. l ++ us) p ∙ append_assoc x ts us

pub Ticks-nil : (a : Option (List ℤ)) → Ticks a a []
Ticks-nil None = tt
Ticks-nil (Some x) = sym (append-nil x)

-- nothing was handled
abbrev pub nothing_handled : (g : Setting) (devices : DeviceState) → StreamPart g devices devices
nothing_handled g devices = record {
  bytes = [];
  read = Consumes-nil devices.unread;
  handled = [];
  rest = [];
  items = Reads-nothing.0;
  progress = start_progress;
  lawful = refl;
  times = [];
  told = Ticks-nil devices.times;
  counted = refl;
}

-- the part of a stream that was handled, where all status updates were sent
abbrev pub part_so : (g : Setting) (old new : DeviceState) (bytes : List ℕ) → Consumes old.unread new.unread bytes
    → (handled rest : List CopyItem) → handled ++ rest ≡ copy_items bytes → (p : Progress)
    → Leads g start_progress handled p → HasTold old new p.updates → StreamPart g old new
part_so g old new bytes read handled rest items p lawful told = record {
  bytes = bytes;
  read = read;
  handled = handled;
  rest = rest;
  items = items;
  progress = p;
  lawful = lawful;
  times = told.times;
  told = told.told;
  counted = told.counted;
}

pub well_so : (g : Setting) (old new : DeviceState) (bytes : List ℕ) (read : Consumes old.unread new.unread bytes)
    (handled rest : List CopyItem) (items : handled ++ rest ≡ copy_items bytes) (p : Progress)
    (lawful : Leads g start_progress handled p) (told : HasTold old new p.updates) → HasWorked old.reader new.reader
    → HasGoneWell (part_so g old new bytes read handled rest items p lawful told)
well_so g old new bytes read handled rest items p lawful told works = record { read = works; sent = (told.works, told.sent) }

-- the frame of an update at a time
abbrev pub frame_at : Update → ℤ → List ℕ
frame_at u time = status_frame (record { written = u.written; flushed = u.applied; applied = u.applied; clock = time })

pub status_bytes-push : (updates : List Update) (times : List ℤ) (u : Update) (time : ℤ) → length times ≡ length updates → status_bytes (updates ++ u ∷ []) (times ++ time ∷ []) ≡ status_bytes updates times ++ frame_at u time
status_bytes-push [] [] u time e = append-nil (frame_at u time)
status_bytes-push [] (t ∷ times) u time e = absurd (omega arith)
status_bytes-push (v ∷ updates) [] u time e = absurd (omega arith)
status_bytes-push (v ∷ updates) (t ∷ times) u time e =
    ap (λ bs. frame_at v t ++ bs) (status_bytes-push updates times u time (omega arith)) ∙ sym (append_assoc (frame_at v t) (status_bytes updates times) (frame_at u time))

pub status_bytes-longer : (updates : List Update) (times more : List ℤ) → length times ≡ length updates → status_bytes updates (times ++ more) ≡ status_bytes updates times
status_bytes-longer [] times more e = refl
status_bytes-longer (v ∷ updates) [] more e = absurd (omega arith)
status_bytes-longer (v ∷ updates) (t ∷ times) more e = ap (λ bs. frame_at v t ++ bs) (status_bytes-longer updates times more (omega arith))

-- the bytes of all updates, where the frame of the last has this beginning
but_last : (before updates : List Update) (times : List ℤ) (u : Update) (time : ℤ) (part left : List ℕ) → updates ≡ before ++ u ∷ [] → length times ≡ length before → frame_at u time ≡ part ++ left
    → status_bytes updates (times ++ time ∷ []) ≡ status_bytes before (times ++ time ∷ []) ++ part ++ left
but_last before updates times u time part left split counted frame =
    ap (λ us. status_bytes us (times ++ time ∷ [])) split ∙ status_bytes-push before times u time counted
    ∙ ap (λ bs. status_bytes before times ++ bs) frame ∙ sym (append_assoc (status_bytes before times) part left) ∙ ap (λ bs. bs ++ part ++ left) (sym (status_bytes-longer before times (time ∷ []) counted))

-- the frame of the update that is due at this progress, whose numbers are these
frame_of : (p : Progress) (written flushed applied : ℕ) (time : ℤ) → written ≡ max p.seen p.state.position → flushed ≡ p.state.position → applied ≡ p.state.position
    → frame_at (update p.state p.seen) time ≡ status_frame (record { written = written; flushed = flushed; applied = applied; clock = time })
frame_of p written flushed applied time is_written is_flushed is_applied = rw (is_written, is_flushed, is_applied)

-- it goes on behind an item that was handled
pub under_way : {H : Type 0} → (g : Setting) (rows : Rows) (IsAt : Setting → Rows → H → Progress → Type 0) (HasEnded : Setting → Rows → H → List CopyItem → Progress → List CopyItem → End → Type 0)
    (handled : List CopyItem) (p : Progress) (h : H) (item : CopyItem) (told : Bool) → Leads g start_progress handled p → HasHandled g (IsAt g rows) (HasEnded g rows) h p item told → IsUnderWay IsAt h
under_way g rows IsAt HasEnded handled p h item told lawful done = (g, rows, handled ++ item ∷ [], done.progress, Leads-more g start_progress p done.progress handled item lawful done.handles, done.at)

-- an item more
abbrev pub with_item : (g : Setting) (handled : List CopyItem) (item : CopyItem) (p q : Progress) → Leads g start_progress handled p → Handles g p item q → LastStep g (handled ++ item ∷ []) q
with_item g handled item p q lawful handles = record { before = handled; item = item; split = refl; past = p; lawful = lawful; step = handles }

module _ {H : Type 0} (g : Setting) (IsAt : H → Progress → Type 0) (HasEnded : H → List CopyItem → Progress → List CopyItem → End → Type 0) where
  -- ---- an item was handled

  -- and no update is due
  pub come_on : (old new : DeviceState) (a b : H) (handled : List CopyItem) (item : CopyItem) (come : HasCome g IsAt HasEnded old new a handled)
      → HasHandled g IsAt HasEnded b come.progress item false → HasCome g IsAt HasEnded old new b (handled ++ item ∷ [])
  come_on old new a b handled item come h = record {
    progress = h.progress;
    lawful = Leads-more g start_progress come.progress h.progress handled item come.lawful h.handles;
    at = h.at;
    read = come.read;
    told = subst (HasTold old new) (sym (h.updates ∙ append-nil come.progress.updates)) come.told;
  }

  -- and an update was sent
  pub come_told : (old mid new : DeviceState) (a b : H) (handled : List CopyItem) (item : CopyItem) (time : ℤ) (written flushed applied : ℕ)
      (come : HasCome g IsAt HasEnded old mid a handled) (h : HasHandled g IsAt HasEnded b come.progress item true) → Ticks mid.times new.times (time ∷ [])
      → written ≡ max h.progress.seen h.progress.state.position → flushed ≡ h.progress.state.position → applied ≡ h.progress.state.position
      → Appends mid.sent new.sent (status_frame (record { written = written; flushed = flushed; applied = applied; clock = time })) → HasWorked mid.writer new.writer
      → new.reader ≡ mid.reader → HasCome g IsAt HasEnded old new b (handled ++ item ∷ [])
  come_told old mid new a b handled item time written flushed applied come h ticks is_written is_flushed is_applied sent works reader =
      let p = come.progress in
      let u = update h.progress.state h.progress.seen in
      let ts = come.told.times in
      let frame : Appends mid.sent new.sent (frame_at u time) =
      subst (Appends mid.sent new.sent) (sym (frame_of h.progress written flushed applied time is_written is_flushed is_applied)) sent in
      record {
        progress = h.progress;
        lawful = Leads-more g start_progress p h.progress handled item come.lawful h.handles;
        at = h.at;
        read = subst (HasWorked old.reader) (sym reader) come.read;
        told = subst (HasTold old new) (sym h.updates)
            (record {
              times = ts ++ time ∷ [];
              told = Ticks-trans old.times mid.times new.times ts (time ∷ []) come.told.told ticks;
              counted = length-append ts (time ∷ []) ∙ ap (λ n. n + 1) come.told.counted ∙ sym (length-append p.updates (u ∷ []));
              sent = subst (Appends old.sent new.sent) (sym (status_bytes-push p.updates ts u time come.told.counted)) (Appends-trans old.sent mid.sent new.sent (status_bytes p.updates ts) (frame_at u time) come.told.sent frame);
              works = works ∙ come.told.works;
            });
      }

  -- ---- an item ended the run

  -- the part of these bytes that was handled so far
  abbrev pub part_come : (old new : DeviceState) (a : H) (bytes : List ℕ) → Consumes old.unread new.unread bytes
      → (handled rest : List CopyItem) → handled ++ rest ≡ copy_items bytes → HasCome g IsAt HasEnded old new a handled
      → StreamPart g old new
  part_come old new a bytes read handled rest items come =
      part_so g old new bytes read handled rest items come.progress come.lawful come.told

  -- nothing has failed so far
  pub gone_well : (old new : DeviceState) (a : H) (bytes : List ℕ) (read : Consumes old.unread new.unread bytes)
      (handled rest : List CopyItem) (items : handled ++ rest ≡ copy_items bytes)
      (come : HasCome g IsAt HasEnded old new a handled)
      → HasGoneWell (part_come old new a bytes read handled rest items come)
  gone_well old new a bytes read handled rest items come =
      well_so g old new bytes read handled rest items come.progress come.lawful come.told come.read

  pub stopped : (old new : DeviceState) (a b : H) (handled : List CopyItem) (item : CopyItem) (result : Result (Unit {0}) End) (end : End) (come : HasCome g IsAt HasEnded old new a handled)
      → EndsByItem g IsAt HasEnded b handled come.progress item end → IsErrAnd result (λ e. e ≡ end) → AnswersItem g IsAt HasEnded old new b handled item result
  stopped old new a b handled item (Ok u) end come why is = absurd is
  stopped old new a b handled item (Err e) end come (inl why) is = λ more.
      subst (StopsRun g IsAt HasEnded old new b (handled ++ item ∷ more)) (sym is)
      (λ bytes read items.
      record {
        part = part_come old new a bytes read handled (item ∷ more) items come;
        why = inl (record { ended = why more; well = gone_well old new a bytes read handled (item ∷ more) items come });
      })
  stopped old new a b handled item (Err e) end come (inr (q, handles, same, why)) is = λ more.
      let told = subst (HasTold old new) (sym same) come.told in
      let lawful = Leads-more g start_progress come.progress q handled item come.lawful handles in
      subst (StopsRun g IsAt HasEnded old new b (handled ++ item ∷ more)) (sym is)
      (λ bytes read items.
      let all : (handled ++ item ∷ []) ++ more ≡ copy_items bytes = append_assoc handled (item ∷ []) more ∙ items in
      record {
        part = part_so g old new bytes read (handled ++ item ∷ []) more all q lawful told;
        why = inl (record {
          ended = why more;
          well = well_so g old new bytes read (handled ++ item ∷ []) more all q lawful told come.read;
        });
      })

-- the update could not be sent
module _ {H : Type 0} (g : Setting) (IsAt : H → Progress → Type 0) (HasEnded : H → List CopyItem → Progress → List CopyItem → End → Type 0) (old mid new : DeviceState) (a b : H) (handled : List CopyItem) (item : CopyItem) (time : ℤ)
    (come : HasCome g IsAt HasEnded old mid a handled) (h : HasHandled g IsAt HasEnded b come.progress item true)
    (ticks : Ticks mid.times new.times (time ∷ [])) (reader : new.reader ≡ mid.reader) where
  abbrev ts : List ℤ
  ts = come.told.times

  abbrev all : List CopyItem
  all = handled ++ item ∷ []

  counted : length (ts ++ time ∷ []) ≡ length h.progress.updates
  counted =
      length-append ts (time ∷ []) ∙ ap (λ n. n + 1) come.told.counted
      ∙ sym (length-append come.progress.updates (update h.progress.state h.progress.seen ∷ [])) ∙ ap length (sym h.updates)

  read_on : HasWorked old.reader new.reader
  read_on = subst (HasWorked old.reader) (sym reader) come.read

  -- the part of the stream that was handled, with the item
  abbrev there : (bytes : List ℕ) → Consumes old.unread new.unread bytes → (more : List CopyItem)
      → handled ++ item ∷ more ≡ copy_items bytes → StreamPart g old new
  there bytes read more items = record {
    bytes = bytes;
    read = read;
    handled = all;
    rest = more;
    items = append_assoc handled (item ∷ []) more ∙ items;
    progress = h.progress;
    lawful = Leads-more g start_progress come.progress h.progress handled item come.lawful h.handles;
    times = ts ++ time ∷ [];
    told = Ticks-trans old.times mid.times new.times ts (time ∷ []) come.told.told ticks;
    counted = counted;
  }

  -- all before it were sent, and this of it
  abbrev cut_at : (bytes : List ℕ) (read : Consumes old.unread new.unread bytes) (more : List CopyItem)
      (items : handled ++ item ∷ more ≡ copy_items bytes) (taken left : List ℕ)
      → frame_at (update h.progress.state h.progress.seen) time ≡ taken ++ left → Appends mid.sent new.sent taken
      → LastIsCut (there bytes read more items)
  cut_at bytes read more items taken left frame went = record {
    last = with_item g handled item come.progress h.progress come.lawful h.handles;
    update = update h.progress.state h.progress.seen;
    due = h.updates;
    taken = taken;
    unsent = left;
    frame = but_last come.progress.updates h.progress.updates ts (update h.progress.state h.progress.seen) time taken left h.updates come.told.counted frame;
    sent = subst (λ bs. Appends old.sent new.sent (bs ++ taken)) (sym (status_bytes-longer come.progress.updates ts (time ∷ []) come.told.counted))
        (Appends-trans old.sent mid.sent new.sent (status_bytes come.progress.updates ts) taken come.told.sent went);
  }

  stops_there : (end : End) (more : List CopyItem)
      → ((bytes : List ℕ) (read : Consumes old.unread new.unread bytes) (items : handled ++ item ∷ more ≡ copy_items bytes)
      → IsSendCause (there bytes read more items) end)
      → StopsRun g IsAt HasEnded old new b (handled ++ item ∷ more) end
  stops_there end more why = λ bytes read items.
      record { part = there bytes read more items; why = inr (h.at, inl (why bytes read items)) }

  pub unsent : (written flushed applied : ℕ) (result : Result (Unit {0}) End) (fault : FrameFault) → (fault ≡ frames.Device) ⊎ (fault ≡ frames.OutOfMemory)
      → (fault ≡ frames.Device → HasFailedLast mid.writer new.writer) → (fault ≡ frames.OutOfMemory → HasWorked mid.writer new.writer × Keeps mid.sent new.sent)
      → (fault ≡ frames.Device → (part : List ℕ) × (left : List ℕ) × (status_frame (record { written = written; flushed = flushed; applied = applied; clock = time }) ≡ part ++ left) × Appends mid.sent new.sent part)
      → written ≡ max h.progress.seen h.progress.state.position → flushed ≡ h.progress.state.position → applied ≡ h.progress.state.position
      → IsErrAnd result (λ e. e ≡ end_of_frame fault) → AnswersItem g IsAt HasEnded old new b handled item result
  unsent written flushed applied (Ok u) fault kind failed kept part is_written is_flushed is_applied is = absurd is
  unsent written flushed applied (Err e) fault (inl device) failed kept part is_written is_flushed is_applied is =
      let went = part device in
      let fails = failed device in
      let frame : frame_at (update h.progress.state h.progress.seen) time ≡ went.0 ++ went.1 = frame_of h.progress written flushed applied time is_written is_flushed is_applied ∙ went.2 in
      λ more.
      subst (StopsRun g IsAt HasEnded old new b (handled ++ item ∷ more)) (sym (is ∙ ap end_of_frame device))
      (stops_there (ends.Frame frames.Device) more
      (λ bytes read items.
      record {
        read = read_on;
        failed = (subst (λ n. HasFailed n new.writer.failures) come.told.works fails.0, fails.1);
        cut = cut_at bytes read more items went.0 went.1 frame went.3;
      }))
  unsent written flushed applied (Err e) fault (inr memory) failed kept part is_written is_flushed is_applied is =
      let was = kept memory in
      λ more.
      subst (StopsRun g IsAt HasEnded old new b (handled ++ item ∷ more)) (sym (is ∙ ap end_of_frame memory))
      (stops_there ends.OutOfMemory more
      (λ bytes read items.
      record {
        read = read_on;
        written = was.0 ∙ come.told.works;
        cut = cut_at bytes read more items [] (frame_at (update h.progress.state h.progress.seen) time) refl (Appends-kept mid.sent mid.sent new.sent [] (Appends-nil mid.sent) was.1);
        nothing = refl;
      }))
