-- A run without threads ends at its first cause.
use Rattle.std.proofs.Common.{◌≡◌, ◌≢◌, ℕ, Bool, List, [], ◌∷◌, ◌++◌, refl, sym, ap, subst, ◌∙◌, inl, inr}
use Rattle.std.specs.Prelude.{◌⊎◌}
use Rattle.model.specs.Rows.{Rows, Schema}
use Rattle.model.specs.declared.change.Change as change_type
use Rattle.model.specs.Effect.{ClashCause, NullKey, Unique, Clashes, effect}
use Rattle.change.specs.declared.outcome.Clash.{Clash}
use Rattle.messages.proofs.Formats.{Spells-one}
use Rattle.messages.specs.declared.fault.MsgFault.{MsgFault}
use Rattle.messages.specs.declared.message.Message.{Message}
use Rattle.messages.specs.Format.{Format, done, one, followed_by, Spells, Fails}
use Rattle.messages.specs.Messages.{message, Spelled, HasFault}
use Rattle.frames.specs.declared.item.CopyItem.{CopyItem}
use Rattle.frames.specs.declared.item.CopyItem.TheVariants.{Wal, Keepalive, Done}
use Rattle.session.specs.declared.fault.Refused.{Refused}
use Rattle.session.specs.declared.fault.Refused.TheVariants as refusals
use Rattle.session.specs.State.{State, Setting, in_block}
use Rattle.session.specs.Lawful.{Admits, Refuses}
use Rattle.run.specs.declared.end.End.{End}
use Rattle.run.specs.declared.end.End.TheVariants as ends
use Rattle.run.specs.declared.outcome.Outcome.{Outcome}
use Rattle.run.specs.Cause.{schema_of, RefusesNext, NextClashes, IsLastCause, HasNotClashed, LastClashed}
use Rattle.run.specs.Commits.{committed_changes, begun_changes, all_changes}
use Rattle.run.specs.Devices.{DeviceState}
use Rattle.run.specs.Progress.{Progress, Handles, Leads, start_progress}
use Rattle.run.specs.Run.{IsRun}
use Rattle.engine.specs.FirstClash.{ClashesIn}
use Rattle.model.specs.Accepted.{AreAccepted}
use Rattle.world.specs.World.{starting}
use Rattle.run_laws.proofs.Begun.{IsSane, begun}
use Rattle.run_laws.specs.FirstCause.{IsStreamCause, IsAtFirstCause}
use Rattle.run_laws.proofs.Alone.{clear_front, ClashesFirst, first_in_clear}
use Rattle.run_laws.proofs.Reaching.{done as done_by, all_done, led_more}
use Rattle.run_laws.proofs.Running.{clash_of, first_in, clear_or_last}
use Rattle.run_laws.proofs.Telling.{sane_start}
use Rattle.run_laws.proofs.Threading.{sane_items}
use Rattle.run_laws.proofs.Unthreaded.{leads_on, not_refused, next_clash}

-- ---- a clash of the transaction that was begun

-- the end by this clash
abbrev pub end_by : ClashCause → End
end_by (Unique table key) = ends.Unique table key
end_by (NullKey table) = ends.NullKey table

one_clash : (a b : ClashCause) → Clashes a ≡ Clashes b → a ≡ b
one_clash a b e = cc

-- one cause is the first
one_first : (schema : Schema) (rows : Rows) (cs : List change_type.Change) (a b : ClashCause)
    → ClashesFirst schema rows cs a → ClashesFirst schema rows cs b → a ≡ b
one_first schema rows [] a b first second = absurd first
one_first schema rows (c ∷ cs) a b first second =
    elim first [
      | inl here ↦
          elim second [ inl too ↦ one_clash a b (sym here ∙ too) | inr later ↦ absurd (later.0 a here) ]
      | inr later ↦
          elim second [
            | inl here ↦ absurd (later.0 b here)
            | inr too ↦ one_first schema (effect schema rows c) cs a b later.1 too.1
          ]
    ]

last_clash : (g : Setting) (rows : Rows) (s : State) (end : End) → IsLastCause g rows s end
    → (cause : ClashCause) × (end ≡ end_by cause) × ClashesFirst (schema_of g) rows (all_changes s) cause
last_clash g rows s (ends.Unique table key) is =
    (Unique table key, refl, first_in (schema_of g) rows (all_changes s) (Unique table key) is)
last_clash g rows s (ends.NullKey table) is =
    (NullKey table, refl, first_in (schema_of g) rows (all_changes s) (NullKey table) is)
last_clash g rows s end is = absurd is

one_last : (g : Setting) (rows : Rows) (s : State) (a b : End) → IsLastCause g rows s a → IsLastCause g rows s b
    → a ≡ b
one_last g rows s a b first second =
    let x = last_clash g rows s a first in
    let y = last_clash g rows s b second in
    x.1 ∙ ap end_by (one_first (schema_of g) rows (all_changes s) x.0 y.0 x.2 y.2) ∙ sym y.1

-- ---- a payload that spells a message has no fault

-- bytes that begin with a spelling of all fields fail none of them
none_fails : {A : Type 0} (p : Format A) (bytes : List ℕ) (value : A) (rest : List ℕ) (fault : MsgFault)
    → Spells p bytes value rest → Fails p bytes fault → ⊥
none_fails (done a) bytes value rest fault is fails = fails
none_fails (one f) bytes value rest fault is fails = fails.0 value rest is
none_fails (followed_by {A = A} p next) bytes value rest fault is fails =
    elim fails [
      | inl first ↦ none_fails p bytes is.0 is.1 fault is.2 first
      | inr later ↦
          let same = Spells-one p bytes is.0 later.0 is.1 later.1 is.2 later.2 in
          none_fails (next later.0) later.1 value rest fault
          (subst (λ (middle : List ℕ). Spells (next later.0) middle value rest) same.1
          (subst (λ (a : A). Spells (next a) is.1 value rest) same.0 is.3)) later.3
    ]

spelled_has_none : (payload : List ℕ) (in_block : Bool) (m : Message) (fault : MsgFault) → Spelled payload in_block m
    → HasFault payload in_block fault → ⊥
unfolding Spelled HasFault
spelled_has_none payload in_block m fault is stands =
    elim stands [
      | inl fails ↦ none_fails (message in_block) payload m [] fault is fails
      | inr longer ↦ longer.3 (sym (Spells-one (message in_block) payload m longer.0 [] longer.1 is longer.2).1)
    ]

-- ---- the next item

-- what is next is the first item alone
first_clashes : (g : Setting) (rows : Rows) (s : State) (item : CopyItem) (xs ys : List CopyItem) (clash : Clash)
    → NextClashes g rows s (item ∷ xs) clash → NextClashes g rows s (item ∷ ys) clash
first_clashes g rows s (Wal first last payload) xs ys clash next = next
first_clashes g rows s (Keepalive last reply) xs ys clash next = next
first_clashes g rows s Done xs ys clash next = next

-- a message that is admitted is not refused, but for want of memory
admitted : (g : Setting) (s t : State) (payload : List ℕ) (m : Message) (refused : Refused) → Admits g s payload m t
    → refused ≢ refusals.OutOfMemory → Refuses g s payload refused → ⊥
admitted g s t payload m (refusals.Msg fault) admits other is =
    spelled_has_none payload (in_block s.phase) m fault admits.spelled is
admitted g s t payload m (refusals.Session fault) admits other is =
    not_refused g s t payload m admits (refusals.Session fault) is
admitted g s t payload m (refusals.Rel fault) admits other is =
    not_refused g s t payload m admits (refusals.Rel fault) is
admitted g s t payload m refusals.OutOfMemory admits other is = other refl

-- nor is the message of an item that was handled
handled_next : (g : Setting) (p q : Progress) (item : CopyItem) (rest : List CopyItem) (refused : Refused)
    → Handles g p item q → refused ≢ refusals.OutOfMemory → RefusesNext g p.state (item ∷ rest) refused → ⊥
handled_next g p q (Wal first last payload) rest refused is other next =
    admitted g p.state q.state payload is.0 refused is.1 other next
handled_next g p q (Keepalive last reply) rest refused is other next = next
handled_next g p q Done rest refused is other next = next

-- ---- a shorter beginning of the items

not_empty : (before : List CopyItem) (item : CopyItem) (after : List CopyItem) → before ++ item ∷ after ≡ [] → ⊥
not_empty [] item after e = cc
not_empty (i ∷ before) item after e = cc

both : (i j : CopyItem) (xs ys : List CopyItem) → i ∷ xs ≡ j ∷ ys → (i ≡ j) × (xs ≡ ys)
both i j xs ys e = (cc, cc)

-- it is one of all items but the last
all_but_last : (before : List CopyItem) (item : CopyItem) (after front : List CopyItem) (last : CopyItem)
    → before ++ item ∷ after ≡ front ++ last ∷ [] → (more : List CopyItem) × (front ≡ before ++ more)
all_but_last [] item after front last e = (front, refl)
all_but_last (i ∷ before) item after [] last e =
    absurd (not_empty before item after (both i last (before ++ item ∷ after) [] e).1)
all_but_last (i ∷ before) item after (j ∷ front) last e =
    let is = both i j (before ++ item ∷ after) (front ++ last ∷ []) e in
    let more = all_but_last before item after front last is.1 in
    (more.0, ap (λ items. j ∷ items) more.1 ∙ ap (λ k. k ∷ before ++ more.0) (sym is.0))

-- where no change clashed, none had clashed before
clear_earlier : (schema : Schema) (rows : Rows) (g : Setting) (q p : Progress) (items : List CopyItem) → IsSane q.state
    → Leads g q items p → AreAccepted schema rows (all_changes p.state) → AreAccepted schema rows (all_changes q.state)
clear_earlier schema rows g q p items sane is clear =
    let more = led_more schema rows (starting rows) g q p items sane is in
    subst (AreAccepted schema rows) (sym (all_done q.state))
    (clear_front schema rows (done_by q.state.past (begun q.state)) more.0
    (subst (AreAccepted schema rows) (all_done p.state ∙ more.1) clear))

-- ---- a run

module _ (g : Setting) (rows : Rows) (old new : DeviceState) (o : Outcome) (run : IsRun g rows old new o) where
  clash : HasNotClashed rows run.part ⊎ LastClashed rows run.part o.end
  clash = clear_or_last g rows old new run.part o.end run.cause

  by_clash : (end : End) → IsLastCause g rows run.part.progress.state end → o.end ≡ end
  by_clash end is =
      elim clash [
        | inl all ↦
            let last = last_clash g rows run.part.progress.state end is in
            absurd (first_in_clear (schema_of g) rows (all_changes run.part.progress.state) last.0 all last.2)
        | inr last ↦ one_last g rows run.part.progress.state o.end end last.why is
      ]

module _ (g : Setting) (rows : Rows) (old new : DeviceState) (o : Outcome) (run : IsRun g rows old new o)
    (before after : List CopyItem) (item : CopyItem) (q : Progress)
    (split : run.part.handled ≡ before ++ item ∷ after) (lawful : Leads g start_progress before q) where
  sane : IsSane q.state
  sane = sane_items g start_progress q before sane_start lawful

  later : Leads g q (item ∷ after) run.part.progress
  later =
      leads_on g start_progress run.part.progress q before (item ∷ after) lawful
      (subst (λ items. Leads g start_progress items run.part.progress) split run.part.lawful)

  -- what was committed at the end of the run is clear
  committed : AreAccepted (schema_of g) rows (committed_changes run.part.progress.state)
  committed =
      elim (clash g rows old new o run) [
        | inl all ↦
            clear_front (schema_of g) rows (committed_changes run.part.progress.state) (begun_changes run.part.progress.state) all
        | inr last ↦ last.committed
      ]

  -- all that was done by these items is clear
  clear : AreAccepted (schema_of g) rows (all_changes q.state)
  clear =
      elim (clash g rows old new o run) [
        | inl all ↦ clear_earlier (schema_of g) rows g q run.part.progress (item ∷ after) sane later all
        | inr is ↦
            let more = all_but_last before item after is.last.before is.last.item (sym split ∙ is.last.split) in
            clear_earlier (schema_of g) rows g q is.last.past more.0 sane
            (leads_on g start_progress is.last.past q before more.0 lawful
            (subst (λ items. Leads g start_progress items is.last.past) more.1 is.last.lawful)) is.clear
      ]

  none_refused : (refused : Refused) → refused ≢ refusals.OutOfMemory
      → RefusesNext g q.state (item ∷ after ++ run.part.rest) refused → ⊥
  none_refused refused = handled_next g q later.0 item (after ++ run.part.rest) refused later.1

  none_clashes : (cause : ClashCause)
      → NextClashes g rows q.state (item ∷ after ++ run.part.rest) (clash_of cause)
      ⊎ ClashesIn (schema_of g) rows (all_changes q.state) (clash_of cause) → ⊥
  none_clashes cause is =
      elim is [
        | inl next ↦
            next_clash g rows q run.part.progress (item ∷ after) sane later committed cause
            (first_clashes g rows q.state item (after ++ run.part.rest) after (clash_of cause) next)
        | inr last ↦
            first_in_clear (schema_of g) rows (all_changes q.state) cause clear
            (first_in (schema_of g) rows (all_changes q.state) cause last)
      ]

  no_cause_before : (end : End) → IsStreamCause g rows q.state (item ∷ after ++ run.part.rest) end → ⊥
  no_cause_before (ends.Msg fault) is =
      elim is [ inl next ↦ none_refused (refusals.Msg fault) (λ e. cc) next | inr last ↦ last ]
  no_cause_before (ends.Session fault) is =
      elim is [ inl next ↦ none_refused (refusals.Session fault) (λ e. cc) next | inr last ↦ last ]
  no_cause_before (ends.Rel fault) is =
      elim is [ inl next ↦ none_refused (refusals.Rel fault) (λ e. cc) next | inr last ↦ last ]
  no_cause_before (ends.Unique table key) is = none_clashes (Unique table key) is
  no_cause_before (ends.NullKey table) is = none_clashes (NullKey table) is
  no_cause_before ends.OutOfMemory is = is
  no_cause_before end is = elim is [ inl next ↦ next | inr last ↦ last ]

pub at_first_cause : (g : Setting) (rows : Rows) (old new : DeviceState) (o : Outcome) (run : IsRun g rows old new o)
    → IsAtFirstCause g rows run.part.handled run.part.rest run.part.progress.state o.end
at_first_cause g rows old new o run = record {
  none_before = λ before after item q end split lawful is.
      no_cause_before g rows old new o run before after item q split lawful end is;
  by_clash = by_clash g rows old new o run;
}
