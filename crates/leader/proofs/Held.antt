-- From what a leader has of its transactions as a run ends, and the world at which it ended, to why the run with workers
-- ended.
use Rattle.std.proofs.Common.{◌≡◌, ◌≢◌, ℕ, true, false, List, [], ◌∷◌, ◌++◌, length, Option, Some, None, refl, sym, ap, subst, ◌∙◌, append-nil, inl, inr}
use Rattle.std.specs.Prelude.{IsSome, IfSome, Contains, is_some, MatchOption}
use Rattle.std.specs.FinMap.{get}
use Rattle.std.proofs.lemmas.List.Elements.{All-contains}
use Rattle.model.specs.declared.change.Change as change_type
use Rattle.model.specs.declared.item.Item.{Item}
use Rattle.model.specs.declared.item.Item.TheVariants.{Change}
use Rattle.model.specs.Rows.{Rows, IsValid}
use Rattle.model.specs.Effect.{ClashCause, NullKey, Unique}
use Rattle.world.specs.World.{Opened}
use Rattle.world.specs.Steps.{IsStuck}
use Rattle.engine.specs.declared.events.LineEvent.{LineEvent}
use Rattle.frames.specs.declared.fault.FrameFault.TheVariants as frames
use Rattle.frames.specs.declared.item.CopyItem.{CopyItem}
use Rattle.session.specs.State.{Way, Direct, Worker, Spooled, Open, State, Setting}
use Rattle.run.specs.declared.end.End.{End}
use Rattle.run.specs.declared.end.End.TheVariants as ends
use Rattle.run.specs.Cause.{schema_of, HasGoneWell, IsSendCause, IsInputCause}
use Rattle.run.specs.Devices.{DeviceState}
use Rattle.run.specs.Handler.{IsRunOver}
use Rattle.run.specs.Progress.{Progress}
use Rattle.run.specs.StreamPart.{StreamPart}
use Rattle.run_laws.specs.Leading.{Outbox, InStep, IsAgreed, AreInStep, AreCounts}
use Rattle.run_laws.specs.Threads.{IsWork, IsWorldOf}
use Rattle.run_laws.specs.ThreadedRun.{HasConflict, IsStuckBy, IsThreadedCause}
use Rattle.run_laws.proofs.Books.{is_world, noted_conflict, stuck_by}
use Rattle.table_locks.specs.Noted.{IsNoted}
use Rattle.dispatch.specs.Standing.{Own}
use Rattle.leader.specs.Threads.{KeepsToWork, HasTurn, MayEndBy}
use Rattle.leader.specs.Decided.{end_for, EndsAsNoted, IsDecided}
use Rattle.leader.specs.Ending.{Hand, HasFinished, AreInHand, AreGiven}

-- ---- outboxes that the world and the state show

-- an outbox of which all work was sent
abbrev pub whole_outbox : List Item → Outbox
whole_outbox work = record { sent = work; queued = [] }

-- What is open in the world is open in the state, and keeps to its work.
abbrev pub KeepsThere : Setting → State → List CopyItem → ℕ → Option Open → Option Opened → Type 0
KeepsThere g s rest xid found there =
    (done : Opened) → there ≡ Some done → (o : Open) × (found ≡ Some o) × KeepsToWork g s rest xid o done

-- each transaction that is open in the world has such an outbox
abbrev pub outbox_at : (g : Setting) (s : State) (rest : List CopyItem) (xid : ℕ) (found : Option Open) (there : Option Opened)
    → KeepsThere g s rest xid found there → Option Outbox
outbox_at g s rest xid found None held = None
outbox_at g s rest xid found (Some done) held = Some (whole_outbox (held done refl).2.work)

same_open : (o p : Open) → Some o ≡ Some p → o ≡ p
same_open o p e = cc

same_opened : (d e : Opened) → Some d ≡ Some e → d ≡ e
same_opened d e is = cc

same_outbox : (l k : Outbox) → Some l ≡ Some k → l ≡ k
same_outbox l k e = cc

none_is : {X : Type 0} (x : X) → None ≡ Some x → ⊥
none_is x e = cc

is_spooled : (way : Way) → (way ≢ Spooled → ⊥) → way ≡ Spooled
is_spooled Direct not = absurd (not (λ e. cc))
is_spooled Worker not = absurd (not (λ e. cc))
is_spooled Spooled not = refl

-- the change that is wanted, if one is, is the next
wanted_next : (wants : Option (ℕ × change_type.Change)) (left : List Item)
    → MatchOption wants (Unit {0}) (λ w. (more : List Item) × (left ≡ Change w.0 w.1 ∷ more))
    → (sub : ℕ) (c : change_type.Change) → wants ≡ Some (sub, c) → (more : List Item) × (left ≡ Change sub c ∷ more)
wanted_next None left is sub c e = absurd (none_is (sub, c) e)
wanted_next (Some p) left is sub c e =
    subst (λ (w : ℕ × change_type.Change). (more : List Item) × (left ≡ Change w.0 w.1 ∷ more)) (same p (sub, c) e) is
  where
    same : (a b : ℕ × change_type.Change) → Some a ≡ Some b → a ≡ b
    same a b is = cc

module _ (g : Setting) (s : State) (rest : List CopyItem) (xid : ℕ) where
  in_step : (o p : Open) (done : Opened) → o ≡ p → (keeps : KeepsToWork g s rest xid p done)
      → InStep g s rest xid o (whole_outbox keeps.work) done
  in_step o p done same keeps = record {
    all_work =
        subst (λ (q : Open). IsWork g s rest xid q.way q.items (keeps.work ++ [])) (sym same)
        (subst (IsWork g s rest xid p.way p.items) (sym (append-nil keeps.work)) keeps.is_work);
    does = record { left = keeps.doing.left; begins = keeps.doing.begins };
    wants = wanted_next done.wants keeps.doing.left keeps.doing.wants;
  }

  agrees : (o : Option Open) (d : Option Opened) (held : KeepsThere g s rest xid o d)
      → ((p : Open) → o ≡ Some p → p.way ≢ Spooled → is_some d ≡ true) → IsAgreed g s rest xid o (outbox_at g s rest xid o d held) d
  agrees None None held streamed = tt
  agrees (Some o) None held streamed = is_spooled o.way (λ not. let no : false ≡ true = streamed o refl not in cc)
  agrees None (Some done) held streamed = let is = held done refl in absurd (none_is is.0 is.1)
  agrees (Some o) (Some done) held streamed = let is = held done refl in in_step o is.0 done (same_open o is.0 is.1) is.2

  outbox_is : (o : Option Open) (d : Option Opened) (held : KeepsThere g s rest xid o d) (outbox : Outbox)
      → outbox_at g s rest xid o d held ≡ Some outbox
      → (p : Open) × (o ≡ Some p) × (work : List Item) × IsWork g s rest xid p.way p.items work × (whole_outbox work ≡ outbox)
  outbox_is o None held outbox e = absurd (none_is outbox e)
  outbox_is o (Some done) held outbox e =
      let is = held done refl in (is.0, is.1, is.2.work, is.2.is_work, same_outbox (whole_outbox is.2.work) outbox e)

-- ---- the world at which a run ended

module _ (g : Setting) (rows : Rows) (s : State) (rest : List CopyItem) (line : List LineEvent) (hand : Hand) (given : List (ℕ × ℕ)) (proposed end : End)
    (f : HasFinished (schema_of g) rows line hand given proposed end) (are : AreInHand g s rest line hand) where
  -- a transaction in hand is open in the world
  stands : (h : Own) → Contains hand (Some h) → get f.world.opened h.xid ≡ Some h.done
  stands h among = All-contains (λ slot. IfSome slot (λ (k : Own). get f.world.opened k.xid ≡ Some k.done)) hand (Some h) f.stood among

  -- and open in the state
  keeps_to : (h : Own) → Contains hand (Some h) → (o : Open) × (get s.transactions h.xid ≡ Some o) × KeepsToWork g s rest h.xid o h.done
  keeps_to h among =
      All-contains (λ slot. IfSome slot (λ (k : Own). (o : Open) × (get s.transactions k.xid ≡ Some o) × KeepsToWork g s rest k.xid o k.done)) hand (Some h) are.held among

  pub held_there : (xid : ℕ) → KeepsThere g s rest xid (get s.transactions xid) (get f.world.opened xid)
  held_there xid done at =
      let there = are.all xid (f.opened xid ∙ ap is_some at) in
      let same : there.0.done ≡ done = same_opened there.0.done done (sym (stands there.0 there.1) ∙ ap (get f.world.opened) there.2 ∙ at) in
      let is = keeps_to there.0 there.1 in (
        is.0,
        sym (ap (get s.transactions) there.2) ∙ is.1,
        subst (λ (n : ℕ). KeepsToWork g s rest n is.0 done) there.2 (subst (λ (d : Opened). KeepsToWork g s rest there.0.xid is.0 d) same is.2),
      )

  abbrev pub outboxes : ℕ → Option Outbox
  outboxes xid = outbox_at g s rest xid (get s.transactions xid) (get f.world.opened xid) (held_there xid)

  pub are_in_step : AreInStep g rows s rest outboxes f.world
  are_in_step = record {
    led = f.led;
    line = f.commits ∙ are.commits;
    agree = λ xid.
        agrees g s rest xid (get s.transactions xid) (get f.world.opened xid) (held_there xid) (λ o at not. sym (f.opened xid) ∙ are.streamed xid o at not);
  }

  pub ends_in_world : IsWorldOf g rows s rest f.world
  ends_in_world = is_world g rows s rest outboxes f.world are_in_step

  are_counts : AreGiven g s rest given → AreCounts outboxes given
  are_counts counts xid count outbox named short at =
      let is = outbox_is g s rest xid (get s.transactions xid) (get f.world.opened xid) (held_there xid) outbox at in
      counts xid count is.0 named short is.1 is.2 is.3
      ∙ ap length (sym (append-nil is.2) ∙ ap (λ (l : Outbox). l.sent ++ l.queued) is.4)

  -- ---- why it ended

  wanted : (wants : Option (ℕ × change_type.Change)) → IsSome wants → (sub : ℕ) × (c : change_type.Change) × (wants ≡ Some (sub, c))
  wanted None is = let no : false ≡ true = is in cc
  wanted (Some p) is = (p.0, p.1, refl)

  -- a clash that is noted is a conflict
  conflicts : IsValid (schema_of g) rows → (cause : ClashCause) → IsNoted f.world cause → HasConflict g s rest f.world cause
  conflicts valid cause (xid, done, c, at, stopped, wants) =
      let want = wanted done.wants wants in
      noted_conflict g rows s rest outboxes f.world are_in_step valid xid c cause stopped done at want.0 want.1 want.2

  stuck : AreGiven g s rest given → (xid : ℕ) → HasTurn g s rest xid → (other : ℕ) → IsStuck (schema_of g) f.world given xid other
      → IsStuckBy g s rest f.world xid other
  stuck counts xid turn other is =
      stuck_by g rows s rest outboxes f.world are_in_step given xid other (are_counts counts) turn is

-- with the devices, where this part of the stream was handled
module _ (g : Setting) (rows : Rows) (line : List LineEvent) (hand : Hand) (given : List (ℕ × ℕ)) (proposed end : End)
    (old new : DeviceState) (part : StreamPart g old new) (valid : IsValid (schema_of g) rows)
    (f : HasFinished (schema_of g) rows line hand given proposed end) where
  abbrev Cause : End → Type 0
  Cause = IsThreadedCause part f.world

  -- where it stands, and what is left
  abbrev s : State
  s = part.progress.state

  abbrev rest : List CopyItem
  rest = part.rest

  of_cause : HasGoneWell part → (cause : ClashCause) → HasConflict g s rest f.world cause → Cause (end_for cause)
  of_cause well (Unique table key) is = (well, is)
  of_cause well (NullKey table) is = (well, is)

  by_noted : AreInHand g s rest line hand → HasGoneWell part → (e : End) → EndsAsNoted (IsNoted f.world) e → Cause e
  by_noted are well e (inl (cause, noted, is)) =
      subst Cause (sym is)
      (of_cause well cause (conflicts g rows s rest line hand given proposed end f are valid cause noted))
  by_noted are well e (inr (none, is)) = subst Cause (sym is) (inl well)

  -- an item ended it
  by_item : AreInHand g s rest line hand → AreGiven g s rest given → HasGoneWell part → (first e : End) → MayEndBy g s rest first
      → IsDecided (schema_of g) f.world (IsNoted f.world) given first e → Cause e
  by_item are counts well ends.Clean e why decided = absurd why
  by_item are counts well (ends.Frame fault) e why decided = absurd why
  by_item are counts well (ends.Msg fault) e why decided = subst Cause (sym decided) (well, why)
  by_item are counts well (ends.Session fault) e why decided = subst Cause (sym decided) (well, why)
  by_item are counts well (ends.Rel fault) e why decided = subst Cause (sym decided) (well, why)
  by_item are counts well (ends.Unique table key) e why decided = by_noted are well e decided
  by_item are counts well (ends.NullKey table) e why decided = by_noted are well e decided
  by_item are counts well (ends.HeldKey xid holder) e why (inl (other, is, so)) =
      subst Cause (sym so) (well, stuck g rows s rest line hand given proposed end f are counts xid why other is)
  by_item are counts well (ends.HeldKey xid holder) e why (inr (none, so)) = subst Cause (sym so) (inl well)
  by_item are counts well ends.OutOfMemory e why decided = subst Cause (sym decided) (inl well)

  -- an update that was due did
  by_send : (first e : End) → IsSendCause part first → IsDecided (schema_of g) f.world (IsNoted f.world) given first e → Cause e
  by_send (ends.Frame frames.Device) e why decided = subst Cause (sym decided) (inr why)
  by_send ends.OutOfMemory e why decided = subst Cause (sym decided) (inr why)
  by_send first e why decided = absurd why

  -- the input did
  by_input : AreInHand g s rest line hand → (first e : End) → IsInputCause part first
      → IsDecided (schema_of g) f.world (IsNoted f.world) given first e → Cause e
  by_input are ends.Clean e why (inl (runs, so)) = subst Cause (sym so) (why, runs)
  by_input are ends.Clean e why (inr (stopped, noted)) = by_noted are why.well e noted
  by_input are (ends.Frame frames.Device) e why decided = subst Cause (sym decided) (inl why)
  by_input are (ends.Frame fault) e why decided = subst Cause (sym decided) why
  by_input are ends.OutOfMemory e why decided = subst Cause (sym decided) (inl why)
  by_input are first e why decided = absurd why

-- ---- the run

-- Where the handler stands as the loop ends, or says that it ended the run, its transactions are in hand. Then the world
-- at which the end was decided is one of its items, with a cause of the end.
module _ {H : Type 0} (g : Setting) (rows : Rows) (At : H → Progress → Type 0) (Ended : H → List CopyItem → Progress → List CopyItem → End → Type 0)
    (old new : DeviceState) (h : H) (proposed end : End) (over : IsRunOver g At Ended old new h proposed) (valid : IsValid (schema_of g) rows)
    (line : List LineEvent) (hand : Hand) (given : List (ℕ × ℕ)) (f : HasFinished (schema_of g) rows line hand given proposed end)
    (at_held : (p : Progress) (rest : List CopyItem) → At h p → AreInHand g p.state rest line hand)
    (ended_held : (handled : List CopyItem) (p : Progress) (rest : List CopyItem) → Ended h handled p rest proposed
    → AreInHand g p.state rest line hand × AreGiven g p.state rest given × MayEndBy g p.state rest proposed) where
  abbrev Why : Type 0
  Why = AreInHand g over.part.progress.state over.part.rest line hand × IsThreadedCause over.part f.world end

  by_at : At h over.part.progress
      → (AreInHand g over.part.progress.state over.part.rest line hand → IsThreadedCause over.part f.world end) → Why
  by_at at why = let are = at_held over.part.progress over.part.rest at in (are, why are)

  by_why : Why
  by_why = elim over.why [
    | inl item ↦
        let is = ended_held over.part.handled over.part.progress over.part.rest item.ended in (
          is.0,
          by_item g rows line hand given proposed end old new over.part valid f is.0 is.1 item.well proposed end is.2 f.decided,
        )
    | inr (at, inl send) ↦
        by_at at (λ are. by_send g rows line hand given proposed end old new over.part valid f proposed end send f.decided)
    | inr (at, inr input) ↦
        by_at at (λ are. by_input g rows line hand given proposed end old new over.part valid f are proposed end input f.decided)
  ]

  -- the world is one of the items that were handled
  pub is_world_of : IsWorldOf g rows over.part.progress.state over.part.rest f.world
  is_world_of = ends_in_world g rows over.part.progress.state over.part.rest line hand given proposed end f by_why.0

  -- and has a cause of the end
  pub is_cause : IsThreadedCause over.part f.world end
  is_cause = by_why.1
