-- What a scene of the tests keeps of its tickets and of what is open, once a call has altered its store.
use Rattle.std.proofs.Common.{◌≡◌, ◌≢◌, ℕ, true, false, List, [], Option, Some, None, refl, sym, ap, subst, ◌∙◌, inl, inr, is_some, true≢false, length}
use Rattle.std.specs.Prelude.{Result, Ok, Err}
use Rattle.std.specs.Ordering.{nat_cmp}
use Rattle.std.specs.Cmp.{unsigned_tied}
use Rattle.std.specs.Map.{lookup}
use Rattle.std.specs.BTreeMap as tree
use Rattle.std.specs.BTreeMap.{btree_map_len}
use Rattle.std.specs.FinMap as finite
use Rattle.std.proofs.lemmas.Bool.{ne_eqb}
use Rattle.std.proofs.lemmas.List.{nil_from_length}
use Rattle.model.specs.declared.change.Change as change_type
use Rattle.model.specs.Rows.{Schema}
use Rattle.tokens.specs.Half.{Name, Half}
use Rattle.tokens.specs.Lists.{OpenList}
use Rattle.world.specs.World.{Opened, OpenOnes, World}
use Rattle.world.specs.ListingLemmas.{xid_cases, got_other, gone_same, gone_other, same_by_xid}
use Rattle.world.specs.Steps.{Fault, Acted, IsDone, IsSkipped, Held, Clashed, AlreadyOpen, TooManyOpen, Stopped, OutOfMemory, Opens, Acts, Touches}
use Rattle.engine.specs.declared.events.Event.{Event}
use Rattle.engine.specs.declared.events.LineEvent.{LineEvent}
use Rattle.engine.specs.Engine.{Engine, IsOtherwiseSame}
use Rattle.model.specs.Beginning.{last_end}
use Rattle.store_tests.specs.Scenes.{Tickets, Belong, Know, IsScene}
use Rattle.engine.specs.Events.{ends_in}

-- the same transactions but one are open
abbrev pub AreOpenBeside : ℕ → OpenOnes → OpenOnes → Type 0
AreOpenBeside xid was now = (other : ℕ) → other ≢ xid → is_some (finite.get now other) ≡ is_some (finite.get was other)

some_same : {X : Type 0} (x y : X) → Some x ≡ Some y → x ≡ y
some_same x y e = cc

beside : (xid : ℕ) (kept : Option (OpenList Event)) (old new : Tickets) → tree.Updates nat_cmp old new xid kept
    → (other : ℕ) → other ≢ xid → tree.get nat_cmp new other ≡ tree.get nat_cmp old other
beside xid kept old new update other differs = update.2 other (unsigned_tied xid other ∙ ne_eqb xid other (λ e. differs (sym e)))

-- ---- a ticket is put in, or is written

pub belong_put : (old new : Tickets) (name later : Name) (xid : ℕ) (t : OpenList Event) → Belong name old → later ≡ name
    → tree.Updates nat_cmp old new xid (Some t) → t.name ≡ later → t.number ≡ xid → Belong later new
belong_put old new name later xid t belong same update named numbered other u at =
    elim (xid_cases other xid) [
      | inl here ↦
          let is : u ≡ t = some_same u t (sym at ∙ ap (tree.get nat_cmp new) here ∙ update.1) in
          (ap (λ (s : OpenList Event). s.name) is ∙ named, ap (λ (s : OpenList Event). s.number) is ∙ numbered ∙ sym here)
      | inr apart ↦
          let was = belong other u (sym (beside xid (Some t) old new update other apart) ∙ at) in
          (was.0 ∙ sym same, was.1)
    ]

pub know_put : (old new : Tickets) (was now : OpenOnes) (xid : ℕ) (t : OpenList Event) → Know was old
    → tree.Updates nat_cmp old new xid (Some t) → AreOpenBeside xid was now → Know now new
know_put old new was now xid t know update alike other there =
    elim (xid_cases other xid) [
      | inl here ↦ ap is_some (ap (tree.get nat_cmp new) here ∙ update.1)
      | inr apart ↦ ap is_some (beside xid (Some t) old new update other apart) ∙ know other (sym (alike other apart) ∙ there)
    ]

-- a ticket was written through a borrow, and another call of its transaction was made
pub written : {old new : Engine} {line : Half LineEvent} {tickets later : Tickets} {end : ℕ} {t u : OpenList Event} (xid : ℕ) → IsScene old line tickets end
    → IsOtherwiseSame old new → tree.get nat_cmp tickets xid ≡ Some t → tree.WritesThrough nat_cmp (nat_cmp xid) tickets u later
    → (u.name ≡ t.name) × (u.number ≡ t.number) → AreOpenBeside t.number old.world.opened new.world.opened → IsScene new line later end
written {old} {new} {line} {tickets} {later} {end} {t} {u} xid keeps same at writes alike_ticket alike =
    let mine = keeps.belong xid t at in
    let update = writes.3 (ap is_some at) in
    record {
      counted = ap (λ (s : Schema). length s) same.schema ∙ keeps.counted;
      lined = keeps.lined ∙ sym same.line;
      ended = keeps.ended;
      belong = belong_put tickets later old.tickets new.tickets xid u keeps.belong same.tickets update
          (alike_ticket.0 ∙ mine.0 ∙ sym same.tickets) (alike_ticket.1 ∙ mine.1);
      known = know_put tickets later old.world.opened new.world.opened xid u keeps.known update (subst (λ (n : ℕ). AreOpenBeside n old.world.opened new.world.opened) mine.1 alike);
    }

-- a store that a call left as it was
pub unaltered : (old new : Engine) → new ≡ old → IsOtherwiseSame old new
unaltered old new is = record {
  schema = ap (λ (e : Engine). e.schema) is;
  tickets = ap (λ (e : Engine). e.tickets) is;
  line = ap (λ (e : Engine). e.line.name) is;
}

-- a ticket of which a list is told
pub told_more : (t u : OpenList Event) (more : List Event) → u ≡ record t { list = more } → (u.name ≡ t.name) × (u.number ≡ t.number)
told_more t u more is = (ap (λ (s : OpenList Event). s.name) is, ap (λ (s : OpenList Event). s.number) is)

-- ---- a ticket is taken out

pub belong_gone : (old new : Tickets) (name later : Name) (xid : ℕ) → Belong name old → later ≡ name
    → tree.Updates nat_cmp old new xid None → Belong later new
belong_gone old new name later xid belong same update other u at =
    elim (xid_cases other xid) [
      | inl here ↦ absurd (true≢false (ap is_some (sym at ∙ ap (tree.get nat_cmp new) here ∙ update.1)))
      | inr apart ↦
          let was = belong other u (sym (beside xid None old new update other apart) ∙ at) in
          (was.0 ∙ sym same, was.1)
    ]

pub know_gone : (old new : Tickets) (was now : OpenOnes) (xid : ℕ) → Know was old
    → tree.Updates nat_cmp old new xid None → now ≡ finite.remove was xid → Know now new
know_gone old new was now xid know update gone other there =
    elim (xid_cases other xid) [
      | inl here ↦ absurd (true≢false (sym there ∙ ap is_some (ap (finite.get now) here ∙ ap (λ (m : OpenOnes). finite.get m xid) gone ∙ gone_same was xid)))
      | inr apart ↦ ap is_some (beside xid None old new update other apart)
          ∙ know other (sym (ap is_some (ap (λ (m : OpenOnes). finite.get m other) gone ∙ gone_other was xid other apart)) ∙ there)
    ]

-- its transaction has ended, which the line tells
pub has_ended : (old new : Engine) (line told : Half LineEvent) (tickets later : Tickets) (end behind xid : ℕ) (t : OpenList Event) → IsScene old line tickets end
    → IsOtherwiseSame old new → told ≡ new.line → last_end (ends_in told.list) ≡ behind → tree.get nat_cmp tickets xid ≡ Some t
    → tree.Updates nat_cmp tickets later xid None → new.world.opened ≡ finite.remove old.world.opened t.number → IsScene new told later behind
has_ended old new line told tickets later end behind xid t keeps same is ends at update gone =
    record {
      counted = ap (λ (s : Schema). length s) same.schema ∙ keeps.counted;
      lined = ap (λ (l : Half LineEvent). l.name) is;
      ended = ends;
      belong = belong_gone tickets later old.tickets new.tickets xid keeps.belong same.tickets update;
      known = know_gone tickets later old.world.opened new.world.opened xid keeps.known update
          (gone ∙ ap (finite.remove old.world.opened) (keeps.belong xid t at).1);
    }

-- a ticket is handed back, and its transaction is gone again
pub belong_again : (old new : Tickets) (name later : Name) → Belong name old → later ≡ name → new.entries ≡ old.entries → Belong later new
belong_again old new name later belong same entries xid t at =
    let was = belong xid t (ap (lookup (tree.is_at (nat_cmp xid))) (sym entries) ∙ at) in
    (was.0 ∙ sym same, was.1)

pub know_again : (old new : Tickets) (was mid now : OpenOnes) (xid : ℕ) → Know was old → new.entries ≡ old.entries
    → AreOpenBeside xid was mid → now ≡ finite.remove mid xid → Know now new
know_again old new was mid now xid know entries alike gone other there =
    elim (xid_cases other xid) [
      | inl here ↦ absurd (true≢false (sym there ∙ ap is_some (ap (finite.get now) here ∙ ap (λ (m : OpenOnes). finite.get m xid) gone ∙ gone_same mid xid)))
      | inr apart ↦ ap is_some (ap (lookup (tree.is_at (nat_cmp other))) entries)
          ∙ know other (sym (ap is_some (ap (λ (m : OpenOnes). finite.get m other) gone ∙ gone_other mid xid other apart) ∙ alike other apart) ∙ there)
    ]

-- ---- what each call leaves open

put_alike : (w new : World) (xid : ℕ) (o : Opened) → new.opened ≡ finite.insert w.opened xid o → AreOpenBeside xid w.opened new.opened
put_alike w new xid o is other apart = ap is_some (ap (λ (m : OpenOnes). finite.get m other) is ∙ got_other w.opened xid o other apart)

still_alike : (w new : World) (xid : ℕ) → new ≡ w → AreOpenBeside xid w.opened new.opened
still_alike w new xid is other apart = ap (λ (v : World). is_some (finite.get v.opened other)) is

opened_of : (v w : World) → v ≡ w → v.opened ≡ w.opened
opened_of v w is = ap (λ (u : World). u.opened) is

pub opens_alike : (w : World) (xid : ℕ) (answer : Result (Unit {0}) Fault) (new : World) → Opens w xid answer new → AreOpenBeside xid w.opened new.opened
opens_alike w xid (Ok u) new step = put_alike w new xid _ (opened_of new _ step.3)
opens_alike w xid (Err AlreadyOpen) new step = still_alike w new xid step.2
opens_alike w xid (Err TooManyOpen) new step = still_alike w new xid step.3
opens_alike w xid (Err Stopped) new step = still_alike w new xid step.1
opens_alike w xid (Err OutOfMemory) new step = still_alike w new xid step.3

pub acts_alike : (schema : Schema) (w : World) (xid : ℕ) (o : Opened) (sub : ℕ) (c : change_type.Change) (answer : Result Acted Fault) (new : World)
    → Acts schema w xid o sub c answer new → AreOpenBeside xid w.opened new.opened
acts_alike schema w xid o sub c (Ok IsDone) new step = put_alike w new xid _ (opened_of new _ step.3)
acts_alike schema w xid o sub c (Ok IsSkipped) new step = put_alike w new xid _ (opened_of new _ step.3)
acts_alike schema w xid o sub c (Ok (Held holder)) new step = put_alike w new xid _ (opened_of new _ step.2)
acts_alike schema w xid o sub c (Ok (Clashed cause)) new step = put_alike w new xid _ (opened_of new _ step.3)
acts_alike schema w xid o sub c (Err AlreadyOpen) new step = absurd step
acts_alike schema w xid o sub c (Err TooManyOpen) new step = absurd step
acts_alike schema w xid o sub c (Err Stopped) new step = still_alike w new xid step.1
acts_alike schema w xid o sub c (Err OutOfMemory) new step = still_alike w new xid step.1

pub touches_alike : (w : World) (xid : ℕ) (o : Opened) (sub : ℕ) (answer : Result (Unit {0}) Fault) (new : World)
    → Touches w xid o sub answer new → AreOpenBeside xid w.opened new.opened
touches_alike w xid o sub (Ok u) new step = put_alike w new xid _ (opened_of new _ step.1)
touches_alike w xid o sub (Err AlreadyOpen) new step = absurd step
touches_alike w xid o sub (Err TooManyOpen) new step = absurd step
touches_alike w xid o sub (Err Stopped) new step = still_alike w new xid step.1
touches_alike w xid o sub (Err OutOfMemory) new step = still_alike w new xid step.1

pub becomes_alike : (w new : World) (xid : ℕ) (o : Opened) → new.opened ≡ finite.insert w.opened xid o → AreOpenBeside xid w.opened new.opened
becomes_alike w new xid o is = put_alike w new xid o is

-- ---- the first tickets, and the last

no_ticket : (tickets : Tickets) → tickets.entries ≡ [] → (xid : ℕ) → tree.get nat_cmp tickets xid ≡ None
no_ticket tickets none xid = ap (lookup (tree.is_at (nat_cmp xid))) none

pub belong_none : (tickets : Tickets) (name : Name) → tickets.entries ≡ [] → Belong name tickets
belong_none tickets name none xid t at = absurd (true≢false (ap is_some (sym at ∙ no_ticket tickets none xid)))

pub know_none : (tickets : Tickets) (opened : OpenOnes) → opened ≡ finite.empty → Know opened tickets
know_none tickets opened none xid there =
    absurd (true≢false (sym there ∙ ap is_some (ap (λ (m : OpenOnes). finite.get m xid) none ∙ finite.get-empty nat_cmp xid)))

none_is : {X : Type 0} (found : Option X) → (is_some found ≡ true → false ≡ true) → found ≡ None
none_is None so = refl
none_is (Some x) so = absurd (true≢false (sym (so refl)))

pub none_open : (tickets : Tickets) (opened : OpenOnes) → Know opened tickets → btree_map_len tickets ≡ 0 → opened ≡ finite.empty
none_open tickets opened know none = same_by_xid opened finite.empty (λ xid.
    none_is (finite.get opened xid) (λ there. sym (ap is_some (no_ticket tickets (nil_from_length tickets.entries none) xid)) ∙ know xid there)
    ∙ sym (finite.get-empty nat_cmp xid))
