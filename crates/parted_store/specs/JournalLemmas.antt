-- What the journal's part has of a world behind each call.
--     journal_opens, journal_refuses      what it says of an open is the step
--     journal_opened, journal_tried, journal_clashed, journal_done, journal_committed, journal_aborted      it has the world behind it
use Rattle.std.specs.Prelude.{◌≡◌, ℕ, ◌+◌, ◌-◌, ◌<◌, ◌≤◌, true, false, cond, if◌then◌else◌, List, [], ◌∷◌, ◌++◌, Option, Some, None, IsSome, is_some, Result, Ok, Err, refl}
use Rattle.std.proofs.Common.{sym, ◌∙◌, ap, subst, inl, inr, true≢false, arith}
use Rattle.std.proofs.lemmas.Grind.{fold-append}
use Rattle.std.specs.Cmp.{nat_cmp_total}
use Rattle.std.specs.FinMap as finite
use Rattle.std.specs.FinMap.{get}
use Rattle.model.specs.declared.change.Change as change_type
use Rattle.model.specs.declared.item.Item.{Item}
use Rattle.model.specs.declared.item.CommitInfo.{CommitInfo}
use Rattle.model.specs.Effect.{ClashCause}
use Rattle.model.specs.EditLemmas.{cond_inside}
use Rattle.model.specs.Limits.{most_open}
use Rattle.model.specs.Rows.{Schema}
use Rattle.tokens.specs.Half.{Half}
use Rattle.world.specs.World.{is_xid, Opened, Past, World, Stop, ByClash}
use Rattle.world.specs.Steps.{Clashed, Opens, opened_with, done_with, committed_with, aborted_with}
use Rattle.world.specs.ListingLemmas.{xid_cases, got_same, got_other}
use Rattle.live_tables.specs.declared.answers.Acted.{Acted}
use Rattle.live_tables.specs.declared.answers.Acted.TheVariants.{Done, Skipped, Held}
use Rattle.live_tables.specs.declared.answers.EngineFault as fault_type
use Rattle.live_tables.specs.declared.answers.EngineFault.TheVariants.{AlreadyOpen as AlreadyOpenFault, TooManyOpen as TooManyOpenFault, Clash as ClashFault, Stopped as StoppedFault, OutOfMemory as NoMemory}
use Rattle.live_tables.specs.declared.answers.Verdict.{Verdict}
use Rattle.live_tables.specs.declared.answers.Verdict.TheVariants.{Acted as ActedVerdict, Clashes}
use Rattle.live_tables.specs.Answers.{told, told_fault, after_act}
use Rattle.engine.specs.declared.events.LineEvent.{LineEvent}
use Rattle.engine.specs.declared.events.LineEvent.TheVariants.{Opened as WasOpened, Committed as WasCommitted, Aborted as WasAborted}
use Rattle.engine.specs.Events.{commits_in, open_after, is_open_in}
use Rattle.engine.specs.EventLemmas.{same_commits, more_commits}
use Rattle.engine.specs.StoreLemmas.{same_len}
use Rattle.parted_store.specs.Journal.{JournalPart}
use Rattle.parted_store.specs.Lent.{HasJournal}
use Rattle.parted_store.specs.Acting.{as_told}
use Rattle.parted_store.specs.Opening.{CanOpen, RefusesOpen}

one_fewer : (all less was now : ℕ) → less ≡ all - 1 → all ≡ was → now + 1 ≡ was → less ≡ now
one_fewer all less was now one same more = omega (arith, one, same, more)

-- a commit of these items
abbrev past_of : ℕ → CommitInfo → List Item → Past
past_of xid info items = record { xid = xid; items = items; info = info }

pub none_there : {X : Type 0} (found : Option X) → is_some found ≡ false → found ≡ None
none_there None none = refl
none_there (Some x) none = absurd (true≢false none)

some_there : {X : Type 0} (found : Option X) → is_some found ≡ true → IsSome found
some_there found is = is

module _ (w : World) (j : JournalPart) (has : HasJournal w j) (xid : ℕ) where
  -- what the journal's part says of an open is the step
  pub journal_opens : CanOpen j xid
      → (w.stopped ≡ None) × (get w.opened xid ≡ None) × (finite.len w.opened < most_open)
  journal_opens can = (
    has.stopped ∙ can.runs,
    none_there (get w.opened xid) (has.opened xid ∙ can.absent),
    subst (λ n. n < most_open) (sym has.count) can.few,
  )

  pub journal_refuses : (fault : fault_type.EngineFault) → RefusesOpen j xid fault → Opens w xid (Err (told_fault fault)) w
  journal_refuses AlreadyOpenFault refused =
      (has.stopped ∙ refused.0, some_there (get w.opened xid) (has.opened xid ∙ refused.1), refl)
  journal_refuses TooManyOpenFault refused = (
    has.stopped ∙ refused.0,
    none_there (get w.opened xid) (has.opened xid ∙ refused.1),
    subst (λ n. most_open ≤ n) (sym has.count) refused.2,
    refl,
  )
  journal_refuses StoppedFault refused = (subst (λ (stop : Option Stop). IsSome stop) (sym has.stopped) refused, refl)
  journal_refuses (ClashFault clash) refused = absurd refused
  journal_refuses NoMemory refused = absurd refused

module _ (w : World) (j : JournalPart) (has : HasJournal w j) (new : JournalPart) (xid : ℕ) where
  -- a transaction opens
  pub journal_opened : get w.opened xid ≡ None → new.line.list ≡ j.line.list ++ WasOpened xid ∷ [] → new.stopped ≡ j.stopped
      → new.open_count ≡ j.open_count + 1 → HasJournal (opened_with w xid) new
  journal_opened none line stopped count = record {
    line = has.line ∙ sym (ap commits_in line ∙ same_commits j.line.list (WasOpened xid) refl);
    stopped = has.stopped ∙ sym stopped;
    opened = λ q.
        ap is_some (finite.get-insert nat_cmp_total w.opened xid (record { items = []; wants = None }) q)
        ∙ sym (cond_inside is_some (is_xid q xid) (Some (record { items = []; wants = None })) (get w.opened q))
        ∙ ap (λ b. if is_xid q xid then true else b) (has.opened q)
        ∙ sym (ap (λ (events : List LineEvent). is_open_in events q) line ∙ fold-append (open_after q) false j.line.list (WasOpened xid ∷ []));
    count =
        finite.len-insert nat_cmp_total w.opened xid (record { items = []; wants = None })
        ∙ ap (λ b. cond b (finite.len w.opened) (finite.len w.opened + 1)) (ap is_some none)
        ∙ ap (λ n. n + 1) has.count ∙ sym count;
  }

  module _ (o : Opened) (at : get w.opened xid ≡ Some o) where
    -- as many are open, and the same, where the transaction is open otherwise
    stays_there : (later : Opened) (q : ℕ) → is_some (get (finite.insert w.opened xid later) q) ≡ is_some (get w.opened q)
    stays_there later q =
        elim (xid_cases q xid) [
          | inl here ↦
              ap is_some (ap (get (finite.insert w.opened xid later)) here ∙ got_same w.opened xid later)
              ∙ sym (ap is_some (ap (get w.opened) here ∙ at))
          | inr apart ↦ ap is_some (got_other w.opened xid later q apart)
        ]

    journal_moved : (later : Opened) (stop : Option Stop) → new.line ≡ j.line → new.open_count ≡ j.open_count → stop ≡ new.stopped
        → HasJournal (record w { opened = finite.insert w.opened xid later; stopped = stop }) new
    journal_moved later stop line count stopped = record {
      line = has.line ∙ ap (λ (l : Half LineEvent). commits_in l.list) (sym line);
      stopped = stopped;
      opened = λ q. stays_there later q ∙ has.opened q ∙ ap (λ (l : Half LineEvent). is_open_in l.list q) (sym line);
      count = same_len w.opened xid o later at ∙ has.count ∙ sym count;
    }

    -- it tried a change of which nobody told the journal: one that was done or waits, or that was refused
    journal_acted : (sub : ℕ) (c : change_type.Change) (acted : Acted) → new ≡ j → HasJournal (after_act w xid o sub c (told (Ok acted))) new
    journal_acted sub c Done is = journal_moved _ w.stopped (ap (λ (k : JournalPart). k.line) is) (ap (λ (k : JournalPart). k.open_count) is) (has.stopped ∙ ap (λ (k : JournalPart). k.stopped) (sym is))
    journal_acted sub c Skipped is = journal_moved _ w.stopped (ap (λ (k : JournalPart). k.line) is) (ap (λ (k : JournalPart). k.open_count) is) (has.stopped ∙ ap (λ (k : JournalPart). k.stopped) (sym is))
    journal_acted sub c (Held holder) is = journal_moved _ w.stopped (ap (λ (k : JournalPart). k.line) is) (ap (λ (k : JournalPart). k.open_count) is) (has.stopped ∙ ap (λ (k : JournalPart). k.stopped) (sym is))

    pub journal_tried : (sub : ℕ) (c : change_type.Change) (answer : Result Verdict fault_type.EngineFault) → new ≡ j → HasJournal (after_act w xid o sub c (as_told answer)) new
    journal_tried sub c (Ok (ActedVerdict acted)) is = journal_acted sub c acted is
    journal_tried sub c (Ok (Clashes clash)) is = subst (HasJournal w) (sym is) has
    journal_tried sub c (Err fault) is = subst (HasJournal w) (sym is) has

    -- its change clashed, and stopped the store
    pub journal_clashed : (sub : ℕ) (c : change_type.Change) (cause : ClashCause) → new ≡ record j { stopped = Some (ByClash xid c cause) }
        → HasJournal (after_act w xid o sub c (Ok (Clashed cause))) new
    journal_clashed sub c cause is =
        journal_moved _ (Some (ByClash xid c cause)) (ap (λ (k : JournalPart). k.line) is) (ap (λ (k : JournalPart). k.open_count) is) (ap (λ (k : JournalPart). k.stopped) (sym is))

    gone_there : (q : ℕ) → is_some (get (finite.remove w.opened xid) q) ≡ (if is_xid q xid then false else is_open_in j.line.list q)
    gone_there q =
        ap is_some (finite.get-remove nat_cmp_total w.opened xid q) ∙ sym (cond_inside is_some (is_xid q xid) None (get w.opened q))
        ∙ ap (λ b. if is_xid q xid then false else b) (has.opened q)

    gone_count : new.open_count + 1 ≡ j.open_count → finite.len (finite.remove w.opened xid) ≡ new.open_count
    gone_count count =
        one_fewer (finite.len w.opened) (finite.len (finite.remove w.opened xid)) j.open_count new.open_count
        (finite.len-remove nat_cmp_total w.opened xid ∙ ap (λ b. cond b (finite.len w.opened - 1) (finite.len w.opened)) (ap is_some at))
        has.count count

    -- it is committed
    pub journal_committed : (schema : Schema) (items : List Item) (info : CommitInfo) → items ≡ o.items
        → new.line.list ≡ j.line.list ++ WasCommitted xid items info ∷ [] → new.stopped ≡ j.stopped → new.open_count + 1 ≡ j.open_count
        → HasJournal (committed_with schema w xid o info) new
    journal_committed schema items info same line stopped count = record {
      line =
          ap (λ (ps : List Past). ps ++ past_of xid info o.items ∷ []) has.line
          ∙ ap (λ (is : List Item). commits_in j.line.list ++ past_of xid info is ∷ []) (sym same)
          ∙ sym (ap commits_in line ∙ more_commits j.line.list xid items info);
      stopped = has.stopped ∙ sym stopped;
      opened = λ q.
          gone_there q ∙ sym (ap (λ (events : List LineEvent). is_open_in events q) line ∙ fold-append (open_after q) false j.line.list (WasCommitted xid items info ∷ []));
      count = gone_count count;
    }

    -- it is aborted
    pub journal_aborted : new.line.list ≡ j.line.list ++ WasAborted xid ∷ [] → new.stopped ≡ j.stopped → new.open_count + 1 ≡ j.open_count
        → HasJournal (aborted_with w xid) new
    journal_aborted line stopped count = record {
      line = has.line ∙ sym (ap commits_in line ∙ same_commits j.line.list (WasAborted xid) refl);
      stopped = has.stopped ∙ sym stopped;
      opened = λ q.
          gone_there q ∙ sym (ap (λ (events : List LineEvent). is_open_in events q) line ∙ fold-append (open_after q) false j.line.list (WasAborted xid ∷ []));
      count = gone_count count;
    }

-- an item leaves it
pub journal_done : (w : World) (j : JournalPart) → HasJournal w j → (xid : ℕ) (o : Opened) → get w.opened xid ≡ Some o → (item : Item)
    → HasJournal (done_with w xid o item) j
journal_done w j has xid o at item =
    journal_moved w j has j xid o at (record { items = o.items ++ item ∷ []; wants = None }) w.stopped refl refl has.stopped
