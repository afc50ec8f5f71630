-- What the journal's part keeps, from one call to the next.
--     keeps_opened, keeps_committed, keeps_aborted      a transaction opens; it is committed; it is aborted
--     keeps_stopped      something stops the store
--     keeps_new, keeps_room      nothing has happened; there is more room
--     told_some, stop_told      what stopped it is told, to its caller too
--     one_left, has_room      how many are open without one that is; there is room for its entry
use Rattle.std.specs.Prelude.{◌≡◌, ℕ, ◌+◌, ◌<◌, ◌≤◌, Bool, true, false, if◌then◌else◌, List, [], ◌∷◌, ◌++◌, Option, Some, None, map, length, is_some, IsSome, IfSome, vec_len, vec_capacity, refl}
use Rattle.std.proofs.Common.{Vec, Global, sym, ◌∙◌, ap, subst, inl, inr, true≢false, arith, eq-eqb, ne_eqb}
use Rattle.std.proofs.lemmas.Grind.{fold-append}
use Rattle.std.proofs.lemmas.List.{map-append}
use Rattle.std.specs.List.Sorted.{IsStrictlyIncreasing}
use Rattle.std.specs.Ordering.{nat_cmp}
use Rattle.std.specs.Cmp.{unsigned_tied}
use Rattle.std.specs.List.{list_any}
use Rattle.std.specs.BTreeMap.{is_at}
use Rattle.std.specs.BTreeSet as set
use Rattle.std.specs.BTreeSet.{BTreeSet, btree_set_len}
use Rattle.model.specs.declared.item.Item.{Item}
use Rattle.model.specs.declared.item.CommitInfo.{CommitInfo}
use Rattle.model.specs.Beginning.{last_end}
use Rattle.model.specs.Effect.{ClashCause}
use Rattle.tokens.specs.Half.{Half}
use Rattle.world.specs.World.{is_xid, Past, entry_of}
use Rattle.world.specs.ListingLemmas.{xid_cases}
use Rattle.engine.specs.declared.entry.Entry.{Entry}
use Rattle.engine.specs.declared.events.LineEvent.{LineEvent}
use Rattle.engine.specs.declared.events.LineEvent.TheVariants.{Opened as WasOpened, Committed as WasCommitted, Aborted as WasAborted}
use Rattle.engine.specs.Engine.{entry_in}
use Rattle.engine.specs.Events.{commits_in, ends_in, open_after, is_open_in}
use Rattle.engine.specs.StoreLemmas.{still_rising}
use Rattle.engine.specs.EventLemmas.{same_commits, more_commits, ends_same, ends_more, rise_more}
use Rattle.live_tables.specs.declared.live_tables.Stopped as stopped_type
use Rattle.live_tables.specs.declared.live_tables.Stopped.TheVariants.{Clash as StoppedByClash, Held as StoppedByHold}
use Rattle.live_tables.specs.Answers.{cause_of, stop_for, told_stop, stop_of, TellsWhatStopped, HasCause}
use Rattle.parted_store.specs.declared.journal.Journal.TheInside.{Inside}
use Rattle.parted_store.specs.Journal.{IsJournal}

-- who is open, once one more is, or one less
still_opened : (b : Bool) (ones new : BTreeSet ℕ) (xid : ℕ) → set.Updates nat_cmp ones new xid b
    → (line : List LineEvent) → ((q : ℕ) → set.contains nat_cmp ones q ≡ is_open_in line q)
    → (e : LineEvent) → ((q : ℕ) (was : Bool) → open_after q was e ≡ (if is_xid q xid then b else was))
    → (q : ℕ) → set.contains nat_cmp new q ≡ is_open_in (line ++ e ∷ []) q
still_opened b ones new xid updates line opened e moves q =
    elim (xid_cases q xid) [
      | inl here ↦
          ap (set.contains nat_cmp new) here ∙ updates.1
          ∙ sym (fold-append (open_after q) false line (e ∷ []) ∙ moves q (is_open_in line q)
          ∙ ap (λ t. if t then b else is_open_in line q) (unsigned_tied q xid ∙ eq-eqb q xid here))
      | inr apart ↦
          updates.2 q (unsigned_tied xid q ∙ ne_eqb xid q (λ same. apart (sym same))) ∙ opened q
          ∙ sym (fold-append (open_after q) false line (e ∷ []) ∙ moves q (is_open_in line q)
          ∙ ap (λ t. if t then b else is_open_in line q) (unsigned_tied q xid ∙ ne_eqb q xid apart))
    ]

opened_fits : (entries ones new capacity : ℕ) → new ≡ ones + 1 → entries + (ones + 1) ≤ capacity → entries + new ≤ capacity
opened_fits entries ones new capacity more fits = omega (arith, more, fits)

aborted_fits : (entries ones new capacity : ℕ) → new + 1 ≡ ones → entries + ones ≤ capacity → entries + new ≤ capacity
aborted_fits entries ones new capacity less fits = omega (arith, less, fits)

committed_fits : (entries longer ones new capacity wide : ℕ) → longer ≡ entries + 1 → wide ≡ capacity → new + 1 ≡ ones → entries + ones ≤ capacity
    → longer + new ≤ wide
committed_fits entries longer ones new capacity wide more same less fits = omega (arith, more, same, less, fits)

module _ (j new : Inside) (is : IsJournal j) (xid : ℕ) where
  pub keeps_opened : new.entries.items ≡ j.entries.items → vec_len new.entries + (btree_set_len j.open_ones + 1) ≤ vec_capacity new.entries
      → set.Updates nat_cmp j.open_ones new.open_ones xid true → btree_set_len new.open_ones ≡ btree_set_len j.open_ones + 1
      → new.line.list ≡ j.line.list ++ WasOpened xid ∷ [] → IfSome new.stopped HasCause → IsJournal new
  keeps_opened items room updates count line caused = record {
    told =
        ap (map entry_in) items ∙ is.told
        ∙ sym (ap (λ (ps : List Past). map entry_of ps) (ap commits_in line ∙ same_commits j.line.list (WasOpened xid) refl));
    room = opened_fits (vec_len new.entries) (btree_set_len j.open_ones) (btree_set_len new.open_ones) (vec_capacity new.entries) count room;
    rising = still_rising new.line.list (ends_in j.line.list) (ap ends_in line ∙ ends_same j.line.list (WasOpened xid) refl) is.rising;
    opened = λ q.
        still_opened true j.open_ones new.open_ones xid updates j.line.list is.opened (WasOpened xid) (λ r was. refl) q
        ∙ ap (λ (events : List LineEvent). is_open_in events q) (sym line);
    caused = caused;
  }

  pub keeps_aborted : new.entries ≡ j.entries → set.Updates nat_cmp j.open_ones new.open_ones xid false → btree_set_len new.open_ones + 1 ≡ btree_set_len j.open_ones
      → new.line.list ≡ j.line.list ++ WasAborted xid ∷ [] → new.stopped ≡ j.stopped → IsJournal new
  keeps_aborted entries updates count line stopped = record {
    told =
        ap (λ (es : Vec Entry Global). map entry_in es.items) entries ∙ is.told
        ∙ sym (ap (λ (ps : List Past). map entry_of ps) (ap commits_in line ∙ same_commits j.line.list (WasAborted xid) refl));
    room =
        subst (λ (es : Vec Entry Global). vec_len es + btree_set_len new.open_ones ≤ vec_capacity es) (sym entries)
        (aborted_fits (vec_len j.entries) (btree_set_len j.open_ones) (btree_set_len new.open_ones) (vec_capacity j.entries) count is.room);
    rising = still_rising new.line.list (ends_in j.line.list) (ap ends_in line ∙ ends_same j.line.list (WasAborted xid) refl) is.rising;
    opened = λ q.
        still_opened false j.open_ones new.open_ones xid updates j.line.list is.opened (WasAborted xid) (λ r was. refl) q
        ∙ ap (λ (events : List LineEvent). is_open_in events q) (sym line);
    caused = subst (λ (stop : Option stopped_type.Stopped). IfSome stop HasCause) (sym stopped) is.caused;
  }

  pub keeps_committed : (items : List Item) (info : CommitInfo) (entry : Entry)
      → new.entries.items ≡ j.entries.items ++ entry ∷ [] → vec_len new.entries ≡ vec_len j.entries + 1 → vec_capacity new.entries ≡ vec_capacity j.entries
      → set.Updates nat_cmp j.open_ones new.open_ones xid false → btree_set_len new.open_ones + 1 ≡ btree_set_len j.open_ones
      → new.line.list ≡ j.line.list ++ WasCommitted xid items info ∷ [] → new.stopped ≡ j.stopped
      → entry_in entry ≡ entry_of (record { xid = xid; items = items; info = info }) → last_end (ends_in j.line.list) < info.end
      → IsJournal new
  keeps_committed items info entry entries len capacity updates count line stopped entry_is above = record {
    told =
        ap (map entry_in) entries ∙ map-append entry_in j.entries.items (entry ∷ []) ∙ (λ i. is.told i ++ entry_is i ∷ [])
        ∙ sym (ap (λ (ps : List Past). map entry_of ps) (ap commits_in line ∙ more_commits j.line.list xid items info)
        ∙ map-append entry_of (commits_in j.line.list) (record { xid = xid; items = items; info = info } ∷ []));
    room =
        committed_fits (vec_len j.entries) (vec_len new.entries) (btree_set_len j.open_ones) (btree_set_len new.open_ones) (vec_capacity j.entries) (vec_capacity new.entries)
        len capacity count is.room;
    rising =
        still_rising new.line.list (ends_in j.line.list ++ info.end ∷ []) (ap ends_in line ∙ ends_more j.line.list xid items info)
        (rise_more (ends_in j.line.list) 0 info.end is.rising above);
    opened = λ q.
        still_opened false j.open_ones new.open_ones xid updates j.line.list is.opened (WasCommitted xid items info) (λ r was. refl) q
        ∙ ap (λ (events : List LineEvent). is_open_in events q) (sym line);
    caused = subst (λ (stop : Option stopped_type.Stopped). IfSome stop HasCause) (sym stopped) is.caused;
  }

-- something stops the store
pub keeps_stopped : (j new : Inside) → IsJournal j → new.entries ≡ j.entries → new.open_ones ≡ j.open_ones → new.line ≡ j.line → IfSome new.stopped HasCause → IsJournal new
keeps_stopped j new is entries same_ones line caused = record {
  told = ap (λ (es : Vec Entry Global). map entry_in es.items) entries ∙ is.told ∙ ap (λ (l : Half LineEvent). map entry_of (commits_in l.list)) (sym line);
  room =
      subst (λ (es : Vec Entry Global). vec_len es + btree_set_len new.open_ones ≤ vec_capacity es) (sym entries)
      (subst (λ (keys : BTreeSet ℕ). vec_len j.entries + btree_set_len keys ≤ vec_capacity j.entries) (sym same_ones) is.room);
  rising = subst (λ (l : Half LineEvent). IsStrictlyIncreasing (0 ∷ ends_in l.list)) (sym line) is.rising;
  opened = λ q. ap (λ (keys : BTreeSet ℕ). set.contains nat_cmp keys q) same_ones ∙ is.opened q ∙ ap (λ (l : Half LineEvent). is_open_in l.list q) (sym line);
  caused = caused;
}

-- nothing has happened
pub keeps_new : (new : Inside) → new.entries.items ≡ [] → vec_len new.entries ≡ 0 → new.open_ones.keys ≡ [] → new.line.list ≡ [] → new.stopped ≡ None → IsJournal new
keeps_new new entries len keys line stopped = record {
  told = ap (map entry_in) entries ∙ sym (ap (λ (events : List LineEvent). map entry_of (commits_in events)) line);
  room = subst (λ (ks : List ℕ). vec_len new.entries + length ks ≤ vec_capacity new.entries) (sym keys) (subst (λ n. n + 0 ≤ vec_capacity new.entries) (sym len) (omega arith));
  rising = still_rising new.line.list [] (ap ends_in line) (λ k within. absurd (omega (arith, within)));
  opened = λ q. ap (λ (ks : List ℕ). list_any (is_at (nat_cmp q)) ks) keys ∙ sym (ap (λ (events : List LineEvent). is_open_in events q) line);
  caused = subst (λ (stop : Option stopped_type.Stopped). IfSome stop HasCause) (sym stopped) tt;
}

-- there is more room
roomier : (entries longer ones capacity wide : ℕ) → longer ≡ entries → capacity ≤ wide → entries + ones ≤ capacity → longer + ones ≤ wide
roomier entries longer ones capacity wide same more fits = omega (arith, same, more, fits)

pub keeps_room : (j new : Inside) → IsJournal j → new.entries.items ≡ j.entries.items → vec_len new.entries ≡ vec_len j.entries
    → vec_capacity j.entries ≤ vec_capacity new.entries → new.open_ones ≡ j.open_ones → new.line ≡ j.line → new.stopped ≡ j.stopped → IsJournal new
keeps_room j new is items len capacity same_ones line stopped = record {
  told = ap (map entry_in) items ∙ is.told ∙ ap (λ (l : Half LineEvent). map entry_of (commits_in l.list)) (sym line);
  room =
      subst (λ (keys : BTreeSet ℕ). vec_len new.entries + btree_set_len keys ≤ vec_capacity new.entries) (sym same_ones)
      (roomier (vec_len j.entries) (vec_len new.entries) (btree_set_len j.open_ones) (vec_capacity j.entries) (vec_capacity new.entries) len capacity is.room);
  rising = subst (λ (l : Half LineEvent). IsStrictlyIncreasing (0 ∷ ends_in l.list)) (sym line) is.rising;
  opened = λ q. ap (λ (keys : BTreeSet ℕ). set.contains nat_cmp keys q) same_ones ∙ is.opened q ∙ ap (λ (l : Half LineEvent). is_open_in l.list q) (sym line);
  caused = subst (λ (stop : Option stopped_type.Stopped). IfSome stop HasCause) (sym stopped) is.caused;
}

-- what stopped it is told
pub told_some : (stopped : Option stopped_type.Stopped) → IfSome stopped HasCause → is_some stopped ≡ is_some (told_stop stopped)
told_some None caused = refl
told_some (Some (StoppedByClash xid c clash)) caused = by (cause_of clash) caused
  where
    by : (found : Option ClashCause) → IsSome found → true ≡ is_some (stop_for xid c found)
    by None none = absurd (true≢false (sym none))
    by (Some cause) is = refl
told_some (Some (StoppedByHold waiter holder)) caused = refl

-- and so its caller is told
pub stop_told : (stopped : stopped_type.Stopped) → HasCause stopped → TellsWhatStopped (Some (stop_of stopped)) (told_stop (Some stopped))
stop_told (StoppedByClash xid c clash) caused = by (cause_of clash) refl caused
  where
    by : (found : Option ClashCause) → cause_of clash ≡ found → IsSome found → TellsWhatStopped (Some (stop_of (StoppedByClash xid c clash))) (stop_for xid c found)
    by None is none = absurd (true≢false (sym none))
    by (Some cause) is some = (c, cause, is, refl)
stop_told (StoppedByHold waiter holder) caused = refl

-- one that its line tells open is among those that are open, so one less is left without it
pub one_left : (j : Inside) → IsJournal j → (xid : ℕ) (line : Half LineEvent) → is_open_in line.list xid ≡ true → line ≡ j.line
    → (was : Bool) → was ≡ set.contains nat_cmp j.open_ones xid → (left : ℕ) → left + (if was then 1 else 0) ≡ btree_set_len j.open_ones
    → left + 1 ≡ btree_set_len j.open_ones
one_left j is xid line opened met was found left count =
    subst (λ (b : Bool). left + (if b then 1 else 0) ≡ btree_set_len j.open_ones)
    (found ∙ is.opened xid ∙ ap (λ (l : Half LineEvent). is_open_in l.list xid) (sym met) ∙ opened) count

-- and there is room for its entry
room_for_one : (entries ones left capacity : ℕ) → left + 1 ≡ ones → entries + ones ≤ capacity → entries < capacity
room_for_one entries ones left capacity less fits = omega (arith, less, fits)

pub has_room : (j : Inside) → IsJournal j → (left : ℕ) → left + 1 ≡ btree_set_len j.open_ones → vec_len j.entries < vec_capacity j.entries
has_room j is left less = room_for_one (vec_len j.entries) (btree_set_len j.open_ones) left (vec_capacity j.entries) less is.room
