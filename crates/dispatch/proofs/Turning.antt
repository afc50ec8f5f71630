-- What is shown once a worker has turned.
use Rattle.std.proofs.Common.{◌≡◌, ℕ, zero, suc, ◌<◌, List, [], ◌∷◌, ◌++◌, length, get_or, take, drop, ◌+◌, ◌≤◌, Option, Some, None, refl, sym, ap, subst, ◌∙◌, arith}
use Rattle.std.specs.Prelude.{map, MatchOption, All, option_map, slice_set}
use Rattle.std.proofs.lemmas.Grind.{take-set_at}
use Rattle.std.proofs.lemmas.List.{map-append, length-map, take-append-le, take_all}
use Rattle.std.proofs.lemmas.List.Elements.{All-append, All-cons, All-nil}
use Rattle.model.specs.declared.item.Item.{Item}
use Rattle.model.specs.declared.item.CommitInfo.{CommitInfo}
use Rattle.engine.specs.declared.events.LineEvent.{LineEvent}
use Rattle.engine.specs.declared.events.LineEvent.TheVariants.{Opened as WasOpened, Committed as WasCommitted, Aborted as WasAborted}
use Rattle.parted_store.specs.Lent.{OpenTicket}
use Rattle.dispatch.specs.Handle.{Given, HandleModel, own_item, done_by, IsIdle, IsHome, AddsTo, IsTakenOut, HasAll}
use Rattle.dispatch.specs.Standing.{Standing, own_by, goes_by, standing, GoesBy, Replaces, IsBegun, IsHandedOut, IsGiven, CommitsGiven, IsAborted}

-- ---- one of a list

record Split {X : Type 0} (xs : List X) (i : ℕ) (a : X) : Type 0 where
  before : List X
  behind : List X
  whole : xs ≡ before ++ a ∷ behind
  set_is : (x : X) → slice_set xs i x ≡ before ++ x ∷ behind

split_at : {X : Type 0} (xs : List X) (i : ℕ) (a : X) → i < length xs → a ≡ get_or xs i a → Split xs i a
split_at [] i a within is = absurd (omega (arith, within))
split_at (x ∷ xs) zero a within is = record { before = []; behind = xs; whole = ap (λ y. y ∷ xs) (sym is); set_is = λ y. refl }
split_at (x ∷ xs) (suc i) a within is =
    let rest = split_at xs i a (omega (arith, within)) is in
    record { before = x ∷ rest.before; behind = rest.behind; whole = ap (λ ys. x ∷ ys) rest.whole; set_is = λ y. ap (λ ys. x ∷ ys) (rest.set_is y) }

-- what stands at a place does so whatever else would be taken
pub same_item : {X : Type 0} (xs : List X) (i : ℕ) (d e : X) → i < length xs → get_or xs i d ≡ get_or xs i e
same_item [] i d e within = absurd (omega (arith, within))
same_item (x ∷ xs) zero d e within = refl
same_item (x ∷ xs) (suc i) d e within = same_item xs i d e (omega (arith, within))

-- a worker that is another now turns what goes by it
turned : (ls : List HandleModel) (i : ℕ) (worker after : HandleModel) → i < length ls → worker ≡ get_or ls i worker → Replaces (map goes_by ls) (map goes_by (slice_set ls i after)) worker.goes after.goes
turned ls i worker after within is =
    let s = split_at ls i worker within is in
    record {
      before = map goes_by s.before;
      behind = map goes_by s.behind;
      old_is = ap (map goes_by) s.whole ∙ map-append goes_by s.before (worker ∷ s.behind);
      new_is = ap (map goes_by) (s.set_is after) ∙ map-append goes_by s.before (after ∷ s.behind);
    }

-- one that shows the same leaves all as it was
pub same_goes : (ls : List HandleModel) (i : ℕ) (worker after : HandleModel) → i < length ls → worker ≡ get_or ls i worker → after.goes ≡ worker.goes → map goes_by (slice_set ls i after) ≡ map goes_by ls
same_goes ls i worker after within is same =
    let t = turned ls i worker after within is in
    t.new_is ∙ ap (λ (g : Option Given). t.before ++ g ∷ t.behind) same ∙ sym t.old_is

-- ---- the worker of a place

module _ (count : ℕ) (line : List LineEvent) (ls : List HandleModel) (i : ℕ) (begun : Option OpenTicket) (old : Standing) (view : standing count line ls begun ≡ old) (xid : ℕ) (goes : GoesBy old.workers i xid) where
  abbrev Here : List HandleModel → ℕ → Type 0
  Here items place = (place < length items) × ((worker : HandleModel) → worker ≡ get_or items place worker → (given : Given) × (worker.goes ≡ Some given) × (given.xid ≡ xid))

  here : (items : List HandleModel) (place : ℕ) → GoesBy (map goes_by items) place xid → Here items place
  here [] place there = absurd (omega (arith, there.within))
  here (l ∷ items) zero there = (omega arith, λ worker is. (record { xid = xid; items = there.had }, ap goes_by is ∙ there.is, refl))
  here (l ∷ items) (suc place) there =
      let rest = here items place (record { within = omega (arith, there.within); had = there.had; is = there.is }) in
      (omega (arith, rest.0), rest.1)

  found_here : Here ls i
  found_here = here ls i (subst (λ (s : Standing). GoesBy s.workers i xid) (sym view) goes)

  -- it stands there
  pub in_place : i < length ls
  in_place = found_here.0

  -- and the transaction goes by it
  pub goes_here : (worker : HandleModel) → worker ≡ get_or ls i worker → (given : Given) × (worker.goes ≡ Some given) × (given.xid ≡ xid)
  goes_here = found_here.1

-- what goes by the worker of a place
at_place : (ls : List HandleModel) (i : ℕ) (worker : HandleModel) → i < length ls → worker ≡ get_or ls i worker → get_or (map goes_by ls) i None ≡ worker.goes
at_place [] i worker within is = absurd (omega (arith, within))
at_place (l ∷ ls) zero worker within is = ap goes_by (sym is)
at_place (l ∷ ls) (suc i) worker within is = at_place ls i worker (omega (arith, within)) is

-- so this transaction does
pub found_by : (count : ℕ) (line : List LineEvent) (ls : List HandleModel) (i : ℕ) (begun : Option OpenTicket) (old : Standing) → standing count line ls begun ≡ old → (xid : ℕ) (worker : HandleModel) → i < length ls → worker ≡ get_or ls i worker
    → (given : Given) × (worker.goes ≡ Some given) × (given.xid ≡ xid) → GoesBy old.workers i xid
found_by count line ls i begun old view xid worker within is (given, goes, number) =
    subst (λ (s : Standing). GoesBy s.workers i xid) view (record {
      within = subst (λ n. i < n) (sym (length-map ls goes_by)) within;
      had = given.items;
      is = at_place ls i worker within is ∙ goes ∙ ap (λ n. Some (record { xid = n; items = given.items })) number;
    })

-- ---- all workers

-- one worker more has its transaction home, and the same goes by it
pub home_more : (start items : List HandleModel) (i : ℕ) (worker after : HandleModel) → worker ≡ get_or items i worker → i < length items → after.goes ≡ worker.goes → IsHome after → map goes_by items ≡ map goes_by start → All IsHome (take i items)
    → (map goes_by (slice_set items i after) ≡ map goes_by start) × All IsHome (take (i + 1) (slice_set items i after))
home_more start items i worker after is within same home shown homes = (
  same_goes items i worker after within is same ∙ shown,
  subst (All IsHome) (sym (take-set_at items i (i + 1) after refl within)) (All-append IsHome (take i items) (after ∷ []) homes (All-cons IsHome after [] home (All-nil IsHome))),
)

pub home_all : (old items : List HandleModel) (len i : ℕ) → len ≡ length old → length items ≡ length old → length items ≤ i → All IsHome (take i items) → All IsHome (take len (items ++ drop (length items) old))
home_all old items len i len_is same reached homes =
    subst (All IsHome) (sym (take-append-le len items (drop (length items) old) (omega (arith, len_is, same)) ∙ take_all len items (omega (arith, len_is, same))))
    (subst (All IsHome) (take_all i items reached) homes)

-- ---- what is shown

-- what goes by a worker to which a transaction was just handed out
abbrev pub fresh : OpenTicket → Option Given
fresh ticket = Some (record { xid = ticket.number; items = [] })

-- a transaction was opened, and is the leader's own
pub begun_by : (count : ℕ) (line after_line : List LineEvent) (ls : List HandleModel) (begun : Option OpenTicket) (old : Standing) → standing count line ls begun ≡ old
    → old.begun ≡ None → (ticket : OpenTicket) (xid : ℕ) → after_line ≡ line ++ WasOpened xid ∷ [] → ticket ≡ record { number = xid; events = []; shares = [] }
    → IsBegun old xid (standing count after_line ls (Some ticket))
begun_by count line after_line ls begun old view none ticket xid told ticket_is = record {
  none = none;
  is = λ j. record {
    tables = ap (λ (s : Standing). s.tables) view j;
    line = (told ∙ ap (λ (s : Standing). s.line ++ WasOpened xid ∷ []) view) j;
    workers = ap (λ (s : Standing). s.workers) view j;
    begun = ap (λ (t : OpenTicket). Some (own_by t)) ticket_is j;
  };
}

module _ (count : ℕ) (line : List LineEvent) (ls : List HandleModel) (i : ℕ) (begun : Option OpenTicket) (old : Standing) (view : standing count line ls begun ≡ old)
    (worker after : HandleModel) (within : i < length ls) (worker_is : worker ≡ get_or ls i worker) where
  -- the worker turned from this into that
  turns : (new : Standing) (was is : Option Given) → new.workers ≡ map goes_by (slice_set ls i after) → worker.goes ≡ was → after.goes ≡ is → Replaces old.workers new.workers was is
  turns new was is workers e1 e2 =
      let t = turned ls i worker after within worker_is in
      record {
        before = t.before;
        behind = t.behind;
        old_is = sym (ap (λ (s : Standing). s.workers) view) ∙ t.old_is ∙ ap (λ (g : Option Given). t.before ++ g ∷ t.behind) e1;
        new_is = workers ∙ t.new_is ∙ ap (λ (g : Option Given). t.before ++ g ∷ t.behind) e2;
      }

  -- nothing else did
  only : (new : Standing) (after_line more : List LineEvent) → new ≡ standing count after_line (slice_set ls i after) begun → after_line ≡ line ++ more → new ≡ record old { line = old.line ++ more; workers = new.workers }
  only new after_line more new_is told =
      new_is ∙ λ j. record {
        tables = ap (λ (s : Standing). s.tables) view j;
        line = (told ∙ ap (λ (s : Standing). s.line ++ more) view) j;
        workers = sym (ap (λ (s : Standing). s.workers) new_is) j;
        begun = ap (λ (s : Standing). s.begun) view j;
      }

  only_workers : (new : Standing) → new ≡ standing count line (slice_set ls i after) begun → new ≡ record old { workers = new.workers }
  only_workers new new_is =
      new_is ∙ λ j. record {
        tables = ap (λ (s : Standing). s.tables) view j;
        line = ap (λ (s : Standing). s.line) view j;
        workers = sym (ap (λ (s : Standing). s.workers) new_is) j;
        begun = ap (λ (s : Standing). s.begun) view j;
      }

  -- where the same goes by the worker, all is as it was
  pub same_shown : after.goes ≡ worker.goes → standing count line (slice_set ls i after) begun ≡ old
  same_shown same = ap (λ (g : List (Option Given)). record { tables = count; line = line; workers = g; begun = option_map own_by begun }) (same_goes ls i worker after within worker_is same) ∙ view

  -- the transaction that goes by it
  named : (xid : ℕ) (given : Given) → given.xid ≡ xid → worker.goes ≡ Some given → worker.goes ≡ Some (record { xid = xid; items = given.items })
  named xid given number is = is ∙ ap (λ n. Some (record { xid = n; items = given.items })) number

  one_given : (given other : Given) → worker.goes ≡ Some given → worker.goes ≡ Some other → other ≡ given
  one_given given other is also = let e : Some other ≡ Some given = sym also ∙ is in cc

  pub aborted_by : (new : Standing) (after_line : List LineEvent) (ticket : OpenTicket) (xid : ℕ) → new ≡ standing count after_line (slice_set ls i after) begun → after_line ≡ line ++ WasAborted ticket.number ∷ []
      → (given : Given) × (worker.goes ≡ Some given) × (given.xid ≡ xid) → (taken : Given) → worker.goes ≡ Some taken → ticket.number ≡ taken.xid → after.goes ≡ None → IsAborted old xid new
  aborted_by new after_line ticket xid new_is told (given, is, number) taken was its_number gone =
      let same = one_given given taken is was in
      let its : ticket.number ≡ xid = its_number ∙ ap (λ (g : Given). g.xid) same ∙ number in
      record {
        had = given.items;
        workers = turns new (Some (record { xid = xid; items = given.items })) None (ap (λ (s : Standing). s.workers) new_is) (named xid given number is) gone;
        is = only new after_line (WasAborted xid ∷ []) new_is (told ∙ ap (λ n. line ++ WasAborted n ∷ []) its);
      }

  all_done : (ticket : OpenTicket) (given : Given) → worker.goes ≡ Some given → HasAll worker ticket → (done_by ticket).items ≡ given.items
  all_done ticket given is all = subst (λ g. MatchOption g ⊥ (λ (x : Given). (done_by ticket).items ≡ x.items)) is all

  pub committed_by : (new : Standing) (after_line : List LineEvent) (ticket : OpenTicket) (xid : ℕ) (info : CommitInfo) → new ≡ standing count after_line (slice_set ls i after) begun
      → after_line ≡ line ++ WasCommitted ticket.number (done_by ticket).items info ∷ [] → (given : Given) × (worker.goes ≡ Some given) × (given.xid ≡ xid) → IsTakenOut worker ticket after × HasAll worker ticket → CommitsGiven old xid info new
  committed_by new after_line ticket xid info new_is told (given, is, number) (out, all) =
      let same = one_given given out.given is out.was in
      let its : ticket.number ≡ xid = out.number ∙ ap (λ (g : Given). g.xid) same ∙ number in
      record {
        had = given.items;
        workers = turns new (Some (record { xid = xid; items = given.items })) None (ap (λ (s : Standing). s.workers) new_is) (named xid given number is) (ap goes_by out.is);
        is =
            only new after_line (WasCommitted xid given.items info ∷ []) new_is
            (told ∙ ap (λ n. line ++ WasCommitted n (done_by ticket).items info ∷ []) its ∙ ap (λ items. line ++ WasCommitted xid items info ∷ []) (all_done ticket given is all));
      }

  pub given_by : (new : Standing) (xid : ℕ) (item : Item) → new ≡ standing count line (slice_set ls i after) begun → (given : Given) × (worker.goes ≡ Some given) × (given.xid ≡ xid) → AddsTo worker item after → IsGiven old xid (own_item item) new
  given_by new xid item new_is (given, is, number) adds =
      let same = one_given given adds.given is adds.was in
      record {
        had = given.items;
        workers =
            turns new (Some (record { xid = xid; items = given.items })) (Some (record { xid = xid; items = given.items ++ own_item item })) (ap (λ (s : Standing). s.workers) new_is) (named xid given number is)
            (ap goes_by adds.is ∙ ap (λ (g : Given). Some (record g { items = g.items ++ own_item item })) same ∙ ap (λ n. Some (record { xid = n; items = given.items ++ own_item item })) number);
        is = only_workers new new_is;
      }

  pub handed_out_by : (new : Standing) (after_line : List LineEvent) (xid : ℕ) → new ≡ standing count after_line (slice_set ls i after) begun → after_line ≡ line ++ WasOpened xid ∷ [] → IsIdle worker → after.goes ≡ Some (record { xid = xid; items = [] }) → IsHandedOut old xid new
  handed_out_by new after_line xid new_is told free is = record {
    workers = turns new None (Some (record { xid = xid; items = [] })) (ap (λ (s : Standing). s.workers) new_is) free.0 is;
    is = only new after_line (WasOpened xid ∷ []) new_is told;
  }
