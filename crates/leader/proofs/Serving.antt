-- What is there of all transactions, once one of them went a step.
use Rattle.std.proofs.Common.{◌≡◌, ◌≢◌, ℕ, Bool, true, false, List, [], ◌∷◌, ◌++◌, Option, Some, None, refl, sym, ap, subst, ◌∙◌, append-nil, inl, inr}
use Rattle.std.specs.Prelude.{map, MatchOption}
use Rattle.std.specs.FinMap as finite
use Rattle.std.proofs.lemmas.Bool.{cases_eq}
use Rattle.std.proofs.lemmas.Grind.{flat_map-append}
use Rattle.std.proofs.lemmas.List.{map-append}
use Rattle.model.specs.declared.item.Item.{Item}
use Rattle.model.specs.declared.item.Item.TheVariants.{Change}
use Rattle.model.specs.declared.item.CommitInfo.{CommitInfo}
use Rattle.model.specs.SurvivorLemmas.{items_of_survivors}
use Rattle.frames.specs.declared.item.CopyItem.{CopyItem}
use Rattle.world.specs.World.{Opened, Past}
use Rattle.engine.specs.declared.events.LineEvent.{LineEvent}
use Rattle.engine.specs.declared.events.LineEvent.TheVariants.{Opened as WasOpened, Committed as WasCommitted}
use Rattle.engine.specs.Events.{is_open_in, commits_in, past_of}
use Rattle.session.specs.Sized.{item_of}
use Rattle.session.specs.State.{Way, Direct, Worker, Spooled, Open, Committed, State, Setting}
use Rattle.session.specs.Table.{new_open}
use Rattle.session.specs.StreamEvents.{IsOpening, IsGiving, IsCommitting, IsAborting, items_handed_out}
use Rattle.run.proofs.States.{get-inserted, get-other, get-left, get-gone}
use Rattle.run.specs.Cause.{IsNext}
use Rattle.session.proofs.Finals.{open_whole}
use Rattle.run_laws.specs.Runs.{DoesAtCommit}
use Rattle.run_laws.specs.Threads.{IsWork, work_of, done_by_commit}
use Rattle.dispatch.specs.Handle.{Given, IsDoing}
use Rattle.dispatch.specs.Standing.{Own, nothing, Standing, items_by, own_of, with_done, IsUndone, OwnDoes, IsBegun, IsHandedOut, IsTaken, IsCommitted, HasTried, IsAborted}
use Rattle.leader.specs.Threads.{IsAssigned, AreAssigned, KeepsToWork, IsOpenAtEnd, AreOpenAtEnd}
use Rattle.leader.proofs.Agreeing.{same_turned, all_turned, items_here, items_elsewhere, own_here, own_elsewhere, had_is, not_nowhere, opened_here, opened_elsewhere, committed_here, committed_elsewhere, aborted_here, aborted_elsewhere, carried, none_there, by_worker, by_leader, by_none, nothing_there, agreed_but, agreed_beside}
use Rattle.dispatch.proofs.Trying.{undone_doing}

abbrev line_of : Standing → List LineEvent
line_of t = t.line

abbrev workers_of : Standing → List (Option Given)
workers_of t = t.workers

abbrev begun_of : Standing → Option Own
begun_of t = t.begun

-- what is there of a transaction
abbrev There : Standing → ℕ → Option Open → Type 0
There t xid o = IsAssigned o (items_by xid t.workers) (own_of xid t.begun) (is_open_in t.line xid)

-- it is this
there : (t : Standing) (xid : ℕ) (found o : Option Open) (i : List (List Item)) (m : Option Opened) (b : Bool) → found ≡ o → items_by xid t.workers ≡ i → own_of xid t.begun ≡ m → is_open_in t.line xid ≡ b → IsAssigned o i m b → There t xid found
there t xid found o i m b e1 e2 e3 e4 h = carried o found i (items_by xid t.workers) m (own_of xid t.begun) b (is_open_in t.line xid) (sym e1) (sym e2) (sym e3) (sym e4) h

-- ---- one opens

pub begun_agreed : (s t : State) (old new : Standing) (xid : ℕ) → AreAssigned s.transactions old → IsOpening s t xid Direct → IsBegun old xid new → AreAssigned t.transactions new
begun_agreed s t old new xid agreed opens is =
    let e = is.is in
    let none = none_there (items_by xid old.workers) (own_of xid old.begun) (is_open_in old.line xid) (subst (There old xid) opens.absent (agreed xid)) in
    agreed_but xid s.transactions t.transactions old new agreed
    (there new xid (finite.get t.transactions xid) (Some (new_open Direct)) [] (Some nothing) true
    (ap (λ m. finite.get m xid) opens.transactions ∙ get-inserted s.transactions xid (new_open Direct))
    (ap (items_by xid) (ap workers_of e) ∙ none.0)
    (ap (own_of xid) (ap begun_of e) ∙ own_here xid nothing)
    (ap (λ l. is_open_in l xid) (ap line_of e) ∙ opened_here old.line xid)
    (refl, refl))
    (λ q ne. (
      ap (λ m. finite.get m q) opens.transactions ∙ get-other s.transactions xid (new_open Direct) q ne,
      ap (items_by q) (ap workers_of e),
      ap (own_of q) (ap begun_of e) ∙ own_elsewhere xid q nothing ne ∙ sym (ap (own_of q) is.none),
      ap (λ l. is_open_in l q) (ap line_of e) ∙ opened_elsewhere old.line xid q ne,
    ))

pub handed_out_agreed : (s t : State) (old new : Standing) (xid : ℕ) → AreAssigned s.transactions old → IsOpening s t xid Worker → IsHandedOut old xid new → AreAssigned t.transactions new
handed_out_agreed s t old new xid agreed opens is =
    let e = is.is in
    let given : Option Given = Some (record { xid = xid; items = [] }) in
    let none = none_there (items_by xid old.workers) (own_of xid old.begun) (is_open_in old.line xid) (subst (There old xid) opens.absent (agreed xid)) in
    agreed_but xid s.transactions t.transactions old new agreed
    (there new xid (finite.get t.transactions xid) (Some (new_open Worker)) ([] ∷ []) None true
    (ap (λ m. finite.get m xid) opens.transactions ∙ get-inserted s.transactions xid (new_open Worker))
    (all_turned xid old.workers new.workers None given is.workers none.0 ∙ items_here xid [])
    (ap (own_of xid) (ap begun_of e) ∙ none.1)
    (ap (λ l. is_open_in l xid) (ap line_of e) ∙ opened_here old.line xid)
    (refl, refl))
    (λ q ne. (
      ap (λ m. finite.get m q) opens.transactions ∙ get-other s.transactions xid (new_open Worker) q ne,
      same_turned q old.workers new.workers None given is.workers (sym (items_elsewhere xid q [] ne)),
      ap (own_of q) (ap begun_of e),
      ap (λ l. is_open_in l q) (ap line_of e) ∙ opened_elsewhere old.line xid q ne,
    ))

pub spooled_agreed : (s t : State) (st : Standing) (xid : ℕ) → AreAssigned s.transactions st → IsOpening s t xid Spooled → AreAssigned t.transactions st
spooled_agreed s t st xid agreed opens =
    let none = none_there (items_by xid st.workers) (own_of xid st.begun) (is_open_in st.line xid) (subst (There st xid) opens.absent (agreed xid)) in
    agreed_beside xid s.transactions t.transactions st agreed none
    (subst (λ f. IsAssigned f [] None false) (sym (ap (λ m. finite.get m xid) opens.transactions ∙ get-inserted s.transactions xid (new_open Spooled))) refl)
    (λ q ne. ap (λ m. finite.get m q) opens.transactions ∙ get-other s.transactions xid (new_open Spooled) q ne)

-- ---- an item

-- the transaction with an item more
abbrev with_item : Open → Item → ℕ → Open
with_item o item size = record o { items = o.items ++ (item, size) ∷ [] }

items_more : (o : Open) (item : Item) (size : ℕ) → map item_of (with_item o item size).items ≡ map item_of o.items ++ item ∷ []
items_more o item size = map-append item_of o.items ((item, size) ∷ [])

-- what the leader's own has done is what is told of it
own_is : (xid : ℕ) (own : Option Own) (done : Opened) (m : Option Opened) → own ≡ Some (record { xid = xid; done = done }) → own_of xid own ≡ m → Some done ≡ m
own_is xid own done m e is = sym (own_here xid done) ∙ sym (ap (own_of xid) e) ∙ is

pub given_agreed : (s t : State) (old new : Standing) (xid : ℕ) (item : Item) (size : ℕ) (o : Open) → AreAssigned s.transactions old → o.way ≡ Worker → IsGiving s t xid item size o → IsTaken old xid item new → AreAssigned t.transactions new
given_agreed s t old new xid item size o agreed way gives (inl is) =
    let e = is.is in
    let was = by_worker o (items_by xid old.workers) (own_of xid old.begun) (is_open_in old.line xid) way (subst (There old xid) gives.present (agreed xid)) in
    let before : Option Given = Some (record { xid = xid; items = is.had }) in
    let after : Option Given = Some (record { xid = xid; items = is.had ++ item ∷ [] }) in
    let same = had_is xid old.workers new.workers is.had (map item_of o.items) after is.workers was.0 in
    agreed_but xid s.transactions t.transactions old new agreed
    (there new xid (finite.get t.transactions xid) (Some (with_item o item size)) ((is.had ++ item ∷ []) ∷ []) None true
    (ap (λ m. finite.get m xid) gives.transactions ∙ get-inserted s.transactions xid (with_item o item size))
    (all_turned xid old.workers new.workers before after is.workers (was.0 ∙ ap (λ (i : List Item). i ∷ []) (sym same) ∙ sym (items_here xid is.had)) ∙ items_here xid (is.had ++ item ∷ []))
    (ap (own_of xid) (ap begun_of e) ∙ was.1)
    (ap (λ l. is_open_in l xid) (ap line_of e) ∙ was.2)
    (way, ap (λ (i : List Item). i ++ item ∷ []) same ∙ sym (items_more o item size)))
    (λ q ne. (
      ap (λ m. finite.get m q) gives.transactions ∙ get-other s.transactions xid (with_item o item size) q ne,
      same_turned q old.workers new.workers before after is.workers (items_elsewhere xid q is.had ne ∙ sym (items_elsewhere xid q (is.had ++ item ∷ []) ne)),
      ap (own_of q) (ap begun_of e),
      ap (λ l. is_open_in l q) (ap line_of e),
    ))
given_agreed s t old new xid item size o agreed way gives (inr (done, does)) =
    let was = by_worker o (items_by xid old.workers) (own_of xid old.begun) (is_open_in old.line xid) way (subst (There old xid) gives.present (agreed xid)) in
    let e : Some done ≡ None = own_is xid old.begun done None does.was_own was.1 in absurd cc

-- what the leader's own has done is all that the state has of it
own_done : (old : Standing) (xid : ℕ) (o : Open) (done : Opened) → o.way ≡ Direct → There old xid (Some o) → old.begun ≡ Some (record { xid = xid; done = done }) → done ≡ record { items = map item_of o.items; wants = None }
own_done old xid o done way agreed own =
    let was = by_leader o (items_by xid old.workers) (own_of xid old.begun) (is_open_in old.line xid) way agreed in
    let e : Some done ≡ Some (record { items = map item_of o.items; wants = None }) = own_is xid old.begun done (Some (record { items = map item_of o.items; wants = None })) own was.1 in cc

pub applied_agreed : (s t : State) (old new : Standing) (xid : ℕ) (item : Item) (size : ℕ) (o : Open) → AreAssigned s.transactions old → o.way ≡ Direct → IsGiving s t xid item size o → IsTaken old xid item new → AreAssigned t.transactions new
applied_agreed s t old new xid item size o agreed way gives (inl is) =
    let was = by_leader o (items_by xid old.workers) (own_of xid old.begun) (is_open_in old.line xid) way (subst (There old xid) gives.present (agreed xid)) in
    absurd (not_nowhere xid old.workers new.workers is.had (Some (record { xid = xid; items = is.had ++ item ∷ [] })) is.workers was.0)
applied_agreed s t old new xid item size o agreed way gives (inr (done, does)) =
    let e = does.is_own in
    let here = subst (There old xid) gives.present (agreed xid) in
    let was = by_leader o (items_by xid old.workers) (own_of xid old.begun) (is_open_in old.line xid) way here in
    let had = own_done old xid o done way here does.was_own in
    agreed_but xid s.transactions t.transactions old new agreed
    (there new xid (finite.get t.transactions xid) (Some (with_item o item size)) [] (Some (with_done done item)) true
    (ap (λ m. finite.get m xid) gives.transactions ∙ get-inserted s.transactions xid (with_item o item size))
    (ap (items_by xid) (ap workers_of e) ∙ was.0)
    (ap (own_of xid) (ap begun_of e) ∙ own_here xid (with_done done item))
    (ap (λ l. is_open_in l xid) (ap line_of e) ∙ was.2)
    (way, ap (λ (i : List Item). record { items = i; wants = None }) (ap (λ (d : Opened). d.items ++ item ∷ []) had ∙ sym (items_more o item size))))
    (λ q ne. (
      ap (λ m. finite.get m q) gives.transactions ∙ get-other s.transactions xid (with_item o item size) q ne,
      ap (items_by q) (ap workers_of e),
      ap (own_of q) (ap begun_of e) ∙ own_elsewhere xid q (with_done done item) ne ∙ sym (ap (own_of q) does.was_own ∙ own_elsewhere xid q done ne),
      ap (λ l. is_open_in l q) (ap line_of e),
    ))

pub kept_agreed : (s t : State) (st : Standing) (xid : ℕ) (item : Item) (size : ℕ) (o : Open) → AreAssigned s.transactions st → o.way ≡ Spooled → IsGiving s t xid item size o → AreAssigned t.transactions st
kept_agreed s t st xid item size o agreed way gives =
    let none = by_none o (items_by xid st.workers) (own_of xid st.begun) (is_open_in st.line xid) way (subst (There st xid) gives.present (agreed xid)) in
    agreed_beside xid s.transactions t.transactions st agreed none
    (subst (λ f. IsAssigned f [] None false) (sym (ap (λ m. finite.get m xid) gives.transactions ∙ get-inserted s.transactions xid (with_item o item size))) way)
    (λ q ne. ap (λ m. finite.get m q) gives.transactions ∙ get-other s.transactions xid (with_item o item size) q ne)

-- ---- one goes

-- one that the state has no longer is nowhere, and the others are where they were
gone_agreed : (s t : State) (old new : Standing) (xid : ℕ) → AreAssigned s.transactions old → t.transactions ≡ finite.remove s.transactions xid
    → (items_by xid new.workers ≡ []) × (own_of xid new.begun ≡ None) × (is_open_in new.line xid ≡ false)
    → ((q : ℕ) → (xid ≡ q → ⊥) → (items_by q new.workers ≡ items_by q old.workers) × (own_of q new.begun ≡ own_of q old.begun) × (is_open_in new.line q ≡ is_open_in old.line q))
    → AreAssigned t.transactions new
gone_agreed s t old new xid agreed gone nowhere same =
    agreed_but xid s.transactions t.transactions old new agreed
    (there new xid (finite.get t.transactions xid) None [] None false
    (ap (λ m. finite.get m xid) gone ∙ get-gone s.transactions xid) nowhere.0 nowhere.1 nowhere.2 tt)
    (λ q ne. let is = same q ne in (ap (λ m. finite.get m q) gone ∙ get-left s.transactions xid q ne, is.0, is.1, is.2))

-- ---- one is dropped

pub aborted_agreed : (s t : State) (old new : Standing) (xid : ℕ) (o : Open) → AreAssigned s.transactions old → o.way ≡ Worker → IsAborting s t xid o → IsAborted old xid new → AreAssigned t.transactions new
aborted_agreed s t old new xid o agreed way aborts is =
    let e = is.is in
    let was = by_worker o (items_by xid old.workers) (own_of xid old.begun) (is_open_in old.line xid) way (subst (There old xid) aborts.present (agreed xid)) in
    let before : Option Given = Some (record { xid = xid; items = is.had }) in
    let same = had_is xid old.workers new.workers is.had (map item_of o.items) None is.workers was.0 in
    gone_agreed s t old new xid agreed aborts.transactions (
      all_turned xid old.workers new.workers before None is.workers (was.0 ∙ ap (λ (i : List Item). i ∷ []) (sym same) ∙ sym (items_here xid is.had)),
      ap (own_of xid) (ap begun_of e) ∙ was.1,
      ap (λ l. is_open_in l xid) (ap line_of e) ∙ aborted_here old.line xid,
    )
    (λ q ne. (
      same_turned q old.workers new.workers before None is.workers (items_elsewhere xid q is.had ne),
      ap (own_of q) (ap begun_of e),
      ap (λ l. is_open_in l q) (ap line_of e) ∙ aborted_elsewhere old.line xid q ne,
    ))

pub dropped_agreed : (s t : State) (st : Standing) (xid : ℕ) (o : Open) → AreAssigned s.transactions st → o.way ≡ Spooled → IsAborting s t xid o → AreAssigned t.transactions st
dropped_agreed s t st xid o agreed way aborts =
    let none = by_none o (items_by xid st.workers) (own_of xid st.begun) (is_open_in st.line xid) way (subst (There st xid) aborts.present (agreed xid)) in
    agreed_beside xid s.transactions t.transactions st agreed none
    (subst (λ f. IsAssigned f [] None false) (sym (ap (λ m. finite.get m xid) aborts.transactions ∙ get-gone s.transactions xid)) tt)
    (λ q ne. ap (λ m. finite.get m q) aborts.transactions ∙ get-left s.transactions xid q ne)

-- ---- one commits

-- the commits that a line tells, once it tells one more
more_commits : (line : List LineEvent) (xid : ℕ) (items : List Item) (info : CommitInfo) → commits_in (line ++ WasCommitted xid items info ∷ []) ≡ commits_in line ++ record { xid = xid; items = items; info = info } ∷ []
more_commits line xid items info = flat_map-append past_of line (WasCommitted xid items info ∷ [])

-- what a commit leaves: the rest agrees, and the line tells the commit with all of its work
pub record Committing (s t : State) (c : Committed) (old new : Standing) : Type 0 where
  pub agreed : AreAssigned t.transactions new
  pub line : commits_in new.line ≡ commits_in old.line ++ done_by_commit c ∷ []
  pub tables : new.tables ≡ old.tables

-- what is open of a commit
abbrev open_of : Committed → Open
open_of c = record { way = c.way; items = c.items }

-- an opened transaction is no commit
pub unopened : (line : List LineEvent) (xid : ℕ) → commits_in (line ++ WasOpened xid ∷ []) ≡ commits_in line
unopened line xid = flat_map-append past_of line (WasOpened xid ∷ []) ∙ append-nil (commits_in line)

worker_whole : (s t : State) (c : Committed) → c.way ≡ Worker → IsCommitting s t c → finite.get s.transactions c.xid ≡ Some (open_of c)
worker_whole s t c way commits = open_whole s t c commits (λ spooled. let no : Worker ≡ Spooled = sym way ∙ spooled in cc)

direct_whole : (s t : State) (c : Committed) → c.way ≡ Direct → IsCommitting s t c → finite.get s.transactions c.xid ≡ Some (open_of c)
direct_whole s t c way commits = open_whole s t c commits (λ spooled. let no : Direct ≡ Spooled = sym way ∙ spooled in cc)

-- a spooled one, with whatever is final of it
abbrev spooled_open : (s t : State) (c : Committed) → IsCommitting s t c → Open
spooled_open s t c commits = record { way = c.way; items = commits.items }

pub worker_commit : (s t : State) (c : Committed) (old new : Standing) (handed : List Item) → AreAssigned s.transactions old → c.way ≡ Worker → IsCommitting s t c → IsCommitted old c.xid c.info handed new → Committing s t c old new
worker_commit s t c old new handed agreed way commits (inl is) =
    let e = is.is in
    let was = by_worker (open_of c) (items_by c.xid old.workers) (own_of c.xid old.begun) (is_open_in old.line c.xid) way (subst (There old c.xid) (worker_whole s t c way commits) (agreed c.xid)) in
    let before : Option Given = Some (record { xid = c.xid; items = is.had }) in
    let same = had_is c.xid old.workers new.workers is.had (map item_of c.items) None is.workers was.0 in
    record {
      agreed =
          gone_agreed s t old new c.xid agreed commits.transactions (
            all_turned c.xid old.workers new.workers before None is.workers (was.0 ∙ ap (λ (i : List Item). i ∷ []) (sym same) ∙ sym (items_here c.xid is.had)),
            ap (own_of c.xid) (ap begun_of e) ∙ was.1,
            ap (λ l. is_open_in l c.xid) (ap line_of e) ∙ committed_here old.line c.xid is.had c.info,
          )
          (λ q ne. (
            same_turned q old.workers new.workers before None is.workers (items_elsewhere c.xid q is.had ne),
            ap (own_of q) (ap begun_of e),
            ap (λ l. is_open_in l q) (ap line_of e) ∙ committed_elsewhere old.line c.xid q is.had c.info ne,
          ));
      line =
          ap commits_in (ap line_of e) ∙ more_commits old.line c.xid is.had c.info
          ∙ ap (λ (i : List Item). commits_in old.line ++ record { xid = c.xid; items = i; info = c.info } ∷ [])
          (same ∙ ap (λ (w : Way). work_of c.xid w c.items) (sym way));
      tables = ap (λ (st : Standing). st.tables) e;
    }
worker_commit s t c old new handed agreed way commits (inr (inl is)) =
    let was = by_worker (open_of c) (items_by c.xid old.workers) (own_of c.xid old.begun) (is_open_in old.line c.xid) way (subst (There old c.xid) (worker_whole s t c way commits) (agreed c.xid)) in
    let e : Some is.done ≡ None = own_is c.xid old.begun is.done None is.was was.1 in absurd cc
worker_commit s t c old new handed agreed way commits (inr (inr is)) =
    let was = by_worker (open_of c) (items_by c.xid old.workers) (own_of c.xid old.begun) (is_open_in old.line c.xid) way (subst (There old c.xid) (worker_whole s t c way commits) (agreed c.xid)) in
    let e : map item_of c.items ∷ [] ≡ [] = sym was.0 ∙ is.nowhere in absurd cc

pub direct_commit : (s t : State) (c : Committed) (old new : Standing) (handed : List Item) → AreAssigned s.transactions old → c.way ≡ Direct → IsCommitting s t c → IsCommitted old c.xid c.info handed new → Committing s t c old new
direct_commit s t c old new handed agreed way commits (inl is) =
    let was = by_leader (open_of c) (items_by c.xid old.workers) (own_of c.xid old.begun) (is_open_in old.line c.xid) way (subst (There old c.xid) (direct_whole s t c way commits) (agreed c.xid)) in
    absurd (not_nowhere c.xid old.workers new.workers is.had None is.workers was.0)
direct_commit s t c old new handed agreed way commits (inr (inl is)) =
    let e = is.is in
    let here = subst (There old c.xid) (direct_whole s t c way commits) (agreed c.xid) in
    let was = by_leader (open_of c) (items_by c.xid old.workers) (own_of c.xid old.begun) (is_open_in old.line c.xid) way here in
    let had = own_done old c.xid (open_of c) is.done way here is.was in
    record {
      agreed =
          gone_agreed s t old new c.xid agreed commits.transactions (
            ap (items_by c.xid) (ap workers_of e) ∙ was.0,
            ap (own_of c.xid) (ap begun_of e),
            ap (λ l. is_open_in l c.xid) (ap line_of e) ∙ committed_here old.line c.xid is.done.items c.info,
          )
          (λ q ne. (
            ap (items_by q) (ap workers_of e),
            ap (own_of q) (ap begun_of e) ∙ sym (ap (own_of q) is.was ∙ own_elsewhere c.xid q is.done ne),
            ap (λ l. is_open_in l q) (ap line_of e) ∙ committed_elsewhere old.line c.xid q is.done.items c.info ne,
          ));
      line =
          ap commits_in (ap line_of e) ∙ more_commits old.line c.xid is.done.items c.info
          ∙ ap (λ (i : List Item). commits_in old.line ++ record { xid = c.xid; items = i; info = c.info } ∷ [])
          (ap (λ (d : Opened). d.items) had ∙ ap (λ (w : Way). work_of c.xid w c.items) (sym way));
      tables = ap (λ (st : Standing). st.tables) e;
    }
direct_commit s t c old new handed agreed way commits (inr (inr is)) =
    let was = by_leader (open_of c) (items_by c.xid old.workers) (own_of c.xid old.begun) (is_open_in old.line c.xid) way (subst (There old c.xid) (direct_whole s t c way commits) (agreed c.xid)) in
    let e : None ≡ Some (record { items = map item_of c.items; wants = None }) = sym (ap (own_of c.xid) is.none) ∙ was.1 in absurd cc

pub spooled_commit : (s t : State) (c : Committed) (old new : Standing) (handed : List Item) → AreAssigned s.transactions old → c.way ≡ Spooled → handed ≡ items_handed_out c.xid c.way c.items → IsCommitting s t c → IsCommitted old c.xid c.info handed new → Committing s t c old new
spooled_commit s t c old new handed agreed way hands commits (inl is) =
    let was = by_none (spooled_open s t c commits) (items_by c.xid old.workers) (own_of c.xid old.begun) (is_open_in old.line c.xid) way (subst (There old c.xid) commits.present (agreed c.xid)) in
    absurd (not_nowhere c.xid old.workers new.workers is.had None is.workers was.0)
spooled_commit s t c old new handed agreed way hands commits (inr (inl is)) =
    let was = by_none (spooled_open s t c commits) (items_by c.xid old.workers) (own_of c.xid old.begun) (is_open_in old.line c.xid) way (subst (There old c.xid) commits.present (agreed c.xid)) in
    let e : Some is.done ≡ None = own_is c.xid old.begun is.done None is.was was.1 in absurd cc
spooled_commit s t c old new handed agreed way hands commits (inr (inr is)) =
    let e = is.is in
    let was = by_none (spooled_open s t c commits) (items_by c.xid old.workers) (own_of c.xid old.begun) (is_open_in old.line c.xid) way (subst (There old c.xid) commits.present (agreed c.xid)) in
    record {
      agreed =
          gone_agreed s t old new c.xid agreed commits.transactions (
            ap (items_by c.xid) (ap workers_of e) ∙ was.0,
            ap (own_of c.xid) (ap begun_of e) ∙ was.1,
            ap (λ l. is_open_in l c.xid) (ap line_of e) ∙ committed_here (old.line ++ WasOpened c.xid ∷ []) c.xid handed c.info,
          )
          (λ q ne. (
            ap (items_by q) (ap workers_of e),
            ap (own_of q) (ap begun_of e),
            ap (λ l. is_open_in l q) (ap line_of e) ∙ committed_elsewhere (old.line ++ WasOpened c.xid ∷ []) c.xid q handed c.info ne ∙ opened_elsewhere old.line c.xid q ne,
          ));
      line =
          ap commits_in (ap line_of e) ∙ more_commits (old.line ++ WasOpened c.xid ∷ []) c.xid handed c.info
          ∙ ap (λ (ps : List Past). ps ++ record { xid = c.xid; items = handed; info = c.info } ∷ []) (unopened old.line c.xid)
          ∙ ap (λ (i : List Item). commits_in old.line ++ record { xid = c.xid; items = i; info = c.info } ∷ [])
          (hands ∙ ap (λ (w : Way). items_handed_out c.xid w c.items) way ∙ items_of_survivors item_of c.xid c.items ∙ ap (λ (w : Way). work_of c.xid w c.items) (sym way));
      tables = ap (λ (st : Standing). st.tables) e;
    }

-- ---- an end

-- where all agree, what is there of a transaction is a beginning of its work
held_there : (g : Setting) (s : State) (rest : List CopyItem) (xid : ℕ) (o : Option Open) (i : List (List Item)) (m : Option Opened) (b : Bool) → IsAssigned o i m b → IsOpenAtEnd g s rest xid o i m b
held_there g s rest xid None [] None false h = tt
held_there g s rest xid None [] None true h = absurd h
held_there g s rest xid None [] (Some d) false h = absurd h
held_there g s rest xid None [] (Some d) true h = absurd h
held_there g s rest xid None (x ∷ i) None false h = absurd h
held_there g s rest xid None (x ∷ i) None true h = absurd h
held_there g s rest xid None (x ∷ i) (Some d) false h = absurd h
held_there g s rest xid None (x ∷ i) (Some d) true h = absurd h
held_there g s rest xid (Some o) [] None false h = h
held_there g s rest xid (Some o) [] None true h = absurd h
held_there g s rest xid (Some o) [] (Some d) false h = absurd h
held_there g s rest xid (Some o) [] (Some d) true h =
    (not_worker o.way h.0, doing_all d o h.0 h.1)
  where
    not_worker : (w : Way) → w ≡ Direct → w ≡ Worker → ⊥
    not_worker w e f = let x : Direct ≡ Worker = sym e ∙ f in absurd cc

    doing_all : (d : Opened) (o : Open) → o.way ≡ Direct → d ≡ record { items = map item_of o.items; wants = None } → KeepsToWork g s rest xid o d
    doing_all d o way e = record {
      work = map item_of o.items;
      is_work = subst (λ (w : Way). IsWork g s rest xid w o.items (map item_of o.items)) (sym way) refl;
      doing = record {
        left = [];
        begins = append-nil d.items ∙ ap (λ (x : Opened). x.items) e;
        wants = subst (λ w. MatchOption w (Unit {0}) (λ w. (more : List Item) × ([] ≡ Change w.0 w.1 ∷ more))) (sym (ap (λ (x : Opened). x.wants) e)) tt;
      };
    }
held_there g s rest xid (Some o) (x ∷ []) None false h = absurd h
held_there g s rest xid (Some o) (x ∷ []) None true h = h
held_there g s rest xid (Some o) (x ∷ []) (Some d) false h = absurd h
held_there g s rest xid (Some o) (x ∷ []) (Some d) true h = absurd h
held_there g s rest xid (Some o) (x ∷ y ∷ i) None false h = absurd h
held_there g s rest xid (Some o) (x ∷ y ∷ i) None true h = absurd h
held_there g s rest xid (Some o) (x ∷ y ∷ i) (Some d) false h = absurd h
held_there g s rest xid (Some o) (x ∷ y ∷ i) (Some d) true h = absurd h

pub all_held : (g : Setting) (s : State) (rest : List CopyItem) (t : Standing) → AreAssigned s.transactions t → AreOpenAtEnd g s rest t
all_held g s rest t agreed xid = held_there g s rest xid (finite.get s.transactions xid) (items_by xid t.workers) (own_of xid t.begun) (is_open_in t.line xid) (agreed xid)

-- so it is of all, where all agreed and then one of them went a step
held_but : (g : Setting) (xid : ℕ) (s t : State) (rest : List CopyItem) (old new : Standing) → AreAssigned s.transactions old
    → (o : Open) (i : List (List Item)) (m : Option Opened) (b : Bool)
    → finite.get t.transactions xid ≡ Some o → items_by xid new.workers ≡ i → own_of xid new.begun ≡ m → is_open_in new.line xid ≡ b → IsOpenAtEnd g t rest xid (Some o) i m b
    → ((q : ℕ) → (xid ≡ q → ⊥) → (finite.get t.transactions q ≡ finite.get s.transactions q) × (items_by q new.workers ≡ items_by q old.workers) × (own_of q new.begun ≡ own_of q old.begun) × (is_open_in new.line q ≡ is_open_in old.line q))
    → AreOpenAtEnd g t rest new
held_but g xid s t rest old new agreed o i m b e1 e2 e3 e4 here elsewhere q =
    elim (cases_eq xid q) [
      | inl e ↦
          subst (λ x. IsOpenAtEnd g t rest x (finite.get t.transactions x) (items_by x new.workers) (own_of x new.begun) (is_open_in new.line x)) e
          (carry_held (Some o) (finite.get t.transactions xid) i (items_by xid new.workers) m (own_of xid new.begun) b (is_open_in new.line xid) (sym e1) (sym e2) (sym e3) (sym e4) here)
      | inr ne ↦
          let same = elsewhere q ne in
          held_there g t rest q (finite.get t.transactions q) (items_by q new.workers) (own_of q new.begun) (is_open_in new.line q)
          (carried (finite.get s.transactions q) (finite.get t.transactions q) (items_by q old.workers) (items_by q new.workers) (own_of q old.begun) (own_of q new.begun) (is_open_in old.line q) (is_open_in new.line q)
          (sym same.0) (sym same.1) (sym same.2) (sym same.3) (agreed q))
    ]
  where
    carry_held : (a b : Option Open) (i j : List (List Item)) (m n : Option Opened) (x y : Bool) → a ≡ b → i ≡ j → m ≡ n → x ≡ y → IsOpenAtEnd g t rest xid a i m x → IsOpenAtEnd g t rest xid b j n y
    carry_held a b i j m n x y e1 e2 e3 e4 h =
        subst (λ z. IsOpenAtEnd g t rest xid b j n z) e4 (subst (λ z. IsOpenAtEnd g t rest xid b j z x) e3 (subst (λ z. IsOpenAtEnd g t rest xid b z m x) e2 (subst (λ z. IsOpenAtEnd g t rest xid z i m x) e1 h)))

-- an item of the leader's own wasn't done
pub met_held : (g : Setting) (s t : State) (old new : Standing) (xid : ℕ) (item : Item) (size : ℕ) (o : Open) (done after : Opened) → AreAssigned s.transactions old → (o.way ≢ Spooled) → IsGiving s t xid item size o
    → IsUndone done item after → OwnDoes old xid done after new
    → ((p : Open) × (finite.get t.transactions xid ≡ Some p) × (p.way ≡ Direct)) × ((rest : List CopyItem) → AreOpenAtEnd g t rest new)
met_held g s t old new xid item size o done after agreed way gives undone does = by_way o.way refl
  where
    here : There old xid (Some o)
    here = subst (There old xid) gives.present (agreed xid)

    direct : o.way ≡ Direct → (rest : List CopyItem) → AreOpenAtEnd g t rest new
    direct is rest =
        let e = does.is_own in
        let was = by_leader o (items_by xid old.workers) (own_of xid old.begun) (is_open_in old.line xid) is here in
        let had = own_done old xid o done is here does.was_own in
        let next = with_item o item size in
        held_but g xid s t rest old new agreed next [] (Some after) true
        (ap (λ m. finite.get m xid) gives.transactions ∙ get-inserted s.transactions xid next)
        (ap (items_by xid) (ap workers_of e) ∙ was.0)
        (ap (own_of xid) (ap begun_of e) ∙ own_here xid after)
        (ap (λ l. is_open_in l xid) (ap line_of e) ∙ was.2) (
          (λ worker. let x : Direct ≡ Worker = sym is ∙ worker in absurd cc),
          record {
            work = map item_of next.items;
            is_work = subst (λ (w : Way). IsWork g t rest xid w next.items (map item_of next.items)) (sym is) refl;
            doing = subst (IsDoing after) (sym (items_more o item size)) (undone_doing (map item_of o.items) [] item done after had undone);
          },
        )
        (λ q ne. (
          ap (λ m. finite.get m q) gives.transactions ∙ get-other s.transactions xid next q ne,
          ap (items_by q) (ap workers_of e),
          ap (own_of q) (ap begun_of e) ∙ own_elsewhere xid q after ne ∙ sym (ap (own_of q) does.was_own ∙ own_elsewhere xid q done ne),
          ap (λ l. is_open_in l q) (ap line_of e),
        ))

    worker : o.way ≡ Worker → ((p : Open) × (finite.get t.transactions xid ≡ Some p) × (p.way ≡ Direct)) × ((rest : List CopyItem) → AreOpenAtEnd g t rest new)
    worker is =
        let was = by_worker o (items_by xid old.workers) (own_of xid old.begun) (is_open_in old.line xid) is here in
        let e : Some done ≡ None = own_is xid old.begun done None does.was_own was.1 in absurd cc

    by_way : (w : Way) → o.way ≡ w → ((p : Open) × (finite.get t.transactions xid ≡ Some p) × (p.way ≡ Direct)) × ((rest : List CopyItem) → AreOpenAtEnd g t rest new)
    by_way Direct is = ((with_item o item size, ap (λ m. finite.get m xid) gives.transactions ∙ get-inserted s.transactions xid (with_item o item size), is), direct is)
    by_way Worker is = worker is
    by_way Spooled is = absurd (way is)

-- a spooled one was begun of at its commit
pub tried_held : (g : Setting) (s : State) (rest : List CopyItem) (old new : Standing) (c : Committed) (o : Open) (handed : List Item) → AreAssigned s.transactions old → finite.get s.transactions c.xid ≡ Some o
    → (o.way ≡ Spooled → IsNext rest (λ payload. DoesAtCommit g s payload c.xid handed)) → HasTried old c.xid handed new → AreOpenAtEnd g s rest new
tried_held g s rest old new c o handed agreed present does tried =
    let e = tried.is in
    let was = nothing_there o (items_by c.xid old.workers) (own_of c.xid old.begun) (is_open_in old.line c.xid) tried.nowhere (ap (own_of c.xid) tried.none) (subst (There old c.xid) present (agreed c.xid)) in
    held_but g c.xid s s rest old new agreed o [] (Some tried.done) true
    present
    (ap (items_by c.xid) (ap workers_of e) ∙ tried.nowhere)
    (ap (own_of c.xid) (ap begun_of e) ∙ own_here c.xid tried.done)
    (ap (λ l. is_open_in l c.xid) (ap line_of e) ∙ opened_here old.line c.xid) (
      (λ worker. let x : Spooled ≡ Worker = sym was.0 ∙ worker in absurd cc),
      record {
        work = handed;
        is_work = subst (λ (w : Way). IsWork g s rest c.xid w o.items handed) (sym was.0) (does was.0);
        doing = tried.doing;
      },
    )
    (λ q ne. (
      refl,
      ap (items_by q) (ap workers_of e),
      ap (own_of q) (ap begun_of e) ∙ own_elsewhere c.xid q tried.done ne ∙ sym (ap (own_of q) tried.none),
      ap (λ l. is_open_in l q) (ap line_of e) ∙ opened_elsewhere old.line c.xid q ne,
    ))
