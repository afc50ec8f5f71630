-- What a leader asks of its open transactions can be asked.
use Rattle.std.proofs.Common.{◌≡◌, ◌≢◌, ℕ, Bool, true, false, List, [], ◌∷◌, Option, Some, None, refl, sym, ap, subst, ◌∙◌, ⊎_elim, inl, inr}
use Rattle.std.specs.Prelude.{map, ◌⊎◌}
use Rattle.std.specs.FinMap as finite
use Rattle.std.proofs.lemmas.Bool.{cases_eq}
use Rattle.model.specs.declared.item.Item.{Item}
use Rattle.world.specs.World.{Opened}
use Rattle.engine.specs.Events.{is_open_in}
use Rattle.session.specs.declared.step.Step.TheVariants as steps
use Rattle.session.specs.Answers.{Says, IsWithin}
use Rattle.session.specs.Sized.{item_of}
use Rattle.session.specs.State.{Way, Direct, Worker, Spooled, Open, Committed, State, Setting, begun_at, GoesAlone}
use Rattle.session.specs.StreamEvents.{StreamEvent, Tells, IsOpening, IsCommitting}
use Rattle.session.specs.Table.{new_open}
use Rattle.run.proofs.States.{get-inserted, get-other, get-left}
use Rattle.dispatch.specs.Standing.{Own, Standing, items_by, own_of, IsOwn, IsOurs}
use Rattle.leader.specs.Threads.{IsAssigned, AreAssigned}
use Rattle.leader.proofs.Agreeing.{own_here, own_elsewhere, by_worker, by_leader}
use Rattle.leader.proofs.Leading.{IsHandedOn, told_by}

-- what is there of a transaction
abbrev There : Standing → ℕ → Option Open → Type 0
There st xid found = IsAssigned found (items_by xid st.workers) (own_of xid st.begun) (is_open_in st.line xid)

-- one with a worker goes by it
goes : (st : Standing) (xid : ℕ) (o : Open) → o.way ≡ Worker → There st xid (Some o) → items_by xid st.workers ≢ []
goes st xid o way there = λ none.
    let was = by_worker o (items_by xid st.workers) (own_of xid st.begun) (is_open_in st.line xid) way there in
    let e : map item_of o.items ∷ [] ≡ [] = sym was.0 ∙ none in absurd cc

-- the leader's own is known by what it has done
own_known : (xid : ℕ) (own : Option Own) (done : Opened) → own_of xid own ≡ Some done → own ≡ Some (record { xid = xid; done = done })
own_known xid None done e = absurd cc
own_known xid (Some own) done e =
    ⊎_elim
    (λ (same : own.xid ≡ xid).
    let here : own_of xid (Some own) ≡ Some own.done = subst (λ n. own_of n (Some own) ≡ Some own.done) same (own_here own.xid own.done) in
    let both : Some own.done ≡ Some done = sym here ∙ e in
    let did : own.done ≡ done = cc in
    λ i. Some (record { xid = same i; done = did i }))
    (λ ne. let none : None ≡ Some done = sym (own_elsewhere own.xid xid own.done ne) ∙ e in absurd cc)
    (cases_eq own.xid xid)

-- one that goes directly is the leader's own
mine : (st : Standing) (xid : ℕ) (o : Open) → o.way ≡ Direct → There st xid (Some o) → IsOwn st xid
mine st xid o way there =
    let was = by_leader o (items_by xid st.workers) (own_of xid st.begun) (is_open_in st.line xid) way there in
    record { done = record { items = map item_of o.items; wants = None }; is = own_known xid st.begun (record { items = map item_of o.items; wants = None }) was.1 }

-- and the leader's own goes directly
direct : (found : Option Open) (i : List (List Item)) (m : Option Opened) (b : Bool) (done : Opened) → m ≡ Some done → IsAssigned found i m b → (o : Open) × (found ≡ Some o) × (o.way ≡ Direct)
direct (Some o) [] (Some d) true done e h = (o, refl, h.0)
direct None [] None false done e h = absurd cc
direct (Some o) [] None false done e h = absurd cc
direct (Some o) (x ∷ []) None true done e h = absurd cc
direct _ _ _ _ done e h = absurd h

-- none is the leader's own where none goes directly
none_own : (s : State) (st : Standing) → AreAssigned s.transactions st
    → ((own : Own) (o : Open) → finite.get s.transactions own.xid ≡ Some o → o.way ≡ Direct → ⊥) → st.begun ≡ None
none_own s st agreed none = by_begun st.begun refl
  where
    by_begun : (b : Option Own) → st.begun ≡ b → b ≡ None
    by_begun None e = refl
    by_begun (Some own) e =
        let is =
        direct (finite.get s.transactions own.xid) (items_by own.xid st.workers) (own_of own.xid st.begun) (is_open_in st.line own.xid) own.done
        (ap (own_of own.xid) e ∙ own_here own.xid own.done) (agreed own.xid)
        in
        absurd (none own is.0 is.1 is.2)

-- a transaction begins where none is the leader's own
pub begins_alone : (g : Setting) (s t : State) (told : StreamEvent) (x : ℕ) (st : Standing) → AreAssigned s.transactions st → GoesAlone t.phase t.transactions → Tells s t told → IsWithin g told → Says told (steps.Begin x) → st.begun ≡ None
begins_alone g s t told xid st agreed alone tells within says =
    none_own s st agreed (λ own o there way.
    ⊎_elim
    (λ (same : xid ≡ own.xid). let other_way : None ≡ Some o = sym opens.absent ∙ ap (finite.get s.transactions) same ∙ there in absurd cc)
    (λ ne.
    let here = alone xid (new_open Direct) (ap (λ m. finite.get m xid) opens.transactions ∙ get-inserted s.transactions xid (new_open Direct)) refl in
    let other = alone own.xid o (ap (λ m. finite.get m own.xid) opens.transactions ∙ get-other s.transactions xid (new_open Direct) own.xid ne ∙ there) way in
    let both : Some xid ≡ Some own.xid = sym here ∙ other in
    let same : xid ≡ own.xid = cc in ne same)
    (cases_eq xid own.xid))
  where
    opens : IsOpening s t xid Direct
    opens = subst (Tells s t) (told_by g told (steps.Begin xid) within says) tells

-- an item that is handed on comes to somebody
pub item_ours : (s t : State) (xid : ℕ) (item : Item) (st : Standing) → AreAssigned s.transactions st → IsHandedOn s t xid item → IsOurs st xid
item_ours s t xid item st agreed on = by_way on.transaction.way refl
  where
    there : There st xid (Some on.transaction)
    there = subst (There st xid) on.gives.present (agreed xid)

    by_way : (w : Way) → on.transaction.way ≡ w → IsOurs st xid
    by_way Direct e = inr (mine st xid on.transaction e there)
    by_way Worker e = inl (goes st xid on.transaction e there)
    by_way Spooled e = absurd (on.way e)

-- what commits is open so, or can be begun
pub commit_ready : (s t : State) (c : Committed) (xid : ℕ) (st : Standing) → c.xid ≡ xid → AreAssigned s.transactions st → GoesAlone t.phase t.transactions → IsCommitting s t c → IsOurs st xid ⊎ (st.begun ≡ None)
commit_ready s t c xid st same agreed alone commits = subst (λ n. IsOurs st n ⊎ (st.begun ≡ None)) same (by_way c.way refl)
  where
    whole : Open
    whole = record { way = c.way; items = commits.items }

    there : There st c.xid (Some whole)
    there = subst (There st c.xid) commits.present (agreed c.xid)

    by_way : (w : Way) → c.way ≡ w → IsOurs st c.xid ⊎ (st.begun ≡ None)
    by_way Direct e = inl (inr (mine st c.xid whole e there))
    by_way Worker e = inl (inl (goes st c.xid whole e there))
    by_way Spooled e =
        inr (none_own s st agreed (λ own o is way.
        ⊎_elim
        (λ (both : c.xid ≡ own.xid).
        let found : Some whole ≡ Some o = sym commits.present ∙ ap (finite.get s.transactions) both ∙ is in
        let one : whole ≡ o = cc in
        let other_way : Spooled ≡ Direct = sym e ∙ ap (λ (p : Open). p.way) one ∙ way in absurd cc)
        (λ ne.
        let other = alone own.xid o (ap (λ m. finite.get m own.xid) commits.transactions ∙ get-left s.transactions c.xid own.xid ne ∙ is) way in
        let other_way : None ≡ Some own.xid = sym (ap begun_at commits.outside) ∙ other in absurd cc)
        (cases_eq c.xid own.xid)))

-- what is dropped goes by a worker
pub abort_goes : (g : Setting) (s t : State) (told : StreamEvent) (x : ℕ) (st : Standing) → AreAssigned s.transactions st → Tells s t told → IsWithin g told → Says told (steps.Abort x) → items_by x st.workers ≢ []
abort_goes g s t told x st agreed tells within says =
    let drops = subst (Tells s t) (told_by g told (steps.Abort x) within says) tells in goes st x drops.0 drops.1 (subst (There st x) drops.2.present (agreed x))
