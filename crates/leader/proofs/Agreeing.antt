-- What is there of each transaction, where one of them goes a step.
use Rattle.std.proofs.Common.{◌≡◌, ℕ, ◌+◌, Bool, true, false, List, [], ◌∷◌, ◌++◌, length, Option, Some, None, refl, sym, ap, subst, ◌∙◌, append-nil, arith, cond, inl, inr, length-append}
use Rattle.std.specs.Prelude.{map, All}
use Rattle.std.specs.Ordering.{nat_cmp}
use Rattle.std.specs.FinMap as finite
use Rattle.std.proofs.lemmas.Bool.{cases_eq}
use Rattle.std.proofs.lemmas.Grind.{flat_map-append, fold-append}
use Rattle.std.proofs.lemmas.List.Elements.{All-head, All-tail}
use Rattle.model.specs.declared.item.Item.{Item}
use Rattle.model.specs.declared.item.CommitInfo.{CommitInfo}
use Rattle.world.specs.World.{Opened}
use Rattle.engine.specs.declared.events.LineEvent.{LineEvent}
use Rattle.engine.specs.declared.events.LineEvent.TheVariants.{Opened as WasOpened, Committed as WasCommitted, Aborted as WasAborted}
use Rattle.engine.specs.Events.{open_after, is_open_in}
use Rattle.session.specs.Sized.{item_of}
use Rattle.session.specs.State.{Direct, Worker, Spooled, Open, OpenTransactions}
use Rattle.dispatch.specs.Handle.{Given}
use Rattle.dispatch.proofs.Numbers.{same_self, same_apart}
use Rattle.dispatch.specs.Standing.{Standing, items_of, items_by, own_of, Replaces}
use Rattle.leader.specs.Threads.{IsAssigned, AreAssigned}

-- ---- the workers

-- what a transaction has by all workers: by those before the one that turned, by that, and by those behind it
pub record Parted (xid : ℕ) (old new : List (Option Given)) (was is : Option Given) : Type 0 where
  pub front : List (List Item)
  pub back : List (List Item)
  pub old_is : items_by xid old ≡ front ++ (items_of xid was ++ back)
  pub new_is : items_by xid new ≡ front ++ (items_of xid is ++ back)

pub parted : (xid : ℕ) (old new : List (Option Given)) (was is : Option Given) → Replaces old new was is → Parted xid old new was is
parted xid old new was is t = record {
  front = items_by xid t.before;
  back = items_by xid t.behind;
  old_is = ap (items_by xid) t.old_is ∙ flat_map-append (items_of xid) t.before (was ∷ t.behind);
  new_is = ap (items_by xid) t.new_is ∙ flat_map-append (items_of xid) t.before (is ∷ t.behind);
}

-- a worker that turns into one with the same of a transaction
pub same_turned : (xid : ℕ) (old new : List (Option Given)) (was is : Option Given) → Replaces old new was is → items_of xid was ≡ items_of xid is → items_by xid new ≡ items_by xid old
same_turned xid old new was is t e =
    let p = parted xid old new was is t in
    p.new_is ∙ ap (λ (mid : List (List Item)). p.front ++ (mid ++ p.back)) (sym e) ∙ sym p.old_is

empty_by_length : {X : Type 0} (xs : List X) → length xs ≡ 0 → xs ≡ []
empty_by_length [] e = refl
empty_by_length (x ∷ xs) e = absurd (omega (arith, e))

-- where the worker that turned has all that there is of the transaction
alone : {X : Type 0} (front mid back : List X) → front ++ (mid ++ back) ≡ mid → (front ≡ []) × (back ≡ [])
alone front mid back e =
    let counts : length front + (length mid + length back) ≡ length mid =
    ap (λ n. length front + n) (sym (length-append mid back)) ∙ sym (length-append front (mid ++ back)) ∙ ap length e
    in
    (empty_by_length front (omega (arith, counts)), empty_by_length back (omega (arith, counts)))

pub all_turned : (xid : ℕ) (old new : List (Option Given)) (was is : Option Given) → Replaces old new was is → items_by xid old ≡ items_of xid was → items_by xid new ≡ items_of xid is
all_turned xid old new was is t e =
    let p = parted xid old new was is t in
    let none = alone p.front (items_of xid was) p.back (sym p.old_is ∙ e) in
    p.new_is ∙ ap (λ (f : List (List Item)). f ++ (items_of xid is ++ p.back)) none.0 ∙ ap (λ (b : List (List Item)). items_of xid is ++ b) none.1 ∙ append-nil (items_of xid is)

-- a worker by which a transaction goes shows just its items
pub items_here : (xid : ℕ) (items : List Item) → items_of xid (Some (record { xid = xid; items = items })) ≡ items ∷ []
items_here xid items = ap (λ b. cond b (items ∷ []) []) (same_self xid)

pub items_elsewhere : (xid q : ℕ) (items : List Item) → (xid ≡ q → ⊥) → items_of q (Some (record { xid = xid; items = items })) ≡ []
items_elsewhere xid q items ne = ap (λ b. cond b (items ∷ []) []) (same_apart xid q ne)

pub own_here : (xid : ℕ) (done : Opened) → own_of xid (Some (record { xid = xid; done = done })) ≡ Some done
own_here xid done = ap (λ b. cond b (Some done) None) (same_self xid)

pub own_elsewhere : (xid q : ℕ) (done : Opened) → (xid ≡ q → ⊥) → own_of q (Some (record { xid = xid; done = done })) ≡ None
own_elsewhere xid q done ne = ap (λ b. cond b (Some done) None) (same_apart xid q ne)

-- one of a list that is just one
one_of : {X : Type 0} (front back : List X) (x y : X) → front ++ ((x ∷ []) ++ back) ≡ y ∷ [] → x ≡ y
one_of [] back x y e = cc
one_of (f ∷ front) back x y e =
    let counts : length front + (1 + length back) ≡ 0 =
    ap (λ n. length front + n) (sym (length-append (x ∷ []) back)) ∙ sym (length-append front ((x ∷ []) ++ back)) ∙ omega (arith, ap length e)
    in
    absurd (omega (arith, counts))

-- where a transaction goes by a worker and by one alone, it has these items
pub had_is : (xid : ℕ) (old new : List (Option Given)) (had items : List Item) (is : Option Given) → Replaces old new (Some (record { xid = xid; items = had })) is → items_by xid old ≡ items ∷ [] → had ≡ items
had_is xid old new had items is t e =
    let p = parted xid old new (Some (record { xid = xid; items = had })) is t in
    one_of p.front p.back had items (ap (λ (m : List (List Item)). p.front ++ (m ++ p.back)) (sym (items_here xid had)) ∙ sym p.old_is ∙ e)

-- it goes by some worker
pub not_nowhere : (xid : ℕ) (old new : List (Option Given)) (had : List Item) (is : Option Given) → Replaces old new (Some (record { xid = xid; items = had })) is → items_by xid old ≡ [] → ⊥
not_nowhere xid old new had is t e =
    let p = parted xid old new (Some (record { xid = xid; items = had })) is t in
    let none : p.front ++ ((had ∷ []) ++ p.back) ≡ [] = ap (λ (m : List (List Item)). p.front ++ (m ++ p.back)) (sym (items_here xid had)) ∙ sym p.old_is ∙ e in
    let counts : length p.front + (1 + length p.back) ≡ 0 =
    ap (λ n. length p.front + n) (sym (length-append (had ∷ []) p.back)) ∙ sym (length-append p.front ((had ∷ []) ++ p.back)) ∙ ap length none
    in
    omega (arith, counts)

-- ---- the line

pub opens_more : (line : List LineEvent) (e : LineEvent) (xid : ℕ) → is_open_in (line ++ e ∷ []) xid ≡ open_after xid (is_open_in line xid) e
opens_more line e xid = fold-append (open_after xid) false line (e ∷ [])

pub opened_here : (line : List LineEvent) (xid : ℕ) → is_open_in (line ++ WasOpened xid ∷ []) xid ≡ true
opened_here line xid = opens_more line (WasOpened xid) xid ∙ ap (λ b. cond b true (is_open_in line xid)) (same_self xid)

pub opened_elsewhere : (line : List LineEvent) (xid q : ℕ) → (xid ≡ q → ⊥) → is_open_in (line ++ WasOpened xid ∷ []) q ≡ is_open_in line q
opened_elsewhere line xid q ne = opens_more line (WasOpened xid) q ∙ ap (λ b. cond b true (is_open_in line q)) (same_apart xid q ne)

pub committed_here : (line : List LineEvent) (xid : ℕ) (items : List Item) (info : CommitInfo) → is_open_in (line ++ WasCommitted xid items info ∷ []) xid ≡ false
committed_here line xid items info = opens_more line (WasCommitted xid items info) xid ∙ ap (λ b. cond b false (is_open_in line xid)) (same_self xid)

pub committed_elsewhere : (line : List LineEvent) (xid q : ℕ) (items : List Item) (info : CommitInfo) → (xid ≡ q → ⊥) → is_open_in (line ++ WasCommitted xid items info ∷ []) q ≡ is_open_in line q
committed_elsewhere line xid q items info ne = opens_more line (WasCommitted xid items info) q ∙ ap (λ b. cond b false (is_open_in line q)) (same_apart xid q ne)

pub aborted_here : (line : List LineEvent) (xid : ℕ) → is_open_in (line ++ WasAborted xid ∷ []) xid ≡ false
aborted_here line xid = opens_more line (WasAborted xid) xid ∙ ap (λ b. cond b false (is_open_in line xid)) (same_self xid)

pub aborted_elsewhere : (line : List LineEvent) (xid q : ℕ) → (xid ≡ q → ⊥) → is_open_in (line ++ WasAborted xid ∷ []) q ≡ is_open_in line q
aborted_elsewhere line xid q ne = opens_more line (WasAborted xid) q ∙ ap (λ b. cond b false (is_open_in line q)) (same_apart xid q ne)

-- ---- what is there of one transaction

-- the same of it
pub carried : (a b : Option Open) (i j : List (List Item)) (m n : Option Opened) (x y : Bool) → a ≡ b → i ≡ j → m ≡ n → x ≡ y → IsAssigned a i m x → IsAssigned b j n y
carried a b i j m n x y e1 e2 e3 e4 h =
    subst (λ z. IsAssigned b j n z) e4 (subst (λ z. IsAssigned b j z x) e3 (subst (λ z. IsAssigned b z m x) e2 (subst (λ z. IsAssigned z i m x) e1 h)))

-- of one that isn't open there is nothing
pub none_there : (i : List (List Item)) (m : Option Opened) (b : Bool) → IsAssigned None i m b → (i ≡ []) × (m ≡ None) × (b ≡ false)
none_there [] None false h = (refl, refl, refl)
none_there [] None true h = absurd h
none_there [] (Some d) false h = absurd h
none_there [] (Some d) true h = absurd h
none_there (x ∷ i) None false h = absurd h
none_there (x ∷ i) None true h = absurd h
none_there (x ∷ i) (Some d) false h = absurd h
none_there (x ∷ i) (Some d) true h = absurd h

worker≢direct : Worker ≡ Direct → ⊥
worker≢direct e = absurd cc

worker≢spooled : Worker ≡ Spooled → ⊥
worker≢spooled e = absurd cc

direct≢spooled : Direct ≡ Spooled → ⊥
direct≢spooled e = absurd cc

-- one with a worker goes by one worker
pub by_worker : (o : Open) (i : List (List Item)) (m : Option Opened) (b : Bool) → o.way ≡ Worker → IsAssigned (Some o) i m b → (i ≡ map item_of o.items ∷ []) × (m ≡ None) × (b ≡ true)
by_worker o [] None false w h = absurd (worker≢spooled (sym w ∙ h))
by_worker o [] (Some d) true w h = absurd (worker≢direct (sym w ∙ h.0))
by_worker o (x ∷ []) None true w h = (ap (λ (y : List Item). y ∷ []) h.1, refl, refl)
by_worker o i m b w h = absurd h

-- one that goes directly is the leader's own
pub by_leader : (o : Open) (i : List (List Item)) (m : Option Opened) (b : Bool) → o.way ≡ Direct → IsAssigned (Some o) i m b → (i ≡ []) × (m ≡ Some (record { items = map item_of o.items; wants = None })) × (b ≡ true)
by_leader o [] None false w h = absurd (direct≢spooled (sym w ∙ h))
by_leader o [] (Some d) true w h = (refl, ap (λ (x : Opened). Some x) h.1, refl)
by_leader o (x ∷ []) None true w h = absurd (worker≢direct (sym h.0 ∙ w))
by_leader o i m b w h = absurd h

-- of a spooled one there is nothing
pub by_none : (o : Open) (i : List (List Item)) (m : Option Opened) (b : Bool) → o.way ≡ Spooled → IsAssigned (Some o) i m b → (i ≡ []) × (m ≡ None) × (b ≡ false)
by_none o [] None false w h = (refl, refl, refl)
by_none o [] (Some d) true w h = absurd (direct≢spooled (sym h.0 ∙ w))
by_none o (x ∷ []) None true w h = absurd (worker≢spooled (sym h.0 ∙ w))
by_none o i m b w h = absurd h

-- an open one of which there is nothing is spooled
pub nothing_there : (o : Open) (i : List (List Item)) (m : Option Opened) (b : Bool) → i ≡ [] → m ≡ None → IsAssigned (Some o) i m b → (o.way ≡ Spooled) × (b ≡ false)
nothing_there o [] None false e1 e2 h = (h, refl)
nothing_there o [] None true e1 e2 h = absurd h
nothing_there o [] (Some d) b e1 e2 h = absurd cc
nothing_there o (x ∷ i) m b e1 e2 h = absurd cc

-- ---- a step

-- so it is of all, where the map of the open ones and the standing are the same but for one transaction
pub agreed_but : (xid : ℕ) (s t : OpenTransactions) (old new : Standing) → AreAssigned s old
    → IsAssigned (finite.get t xid) (items_by xid new.workers) (own_of xid new.begun) (is_open_in new.line xid)
    → ((q : ℕ) → (xid ≡ q → ⊥) → (finite.get t q ≡ finite.get s q) × (items_by q new.workers ≡ items_by q old.workers) × (own_of q new.begun ≡ own_of q old.begun) × (is_open_in new.line q ≡ is_open_in old.line q))
    → AreAssigned t new
agreed_but xid s t old new agreed here elsewhere q =
    elim (cases_eq xid q) [
      | inl e ↦ subst (λ x. IsAssigned (finite.get t x) (items_by x new.workers) (own_of x new.begun) (is_open_in new.line x)) e here
      | inr ne ↦
          let same = elsewhere q ne in
          carried (finite.get s q) (finite.get t q) (items_by q old.workers) (items_by q new.workers) (own_of q old.begun) (own_of q new.begun) (is_open_in old.line q) (is_open_in new.line q)
          (sym same.0) (sym same.1) (sym same.2) (sym same.3) (agreed q)
    ]

-- only what the state has of one changed, and nothing is there of it
pub agreed_beside : (xid : ℕ) (s t : OpenTransactions) (st : Standing) → AreAssigned s st → (items_by xid st.workers ≡ []) × (own_of xid st.begun ≡ None) × (is_open_in st.line xid ≡ false)
    → IsAssigned (finite.get t xid) [] None false → ((q : ℕ) → (xid ≡ q → ⊥) → finite.get t q ≡ finite.get s q) → AreAssigned t st
agreed_beside xid s t st agreed none here elsewhere =
    agreed_but xid s t st st agreed
    (carried (finite.get t xid) (finite.get t xid) [] (items_by xid st.workers) None (own_of xid st.begun) false (is_open_in st.line xid) refl (sym none.0) (sym none.1) (sym none.2) here)
    (λ q ne. (elsewhere q ne, refl, refl, refl))

-- ---- the start

free_workers : (xid : ℕ) (workers : List (Option Given)) → All (λ goes. goes ≡ None) workers → items_by xid workers ≡ []
free_workers xid [] all = refl
free_workers xid (goes ∷ workers) all =
    let P : Option Given → Type 0 = λ g. g ≡ None in
    ap (λ (g : Option Given). items_of xid g ++ items_by xid workers) (All-head P goes workers all) ∙ free_workers xid workers (All-tail P goes workers all)

-- before the first item nothing is there of any transaction
pub start_agreed : (st : Standing) → st.line ≡ [] → All (λ goes. goes ≡ None) st.workers → st.begun ≡ None → AreAssigned finite.empty st
start_agreed st line workers begun xid =
    carried None (finite.get finite.empty xid) [] (items_by xid st.workers) None (own_of xid st.begun) false (is_open_in st.line xid)
    (sym (finite.get-empty nat_cmp xid)) (sym (free_workers xid st.workers workers)) (sym (ap (own_of xid) begun)) (sym (ap (λ l. is_open_in l xid) line)) tt
