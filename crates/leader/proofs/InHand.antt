-- From what a leader's open transactions show as a run ends to what is in hand.
use Rattle.std.proofs.Common.{◌≡◌, ◌≢◌, ℕ, ◌-◌, ◌^◌, ◌<◌, Bool, true, false, List, [], ◌∷◌, ◌++◌, length, Option, Some, None, refl, sym, ap, subst, ◌∙◌, inl, inr, arith, append-nil, eq-eqb}
use Rattle.std.specs.Prelude.{◌⊎◌, map, All, IfSome, MatchOption, Contains, option_map, if◌then◌else◌, slice_index_or}
use Rattle.std.specs.Cmp.{unsigned_tied}
use Rattle.std.specs.FinMap.{get, nat_cmp-IsAntisymmetric}
use Rattle.std.proofs.lemmas.Bool.{false≢true}
use Rattle.std.proofs.lemmas.Map.Views.{tells_apart}
use Rattle.std.proofs.lemmas.Grind.{flat_map-append}
use Rattle.std.proofs.lemmas.List.Elements.{All-contains, All-contains_itself, All-cons, All-map, Contains-append_left, Contains-append_right, Contains-append_cases, Contains-push, Contains-push_cases}
use Rattle.model.specs.declared.item.Item.{Item}
use Rattle.world.specs.World.{Opened, is_xid}
use Rattle.engine.specs.Events.{commits_in, is_open_in}
use Rattle.frames.specs.declared.item.CopyItem.{CopyItem}
use Rattle.session.specs.Sized.{item_of}
use Rattle.session.specs.State.{Way, Worker, Spooled, Open, State, Setting}
use Rattle.run_laws.specs.Threads.{IsWork, done_by_commit}
use Rattle.parted_store.specs.Lent.{OpenTicket}
use Rattle.dispatch.proofs.Among.{none_among, among_cases, among_map}
use Rattle.dispatch.specs.Handle.{Given, HandleModel, IsDoing, IsHome, IsCounted, AreCounted}
use Rattle.dispatch.specs.Standing.{Own, Standing, own_by, goes_by, items_of, items_by, own_of, in_worker, holds_in, KeepsGiven}
use Rattle.leader.specs.Threads.{KeepsToWork, IsOpenAtEnd, AreOpenAtEnd}
use Rattle.leader.specs.Ending.{Hand, AreInHand, AreGiven}

none_is : {X : Type 0} (x : X) → None ≡ Some x → ⊥
none_is x e = cc

-- ---- one transaction

module _ (g : Setting) (s : State) (rest : List CopyItem) (xid : ℕ) where
  -- it is open in the state where something of it is there
  by_worker : (found : Option Open) (list : List (List Item)) (own : Option Opened) (b : Bool) → IsOpenAtEnd g s rest xid found list own b
      → (items : List Item) → Contains list items → (o : Open) × (found ≡ Some o) × (o.way ≡ Worker) × (items ≡ map item_of o.items)
  by_worker (Some o) (first ∷ []) None true is items among =
      (o, refl, is.0, elim (Contains-push_cases [] first items among) [ inl earlier ↦ absurd (nowhere items earlier) | inr here ↦ sym here ∙ is.1 ])
    where
      nowhere : (items : List Item) → Contains [] items → ⊥
      nowhere items there = omega (arith, there.1)
  by_worker None [] None false is items among = let no : ⊥ = omega (arith, among.1) in absurd no
  by_worker (Some o) [] (Some done) true is items among = let no : ⊥ = omega (arith, among.1) in absurd no
  by_worker (Some o) [] None false is items among = let no : ⊥ = omega (arith, among.1) in absurd no
  by_worker _ _ _ _ is items among = absurd is

  by_own : (found : Option Open) (list : List (List Item)) (own : Option Opened) (b : Bool) → IsOpenAtEnd g s rest xid found list own b
      → (done : Opened) → own ≡ Some done
      → (o : Open) × (found ≡ Some o) × KeepsToWork g s rest xid o done
  by_own (Some o) [] (Some mine) true is done e =
      (o, refl, subst (KeepsToWork g s rest xid o) (same_opened mine done e) is.1)
    where
      same_opened : (a c : Opened) → Some a ≡ Some c → a ≡ c
      same_opened a c is = cc
  by_own None [] None false is done e = absurd (none_is done e)
  by_own (Some o) (first ∷ []) None true is done e = absurd (none_is done e)
  by_own (Some o) [] None false is done e = absurd (none_is done e)
  by_own _ _ _ _ is done e = absurd is

  -- what is open by the line goes by a worker, or is the leader's own
  by_line : (found : Option Open) (list : List (List Item)) (own : Option Opened) (b : Bool) → IsOpenAtEnd g s rest xid found list own b
      → b ≡ true → ((items : List Item) × Contains list items) ⊎ ((done : Opened) × (own ≡ Some done))
  by_line (Some o) (first ∷ []) None true is e = inl (first, Contains-push [] first)
  by_line (Some o) [] (Some done) true is e = inr (done, refl)
  by_line None [] None false is e = absurd (false≢true e)
  by_line (Some o) [] None false is e = absurd (false≢true e)
  by_line _ _ _ _ is e = absurd is

  -- and so is each that isn't spooled
  by_state : (found : Option Open) (list : List (List Item)) (own : Option Opened) (b : Bool) → IsOpenAtEnd g s rest xid found list own b
      → (o : Open) → found ≡ Some o → o.way ≢ Spooled → b ≡ true
  by_state (Some p) (first ∷ []) None true is o e not = refl
  by_state (Some p) [] (Some done) true is o e not = refl
  by_state None [] None false is o e not = absurd (none_is o e)
  by_state (Some p) [] None false is o e not = absurd (not (sym (ap (λ (q : Open). q.way) (same p o e)) ∙ is))
    where
      same : (a c : Open) → Some a ≡ Some c → a ≡ c
      same a c is = cc
  by_state _ _ _ _ is o e not = absurd is

-- ---- among workers

map_among : {X Y : Type 0} (f : X → Y) (xs : List X) (z : Y) → Contains (map f xs) z → (x : X) × Contains xs x × (f x ≡ z)
map_among f [] z is = absurd (none_among z is)
map_among f (y ∷ xs) z is = elim (among_cases (f y) (map f xs) z is) [
  | inl here ↦ (y, Contains-append_left (y ∷ []) xs y (Contains-push [] y), here)
  | inr later ↦ let there = map_among f xs z later in (there.0, Contains-append_right (y ∷ []) xs there.0 there.1, there.2)
]

module _ (xid : ℕ) where
  items_first : (slot : Option Given) (slots : List (Option Given)) → items_by xid (slot ∷ slots) ≡ items_of xid slot ++ items_by xid slots
  items_first slot slots =
      flat_map-append (items_of xid) (slot ∷ []) slots ∙ ap (λ is. is ++ items_by xid slots) (append-nil (items_of xid slot))

  -- the items of a worker's transaction are among those of it
  items_here : (slots : List (Option Given)) (slot : Option Given) → Contains slots slot → (items : List Item) → Contains (items_of xid slot) items
      → Contains (items_by xid slots) items
  items_here [] slot among items is = absurd (none_among slot among)
  items_here (first ∷ slots) slot among items is =
      subst (λ is. Contains is items) (sym (items_first first slots))
      (elim (among_cases first slots slot among) [
        | inl here ↦ Contains-append_left (items_of xid first) (items_by xid slots) items (subst (λ o. Contains (items_of xid o) items) (sym here) is)
        | inr later ↦ Contains-append_right (items_of xid first) (items_by xid slots) items (items_here slots slot later items is)
      ])

  in_slot : (slot : Option Given) (items : List Item) → Contains (items_of xid slot) items → (given : Given) × (slot ≡ Some given) × (given.xid ≡ xid)
  in_slot None items is = absurd (none_among items is)
  in_slot (Some given) items is =
      elim (is_xid xid given.xid) as (λ b. is_xid xid given.xid ≡ b → Contains (if b then given.items ∷ [] else []) items
      → (other : Given) × (Some given ≡ Some other) × (other.xid ≡ xid)) [
        | true ↦ λ same there. (given, refl, sym (tells_apart nat_cmp-IsAntisymmetric xid given.xid same))
        | false ↦ λ same there. absurd (none_among items there)
      ] refl is

  -- and they are those of a worker
  worker_here : (slots : List (Option Given)) (items : List Item) → Contains (items_by xid slots) items
      → (given : Given) × Contains slots (Some given) × (given.xid ≡ xid)
  worker_here [] items is = absurd (none_among items is)
  worker_here (first ∷ slots) items is =
      elim (Contains-append_cases (items_of xid first) (items_by xid slots) items (subst (λ is. Contains is items) (items_first first slots) is)) [
        | inl here ↦
            let at = in_slot first items here in
            (at.0, subst (λ o. Contains (first ∷ slots) o) at.1 (Contains-append_left (first ∷ []) slots first (Contains-push [] first)), at.2)
        | inr later ↦
            let there = worker_here slots items later in
            (there.0, Contains-append_right (first ∷ []) slots (Some there.0) there.1, there.2)
      ]

is_itself : (xid : ℕ) → is_xid xid xid ≡ true
is_itself xid = unsigned_tied xid xid ∙ eq-eqb xid xid refl

-- ---- all that is in hand

module _ (g : Setting) (s : State) (rest : List CopyItem) (t : Standing) (begun : Option (OpenTicket)) (workers : List HandleModel) (held : AreOpenAtEnd g s rest t)
    (commits : commits_in t.line ≡ map done_by_commit s.past) (begun_is : option_map own_by begun ≡ t.begun) (workers_are : map goes_by workers ≡ t.workers)
    (home : All IsHome workers) (keeps : All KeepsGiven workers) where
  abbrev hand : Hand
  hand = option_map own_by begun ∷ map holds_in workers

  abbrev IsKept : Own → Type 0
  IsKept h = (o : Open) × (get s.transactions h.xid ≡ Some o) × KeepsToWork g s rest h.xid o h.done

  -- of a worker
  worker_kept : (goes : Option Given) (back : Option Opened) → Contains t.workers goes
      → MatchOption goes (Unit {0}) (λ given. MatchOption back (Unit {0}) (λ done. IsDoing done given.items)) → IfSome (in_worker goes back) IsKept
  worker_kept None back among keeps = tt
  worker_kept (Some given) None among keeps = tt
  worker_kept (Some given) (Some done) among keeps =
      let mine : Contains (items_of given.xid (Some given)) given.items =
      subst (λ (b : Bool). Contains (if b then given.items ∷ [] else []) given.items) (sym (is_itself given.xid)) (Contains-push [] given.items) in
      let is = by_worker g s rest given.xid (get s.transactions given.xid) (items_by given.xid t.workers) (own_of given.xid t.begun) (is_open_in t.line given.xid) (held given.xid)
      given.items (items_here given.xid t.workers (Some given) among given.items mine) in (
        is.0,
        is.1,
        record {
          work = given.items;
          is_work = subst (λ (way : Way). IsWork g s rest given.xid way is.0.items given.items) (sym is.2) is.3;
          doing = keeps;
        },
      )

  -- of the leader's own
  own_kept : (ticket : Option (OpenTicket)) → option_map own_by ticket ≡ t.begun → IfSome (option_map own_by ticket) IsKept
  own_kept None is = tt
  own_kept (Some ticket) is =
      let mine : own_of ticket.number t.begun ≡ Some (own_by ticket).done =
      ap (own_of ticket.number) (sym is) ∙ ap (λ (b : Bool). if b then Some (own_by ticket).done else None) (is_itself ticket.number) in
      let o = by_own g s rest ticket.number (get s.transactions ticket.number) (items_by ticket.number t.workers) (own_of ticket.number t.begun) (is_open_in t.line ticket.number)
      (held ticket.number) (own_by ticket).done mine in
      (o.0, o.1, o.2)

  workers_kept : All (λ slot. IfSome slot IsKept) (map holds_in workers)
  workers_kept = All-map (λ slot. IfSome slot IsKept) holds_in workers (λ k d short.
      let l = slice_index_or workers k d in
      worker_kept l.goes l.back
      (subst (λ gs. Contains gs l.goes) workers_are (among_map goes_by workers l (All-contains_itself workers k d short)))
      (keeps k d short))

  home_has : (goes : Option Given) (back : Option Opened) (given : Given) → goes ≡ Some given
      → MatchOption goes (Unit {0}) (λ given. (done : Opened) × (back ≡ Some done)) → (done : Opened) × (in_worker goes back ≡ Some (record { xid = given.xid; done = done }))
  home_has None back given e is = absurd (none_is given e)
  home_has (Some other) back given e is =
      (is.0, ap (in_worker (Some other)) is.1 ∙ ap (λ (o : Given). Some (record { xid = o.xid; done = is.0 })) (same other given e))
    where
      same : (a b : Given) → Some a ≡ Some b → a ≡ b
      same a b is = cc

  in_some_worker : (xid : ℕ) (items : List Item) → Contains (items_by xid t.workers) items → (h : Own) × Contains hand (Some h) × (h.xid ≡ xid)
  in_some_worker xid items among =
      let there = worker_here xid t.workers items among in
      let worker = map_among goes_by workers (Some there.0) (subst (λ gs. Contains gs (Some there.0)) (sym workers_are) there.1) in
      let has = home_has worker.0.goes worker.0.back there.0 worker.2 (All-contains IsHome workers worker.0 home worker.1) in (
        record { xid = there.0.xid; done = has.0 },
        Contains-append_right (option_map own_by begun ∷ []) (map holds_in workers) (Some (record { xid = there.0.xid; done = has.0 }))
            (subst (Contains (map holds_in workers)) has.1 (among_map holds_in workers worker.0 worker.1)),
        there.2,
      )

  in_own : (xid : ℕ) (ticket : Option (OpenTicket)) → option_map own_by ticket ≡ t.begun → (done : Opened) → own_of xid t.begun ≡ Some done
      → (h : Own) × (option_map own_by ticket ≡ Some h) × (h.xid ≡ xid)
  in_own xid None is done e = absurd (none_is done (ap (own_of xid) is ∙ e))
  in_own xid (Some ticket) is done e = (
    own_by ticket,
    refl,
    elim (is_xid xid ticket.number) as (λ b. is_xid xid ticket.number ≡ b → (if b then Some (own_by ticket).done else None) ≡ Some done → ticket.number ≡ xid) [
      | true ↦ λ same there. sym (tells_apart nat_cmp-IsAntisymmetric xid ticket.number same)
      | false ↦ λ same there. absurd (none_is done there)
    ] refl (ap (own_of xid) is ∙ e),
  )

  pub in_hand : AreInHand g s rest t.line hand
  in_hand = record {
    commits = commits;
    held = All-cons (λ slot. IfSome slot IsKept) (option_map own_by begun) (map holds_in workers) (own_kept begun begun_is) workers_kept;
    all = λ xid is_open.
        elim (by_line g s rest xid (get s.transactions xid) (items_by xid t.workers) (own_of xid t.begun) (is_open_in t.line xid) (held xid) is_open) [
          | inl worker ↦ in_some_worker xid worker.0 worker.1
          | inr own ↦
              let is = in_own xid begun begun_is own.0 own.1 in (
                is.0,
                subst (Contains hand) is.1 (Contains-append_left (option_map own_by begun ∷ []) (map holds_in workers) (option_map own_by begun) (Contains-push [] (option_map own_by begun))),
                is.2,
              )
        ];
    streamed = λ xid o at not.
        by_state g s rest xid (get s.transactions xid) (items_by xid t.workers) (own_of xid t.begun) (is_open_in t.line xid) (held xid) o at not;
  }

-- ---- how many items were given

module _ (g : Setting) (s : State) (rest : List CopyItem) (t : Standing) (held : AreOpenAtEnd g s rest t) where
  -- to the transaction of a worker, by what the worker counts
  pub worker_given : (xid count : ℕ) (o : Open) (goes : Option Given) → Contains t.workers goes → IsCounted goes (xid, count) → count < 2 ^ 64 - 1
      → get s.transactions xid ≡ Some o → (work : List Item) → IsWork g s rest xid o.way o.items work → count ≡ length work
  worker_given xid count o goes among counted short at work is_work =
      let is = counted short in
      let mine : Contains (items_of xid goes) is.0.items =
      subst (λ (slot : Option Given). Contains (items_of xid slot) is.0.items) (sym is.1)
      (subst (λ (n : ℕ). Contains (items_of n (Some is.0)) is.0.items) is.2
      (subst (λ (b : Bool). Contains (if b then is.0.items ∷ [] else []) is.0.items) (sym (is_itself is.0.xid)) (Contains-push [] is.0.items))) in
      let there = by_worker g s rest xid (get s.transactions xid) (items_by xid t.workers) (own_of xid t.begun) (is_open_in t.line xid) (held xid)
      is.0.items (items_here xid t.workers goes among is.0.items mine) in
      let same : there.0 ≡ o = same_open there.0 o (sym there.1 ∙ at) in
      let way : o.way ≡ Worker = ap (λ (p : Open). p.way) (sym same) ∙ there.2 in
      let all : work ≡ map item_of o.items = subst (λ (w : Way). IsWork g s rest xid w o.items work) way is_work in
      is.3 ∙ ap length (there.3 ∙ ap (λ (p : Open). map item_of p.items) same ∙ sym all)
    where
      same_open : (p o : Open) → Some p ≡ Some o → p ≡ o
      same_open p o e = cc

  -- to each
  pub are_given : (given : List (ℕ × ℕ)) → AreCounted t.workers given → AreGiven g s rest given
  are_given given counted xid count o among short at work is_work =
      let one = All-contains (λ (named : ℕ × ℕ). (goes : Option Given) × Contains t.workers goes × IsCounted goes named) given (xid, count) counted among in
      worker_given xid count o one.0 one.1 one.2 short at work is_work
