-- What a worker shows, by its parts.
use Rattle.std.proofs.Common.{◌≡◌, ◌≢◌, ℕ, Bool, true, false, List, [], ◌∷◌, ◌++◌, Option, Some, None, refl, sym, ap, subst, ◌∙◌, append-nil, arith, cond, nat_eq, inl, inr, ◌+◌, ◌-◌, ◌^◌, length, length-append}
use Rattle.std.specs.Prelude.{MatchBool, MatchOption, All, fold, option_map, is_some, not, min, Result, Ok, Err, OnOk, OnErr}
use Rattle.atomic_table.specs.Seated.{TableId}
use Rattle.std.proofs.lemmas.Bool.{cases_eq, false≢true}
use Rattle.std.proofs.lemmas.Bool.Decides.{nat_tests}
use Rattle.std.proofs.lemmas.Grind.{flat_map-append, fold-append}
use Rattle.std.proofs.lemmas.List.{append_assoc}
use Rattle.std.proofs.lemmas.List.Elements.{All-head, All-tail}
use Rattle.model.specs.declared.change.Change as change_type
use Rattle.model.specs.declared.item.Item.{Item}
use Rattle.model.specs.declared.item.Item.TheVariants.{Change, Touch, BackTo, Last}
use Rattle.tokens.specs.Half.{Name, Half}
use Rattle.model.specs.Beginning.{Begins}
use Rattle.ring.specs.Ends.{Taking}
use Rattle.world.specs.World.{Opened}
use Rattle.engine.specs.Events.{opened_by}
use Rattle.parted_store.specs.Lent.{OpenTicket}
use Rattle.worker.specs.declared.outbox.OutboxEvent.{OutboxEvent}
use Rattle.worker.specs.declared.outbox.OutboxEvent.TheVariants.{Begun, Given as WasGiven}
use Rattle.worker.specs.Outbox.{given_after, given_since}
use Rattle.worker.specs.Working.{Working, IsTaken, IsInStep}
use Rattle.worker.specs.declared.outbox.Collected.{Collected}
use Rattle.worker.specs.declared.outbox.Collected.TheVariants.{All as WasAll}
use Rattle.dispatch.specs.Handle.{own_item, own_items, after_events, given_before, Given, HandleModel, going, handle_model, done_by, IsDoing, IsBack, IsHandle, IsIdle, IsHome, HasCount, IsCounted, AddsTo, ComesBack, IsTakenOut, HasAll}
use Rattle.dispatch.specs.Standing.{Own, Standing, own_by, items_of, in_worker, holds_in, KeepsGiven, IsOwn}
use Rattle.dispatch.proofs.Numbers.{same_apart}

-- ---- which transaction

pub going_xid : (xid : ℕ) (events : List OutboxEvent) (taker : Option (Taking Item)) (ticket : Option OpenTicket) (given : Given) → going xid events taker ticket ≡ Some given → given.xid ≡ xid
going_xid xid events None ticket given e = let x : Some (record { xid = xid; items = own_items (given_since events) }) ≡ Some given = e in cc
going_xid xid events (Some t) None given e = absurd cc
going_xid xid events (Some t) (Some k) given e = let x : Some (record { xid = xid; items = own_items (given_before events) }) ≡ Some given = e in cc

pub has_it : (x q : ℕ) (goes : Option Given) (given : Given) → goes ≡ Some given → given.xid ≡ x
    → MatchBool (nat_eq x q) ((g : Given) × (goes ≡ Some g) × (g.xid ≡ q)) (items_of q goes ≡ [])
has_it x q goes given is number =
    elim (cases_eq x q) [
      | inl e ↦
          let yes : nat_eq x q ≡ true = grind (arith, nat_tests) in
          subst (λ b. MatchBool b ((g : Given) × (goes ≡ Some g) × (g.xid ≡ q)) (items_of q goes ≡ [])) (sym yes) (given, is, number ∙ e)
      | inr ne ↦
          let differ : nat_eq x q ≡ false = grind (arith, nat_tests) in
          subst (λ b. MatchBool b ((g : Given) × (goes ≡ Some g) × (g.xid ≡ q)) (items_of q goes ≡ [])) (sym differ)
          (ap (items_of q) is ∙ ap (λ b. cond b (given.items ∷ []) []) (same_apart given.xid q (λ e. ne (sym number ∙ e))))
    ]

same_number : (a b : Own) → Some a ≡ Some b → a.xid ≡ b.xid
same_number a b e = let both : a ≡ b = cc in ap (λ (o : Own). o.xid) both

-- the leader's own is this one, or isn't
pub is_it : (t : Standing) (ticket : OpenTicket) (xid : ℕ) → t.begun ≡ Some (own_by ticket) → MatchBool (nat_eq ticket.number xid) (IsOwn t xid) (¬ IsOwn t xid)
is_it t ticket xid e =
    elim (cases_eq ticket.number xid) [
      | inl same ↦
          let yes : nat_eq ticket.number xid ≡ true = grind (arith, nat_tests) in
          subst (λ b. MatchBool b (IsOwn t xid) (¬ IsOwn t xid)) (sym yes)
          (record { done = done_by ticket; is = e ∙ ap (λ n. Some (record { xid = n; done = done_by ticket })) same })
      | inr ne ↦
          let differ : nat_eq ticket.number xid ≡ false = grind (arith, nat_tests) in
          subst (λ b. MatchBool b (IsOwn t xid) (¬ IsOwn t xid)) (sym differ)
          (λ own. ne (same_number (own_by ticket) (record { xid = xid; done = own.done }) (sym e ∙ own.is)))
    ]

-- ---- what was given

before_now : (a b : List Item) (events : List OutboxEvent) → (fold after_events (a, b) events).1 ≡ fold given_after b events
before_now a b [] = refl
before_now a b (Begun ∷ events) = before_now b [] events
before_now a b (WasGiven item ∷ events) = before_now a (b ++ item ∷ []) events

-- what was given to the last one is what was given before, once the next begins
pub before_begun : (events : List OutboxEvent) → given_before (events ++ Begun ∷ []) ≡ given_since events
before_begun events =
    ap (λ (p : List Item × List Item). p.0) (fold-append after_events ([], []) events (Begun ∷ [])) ∙ before_now [] [] events

pub since_begun : (events : List OutboxEvent) → given_since (events ++ Begun ∷ []) ≡ []
since_begun events = fold-append given_after [] events (Begun ∷ [])

pub since_given : (events : List OutboxEvent) (item : Item) → given_since (events ++ WasGiven item ∷ []) ≡ given_since events ++ item ∷ []
since_given events item = fold-append given_after [] events (WasGiven item ∷ [])

pub own-append : (xs ys : List Item) → own_items (xs ++ ys) ≡ own_items xs ++ own_items ys
own-append xs ys = flat_map-append own_item xs ys

pub own_more : (xs : List Item) (item : Item) → own_items (xs ++ item ∷ []) ≡ own_items xs ++ own_item item
own_more xs item = own-append xs (item ∷ []) ∙ ap (λ (r : List Item). own_items xs ++ r) (append-nil (own_item item))

-- an item of a transaction is its own
pub own_itself : (item : Item) → item ≢ Last → own_item item ≡ item ∷ []
own_itself (Change sub c) is = refl
own_itself (Touch sub) is = refl
own_itself (BackTo sub) is = refl
own_itself Last is = absurd (is refl)

pub own_all : (items : List Item) → All (λ item. item ≢ Last) items → own_items items ≡ items
own_all [] is = refl
own_all (item ∷ items) is =
    let P : Item → Type 0 = λ i. i ≢ Last in
    ap (λ (r : List Item). r ++ own_items items) (own_itself item (All-head P item items is)) ∙ ap (λ (r : List Item). item ∷ r) (own_all items (All-tail P item items is))

-- ---- what was done of it

-- a worker that came back has done a beginning of what was given
pub did_beginning : (done : Opened) (acked given : List Item) (taken : Option Item) → done.items ≡ acked → All (λ item. item ≢ Last) done.items → IsTaken done.wants taken
    → Begins acked given → MatchOption taken (Unit {0}) (λ item. Begins (acked ++ item ∷ []) given) → IsDoing done (own_items given)
did_beginning done acked given taken same own next begins following = by_wants done.wants refl
  where
    split : (front left : List Item) → given ≡ front ++ left → own_items given ≡ own_items front ++ own_items left
    split front left e = ap own_items e ∙ own-append front left

    mine : own_items acked ≡ done.items
    mine = ap own_items (sym same) ∙ own_all done.items own

    Wants : List Item → Option (ℕ × change_type.Change) → Type 0
    Wants left wants = MatchOption wants (Unit {0}) (λ w. (more : List Item) × (left ≡ Change w.0 w.1 ∷ more))

    by_wants : (wants : Option (ℕ × change_type.Change)) → done.wants ≡ wants → IsDoing done (own_items given)
    by_wants None e = record {
      left = own_items begins.0;
      begins = ap (λ (i : List Item). i ++ own_items begins.0) (sym mine) ∙ sym (split acked begins.0 begins.1);
      wants = subst (Wants (own_items begins.0)) (sym e) tt;
    }
    by_wants (Some w) e =
        let took : taken ≡ Some (Change w.0 w.1) = subst (λ x. IsTaken x taken) e next in
        let rest : Begins (acked ++ Change w.0 w.1 ∷ []) given = subst (λ x. MatchOption x (Unit {0}) (λ item. Begins (acked ++ item ∷ []) given)) took following in
        record {
          left = Change w.0 w.1 ∷ own_items rest.0;
          begins =
              ap (λ (i : List Item). i ++ Change w.0 w.1 ∷ own_items rest.0) (sym mine)
              ∙ sym (split acked (Change w.0 w.1 ∷ rest.0) (rest.1 ∙ append_assoc acked (Change w.0 w.1 ∷ []) rest.0));
          wants = subst (Wants (Change w.0 w.1 ∷ own_items rest.0)) (sym e) (own_items rest.0, refl);
        }

-- and all of it, where only the commit was left
pub did_all : (done : Opened) (acked given : List Item) → done.items ≡ acked → All (λ item. item ≢ Last) done.items → given ≡ acked ++ Last ∷ [] → done.items ≡ own_items given
did_all done acked given same own e =
    sym (own_all done.items own) ∙ ap own_items same ∙ sym (append-nil (own_items acked)) ∙ sym (own-append acked (Last ∷ [])) ∙ ap own_items (sym e)

-- ---- a worker, by its parts

module _ (n xid : ℕ) (events : List OutboxEvent) (taker : Option (Taking Item)) (ticket : Option OpenTicket) (collected : Collected) (now : HandleModel)
    (view : handle_model n xid events taker ticket collected ≡ now) where
  goes : going xid events taker ticket ≡ now.goes
  goes = ap (λ (l : HandleModel). l.goes) view

  back : option_map done_by ticket ≡ now.back
  back = ap (λ (l : HandleModel). l.back) view

  same_collected : collected ≡ now.collected
  same_collected = ap (λ (l : HandleModel). l.collected) view

  -- it is free where the end of the ring is here, and no ticket
  pub free_here : is_some taker ≡ true → (r : Bool) → is_some ticket ≡ not r → MatchBool r (IsIdle now) ((given : Given) × (now.goes ≡ Some given))
  free_here here r is = by_parts taker ticket refl refl here r is
    where
      by_parts : (a : Option (Taking Item)) (b : Option OpenTicket) → taker ≡ a → ticket ≡ b → is_some a ≡ true → (r : Bool) → is_some b ≡ not r → MatchBool r (IsIdle now) ((given : Given) × (now.goes ≡ Some given))
      by_parts None b ea eb here r is = absurd (false≢true here)
      by_parts (Some t) None ea eb here true is =
          (sym goes ∙ ap (λ x. going xid events x ticket) ea ∙ ap (going xid events (Some t)) eb, sym back ∙ ap (option_map done_by) eb)
      by_parts (Some t) None ea eb here false is = absurd (false≢true is)
      by_parts (Some t) (Some k) ea eb here true is = absurd (false≢true (sym is))
      by_parts (Some t) (Some k) ea eb here false is =
          (record { xid = xid; items = own_items (given_before events) }, sym goes ∙ ap (λ x. going xid events x ticket) ea ∙ ap (going xid events (Some t)) eb)

  -- a worker has its transaction where it isn't
  pub away_here : (r : Bool) → r ≡ is_some taker → r ≡ false → MatchBool r (IsIdle now) ((given : Given) × (now.goes ≡ Some given))
  away_here r is not_so = by_parts taker refl r is not_so
    where
      by_parts : (a : Option (Taking Item)) → taker ≡ a → (r : Bool) → r ≡ is_some a → r ≡ false → MatchBool r (IsIdle now) ((given : Given) × (now.goes ≡ Some given))
      by_parts a ea true is not_so = absurd (false≢true (sym not_so))
      by_parts None ea false is not_so = (record { xid = xid; items = own_items (given_since events) }, sym goes ∙ ap (λ x. going xid events x ticket) ea)
      by_parts (Some t) ea false is not_so = absurd (false≢true is)

  -- a worker has its transaction, or that came back, or none goes by it
  pub whose : (its_ring : TableId) (its_name : Name) (token : Half OutboxEvent) → IsHandle its_ring its_name xid token taker ticket collected
      → (r : Bool) → is_some taker ≡ not r → MatchBool r ((given : Given) × (now.goes ≡ Some given) × (now.back ≡ None)) (IsHome now)
  whose its_ring its_name token worker = by_parts taker ticket refl refl worker.end
    where
      by_parts : (a : Option (Taking Item)) (b : Option OpenTicket) → taker ≡ a → ticket ≡ b → MatchOption a (ticket ≡ None) (λ t. (t.ring ≡ its_ring) × (t.acked ≡ []) × (given_since token.list ≡ []))
          → (r : Bool) → is_some a ≡ not r → MatchBool r ((given : Given) × (now.goes ≡ Some given) × (now.back ≡ None)) (IsHome now)
      by_parts None b ea eb end true is =
          (record { xid = xid; items = own_items (given_since events) }, sym goes ∙ ap (λ x. going xid events x ticket) ea, sym back ∙ ap (option_map done_by) end)
      by_parts None b ea eb end false is = absurd (false≢true is)
      by_parts (Some t) b ea eb end true is = absurd (false≢true (sym is))
      by_parts (Some t) None ea eb end false is =
          let none : now.goes ≡ None = sym goes ∙ ap (λ x. going xid events x ticket) ea ∙ ap (going xid events (Some t)) eb in
          subst (λ g. MatchOption g (Unit {0}) (λ given. (done : Opened) × (now.back ≡ Some done))) (sym none) tt
      by_parts (Some t) (Some k) ea eb end false is =
          let some : now.goes ≡ Some (record { xid = xid; items = own_items (given_before events) }) = sym goes ∙ ap (λ x. going xid events x ticket) ea ∙ ap (going xid events (Some t)) eb in
          subst (λ g. MatchOption g (Unit {0}) (λ given. (done : Opened) × (now.back ≡ Some done))) (sym some) (done_by k, sym back ∙ ap (option_map done_by) eb)

  -- one that is away has no end of the ring here
  pub no_taker : (given : Given) → now.goes ≡ Some given → now.back ≡ None → taker ≡ None
  no_taker given gone none = by_parts taker ticket refl refl
    where
      by_parts : (a : Option (Taking Item)) (b : Option OpenTicket) → taker ≡ a → ticket ≡ b → taker ≡ None
      by_parts None b ea eb = ea
      by_parts (Some t) None ea eb =
          let e : None ≡ Some given = sym (ap (λ x. going xid events x ticket) ea ∙ ap (going xid events (Some t)) eb) ∙ goes ∙ gone in absurd cc
      by_parts (Some t) (Some k) ea eb =
          let e : Some (done_by k) ≡ None = sym (ap (option_map done_by) eb) ∙ back ∙ none in absurd cc

  -- a transaction goes by it to which nothing was given yet
  pub opened : (its_ring : TableId) (its_name : Name) (token : Half OutboxEvent) (new_xid : ℕ) (taken : Taking Item) (after : Option (Taking Item)) → token.list ≡ events
      → taker ≡ Some taken → after ≡ None → now.back ≡ None → IsHandle its_ring its_name xid token taker ticket collected
      → IsHandle its_ring its_name new_xid token after ticket collected × HasCount (going new_xid events after ticket) (new_xid, 0)
  opened its_ring its_name token new_xid taken after list here gone none is =
      let eb = no_ticket ticket back in
      let since : given_since token.list ≡ [] = (subst (λ a. MatchOption a (ticket ≡ None) (λ t. (t.ring ≡ its_ring) × (t.acked ≡ []) × (given_since token.list ≡ []))) here is.end).2 in
      subst (λ a. IsHandle its_ring its_name new_xid token a ticket collected × HasCount (going new_xid events a ticket) (new_xid, 0)) (sym gone) (
        record {
          name = is.name;
          end = eb;
          back = subst (λ b. MatchOption b (Unit {0}) (IsBack new_xid (own_items (given_before token.list)) collected)) (sym eb) tt;
        },
        (refl, sym (ap (λ given. min (length (own_items given)) (2 ^ 64 - 1)) (ap given_since (sym list) ∙ since))),
      )
    where
      no_ticket : (b : Option OpenTicket) → option_map done_by b ≡ now.back → b ≡ None
      no_ticket None e = refl
      no_ticket (Some k) e = let some : Some (done_by k) ≡ None = e ∙ none in absurd cc

  -- its ticket is taken out of it
  pub taken_out : (its_ring : TableId) (its_name : Name) (token : Half OutboxEvent) → token.list ≡ events → IsHandle its_ring its_name xid token taker ticket collected
      → (result after : Option OpenTicket) → result ≡ ticket → after ≡ None
      → MatchOption result ((now.back ≡ None) × (handle_model n xid events taker after collected ≡ now)) (λ k. IsTakenOut now k (handle_model n xid events taker after collected))
  taken_out its_ring its_name token list is None after e none =
      (sym back ∙ ap (option_map done_by) (sym e), ap (λ b. handle_model n xid events taker b collected) (none ∙ e) ∙ view)
  taken_out its_ring its_name token list is (Some k) after e none = by_taker taker refl is.end
    where
      its : IsBack xid (own_items (given_before token.list)) collected k
      its = subst (λ b. MatchOption b (Unit {0}) (IsBack xid (own_items (given_before token.list)) collected)) (sym e) is.back

      by_taker : (a : Option (Taking Item)) → taker ≡ a → MatchOption a (ticket ≡ None) (λ t. (t.ring ≡ its_ring) × (t.acked ≡ []) × (given_since token.list ≡ []))
          → IsTakenOut now k (handle_model n xid events taker after collected)
      by_taker None ea end = let none_here : Some k ≡ None = e ∙ end in absurd cc
      by_taker (Some t) ea end = record {
        given = record { xid = xid; items = own_items (given_before events) };
        was = sym goes ∙ ap (λ x. going xid events x ticket) ea ∙ ap (going xid events (Some t)) (sym e);
        back = sym back ∙ ap (option_map done_by) (sym e);
        number = its.number;
        doing = subst (λ l. IsDoing (done_by k) (own_items (given_before l))) list its.doing;
        is =
            ap (λ b. handle_model n xid events taker b collected) none ∙ ap (λ x. handle_model n xid events x None collected) ea
            ∙ (λ i. record { number = ap (λ (l : HandleModel). l.number) view i; goes = None; back = None; collected = same_collected i });
      }

  -- the transaction that it holds is that of its ticket, and has done a beginning of what was given to it
  pub held_in : (its_ring : TableId) (its_name : Name) (token : Half OutboxEvent) → token.list ≡ events → IsHandle its_ring its_name xid token taker ticket collected
      → (holds_in now ≡ option_map own_by ticket) × KeepsGiven now
  held_in its_ring its_name token list worker = by_parts taker ticket refl refl worker.end worker.back
    where
      Keeps : Option Given → Option Opened → Type 0
      Keeps its_goes its_back = MatchOption its_goes (Unit {0}) (λ given. MatchOption its_back (Unit {0}) (λ done. IsDoing done given.items))

      goes_is : (a : Option (Taking Item)) (b : Option OpenTicket) → taker ≡ a → ticket ≡ b → going xid events a b ≡ now.goes
      goes_is a b ea eb = ap (λ x. going xid events x b) (sym ea) ∙ ap (going xid events taker) (sym eb) ∙ goes

      back_is : (b : Option OpenTicket) → ticket ≡ b → option_map done_by b ≡ now.back
      back_is b eb = ap (option_map done_by) (sym eb) ∙ back

      both : (a : Option (Taking Item)) (b : Option OpenTicket) → taker ≡ a → ticket ≡ b → in_worker (going xid events a b) (option_map done_by b) ≡ option_map own_by b → Keeps (going xid events a b) (option_map done_by b)
          → (holds_in now ≡ option_map own_by ticket) × KeepsGiven now
      both a b ea eb holds keeps = (
        ap (λ g. in_worker g now.back) (sym (goes_is a b ea eb)) ∙ ap (in_worker (going xid events a b)) (sym (back_is b eb)) ∙ holds ∙ ap (option_map own_by) (sym eb),
        subst (λ g. Keeps g now.back) (goes_is a b ea eb) (subst (Keeps (going xid events a b)) (back_is b eb) keeps),
      )

      by_parts : (a : Option (Taking Item)) (b : Option OpenTicket) → taker ≡ a → ticket ≡ b → MatchOption a (ticket ≡ None) (λ t. (t.ring ≡ its_ring) × (t.acked ≡ []) × (given_since token.list ≡ []))
          → MatchOption b (Unit {0}) (IsBack xid (own_items (given_before token.list)) collected) → (holds_in now ≡ option_map own_by ticket) × KeepsGiven now
      by_parts None None ea eb end its = both None None ea eb refl tt
      by_parts None (Some k) ea eb end its = let none : Some k ≡ None = sym eb ∙ end in absurd cc
      by_parts (Some t) None ea eb end its = both (Some t) None ea eb refl tt
      by_parts (Some t) (Some k) ea eb end its =
          both (Some t) (Some k) ea eb (ap (λ n. Some (record { xid = n; done = done_by k })) (sym its.number)) (subst (λ l. IsDoing (done_by k) (own_items (given_before l))) list its.doing)

  -- an item was given to its transaction
  pub added : (item : Item) (given : Given) → now.goes ≡ Some given → now.back ≡ None → AddsTo now item (handle_model n xid (events ++ WasGiven item ∷ []) taker ticket collected)
  added item given gone none =
      let ea = no_taker given gone none in
      let mine : going xid events taker ticket ≡ Some (record { xid = xid; items = own_items (given_since events) }) = ap (λ x. going xid events x ticket) ea in
      let after : going xid (events ++ WasGiven item ∷ []) taker ticket ≡ Some (record { xid = xid; items = own_items (given_since events) ++ own_item item }) =
      ap (λ x. going xid (events ++ WasGiven item ∷ []) x ticket) ea ∙ ap (λ (i : List Item). Some (record { xid = xid; items = i })) (ap own_items (since_given events item) ∙ own_more (given_since events) item)
      in
      record {
        given = record { xid = xid; items = own_items (given_since events) };
        was = sym goes ∙ mine;
        away = none;
        is = λ i. record { number = ap (λ (l : HandleModel). l.number) view i; goes = after i; back = back i; collected = same_collected i };
      }

  -- and it is kept as it was
  pub still_handle : (its_ring : TableId) (its_name : Name) (token after : Half OutboxEvent) (given : Given) → now.goes ≡ Some given → now.back ≡ None → after.name ≡ token.name
      → IsHandle its_ring its_name xid token taker ticket collected → IsHandle its_ring its_name xid after taker ticket collected
  still_handle its_ring its_name token after given gone none name is =
      let ea = no_taker given gone none in
      let eb : ticket ≡ None = subst (λ a. MatchOption a (ticket ≡ None) (λ t. (t.ring ≡ its_ring) × (t.acked ≡ []) × (given_since token.list ≡ []))) ea is.end in
      record {
        name = name ∙ is.name;
        end = subst (λ a. MatchOption a (ticket ≡ None) (λ t. (t.ring ≡ its_ring) × (t.acked ≡ []) × (given_since after.list ≡ []))) (sym ea) eb;
        back = subst (λ b. MatchOption b (Unit {0}) (IsBack xid (own_items (given_before after.list)) collected)) (sym eb) tt;
      }

  -- its worker gave its transaction back
  pub came_back : (taker_now : Taking Item) (k : OpenTicket) (its_collected : Collected) (given : Given) → now.goes ≡ Some given → now.back ≡ None → IsDoing (done_by k) (own_items (given_since events))
      → ComesBack now its_collected (handle_model n xid (events ++ Begun ∷ []) (Some taker_now) (Some k) its_collected)
  came_back taker_now k its_collected given gone none doing =
      let ea = no_taker given gone none in
      let mine : going xid events taker ticket ≡ Some (record { xid = xid; items = own_items (given_since events) }) = ap (λ x. going xid events x ticket) ea in
      record {
        given = record { xid = xid; items = own_items (given_since events) };
        was = sym goes ∙ mine;
        done = done_by k;
        is = λ i. record {
          number = ap (λ (l : HandleModel). l.number) view i;
          goes = (ap (λ (g : List Item). Some (record { xid = xid; items = own_items g })) (before_begun events) ∙ sym mine ∙ goes) i;
          back = Some (done_by k);
          collected = its_collected;
        };
        doing = doing;
      }

  -- and the same goes by it
  pub goes_still : (taker_now : Taking Item) (k : OpenTicket) (after : List OutboxEvent) (given : Given) → now.goes ≡ Some given → now.back ≡ None → after ≡ events ++ Begun ∷ []
      → going xid events taker ticket ≡ going xid after (Some taker_now) (Some k)
  goes_still taker_now k after given gone none begun =
      ap (λ x. going xid events x ticket) (no_taker given gone none)
      ∙ ap (λ (g : List Item). Some (record { xid = xid; items = own_items g })) (sym (before_begun events) ∙ ap given_before (sym begun))

  -- what it counts is so once an item was given
  pub counted_more : (item : Item) (count : ℕ) (given : Given) → now.goes ≡ Some given → now.back ≡ None → item ≢ Last → HasCount (going xid events taker ticket) (xid, count)
      → HasCount (going xid (events ++ WasGiven item ∷ []) taker ticket) (xid, min (count + 1) (2 ^ 64 - 1))
  counted_more item count given gone none own counted =
      let ea = no_taker given gone none in
      let had : (xid ≡ xid) × (count ≡ min (length (own_items (given_since events))) (2 ^ 64 - 1)) = subst (λ x. HasCount (going xid events x ticket) (xid, count)) ea counted in
      let items : own_items (given_since (events ++ WasGiven item ∷ [])) ≡ own_items (given_since events) ++ item ∷ [] =
      ap own_items (since_given events item) ∙ own_more (given_since events) item ∙ ap (λ is. own_items (given_since events) ++ is) (own_itself item own) in
      let more : length (own_items (given_since events) ++ item ∷ []) ≡ length (own_items (given_since events)) + 1 = length-append (own_items (given_since events)) (item ∷ []) in
      let counts : min (count + 1) (2 ^ 64 - 1) ≡ min (length (own_items (given_since events) ++ item ∷ [])) (2 ^ 64 - 1) = omega (arith, had.1, more) in
      subst (λ x. HasCount (going xid (events ++ WasGiven item ∷ []) x ticket) (xid, min (count + 1) (2 ^ 64 - 1))) (sym ea)
      (refl, counts ∙ ap (λ (is : List Item). min (length is) (2 ^ 64 - 1)) (sym items))

  -- nothing more is counted where the commit was read
  pub counted_last : (count : ℕ) (given : Given) → now.goes ≡ Some given → now.back ≡ None → HasCount (going xid events taker ticket) (xid, count)
      → HasCount (going xid (events ++ WasGiven Last ∷ []) taker ticket) (xid, count)
  counted_last count given gone none counted =
      let ea = no_taker given gone none in
      subst (λ (goes : Option Given). HasCount goes (xid, count))
      (ap (λ x. going xid events x ticket) ea ∙ ap (λ (is : List Item). Some (record { xid = xid; items = is }))
      (sym (append-nil (own_items (given_since events))) ∙ sym (own_more (given_since events) Last) ∙ ap own_items (sym (since_given events Last)))
      ∙ ap (λ x. going xid (events ++ WasGiven Last ∷ []) x ticket) (sym ea)) counted

  module _ (its_ring : TableId) (its_name : Name) (token : Half OutboxEvent) (list : token.list ≡ events) (worker : IsHandle its_ring its_name xid token taker ticket collected) where
    -- nothing is counted once its ticket was taken out
    pub uncounted : (k : OpenTicket) (after : Option OpenTicket) → ticket ≡ Some k → after ≡ None → HasCount (going xid events taker after) (xid, 2 ^ 64 - 1)
    uncounted k after here gone = by_taker taker refl worker.end
      where
        by_taker : (a : Option (Taking Item)) → taker ≡ a → MatchOption a (ticket ≡ None) (λ t. (t.ring ≡ its_ring) × (t.acked ≡ []) × (given_since token.list ≡ []))
            → HasCount (going xid events taker after) (xid, 2 ^ 64 - 1)
        by_taker None ea end = let none : Some k ≡ None = sym here ∙ end in absurd cc
        by_taker (Some t) ea end =
            subst (λ (goes : Option Given). HasCount goes (xid, 2 ^ 64 - 1)) (sym (ap (λ x. going xid events x after) ea ∙ ap (going xid events (Some t)) gone)) refl

    -- and it is kept so
    pub emptied : (k : OpenTicket) (after : Option OpenTicket) → ticket ≡ Some k → after ≡ None
        → IsHandle its_ring its_name xid token taker after collected × HasCount (going xid events taker after) (xid, 2 ^ 64 - 1)
    emptied k after here gone = (
      record {
        name = worker.name;
        end = by_taker taker worker.end;
        back = subst (λ b. MatchOption b (Unit {0}) (IsBack xid (own_items (given_before token.list)) collected)) (sym gone) tt;
      },
      uncounted k after here gone,
    )
      where
        by_taker : (a : Option (Taking Item)) → MatchOption a (ticket ≡ None) (λ t. (t.ring ≡ its_ring) × (t.acked ≡ []) × (given_since token.list ≡ []))
            → MatchOption a (after ≡ None) (λ t. (t.ring ≡ its_ring) × (t.acked ≡ []) × (given_since token.list ≡ []))
        by_taker None end = gone
        by_taker (Some t) end = end

    -- whose ticket is taken out, and who was said to have done all, has
    pub has_all : collected ≡ WasAll → (result : Option OpenTicket) (after : HandleModel) → MatchOption result ((now.back ≡ None) × (after ≡ now)) (λ k. IsTakenOut now k after)
        → MatchOption result (after ≡ now) (λ k. IsTakenOut now k after × HasAll now k)
    has_all all None after out = out.1
    has_all all (Some k) after out = (out, by_parts taker ticket refl refl worker.end worker.back)
      where
        by_parts : (a : Option (Taking Item)) (b : Option OpenTicket) → taker ≡ a → ticket ≡ b → MatchOption a (ticket ≡ None) (λ t. (t.ring ≡ its_ring) × (t.acked ≡ []) × (given_since token.list ≡ []))
            → MatchOption b (Unit {0}) (IsBack xid (own_items (given_before token.list)) collected) → HasAll now k
        by_parts a None ea eb end its = let none : None ≡ Some (done_by k) = ap (option_map done_by) (sym eb) ∙ back ∙ out.back in absurd cc
        by_parts None (Some j) ea eb end its = let none : Some j ≡ None = sym eb ∙ end in absurd cc
        by_parts (Some t) (Some j) ea eb end its =
            let same : Some (done_by j) ≡ Some (done_by k) = ap (option_map done_by) (sym eb) ∙ back ∙ out.back in
            let did : done_by j ≡ done_by k = cc in
            let goes_is : Some (record { xid = xid; items = own_items (given_before events) }) ≡ now.goes = ap (going xid events (Some t)) (sym eb) ∙ ap (λ x. going xid events x ticket) (sym ea) ∙ goes in
            subst (λ (g : Option Given). MatchOption g ⊥ (λ given. (done_by k).items ≡ given.items)) goes_is
            (ap (λ (d : Opened). d.items) (sym did) ∙ its.all all ∙ ap (λ l. own_items (given_before l)) list)

-- what counts all is a count
pub is_counted : (goes : Option Given) (named : ℕ × ℕ) → HasCount goes named → IsCounted goes named
is_counted None named none = λ short. absurd (omega (arith, none, short))
is_counted (Some given) named has = λ short. (given, refl, has.0, omega (arith, has.1, short))

-- a token keeps its name, whether an item was given or not
pub same_name : {E : Type 0} (r : Result (Unit {0}) E) (item : Item) (token after : Half OutboxEvent) → OnOk r (after ≡ record token { list = token.list ++ WasGiven item ∷ [] }) → OnErr r (after ≡ token) → after.name ≡ token.name
same_name (Ok u) item token after ok err = ap (λ (h : Half OutboxEvent). h.name) ok
same_name (Err e) item token after ok err = ap (λ (h : Half OutboxEvent). h.name) err

-- ---- a job that came back

module _ (its_ring : TableId) (token : Half OutboxEvent) (taker : Taking Item) (job : Working) (ticket : OpenTicket)
    (ticket_is : (ticket.number ≡ job.xid) × (ticket.events ≡ job.events)) (taker_is : taker ≡ job.taker) (step : IsInStep its_ring job) where
  done_is : done_by ticket ≡ opened_by job.events
  done_is = ap opened_by ticket_is.1

  -- what it has done is a beginning of what was given
  pub job_doing : Begins taker.acked (given_since token.list) → MatchOption taker.taken (Unit {0}) (λ item. Begins (taker.acked ++ item ∷ []) (given_since token.list)) → IsDoing (done_by ticket) (own_items (given_since token.list))
  job_doing begins next =
      subst (λ (d : Opened). IsDoing d (own_items (given_since token.list))) (sym done_is)
      (did_beginning (opened_by job.events) taker.acked (given_since token.list) taker.taken (step.done ∙ ap (λ (t : Taking Item). t.acked) (sym taker_is)) step.own
      (subst (λ (t : Taking Item). IsTaken (opened_by job.events).wants t.taken) (sym taker_is) step.next) begins next)

  -- the worker is kept, with the ticket
  pub home_worker : (its_name : Name) (xid : ℕ) (after : Half OutboxEvent) (back_taker : Taking Item) (collected : Collected) → token.name ≡ its_name → after ≡ record token { list = token.list ++ Begun ∷ [] }
      → job.xid ≡ xid → back_taker.ring ≡ taker.ring → back_taker.acked ≡ [] → Begins taker.acked (given_since token.list)
      → MatchOption taker.taken (Unit {0}) (λ item. Begins (taker.acked ++ item ∷ []) (given_since token.list)) → (collected ≡ WasAll → given_since token.list ≡ taker.acked ++ Last ∷ [])
      → IsHandle its_ring its_name xid after (Some back_taker) (Some ticket) collected
  home_worker its_name xid after back_taker collected name begun number ring acked begins next all =
      let list : after.list ≡ token.list ++ Begun ∷ [] = ap (λ (h : Half OutboxEvent). h.list) begun in
      let given : given_before after.list ≡ given_since token.list = ap given_before list ∙ before_begun token.list in
      record {
        name = ap (λ (h : Half OutboxEvent). h.name) begun ∙ name;
        end = (ring ∙ ap (λ (t : Taking Item). t.ring) taker_is ∙ step.ring, acked, ap given_since list ∙ since_begun token.list);
        back = record {
          number = ticket_is.0 ∙ number;
          doing = subst (λ g. IsDoing (done_by ticket) (own_items g)) (sym given) (job_doing begins next);
          all = λ is.
              ap (λ (d : Opened). d.items) done_is
              ∙ did_all (opened_by job.events) taker.acked (given_since token.list) (step.done ∙ ap (λ (t : Taking Item). t.acked) (sym taker_is)) step.own (all is)
              ∙ ap own_items (sym given);
        };
      }
