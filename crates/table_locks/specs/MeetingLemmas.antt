-- What follows where one hand goes over all tickets.
--     EachBelow, none_below, one_below, each_of      it is so of the first so many tickets, and then of each
--     DifferentBelow, one_different      the first so many are of different transactions
--     distinct_at, named_at      the numbers of those that a test passes are distinct, and each is of such a ticket
--     shared_more, unshared_more      how many have a share of a table
--     all_open_by      those that are open are all, as many as there are
--     closed_by      in a part no other is open, where as many are as have a share there
--     wants_here, wants_nothing      what a transaction wants is something in the table
--     known_by      a clash that a table knows
--     StillBelow, none_still, one_still, all_still      whether a transaction wants something, by the first so many tickets, and by all
--     wants_some      it does, by its share
--     still_told, none_told, held_told      the clash that is noted by the tickets, where one stopped the store; none, where none did
use Rattle.std.specs.Prelude.{◌≡◌, ◌≢◌, ◌⊎◌, ℕ, ◌+◌, ◌<◌, ◌≤◌, Bool, true, false, cond, if◌then◌else◌, List, [], ◌∷◌, Option, Some, None, IfSome, MatchOption, All, Contains, IsSome, is_some, filter, length, take, slice_get, refl}
use Rattle.std.proofs.Common.{zero, suc, sym, ◌∙◌, ap, subst, arith, inl, inr, append-nil}
use Rattle.std.proofs.lemmas.Bool.{cases_Bool}
use Rattle.std.proofs.lemmas.List.Elements.{All-from_recursion}
use Rattle.std.proofs.lemmas.Map.Views.{tells_apart}
use Rattle.std.proofs.lemmas.Option.{none-some, slice_get_within, same_Some}
use Rattle.std.specs.FinMap as finite
use Rattle.std.specs.FinMap.{get, nat_cmp-IsAntisymmetric}
use Rattle.std.specs.List.{AllByRecursion, IsDistinct}
use mathlib.Core.Logic.{dite}
use native.Mathlib.Decide.{ℕ_discrete}
use Rattle.model.specs.declared.change.Change.{Change}
use Rattle.model.specs.Effect.{ClashCause}
use Rattle.model.specs.Rows.{Schema}
use Rattle.tokens.specs.Half.{Name}
use Rattle.change.specs.declared.outcome.Clash.{Clash}
use Rattle.world.specs.World.{is_xid, Opened, ByClash, ByHold}
use Rattle.world_parts.specs.ByTable.{change_at, changes_at}
use Rattle.world_parts.specs.Parts.{wanted_by}
use Rattle.live_tables.specs.declared.live_tables.Stopped.{Stopped}
use Rattle.live_tables.specs.declared.live_tables.Stopped.TheVariants.{Clash as StoppedByClash}
use Rattle.live_tables.specs.Answers.{cause_of, stop_for, told_stop, HasCause}
use Rattle.engine.specs.declared.events.LineEvent.{LineEvent}
use Rattle.engine.specs.Events.{opened_by, is_open_in}
use Rattle.table_parts.specs.Part.{Part}
use Rattle.parted_store.specs.Lent.{OpenTicket, Stands}
use Rattle.parted_store.specs.OpenLemmas.{open_all}
use Rattle.parted_store.specs.Shares.{Share, share_of}
use Rattle.table_locks.specs.LendingLemmas.{some_there}
use Rattle.table_locks.specs.Tickets.{IsTicketOf}
use Rattle.table_locks.specs.Noted.{TellsStill}
use Rattle.table_locks.specs.Whole.{AreDifferent, AreOpen, AreAllOpen, AreTickets, HasShareOf, WantsIn, WantsStill, numbers_of, numbers_at}

-- ---- one ticket after another

-- it is so of each of the first so many
abbrev pub EachBelow : (OpenTicket → Type 0) → List OpenTicket → ℕ → Type 0
EachBelow P tickets count = (i : ℕ) (t : OpenTicket) → i < count → slice_get tickets i ≡ Some t → P t

pub none_below : (P : OpenTicket → Type 0) (tickets : List OpenTicket) → EachBelow P tickets 0
none_below P tickets i t below = absurd (omega (arith, below))

pub one_below : (P : OpenTicket → Type 0) (tickets : List OpenTicket) (count : ℕ) (u : OpenTicket) → slice_get tickets count ≡ Some u
    → EachBelow P tickets count → P u → EachBelow P tickets (count + 1)
one_below P tickets count u at before here i t below there = dite (ℕ_discrete i count)
    (λ same. subst P (same_Some u t (sym at ∙ ap (slice_get tickets) (sym same) ∙ there)) here)
    (λ apart. before i t (omega (arith, below, apart)) there)

pub each_of : (P : OpenTicket → Type 0) (tickets : List OpenTicket) (count : ℕ) → length tickets ≤ count → EachBelow P tickets count
    → (i : ℕ) (t : OpenTicket) → slice_get tickets i ≡ Some t → P t
each_of P tickets count over each i t at = each i t (let within = slice_get_within tickets i t at in omega (arith, within, over)) at

-- the first so many are of different transactions
abbrev pub DifferentBelow : List OpenTicket → ℕ → Type 0
DifferentBelow tickets count =
    (i j : ℕ) (t u : OpenTicket) → i < j → j < count → slice_get tickets i ≡ Some t → slice_get tickets j ≡ Some u → t.number ≢ u.number

-- the first so many of a list
taken_there : (tickets : List OpenTicket) (count i : ℕ) → i < count → slice_get (take count tickets) i ≡ slice_get tickets i
taken_there [] zero i below = refl
taken_there [] (suc count) i below = refl
taken_there (t ∷ tickets) zero i below = absurd (omega (arith, below))
taken_there (t ∷ tickets) (suc count) zero below = refl
taken_there (t ∷ tickets) (suc count) (suc i) below = taken_there tickets count i (omega (arith, below))

pub one_different : (tickets : List OpenTicket) (count : ℕ) (u : OpenTicket) → slice_get tickets count ≡ Some u → DifferentBelow tickets count
    → ((i : ℕ) (t : OpenTicket) → slice_get (take count tickets) i ≡ Some t → t.number ≢ u.number) → DifferentBelow tickets (count + 1)
one_different tickets count u at before apart i j t v first below at_i at_j = dite (ℕ_discrete j count)
    (λ same.
    let is : u ≡ v = same_Some u v (sym at ∙ ap (slice_get tickets) (sym same) ∙ at_j) in
    subst (λ (w : OpenTicket). t.number ≢ w.number) is
    (apart i t (taken_there tickets count i (let earlier = first in omega (arith, earlier, same)) ∙ at_i)))
    (λ beside. before i j t v first (omega (arith, below, beside)) at_i at_j)

-- ---- the numbers of those that a test passes

other_xid : (xid other : ℕ) → xid ≢ other → is_xid xid other ≡ false
other_xid xid other apart =
    elim (cases_Bool (is_xid xid other)) [
      | inl same ↦ absurd (apart (tells_apart nat_cmp-IsAntisymmetric xid other same))
      | inr differs ↦ differs
    ]

module _ (test : OpenTicket → Bool) where
  -- each is so, where it is so of each such ticket
  each_number : (P : ℕ → Type 0) (tickets : List OpenTicket) → ((i : ℕ) (t : OpenTicket) → slice_get tickets i ≡ Some t → test t ≡ true → P t.number)
      → AllByRecursion P (numbers_of (filter test tickets))
  each_number P [] each = tt
  each_number P (t ∷ tickets) each = by (each_number P tickets (λ i u at. each (suc i) u at)) (test t) refl
    where
      by : AllByRecursion P (numbers_of (filter test tickets)) → (b : Bool) → test t ≡ b
          → AllByRecursion P (numbers_of (cond b (t ∷ filter test tickets) (filter test tickets)))
      by rest true passes = (each 0 t refl passes, rest)
      by rest false fails = rest

  pub distinct_at : (tickets : List OpenTicket) → AreDifferent tickets → IsDistinct is_xid (numbers_of (filter test tickets))
  unfolding IsDistinct
  distinct_at [] apart = tt
  distinct_at (t ∷ tickets) apart =
      elim (test t) as (λ b. IsDistinct is_xid (numbers_of (cond b (t ∷ filter test tickets) (filter test tickets)))) [
        | true ↦ (
          each_number (λ n. is_xid t.number n ≡ false) tickets (λ i u at passes. other_xid t.number u.number (apart 0 (suc i) t u (omega arith) refl at)),
          distinct_at tickets (λ i j u v below. apart (suc i) (suc j) u v (omega (arith, below))),
        )
        | false ↦ distinct_at tickets (λ i j u v below. apart (suc i) (suc j) u v (omega (arith, below)))
      ]

  -- one of the tickets is of this transaction, and passes
  abbrev HasPassing : List OpenTicket → ℕ → Type 0
  HasPassing tickets xid = (i : ℕ) × (t : OpenTicket) × (slice_get tickets i ≡ Some t) × (t.number ≡ xid) × (test t ≡ true)

  first_or : (n xid : ℕ) (ns : List ℕ) → Contains (n ∷ ns) xid → (n ≡ xid) ⊎ Contains ns xid
  first_or n xid ns (zero, below, is) = inl is
  first_or n xid ns (suc k, below, is) = inr (k, omega (arith, below), is)

  pub named_at : (tickets : List OpenTicket) (xid : ℕ) → Contains (numbers_of (filter test tickets)) xid → HasPassing tickets xid
  named_at [] xid (k, below, is) = absurd (omega (arith, below))
  named_at (t ∷ tickets) xid named = by (λ found. named_at tickets xid found) (test t) refl named
    where
      later : HasPassing tickets xid → HasPassing (t ∷ tickets) xid
      later (i, u, at, is, passes) = (suc i, u, at, is, passes)

      by : (Contains (numbers_of (filter test tickets)) xid → HasPassing tickets xid) → (b : Bool) → test t ≡ b
          → Contains (numbers_of (cond b (t ∷ filter test tickets) (filter test tickets))) xid → HasPassing (t ∷ tickets) xid
      by rest true passes found = elim (first_or t.number xid (numbers_of (filter test tickets)) found) [
        | inl is ↦ (0, t, refl, is, passes)
        | inr behind ↦ later (rest behind)
      ]
      by rest false fails found = later (rest found)

-- ---- how many have a share of a table

-- the ticket has one
abbrev shares_in : ℕ → OpenTicket → Bool
shares_in table t = is_some (share_of t.shares table)

pub shared_more : (table : ℕ) (t : OpenTicket) (tickets : List OpenTicket) → is_some (share_of t.shares table) ≡ true
    → length (numbers_at table (t ∷ tickets)) ≡ length (numbers_at table tickets) + 1
shared_more table t tickets has =
    let sharers = filter (shares_in table) tickets in
    let step : length (numbers_at table (t ∷ tickets)) ≡ suc (length (numbers_of sharers)) =
    ap (λ b. length (numbers_of (cond b (t ∷ sharers) sharers))) has in
    omega (arith, step)

pub unshared_more : (table : ℕ) (t : OpenTicket) (tickets : List OpenTicket) → is_some (share_of t.shares table) ≡ false
    → length (numbers_at table (t ∷ tickets)) ≡ length (numbers_at table tickets)
unshared_more table t tickets none =
    ap (λ b. length (numbers_of (cond b (t ∷ filter (shares_in table) tickets) (filter (shares_in table) tickets)))) none

-- ---- those that are open are all

-- where a test passes all, they are all that it passes
all_pass : (tickets : List OpenTicket) → filter (λ _. true) tickets ≡ tickets
all_pass [] = refl
all_pass (t ∷ tickets) = ap (λ ts. t ∷ ts) (all_pass tickets)

many_numbers : (tickets : List OpenTicket) → length (numbers_of tickets) ≡ length tickets
many_numbers [] = refl
many_numbers (t ∷ tickets) = ap suc (many_numbers tickets)

pub all_open_by : (line : List LineEvent) (tickets : List OpenTicket) → AreDifferent tickets → AreOpen line tickets
    → ((xids : List ℕ) → IsDistinct is_xid xids → All (λ xid. is_open_in line xid ≡ true) xids → length xids ≡ length tickets
    → (xid : ℕ) → is_open_in line xid ≡ true → Contains xids xid)
    → AreAllOpen line tickets
all_open_by line tickets apart each all = record {
  apart = apart;
  each = each;
  all = λ xid is.
      let same = all_pass tickets in
      let named =
      named_at (λ _. true) tickets xid
      (subst (λ ts. Contains (numbers_of ts) xid) (sym same)
      (all (numbers_of tickets) (subst (λ ts. IsDistinct is_xid (numbers_of ts)) same (distinct_at (λ _. true) tickets apart))
      (All-from_recursion (λ n. is_open_in line n ≡ true) (numbers_of tickets)
      (subst (λ ts. AllByRecursion (λ n. is_open_in line n ≡ true) (numbers_of ts)) same
      (each_number (λ _. true) (λ n. is_open_in line n ≡ true) tickets (λ i t at passes. each i t at))))
      (many_numbers tickets) xid is)) in
      (named.0, named.1, named.2, named.3);
}

-- ---- a part and all tickets

module _ (shares : ℕ → Name) (schema : Schema) (tickets : List OpenTicket) (are : AreTickets shares schema tickets) (apart : AreDifferent tickets) (p : Part)
    (stand : (i : ℕ) (t : OpenTicket) → slice_get tickets i ≡ Some t → Stands p t.shares) where
  -- a transaction with a share there is open there
  open_there : (i : ℕ) (t : OpenTicket) → slice_get tickets i ≡ Some t → shares_in p.number t ≡ true → is_some (get p.store.world.opened t.number) ≡ true
  open_there i t at has =
      let (share, found) = some_there (share_of t.shares p.number) has in
      ap (λ n. is_some (get p.store.world.opened n)) (sym ((are i t at).0.tied p.number share found).number) ∙ ap is_some (stand i t at share found)

  pub closed_by : length (numbers_at p.number tickets) ≡ finite.len p.store.world.opened → (xid : ℕ) (o : Opened) → get p.store.world.opened xid ≡ Some o
      → HasShareOf tickets p.number xid
  closed_by long xid o at =
      named_at (shares_in p.number) tickets xid
      (open_all p.store.world.opened (numbers_at p.number tickets) (distinct_at (shares_in p.number) tickets apart)
      (All-from_recursion (λ n. is_some (get p.store.world.opened n) ≡ true) (numbers_at p.number tickets)
      (each_number (shares_in p.number) (λ n. is_some (get p.store.world.opened n) ≡ true) tickets open_there))
      long xid (ap is_some at))

-- ---- what a transaction wants

no_more : (c : Change) → c ∷ [] ≡ [] → ⊥
no_more c e = cc

no_wish : (wish : Option (ℕ × Change)) → is_some wish ≡ true → wanted_by wish ≡ [] → ⊥
no_wish None some none = let no : false ≡ true = some in cc
no_wish (Some wish) some none = no_more wish.1 none

-- it wants nothing
pub wants_nothing : (table : ℕ) (t : OpenTicket) → (opened_by t.events).wants ≡ None → WantsIn table t
wants_nothing table t none sub e is = absurd (none-some (sub, e) (sym none ∙ is))

-- it wants something there, by its share
pub wants_here : (shares : ℕ → Name) (schema : Schema) (t : OpenTicket) → IsTicketOf shares schema t → (table : ℕ) (wants : Bool)
    → MatchOption (share_of t.shares table) (wants ≡ false) (λ share. wants ≡ is_some (opened_by share.list).wants) → wants ≡ true → WantsIn table t
wants_here shares schema t is table wants told true_is sub e wish nothing = by (share_of t.shares table) refl told
  where
    by : (found : Option Share) → share_of t.shares table ≡ found
        → MatchOption found (wants ≡ false) (λ share. wants ≡ is_some (opened_by share.list).wants) → ⊥
    by None none tells = let no : false ≡ true = sym tells ∙ true_is in cc
    by (Some share) found tells =
        no_wish (opened_by share.list).wants (sym tells ∙ true_is)
        ((is.tied table share found).wants ∙ ap (λ w. changes_at table (wanted_by w)) wish ∙ append-nil (change_at table e) ∙ nothing)

-- ---- what stopped the store

pub known_by : (stopped : Option Stopped) (noted xid : ℕ) (c : Change) (was clash : Clash) → stopped ≡ Some (StoppedByClash noted c was) → IfSome stopped HasCause
    → noted ≡ xid → was ≡ clash → (cause : ClashCause) × (cause_of clash ≡ Some cause) × (told_stop stopped ≡ Some (ByClash xid c cause))
known_by stopped noted xid c was clash is caused same_xid same =
    let (cause, found) = some_there (cause_of was) (subst (λ (s : Option Stopped). IfSome s HasCause) is caused) in (
      cause,
      ap cause_of (sym same) ∙ found,
      ap told_stop is ∙ ap (stop_for noted c) found ∙ ap (λ (n : ℕ). Some (ByClash n c cause)) same_xid,
    )

-- ---- whether a transaction wants something

-- one of the tickets is of it and tells so, or none of the first so many does
abbrev pub StillBelow : List OpenTicket → ℕ → ℕ → Bool → Type 0
StillBelow tickets xid count true = WantsStill tickets xid true
StillBelow tickets xid count false = EachBelow (λ t. t.number ≡ xid → (opened_by t.events).wants ≡ None) tickets count

pub none_still : (tickets : List OpenTicket) (xid : ℕ) → StillBelow tickets xid 0 false
none_still tickets xid = none_below (λ t. t.number ≡ xid → (opened_by t.events).wants ≡ None) tickets

-- one more is of another transaction, or wants nothing
pub one_still : (tickets : List OpenTicket) (xid count : ℕ) (u : OpenTicket) → slice_get tickets count ≡ Some u → (told : Bool)
    → StillBelow tickets xid count told → (u.number ≡ xid → (opened_by u.events).wants ≡ None) → StillBelow tickets xid (count + 1) told
one_still tickets xid count u at true still none = still
one_still tickets xid count u at false still none =
    one_below (λ t. t.number ≡ xid → (opened_by t.events).wants ≡ None) tickets count u at still none

pub all_still : (tickets : List OpenTicket) (xid count : ℕ) → length tickets ≤ count → (told : Bool) → StillBelow tickets xid count told → WantsStill tickets xid told
all_still tickets xid count over true still = still
all_still tickets xid count over false still = each_of (λ t. t.number ≡ xid → (opened_by t.events).wants ≡ None) tickets count over still

-- it wants something, by its share
pub wants_some : (shares : ℕ → Name) (schema : Schema) (t : OpenTicket) → IsTicketOf shares schema t → (table : ℕ) (wants : Bool)
    → MatchOption (share_of t.shares table) (wants ≡ false) (λ share. wants ≡ is_some (opened_by share.list).wants) → wants ≡ true
    → IsSome (opened_by t.events).wants
wants_some shares schema t is table wants told true_is = by_wish (opened_by t.events).wants refl
  where
    by_share : (opened_by t.events).wants ≡ None → (found : Option Share) → share_of t.shares table ≡ found
        → MatchOption found (wants ≡ false) (λ share. wants ≡ is_some (opened_by share.list).wants) → ⊥
    by_share none None missing tells = let no : false ≡ true = sym tells ∙ true_is in cc
    by_share none (Some share) found tells =
        no_wish (opened_by share.list).wants (sym tells ∙ true_is)
        ((is.tied table share found).wants ∙ ap (λ w. changes_at table (wanted_by w)) none)

    by_wish : (found : Option (ℕ × Change)) → (opened_by t.events).wants ≡ found → IsSome found
    by_wish None none = absurd (by_share none (share_of t.shares table) refl told)
    by_wish (Some wish) some = refl

pub still_told : (tickets : List OpenTicket) (xid : ℕ) (c : Change) (cause : ClashCause) (clash : Clash) (wants : Bool) → WantsStill tickets xid wants
    → cause_of clash ≡ Some cause → TellsStill tickets (Some (ByClash xid c cause)) (if wants then Some clash else None)
still_told tickets xid c cause clash true told caused =
    let (i, t, at, number, wants) = told in
    (i, t, c, cause, at, caused, ap (λ n. Some (ByClash n c cause)) (sym number), wants)
still_told tickets xid c cause clash false none caused = λ i t d why at is.
    none i t at (let same : xid ≡ t.number = cc in sym same)

pub none_told : (tickets : List OpenTicket) → TellsStill tickets None None
none_told tickets i t c cause at is = absurd (none-some (ByClash t.number c cause) is)

pub held_told : (tickets : List OpenTicket) (waiter holder : ℕ) → TellsStill tickets (Some (ByHold waiter holder)) None
held_told tickets waiter holder i t c cause at is = absurd cc
