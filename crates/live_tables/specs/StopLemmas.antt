-- The call that stops a store in which all wait.
--     one_free, one_held      whether somebody else has the one cell of a list
--     FollowsFrom, one_less, none_less      what holds of all that a loop has left holds of all
--     IsApartFrom, cells_free, cells_held_by      who has one of some cells, by the transactions that are asked
--     WantsFrom, WantsFromNobody      who has a cell of the change that a transaction wants
--     IsSettledAt, settled_by, unsettled_by      a transaction is named with so many items as it has done, or waits
--     none_open, is_open, wants_named      which transactions are open, and what they want
--     settled, unsettled      so it is with each, or with one it isn't
--     wanting_waits, wanting_nobody      whom an open transaction waits for, by the change that it wants
--     refused_unopened, refused_unsettled, stops_by      what the call answers
--     tied_stopped      a store that is stopped stays tied
use Rattle.std.proofs.Common.{◌≡◌, ◌≢◌, ℕ, ◌<◌, ◌-◌, ◌^◌, ◌⊎◌, true, false, List, [], ◌∷◌, Option, Some, None, refl, sym, ap, subst, ◌∙◌, arith, inl, inr, length, Bool, is_some, true≢false}
use Rattle.std.specs.Prelude.{All, IfSome, IfNone, option_map}
use Rattle.std.specs.List.{Contains}
use Rattle.std.specs.Ordering.{nat_cmp}
use Rattle.std.specs.Cmp.{nat_cmp_total}
use Rattle.std.specs.BTreeMap as tree
use Rattle.std.specs.FinMap.{get}
use Rattle.std.proofs.lemmas.List.Elements.{All-nil, All-cons, All-contains}
use Rattle.std.proofs.lemmas.Map.Lookups.{exact_unsigned}
use Rattle.std.proofs.lemmas.Map.Views.{btree_map_get_iff, btree_map_contains_key_iff}
use Rattle.model.specs.declared.change.Change.{Change}
use Rattle.model.specs.declared.cell.Cell.{Cell}
use Rattle.model.specs.Footprint.{shares_cell}
use Rattle.model.specs.Named.{NamesTables}
use Rattle.model.specs.ValidLemmas.{not_none}
use Rattle.change.specs.InverseLemmas.{contains_here}
use Rattle.keyholds.specs.Holds.{cells_held, holds_of, IsFreeCell, IsCellHeldBy}
use Rattle.live_tables.specs.BeforeImageCallLemmas.{stop_keeps_before_images}
use Rattle.world.specs.World.{Opened, World}
use Rattle.world.specs.Settled.{WaitsFor, IsNamed}
use Rattle.world.specs.Steps.{StopsHeld}
use Rattle.live_tables.specs.declared.live_tables.Live.{Live}
use Rattle.live_tables.specs.declared.live_tables.Stopped.TheVariants.{Held as StoppedByHold}
use Rattle.live_tables.specs.declared.transaction.OpenTransaction.{OpenTransaction}
use Rattle.live_tables.specs.Answers.{after_stop}
use Rattle.live_tables.specs.CallLemmas.{stop_is_kept}
use Rattle.live_tables.specs.Represents.{records_in}
use Rattle.live_tables.specs.ByHolds.{RepresentsByHolds}
use Rattle.live_tables.specs.BasicLemmas.{is_there}
use Rattle.live_tables.specs.Waits.{IsOneHeldBy, WaitsByHolds, WaitsForNobody, IsSettledLive, IsUnsettledLive, IsSentCount, not_open, not_waiting, not_settled}
use Rattle.live_tables.specs.WaitLemmas.{shared_is_held, waits_live_tells, passes_live_tells, stop_is_found, stop_is_refused}

-- ---- one cell

module _ (held : ℕ → List Cell) (xid : ℕ) (cell : Cell) where
  pub one_free : (r : Option ℕ) → IfNone r (IsFreeCell held xid cell) → IfNone r (All (IsFreeCell held xid) (cell ∷ []))
  one_free None free = All-cons (IsFreeCell held xid) cell [] free (All-nil (IsFreeCell held xid))
  one_free (Some holder) free = tt

  pub one_held : (r : Option ℕ) → IfSome r (IsCellHeldBy held xid cell) → IfSome r (IsOneHeldBy held xid (cell ∷ []))
  one_held None has = tt
  one_held (Some holder) has = (cell, contains_here cell [], has)

-- ---- a loop

-- what holds of all that is left holds of all
abbrev pub FollowsFrom : {X : Type 0} → (X → Type 0) → List X → List X → Type 0
FollowsFrom P left all = All P left → All P all

module _ {X : Type 0} (P : X → Type 0) (all left : List X) (so : FollowsFrom P left all) where
  pub one_less : (x : X) (rest : List X) → left ≡ x ∷ rest → P x → FollowsFrom P rest all
  one_less x rest is its more = so (subst (All P) (sym is) (All-cons P x rest its more))

  pub none_less : left ≡ [] → All P all
  none_less none = so (subst (All P) (sym none) (All-nil P))

-- ---- a store that is tied

-- it is the transaction itself, or it has none of these cells
abbrev pub IsApartFrom : Live → ℕ → List Cell → ℕ → Type 0
IsApartFrom l xid cells holder = holder ≢ xid → shares_cell cells (cells_held l.holds holder) ≡ false

-- a transaction that wants this change waits for the holder by the holds
abbrev pub WantsFrom : Live → ℕ → Option (ℕ × Change) → ℕ → Type 0
WantsFrom l xid wants holder = (o : Opened) → o.wants ≡ wants → WaitsByHolds l.tables.schema l.tables.rows (cells_held l.holds) xid o holder

-- it waits for nobody
abbrev pub WantsFromNobody : Live → ℕ → Option (ℕ × Change) → Type 0
WantsFromNobody l xid wants = (o : Opened) → o.wants ≡ wants → WaitsForNobody l.tables.schema l.tables.rows (cells_held l.holds) xid o

-- it is named with so many items as it has done, or waits
abbrev pub IsSettledAt : Live → List (ℕ × ℕ) → ℕ × OpenTransaction → Type 0
IsSettledAt l sent t = IsSentCount sent t.0 t.1.done ⊎ ((holder : ℕ) × WantsFrom l t.0 t.1.wants holder)

-- a transaction that is asked who is in its way, and how many items it was sent
module _ (l : Live) (sent : List (ℕ × ℕ)) (xid : ℕ) (kept : OpenTransaction) where
  pub settled_by : (r : Option ℕ) (b : Bool) → b ≡ is_some r → IfSome r (WantsFrom l xid kept.wants) → b ≡ true → IsSettledAt l sent (xid, kept)
  settled_by None b is waits holds = absurd (true≢false (sym holds ∙ is))
  settled_by (Some holder) b is waits holds = inr (holder, waits)

  pub unsettled_by : (r : Option ℕ) (b : Bool) → b ≡ is_some r → IfNone r (WantsFromNobody l xid kept.wants) → b ≡ false → WantsFromNobody l xid kept.wants
  unsettled_by None b is passes fails = passes
  unsettled_by (Some holder) b is passes fails = absurd (true≢false (sym is ∙ fails))

module _ (w : World) (l : Live) (tied : RepresentsByHolds w l) where
  -- ---- the cells of a change

  pub cells_held_by : (xid : ℕ) (cells : List Cell) (holder : ℕ) → holder ≢ xid → shares_cell cells (cells_held l.holds holder) ≡ true
      → IsOneHeldBy (cells_held l.holds) xid cells holder
  cells_held_by xid cells = (shared_is_held l.tables.schema w (cells_held l.holds) tied.holds xid cells).0

  pub cells_free : (xid : ℕ) (cells : List Cell) → All (IsApartFrom l xid cells) (tree.keys l.transactions) → All (IsFreeCell (cells_held l.holds) xid) cells
  cells_free xid cells all =
      (shared_is_held l.tables.schema w (cells_held l.holds) tied.holds xid cells).1 (λ other o differs at.
      All-contains (IsApartFrom l xid cells) (tree.keys l.transactions) other all
      ((btree_map_contains_key_iff nat_cmp_total exact_unsigned l.transactions other).0 (is_there w l tied other o at)) differs)

  -- ---- which transactions are open

  pub none_open : (xid : ℕ) → tree.get nat_cmp l.transactions xid ≡ None → get w.opened xid ≡ None
  none_open xid none = by_open (get w.opened xid) refl
    where
      by_open : (found : Option Opened) → get w.opened xid ≡ found → get w.opened xid ≡ None
      by_open None at = at
      by_open (Some o) at = absurd (let there = is_there w l tied xid o at in let not : is_some (tree.get nat_cmp l.transactions xid) ≡ false = ap is_some none in cc)

  module _ (xid : ℕ) (kept : OpenTransaction) (found : tree.get nat_cmp l.transactions xid ≡ Some kept) where
    pub is_open : (o : Opened) × (get w.opened xid ≡ Some o)
    is_open = by_open (get w.opened xid) refl
      where
        by_open : (o : Option Opened) → get w.opened xid ≡ o → (o : Opened) × (get w.opened xid ≡ Some o)
        by_open (Some o) at = (o, at)
        by_open None at =
            absurd (not_none kept.record (sym (tied.kept.closed xid at) ∙ ap (option_map (λ (k : OpenTransaction). k.record)) found))

    -- the tables of the change that it wants are there
    pub wants_named : IfSome kept.wants (λ (p : ℕ × Change). NamesTables (length l.tables.schema) p.1)
    wants_named = let (o, at) = is_open in (tied.beside xid o kept at found).named

    -- ---- counts

    module _ (sent : List (ℕ × ℕ)) (o : Opened) (at : get w.opened xid ≡ Some o) where
      counts : kept.done < 2 ^ 64 - 1 → kept.done ≡ length o.items
      counts below = let done = (tied.beside xid o kept at found).done in omega arith

      pub counted_is_named : IsSentCount sent xid kept.done → IsNamed sent xid o
      counted_is_named is =
          let same = counts is.1 in
          (subst (λ (n : ℕ). Contains sent (xid, n)) same is.0, subst (λ (n : ℕ). n < 2 ^ 64 - 1) same is.1)

      pub named_is_counted : IsNamed sent xid o → IsSentCount sent xid kept.done
      named_is_counted is =
          let same : length o.items ≡ kept.done = (let done = (tied.beside xid o kept at found).done in let below = is.1 in omega arith) in
          (subst (λ (n : ℕ). Contains sent (xid, n)) same is.0, subst (λ (n : ℕ). n < 2 ^ 64 - 1) same is.1)

  -- ---- whether all is settled

  pub settled : tree.IsOrdered nat_cmp l.transactions → (sent : List (ℕ × ℕ)) → All (IsSettledAt l sent) l.transactions.entries
      → IsSettledLive l.tables.schema l.tables.rows (cells_held l.holds) w sent
  settled ordered sent all xid o at = by_kept (tree.get nat_cmp l.transactions xid) refl
    where
      by_kept : (k : Option OpenTransaction) → tree.get nat_cmp l.transactions xid ≡ k
          → IsNamed sent xid o ⊎ ((holder : ℕ) × WaitsByHolds l.tables.schema l.tables.rows (cells_held l.holds) xid o holder)
      by_kept None found = absurd (not_none o (sym (none_open xid found) ∙ at))
      by_kept (Some kept) found =
          elim (All-contains (IsSettledAt l sent) l.transactions.entries (xid, kept) all
          ((btree_map_get_iff nat_cmp_total exact_unsigned l.transactions ordered xid kept).0 found)) [
            | inl counted ↦ inl (counted_is_named xid kept found sent o at counted)
            | inr waits ↦ inr (waits.0, waits.1 o (sym (tied.beside xid o kept at found).wants))
          ]

  pub unsettled : (sent : List (ℕ × ℕ)) (xid : ℕ) (kept : OpenTransaction) → tree.get nat_cmp l.transactions xid ≡ Some kept
      → ¬ (IsSentCount sent xid kept.done) → WantsFromNobody l xid kept.wants → IsUnsettledLive l.tables.schema l.tables.rows (cells_held l.holds) w sent
  unsettled sent xid kept found not passes =
      let (o, at) = is_open xid kept found in
      (xid, o, at, λ named. not (named_is_counted xid kept found sent o at named), passes o (sym (tied.beside xid o kept at found).wants))

  -- ---- whom an open transaction waits for

  module _ (xid : ℕ) (kept : OpenTransaction) (found : tree.get nat_cmp l.transactions xid ≡ Some kept) (o : Opened) (at : get w.opened xid ≡ Some o) where
    its_wants : o.wants ≡ kept.wants
    its_wants = sym (tied.beside xid o kept at found).wants

    pub wanting_waits : (holder : ℕ) → WantsFrom l xid kept.wants holder → WaitsFor l.tables.schema w xid o holder
    wanting_waits holder wants =
        waits_live_tells l.tables.schema l.tables w (records_in l.transactions) tied.kept (cells_held l.holds) tied.holds xid o at holder (wants o its_wants)

    pub wanting_nobody : WantsFromNobody l xid kept.wants → (holder : ℕ) → ¬ (WaitsFor l.tables.schema w xid o holder)
    wanting_nobody wants =
        passes_live_tells l.tables.schema l.tables w (records_in l.transactions) tied.kept (cells_held l.holds) tied.holds xid o at (wants o its_wants)

  -- ---- what the call answers

  module _ (sent : List (ℕ × ℕ)) (waiter : ℕ) where
    abbrev Answers : Option ℕ → Type 0
    Answers r = StopsHeld l.tables.schema w sent waiter r (after_stop w waiter r)

    pub refused_unopened : tree.get nat_cmp l.transactions waiter ≡ None → Answers None
    refused_unopened none =
        stop_is_refused l.tables.schema l.tables w (records_in l.transactions) tied.kept (cells_held l.holds) tied.holds sent waiter (not_open (none_open waiter none))

    pub refused_unsettled : IsUnsettledLive l.tables.schema l.tables.rows (cells_held l.holds) w sent → Answers None
    refused_unsettled (xid, o, at, unnamed, passes) =
        stop_is_refused l.tables.schema l.tables w (records_in l.transactions) tied.kept (cells_held l.holds) tied.holds sent waiter
        (not_settled xid o at unnamed passes)

    pub stops_by : IsSettledLive l.tables.schema l.tables.rows (cells_held l.holds) w sent → (kept : OpenTransaction)
        → tree.get nat_cmp l.transactions waiter ≡ Some kept → (r : Option ℕ) → IfSome r (WantsFrom l waiter kept.wants)
        → IfNone r (WantsFromNobody l waiter kept.wants) → Answers r
    stops_by all kept found None waits passes =
        let (o, at) = is_open waiter kept found in
        stop_is_refused l.tables.schema l.tables w (records_in l.transactions) tied.kept (cells_held l.holds) tied.holds sent waiter
        (not_waiting o at (passes o (sym (tied.beside waiter o kept at found).wants)))
    stops_by all kept found (Some holder) waits passes =
        let (o, at) = is_open waiter kept found in
        stop_is_found l.tables.schema l.tables w (records_in l.transactions) tied.kept (cells_held l.holds) tied.holds sent waiter o at holder all
        (waits o (sym (tied.beside waiter o kept at found).wants))

    -- a store that differs in what stopped it alone
    pub tied_stopped : (holder : ℕ) → Answers (Some holder)
        → RepresentsByHolds (after_stop w waiter (Some holder)) (record l { stopped = Some (StoppedByHold waiter holder) })
    tied_stopped holder stops =
        let still =
        stop_is_kept l.tables.schema l.tables w (records_in l.transactions) tied.kept (cells_held l.holds) tied.holds sent waiter (Some holder)
        (after_stop w waiter (Some holder)) stops in
        record {
          kept = still.0;
          holds = still.1;
          marks = tied.marks;
          beside = tied.beside;
          count = tied.count;
          stopped = refl;
          caused = tt;
          before_image = stop_keeps_before_images l.tables.schema w (records_in l.transactions) (holds_of l.holds) tied.before_image sent waiter (Some holder) (after_stop w waiter (Some holder)) stops;
        }
