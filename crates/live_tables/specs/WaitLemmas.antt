-- The laws of who waits for whom.
--     one_held_in_world, world_held_by_one      another has a cell, by the holds and in the world
--     free_or_held      nobody else has one of these cells, or somebody has
use Rattle.std.proofs.Common.{◌≡◌, ◌≢◌, ℕ, ◌||◌, ◌⊎◌, true, false, List, [], ◌∷◌, Option, Some, None, refl, sym, ap, subst, ◌∙◌, arith, inl, inr, true≢false}
use Rattle.std.specs.Prelude.{All}
use Rattle.std.specs.List.{Contains, AllByRecursion, list_any}
use Rattle.std.specs.FinMap as finite
use Rattle.std.specs.FinMap.{get, entries}
use Rattle.std.proofs.lemmas.Bool.{cases_Bool}
use Rattle.std.proofs.lemmas.List.Elements.{All-nil, All-cons}
use Rattle.model.specs.declared.change.Change.{Change}
use Rattle.model.specs.declared.cell.Cell.{Cell}
use Rattle.model.specs.Rows.{Schema}
use Rattle.model.specs.Cells.{overlaps}
use Rattle.model.specs.Footprint.{looked_up, footprint, shares_cell}
use Rattle.model.specs.FootprintLemmas.{looked_up_meets}
use Rattle.model.specs.ValidLemmas.{not_none}
use Rattle.indexes.specs.Content.{Content}
use Rattle.change.specs.InverseLemmas.{contains_here, contains_later}
use Rattle.savepoint.specs.Record.{Record}
use Rattle.keyholds.specs.Holds.{IsFreeCell}
use Rattle.world.specs.World.{Opened, World, own_rows, holds, IsHeldBy, IsFree}
use Rattle.world.specs.Settled.{WaitsFor}
use Rattle.world.specs.Live.{Reordered, same, under, swapped, through}
use Rattle.world.specs.FineLemmas.{same_some}
use Rattle.world.specs.ListingLemmas.{xid_cases, reordered_back, listed_first, each_found}
use Rattle.world.specs.WorldLemmas.{footprint_live}
use Rattle.live_tables.specs.KeptRecords.{Represents}
use Rattle.live_tables.specs.Held.{AreHolds}
use Rattle.live_tables.specs.HoldsLemmas.{share_one, free_in_world}
use Rattle.live_tables.specs.Waits.{IsOneHeldBy, WaitsLive, PassesLive, not_open, not_waiting, not_settled}
use Rattle.live_tables.specs.ReadStatements.{WaitsLiveTells, PassesLiveTells, WaitingIsLive, StopIsFound, StopIsRefused, SharedIsHeld}

-- ---- two lists of cells that share one

met : (cell : Cell) (others : List Cell) → list_any (overlaps cell) others ≡ true → (d : Cell) × Contains others d × (overlaps cell d ≡ true)
met cell [] meets = absurd (true≢false (sym meets))
met cell (d ∷ others) meets =
    elim (cases_Bool (overlaps cell d)) [
      | inl here ↦ (d, contains_here d others, here)
      | inr not ↦
          let rest = met cell others (ap (λ b. b || list_any (overlaps cell) others) (sym not) ∙ meets) in
          (rest.0, contains_later d others rest.0 rest.1, rest.2)
    ]

shared : (cells others : List Cell) → shares_cell cells others ≡ true → (c : Cell) × Contains cells c × (d : Cell) × Contains others d × (overlaps c d ≡ true)
shared [] others meets = absurd (true≢false (sym meets))
shared (cell ∷ cells) others meets =
    elim (cases_Bool (list_any (overlaps cell) others)) [
      | inl here ↦ let one = met cell others here in (cell, contains_here cell cells, one.0, one.1, one.2)
      | inr not ↦
          let rest = shared cells others (ap (λ b. b || shares_cell cells others) (sym not) ∙ meets) in
          (rest.0, contains_later cell cells rest.0 rest.1, rest.2, rest.3, rest.4)
    ]

-- each element has it
all_of : {X : Type 0} (P : X → Type 0) (xs : List X) → ((x : X) → Contains xs x → P x) → All P xs
all_of P [] each = All-nil P
all_of P (x ∷ xs) each = All-cons P x xs (each x (contains_here x xs)) (all_of P xs (λ y is. each y (contains_later x xs y is)))

-- ---- by the holds and in the world

module _ (schema : Schema) (w : World) (held : ℕ → List Cell) (are : AreHolds schema w held) where
  pub one_held_in_world : (xid : ℕ) (cells : List Cell) (holder : ℕ) → IsOneHeldBy held xid cells holder → IsHeldBy schema w xid cells holder
  one_held_in_world xid cells holder one = by_open (get w.opened holder) refl
    where
      by_open : (found : Option Opened) → get w.opened holder ≡ found → IsHeldBy schema w xid cells holder
      by_open None at =
          absurd (let none : Contains [] one.2.its = subst (λ (cs : List Cell). Contains cs one.2.its) (are.none holder at) one.2.holds in omega (arith, none.1))
      by_open (Some o) at =
          (one.2.another, o, at, share_one cells (holds schema w holder o) one.0 one.2.its one.1 ((are.its holder o at one.2.its).0 one.2.holds) one.2.overlap)

  pub world_held_by_one : (xid : ℕ) (cells : List Cell) (holder : ℕ) → IsHeldBy schema w xid cells holder → IsOneHeldBy held xid cells holder
  world_held_by_one xid cells holder has =
      let meets = shared cells (holds schema w holder has.1) has.3 in
      (meets.0, meets.1, record { another = has.0; its = meets.2; holds = (are.its holder has.1 has.2 meets.2).1 meets.3; overlap = meets.4 })

  pub all_free_by_holds : (xid : ℕ) (cells : List Cell) → IsFree schema w xid cells → All (IsFreeCell held xid) cells
  all_free_by_holds xid cells free = all_of (IsFreeCell held xid) cells (λ cell its other d differs has. by_open cell its other d differs has (get w.opened other) refl)
    where
      by_open : (cell : Cell) → Contains cells cell → (other : ℕ) (d : Cell) → other ≢ xid → Contains (held other) d
          → (found : Option Opened) → get w.opened other ≡ found → overlaps cell d ≡ false
      by_open cell its other d differs has None at =
          absurd (let none : Contains [] d = subst (λ (cs : List Cell). Contains cs d) (are.none other at) has in omega (arith, none.1))
      by_open cell its other d differs has (Some o) at =
          elim (cases_Bool (overlaps cell d)) [
            | inr apart ↦ apart
            | inl meets ↦
                absurd (true≢false (sym (share_one cells (holds schema w other o) cell d its ((are.its other o at d).0 has) meets) ∙ free other o differs at))
          ]

-- nobody else has one of these cells, and somebody has
pub not_both : (schema : Schema) (w : World) (xid : ℕ) (cells : List Cell) (holder : ℕ) → IsFree schema w xid cells → ¬ (IsHeldBy schema w xid cells holder)
not_both schema w xid cells holder free has = true≢false (sym has.3 ∙ free holder has.1 has.0 has.2)

-- ---- nobody else has one, or somebody has

each_reordered : {A : Type 0} (P : A → Type 0) (xs ys : List A) → Reordered xs ys → AllByRecursion P xs → AllByRecursion P ys
each_reordered P _ _ same all = all
each_reordered P _ _ (under x {xs = xs} {ys = ys} rest) all = (all.0, each_reordered P xs ys rest all.1)
each_reordered P _ _ (swapped x y xs) all = (all.1.0, (all.0, all.1.1))
each_reordered P _ _ (through {xs = xs} {ys = ys} {zs = zs} first rest) all = each_reordered P ys zs rest (each_reordered P xs ys first all)

module _ (schema : Schema) (w : World) (xid : ℕ) (cells : List Cell) where
  abbrev IsApart : ℕ × Opened → Type 0
  IsApart t = t.0 ≢ xid → shares_cell cells (holds schema w t.0 t.1) ≡ false

  apart_or_held : (t : ℕ × Opened) → get w.opened t.0 ≡ Some t.1 → IsApart t ⊎ IsHeldBy schema w xid cells t.0
  apart_or_held t at =
      elim (xid_cases t.0 xid) [
        | inl own ↦ inl (λ differs. absurd (differs own))
        | inr differs ↦
            elim (cases_Bool (shares_cell cells (holds schema w t.0 t.1))) [
              | inl meets ↦ inr (differs, t.1, at, meets)
              | inr free ↦ inl (λ d. free)
            ]
      ]

  among : (listing : List (ℕ × Opened)) → AllByRecursion (λ (t : ℕ × Opened). get w.opened t.0 ≡ Some t.1) listing
      → AllByRecursion IsApart listing ⊎ ((holder : ℕ) × IsHeldBy schema w xid cells holder)
  among [] are = inl tt
  among (t ∷ listing) are =
      elim (apart_or_held t are.0) [
        | inr has ↦ inr (t.0, has)
        | inl apart ↦
            elim (among listing are.1) [
              | inr has ↦ inr has
              | inl rest ↦ inl (apart, rest)
            ]
      ]

  pub free_or_held : IsFree schema w xid cells ⊎ ((holder : ℕ) × IsHeldBy schema w xid cells holder)
  free_or_held =
      elim (among (entries w.opened) (each_found w.opened)) [
        | inr has ↦ inr has
        | inl all ↦ inl (λ other o differs at.
            (each_reordered IsApart (entries w.opened) ((other, o) ∷ entries (finite.remove w.opened other))
            (reordered_back ((other, o) ∷ entries (finite.remove w.opened other)) (entries w.opened) (listed_first w.opened other o at)) all).0 differs)
      ]

-- ---- on the live rows

module _ (schema : Schema) (t : Content) (w : World) (records : ℕ → Option Record) (kept : Represents schema t w records) (held : ℕ → List Cell)
    (are : AreHolds schema w held) (xid : ℕ) (o : Opened) (is : get w.opened xid ≡ Some o) (c : Change) where
  same_footprint : IsFree schema w xid (looked_up c) → footprint schema t.rows c ≡ footprint schema (own_rows schema w xid o) c
  same_footprint = footprint_live schema w kept.fine xid o is t.rows kept.live c

  own_held : (holder : ℕ) → WaitsLive schema t.rows held xid c holder → IsHeldBy schema w xid (footprint schema (own_rows schema w xid o) c) holder
  own_held holder (inl row) =
      let has = one_held_in_world schema w held are xid (looked_up c) holder row in
      (has.0, has.1, has.2, looked_up_meets schema (own_rows schema w xid o) c (holds schema w holder has.1) has.3)
  own_held holder (inr all) =
      subst (λ (cells : List Cell). IsHeldBy schema w xid cells holder) (same_footprint (free_in_world schema w held are xid (looked_up c) all.0))
      (one_held_in_world schema w held are xid (footprint schema t.rows c) holder all.1)

  own_free : PassesLive schema t.rows held xid c → IsFree schema w xid (footprint schema (own_rows schema w xid o) c)
  own_free free =
      subst (IsFree schema w xid) (same_footprint (free_in_world schema w held are xid (looked_up c) free.0)) (free_in_world schema w held are xid (footprint schema t.rows c) free.1)

  held_live : (holder : ℕ) → IsHeldBy schema w xid (footprint schema (own_rows schema w xid o) c) holder → (other : ℕ) × WaitsLive schema t.rows held xid c other
  held_live holder has =
      elim (free_or_held schema w xid (looked_up c)) [
        | inr row ↦ (row.0, inl (world_held_by_one schema w held are xid (looked_up c) row.0 row.1))
        | inl free ↦ (
          holder,
          inr (
            all_free_by_holds schema w held are xid (looked_up c) free,
            world_held_by_one schema w held are xid (footprint schema t.rows c) holder
                (subst (λ (cells : List Cell). IsHeldBy schema w xid cells holder) (sym (same_footprint free)) has),
          ),
        )
      ]

pub waits_live_tells : WaitsLiveTells
waits_live_tells schema t w records kept held are xid o is holder waits =
    (waits.0, waits.1, waits.2, own_held schema t w records kept held are xid o is waits.1 holder waits.3)

same_wants : (one two : Option (ℕ × Change)) (sub other : ℕ) (c d : Change) → one ≡ two → one ≡ Some (sub, c) → two ≡ Some (other, d) → c ≡ d
same_wants one two sub other c d e first second = ap (λ (p : ℕ × Change). p.1) (same_some (sub, c) (other, d) (sym first ∙ e ∙ second))

pub passes_live_tells : PassesLiveTells
passes_live_tells schema t w records kept held are xid o is (inl none) holder waits = not_none (waits.0, waits.1) (sym none ∙ waits.2)
passes_live_tells schema t w records kept held are xid o is (inr free) holder waits =
    not_both schema w xid (footprint schema (own_rows schema w xid o) free.1) holder (own_free schema t w records kept held are xid o is free.1 free.3)
    (subst (λ (d : Change). IsHeldBy schema w xid (footprint schema (own_rows schema w xid o) d) holder)
    (same_wants o.wants o.wants waits.0 free.0 waits.1 free.1 refl waits.2 free.2) waits.3)

pub waiting_is_live : WaitingIsLive
waiting_is_live schema t w records kept held are xid o is holder waits =
    let live = held_live schema t w records kept held are xid o is waits.1 holder waits.3 in
    (live.0, (waits.0, waits.1, waits.2, live.1))

pub shared_is_held : SharedIsHeld
shared_is_held schema w held are xid cells = (
  λ holder differs meets.
      let one = shared cells (held holder) meets in
      (one.0, one.1, record { another = differs; its = one.2; holds = one.3; overlap = one.4 }),
  λ apart. all_of (IsFreeCell held xid) cells (λ cell its other d differs has. free_by_open cells apart cell its other d differs has (get w.opened other) refl),
)
  where
    free_by_open : (cells : List Cell) → ((other : ℕ) (o : Opened) → other ≢ xid → get w.opened other ≡ Some o → shares_cell cells (held other) ≡ false)
        → (cell : Cell) → Contains cells cell → (other : ℕ) (d : Cell) → other ≢ xid → Contains (held other) d
        → (found : Option Opened) → get w.opened other ≡ found → overlaps cell d ≡ false
    free_by_open cells apart cell its other d differs has None at =
        absurd (let none : Contains [] d = subst (λ (cs : List Cell). Contains cs d) (are.none other at) has in omega (arith, none.1))
    free_by_open cells apart cell its other d differs has (Some o) at =
        elim (cases_Bool (overlaps cell d)) [
          | inr free ↦ free
          | inl meets ↦ absurd (true≢false (sym (share_one cells (held other) cell d its has meets) ∙ apart other o differs at))
        ]

-- ---- the call that stops a world

pub stop_is_found : StopIsFound
stop_is_found schema t w records kept held are sent waiter o is holder settled waits = (
  (
    λ xid p at.
        elim (settled xid p at) [
          | inl named ↦ inl named
          | inr waiting ↦ inr (waiting.0, waits_live_tells schema t w records kept held are xid p at waiting.0 waiting.1)
        ],
    o,
    is,
    waits_live_tells schema t w records kept held are waiter o is holder waits,
  ),
  refl,
)

pub stop_is_refused : StopIsRefused
stop_is_refused schema t w records kept held are sent waiter (not_open none) = (λ holder stuck. not_none stuck.1 (sym none ∙ stuck.2), refl)
stop_is_refused schema t w records kept held are sent waiter (not_waiting o is waits) = (
  λ holder stuck. let one : stuck.1 ≡ o = same_some stuck.1 o (sym stuck.2 ∙ is) in
      passes_live_tells schema t w records kept held are waiter o is waits holder (subst (λ (p : Opened). WaitsFor schema w waiter p holder) one stuck.3),
  refl,
)
stop_is_refused schema t w records kept held are sent waiter (not_settled xid o is unnamed waits) = (
  λ holder stuck. elim (stuck.0 xid o is) [
    | inl named ↦ unnamed named
    | inr waiting ↦ passes_live_tells schema t w records kept held are xid o is waits waiting.0 waiting.1
  ],
  refl,
)
