-- The laws of a store's holds.
--     free_in_world, held_in_world      what the holds answer is so in the world
--     holds_opened, holds_taken, holds_same, holds_touched, holds_aborted, holds_committed      they are the world's after each
use Rattle.std.proofs.Common.{◌≡◌, ◌≢◌, ℕ, zero, suc, ◌⊎◌, Bool, true, false, ◌||◌, List, [], ◌∷◌, ◌++◌, Option, Some, None, refl, sym, ap, subst, ◌∙◌, inl, inr, arith}
use Rattle.std.specs.Prelude.{◌↔◌, All, slice_get}
use Rattle.std.specs.List.{Contains, list_any}
use Rattle.std.specs.FinMap as finite
use Rattle.std.specs.FinMap.{get}
use Rattle.std.proofs.lemmas.List.Elements.{All-contains, Contains-append_left, Contains-append_right, Contains-append_cases}
use Rattle.model.specs.declared.change.Change as change_type
use Rattle.model.specs.declared.cell.Cell.{Cell}
use Rattle.model.specs.declared.item.Item.TheVariants.{Change, Touch}
use Rattle.model.specs.declared.item.CommitInfo.{CommitInfo}
use Rattle.model.specs.Rows.{Schema}
use Rattle.model.specs.Cells.{overlaps}
use Rattle.model.specs.Footprint.{footprint, held_cells, shares_cell}
use Rattle.model.specs.OverlapLemmas.{neither}
use Rattle.model.specs.SerialLemmas.{held_append}
use Rattle.model.specs.SurvivorLemmas.{work_with_change, work_with_touch}
use Rattle.model.specs.ValidLemmas.{not_none}
use Rattle.change.specs.InverseLemmas.{contains_first, contains_here, contains_later}
use Rattle.keyholds.specs.Holds.{IsFreeCell, IsFirstHeldBy}
use Rattle.world.specs.World.{Opened, Stop, World, work, own_rows, holds, IsHeldBy, IsFree}
use Rattle.world.specs.Steps.{opened_with, done_with, aborted_with, committed_with}
use Rattle.world.specs.FineLemmas.{put_cases, gone_cases, holds_stay}
use Rattle.world.specs.Fine.{IsFine}
use Rattle.world.specs.ListingLemmas.{xid_cases, got_same, got_other, gone_other}
use Rattle.live_tables.specs.Held.{HasSameCells, AreHolds, IsHeldAt}
use Rattle.live_tables.specs.Statements.{HoldsTellTheWorld, OpenIsHeld, TakenIsHeld, SameIsHeld, AbortIsHeld, CommitIsHeld}

-- ---- what two lists share

pub free_of_others : (cell : Cell) (others : List Cell) → ((d : Cell) → Contains others d → overlaps cell d ≡ false) → list_any (overlaps cell) others ≡ false
free_of_others cell [] apart = refl
free_of_others cell (other ∷ others) apart =
    neither _ _ (apart other (contains_here other others)) (free_of_others cell others (λ d is. apart d (contains_later other others d is)))

pub share_none : (cells others : List Cell) → ((c d : Cell) → Contains cells c → Contains others d → overlaps c d ≡ false) → shares_cell cells others ≡ false
share_none [] others apart = refl
share_none (cell ∷ cells) others apart =
    neither _ _ (free_of_others cell others (λ d is. apart cell d (contains_here cell cells) is))
    (share_none cells others (λ c d is too. apart c d (contains_later cell cells c is) too))

or_true : (a b : Bool) → b ≡ true → (a || b) ≡ true
or_true true b e = refl
or_true false b e = e

pub meets_one : (cell d : Cell) (others : List Cell) → Contains others d → overlaps cell d ≡ true → list_any (overlaps cell) others ≡ true
meets_one cell d [] is meets = absurd (omega (arith, is.1))
meets_one cell d (other ∷ others) is meets =
    elim (contains_first other others d is) [
      | inl same ↦ ap (λ b. b || list_any (overlaps cell) others) (ap (overlaps cell) same ∙ meets)
      | inr later ↦ or_true _ _ (meets_one cell d others later meets)
    ]

pub share_one : (cells others : List Cell) (c d : Cell) → Contains cells c → Contains others d → overlaps c d ≡ true → shares_cell cells others ≡ true
share_one [] others c d is too meets = absurd (omega (arith, is.1))
share_one (cell ∷ cells) others c d is too meets =
    elim (contains_first cell cells c is) [
      | inl same ↦ ap (λ b. b || shares_cell cells others) (meets_one cell d others too (ap (λ (e : Cell). overlaps e d) same ∙ meets))
      | inr later ↦ or_true _ _ (share_one cells others c d later too meets)
    ]

pub contains_at : (cells : List Cell) (i : ℕ) (cell : Cell) → slice_get cells i ≡ Some cell → Contains cells cell
contains_at [] i cell at = cc
contains_at (first ∷ cells) zero cell at = subst (λ (c : Cell). Contains (first ∷ cells) c) (let same : first ≡ cell = cc in same) (contains_here first cells)
contains_at (first ∷ cells) (suc i) cell at = contains_later first cells cell (contains_at cells i cell at)

module _ (schema : Schema) (w : World) (held : ℕ → List Cell) (are : AreHolds schema w held) where
  -- ---- what they answer

  -- cells that are free by the holds are free in the world
  pub free_in_world : (xid : ℕ) (cells : List Cell) → All (IsFreeCell held xid) cells → IsFree schema w xid cells
  free_in_world xid cells free other o differs at =
      share_none cells (holds schema w other o) (λ c d is too. All-contains (IsFreeCell held xid) cells c free is other d differs ((are.its other o at d).1 too))

  -- whoever holds the first of them that another has holds one in the world
  pub held_in_world : (xid : ℕ) (cells : List Cell) (holder : ℕ) → IsFirstHeldBy held xid cells holder → IsHeldBy schema w xid cells holder
  held_in_world xid cells holder first = by_open (get w.opened holder) refl
    where
      by_open : (found : Option Opened) → get w.opened holder ≡ found → IsHeldBy schema w xid cells holder
      by_open None at =
          absurd (let none : Contains [] first.here.its = subst (λ (cs : List Cell). Contains cs first.here.its) (are.none holder at) first.here.holds in omega (arith, none.1))
      by_open (Some o) at = (
        first.here.another,
        o,
        at,
        share_one cells (holds schema w holder o) first.cell first.here.its (contains_at cells first.address first.cell first.at)
            ((are.its holder o at first.here.its).0 first.here.holds) first.here.overlap,
      )

  -- ---- after each call

  pub holds_opened : (xid : ℕ) → get w.opened xid ≡ None → AreHolds schema (opened_with w xid) held
  holds_opened xid absent = record {
    its = λ other p at.
        elim (put_cases w.opened xid (record { items = []; wants = None }) other p at) [
          | inl is ↦
              let empty : held other ≡ [] = ap held is.0 ∙ are.none xid absent in
              let nothing : holds schema w other p ≡ [] = ap (λ (n : ℕ). holds schema w n p) is.0 ∙ ap (holds schema w xid) is.1 in
              λ cell. (
                (λ has. subst (λ (cs : List Cell). Contains cs cell) (empty ∙ sym nothing) has),
                (λ has. subst (λ (cs : List Cell). Contains cs cell) (nothing ∙ sym empty) has),
              )
          | inr was ↦ are.its other p was.1
        ];
    none = λ other at.
        elim (xid_cases other xid) [
          | inl is ↦ absurd (not_none (record { items = []; wants = None }) (sym at ∙ ap (get (opened_with w xid).opened) is ∙ got_same w.opened xid (record { items = []; wants = None })))
          | inr differs ↦ are.none other (sym (got_other w.opened xid (record { items = []; wants = None }) other differs) ∙ at)
        ];
  }

  module _ (xid : ℕ) (o : Opened) (is : get w.opened xid ≡ Some o) where
    -- it has another record, and holds these
    pub holds_put : (later : Opened) (stopped : Option Stop) (new : ℕ → List Cell)
        → ((other : ℕ) → other ≢ xid → new other ≡ held other) → HasSameCells (new xid) (holds schema w xid later)
        → AreHolds schema (record w { opened = finite.insert w.opened xid later; stopped = stopped }) new
    holds_put later stopped new beside same = record {
      its = λ other p at.
          elim (put_cases w.opened xid later other p at) [
            | inl here ↦
                subst (λ (n : ℕ). HasSameCells (new n) (holds schema w n p)) (sym here.0)
                (subst (λ (q : Opened). HasSameCells (new xid) (holds schema w xid q)) (sym here.1) same)
            | inr was ↦ subst (λ (cs : List Cell). HasSameCells cs (holds schema w other p)) (sym (beside other was.0)) (are.its other p was.1)
          ];
      none = λ other at.
          elim (xid_cases other xid) [
            | inl here ↦ absurd (not_none later (sym at ∙ ap (get (finite.insert w.opened xid later)) here ∙ got_same w.opened xid later))
            | inr differs ↦ beside other differs ∙ are.none other (sym (got_other w.opened xid later other differs) ∙ at)
          ];
    }

    -- a change was done or skipped, and its cells were taken
    pub holds_taken : (sub : ℕ) (c : change_type.Change) (new : ℕ → List Cell) → ((other : ℕ) → other ≢ xid → new other ≡ held other)
        → ((cell : Cell) → Contains (new xid) cell ↔ (Contains (held xid) cell ⊎ Contains (footprint schema (own_rows schema w xid o) c) cell))
        → AreHolds schema (done_with w xid o (Change sub c)) new
    holds_taken sub c new beside taken =
        holds_put (record { items = o.items ++ Change sub c ∷ []; wants = None }) w.stopped new beside
        (subst (λ cs. HasSameCells (new xid) (held_cells schema w.committed cs)) (sym (work_with_change xid sub o.items c))
        (subst (HasSameCells (new xid)) (sym (held_append schema w.committed (work xid o) (c ∷ []))) same))
      where
        same : HasSameCells (new xid) (holds schema w xid o ++ (footprint schema (own_rows schema w xid o) c ++ []))
        same cell = (
          (λ has. elim ((taken cell).0 has) [
            | inl was ↦ Contains-append_left (holds schema w xid o) (footprint schema (own_rows schema w xid o) c ++ []) cell ((are.its xid o is cell).0 was)
            | inr now ↦
                Contains-append_right (holds schema w xid o) (footprint schema (own_rows schema w xid o) c ++ []) cell
                (Contains-append_left (footprint schema (own_rows schema w xid o) c) [] cell now)
          ]),
          (λ has. elim (Contains-append_cases (holds schema w xid o) (footprint schema (own_rows schema w xid o) c ++ []) cell has) [
            | inl was ↦ (taken cell).1 (inl ((are.its xid o is cell).1 was))
            | inr now ↦
                elim (Contains-append_cases (footprint schema (own_rows schema w xid o) c) [] cell now) [
                  | inl its ↦ (taken cell).1 (inr its)
                  | inr nothing ↦ absurd (omega (arith, nothing.1))
                ]
          ]),
        )

    -- what changes none of its work leaves what it holds: a touch, and a change that it wants
    pub holds_same : (later : Opened) (stopped : Option Stop) → work xid later ≡ work xid o
        → AreHolds schema (record w { opened = finite.insert w.opened xid later; stopped = stopped }) held
    holds_same later stopped same =
        holds_put later stopped held (λ other differs. refl)
        (subst (λ cs. HasSameCells (held xid) (held_cells schema w.committed cs)) (sym same) (are.its xid o is))

    pub holds_touched : (sub : ℕ) → AreHolds schema (done_with w xid o (Touch sub)) held
    holds_touched sub = holds_same (record { items = o.items ++ Touch sub ∷ []; wants = None }) w.stopped (work_with_touch xid sub o.items)

    -- it is gone, and holds nothing
    pub holds_aborted : (new : ℕ → List Cell) → IsHeldAt held xid [] new → AreHolds schema (aborted_with w xid) new
    holds_aborted new gone = record {
      its = λ other p at.
          let was = gone_cases w.opened xid other p at in
          subst (λ (cs : List Cell). HasSameCells cs (holds schema w other p)) (sym (gone.beside other was.0)) (are.its other p was.1);
      none = λ other at.
          elim (xid_cases other xid) [
            | inl here ↦ ap new here ∙ gone.here
            | inr differs ↦ gone.beside other differs ∙ are.none other (sym (gone_other w.opened xid other differs) ∙ at)
          ];
    }

    pub holds_committed : IsFine schema w → (info : CommitInfo) (new : ℕ → List Cell) → IsHeldAt held xid [] new
        → AreHolds schema (committed_with schema w xid o info) new
    holds_committed fine info new gone = record {
      its = λ other p at.
          let was = gone_cases w.opened xid other p at in
          subst (λ (cs : List Cell). HasSameCells cs (holds schema (committed_with schema w xid o info) other p)) (sym (gone.beside other was.0))
          (subst (HasSameCells (held other)) (holds_stay schema w fine xid o info is other p was.0 was.1) (are.its other p was.1));
      none = λ other at.
          elim (xid_cases other xid) [
            | inl here ↦ ap new here ∙ gone.here
            | inr differs ↦ gone.beside other differs ∙ are.none other (sym (gone_other w.opened xid other differs) ∙ at)
          ];
    }

-- ---- the laws

pub holds_tell_the_world : HoldsTellTheWorld
holds_tell_the_world schema w held are xid cells = (free_in_world schema w held are xid cells, held_in_world schema w held are xid cells)

pub open_is_held : OpenIsHeld
open_is_held = holds_opened

pub taken_is_held : TakenIsHeld
taken_is_held = holds_taken

pub same_is_held : SameIsHeld
same_is_held schema w held are xid o is = (
  holds_touched schema w held are xid o is,
  λ sub c stopped. holds_same schema w held are xid o is (record o { wants = Some (sub, c) }) stopped refl,
)

pub abort_is_held : AbortIsHeld
abort_is_held = holds_aborted

pub commit_is_held : CommitIsHeld
commit_is_held = holds_committed
