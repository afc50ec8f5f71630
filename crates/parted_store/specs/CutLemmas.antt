-- What a truncate of several tables comes to in a world that has the parts.
--     kept_part, waiting_part, left_part      the part of a table, where it is done; where its transaction waits with it; where it is left
--     free_there, held_there, each_free      the table of a part is free, or held; each is free
--     CutsHere, cut_here, cut_beside      lent are the parts of its tables: what it is in each, and beside them
--     cut_done, cut_held      so it is done in the world, or held
use Rattle.std.specs.Prelude.{◌≡◌, ℕ, ◌==◌, Bool, true, false, ◌||◌, List, [], ◌∷◌, Some, None, slice_get, Ok, refl}
use Rattle.std.proofs.Common.{sym, ◌∙◌, ap, subst, append-nil}
use Rattle.std.specs.List.{AllByRecursion}
use Rattle.std.specs.FinMap.{insert}
use Rattle.model.specs.declared.change.Change as change_type
use Rattle.model.specs.declared.change.Change.TheVariants.{Wipe}
use Rattle.model.specs.declared.cell.Cell.TheVariants.{Whole}
use Rattle.model.specs.declared.item.Item.TheVariants.{Change}
use Rattle.model.specs.Footprint.{footprint}
use Rattle.model.specs.Rows.{Schema}
use Rattle.model.specs.Survivors.{survivors}
use Rattle.model.specs.TakenLemmas.{same_number}
use Rattle.world.specs.World.{World, own_rows, IsFree, IsHeldBy}
use Rattle.world.specs.Steps.{Acts, IsDone, Held, done_with, wanting}
use Rattle.engine.specs.Events.{opened_by}
use Rattle.world_parts.specs.ByTable.{names_table, only_if, change_at}
use Rattle.world_parts.specs.Lines.{HasLine}
use Rattle.world_parts.specs.Marks.{mark_for, HasPart}
use Rattle.world_parts.specs.Parts.{wanted_by}
use Rattle.world_parts.specs.Statements.{IsFreeByPart}
use Rattle.world_parts.specs.TruncateLemmas.{wipe_lifts, wait_lifts}
use Rattle.world_parts.specs.ToldLemmas.{tried_here, waits_otherwise, still_here}
use Rattle.table_parts.specs.Part.{Part}
use Rattle.table_parts.specs.Several.{IsSameAs, IsKept}
use Rattle.parted_store.specs.EachPart.{IsBeside}
use Rattle.parted_store.specs.EndLemmas.{stood_by}
use Rattle.parted_store.specs.Lent.{OpenTicket, HasTable, HasTicket}
use Rattle.parted_store.specs.Shares.{Share}
use Rattle.parted_store.specs.Truncating.{CutsHere, HasEach, IsStill, cut_of}

module _ (t : OpenTicket) (sub : ℕ) (c : change_type.Change) (p : Part) (its : change_at p.number c ≡ cut_of p ∷ [])
    (w : World) (has : HasTable w p) (at : HasTicket w t) (share : Share) (number : share.number ≡ t.number) where
  -- a part with the same line, in a world with the same start and commits
  as_before : (now : World) (q : Part) → IsSameAs p q → HasLine p.number now q.store.world → HasPart p.number now q.store.world → HasTable now q
  as_before now q same line is = record {
    is = subst (λ (n : ℕ). HasPart n now q.store.world) (sym same.number) is;
    line = subst (λ (n : ℕ). HasLine n now q.store.world) (sym same.number) line;
  }

  -- it is done there, under the latest mark
  pub kept_part : (mark : ℕ) → mark ≡ mark_for t.number sub (survivors t.number (opened_by t.events).items) → (q : Part) (new : Share)
      → IsKept p share mark (cut_of p) q new → HasTable (done_with w t.number (opened_by t.events) (Change sub c)) q
  kept_part mark mark_is q new did =
      as_before (done_with w t.number (opened_by t.events) (Change sub c)) q did.same
      (subst (HasLine p.number (done_with w t.number (opened_by t.events) (Change sub c))) (sym did.acts.3) (record { start = has.line.start; line = has.line.line }))
      (subst (HasPart p.number (done_with w t.number (opened_by t.events) (Change sub c)))
      (sym (did.acts.3 ∙ (λ i. done_with p.store.world (number i) (opened_by share.list) (Change (mark_is i) (cut_of p)))))
      (tried_here p.number w p.store.world has.is t.number (opened_by t.events) (opened_by share.list) at
      (stood_by t p w has at share number did.stood) sub c (cut_of p) IsDone its))

  module _ (q : Part) (new : Share) (waits : Bool) (still : IsStill waits p share q new) where
    -- its world, by the number of the ticket
    still_world : q.store.world ≡ record p.store.world { opened = insert p.store.world.opened t.number (opened_by new.list) }
    still_world = still.world ∙ ap (λ (n : ℕ). record p.store.world { opened = insert p.store.world.opened n (opened_by new.list) }) number

    still_items : survivors t.number (opened_by new.list).items ≡ survivors t.number (opened_by share.list).items
    still_items = subst (λ (n : ℕ). survivors n (opened_by new.list).items ≡ survivors n (opened_by share.list).items) number still.items

    -- its transaction waits there with the truncate
    pub waiting_part : wanted_by (opened_by new.list).wants ≡ cut_of p ∷ [] → HasTable (wanting w t.number (opened_by t.events) sub c) q
    waiting_part with_it =
        as_before (wanting w t.number (opened_by t.events) sub c) q still.same
        (subst (HasLine p.number (wanting w t.number (opened_by t.events) sub c)) (sym still.world) (record { start = has.line.start; line = has.line.line }))
        (subst (HasPart p.number (wanting w t.number (opened_by t.events) sub c)) (sym still_world)
        (waits_otherwise p.number w p.store.world has.is t.number (opened_by t.events) (opened_by share.list) at
        (stood_by t p w has at share number still.stood) (Some (sub, c)) (opened_by new.list) still_items
        (with_it ∙ sym its ∙ sym (append-nil (change_at p.number c)))))

    -- it is left
    pub left_part : waits ≡ true → HasTable w q
    left_part as_it_did =
        as_before w q still.same
        (subst (HasLine p.number w) (sym still.world) (record { start = has.line.start; line = has.line.line }))
        (subst (HasPart p.number w) (sym still_world)
        (still_here p.number w p.store.world has.is t.number (opened_by t.events) (opened_by share.list) at
        (stood_by t p w has at share number still.stood) (opened_by new.list) still_items (still.wants as_it_did)))

-- ---- the step of the world

-- where it is done in the part of a table, that table is free there
pub free_there : (p : Part) (share : Share) (mark : ℕ) (q : Part) (new : Share) → IsKept p share mark (cut_of p) q new
    → IsFree p.store.schema p.store.world share.number (Whole p.number ∷ [])
unfolding footprint
free_there p share mark q new did = did.acts.1

-- where another transaction is in its way there, it holds the table
pub held_there : (p : Part) (share : Share) (holder : ℕ)
    → IsHeldBy p.store.schema p.store.world share.number (footprint p.store.schema (own_rows p.store.schema p.store.world share.number (opened_by share.list)) (cut_of p)) holder
    → IsHeldBy p.store.schema p.store.world share.number (Whole p.number ∷ []) holder
unfolding footprint
held_there p share holder held = held

-- each of the tables has a part in the world that is free
module _ (schema : Schema) (w : World) (xid : ℕ) (all : List ℕ) (each : (table : ℕ) → names_table all table ≡ true → IsFreeByPart schema w xid table) where
  or_true : (a b : Bool) → b ≡ true → (a || b) ≡ true
  or_true true b e = refl
  or_true false b e = e

  free_among : (tables : List ℕ) → ((table : ℕ) → names_table tables table ≡ true → names_table all table ≡ true) → AllByRecursion (IsFreeByPart schema w xid) tables
  free_among [] among = tt
  free_among (table ∷ tables) among = (
    each table (among table (ap (λ b. b || names_table tables table) (same_number table))),
    free_among tables (λ other named. among other (or_true (other == table) (names_table tables other) named)),
  )

  pub each_free : AllByRecursion (IsFreeByPart schema w xid) all
  each_free = free_among all (λ table named. named)

module _ (c : change_type.Change) (tables : List ℕ) (parts : List Part) (here : CutsHere c tables parts) where
  -- it is one in each of these
  pub cut_here : (i : ℕ) (p : Part) → slice_get parts i ≡ Some p → change_at p.number c ≡ cut_of p ∷ []
  cut_here i p there =
      subst (λ (d : change_type.Change). change_at p.number d ≡ cut_of p ∷ []) (sym here.is)
      (ap (λ b. only_if b (cut_of p)) (here.each i p there))

  -- and in no other
  pub cut_beside : (table : ℕ) → IsBeside parts table → change_at table c ≡ []
  cut_beside table beside =
      subst (λ (d : change_type.Change). change_at table d ≡ []) (sym here.is)
      (by (names_table tables table) refl)
    where
      by : (b : Bool) → names_table tables table ≡ b → only_if b (Wipe (table ∷ [])) ≡ []
      by true named = let part = here.all table named in absurd (beside part.0 part.1 part.2 part.3)
      by false named = refl

  module _ (t : OpenTicket) (sub : ℕ) (w : World) (schema : Schema) (have : HasEach w schema parts)
      (runs : w.stopped ≡ None) where
    -- it is done in the world, where it is in each part
    pub cut_done : ((i : ℕ) (p : Part) → slice_get parts i ≡ Some p → IsFree p.store.schema p.store.world t.number (Whole p.number ∷ []))
        → Acts schema w t.number (opened_by t.events) sub c (Ok IsDone) (done_with w t.number (opened_by t.events) (Change sub c))
    cut_done free =
        subst (λ (d : change_type.Change). Acts schema w t.number (opened_by t.events) sub d (Ok IsDone) (done_with w t.number (opened_by t.events) (Change sub d)))
        (sym here.is)
        (wipe_lifts schema w t.number (opened_by t.events) runs sub tables (each_free schema w t.number tables (λ table named. by table (here.all table named))))
      where
        by : (table : ℕ) → (i : ℕ) × (p : Part) × (slice_get parts i ≡ Some p) × (p.number ≡ table) → IsFreeByPart schema w t.number table
        by table part =
            let had = have part.0 part.1 part.2 in
            subst (IsFreeByPart schema w t.number) part.3
            (part.1.store.world, had.0.is.0, subst (λ (s : Schema). IsFree s part.1.store.world t.number (Whole part.1.number ∷ [])) had.1 (free part.0 part.1 part.2))

    -- it is held, where it is in one
    pub cut_held : (i : ℕ) (p : Part) → slice_get parts i ≡ Some p → (holder : ℕ) → IsHeldBy p.store.schema p.store.world t.number (Whole p.number ∷ []) holder
        → Acts schema w t.number (opened_by t.events) sub c (Ok (Held holder)) (wanting w t.number (opened_by t.events) sub c)
    cut_held i p there holder held =
        let had = have i p there in
        subst (λ (d : change_type.Change). Acts schema w t.number (opened_by t.events) sub d (Ok (Held holder)) (wanting w t.number (opened_by t.events) sub d))
        (sym here.is)
        (wait_lifts schema w t.number (opened_by t.events) runs sub tables p.number p.store.world had.0.is.0 (here.each i p there) holder
        (subst (λ (s : Schema). IsHeldBy s p.store.world t.number (Whole p.number ∷ []) holder) had.1 held))
