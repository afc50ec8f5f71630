-- For whom a transaction waits, by the parts of the tables in which it waits.
--     waits_lifts      for whom it waits in a part it waits in the world
--     WaitsForNobodyIn, nobody_lifts      it waits for nobody in the part of a table; in each of those that it waits in, and so for nobody
--     waits_in_part      the same by the transaction's ticket
--     FreeIn, waits_nowhere      the world has the part of a table, in which it waits for nobody; for nobody, where each share has such a part
use Rattle.std.specs.Prelude.{◌≡◌, ◌≢◌, ℕ, ◌==◌, Bool, true, false, ◌||◌, List, [], ◌∷◌, Option, Some, None, refl}
use Rattle.std.proofs.Common.{sym, ◌∙◌, ap, subst, inl, inr, append-nil, eq-eqb}
use Rattle.std.specs.List.{AllByRecursion}
use Rattle.std.specs.FinMap.{get}
use Rattle.model.specs.declared.change.Change.{Change}
use Rattle.model.specs.declared.change.Change.TheVariants.{Put, Set, Remove, Wipe}
use Rattle.model.specs.declared.cell.Cell.{Cell}
use Rattle.model.specs.declared.cell.Cell.TheVariants.{Whole}
use Rattle.model.specs.Rows.{Schema}
use Rattle.model.specs.Effect.{serial}
use Rattle.model.specs.Footprint.{footprint}
use Rattle.world.specs.World.{Opened, World, own_rows, IsHeldBy, IsFree}
use Rattle.world.specs.Settled.{WaitsFor}
use Rattle.world_parts.specs.ByTable.{names_table, only_if, change_at, changes_at, IsIn}
use Rattle.world_parts.specs.ByTableLemmas.{InTable, in_view, footprint_of}
use Rattle.world_parts.specs.Parts.{work_if, wanted_by, wanted_if, IsPartOf}
use Rattle.world_parts.specs.PartLemmas.{footprint_at, free_lifts, held_lifts}
use Rattle.world_parts.specs.Statements.{IsFreeByPart}
use Rattle.world_parts.specs.TruncateLemmas.{wipe_free, wipe_held}
use Rattle.live_tables.specs.WaitLemmas.{free_or_held, not_both}
use Rattle.engine.specs.Events.{opened_by}
use Rattle.table_parts.specs.Part.{Part}
use Rattle.parted_store.specs.Lent.{OpenTicket, HasTable, HasTicket, IsShare, HasShares, Stands, WaitsIn}
use Rattle.parted_store.specs.Shares.{Share, share_of}

-- ---- what a change is in a table

-- it is all of it, or a truncate of this one
only_one : (b : Bool) (c d : Change) → only_if b c ≡ d ∷ [] → (b ≡ true) × (c ≡ d)
only_one true c d is = (refl, cc)
only_one false c d is = let no : [] ≡ d ∷ [] = is in cc

alone : (b : Bool) (c d : Change) → only_if b c ≡ d ∷ [] → only_if b c ≡ c ∷ []
alone b c d is = is ∙ ap (λ e. e ∷ []) (sym (only_one b c d is).1)

-- what a transaction wants in a table, by the change that it wants
one_wanted : (table : ℕ) (wants : Option (ℕ × Change)) (d : Change) → changes_at table (wanted_by wants) ≡ d ∷ []
    → (sub : ℕ) × (c : Change) × (wants ≡ Some (sub, c)) × (change_at table c ≡ d ∷ [])
one_wanted table None d is = let no : [] ≡ d ∷ [] = is in cc
one_wanted table (Some (sub, c)) d is = (sub, c, refl, sym (append-nil (change_at table c)) ∙ is)

wanted_is : (wants : Option (ℕ × Change)) (d : Change) → wanted_by wants ≡ d ∷ [] → (sub : ℕ) × (wants ≡ Some (sub, d))
wanted_is None d is = let no : [] ≡ d ∷ [] = is in cc
wanted_is (Some (sub, c)) d is = let same : c ≡ d = cc in (sub, ap (λ (e : Change). Some (sub, e)) same)

-- ---- in a part

module _ (schema : Schema) (table : ℕ) (w part : World) (is : IsPartOf table w part)
    (xid : ℕ) (o p : Opened) (at : get w.opened xid ≡ Some o) (here : get part.opened xid ≡ Some p) where
  wanted_here : wanted_by p.wants ≡ changes_at table (wanted_by o.wants)
  wanted_here = ap wanted_if (sym here) ∙ is.wanted xid ∙ ap (λ found. changes_at table (wanted_if found)) at

  -- the cells of a change of the table
  same_cells : (c : Change) → InTable table c → footprint schema (own_rows schema part xid p) c ≡ footprint schema (own_rows schema w xid o) c
  same_cells c its =
      ap (λ found. footprint schema (serial schema part.committed (work_if xid found)) c) (sym here)
      ∙ footprint_at schema table w part is xid c its
      ∙ ap (λ found. footprint schema (serial schema w.committed (work_if xid found)) c) at

  held_alone : (c : Change) → IsIn table c → (holder : ℕ) → IsHeldBy schema part xid (footprint schema (own_rows schema part xid p) c) holder
      → IsHeldBy schema w xid (footprint schema (own_rows schema w xid o) c) holder
  held_alone c its holder held =
      held_lifts schema table w part is xid (footprint schema (own_rows schema w xid o) c)
      (footprint_of schema (own_rows schema w xid o) table c (in_view table c its)) holder
      (subst (λ cells. IsHeldBy schema part xid cells holder) (same_cells c (in_view table c its)) held)

  free_alone : (c : Change) → IsIn table c → IsFree schema part xid (footprint schema (own_rows schema part xid p) c)
      → IsFree schema w xid (footprint schema (own_rows schema w xid o) c)
  free_alone c its free =
      free_lifts schema table w part is xid (footprint schema (own_rows schema w xid o) c)
      (footprint_of schema (own_rows schema w xid o) table c (in_view table c its))
      (subst (λ cells. IsFree schema part xid cells) (same_cells c (in_view table c its)) free)

  -- a change of a row
  held_one : (b : Bool) (c d : Change) → only_if b c ≡ d ∷ [] → (only_if b c ≡ c ∷ [] → IsIn table c) → (holder : ℕ)
      → IsHeldBy schema part xid (footprint schema (own_rows schema part xid p) d) holder
      → IsHeldBy schema w xid (footprint schema (own_rows schema w xid o) c) holder
  held_one b c d cut its holder held =
      held_alone c (its (alone b c d cut)) holder
      (subst (λ e. IsHeldBy schema part xid (footprint schema (own_rows schema part xid p) e) holder) (sym (only_one b c d cut).1) held)

  held_wanted : (c d : Change) → change_at table c ≡ d ∷ [] → (holder : ℕ) → IsHeldBy schema part xid (footprint schema (own_rows schema part xid p) d) holder
      → IsHeldBy schema w xid (footprint schema (own_rows schema w xid o) c) holder
  unfolding footprint
  held_wanted (Put of row) d cut holder held = held_one (of == table) (Put of row) d cut (λ its. its) holder held
  held_wanted (Set of key patch) d cut holder held = held_one (of == table) (Set of key patch) d cut (λ its. its) holder held
  held_wanted (Remove of key) d cut holder held = held_one (of == table) (Remove of key) d cut (λ its. its) holder held
  held_wanted (Wipe tables) d cut holder held =
      let (named, same) = only_one (names_table tables table) (Wipe (table ∷ [])) d cut in
      wipe_held schema w part table is xid tables named holder
      (subst (λ e. IsHeldBy schema part xid (footprint schema (own_rows schema part xid p) e) holder) (sym same) held)

  -- for whom it waits in the part it waits
  pub waits_lifts : (holder : ℕ) → WaitsFor schema part xid p holder → WaitsFor schema w xid o holder
  waits_lifts holder waits =
      let its = one_wanted table o.wants waits.1 (sym wanted_here ∙ ap wanted_by waits.2) in
      (its.0, its.1, its.2, held_wanted its.1 waits.1 its.3 holder waits.3)

  -- where it waits there for nobody, nobody has a cell of what it wants there
  free_here : ((holder : ℕ) → ¬ (WaitsFor schema part xid p holder)) → (d : Change) → changes_at table (wanted_by o.wants) ≡ d ∷ []
      → IsFree schema part xid (footprint schema (own_rows schema part xid p) d)
  free_here nobody d wanted =
      let its = wanted_is p.wants d (wanted_here ∙ wanted) in
      elim (free_or_held schema part xid (footprint schema (own_rows schema part xid p) d)) [
        | inl free ↦ free
        | inr held ↦ absurd (nobody held.0 (its.0, d, its.1, held.1))
      ]

-- ---- in all parts

module _ (schema : Schema) (w : World) (xid : ℕ) (o : Opened) (at : get w.opened xid ≡ Some o) where
  -- in the part of this table it waits for nobody
  pub record WaitsForNobodyIn (table : ℕ) : Type 0 where
    pub part : World
    pub is_part : IsPartOf table w part
    pub its : Opened
    pub there : get part.opened xid ≡ Some its
    pub nobody : (holder : ℕ) → ¬ (WaitsFor schema part xid its holder)

  module _ (each : (table : ℕ) → changes_at table (wanted_by o.wants) ≢ [] → WaitsForNobodyIn table) where
    -- it wants something there
    wants_there : (table sub : ℕ) (c d : Change) → o.wants ≡ Some (sub, c) → change_at table c ≡ d ∷ [] → changes_at table (wanted_by o.wants) ≡ d ∷ []
    wants_there table sub c d wants cut = ap (λ found. changes_at table (wanted_by found)) wants ∙ append-nil (change_at table c) ∙ cut

    in_table : (table : ℕ) (d : Change) → changes_at table (wanted_by o.wants) ≡ d ∷ [] → WaitsForNobodyIn table
    in_table table d wanted = each table (λ none. let no : d ∷ [] ≡ [] = sym wanted ∙ none in cc)

    free_one : (table sub : ℕ) (c : Change) → o.wants ≡ Some (sub, c) → IsIn table c → IsFree schema w xid (footprint schema (own_rows schema w xid o) c)
    free_one table sub c wants its =
        let wanted = wants_there table sub c c wants its in
        let there = in_table table c wanted in
        free_alone schema table w there.part there.is_part xid o there.its at there.there c its
        (free_here schema table w there.part there.is_part xid o there.its at there.there there.nobody c wanted)

    -- a truncate, in one of its tables
    free_cut : (table sub : ℕ) (tables : List ℕ) → o.wants ≡ Some (sub, Wipe tables) → names_table tables table ≡ true → IsFreeByPart schema w xid table
    unfolding footprint
    free_cut table sub tables wants named =
        let cut : change_at table (Wipe tables) ≡ Wipe (table ∷ []) ∷ [] = ap (λ b. only_if b (Wipe (table ∷ []))) named in
        let wanted = wants_there table sub (Wipe tables) (Wipe (table ∷ [])) wants cut in
        let there = in_table table (Wipe (table ∷ [])) wanted in (
          there.part,
          there.is_part,
          free_here schema table w there.part there.is_part xid o there.its at there.there there.nobody (Wipe (table ∷ [])) wanted,
        )

    -- in each of them
    free_cuts : (sub : ℕ) (tables : List ℕ) → o.wants ≡ Some (sub, Wipe tables) → (some : List ℕ) → ((table : ℕ) → names_table some table ≡ true → names_table tables table ≡ true)
        → AllByRecursion (IsFreeByPart schema w xid) some
    free_cuts sub tables wants [] among = tt
    free_cuts sub tables wants (table ∷ some) among = (
      free_cut table sub tables wants (among table (ap (λ b. b || names_table some table) (eq-eqb table table refl))),
      free_cuts sub tables wants some (λ other named. among other (or_later (other == table) (names_table some other) named)),
    )
      where
        or_later : (a b : Bool) → b ≡ true → (a || b) ≡ true
        or_later true b is = refl
        or_later false b is = is

    free_wanted : (sub : ℕ) (c : Change) → o.wants ≡ Some (sub, c) → IsFree schema w xid (footprint schema (own_rows schema w xid o) c)
    unfolding footprint
    free_wanted sub (Put of row) wants = free_one of sub (Put of row) wants (ap (λ b. only_if b (Put of row)) (eq-eqb of of refl))
    free_wanted sub (Set of key patch) wants = free_one of sub (Set of key patch) wants (ap (λ b. only_if b (Set of key patch)) (eq-eqb of of refl))
    free_wanted sub (Remove of key) wants = free_one of sub (Remove of key) wants (ap (λ b. only_if b (Remove of key)) (eq-eqb of of refl))
    free_wanted sub (Wipe tables) wants = wipe_free schema w xid tables (free_cuts sub tables wants tables (λ table named. named))

    pub nobody_lifts : (holder : ℕ) → ¬ (WaitsFor schema w xid o holder)
    nobody_lifts holder waits =
        not_both schema w xid (footprint schema (own_rows schema w xid o) waits.1) holder (free_wanted waits.0 waits.1 waits.2) waits.3

-- ---- by a ticket and its parts

module _ (schema : Schema) (w : World) (t : OpenTicket) (at : HasTicket w t) (shares : HasShares t) where
  -- a share is of its number
  numbered : (table : ℕ) (share : Share) → share_of t.shares table ≡ Some share → share.number ≡ t.number
  numbered table share found = subst (IsShare t.number (opened_by t.events) table) found (shares table)

  its_place : (p : Part) → Stands p t.shares → (share : Share) → share_of t.shares p.number ≡ Some share
      → get p.store.world.opened t.number ≡ Some (opened_by share.list)
  its_place p stands share found = ap (get p.store.world.opened) (sym (numbered p.number share found)) ∙ stands share found

  pub waits_in_part : (p : Part) → HasTable w p → p.store.schema ≡ schema → Stands p t.shares → (holder : ℕ) → WaitsIn p t.shares holder
      → WaitsFor schema w t.number (opened_by t.events) holder
  waits_in_part p has keys stands holder waits =
      waits_lifts schema p.number w p.store.world has.is.0 t.number (opened_by t.events) (opened_by waits.0.list) at
      (its_place p stands waits.0 waits.1) holder
      (subst (λ (s : Schema). WaitsFor s p.store.world t.number (opened_by waits.0.list) holder) keys
      (subst (λ n. WaitsFor p.store.schema p.store.world n (opened_by waits.0.list) holder) (numbered p.number waits.0 waits.1) waits.2))

  -- the world has the part of the table, in which it waits for nobody
  pub record FreeIn (table : ℕ) : Type 0 where
    pub part : Part
    pub number : part.number ≡ table
    pub has : HasTable w part
    pub keys : part.store.schema ≡ schema
    pub stands : Stands part t.shares
    pub nobody : (holder : ℕ) → ¬ (WaitsIn part t.shares holder)

  module _ (each : (table : ℕ) (share : Share) → share_of t.shares table ≡ Some share → FreeIn table) where
    nobody_at : (p : Part) → HasTable w p → p.store.schema ≡ schema → Stands p t.shares → ((holder : ℕ) → ¬ (WaitsIn p t.shares holder))
        → (share : Share) → share_of t.shares p.number ≡ Some share → WaitsForNobodyIn schema w t.number (opened_by t.events) at p.number
    nobody_at p has keys stands nobody share found = record {
      part = p.store.world;
      is_part = has.is.0;
      its = opened_by share.list;
      there = its_place p stands share found;
      nobody = λ holder waits.
          nobody holder (
            share,
            found,
            subst (λ n. WaitsFor p.store.schema p.store.world n (opened_by share.list) holder) (sym (numbered p.number share found))
                (subst (λ (s : Schema). WaitsFor s p.store.world t.number (opened_by share.list) holder) (sym keys) waits),
          );
    }

    nobody_in : (table : ℕ) → changes_at table (wanted_by (opened_by t.events).wants) ≢ [] → WaitsForNobodyIn schema w t.number (opened_by t.events) at table
    nobody_in table some = by_share (share_of t.shares table) refl
      where
        by_share : (found : Option Share) → share_of t.shares table ≡ found → WaitsForNobodyIn schema w t.number (opened_by t.events) at table
        by_share None none = absurd (some (subst (IsShare t.number (opened_by t.events) table) none (shares table)).1)
        by_share (Some share) found =
            let free = each table share found in
            subst (WaitsForNobodyIn schema w t.number (opened_by t.events) at) free.number
            (nobody_at free.part free.has free.keys free.stands free.nobody share (ap (share_of t.shares) free.number ∙ found))

    pub waits_nowhere : (holder : ℕ) → ¬ (WaitsFor schema w t.number (opened_by t.events) holder)
    waits_nowhere = nobody_lifts schema w t.number (opened_by t.events) at nobody_in
