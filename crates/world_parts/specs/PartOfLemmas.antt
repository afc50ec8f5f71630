-- What is made of a world is its part, and every world has one of each table.
--     part_is, part_marked      it is the part, and has the items that were told to the table
use Rattle.std.specs.Prelude.{◌≡◌, ℕ, Bool, true, false, cond, List, [], ◌∷◌, ◌++◌, Option, Some, None, map, refl, option_map}
use Rattle.std.proofs.Common.{sym, ◌∙◌, ap, append-nil, append_assoc}
use Rattle.std.specs.FinMap.{get, entries, find, get-entries, get-from_entries, nat_cmp-IsAntisymmetric}
use Rattle.std.specs.Ordering.{nat_cmp}
use Rattle.std.specs.Cmp.{nat_cmp_total}
use Rattle.std.proofs.lemmas.Map.Views.{tells_apart}
use Rattle.model.specs.declared.change.Change.{Change}
use Rattle.model.specs.declared.change.Change.TheVariants.{Put, Set, Remove, Wipe}
use Rattle.model.specs.declared.item.Item.{Item}
use Rattle.model.specs.Survivors.{survivors, surviving}
use Rattle.world.specs.World.{Opened, World, is_xid}
use Rattle.world_parts.specs.ByTable.{names_table, only_if, change_at, changes_at}
use Rattle.world_parts.specs.Marks.{Marked, told_of, marked_at, under, items_at, survivors_if, AreMarked}
use Rattle.world_parts.specs.MarkLemmas.{work_of_marked}
use Rattle.world_parts.specs.Parts.{wanted_by, wanted_if, IsPartOf}
use Rattle.world_parts.specs.PartOf.{first_from, wants_at, entry_at, part_of}

-- ---- what the part has open

found_at : (table xid : ℕ) (es : List (ℕ × Opened))
    → find nat_cmp xid (map (entry_at table) es) ≡ option_map (λ (o : Opened). (entry_at table (xid, o)).1) (find nat_cmp xid es)
found_at table xid [] = refl
found_at table xid (e ∷ es) = by_xid (is_xid xid e.0) refl (found_at table xid es)
  where
    by_xid : (b : Bool) → is_xid xid e.0 ≡ b
        → find nat_cmp xid (map (entry_at table) es) ≡ option_map (λ (o : Opened). (entry_at table (xid, o)).1) (find nat_cmp xid es)
        → cond b (Some (entry_at table e).1) (find nat_cmp xid (map (entry_at table) es))
        ≡ option_map (λ (o : Opened). (entry_at table (xid, o)).1) (cond b (Some e.1) (find nat_cmp xid es))
    by_xid true is rest = ap (λ (k : ℕ). Some (entry_at table (k, e.1)).1) (sym (tells_apart nat_cmp-IsAntisymmetric xid e.0 is))
    by_xid false is rest = rest

got_at : (table : ℕ) (w : World) (xid : ℕ)
    → get (part_of table w).opened xid ≡ option_map (λ (o : Opened). (entry_at table (xid, o)).1) (get w.opened xid)
got_at table w xid =
    get-from_entries nat_cmp_total (map (entry_at table) (entries w.opened)) xid
    ∙ found_at table xid (entries w.opened)
    ∙ ap (option_map (λ (o : Opened). (entry_at table (xid, o)).1)) (sym (get-entries w.opened xid))

-- ---- items that all survive

-- those that are told all survive
pub all_stay : (top : ℕ) (kept : List Item) (ms : List Marked) → surviving top kept (map told_of ms) ≡ kept ++ map told_of ms
all_stay top kept [] = sym (append-nil kept)
all_stay top kept (m ∷ ms) =
    all_stay top (kept ++ told_of m ∷ []) ms ∙ append_assoc kept (told_of m ∷ []) (map told_of ms)

pub part_marked : (table : ℕ) (w : World) → AreMarked table w (part_of table w)
part_marked table w xid = ap (survivors_if xid) (got_at table w xid) ∙ by_open (get w.opened xid)
  where
    by_open : (o : Option Opened)
        → survivors_if xid (option_map (λ (o : Opened). (entry_at table (xid, o)).1) o) ≡ items_at table xid (survivors_if xid o)
    by_open None = refl
    by_open (Some o) = all_stay xid [] (marked_at table (under xid [] (survivors xid o.items)))

-- ---- what is waited with

one_wanted : (sub : ℕ) (b : Bool) (c : Change) → wanted_by (first_from sub (only_if b c)) ≡ only_if b c
one_wanted sub true c = refl
one_wanted sub false c = refl

change_wanted : (table sub : ℕ) (c : Change) → wanted_by (first_from sub (change_at table c)) ≡ change_at table c
change_wanted table sub (Put at row) = one_wanted sub _ (Put at row)
change_wanted table sub (Set at key patch) = one_wanted sub _ (Set at key patch)
change_wanted table sub (Remove at key) = one_wanted sub _ (Remove at key)
change_wanted table sub (Wipe tables) = one_wanted sub (names_table tables table) (Wipe (table ∷ []))

wanted_at : (table : ℕ) (wants : Option (ℕ × Change)) → wanted_by (wants_at table wants) ≡ changes_at table (wanted_by wants)
wanted_at table None = refl
wanted_at table (Some wants) = change_wanted table wants.0 wants.1 ∙ sym (append-nil (change_at table wants.1))

pub part_is : (table : ℕ) (w : World) → IsPartOf table w (part_of table w)
part_is table w = record {
  committed = refl;
  work = work_of_marked table w (part_of table w) (part_marked table w);
  wanted = λ xid. ap wanted_if (got_at table w xid) ∙ by_open xid (get w.opened xid);
}
  where
    by_open : (xid : ℕ) (o : Option Opened)
        → wanted_if (option_map (λ (o : Opened). (entry_at table (xid, o)).1) o) ≡ changes_at table (wanted_if o)
    by_open xid None = refl
    by_open xid (Some o) = wanted_at table o.wants
