-- The live rows of a table are those of its part.
--     picks, rest_of      the open ones of a part in the order of a listing, and the others
--     live_here      what stands at a place with the work of all open transactions
use Rattle.std.specs.Prelude.{◌≡◌, ◌≢◌, ℕ, List, [], ◌∷◌, ◌++◌, Option, Some, None, map, refl}
use Rattle.std.proofs.Common.{sym, ◌∙◌, ap, subst}
use Rattle.std.proofs.lemmas.List.{map-append}
use Rattle.std.specs.List.{AllByRecursion}
use Rattle.std.specs.FinMap.{get, remove, entries}
use Rattle.model.specs.declared.change.Change.{Change}
use Rattle.model.specs.declared.key.Key.{Key}
use Rattle.model.specs.declared.row.Row.{Row}
use Rattle.model.specs.Rows.{Rows, Schema}
use Rattle.model.specs.Effect.{serial}
use Rattle.world.specs.World.{Opened, World, OpenOnes, work}
use Rattle.world.specs.Live.{in_turn, Reordered, same, under, swapped, through, IsListing, works, live_rows}
use Rattle.world.specs.ListingLemmas.{gone_same, gone_other, none_removed, reordered_back, listed_first, KeysDiffer, keys_differ, each_found}
use Rattle.world_parts.specs.ByTable.{rows_at, changes_at}
use Rattle.world_parts.specs.ByTableLemmas.{get_rows_here, serial_at}
use Rattle.world_parts.specs.Parts.{work_if, IsPartOf}

-- ---- one list of changes after the other

in_turn_at : (schema : Schema) (table : ℕ) (rows : Rows) (lists : List (List Change))
    → rows_at table (in_turn schema rows lists) ≡ in_turn schema (rows_at table rows) (map (changes_at table) lists)
in_turn_at schema table rows [] = refl
in_turn_at schema table rows (cs ∷ rest) =
    in_turn_at schema table (serial schema rows cs) rest
    ∙ ap (λ r. in_turn schema r (map (changes_at table) rest)) (serial_at schema table rows cs)

in_turn_both : (schema : Schema) (rows : Rows) (lists more : List (List Change))
    → in_turn schema rows (lists ++ more) ≡ in_turn schema (in_turn schema rows lists) more
in_turn_both schema rows [] more = refl
in_turn_both schema rows (cs ∷ rest) more = in_turn_both schema (serial schema rows cs) rest more

-- those that did nothing leave the rows
nothing_in_turn : (schema : Schema) (rows : Rows) (listing : List (ℕ × Opened))
    → AllByRecursion (λ (e : ℕ × Opened). work e.0 e.1 ≡ []) listing → in_turn schema rows (works listing) ≡ rows
nothing_in_turn schema rows [] none = refl
nothing_in_turn schema rows (e ∷ listing) none =
    ap (λ cs. in_turn schema (serial schema rows cs) (works listing)) none.0 ∙ nothing_in_turn schema rows listing none.1

-- ---- lists in another order

all_reordered : {A : Type 0} (P : A → Type 0) (xs ys : List A) → Reordered xs ys → AllByRecursion P ys → AllByRecursion P xs
all_reordered P _ _ same all = all
all_reordered P _ _ (under x {xs = xs} {ys = ys} rest) all = (all.0, all_reordered P xs ys rest all.1)
all_reordered P _ _ (swapped x y xs) all = (all.1.0, (all.0, all.1.1))
all_reordered P _ _ (through {xs = xs} {ys = ys} {zs = zs} first rest) all = all_reordered P xs ys first (all_reordered P ys zs rest all)

differ_reordered : {X : Type 0} (xs ys : List (ℕ × X)) → Reordered xs ys → KeysDiffer ys → KeysDiffer xs
differ_reordered _ _ same differ = differ
differ_reordered {X} _ _ (under x {xs = xs} {ys = ys} rest) differ =
    (all_reordered (λ (f : ℕ × X). x.0 ≢ f.0) xs ys rest differ.0, differ_reordered xs ys rest differ.1)
differ_reordered _ _ (swapped x y xs) differ = ((λ e. differ.0.0 (sym e), differ.1.0), (differ.0.1, differ.1.1))
differ_reordered _ _ (through {xs = xs} {ys = ys} {zs = zs} first rest) differ =
    differ_reordered xs ys first (differ_reordered ys zs rest differ)

-- ---- the open ones of a part, in the order of a listing of its world

abbrev pub one_if : ℕ → Option Opened → List (ℕ × Opened)
one_if xid None = []
one_if xid (Some o) = (xid, o) ∷ []

-- those that are listed
abbrev pub picks : OpenOnes → List (ℕ × Opened) → List (ℕ × Opened)
picks ones [] = []
picks ones (e ∷ listing) = one_if e.0 (get ones e.0) ++ picks (remove ones e.0) listing

-- and the others
abbrev pub rest_of : OpenOnes → List (ℕ × Opened) → OpenOnes
rest_of ones [] = ones
rest_of ones (e ∷ listing) = rest_of (remove ones e.0) listing

all_picked : (ones : OpenOnes) (listing : List (ℕ × Opened)) → Reordered (picks ones listing ++ entries (rest_of ones listing)) (entries ones)
all_picked ones [] = same
all_picked ones (e ∷ listing) = by (all_picked (remove ones e.0) listing) (get ones e.0) refl
  where
    by : Reordered (picks (remove ones e.0) listing ++ entries (rest_of (remove ones e.0) listing)) (entries (remove ones e.0))
        → (found : Option Opened) → get ones e.0 ≡ found
        → Reordered ((one_if e.0 found ++ picks (remove ones e.0) listing) ++ entries (rest_of (remove ones e.0) listing)) (entries ones)
    by rest None is =
        subst (λ (m : OpenOnes). Reordered (picks (remove ones e.0) listing ++ entries (rest_of (remove ones e.0) listing)) (entries m))
        (none_removed ones e.0 is) rest
    by rest (Some o) is = through (under (e.0, o) rest) (listed_first ones e.0 o is)

-- what each of the listed has done in the part
abbrev done_in : OpenOnes → List (ℕ × Opened) → List (List Change)
done_in ones listing = map (λ (e : ℕ × Opened). work_if e.0 (get ones e.0)) listing

same_others : (ones : OpenOnes) (xid : ℕ) (listing : List (ℕ × Opened)) → AllByRecursion (λ (e : ℕ × Opened). xid ≢ e.0) listing
    → done_in (remove ones xid) listing ≡ done_in ones listing
same_others ones xid [] apart = refl
same_others ones xid (e ∷ listing) apart = λ i.
    work_if e.0 (gone_other ones xid e.0 (λ s. apart.0 (sym s)) i) ∷ same_others ones xid listing apart.1 i

picked_in_turn : (schema : Schema) (rows : Rows) (ones : OpenOnes) (listing : List (ℕ × Opened)) → KeysDiffer listing
    → in_turn schema rows (works (picks ones listing)) ≡ in_turn schema rows (done_in ones listing)
picked_in_turn schema rows ones [] differ = refl
picked_in_turn schema rows ones (e ∷ listing) differ =
    by (λ r.
    picked_in_turn schema r (remove ones e.0) listing differ.1
    ∙ ap (λ lists. in_turn schema r lists) (same_others ones e.0 listing differ.0)) (get ones e.0)
  where
    by : ((r : Rows) → in_turn schema r (works (picks (remove ones e.0) listing)) ≡ in_turn schema r (done_in ones listing))
        → (found : Option Opened)
        → in_turn schema rows (works (one_if e.0 found ++ picks (remove ones e.0) listing))
        ≡ in_turn schema (serial schema rows (work_if e.0 found)) (done_in ones listing)
    by rest None = rest rows
    by rest (Some o) = rest (serial schema rows (work e.0 o))

-- one that is left is there, and isn't listed
left_from : (ones : OpenOnes) (listing : List (ℕ × Opened)) (xid : ℕ) (o : Opened) → get (rest_of ones listing) xid ≡ Some o
    → (get ones xid ≡ Some o) × AllByRecursion (λ (e : ℕ × Opened). xid ≢ e.0) listing
left_from ones [] xid o is = (is, tt)
left_from ones (e ∷ listing) xid o is =
    let rest = left_from (remove ones e.0) listing xid o is in
    let apart : xid ≢ e.0 = λ s. gone (sym (ap (get (remove ones e.0)) s ∙ gone_same ones e.0) ∙ rest.0) in
    (sym (gone_other ones e.0 xid apart) ∙ rest.0, (apart, rest.1))
  where
    gone : None ≡ Some o → ⊥
    gone e = cc

-- ---- of a world and a part

module _ (schema : Schema) (table : ℕ) (w part : World) (is : IsPartOf table w part) (listing : List (ℕ × Opened)) (listed : IsListing w listing) where
  each_open : AllByRecursion (λ (e : ℕ × Opened). get w.opened e.0 ≡ Some e.1) listing
  each_open = all_reordered (λ (e : ℕ × Opened). get w.opened e.0 ≡ Some e.1) listing (entries w.opened) listed (each_found w.opened)

  all_differ : KeysDiffer listing
  all_differ = differ_reordered listing (entries w.opened) listed (keys_differ w.opened)

  works_there : (es : List (ℕ × Opened)) → AllByRecursion (λ (e : ℕ × Opened). get w.opened e.0 ≡ Some e.1) es
      → map (changes_at table) (works es) ≡ done_in part.opened es
  works_there [] all = refl
  works_there (e ∷ es) all = λ i.
      (sym (is.work e.0 ∙ ap (λ open_one. changes_at table (work_if e.0 open_one)) all.0)) i ∷ works_there es all.1 i

  -- who isn't listed isn't open
  not_open : (xid : ℕ) → AllByRecursion (λ (e : ℕ × Opened). xid ≢ e.0) listing → (found : Option Opened) → get w.opened xid ≡ found
      → get w.opened xid ≡ None
  not_open xid apart None at = at
  not_open xid apart (Some o) at =
      let first : Reordered ((xid, o) ∷ entries (remove w.opened xid)) listing =
      through (listed_first w.opened xid o at) (reordered_back listing (entries w.opened) listed) in
      absurd ((all_reordered (λ (e : ℕ × Opened). xid ≢ e.0) ((xid, o) ∷ entries (remove w.opened xid)) listing first apart).0 refl)

  nothing_left : (es : List (ℕ × Opened)) → AllByRecursion (λ (e : ℕ × Opened). get (rest_of part.opened listing) e.0 ≡ Some e.1) es
      → AllByRecursion (λ (e : ℕ × Opened). work e.0 e.1 ≡ []) es
  nothing_left [] all = tt
  nothing_left (e ∷ es) all =
      let left = left_from part.opened listing e.0 e.1 all.0 in
      let none : get w.opened e.0 ≡ None = not_open e.0 left.1 (get w.opened e.0) refl in (
        sym (ap (work_if e.0) left.0) ∙ is.work e.0 ∙ ap (λ open_one. changes_at table (work_if e.0 open_one)) none,
        nothing_left es all.1,
      )

  abbrev there : List (ℕ × Opened)
  there = picks part.opened listing ++ entries (rest_of part.opened listing)

  rows_are : live_rows schema part there ≡ rows_at table (live_rows schema w listing)
  rows_are =
      ap (in_turn schema part.committed)
      (map-append (λ (t : ℕ × Opened). work t.0 t.1) (picks part.opened listing) (entries (rest_of part.opened listing)))
      ∙ in_turn_both schema part.committed (works (picks part.opened listing)) (works (entries (rest_of part.opened listing)))
      ∙ nothing_in_turn schema (in_turn schema part.committed (works (picks part.opened listing))) (entries (rest_of part.opened listing))
      (nothing_left (entries (rest_of part.opened listing)) (each_found (rest_of part.opened listing)))
      ∙ picked_in_turn schema part.committed part.opened listing all_differ
      ∙ ap (λ rows. in_turn schema rows (done_in part.opened listing)) is.committed
      ∙ ap (λ lists. in_turn schema (rows_at table w.committed) lists) (sym (works_there listing each_open))
      ∙ sym (in_turn_at schema table w.committed (works listing))

-- what stands at a place with the work of all open transactions, by the part, stands there
pub live_here : (schema : Schema) (table : ℕ) (w part : World) → IsPartOf table w part → (key : Key) (row : Option Row)
    → ((listing : List (ℕ × Opened)) → IsListing part listing → row ≡ get (live_rows schema part listing) (table, key))
    → (listing : List (ℕ × Opened)) → IsListing w listing → row ≡ get (live_rows schema w listing) (table, key)
live_here schema table w part is key row reads listing listed =
    reads (there schema table w part is listing listed) (all_picked part.opened listing)
    ∙ ap (λ (rows : Rows). get rows (table, key)) (rows_are schema table w part is listing listed)
    ∙ get_rows_here table (live_rows schema w listing) key
