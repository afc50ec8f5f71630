-- The live rows of a world, through its calls.
--     listing_apart, one_live, live_by      no two of a listing share a cell; every listing gives the same rows;
--         so one listing tells the live rows
--     live_valid, live_accepted      they are valid, and no change clashes on the way to them
--     footprint_live, outcome_live, inverse_live      a change that meets no other's cell does on the live rows what it
--         does on its own view
--     live_opened, live_acted, live_same, live_touched, live_wanting, live_cut, live_aborted, live_committed      after each call
--     live_alone      with no transaction open they are the committed rows
use Rattle.std.specs.Prelude.{◌≡◌, ◌≢◌, ℕ, List, [], ◌∷◌, ◌++◌, Option, Some, None, flat_map, length, refl, false}
use Rattle.std.proofs.Common.{sym, ◌∙◌, ap, subst, inl, inr, append-nil, arith}
use Rattle.std.specs.List.{AllByRecursion, list_any}
use Rattle.std.specs.Ordering.{nat_cmp}
use Rattle.std.specs.FinMap as finite
use Rattle.std.specs.FinMap.{FinMap, get, entries}
use Rattle.model.specs.declared.change.Change as change_type
use Rattle.model.specs.declared.cell.Cell.{Cell}
use Rattle.model.specs.declared.item.Item.TheVariants.{Change, Touch, BackTo}
use Rattle.model.specs.declared.item.CommitInfo.{CommitInfo}
use Rattle.model.specs.Rows.{Rows, Schema, IsValid}
use Rattle.model.specs.Effect.{outcome, effect, inverse, serial, inverses, all_back}
use Rattle.model.specs.Footprint.{looked_up, footprint}
use Rattle.world.specs.World.{Opened, Stop, World, work, own_rows, holds, IsFree}
use Rattle.model.specs.CellContents.{AreSame, SameAt}
use Rattle.model.specs.Cells.{overlaps}
use Rattle.model.specs.Accepted.{AreAccepted}
use Rattle.world.specs.Live.{in_turn, Reordered, same, under, swapped, through, IsListing, works, live_rows, IsLive}
use Rattle.world.specs.Steps.{opened_with, done_with, wanting, committed_with, aborted_with}
use Rattle.model.specs.AlikeLemmas.{footprint_by_looked_up}
use Rattle.model.specs.SerialLemmas.{inverses_past}
use Rattle.world.specs.LiveLemmas.{AreApartFrom, ArePairwiseApart, reordered_pairwise, any_order, in_turn_valid, in_turn_accepted, IsFreeOfAll, leaves_in_turn}
use Rattle.world.specs.ListingLemmas.{got_same, gone_same, gone_other, removed_again, reordered_back, reordered_map, listed_with, listed_first, KeysDiffer, keys_differ, each_found, xid_cases}
use Rattle.world.specs.OpenLemmas.{AreFreeOfAll, alone_as_live_each, outcome_on_live, inverse_on_live, live_with_more, still_apart, cut_back}
use Rattle.model.specs.SurvivorLemmas.{work_with_change, work_with_touch}
use Rattle.world.specs.FineLemmas.{committed_valid, holds_free}
use Rattle.world.specs.Fine.{IsFine}

-- ---- the open ones, of which no two share a cell

-- the map has each of these
abbrev AreOpen : World → List (ℕ × Opened) → Type 0
AreOpen w listing = AllByRecursion (λ (t : ℕ × Opened). get w.opened t.0 ≡ Some t.1) listing

free_of_listed : (schema : Schema) (w : World) (xid : ℕ) (cells : List Cell) (listing : List (ℕ × Opened))
    → AreOpen w listing
    → AllByRecursion (λ (t : ℕ × Opened). xid ≢ t.0) listing → IsFree schema w xid cells
    → AreFreeOfAll schema w.committed cells (works listing)
free_of_listed schema w xid cells [] are differ free = tt
free_of_listed schema w xid cells (t ∷ listing) are differ free =
    (free t.0 t.1 (λ s. differ.0 (sym s)) are.0, free_of_listed schema w xid cells listing are.1 differ.1 free)

pairwise_listed : (schema : Schema) (w : World) → IsFine schema w → (listing : List (ℕ × Opened)) → AreOpen w listing
    → KeysDiffer listing
    → ArePairwiseApart schema w.committed (works listing)
pairwise_listed schema w fine [] are differ = tt
pairwise_listed schema w fine (t ∷ listing) are differ = (
  free_of_listed schema w t.0 (holds schema w t.0 t.1) listing are.1 differ.0 (holds_free schema w fine t.0 t.1 are.0),
  pairwise_listed schema w fine listing are.1 differ.1,
)

accepted_listed : (schema : Schema) (w : World) → IsFine schema w → (listing : List (ℕ × Opened)) → AreOpen w listing
    → AllByRecursion (AreAccepted schema w.committed) (works listing)
accepted_listed schema w fine [] are = tt
accepted_listed schema w fine (t ∷ listing) are =
    (fine.accepted t.0 t.1 are.0, accepted_listed schema w fine listing are.1)

each_reordered : {A : Type 0} (P : A → Type 0) (xs ys : List A) → Reordered xs ys → AllByRecursion P xs
    → AllByRecursion P ys
each_reordered P _ _ same all = all
each_reordered P _ _ (under x {xs = xs} {ys = ys} rest) all = (all.0, each_reordered P xs ys rest all.1)
each_reordered P _ _ (swapped x y xs) all = (all.1.0, (all.0, all.1.1))
each_reordered P _ _ (through {xs = xs} {ys = ys} {zs = zs} first rest) all =
    each_reordered P ys zs rest (each_reordered P xs ys first all)

no_items : {X : Type 0} (es : List X) → length es ≡ 0 → es ≡ []
no_items [] e = refl
no_items (x ∷ es) e = absurd (omega (arith, e))

pub no_entries : (m : FinMap nat_cmp Opened) → m ≡ finite.empty → entries m ≡ []
no_entries m none =
    no_items (entries m)
    (sym (finite.len-entries m) ∙ ap (λ (n : FinMap nat_cmp Opened). finite.len n) none ∙ finite.len-empty nat_cmp Opened)

-- one that is left when another is gone is another, and was there
not_gone : (m : FinMap nat_cmp Opened) (xid other : ℕ) (p : Opened) → other ≡ xid
    → ¬ (get (finite.remove m xid) other ≡ Some p)
not_gone m xid other p is at = absent p (sym (gone_same m xid) ∙ ap (get (finite.remove m xid)) (sym is) ∙ at)
  where
    absent : (q : Opened) → ¬ (None ≡ Some q)
    absent q e = cc

was_open : (m : FinMap nat_cmp Opened) (xid other : ℕ) (p : Opened) → get (finite.remove m xid) other ≡ Some p
    → get m other ≡ Some p
was_open m xid other p at =
    elim (xid_cases other xid) [
      | inl is ↦ absurd (not_gone m xid other p is at)
      | inr differs ↦ sym (gone_other m xid other differs) ∙ at
    ]

module _ (schema : Schema) (w : World) (fine : IsFine schema w) where
  entries_apart : ArePairwiseApart schema w.committed (works (entries w.opened))
  entries_apart = pairwise_listed schema w fine (entries w.opened) (each_found w.opened) (keys_differ w.opened)

  pub listing_apart : (listing : List (ℕ × Opened)) → IsListing w listing
      → ArePairwiseApart schema w.committed (works listing)
  listing_apart listing is =
      reordered_pairwise schema w.committed (works (entries w.opened)) (works listing)
      (reordered_map (λ (t : ℕ × Opened). work t.0 t.1) (entries w.opened) listing (reordered_back listing (entries w.opened) is)) entries_apart

  as_entries : (listing : List (ℕ × Opened)) → IsListing w listing
      → live_rows schema w listing ≡ live_rows schema w (entries w.opened)
  as_entries listing is =
      any_order schema w.committed (committed_valid schema w fine) (works listing) (works (entries w.opened))
      (reordered_map (λ (t : ℕ × Opened). work t.0 t.1) listing (entries w.opened) is) (listing_apart listing is)

  -- every listing gives the same rows
  pub one_live : (listing other : List (ℕ × Opened)) → IsListing w listing → IsListing w other
      → live_rows schema w listing ≡ live_rows schema w other
  one_live listing other is too = as_entries listing is ∙ sym (as_entries other too)

  -- so one listing tells them
  pub live_by : (rows : Rows) (listing : List (ℕ × Opened)) → IsListing w listing → rows ≡ live_rows schema w listing
      → IsLive schema w rows
  live_by rows listing is same_rows other too = same_rows ∙ one_live listing other is too

  pub live_listing_valid : (listing : List (ℕ × Opened)) → IsValid schema (live_rows schema w listing)
  live_listing_valid listing = in_turn_valid schema w.committed (committed_valid schema w fine) (works listing)

  pub live_valid : (rows : Rows) → IsLive schema w rows → IsValid schema rows
  live_valid rows live =
      subst (IsValid schema) (sym (live (entries w.opened) same)) (live_listing_valid (entries w.opened))

  -- no change clashes on the way to them
  pub live_accepted : (listing : List (ℕ × Opened)) → IsListing w listing
      → AreAccepted schema w.committed (flat_map (λ (cs : List change_type.Change). cs) (works listing))
  live_accepted listing is =
      in_turn_accepted schema w.committed (committed_valid schema w fine) (works listing) (listing_apart listing is)
      (each_reordered (AreAccepted schema w.committed) (works (entries w.opened)) (works listing)
      (reordered_map (λ (t : ℕ × Opened). work t.0 t.1) (entries w.opened) listing (reordered_back listing (entries w.opened) is))
      (accepted_listed schema w fine (entries w.opened) (each_found w.opened)))

  -- with no transaction open they are the committed rows
  pub live_alone : w.opened ≡ finite.empty → (rows : Rows) → IsLive schema w rows → rows ≡ w.committed
  live_alone none rows live =
      live [] (subst (λ (es : List (ℕ × Opened)). Reordered [] es) (sym (no_entries w.opened none)) same)

-- what nobody holds is as committed
free_of_each_listed : (schema : Schema) (w : World) (cell : Cell)
    → ((xid : ℕ) (o : Opened) → get w.opened xid ≡ Some o → list_any (overlaps cell) (holds schema w xid o) ≡ false)
    → (listing : List (ℕ × Opened)) → AreOpen w listing → IsFreeOfAll schema w.committed cell (works listing)
free_of_each_listed schema w cell unheld [] are = tt
free_of_each_listed schema w cell unheld (t ∷ listing) are =
    (unheld t.0 t.1 are.0, free_of_each_listed schema w cell unheld listing are.1)

pub unheld_live : (schema : Schema) (w : World) → IsFine schema w → (rows : Rows) → IsLive schema w rows → (cell : Cell)
    → ((xid : ℕ) (o : Opened) → get w.opened xid ≡ Some o → list_any (overlaps cell) (holds schema w xid o) ≡ false)
    → SameAt schema w.committed rows cell
unheld_live schema w fine rows live cell unheld =
    subst (λ (r : Rows). SameAt schema w.committed r cell) (sym (live (entries w.opened) same))
    (leaves_in_turn schema w.committed (committed_valid schema w fine) (works (entries w.opened)) (entries_apart schema w fine)
    cell (free_of_each_listed schema w cell unheld (entries w.opened) (each_found w.opened)))

-- ---- one of them, and the others

module _ (schema : Schema) (w : World) (fine : IsFine schema w) (xid : ℕ) (o : Opened) (is : get w.opened xid ≡ Some o) where
  -- the work of the others
  abbrev pub others : List (List change_type.Change)
  others = works (entries (finite.remove w.opened xid))

  first_listed : IsListing w ((xid, o) ∷ entries (finite.remove w.opened xid))
  first_listed = listed_first w.opened xid o is

  pub from_others : AreApartFrom schema w.committed (work xid o) others
  from_others = (listing_apart schema w fine ((xid, o) ∷ entries (finite.remove w.opened xid)) first_listed).0

  pub others_apart : ArePairwiseApart schema w.committed others
  others_apart = (listing_apart schema w fine ((xid, o) ∷ entries (finite.remove w.opened xid)) first_listed).1

  -- the live rows are its own view, and then the work of the others
  pub live_is : (rows : Rows) → IsLive schema w rows → rows ≡ in_turn schema (own_rows schema w xid o) others
  live_is rows live = live ((xid, o) ∷ entries (finite.remove w.opened xid)) first_listed

  -- cells that are free of the other transactions are free of their work
  free_of_others : (cells : List Cell) → IsFree schema w xid cells → AreFreeOfAll schema w.committed cells others
  free_of_others cells free =
      free_of_listed schema w xid cells (entries (finite.remove w.opened xid))
      (each_open (entries (finite.remove w.opened xid)) (each_found (finite.remove w.opened xid)))
      (each_differs (entries (finite.remove w.opened xid)) (each_found (finite.remove w.opened xid))) free
    where
      each_differs : (es : List (ℕ × Opened))
          → AllByRecursion (λ (t : ℕ × Opened). get (finite.remove w.opened xid) t.0 ≡ Some t.1) es
          → AllByRecursion (λ (t : ℕ × Opened). xid ≢ t.0) es
      each_differs [] all = tt
      each_differs (t ∷ es) all = (λ is. not_gone w.opened xid t.0 t.1 (sym is) all.0, each_differs es all.1)

      each_open : (es : List (ℕ × Opened))
          → AllByRecursion (λ (t : ℕ × Opened). get (finite.remove w.opened xid) t.0 ≡ Some t.1) es → AreOpen w es
      each_open [] all = tt
      each_open (t ∷ es) all = (was_open w.opened xid t.0 t.1 all.0, each_open es all.1)

  module _ (rows : Rows) (live : IsLive schema w rows) where
    -- on the live rows, its cells that are free of the others have what they have on its own view
    same_cells : (cells : List Cell) → IsFree schema w xid cells → AreSame schema (own_rows schema w xid o) rows cells
    same_cells cells free =
        subst (λ (r : Rows). AreSame schema (own_rows schema w xid o) r cells) (sym (live_is rows live))
        (alone_as_live_each schema w.committed (committed_valid schema w fine) (work xid o) others from_others others_apart cells (free_of_others cells free))

    -- if the row that a change looks up is free of the others, its footprint there is that on its own view
    pub footprint_live : (c : change_type.Change) → IsFree schema w xid (looked_up c)
        → footprint schema rows c ≡ footprint schema (own_rows schema w xid o) c
    footprint_live c free =
        sym (footprint_by_looked_up schema (own_rows schema w xid o) rows c (same_cells (looked_up c) free))

    module _ (c : change_type.Change) (free : IsFree schema w xid (footprint schema (own_rows schema w xid o) c)) where
      -- what is on its own view as it is once the others' work follows is so on the live rows
      as_live : {A : Type 0} (f : Rows → A) → f (in_turn schema (own_rows schema w xid o) others) ≡ f (own_rows schema w xid o)
          → f rows ≡ f (own_rows schema w xid o)
      as_live f agrees = ap f (live_is rows live) ∙ agrees

      -- its cells are free of the others' work
      its_cells_free : AreFreeOfAll schema w.committed (footprint schema (own_rows schema w xid o) c) others
      its_cells_free = free_of_others (footprint schema (own_rows schema w xid o) c) free

      pub outcome_live : outcome schema rows c ≡ outcome schema (own_rows schema w xid o) c
      outcome_live =
          as_live (λ r. outcome schema r c)
          (outcome_on_live schema w.committed (committed_valid schema w fine) (work xid o) others from_others others_apart c its_cells_free)

      pub inverse_live : inverse schema rows c ≡ inverse schema (own_rows schema w xid o) c
      inverse_live =
          as_live (λ r. inverse schema r c)
          (inverse_on_live schema w.committed (committed_valid schema w fine) (work xid o) others from_others others_apart c its_cells_free)

      -- the live rows after it
      effect_live : effect schema rows c ≡ in_turn schema (serial schema w.committed (work xid o ++ c ∷ [])) others
      effect_live =
          ap (λ (r : Rows). effect schema r c) (live_is rows live)
          ∙ sym (live_with_more schema w.committed (committed_valid schema w fine) (work xid o) (c ∷ []) others
          (still_apart schema w.committed (committed_valid schema w fine) (work xid o) (c ∷ []) others from_others
          (subst (λ cells. AreFreeOfAll schema w.committed cells others) (sym (append-nil (footprint schema (own_rows schema w xid o) c))) its_cells_free))
          others_apart)

  -- ---- with another record of it

  module _ (after : Opened) (stopped : Option Stop) where
    abbrev put : World
    put = record w { opened = finite.insert w.opened xid after; stopped = stopped }

    put_listed : IsListing put ((xid, after) ∷ entries (finite.remove w.opened xid))
    put_listed =
        subst (λ (m : FinMap nat_cmp Opened). Reordered ((xid, after) ∷ entries m) (entries (finite.insert w.opened xid after))) (removed_again w.opened xid after)
        (listed_first (finite.insert w.opened xid after) xid after (got_same w.opened xid after))

    live_put : IsFine schema put → (rows : Rows)
        → rows ≡ in_turn schema (serial schema w.committed (work xid after)) others → IsLive schema put rows
    live_put fine_after rows same_rows =
        live_by schema put fine_after rows ((xid, after) ∷ entries (finite.remove w.opened xid)) put_listed same_rows

-- ---- after each call

module _ (schema : Schema) (w : World) (fine : IsFine schema w) (rows : Rows) (live : IsLive schema w rows) where
  pub live_opened : (xid : ℕ) → get w.opened xid ≡ None → IsFine schema (opened_with w xid)
      → IsLive schema (opened_with w xid) rows
  live_opened xid absent fine_after =
      let fresh : Opened = record { items = []; wants = None } in
      live_by schema (opened_with w xid) fine_after rows ((xid, fresh) ∷ entries w.opened)
      (listed_with w.opened xid fresh absent) (live (entries w.opened) same)

  module _ (xid : ℕ) (o : Opened) (is : get w.opened xid ≡ Some o) where
    pub live_acted : (sub : ℕ) (c : change_type.Change) → IsFree schema w xid (footprint schema (own_rows schema w xid o) c)
        → IsFine schema (done_with w xid o (Change sub c))
        → IsLive schema (done_with w xid o (Change sub c)) (effect schema rows c)
    live_acted sub c free fine_after =
        live_put schema w fine xid o is
        (record { items = o.items ++ Change sub c ∷ []; wants = None }) w.stopped fine_after (effect schema rows c)
        (effect_live schema w fine xid o is rows live c free
        ∙ ap (λ cs. in_turn schema (serial schema w.committed cs) (others schema w fine xid o is))
        (sym (work_with_change xid sub o.items c)))

    -- another record of it tells the same work
    pub live_same : (after : Opened) (stopped : Option Stop) → work xid after ≡ work xid o
        → IsFine schema (record w { opened = finite.insert w.opened xid after; stopped = stopped })
        → IsLive schema (record w { opened = finite.insert w.opened xid after; stopped = stopped }) rows
    live_same after stopped its_work fine_after =
        live_put schema w fine xid o is after stopped fine_after rows
        (live_is schema w fine xid o is rows live
        ∙ ap (λ cs. in_turn schema (serial schema w.committed cs) (others schema w fine xid o is)) (sym its_work))

    pub live_touched : (sub : ℕ) → IsFine schema (done_with w xid o (Touch sub))
        → IsLive schema (done_with w xid o (Touch sub)) rows
    live_touched sub fine_after =
        live_same (record { items = o.items ++ Touch sub ∷ []; wants = None }) w.stopped (work_with_touch xid sub o.items) fine_after

    pub live_wanting : (sub : ℕ) (c : change_type.Change) (stopped : Option Stop)
        → IsFine schema (record (wanting w xid o sub c) { stopped = stopped })
        → IsLive schema (record (wanting w xid o sub c) { stopped = stopped }) rows
    live_wanting sub c stopped fine_after = live_same (record o { wants = Some (sub, c) }) stopped refl fine_after

    -- the inverses of what a rollback drops, put back past all that others did, give the live rows of what is left
    pub live_cut : (sub : ℕ) (kept gone : List change_type.Change) → work xid o ≡ kept ++ gone
        → work xid (record { items = o.items ++ BackTo sub ∷ []; wants = None }) ≡ kept
        → IsFine schema (done_with w xid o (BackTo sub))
        → IsLive schema (done_with w xid o (BackTo sub))
        (all_back rows (inverses schema (serial schema w.committed kept) gone))
    live_cut sub kept gone was left fine_after =
        let from : AreApartFrom schema w.committed (kept ++ gone) (others schema w fine xid o is) =
        subst (λ cs. AreApartFrom schema w.committed cs (others schema w fine xid o is)) was (from_others schema w fine xid o is) in
        live_put schema w fine xid o is
        (record { items = o.items ++ BackTo sub ∷ []; wants = None }) w.stopped fine_after
        (all_back rows (inverses schema (serial schema w.committed kept) gone))
        (ap (λ (r : Rows). all_back r (inverses schema (serial schema w.committed kept) gone))
        (live_is schema w fine xid o is rows live ∙ ap (λ cs. in_turn schema (serial schema w.committed cs) (others schema w fine xid o is)) was)
        ∙ cut_back schema w.committed (committed_valid schema w fine) kept gone (others schema w fine xid o is) from
        (others_apart schema w fine xid o is)
        ∙ ap (λ cs. in_turn schema (serial schema w.committed cs) (others schema w fine xid o is)) (sym left))

    -- an abort leaves the others' work
    pub live_aborted : IsFine schema (aborted_with w xid)
        → IsLive schema (aborted_with w xid) (all_back rows (inverses schema w.committed (work xid o)))
    live_aborted fine_after =
        live_by schema (aborted_with w xid) fine_after (all_back rows (inverses schema w.committed (work xid o)))
        (entries (finite.remove w.opened xid)) same
        (ap (λ (r : Rows). all_back r (inverses schema w.committed (work xid o))) (live_is schema w fine xid o is rows live)
        ∙ cut_back schema w.committed (committed_valid schema w fine) [] (work xid o) (others schema w fine xid o is)
        (from_others schema w fine xid o is)
        (others_apart schema w fine xid o is))

    -- a commit leaves the live rows
    pub live_committed : (info : CommitInfo) → IsFine schema (committed_with schema w xid o info)
        → IsLive schema (committed_with schema w xid o info) rows
    live_committed info fine_after =
        live_by schema (committed_with schema w xid o info) fine_after rows
        (entries (finite.remove w.opened xid)) same (live_is schema w fine xid o is rows live)

-- and the others' inverses
pub inverses_stay : (schema : Schema) (w : World) → IsFine schema w → (xid : ℕ) (o : Opened)
    → get w.opened xid ≡ Some o → (other : ℕ) (p : Opened) → other ≢ xid
    → get w.opened other ≡ Some p
    → inverses schema w.committed (work other p) ≡ inverses schema (own_rows schema w xid o) (work other p)
inverses_stay schema w fine xid o is other p differs at =
    inverses_past schema w.committed (committed_valid schema w fine) (work other p) (work xid o)
    (fine.apart other xid p o differs at is)
