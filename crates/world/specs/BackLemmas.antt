-- The way back: the live rows with the last changes of one transaction undone, and what it holds on them.
--     valid_back      they are valid at each step
--     held_live      a row whose place it holds stands on the live rows as on its own view
use Rattle.std.specs.Prelude.{◌≡◌, ℕ, true, false, List, [], ◌∷◌, ◌++◌, Some}
use Rattle.std.proofs.Common.{sym, ◌∙◌, ap, subst, inl, inr, true≢false}
use Rattle.std.specs.List.{list_any}
use Rattle.std.specs.FinMap.{get}
use Rattle.model.specs.declared.key.Key.{Key}
use Rattle.model.specs.declared.change.Change.{Change}
use Rattle.model.specs.declared.cell.Cell.TheVariants.{Row}
use Rattle.model.specs.Rows.{Rows, Schema, IsValid}
use Rattle.model.specs.Effect.{serial, inverses, all_back}
use Rattle.model.specs.EffectLemmas.{serial_valid}
use Rattle.model.specs.Cells.{overlaps}
use Rattle.model.specs.Footprint.{held_cells}
use Rattle.model.specs.OverlapLemmas.{place_free_of_one}
use Rattle.world.specs.World.{Opened, World, work, own_rows, holds}
use Rattle.world.specs.Live.{in_turn, IsLive}
use Rattle.world.specs.LiveLemmas.{AreApartFrom, IsFreeOfAll, in_turn_valid}
use Rattle.world.specs.OpenLemmas.{alone_as_live, cut_back}
use Rattle.world.specs.FineLemmas.{committed_valid, fine_reached}
use Rattle.world.specs.Fine.{IsFine}
use Rattle.world.specs.WorldLemmas.{others, from_others, others_apart, live_is}
use Rattle.world.specs.Statements.{BackIsValid, HeldIsLive}

module _ (schema : Schema) (w : World) (fine : IsFine schema w) (xid : ℕ) (o : Opened) (is : get w.opened xid ≡ Some o) (rows : Rows) (live : IsLive schema w rows) where
  -- the live rows with its last changes undone are valid
  pub valid_back : (kept gone : List Change) → work xid o ≡ kept ++ gone
      → IsValid schema (all_back rows (inverses schema (serial schema w.committed kept) gone))
  valid_back kept gone was =
      let from : AreApartFrom schema w.committed (kept ++ gone) (others schema w fine xid o is) =
      subst (λ cs. AreApartFrom schema w.committed cs (others schema w fine xid o is)) was (from_others schema w fine xid o is) in
      subst (IsValid schema)
      (sym (ap (λ (r : Rows). all_back r (inverses schema (serial schema w.committed kept) gone))
      (live_is schema w fine xid o is rows live ∙ ap (λ cs. in_turn schema (serial schema w.committed cs) (others schema w fine xid o is)) was)
      ∙ cut_back schema w.committed (committed_valid schema w fine) kept gone (others schema w fine xid o is) from (others_apart schema w fine xid o is)))
      (in_turn_valid schema (serial schema w.committed kept) (serial_valid schema w.committed kept (committed_valid schema w fine)) (others schema w fine xid o is))

  -- a place that it holds is free of the others
  place_free : (table : ℕ) (key : Key) → list_any (overlaps (Row table key)) (holds schema w xid o) ≡ true → (lists : List (List Change))
      → AreApartFrom schema w.committed (work xid o) lists → IsFreeOfAll schema w.committed (Row table key) lists
  place_free table key its [] from = tt
  place_free table key its (cs ∷ lists) from = (
    elim (place_free_of_one table key (holds schema w xid o) (held_cells schema w.committed cs) from.0) [
      | inl free ↦ absurd (true≢false (sym its ∙ free))
      | inr free ↦ free
    ],
    place_free table key its lists from.1,
  )

  -- a row whose place it holds stands on the live rows as on its own view
  pub held_live : (table : ℕ) (key : Key) → list_any (overlaps (Row table key)) (holds schema w xid o) ≡ true
      → get rows (table, key) ≡ get (own_rows schema w xid o) (table, key)
  held_live table key its =
      ap (λ (r : Rows). get r (table, key)) (live_is schema w fine xid o is rows live)
      ∙ sym (alone_as_live schema w.committed (committed_valid schema w fine) (work xid o) (others schema w fine xid o is)
      (from_others schema w fine xid o is) (others_apart schema w fine xid o is) (Row table key)
      (place_free table key its (others schema w fine xid o is) (from_others schema w fine xid o is)))

-- ---- in every world that is reached

pub back_is_valid : BackIsValid
back_is_valid schema start w reached xid o is rows live =
    valid_back schema w (fine_reached schema start reached.0 w reached.1) xid o is rows live

pub held_is_live : HeldIsLive
held_is_live schema start w reached xid o is rows live =
    held_live schema w (fine_reached schema start reached.0 w reached.1) xid o is rows live
