-- The rows with the work of all open transactions.
--     in_turn      the rows after lists of changes, one list after the other
--     Reordered, IsListing      the same items in some order; the open transactions in some order
--     live_rows, IsLive      the committed rows, and then each open transaction's work; the same for every order
use Rattle.std.specs.Prelude.{◌≡◌, ℕ, List, [], ◌∷◌, map}
use Rattle.std.specs.FinMap.{entries}
use Rattle.model.specs.declared.change.Change.{Change}
use Rattle.model.specs.Rows.{Rows, Schema}
use Rattle.model.specs.Effect.{serial}
use Rattle.world.specs.World.{Opened, World, work}

-- the rows after lists of changes, one list after the other
abbrev pub in_turn : Schema → Rows → List (List Change) → Rows
in_turn schema rows [] = rows
in_turn schema rows (cs ∷ rest) = in_turn schema (serial schema rows cs) rest

-- the same items in some order
pub data Reordered {A : Type 0} : List A → List A → Type 0 where
  same : {xs : List A} → Reordered xs xs
  under : (x : A) {xs ys : List A} → Reordered xs ys → Reordered (x ∷ xs) (x ∷ ys)
  swapped : (x y : A) (xs : List A) → Reordered (x ∷ y ∷ xs) (y ∷ x ∷ xs)
  through : {xs ys zs : List A} → Reordered xs ys → Reordered ys zs → Reordered xs zs

-- each open transaction once, in some order
abbrev pub IsListing : World → List (ℕ × Opened) → Type 0
IsListing w listing = Reordered listing (entries w.opened)

-- the work of each
abbrev pub works : List (ℕ × Opened) → List (List Change)
works listing = map (λ (t : ℕ × Opened). work t.0 t.1) listing

-- the committed rows, and then the work of one transaction after the other
abbrev pub live_rows : Schema → World → List (ℕ × Opened) → Rows
live_rows schema w listing = in_turn schema w.committed (works listing)

-- These are the live rows, whatever the order in which the open transactions are taken.
abbrev pub IsLive : Schema → World → Rows → Type 0
IsLive schema w rows = (listing : List (ℕ × Opened)) → IsListing w listing → rows ≡ live_rows schema w listing
