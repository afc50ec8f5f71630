-- Which of several faults is answered.
use Rattle.std.specs.Prelude.{◌≡◌, ◌↔◌, ◌<◌, ℕ, List, Some, Result, Ok, Err, slice_get}

-- the fault stands in this order and applies, and none before it does
pub record IsFirst {F : Type 0} (order : List F) (Applies : F → Type 0) (fault : F) : Type 0 where
  pub place : ℕ
  pub stands : slice_get order place ≡ Some fault
  pub applies : Applies fault
  pub before : (earlier : ℕ) (other : F) → earlier < place → slice_get order earlier ≡ Some other → ¬ (Applies other)

-- refused exactly for the first fault that applies, and answered exactly where none does
pub record IsRefusedFirst {A F : Type 0} (order : List F) (answer : Result A F) (Applies : F → Type 0) : Type 0 where
  pub refused : (fault : F) → (answer ≡ Err fault) ↔ IsFirst order Applies fault
  pub answered : ((x : A) × (answer ≡ Ok x)) ↔ ((fault : F) → ¬ (Applies fault))
