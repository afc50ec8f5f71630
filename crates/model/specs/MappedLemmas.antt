-- What is under a value that was mapped.
use Rattle.std.specs.Prelude.{◌≡◌, Option, None, Some, option_map, refl}
use Rattle.std.proofs.lemmas.Option.{same_Some}

-- what is there after it was mapped was there before, and gave it
pub mapped : {A B : Type 0} (f : A → B) (o : Option A) (y : B) → option_map f o ≡ Some y → (x : A) × (o ≡ Some x) × (f x ≡ y)
mapped f None y e = cc
mapped f (Some x) y e = (x, refl, same_Some _ _ e)
