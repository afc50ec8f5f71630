-- Steps that may be refused, one after another.
use Rattle.std.specs.Prelude.{Bool, true, false, List, [], ◌∷◌, Option, Some, option_and_then, option_map, Result, Ok, Err}
use Rattle.relcache.specs.declared.fault.RelFault.{RelFault}

-- the next step with what the first gives, or the first's fault
infixl 10 ◌>>=◌
abbrev pub ◌>>=◌ : {A B : Type 0} → Result A RelFault → (A → Result B RelFault) → Result B RelFault
(Ok x) >>= next = next x
(Err fault) >>= next = Err fault

-- refused with the fault where the test fails
abbrev pub require : Bool → RelFault → Result (Unit {0}) RelFault
require true fault = Ok tt
require false fault = Err fault

-- what f gives for each element, in order, if it gives something for all of them
abbrev pub each : {A B : Type 0} → (A → Option B) → List A → Option (List B)
each f [] = Some []
each f (x ∷ xs) = option_and_then (λ y. option_map (λ ys. y ∷ ys) (each f xs)) (f x)
