-- An answer that is refused for the first fault that applies.
use Rattle.std.proofs.Common.{◌≡◌, ℕ, zero, suc, ◌<◌, List, [], ◌∷◌, take, Some, Result, Ok, Err, refl, sym, ap, ◌∙◌, subst, arith, ⊎_elim}
use Rattle.std.specs.List.{slice_get, AllByRecursion}
use Rattle.std.proofs.lemmas.Bool.{cases_order}
use Rattle.std.proofs.lemmas.Option.{same_Some}
use Rattle.catalog.specs.First.{IsFirst, IsRefusedFirst}

-- what holds of each of the first k
all_before : {F : Type 0} (P : F → Type 0) (xs : List F) (k : ℕ) → AllByRecursion P (take k xs) → (place : ℕ) (x : F) → place < k → slice_get xs place ≡ Some x → P x
all_before P [] k all place x below at = cc
all_before P (y ∷ ys) zero all place x below at = absurd (omega (arith, below))
all_before P (y ∷ ys) (suc k) all zero x below at = subst P (same_Some y x at) all.0
all_before P (y ∷ ys) (suc k) all (suc place) x below at = all_before P ys k all.1 place x (omega (arith, below)) at

module _ {F : Type 0} (order : List F) where
  -- the fault in this place is the first, where each before it is ruled out
  pub first_at : (Applies : F → Type 0) (place : ℕ) (fault : F) → slice_get order place ≡ Some fault → Applies fault → AllByRecursion (λ other. ¬ (Applies other)) (take place order)
      → IsFirst order Applies fault
  first_at Applies place fault stands applies none = record {
    place = place;
    stands = stands;
    applies = applies;
    before = λ earlier other below at. all_before (λ f. ¬ (Applies f)) order place none earlier other below at;
  }

  -- it is the first of what applies by other words too
  pub first_by : (Applies Says : F → Type 0) (fault : F) → IsFirst order Applies fault → ((other : F) → Applies other → Says other) → ((other : F) → Says other → Applies other) → IsFirst order Says fault
  first_by Applies Says fault first raised lowered = record {
    place = first.place;
    stands = first.stands;
    applies = raised fault first.applies;
    before = λ earlier other below at says. first.before earlier other below at (lowered other says);
  }

  -- one fault at most is the first
  one_first : (Applies : F → Type 0) (f g : F) → IsFirst order Applies f → IsFirst order Applies g → f ≡ g
  one_first Applies f g first other =
      ⊎_elim
      (λ (same : first.place ≡ other.place). same_Some f g (sym first.stands ∙ ap (λ (k : ℕ). slice_get order k) same ∙ other.stands))
      (λ apart.
      ⊎_elim
      (λ (below : first.place < other.place). absurd (other.before first.place f below first.stands first.applies))
      (λ (above : other.place < first.place). absurd (first.before other.place g above other.stands other.applies))
      apart)
      (cases_order first.place other.place)

  -- the two sides from the causes: a refusal is for the first fault, and an answer has none
  pub refused_first : {A : Type 0} (answer : Result A F) (Applies : F → Type 0)
      → ((fault : F) → answer ≡ Err fault → IsFirst order Applies fault)
      → ((x : A) → answer ≡ Ok x → (fault : F) → ¬ (Applies fault))
      → IsRefusedFirst order answer Applies
  refused_first (Ok x) Applies refused answered = record {
    refused = λ fault. (refused fault, λ first. absurd (answered x refl fault first.applies));
    answered = (λ _. answered x refl, λ _. (x, refl));
  }
  refused_first {A} (Err g) Applies refused answered = record {
    refused = λ fault. (refused fault, λ first. ap Err (one_first Applies g fault (refused g refl) first));
    answered = (λ given. answered given.0 given.1, λ none. absurd (none g (refused g refl).applies));
  }
