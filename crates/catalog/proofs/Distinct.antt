-- Lists in which nothing stands twice, and what tests of a whole list say of its elements.
use Rattle.std.proofs.Common.{◌≡◌, Bool, true, false, not, ◌||◌, ◌+◌, ◌<◌, cond, List, [], ◌∷◌, length, map, arith, All}
use Rattle.std.proofs.lemmas.Bool.{or_parts, false≢true}
use Rattle.std.proofs.lemmas.List.Elements.{All-cons, All-nil, All-map, All-head, All-tail}
use Rattle.std.proofs.lemmas.List.Kept.{AllPairs-cons}
use Rattle.std.specs.List.{AllPairs, list_any, position_or_len}
use Rattle.catalog.specs.Faults.{repeats}

-- where none passes, each fails
pub All-from_list_any : {A : Type 0} (p : A → Bool) (xs : List A) → list_any p xs ≡ false → All (λ x. p x ≡ false) xs
All-from_list_any p [] none = All-nil (λ x. p x ≡ false)
All-from_list_any p (x ∷ xs) none =
    let (here, more) = or_parts (p x) (list_any p xs) none in
    All-cons (λ y. p y ≡ false) x xs here (All-from_list_any p xs more)

-- an element that passes stands at a place of the list
pub position_or_len-within : {A : Type 0} (p : A → Bool) (xs : List A) → list_any p xs ≡ true → position_or_len p xs < length xs
position_or_len-within p [] some = absurd (false≢true some)
position_or_len-within p (x ∷ xs) some =
    elim (p x) as (λ here. (here || list_any p xs) ≡ true → cond (not here) (1 + position_or_len p xs) 0 < length (x ∷ xs)) [
      | true ↦ λ _. omega arith
      | false ↦ λ more. omega (arith, position_or_len-within p xs more)
    ] some

-- where nothing stands twice, what sets two elements apart holds of each pair of images
pub AllPairs-map-distinct : {A B : Type 0} (same : A → A → Bool) (P : A → Type 0) (f : A → B) (R : B → B → Type 0) → ((x y : A) → P x → P y → same x y ≡ false → R (f x) (f y))
    → (xs : List A) → All P xs → repeats same xs ≡ false → AllPairs R (map f xs)
AllPairs-map-distinct same P f R apart [] each none = λ i j d below within. absurd (omega arith)
AllPairs-map-distinct {A} same P f R apart (x ∷ xs) each none =
    let (here, more) = or_parts (list_any (same x) xs) (repeats same xs) none in
    let first : P x = All-head P x xs each in
    let others : All P xs = All-tail P x xs each in
    let apart_here : All (λ y. R (f x) (f y)) xs = λ k d within. apart x _ first (others k d within) (All-from_list_any (same x) xs here k d within) in
    AllPairs-cons R (f x) (map f xs) (All-map (R (f x)) f xs apart_here) (AllPairs-map-distinct same P f R apart xs others more)
