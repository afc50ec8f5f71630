-- What is among workers.
--     none_among, among_cases, among_map      nothing is among none; one of a list is the first or a later one, and so among what the list is taken to
--     counted_one      counts of those that go by workers, with one more
use Rattle.std.proofs.Common.{◌≡◌, ℕ, ◌<◌, Bool, true, false, List, [], ◌∷◌, ◌++◌, length, get_or, Option, sym, subst, inl, inr, arith}
use Rattle.std.specs.Prelude.{◌⊎◌, map, Contains, if◌then◌else◌}
use Rattle.std.proofs.lemmas.List.Elements.{All-contains_itself, All-push, Contains-append_left, Contains-append_right, Contains-append_cases, Contains-push, Contains-push_cases}
use Rattle.dispatch.specs.Handle.{Given, HandleModel, IsCounted, AreCounted}
use Rattle.dispatch.specs.Standing.{goes_by}

pub none_among : {X : Type 0} (x : X) → Contains [] x → ⊥
none_among x is = omega (arith, is.1)

pub among_cases : {X : Type 0} (y : X) (xs : List X) (x : X) → Contains (y ∷ xs) x → (y ≡ x) ⊎ Contains xs x
among_cases y xs x is = elim (Contains-append_cases (y ∷ []) xs x is) [
  | inl first ↦ elim (Contains-push_cases [] y x first) [ inl earlier ↦ absurd (none_among x earlier) | inr here ↦ inl here ]
  | inr later ↦ inr later
]

pub among_map : {X Y : Type 0} (f : X → Y) (xs : List X) (x : X) → Contains xs x → Contains (map f xs) (f x)
among_map f [] x is = absurd (none_among x is)
among_map f (y ∷ xs) x is = elim (among_cases y xs x is) [
  | inl here ↦ Contains-append_left (f y ∷ []) (map f xs) (f x) (subst (λ z. Contains (f y ∷ []) (f z)) here (Contains-push [] (f y)))
  | inr later ↦ Contains-append_right (f y ∷ []) (map f xs) (f x) (among_map f xs x later)
]

-- one count more is told, where there is room for it
pub counted_one : (workers : List HandleModel) (i : ℕ) (worker : HandleModel) (named : ℕ × ℕ) (given after : List (ℕ × ℕ)) (ok : Bool) → i < length workers → worker ≡ get_or workers i worker
    → after ≡ (if ok then given ++ named ∷ [] else given) → AreCounted (map goes_by workers) given → IsCounted worker.goes named → AreCounted (map goes_by workers) after
counted_one workers i worker named given after false within is e counted one = subst (AreCounted (map goes_by workers)) (sym e) counted
counted_one workers i worker named given after true within is e counted one =
    subst (AreCounted (map goes_by workers)) (sym e)
    (All-push (λ (n : ℕ × ℕ). (goes : Option Given) × Contains (map goes_by workers) goes × IsCounted goes n) given named counted (worker.goes, among_map goes_by workers worker among, one))
  where
    among : Contains workers worker
    among = subst (Contains workers) (sym is) (All-contains_itself workers i worker within)
