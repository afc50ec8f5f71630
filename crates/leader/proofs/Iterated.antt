-- What the iterator of a vector has given, in a loop over all of it.
--     taken_front, front_fits      a front of the items, which is no longer than they are
--     given_count      so many fewer are left
--     one_left, all_left      where one is left the front is shorter, and what is so of all is so of it
use Rattle.std.proofs.Common.{◌≡◌, ◌+◌, ◌≤◌, ◌++◌, ◌∷◌, [], List, length, ap, ◌∙◌, length-append, suc, arith}
use Rattle.std.specs.Prelude.{All, ◌<◌}
use Rattle.std.specs.Iterator.{Yields}
use Rattle.std.specs.Vec.Iter.{into_iter_items, into_iter_len, into_iter_steps}
use Rattle.std.specs.declared.vec.IntoIter.{IntoIter}

pub taken_front : {X A : Type 0} (s : IntoIter X A) (xs : List X) (t : IntoIter X A) → Yields into_iter_steps s xs t → into_iter_items s ≡ xs ++ into_iter_items t
taken_front s [] t y = ap into_iter_items y
taken_front s (x ∷ xs) t y = y.1.0 ∙ ap (λ ys. x ∷ ys) (taken_front y.0 xs t y.2)

pub front_fits : {X : Type 0} (all front rest : List X) → all ≡ front ++ rest → length front ≤ length all
front_fits all front rest split =
    let whole : length all ≡ length front + length rest = ap length split ∙ length-append front rest in
    omega (arith, whole)

pub given_count : {X A : Type 0} (s : IntoIter X A) (xs : List X) (t : IntoIter X A) → Yields into_iter_steps s xs t → into_iter_len s ≡ length xs + into_iter_len t
given_count s [] t y = omega (arith, ap into_iter_len y)
given_count s (x ∷ xs) t y =
    let next = given_count y.0 xs t y.2 in
    omega (arith, next, y.1.1)

pub one_left : {X : Type 0} (all front : List X) (x : X) (rest : List X) → all ≡ front ++ x ∷ rest → length front < length all
one_left all front x rest split =
    let whole : length all ≡ length front + length (x ∷ rest) = ap length split ∙ length-append front (x ∷ rest) in
    omega (arith, whole)

pub all_left : {X : Type 0} (P : X → Type 0) (front : List X) (x : X) (rest : List X) → All P (front ++ x ∷ rest) → P x
all_left P [] x rest all = all 0 x (omega arith)
all_left P (y ∷ front) x rest all = all_left P front x rest (λ k d below. all (suc k) d (omega (arith, below)))
