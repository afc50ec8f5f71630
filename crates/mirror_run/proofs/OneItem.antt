-- A list of one item.
--     first_of_one      the last item of a list of one is the first
use Rattle.std.proofs.Common.{◌≡◌, ◌+◌, List, [], ◌∷◌, ◌++◌, length, get_or, ap, ◌∙◌, arith}
use Rattle.std.proofs.lemmas.List.{length-append}

pub first_of_one : {X : Type 0} (xs ys : List X) (x : X) → xs ≡ ys ++ x ∷ [] → length xs ≡ 1 → (d : X) → get_or xs 0 d ≡ x
first_of_one xs [] x is one d = ap (λ zs. get_or zs 0 d) is
first_of_one xs (y ∷ ys) x is one d =
    let long : length xs ≡ length (y ∷ ys) + 1 = ap length is ∙ length-append (y ∷ ys) (x ∷ []) in absurd (omega (arith, long, one))
