-- Lists that are written one after another.
--     mapped_more, flat_mapped_more      one element more, and what it asks for
use Rattle.std.proofs.Common.{◌≡◌, ℕ, ◌+◌, ◌<◌, List, [], ◌∷◌, ◌++◌, length, get_or, take, map, append_assoc, ap, sym, ◌∙◌}
use Rattle.std.specs.List.{flat_map}
use Rattle.std.proofs.lemmas.List.{map_more, flat_map_more, take_more}

pub mapped_more : {X Y : Type 0} (f : X → Y) (before out new : List Y) (xs : List X) (index : ℕ) (x : X) (y : Y) → index < length xs → f (get_or xs index x) ≡ y
    → out ≡ before ++ map f (take index xs) → new ≡ out ++ y ∷ [] → new ≡ before ++ map f (take (index + 1) xs)
mapped_more {X} {Y} f before out new xs index x y below is so one =
    one ∙ ap (λ (ys : List Y). ys ++ y ∷ []) so ∙ append_assoc before (map f (take index xs)) (y ∷ [])
    ∙ ap (λ (v : Y). before ++ (map f (take index xs) ++ v ∷ [])) (sym is)
    ∙ ap (λ (ys : List Y). before ++ ys) (sym (map_more f xs index x below))

pub flat_mapped_more : {X Y : Type 0} (f : X → List Y) (before out new : List Y) (xs : List X) (index : ℕ) (x : X) (ys : List Y) → index < length xs → f (get_or xs index x) ≡ ys
    → out ≡ before ++ flat_map f (take index xs) → new ≡ out ++ ys → new ≡ before ++ flat_map f (take (index + 1) xs)
flat_mapped_more {X} {Y} f before out new xs index x ys below is so more =
    more ∙ ap (λ (zs : List Y). zs ++ ys) so ∙ ap (λ (zs : List Y). (before ++ flat_map f (take index xs)) ++ zs) (sym is)
    ∙ flat_map_more f before (take index xs) (get_or xs index x)
    ∙ ap (λ (zs : List X). before ++ flat_map f zs) (sym (take_more xs index x below))
