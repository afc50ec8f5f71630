-- The keys of a map's entries, as the members that they stand for.
use Rattle.std.proofs.Common.{◌≡◌, ℕ, Bool, ◌&&◌, List, [], ◌∷◌, refl, ap, map, Bor, ◌||◌, string_bytes}
use Rattle.std.specs.List.{list_any, list_all}
use Rattle.std.specs.Map.{keys_of}
use Rattle.std.specs.Str.{bytes_eq}
use Rattle.toml.specs.View.{members_view}
use Rattle.toml.proofs.Views.{Entry}
use Rattle.catalog.specs.Document.{has_only}

pub has_only-view : (keys : List (List ℕ)) (es : List Entry) → has_only keys (members_view es) ≡ list_all (λ key. list_any (bytes_eq (string_bytes key)) keys) (keys_of es)
has_only-view keys [] = refl
has_only-view keys (e ∷ es) = ap (λ rest. list_any (bytes_eq (string_bytes e.0)) keys && rest) (has_only-view keys es)

pub list_any-now : {A : Type 0} (p : A → Bool) (xs : List (Bor A)) → list_any p (map (λ x. x.now) xs) ≡ list_any (λ x. p x.now) xs
list_any-now p [] = refl
list_any-now p (x ∷ xs) = ap (λ rest. p x.now || rest) (list_any-now p xs)
