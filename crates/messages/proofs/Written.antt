-- What was written is the spelling.
use Rattle.std.proofs.Common.{◌≡◌, ◌+◌, ◌<◌, Bool, List, [], ◌∷◌, ◌++◌, ℕ, length, take, get_or, ap, sym, ◌∙◌, subst}
use Rattle.std.specs.List.{All, flat_map}
use Rattle.std.proofs.lemmas.List.{append-nil, take_more, flat_map_more}
use Rattle.std.proofs.lemmas.List.Elements.{All-more}
use Rattle.messages.specs.declared.message.Message.{Message}
use Rattle.messages.specs.Format.{Spells}
use Rattle.messages.specs.Messages.{message, Spelled}
use Rattle.messages.specs.Writing.{Says}

pub Spelled-from_says : (bytes : List ℕ) (in_block : Bool) (m : Message) → Says (message in_block) bytes m → Spelled bytes in_block m
unfolding Spelled
Spelled-from_says bytes in_block m said = subst (λ (b : List ℕ). Spells (message in_block) b m []) (append-nil bytes) (said.before [])

-- one more of a list, as at a step of a loop
pub written_more : {X : Type 0} (f : X → List ℕ) (start out new : List ℕ) (xs : List X) (i : ℕ) (x : X) → i < length xs → x ≡ get_or xs i x → out ≡ start ++ flat_map f (take i xs) → new ≡ out ++ f x
    → new ≡ start ++ flat_map f (take (i + 1) xs)
written_more f start out new xs i x lt here so_far more =
    let shown : take (i + 1) xs ≡ take i xs ++ x ∷ [] = take_more xs i x lt ∙ ap (λ y. take i xs ++ y ∷ []) (sym here) in
    more ∙ ap (λ bytes. bytes ++ f x) so_far ∙ flat_map_more f start (take i xs) x ∙ ap (λ ys. start ++ flat_map f ys) (sym shown)

pub all_more : {X : Type 0} (P : X → Type 0) (xs : List X) (i : ℕ) (x : X) → i < length xs → x ≡ get_or xs i x → All P (take i xs) → P x → All P (take (i + 1) xs)
all_more P xs i x lt here so_far holds = All-more P xs i x lt so_far (subst P here holds)
