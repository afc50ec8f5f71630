-- What is known of the parts of workers that are taken off one by one, the last first.
--     front_fresh, front_value      those that are left are fresh, and have the values that they had
--     longer      they stand where they stood
--     one_more, one_longer      it is so of one more; then there is one more
--     numbered_more      the numbers of workers go down by one more, and up once they are turned
--     numbered_at, numbered_last, numbered_front      the number of each is its place
use Rattle.std.proofs.Common.{◌≡◌, ℕ, zero, suc, ◌+◌, ◌<◌, refl, reverse, List, [], ◌∷◌, ◌++◌, length, get_or, sym, ap, subst, ◌∙◌, arith, length-append}
use Rattle.std.specs.Prelude.{All, map}
use Rattle.std.proofs.lemmas.List.{map-append, reverse-append, length-map, get_or_append_left}
use Rattle.std.proofs.lemmas.List.Elements.{All-append, All-cons, All-nil}
use Rattle.dispatch.specs.Parts.{Parted, IsFresh, AreNumbered}

-- those that are left are fresh
pub front_fresh : (whole front rest : List Parted) → whole ≡ front ++ rest → All IsFresh whole → All IsFresh front
front_fresh whole front rest e fresh = λ k d lt.
    let long : length whole ≡ length front + length rest = ap length e ∙ length-append front rest in
    let same : get_or whole k d ≡ get_or front k d = ap (λ (w : List Parted). get_or w k d) e ∙ get_or_append_left front rest d k lt in
    subst IsFresh same (fresh k d (omega arith))

-- and have the values that they had
pub front_value : {Y : Type 0} (f : Parted → Y) (whole front rest : List Parted) (d : Y) (i : ℕ) → whole ≡ front ++ rest → i < length front → get_or (map f front) i d ≡ get_or (map f whole) i d
front_value f whole front rest d i e lt =
    let long = length-map front f in
    let within : i < length (map f front) = omega arith in
    sym (ap (λ (w : List Parted). get_or (map f w) i d) e ∙ ap (λ w. get_or w i d) (map-append f front rest) ∙ get_or_append_left (map f front) (map f rest) d i within)

-- it is so of one more
pub one_more : {X : Type 0} (P : X → Type 0) (made more : List X) (x : X) → more ≡ made ++ x ∷ [] → All P made → P x → All P more
one_more P made more x e so is = subst (All P) (sym e) (All-append P made (x ∷ []) so (All-cons P x [] is (All-nil P)))

-- then there is one more
pub one_longer : {X : Type 0} (made more : List X) (x : X) → more ≡ made ++ x ∷ [] → length more ≡ length made + 1
one_longer made more x e = ap length e ∙ length-append made (x ∷ [])

-- the numbers of workers go down by one more, and up once they are turned
pub numbered_more : (above n : ℕ) (made more : List ℕ) → above ≡ n + 1 → more ≡ made ++ n ∷ [] → AreNumbered above (reverse made) → AreNumbered n (reverse more)
numbered_more above n made more next e so =
    subst (AreNumbered n) (sym (ap reverse e ∙ reverse-append made (n ∷ []))) (refl, subst (λ m. AreNumbered m (reverse made)) next so)

-- the number of each is its place behind the first
pub numbered_at : (first : ℕ) (ns : List ℕ) (i d : ℕ) → AreNumbered first ns → i < length ns → get_or ns i d ≡ first + i
numbered_at first [] i d so lt = absurd (omega (arith, lt))
numbered_at first (n ∷ ns) zero d so lt = so.0 ∙ omega arith
numbered_at first (n ∷ ns) (suc i) d so lt = numbered_at (first + 1) ns i d so.1 (omega (arith, lt)) ∙ omega arith

-- the last one's number is how many stand before it
pub numbered_last : (whole front : List ℕ) (n : ℕ) → whole ≡ front ++ n ∷ [] → AreNumbered 0 whole → n ≡ length front
numbered_last whole front n e so =
    let long = one_longer front whole n e in
    sym (ap (λ w. get_or w (length front) n) e ∙ get_or-append_here front n) ∙ numbered_at 0 whole (length front) n so (omega (arith, long)) ∙ omega arith
  where
    get_or-append_here : (xs : List ℕ) (x : ℕ) → get_or (xs ++ x ∷ []) (length xs) x ≡ x
    get_or-append_here [] x = refl
    get_or-append_here (y ∷ xs) x = get_or-append_here xs x

-- those before the last one are numbered too
pub numbered_front : (first : ℕ) (front rest : List ℕ) → AreNumbered first (front ++ rest) → AreNumbered first front
numbered_front first [] rest so = tt
numbered_front first (n ∷ front) rest so = (so.0, numbered_front (first + 1) front rest so.1)

-- those that are left stand where they stood
pub longer : (whole front rest : List Parted) (i : ℕ) → whole ≡ front ++ rest → i < length front → i < length whole
longer whole front rest i e lt =
    let long : length whole ≡ length front + length rest = ap length e ∙ length-append front rest in omega arith
