-- What a stream gives: frame by frame, and in pieces.
use Rattle.std.proofs.lemmas.Bool.{cond-true, lt-ltb}
use Rattle.std.proofs.Common.{◌≡◌, ◌≢◌, ℕ, zero, suc, ltb, ◌+◌, ◌<◌, ◌≤◌, List, [], ◌∷◌, ◌++◌, length, refl, sym, ap, ◌∙◌, subst, arith, append-nil}
use Rattle.frames.specs.declared.fault.FrameFault.{FrameFault}
use Rattle.frames.specs.Stream.{Front, Part, Refused, Skipped, Given, Closing, front, Ending, Waits, Closed, Broken, Reading, after_items, reading_from, reading_within, reading, copy_items, ending_of, reading_after}
use Rattle.frames.proofs.Fronts.{further, front-append, Shrinks, Shrinks-front}

-- two ways of reading what is shorter
same_from : (f : Front) (bytes : List ℕ) (read other : List ℕ → Reading) → Shrinks f (length bytes) → ((rest : List ℕ) → length rest < length bytes → read rest ≡ other rest)
    → reading_from f bytes read ≡ reading_from f bytes other
same_from Part bytes read other s same = refl
same_from (Refused f) bytes read other s same = refl
same_from (Skipped rest) bytes read other s same = same rest s
same_from (Given i rest) bytes read other s same = ap (after_items (i ∷ [])) (same rest s)
same_from Closing bytes read other s same = refl

nothing_within : (n : ℕ) (bytes : List ℕ) → length bytes ≤ 0 → reading_within n bytes ≡ record { items = []; ending = Waits bytes }
unfolding reading_within front
nothing_within zero bytes h = refl
nothing_within (suc n) [] h = refl
nothing_within (suc n) (x ∷ xs) h = absurd (omega arith)

-- how many frames are asked for doesn't matter, if there are no more
same_within : (n m : ℕ) (bytes : List ℕ) → length bytes ≤ n → length bytes ≤ m → reading_within n bytes ≡ reading_within m bytes
unfolding reading_within
same_within zero m bytes p q = sym (nothing_within m bytes p)
same_within (suc n) zero bytes p q = nothing_within (suc n) bytes q
same_within (suc n) (suc m) bytes p q =
    same_from (front bytes) bytes (reading_within n) (reading_within m) (Shrinks-front bytes) (λ rest h. same_within n m rest (omega arith) (omega arith))

one_more : (n : ℕ) (bytes : List ℕ) → reading_within (suc n) bytes ≡ reading_from (front bytes) bytes (reading_within n)
unfolding reading_within
one_more n bytes = refl

-- what a stream gives, by how it begins
pub reading_by_front : (bytes : List ℕ) → reading bytes ≡ reading_from (front bytes) bytes reading
unfolding reading
reading_by_front bytes =
    same_within (length bytes) (suc (length bytes)) bytes (omega arith) (omega arith) ∙ one_more (length bytes) bytes
    ∙ same_from (front bytes) bytes (reading_within (length bytes)) reading (Shrinks-front bytes) (λ rest h. same_within (length bytes) (length rest) rest (omega arith) (omega arith))

abbrev Splits : List ℕ → List ℕ → Type 0
Splits a b = reading (a ++ b) ≡ after_items (copy_items a) (reading_after (ending_of a) b)

at_reading : (a b : List ℕ) (r : Reading) → reading a ≡ r → reading (a ++ b) ≡ after_items r.items (reading_after r.ending b) → Splits a b
at_reading a b r e h = subst (λ (x : Reading). reading (a ++ b) ≡ after_items x.items (reading_after x.ending b)) (sym e) h

splits_from : (f : Front) (a b : List ℕ) → reading a ≡ reading_from f a reading → (f ≢ Part → reading (a ++ b) ≡ reading_from (further f b) (a ++ b) reading) → Shrinks f (length a)
    → ((rest : List ℕ) → length rest < length a → Splits rest b) → Splits a b
splits_from Part a b p q s same = at_reading a b _ p refl
splits_from (Refused f) a b p q s same = at_reading a b _ p (q (λ e. cc))
splits_from (Skipped rest) a b p q s same = at_reading a b _ p (q (λ e. cc) ∙ same rest s)
splits_from (Given i rest) a b p q s same = at_reading a b _ p (q (λ e. cc) ∙ ap (after_items (i ∷ [])) (same rest s))
splits_from Closing a b p q s same = at_reading a b _ p (q (λ e. cc))

splits_within : (n : ℕ) (a b : List ℕ) → length a < n → Splits a b
splits_within zero a b h = absurd (omega arith)
splits_within (suc n) a b h =
    splits_from (front a) a b (reading_by_front a)
    (λ there. reading_by_front (a ++ b) ∙ ap (λ f. reading_from f (a ++ b) reading) (front-append a b there)) (Shrinks-front a)
    (λ rest l. splits_within n rest b (omega arith))

-- the bytes may come in pieces
pub reading-append : (a b : List ℕ) → reading (a ++ b) ≡ after_items (copy_items a) (reading_after (ending_of a) b)
reading-append a b = splits_within (length a + 1) a b (omega arith)

-- nothing comes after an ending that is final
stays : (a b : List ℕ) (e : Ending) → ending_of a ≡ e → reading_after e b ≡ record { items = []; ending = e } → reading (a ++ b) ≡ reading a
stays a b e p q =
    reading-append a b ∙ ap (λ x. after_items (copy_items a) (reading_after x b)) p ∙ ap (after_items (copy_items a)) q
    ∙ ap (λ x. record { items = x; ending = e }) (append-nil (copy_items a)) ∙ ap (λ x. record { items = copy_items a; ending = x }) (sym p)

pub reading-closed : (a b : List ℕ) → ending_of a ≡ Closed → reading (a ++ b) ≡ reading a
reading-closed a b p = stays a b Closed p refl

pub reading-refused : (a b : List ℕ) (fault : FrameFault) → ending_of a ≡ Broken fault → reading (a ++ b) ≡ reading a
reading-refused a b fault p = stays a b (Broken fault) p refl

front_of_header : (bytes : List ℕ) → length bytes < 5 → front bytes ≡ Part
unfolding front
front_of_header bytes h = cond-true (ltb (length bytes) 5) Part _ (lt-ltb (length bytes) 5 h)

-- the five bytes of tag and length aren't there
pub reading-header : (bytes : List ℕ) → length bytes < 5 → reading bytes ≡ record { items = []; ending = Waits bytes }
reading-header bytes h = reading_by_front bytes ∙ ap (λ f. reading_from f bytes reading) (front_of_header bytes h)
