-- Steps of a report's text.
use Rattle.std.proofs.Common.{◌≡◌, ℕ, zero, suc, ◌+◌, ◌<◌, ◌≤◌, zero-add, List, ◌∷◌, [], ◌++◌, length, get_or, take, None, Result, Ok, Err, OnOk, if◌then◌else◌, codes, sym, ◌∙◌, ap, arith}
use Rattle.std.specs.Result.{is_ok}
use Rattle.std.specs.List.{flat_map, enumerate_from, join_by}
use Rattle.std.proofs.lemmas.List.{take_more, take_all, flat_map_more, append_assoc, append-nil}
use Rattle.std.proofs.lemmas.List.FromFn.{length-enumerate_from, get_or-enumerate_from}
use Rattle.std.proofs.lemmas.Option.{unwrap_or-slice_get}
use Rattle.std.proofs.Math.Seq.{take-suc}
use Rattle.model.specs.declared.row.Row.{Row}
use Rattle.model.specs.Rows.{value_at}
use Rattle.model.specs.Types.{value_text}

-- what is appended unless memory is refused
pub appended : {T E : Type 0} {new : List ℕ} (r : Result T E) (text a : List ℕ) → new ≡ if is_ok r then (text ++ a) else text → OnOk r (new ≡ text ++ a)
appended (Ok x) text a e = e
appended (Err y) text a e = tt

-- a text, and then a further one
pub further : {one new : List ℕ} (text a b : List ℕ) → one ≡ text ++ a → new ≡ one ++ b → new ≡ text ++ (a ++ b)
further text a b e f = f ∙ ap (λ t. t ++ b) e ∙ append_assoc text a b

-- the text of one more numbered element
pub numbered_more : {X : Type 0} (f : ℕ × X → List ℕ) (text : List ℕ) (xs : List X) (n : ℕ) (x : X) → n < length xs → x ≡ get_or xs n x
    → (text ++ flat_map f (take n (enumerate_from 0 xs))) ++ f (n, x) ≡ text ++ flat_map f (take (n + 1) (enumerate_from 0 xs))
numbered_more {X = X} f text xs n x below is =
    let all : List (ℕ × X) = enumerate_from 0 xs in
    let inside : n < length all = omega (arith, length-enumerate_from 0 xs) in
    let number : 0 + n ≡ n = zero-add n in
    let here : get_or all n (n, x) ≡ (n, x) = get_or-enumerate_from 0 xs n (n, x) below ∙ ap (λ (k : ℕ). (k, get_or xs n x)) number ∙ ap (λ (y : X). (n, y)) (sym is) in
    let more : take (n + 1) all ≡ take n all ++ (n, x) ∷ [] = take_more all n (n, x) inside ∙ ap (λ e. take n all ++ e ∷ []) here in
    flat_map_more f text (take n all) (n, x) ∙ ap (λ es. text ++ flat_map f es) (sym more)

-- all of them
pub numbered_all : {X : Type 0} (xs : List X) (n : ℕ) → length xs ≤ n → take n (enumerate_from 0 xs) ≡ enumerate_from 0 xs
numbered_all xs n past = take_all n (enumerate_from 0 xs) (omega (arith, length-enumerate_from 0 xs))

-- the first element among joined ones
joined_first : {X : Type 0} (f : X → List ℕ) (between : List ℕ) (xs : List X) (i : ℕ) (d : X) → i ≤ 0 → i < length xs
    → join_by f between (take i xs) ++ f (get_or xs i d) ≡ join_by f between (take (i + 1) xs)
joined_first f between [] i d none below = absurd (omega arith)
joined_first f between (x ∷ xs) zero d none below = sym (append-nil (f x))
joined_first f between (x ∷ xs) (suc i) d none below = absurd (omega arith)

-- one more
joined_more : {X : Type 0} (f : X → List ℕ) (between : List ℕ) (xs : List X) (i : ℕ) (d : X) → 0 < i → i < length xs
    → (join_by f between (take i xs) ++ between) ++ f (get_or xs i d) ≡ join_by f between (take (i + 1) xs)
joined_more f between [] i d some below = absurd (omega arith)
joined_more f between (x ∷ xs) zero d some below = absurd (omega arith)
joined_more f between (x ∷ xs) (suc i) d some below =
    let next : suc (suc i) ≡ suc i + 1 = omega arith in
    append_assoc (f x ++ flat_map (λ y. between ++ f y) (take i xs)) between (f (get_or xs i d))
    ∙ flat_map_more (λ y. between ++ f y) (f x) (take i xs) (get_or xs i d)
    ∙ ap (λ l. f x ++ flat_map (λ y. between ++ f y) l) (sym (take-suc xs i d (omega arith)))
    ∙ ap (λ k. join_by f between (take k (x ∷ xs))) next

-- the first value of a row
pub row_first : {now new : List ℕ} (text : List ℕ) (row : Row) (column : ℕ) → column ≤ 0 → column < length row → now ≡ text ++ join_by value_text (codes "|") (take column row)
    → new ≡ now ++ value_text (value_at row column) → new ≡ text ++ join_by value_text (codes "|") (take (column + 1) row)
row_first text row column first below was is =
    further text (join_by value_text (codes "|") (take column row)) (value_text (value_at row column)) was is
    ∙ ap (λ v. text ++ (join_by value_text (codes "|") (take column row) ++ value_text v)) (unwrap_or-slice_get row column None)
    ∙ ap (λ t. text ++ t) (joined_first value_text (codes "|") row column None first below)

-- a further value of a row
pub row_more : {now mid new : List ℕ} (text : List ℕ) (row : Row) (column : ℕ) → 0 < column → column < length row → now ≡ text ++ join_by value_text (codes "|") (take column row)
    → mid ≡ now ++ codes "|" → new ≡ mid ++ value_text (value_at row column) → new ≡ text ++ join_by value_text (codes "|") (take (column + 1) row)
row_more text row column more below was bar is =
    let so_far : List ℕ = join_by value_text (codes "|") (take column row) in
    further text (so_far ++ codes "|") (value_text (value_at row column)) (further text so_far (codes "|") was bar) is
    ∙ ap (λ v. text ++ ((so_far ++ codes "|") ++ value_text v)) (unwrap_or-slice_get row column None)
    ∙ ap (λ t. text ++ t) (joined_more value_text (codes "|") row column None more below)
