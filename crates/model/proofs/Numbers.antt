-- What std's parser reads as a 64 bit number is what `int_of` says.
use Rattle.std.proofs.Common.{◌≡◌, ◌≢◌, ℕ, ◌+◌, ◌^◌, ◌<◌, ◌≤◌, Bool, true, false, ◌&&◌, cond, ltb, eqb, List, [], ◌∷◌, length, get_or, Some, None, option_map, Result, Ok, Err, ℤ, pos, neg_ℤ, refl, arith}
use Rattle.std.specs.Int.{w64}
use Rattle.std.specs.Result.{OkIff, result_ok}
use Rattle.std.specs.Str.{all_ascii_digits}
use Rattle.std.specs.Str.Parse.{digits_value, ParsesSigned}
use Rattle.std.proofs.lemmas.Bool.Decides.{nat_tests}
use Rattle.std.proofs.lemmas.Str.Parse.{IsNumeralModel, numerals_by_value, tells_all_ascii_digits, parse_signed_minus, parse_signed_plus, parse_signed_plain}
use Rattle.model.specs.Types.Int.{number_below, int_of}

digits : IsNumeralModel (λ ds. all_ascii_digits ds ≡ true) (digits_value 10)
digits = numerals_by_value (λ ds. all_ascii_digits ds ≡ true) tells_all_ascii_digits

-- a result that is there exactly where the digits are, and their number is below the limit
tested : {E : Type 0} (r : Result ℤ E) (g : ℕ → ℤ) (all : Bool) (len n limit : ℕ) → OkIff r ((all ≡ true) × (0 < len) × (n < limit)) (g n) → result_ok r ≡ option_map g (cond ((ltb 0 len && all) && ltb n limit) (Some n) None)
tested (Ok x) g all len n limit h = grind (arith, nat_tests, h)
tested (Err e) g all len n limit h = grind (arith, nat_tests, h)

read : {E : Type 0} (r : Result ℤ E) (g : ℕ → ℤ) (t : List ℕ) (limit : ℕ) → OkIff r ((all_ascii_digits t ≡ true) × (0 < length t) × (digits_value 10 t < limit)) (g (digits_value 10 t)) → result_ok r ≡ option_map g (number_below limit t)
read r g t limit h = tested r g (all_ascii_digits t) (length t) (digits_value 10 t) limit h

-- 'at most' as 'below'
below : {E : Type 0} (r : Result ℤ E) (v : ℤ) (P Q : Type 0) (n limit : ℕ) → OkIff r (P × Q × (n ≤ limit)) v → OkIff r (P × Q × (n < limit + 1)) v
below (Ok x) v P Q n limit h = ((h.0.0, h.0.1, omega (arith, h.0.2)), h.1)
below (Err e) v P Q n limit h = λ k. h (k.0, k.1, omega (arith, k.2))

by_sign : {E : Type 0} (c : ℕ) (t : List ℕ) (r : Result ℤ E) → ParsesSigned w64 10 (c ∷ t) r → (minus plus : Bool) → eqb c 45 ≡ minus → eqb c 43 ≡ plus → result_ok r ≡ cond minus (option_map (λ n. neg_ℤ (pos n)) (number_below (2 ^ 63 + 1) t)) (option_map pos (number_below (2 ^ 63) (cond plus t (c ∷ t))))
by_sign c t r h true plus is_minus is_plus =
    let first : c ≡ 45 = grind (arith, nat_tests) in
    read r (λ n. neg_ℤ (pos n)) t (2 ^ 63 + 1) (below r _ _ _ _ (2 ^ 63) (parse_signed_minus digits w64 (c ∷ t) r h first))
by_sign c t r h false true is_minus is_plus =
    let first : c ≡ 43 = grind (arith, nat_tests) in
    read r pos t (2 ^ 63) (parse_signed_plus digits w64 (c ∷ t) r h first)
by_sign c t r h false false is_minus is_plus =
    let no_plus : c ≢ 43 = grind (arith, nat_tests) in
    let no_minus : c ≢ 45 = grind (arith, nat_tests) in
    read r pos (c ∷ t) (2 ^ 63) (parse_signed_plain digits w64 (c ∷ t) r h no_plus no_minus)

pub int_of-parses : {E : Type 0} (bs : List ℕ) (r : Result ℤ E) → ParsesSigned w64 10 bs r → result_ok r ≡ int_of bs
int_of-parses [] r h =
    let no_plus : get_or {A = ℕ} [] 0 0 ≢ 43 = omega arith in
    let no_minus : get_or {A = ℕ} [] 0 0 ≢ 45 = omega arith in
    read r pos [] (2 ^ 63) (parse_signed_plain digits w64 [] r h no_plus no_minus)
int_of-parses (c ∷ t) r h = by_sign c t r h (eqb c 45) (eqb c 43) refl refl
