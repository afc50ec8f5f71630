-- The type int: a number of 64 bits.
use Rattle.std.specs.Prelude.{◌≡◌, ◌⊎◌, ◌↔◌, ℕ, suc, ◌+◌, ◌^◌, ◌<◌, ◌≤◌, Bool, true, false, ◌&&◌, ◌==◌, nat_lt, List, [], ◌∷◌, length, Option, Some, None, option_map, ℤ, pos, negsuc, neg_ℤ, if◌then◌else◌, refl, cond, FitsSigned}
use Rattle.std.proofs.Common.{inl, inr, ltb, eqb, sym, ap, ◌∙◌, arith}
use Rattle.std.specs.Int.{w64}
use Rattle.std.specs.Fmt.{decimal, signed_decimal}
use Rattle.std.specs.Str.{all_ascii_digits}
use Rattle.std.specs.Str.Parse.{AllDigits, IsNumeral, digits_value}
use Rattle.std.proofs.lemmas.Bool.{and_parts, and_from, cond-true, lt-ltb, ltb-true, ne_eqb, eqb-true}
use Rattle.std.proofs.lemmas.Fmt.{decimal_is_IsNumeral}
use Rattle.std.proofs.lemmas.Option.{cond_some}
use Rattle.std.proofs.lemmas.Str.Parse.{tells_digits, tells_all_ascii_digits}
use Rattle.model.specs.MappedLemmas.{mapped}
use Rattle.model.specs.declared.value.Value.{Value}
use Rattle.model.specs.declared.value.Value.TheVariants.{Int as IntValue, Text as TextValue, Bool as BoolValue}

-- ---- how it is read

-- one digit or more, and nothing else
abbrev pub is_numeral : List ℕ → Bool
is_numeral text = nat_lt 0 (length text) && all_ascii_digits text

-- the number that digits write in base ten, if it is below the limit
abbrev pub number_below : ℕ → List ℕ → Option ℕ
number_below limit digits = if is_numeral digits && nat_lt (digits_value 10 digits) limit then Some (digits_value 10 digits) else None

-- after '-' down to -2 ^ 63, and after '+' or no sign up to 2 ^ 63 - 1
abbrev pub int_of : List ℕ → Option ℤ
int_of [] = None
int_of (c ∷ text) =
    if c == 45
    then option_map (λ n. neg_ℤ (pos n)) (number_below (2 ^ 63 + 1) text)
    else option_map pos (number_below (2 ^ 63) (if c == 43 then text else c ∷ text))

-- the text is one digit or more after an optional sign, and the number in base ten fits 64 bits
abbrev pub SpellsInt : List ℕ → ℤ → Type 0
SpellsInt text n =
    (digits : List ℕ) × IsNumeral 10 digits
    × (((text ≡ digits) × (digits_value 10 digits < 2 ^ 63) × (n ≡ pos (digits_value 10 digits)))
    ⊎ (((text ≡ 43 ∷ digits) × (digits_value 10 digits < 2 ^ 63) × (n ≡ pos (digits_value 10 digits)))
    ⊎ ((text ≡ 45 ∷ digits) × (digits_value 10 digits ≤ 2 ^ 63) × (n ≡ neg_ℤ (pos (digits_value 10 digits))))))

-- ---- how it is printed

-- digits in base ten, behind '-' where it is negative
abbrev pub int_text : ℤ → List ℕ
int_text = signed_decimal

-- ---- by what it is ordered

-- an int's number; 0 for another value
abbrev pub number_of : Value → ℤ
number_of (IntValue n) = n
number_of (TextValue t) = pos 0
number_of (BoolValue b) = pos 0

-- ---- what is spelled is read

digits_tested : (ds : List ℕ) → all_ascii_digits ds ≡ true → AllDigits 10 ds
digits_tested [] e = tells_digits.empty
digits_tested (c ∷ cs) e =
    let parts = tells_all_ascii_digits.parts c cs e in
    tells_digits.more c cs parts.0 (digits_tested cs parts.1)

tested_digits : (ds : List ℕ) → AllDigits 10 ds → all_ascii_digits ds ≡ true
tested_digits [] all = tells_all_ascii_digits.empty
tested_digits (c ∷ cs) all =
    let parts = tells_digits.parts c cs all in
    tells_all_ascii_digits.more c cs parts.0 (tested_digits cs parts.1)

-- the number of a numeral below the limit, with a sign
numeral_given : (sign : ℕ → ℤ) (limit : ℕ) (ds : List ℕ) (n : ℤ) → option_map sign (number_below limit ds) ≡ Some n
    → IsNumeral 10 ds × (digits_value 10 ds < limit) × (n ≡ sign (digits_value 10 ds))
numeral_given sign limit ds n e =
    let number = mapped sign (number_below limit ds) n e in
    let given = cond_some (is_numeral ds && ltb (digits_value 10 ds) limit) (digits_value 10 ds) number.0 number.1 in
    let tests = and_parts (is_numeral ds) (ltb (digits_value 10 ds) limit) given.0 in
    let digits = and_parts (ltb 0 (length ds)) (all_ascii_digits ds) tests.0 in
    ((ltb-true 0 (length ds) digits.0, digits_tested ds digits.1), ltb-true (digits_value 10 ds) limit tests.1, sym number.2 ∙ ap sign (sym given.1))

numeral_read : (limit : ℕ) (ds : List ℕ) → IsNumeral 10 ds → digits_value 10 ds < limit → number_below limit ds ≡ Some (digits_value 10 ds)
numeral_read limit ds numeral below =
    cond-true (is_numeral ds && ltb (digits_value 10 ds) limit) (Some (digits_value 10 ds)) None
    (and_from _ _ (and_from _ _ (lt-ltb 0 (length ds) numeral.0) (tested_digits ds numeral.1)) (lt-ltb (digits_value 10 ds) limit below))

by_sign : (c : ℕ) (t : List ℕ) (n : ℤ) (minus plus : Bool) → eqb c 45 ≡ minus → eqb c 43 ≡ plus
    → cond minus (option_map (λ n. neg_ℤ (pos n)) (number_below (2 ^ 63 + 1) t)) (option_map pos (number_below (2 ^ 63) (cond plus t (c ∷ t)))) ≡ Some n
    → SpellsInt (c ∷ t) n
by_sign c t n true plus is_minus is_plus e =
    let numeral = numeral_given (λ n. neg_ℤ (pos n)) (2 ^ 63 + 1) t n e in
    (t, numeral.0, inr (inr (ap (λ (x : ℕ). x ∷ t) (eqb-true c 45 is_minus), omega (arith, numeral.1), numeral.2)))
by_sign c t n false true is_minus is_plus e =
    let numeral = numeral_given pos (2 ^ 63) t n e in
    (t, numeral.0, inr (inl (ap (λ (x : ℕ). x ∷ t) (eqb-true c 43 is_plus), numeral.1, numeral.2)))
by_sign c t n false false is_minus is_plus e =
    let numeral = numeral_given pos (2 ^ 63) (c ∷ t) n e in
    (c ∷ t, numeral.0, inl (refl, numeral.1, numeral.2))

int_given : (text : List ℕ) (n : ℤ) → int_of text ≡ Some n → SpellsInt text n
int_given [] n e = cc
int_given (c ∷ t) n e = by_sign c t n (eqb c 45) (eqb c 43) refl refl e

-- a numeral begins with no sign
plain_read : (ds : List ℕ) → IsNumeral 10 ds → digits_value 10 ds < 2 ^ 63 → int_of ds ≡ Some (pos (digits_value 10 ds))
plain_read [] numeral below = absurd (omega (arith, numeral.0))
plain_read (c ∷ cs) numeral below =
    let digit = (tells_digits.parts c cs numeral.1).0 in
    let no_minus : eqb c 45 ≡ false = ne_eqb c 45 (λ is. omega (arith, digit, is)) in
    let no_plus : eqb c 43 ≡ false = ne_eqb c 43 (λ is. omega (arith, digit, is)) in
    rw (no_minus, no_plus) (ap (option_map pos) (numeral_read (2 ^ 63) (c ∷ cs) numeral below))

int_read : (text : List ℕ) (n : ℤ) → SpellsInt text n → int_of text ≡ Some n
int_read text n (ds, numeral, spelled) =
    elim spelled [
      | inl plain ↦ ap int_of plain.0 ∙ plain_read ds numeral plain.1 ∙ ap Some (sym plain.2)
      | inr signed ↦
          elim signed [
            | inl plus ↦ ap int_of plus.0 ∙ ap (option_map pos) (numeral_read (2 ^ 63) ds numeral plus.1) ∙ ap Some (sym plus.2)
            | inr minus ↦
                ap int_of minus.0 ∙ ap (option_map (λ n. neg_ℤ (pos n))) (numeral_read (2 ^ 63 + 1) ds numeral (omega (arith, minus.1)))
                ∙ ap Some (sym minus.2)
          ]
    ]

-- a text is read as the number that it spells
pub int_spelled : (text : List ℕ) (n : ℤ) → (int_of text ≡ Some n) ↔ SpellsInt text n
int_spelled text n = (int_given text n, int_read text n)

-- ---- what is printed is read again

-- what is printed of a number within 64 bits is read as it
pub int_printed : (n : ℤ) → FitsSigned w64 n → int_of (int_text n) ≡ Some n
int_printed (pos n) fits =
    let numeral = decimal_is_IsNumeral n (omega (arith, fits.sfits)) in
    int_read (decimal n) (pos n)
    (decimal n, numeral.0, inl (refl, omega (arith, fits.sfits, numeral.1), ap pos (sym numeral.1)))
int_printed (negsuc n) fits =
    let numeral = decimal_is_IsNumeral (suc n) (omega (arith, fits.sfits)) in
    int_read (45 ∷ decimal (suc n)) (negsuc n)
    (decimal (suc n), numeral.0, inr (inr (refl, omega (arith, fits.sfits, numeral.1), ap (λ (k : ℕ). neg_ℤ (pos k)) (sym numeral.1))))
