-- A field that is read is the field that stands there, and what stands there is read.
use Rattle.std.proofs.Common.{◌≡◌, ℕ, ℤ, zero, suc, ◌+◌, ◌-◌, ◌^◌, ◌<◌, ◌≤◌, Bool, true, false, cond, ltb, List, [], ◌∷◌, ◌++◌, length, get_or, eqb, take, drop, Option, Some, None, Result, Ok, Err, refl, sym, ap, subst, ◌∙◌, append_assoc, arith, inl, inr}
use Rattle.std.specs.Prelude.{FitsSigned, IsUtf8, pos, negsuc}
use Rattle.std.specs.Int.{cast_signed, cast_unsigned}
use Rattle.std.specs.Str.{is_utf8}
use Rattle.std.specs.List.{list_any, position_or_len, before_first, after_first}
use Rattle.std.proofs.lemmas.Bool.{cases_lt, ltb-false, ltb-true, le-ltb, lt-ltb, eqb-true, eq-eqb, ne_eqb}
use Rattle.std.proofs.lemmas.Int.{to_z-of_z, of_z-to_z}
use Rattle.std.proofs.lemmas.List.Sums.{split_at_first, passes_at_first, fails_before_first, position_or_len_is}
use Rattle.std.proofs.lemmas.Str.{IsUtf8-from_is_utf8, is_utf8-from_IsUtf8}
use borrow.Author.Gap.{read_sfits}
use mir.Val.{bits}
use Rattle.std.proofs.lemmas.List.{take_at, drop_at, take-append-drop, length-append, length-take, get_or-drop, get_or-take, get_or_past, get_or_append_left, get_or-append_right}
use Rattle.std.proofs.lemmas.Nat.{be_bytes_2, be_bytes_4, be_bytes_8, from_be_bytes-to_be_bytes_2, from_be_bytes-to_be_bytes_4, from_be_bytes-to_be_bytes_8}
use Rattle.messages.specs.declared.fault.MsgFault.{MsgFault}
use Rattle.messages.specs.declared.fault.MsgFault.TheVariants.{Short, BadText, NegativeCount}
use Rattle.messages.specs.Field.{Size, two, four, eight, width, byte_count, limit, count_limit, number_bytes, Field, Unsigned, Signed, Count, Byte, String, Text, Content, Value, spelling, Fits, HasNoZero, IsName, Begins, is_zero, fault_or_short, wrong}
use Rattle.messages.specs.Reading.{Read, unless_wrong, number_in, unsigned_at, signed_at, count_at, byte_at, string_at, text_at, content_at, read_field}

abbrev pub IsBytes : List ℕ → Type 0
IsBytes bytes = (i : ℕ) → get_or bytes i 0 < 256

IsBytes-drop : (n : ℕ) (bytes : List ℕ) → IsBytes bytes → IsBytes (drop n bytes)
IsBytes-drop n bytes h i = rw get_or-drop (h (n + i))

IsBytes-take : (n : ℕ) (bytes : List ℕ) → IsBytes bytes → IsBytes (take n bytes)
IsBytes-take n bytes h i =
    elim (cases_lt i n) [
      | inl lt ↦ rw (get_or-take n bytes i 0 lt) (h i)
      | inr le ↦ rw (get_or_past (take n bytes) i 0 (omega (arith, length-take n bytes))) (omega arith)
    ]

-- ---- numbers

-- a number's bytes, and the number that bytes say
pub length-number_bytes : (size : Size) (n : ℕ) → length (number_bytes size n) ≡ byte_count size
unfolding number_bytes
length-number_bytes two n = refl
length-number_bytes four n = refl
length-number_bytes eight n = refl

pub number_bytes-number_in : (size : Size) (bytes : List ℕ) → IsBytes bytes → byte_count size ≤ length bytes → number_bytes size (number_in size bytes) ≡ take (byte_count size) bytes
unfolding number_bytes number_in
number_bytes-number_in two bytes fits long = be_bytes_2 (take 2 bytes) _ (omega (arith, length-take 2 bytes)) (IsBytes-take 2 bytes fits) refl
number_bytes-number_in four bytes fits long = be_bytes_4 (take 4 bytes) _ (omega (arith, length-take 4 bytes)) (IsBytes-take 4 bytes fits) refl
number_bytes-number_in eight bytes fits long = be_bytes_8 (take 8 bytes) _ (omega (arith, length-take 8 bytes)) (IsBytes-take 8 bytes fits) refl

below : (size : Size) (bytes : List ℕ) → IsBytes bytes → number_in size bytes < limit size
unfolding number_in
below two bytes fits = let f = IsBytes-take 2 bytes fits in omega (arith, f 0, f 1)
below four bytes fits = let f = IsBytes-take 4 bytes fits in omega (arith, f 0, f 1, f 2, f 3)
below eight bytes fits = let f = IsBytes-take 8 bytes fits in omega (arith, f 0, f 1, f 2, f 3, f 4, f 5, f 6, f 7)

pub number_in-number_bytes : (size : Size) (n : ℕ) (rest : List ℕ) → n < limit size → number_in size (number_bytes size n ++ rest) ≡ n
unfolding number_bytes number_in
number_in-number_bytes two n rest lt = from_be_bytes-to_be_bytes_2 n lt
number_in-number_bytes four n rest lt = from_be_bytes-to_be_bytes_4 n lt
number_in-number_bytes eight n rest lt = from_be_bytes-to_be_bytes_8 n lt

below_bits : (size : Size) (n : ℕ) → n < limit size → n < 2 ^ bits (width size)
below_bits two n lt = lt
below_bits four n lt = lt
below_bits eight n lt = lt

cast_unsigned_below : (size : Size) (z : ℤ) → FitsSigned (width size) z → cast_unsigned (width size) z < limit size
cast_unsigned_below two (pos n) fits = omega (arith, fits.sfits)
cast_unsigned_below two (negsuc n) fits = omega (arith, fits.sfits)
cast_unsigned_below four (pos n) fits = omega (arith, fits.sfits)
cast_unsigned_below four (negsuc n) fits = omega (arith, fits.sfits)
cast_unsigned_below eight (pos n) fits = omega (arith, fits.sfits)
cast_unsigned_below eight (negsuc n) fits = omega (arith, fits.sfits)

below_count : (size : Size) (n : ℕ) → n < count_limit size → n < limit size
below_count two n lt = omega arith
below_count four n lt = omega arith
below_count eight n lt = omega arith

-- ---- each kind of field: what is read stands there, and what stands there is read

-- what was taken from the front
pub record Takes (f : Field) (bytes : List ℕ) (value : Value f) (rest : List ℕ) : Type 0 where
  pub begins : Begins bytes f value rest
  pub rest_fits : IsBytes rest

-- the value and the rest of a reading that did not fail
abbrev read_of : {A : Type 0} → A → List ℕ → Read A
read_of a rest = Ok (a, rest)

-- what a test chose, if it did not fail
guard_ok : {A : Type 0} (b : Bool) (fault : MsgFault) (x : A) (r : Result A MsgFault) → cond b (Err fault) r ≡ Ok x → (b ≡ false) × (r ≡ Ok x)
guard_ok true fault x r e = absurd cc
guard_ok false fault x r e = (refl, e)

test_ok : {A : Type 0} (b : Bool) (fault : MsgFault) (x y : A) → cond b (Ok x) (Err fault) ≡ Ok y → (b ≡ true) × (x ≡ y)
test_ok true fault x y e = (refl, cc)
test_ok false fault x y e = absurd cc

both_ok : {A : Type 0} (b c : Bool) (early bad : MsgFault) (x y : A) → cond b (cond c (Ok x) (Err bad)) (Err early) ≡ Ok y → (b ≡ true) × (c ≡ true) × (x ≡ y)
both_ok true true early bad x y e = (refl, refl, cc)
both_ok true false early bad x y e = absurd cc
both_ok false c early bad x y e = absurd cc

same_reading : {A : Type 0} (x y : A × List ℕ) → read_of x.0 x.1 ≡ Ok y → x ≡ y
same_reading x y e = cc

-- what was written is enough, and the rest stands behind it
enough : (size : Size) (n : ℕ) (rest : List ℕ) → ltb (length (number_bytes size n ++ rest)) (byte_count size) ≡ false
enough size n rest = le-ltb _ _ (omega (arith, length-append (number_bytes size n) rest, length-number_bytes size n))

behind : (size : Size) (n : ℕ) (rest : List ℕ) → drop (byte_count size) (number_bytes size n ++ rest) ≡ rest
behind size n rest = drop_at (number_bytes size n) rest (byte_count size) (length-number_bytes size n)

unsigned_taken : (size : Size) (bytes : List ℕ) (x : ℕ × List ℕ) → IsBytes bytes → unsigned_at size bytes ≡ Ok x → Takes (Unsigned size) bytes x.0 x.1
unfolding unsigned_at
unsigned_taken size bytes x fits e =
    let g = guard_ok (ltb (length bytes) (byte_count size)) Short x (Ok (number_in size bytes, drop (byte_count size) bytes)) e in
    let long : byte_count size ≤ length bytes = ltb-false _ _ g.0 in
    subst (λ (y : ℕ × List ℕ). Takes (Unsigned size) bytes y.0 y.1) (same_reading (number_in size bytes, drop (byte_count size) bytes) x g.1) (record {
      begins = record { fits = below size bytes fits; parts = rw (number_bytes-number_in size bytes fits long) (sym (take-append-drop (byte_count size) bytes)) };
      rest_fits = IsBytes-drop (byte_count size) bytes fits;
    })

unsigned_again : (size : Size) (n : ℕ) (rest : List ℕ) → n < limit size → unsigned_at size (number_bytes size n ++ rest) ≡ Ok (n, rest)
unfolding unsigned_at
unsigned_again size n rest lt = rw (enough size n rest, number_in-number_bytes size n rest lt, behind size n rest) refl

signed_taken : (size : Size) (bytes : List ℕ) (x : ℤ × List ℕ) → IsBytes bytes → signed_at size bytes ≡ Ok x → Takes (Signed size) bytes x.0 x.1
unfolding signed_at
signed_taken size bytes x fits e =
    let n = number_in size bytes in
    let g = guard_ok (ltb (length bytes) (byte_count size)) Short x (Ok (cast_signed (width size) n, drop (byte_count size) bytes)) e in
    let long : byte_count size ≤ length bytes = ltb-false _ _ g.0 in
    let back : cast_unsigned (width size) (cast_signed (width size) n) ≡ n = of_z-to_z (width size) n (below_bits size n (below size bytes fits)) in
    subst (λ (y : ℤ × List ℕ). Takes (Signed size) bytes y.0 y.1) (same_reading (cast_signed (width size) n, drop (byte_count size) bytes) x g.1) (record {
      begins = record {
        fits = read_sfits (width size) n;
        parts = rw (back, number_bytes-number_in size bytes fits long) (sym (take-append-drop (byte_count size) bytes));
      };
      rest_fits = IsBytes-drop (byte_count size) bytes fits;
    })

signed_again : (size : Size) (z : ℤ) (rest : List ℕ) → FitsSigned (width size) z → signed_at size (number_bytes size (cast_unsigned (width size) z) ++ rest) ≡ Ok (z, rest)
unfolding signed_at
signed_again size z rest fits =
    let n = cast_unsigned (width size) z in
    rw (enough size n rest, number_in-number_bytes size n rest (cast_unsigned_below size z fits), behind size n rest, to_z-of_z (width size) z fits) refl

count_taken : (size : Size) (bytes : List ℕ) (x : ℕ × List ℕ) → IsBytes bytes → count_at size bytes ≡ Ok x → Takes (Count size) bytes x.0 x.1
unfolding count_at
count_taken size bytes x fits e =
    let n = number_in size bytes in
    let g = guard_ok (ltb (length bytes) (byte_count size)) Short x (cond (ltb n (count_limit size)) (Ok (n, drop (byte_count size) bytes)) (Err NegativeCount)) e in
    let t = test_ok (ltb n (count_limit size)) NegativeCount (n, drop (byte_count size) bytes) x g.1 in
    let long : byte_count size ≤ length bytes = ltb-false _ _ g.0 in
    subst (λ (y : ℕ × List ℕ). Takes (Count size) bytes y.0 y.1) t.1 (record {
      begins = record { fits = ltb-true _ _ t.0; parts = rw (number_bytes-number_in size bytes fits long) (sym (take-append-drop (byte_count size) bytes)) };
      rest_fits = IsBytes-drop (byte_count size) bytes fits;
    })

count_again : (size : Size) (n : ℕ) (rest : List ℕ) → n < count_limit size → count_at size (number_bytes size n ++ rest) ≡ Ok (n, rest)
unfolding count_at
count_again size n rest lt =
    let small : ltb n (count_limit size) ≡ true = lt-ltb _ _ lt in
    rw (enough size n rest, number_in-number_bytes size n rest (below_count size n lt), small, behind size n rest) refl

-- ---- one byte

IsBytes-rest : (b : ℕ) (bytes : List ℕ) → IsBytes (b ∷ bytes) → IsBytes bytes
IsBytes-rest b bytes h i = h (suc i)

not_wrong : (o : Option MsgFault) (b : ℕ) (rest : List ℕ) (x : ℕ × List ℕ) → unless_wrong o b rest ≡ Ok x → (o ≡ None) × ((b, rest) ≡ x)
not_wrong None b rest x e = (refl, cc)
not_wrong (Some fault) b rest x e = absurd cc

byte_taken : (table : ℕ → Option MsgFault) (bytes : List ℕ) (x : ℕ × List ℕ) → IsBytes bytes → byte_at table bytes ≡ Ok x → Takes (Byte table) bytes x.0 x.1
unfolding byte_at
byte_taken table [] x fits e = absurd cc
byte_taken table (b ∷ rest) x fits e =
    let w = not_wrong (table b) b rest x e in
    subst (λ (y : ℕ × List ℕ). Takes (Byte table) (b ∷ rest) y.0 y.1) w.1 (record { begins = record { fits = w.0; parts = refl }; rest_fits = IsBytes-rest b rest fits })

byte_again : (table : ℕ → Option MsgFault) (b : ℕ) (rest : List ℕ) → table b ≡ None → byte_at table (b ∷ rest) ≡ Ok (b, rest)
unfolding byte_at
byte_again table b rest e = rw e refl

-- ---- texts

pub no_zero_before_first : (bytes : List ℕ) → HasNoZero (before_first is_zero bytes)
no_zero_before_first bytes c =
    let at = position_or_len is_zero bytes in
    let lt : c.0 < at = omega (arith, c.1, length-take at bytes) in
    let zero_here : get_or bytes c.0 0 ≡ 0 = sym (get_or-take at bytes c.0 0 lt) ∙ c.2 in
    let no : eqb (get_or bytes c.0 0) 0 ≡ false = fails_before_first is_zero bytes c.0 0 lt in
    absurd (cc (eq-eqb _ _ zero_here))

string_taken : (bytes : List ℕ) (x : List ℕ × List ℕ) → IsBytes bytes → string_at bytes ≡ Ok x → Takes String bytes x.0 x.1
unfolding string_at
string_taken bytes x fits e =
    let at = position_or_len is_zero bytes in
    let text = before_first is_zero bytes in
    let rest = after_first is_zero bytes in
    let g = both_ok (ltb at (length bytes)) (is_utf8 text) Short BadText (text, rest) x e in
    let inside : at < length bytes = ltb-true _ _ g.0 in
    let zero_there : get_or bytes at 1 ≡ 0 = eqb-true _ _ (passes_at_first is_zero bytes 1 inside) in
    let len : length text ≡ at = omega (arith, length-take at bytes) in
    subst (λ (y : List ℕ × List ℕ). Takes String bytes y.0 y.1) g.2 (record {
      begins = record {
        fits = record { utf8 = IsUtf8-from_is_utf8 text g.1; no_zero = no_zero_before_first bytes };
        parts = split_at_first is_zero bytes 1 inside ∙ rw zero_there (sym (append_assoc text (0 ∷ []) rest));
      };
      rest_fits = IsBytes-drop (at + 1) bytes fits;
    })

string_again : (text rest : List ℕ) → IsName text → string_at ((text ++ 0 ∷ []) ++ rest) ≡ Ok (text, rest)
unfolding string_at
string_again text rest name =
    let bytes = (text ++ 0 ∷ []) ++ rest in
    let parts : bytes ≡ text ++ 0 ∷ rest = append_assoc text (0 ∷ []) rest in
    let len : length bytes ≡ length text + suc (length rest) = ap length parts ∙ length-append text (0 ∷ rest) in
    let before : (k : ℕ) → k < length text → is_zero (get_or bytes k 0) ≡ false = λ k lt.
    rw (parts, get_or_append_left text (0 ∷ rest) 0 k lt) (ne_eqb _ _ (λ zero_here. name.no_zero (k, lt, zero_here))) in
    let here : is_zero (get_or bytes (length text) 0) ≡ true = rw (parts, get_or-append_right text (0 ∷ rest) (length text) (length text) 0 refl (omega arith)) (let same : length text - length text ≡ 0 = omega arith in rw same refl) in
    let at : position_or_len is_zero bytes ≡ length text = position_or_len_is is_zero bytes (length text) 0 (omega (arith, len)) before (λ _. here) in
    let inside : ltb (length text) (length bytes) ≡ true = lt-ltb _ _ (omega (arith, len)) in
    let front : take (length text) bytes ≡ text = ap (take (length text)) parts ∙ take_at text (0 ∷ rest) (length text) refl in
    let back : drop (length text + 1) bytes ≡ rest = drop_at (text ++ 0 ∷ []) rest (length text + 1) (length-append text (0 ∷ [])) in
    rw (at, inside, front, is_utf8-from_IsUtf8 text name.utf8, back) refl

text_taken : (n : ℕ) (bytes : List ℕ) (x : List ℕ × List ℕ) → IsBytes bytes → text_at n bytes ≡ Ok x → Takes (Text n) bytes x.0 x.1
unfolding text_at
text_taken n bytes x fits e =
    let g = guard_ok (ltb (length bytes) n) Short x (cond (is_utf8 (take n bytes)) (Ok (take n bytes, drop n bytes)) (Err BadText)) e in
    let t = test_ok (is_utf8 (take n bytes)) BadText (take n bytes, drop n bytes) x g.1 in
    let long : n ≤ length bytes = ltb-false _ _ g.0 in
    subst (λ (y : List ℕ × List ℕ). Takes (Text n) bytes y.0 y.1) t.1 (record {
      begins = record { fits = (omega (arith, length-take n bytes), IsUtf8-from_is_utf8 (take n bytes) t.0); parts = sym (take-append-drop n bytes) };
      rest_fits = IsBytes-drop n bytes fits;
    })

text_again : (n : ℕ) (text rest : List ℕ) → length text ≡ n → IsUtf8 text → text_at n (text ++ rest) ≡ Ok (text, rest)
unfolding text_at
text_again n text rest len utf8 =
    let long : ltb (length (text ++ rest)) n ≡ false = le-ltb _ _ (omega (arith, length-append text rest)) in
    rw (long, take_at text rest n len, is_utf8-from_IsUtf8 text utf8, drop_at text rest n len) refl

content_taken : (n : ℕ) (bytes : List ℕ) (x : List ℕ × List ℕ) → IsBytes bytes → content_at n bytes ≡ Ok x → Takes (Content n) bytes x.0 x.1
unfolding content_at
content_taken n bytes x fits e =
    let g = guard_ok (ltb (length bytes) n) Short x (Ok (take n bytes, drop n bytes)) e in
    let long : n ≤ length bytes = ltb-false _ _ g.0 in
    subst (λ (y : List ℕ × List ℕ). Takes (Content n) bytes y.0 y.1) (same_reading (take n bytes, drop n bytes) x g.1) (record {
      begins = record { fits = omega (arith, length-take n bytes); parts = sym (take-append-drop n bytes) };
      rest_fits = IsBytes-drop n bytes fits;
    })

content_again : (n : ℕ) (content rest : List ℕ) → length content ≡ n → content_at n (content ++ rest) ≡ Ok (content, rest)
unfolding content_at
content_again n content rest len =
    let long : ltb (length (content ++ rest)) n ≡ false = le-ltb _ _ (omega (arith, length-append content rest)) in
    rw (long, take_at content rest n len, drop_at content rest n len) refl

-- ---- any field

pub field_taken : (f : Field) (bytes : List ℕ) (x : Value f × List ℕ) → IsBytes bytes → read_field f bytes ≡ Ok x → Takes f bytes x.0 x.1
field_taken (Unsigned size) bytes x fits e = unsigned_taken size bytes x fits e
field_taken (Signed size) bytes x fits e = signed_taken size bytes x fits e
field_taken (Count size) bytes x fits e = count_taken size bytes x fits e
field_taken (Byte table) bytes x fits e = byte_taken table bytes x fits e
field_taken String bytes x fits e = string_taken bytes x fits e
field_taken (Text n) bytes x fits e = text_taken n bytes x fits e
field_taken (Content n) bytes x fits e = content_taken n bytes x fits e

spelled_again : (f : Field) (value : Value f) (rest : List ℕ) → Fits f value → read_field f (spelling f value ++ rest) ≡ Ok (value, rest)
spelled_again (Unsigned size) value rest fits = unsigned_again size value rest fits
spelled_again (Signed size) value rest fits = signed_again size value rest fits
spelled_again (Count size) value rest fits = count_again size value rest fits
spelled_again (Byte table) value rest fits = byte_again table value rest fits
spelled_again String value rest fits = string_again value rest fits
spelled_again (Text n) value rest fits = text_again n value rest fits.0 fits.1
spelled_again (Content n) value rest fits = content_again n value rest fits

pub field_again : (f : Field) (bytes : List ℕ) (value : Value f) (rest : List ℕ) → Begins bytes f value rest → read_field f bytes ≡ Ok (value, rest)
field_again f bytes value rest b = ap (read_field f) b.parts ∙ spelled_again f value rest b.fits

-- ---- the fault of a field that isn't there

guard_err : {A : Type 0} (b : Bool) (fault other : MsgFault) (x : A) → cond b (Err fault) (Ok x) ≡ Err other → other ≡ fault
guard_err true fault other x e = cc
guard_err false fault other x e = absurd cc

two_faults : {A : Type 0} (b c : Bool) (early bad other : MsgFault) (x : A) → cond b (Err early) (cond c (Ok x) (Err bad)) ≡ Err other → other ≡ cond b early bad
two_faults true c early bad other x e = cc
two_faults false true early bad other x e = absurd cc
two_faults false false early bad other x e = cc

text_faults : {A : Type 0} (b c : Bool) (early bad other : MsgFault) (x : A) → cond b (cond c (Ok x) (Err bad)) (Err early) ≡ Err other → other ≡ cond b bad early
text_faults true true early bad other x e = absurd cc
text_faults true false early bad other x e = cc
text_faults false c early bad other x e = cc

byte_fault : (o : Option MsgFault) (b : ℕ) (rest : List ℕ) (other : MsgFault) → unless_wrong o b rest ≡ Err other → other ≡ fault_or_short o
byte_fault None b rest other e = absurd cc
byte_fault (Some fault) b rest other e = cc

zero_there : (bytes : List ℕ) → ltb (position_or_len is_zero bytes) (length bytes) ≡ list_any is_zero bytes
zero_there [] = refl
zero_there (zero ∷ bytes) = lt-ltb _ _ (omega arith)
zero_there (suc b ∷ bytes) = grind (arith, zero_there bytes)

pub field_failed : (f : Field) (bytes : List ℕ) (fault : MsgFault) → read_field f bytes ≡ Err fault → fault ≡ wrong f bytes
unfolding unsigned_at signed_at count_at byte_at string_at text_at content_at
field_failed (Unsigned size) bytes fault e = guard_err _ _ _ _ e
field_failed (Signed size) bytes fault e = guard_err _ _ _ _ e
field_failed (Count size) bytes fault e = two_faults _ _ _ _ _ _ e
field_failed (Byte table) [] fault e = cc
field_failed (Byte table) (b ∷ bytes) fault e = byte_fault (table b) b bytes fault e
field_failed String bytes fault e = text_faults _ _ _ _ _ _ e ∙ ap (λ t. cond t BadText Short) (zero_there bytes)
field_failed (Text n) bytes fault e = two_faults _ _ _ _ _ _ e
field_failed (Content n) bytes fault e = guard_err _ _ _ _ e
