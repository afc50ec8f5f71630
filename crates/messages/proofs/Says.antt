-- Spellings put together: the bytes say the value, whatever follows them.
use Rattle.std.proofs.Common.{◌≡◌, ℕ, ℤ, suc, ◌<◌, List, [], ◌∷◌, ◌++◌, length, Option, None, refl, sym, subst, append_assoc, arith}
use Rattle.std.specs.List.{flat_map, All}
use Rattle.std.proofs.lemmas.List.Concat.{flat_map-cons}
use Rattle.std.specs.Prelude.{FitsSigned, IsUtf8}
use Rattle.messages.specs.declared.fault.MsgFault.{MsgFault}
use Rattle.messages.specs.Field.{Size, width, limit, count_limit, number_bytes, Field, Unsigned, Signed, Count, Byte, String, Text, Content, Value, IsName, Fits, spelling}
use Rattle.messages.specs.Writing.{Says, signed_bytes, string_bytes}
use Rattle.messages.specs.Format.{Format, done, one, followed_by, times, Spells}

-- one field
say : (f : Field) (value : Value f) → Fits f value → Says (one f) (spelling f value) value
say f value fits = record { before = λ rest. record { fits = fits; parts = refl } }

pub say_unsigned : {size : Size} {n : ℕ} → n < limit size → Says (one (Unsigned size)) (number_bytes size n) n
say_unsigned {size = size} {n = n} fits = say (Unsigned size) n fits

pub say_signed : {size : Size} {z : ℤ} → FitsSigned (width size) z → Says (one (Signed size)) (signed_bytes size z) z
unfolding signed_bytes
say_signed {size = size} {z = z} fits = say (Signed size) z fits

pub say_count : {size : Size} {n : ℕ} → n < count_limit size → Says (one (Count size)) (number_bytes size n) n
say_count {size = size} {n = n} fits = say (Count size) n fits

pub say_byte : {table : ℕ → Option MsgFault} (b : ℕ) → table b ≡ None → Says (one (Byte table)) (b ∷ []) b
say_byte {table = table} b fits = say (Byte table) b fits

pub say_string : {text : List ℕ} → IsName text → Says (one String) (string_bytes text) text
unfolding string_bytes
say_string {text = text} fits = say String text fits

pub say_text : {text : List ℕ} → IsUtf8 text → Says (one (Text (length text))) text text
say_text {text = text} utf8 = say (Text (length text)) text (refl, utf8)

pub say_content : {bytes : List ℕ} → Says (one (Content (length bytes))) bytes bytes
say_content {bytes = bytes} = say (Content (length bytes)) bytes refl

-- a field or a format, and what follows it
pub next_to : {A B : Type 0} {p : Format A} {next : A → Format B} {x y : List ℕ} {b : B} (a : A) → Says p x a → Says (next a) y b → Says (followed_by p next) (x ++ y) b
next_to {p = p} {next = next} {x = x} {y = y} {b = b} a s t = record { before = λ rest. (a, y ++ rest, subst (λ (bytes : List ℕ). Spells p bytes a (y ++ rest)) (sym (append_assoc x y rest)) (s.before (y ++ rest)), t.before rest) }

-- the last one
pub at_last : {A B : Type 0} {p : Format A} {make : A → B} {x : List ℕ} {b : B} (a : A) → Says p x a → b ≡ make a → Says (followed_by p (λ v. done (make v))) x b
at_last a s e = record { before = λ rest. (a, rest, s.before rest, (e, refl)) }

same_head : (b c : ℕ) (x y : List ℕ) → b ∷ x ≡ c ∷ y → c ≡ b
same_head b c x y e = cc

same_tail : (b c : ℕ) (x y : List ℕ) → b ∷ x ≡ c ∷ y → y ≡ x
same_tail b c x y e = cc

-- what stands behind a byte
pub behind : {A : Type 0} {table : ℕ → Option MsgFault} {next : ℕ → Format A} (b : ℕ) (x : List ℕ) (value : A) → Says (followed_by (one (Byte table)) next) (b ∷ x) value → Says (next b) x value
behind {next = next} b x value said = record {
  before = λ rest.
      let s = said.before rest in
      let head = same_head b s.0 (x ++ rest) s.1 s.2.parts in
      let tail = same_tail b s.0 (x ++ rest) s.1 s.2.parts in
      subst (λ (c : ℕ). Spells (next c) (x ++ rest) value rest) head (subst (λ (y : List ℕ). Spells (next s.0) y value rest) tail s.3);
}

pub nothing : {A : Type 0} {a : A} → Says (done a) [] a
nothing = record { before = λ rest. (refl, refl) }

-- each of a list, one after the other
pub each : {A : Type 0} (p : Format A) (bytes : A → List ℕ) (values : List A) → All (λ a. Says p (bytes a) a) values → Says (times (length values) p) (flat_map bytes values) values
each p bytes [] said = record { before = λ rest. (refl, refl) }
each p bytes (a ∷ values) said = record {
  before = λ rest.
      (subst (λ (x : List ℕ). Says (times (suc (length values)) p) x (a ∷ values)) (sym (flat_map-cons bytes a values))
      (next_to a (said 0 a (omega arith)) (at_last values (each p bytes values (λ k d lt. said (suc k) d (omega arith))) refl))).before rest;
}
