-- Texts in bytes.
use Rattle.std.proofs.Common.{◌≡◌, ℕ, ◌+◌, ◌<◌, Bool, true, false, ltb, List, length, drop, Ok, refl, ap, ◌∙◌, arith}
use Rattle.std.specs.Prelude.{IsUtf8}
use Rattle.std.specs.Str.{is_utf8}
use Rattle.std.specs.List.{position_or_len, before_first}
use Rattle.std.proofs.lemmas.Bool.{lt-ltb}
use Rattle.std.proofs.lemmas.List.{drop-drop}
use Rattle.std.proofs.lemmas.Str.{IsUtf8-from_is_utf8}
use Rattle.messages.specs.Field.{is_zero}
use Rattle.messages.specs.Reading.{string_at}

pub not_utf8 : (bytes : List ℕ) → ¬ (IsUtf8 bytes) → false ≡ is_utf8 bytes
not_utf8 bytes refuted = tested (is_utf8 bytes) refl
  where
    tested : (b : Bool) → is_utf8 bytes ≡ b → false ≡ b
    tested true e = absurd (refuted (IsUtf8-from_is_utf8 bytes e))
    tested false e = refl

-- the string whose zero byte was found
pub string_found : (bytes text : List ℕ) (at : ℕ) → at ≡ position_or_len is_zero bytes → at < length bytes → text ≡ before_first is_zero bytes → is_utf8 text ≡ true → string_at bytes ≡ Ok (text, drop 1 (drop at bytes))
unfolding string_at
string_found bytes text at here inside front utf8 =
    let found : ltb (position_or_len is_zero bytes) (length bytes) ≡ true = lt-ltb _ _ (omega (arith, here)) in
    let rest : drop 1 (drop at bytes) ≡ drop (position_or_len is_zero bytes + 1) bytes = drop-drop 1 at bytes ∙ ap (λ (n : ℕ). drop (n + 1) bytes) here in
    rw (found, ← front, utf8, rest) refl
