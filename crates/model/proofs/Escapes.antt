-- A text in which no byte is escaped is printed as it is.
use Rattle.std.specs.Prelude.{◌≡◌, ℕ, ◌==◌, false, List, [], ◌∷◌, refl}
use Rattle.std.specs.List.{list_any}
use Rattle.std.proofs.lemmas.Bool.{or_parts}
use Rattle.model.specs.Types.Text.{escape, escaped_text}

-- none of the bytes is this one
abbrev pub Lacks : ℕ → List ℕ → Type 0
Lacks byte bytes = list_any (λ b. b == byte) bytes ≡ false

plain : (byte : ℕ) → (byte == 92) ≡ false → (byte == 124) ≡ false → (byte == 10) ≡ false → (byte == 13) ≡ false → escape byte ≡ byte ∷ []
plain byte backslash bar feed return = rw (backslash, bar, feed, return) refl

pub printed_as_is : (bytes : List ℕ) → Lacks 92 bytes → Lacks 124 bytes → Lacks 10 bytes → Lacks 13 bytes → escaped_text bytes ≡ bytes
printed_as_is [] backslash bar feed return = refl
printed_as_is (byte ∷ bytes) backslash bar feed return =
    let no_backslash = or_parts (byte == 92) (list_any (λ b. b == 92) bytes) backslash in
    let no_bar = or_parts (byte == 124) (list_any (λ b. b == 124) bytes) bar in
    let no_feed = or_parts (byte == 10) (list_any (λ b. b == 10) bytes) feed in
    let no_return = or_parts (byte == 13) (list_any (λ b. b == 13) bytes) return in
    let first = plain byte no_backslash.0 no_bar.0 no_feed.0 no_return.0 in
    let rest = printed_as_is bytes no_backslash.1 no_bar.1 no_feed.1 no_return.1 in
    rw (first, rest) refl
