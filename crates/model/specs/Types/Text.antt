-- The type text: bytes that are UTF-8. Each text spells itself.
use Rattle.std.specs.Prelude.{◌≡◌, ◌≢◌, ℕ, ◌==◌, Bool, true, false, List, [], ◌∷◌, ◌++◌, codes, if◌then◌else◌, flat_map, refl, cond}
use Rattle.std.proofs.Common.{eqb, sym, ap, ◌∙◌, subst}
use Rattle.std.proofs.lemmas.Bool.{eqb-true}
use Rattle.model.specs.declared.value.Value.{Value}
use Rattle.model.specs.declared.value.Value.TheVariants.{Int as IntValue, Text as TextValue, Bool as BoolValue}

-- ---- how it is printed

-- a byte of a text: a backslash, `|`, a line feed and a carriage return stand behind a backslash
abbrev pub escape : ℕ → List ℕ
escape byte =
    if byte == 92 then codes "\\\\" else (if byte == 124 then codes "\\p" else (if byte == 10 then codes "\\n" else (if byte == 13 then codes "\\r" else byte ∷ [])))

-- a text with its escapes
abbrev pub escaped_text : List ℕ → List ℕ
escaped_text bytes = flat_map escape bytes

-- the byte that this one stands for behind a backslash
abbrev pub meant : ℕ → ℕ
meant byte = if byte == 112 then 124 else (if byte == 110 then 10 else (if byte == 114 then 13 else byte))

-- the text whose escapes these bytes are; true where a backslash stands in front of them
abbrev pub unescape_behind : Bool → List ℕ → List ℕ
unescape_behind escaped [] = []
unescape_behind true (byte ∷ bytes) = meant byte ∷ unescape_behind false bytes
unescape_behind false (byte ∷ bytes) = if byte == 92 then unescape_behind true bytes else byte ∷ unescape_behind false bytes

-- the text whose escapes these bytes are
abbrev pub unescape : List ℕ → List ℕ
unescape = unescape_behind false

-- ---- by what it is ordered

-- a text's bytes; none for another value
abbrev pub text_of : Value → List ℕ
text_of (IntValue n) = []
text_of (TextValue t) = t
text_of (BoolValue b) = []

-- ---- what is printed, read again

by_tests : (byte : ℕ) (rest : List ℕ) (backslash bar feed return : Bool) → eqb byte 92 ≡ backslash → eqb byte 124 ≡ bar → eqb byte 10 ≡ feed → eqb byte 13 ≡ return
    → unescape (cond backslash (codes "\\\\") (cond bar (codes "\\p") (cond feed (codes "\\n") (cond return (codes "\\r") (byte ∷ [])))) ++ rest) ≡ byte ∷ unescape rest
by_tests byte rest true bar feed return is p f r = ap (λ (x : ℕ). x ∷ unescape rest) (sym (eqb-true byte 92 is))
by_tests byte rest false true feed return b is f r = ap (λ (x : ℕ). x ∷ unescape rest) (sym (eqb-true byte 124 is))
by_tests byte rest false false true return b p is r = ap (λ (x : ℕ). x ∷ unescape rest) (sym (eqb-true byte 10 is))
by_tests byte rest false false false true b p f is = ap (λ (x : ℕ). x ∷ unescape rest) (sym (eqb-true byte 13 is))
by_tests byte rest false false false false other p f r = rw other refl

-- the bytes that are printed of a text are its escapes
pub text_printed : (text : List ℕ) → unescape (escaped_text text) ≡ text
text_printed [] = refl
text_printed (byte ∷ bytes) =
    by_tests byte (escaped_text bytes) (eqb byte 92) (eqb byte 124) (eqb byte 10) (eqb byte 13) refl refl refl refl
    ∙ ap (λ (t : List ℕ). byte ∷ t) (text_printed bytes)

-- no text is printed as `\N`
pub never_null : (text : List ℕ) → escaped_text text ≢ codes "\\N"
never_null text printed =
    let is : text ≡ 78 ∷ [] = sym (text_printed text) ∙ ap unescape printed in
    let shown : escaped_text (78 ∷ []) ≡ codes "\\N" = subst (λ (t : List ℕ). escaped_text t ≡ codes "\\N") is printed in
    cc
