-- Messages as frames of bytes (PostgreSQL manual: Message Formats).
use Rattle.std.specs.Prelude.{◌≡◌, ℕ, ◌+◌, ◌≤◌, List, [], ◌∷◌, ◌++◌, length, slice_index}
use Rattle.std.specs.Int.{w32, from_be_bytes}

-- the Int32 behind the tag
unfoldable pub length_field : List ℕ → ℕ
length_field bytes =
    from_be_bytes w32 (slice_index bytes 1 ∷ slice_index bytes 2 ∷ slice_index bytes 3 ∷ slice_index bytes 4 ∷ [])

-- a whole frame: a tag, a length that counts itself and the content, and the content
abbrev pub IsFrame : List ℕ → Type 0
IsFrame frame = (5 ≤ length frame) × (length frame ≡ 1 + length_field frame)

-- whole frames, one behind another
pub data AreFrames : List ℕ → Type 0 where
  none : AreFrames []
  more : (bytes frame : List ℕ) → AreFrames bytes → IsFrame frame → AreFrames (bytes ++ frame)
