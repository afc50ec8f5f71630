-- Frames at the front of some bytes.
use Rattle.std.proofs.Common.{◌≡◌, ℕ, ◌+◌, List, [], ◌∷◌, take, drop, refl, sym, subst, lit≤}
use Rattle.std.proofs.Math.Seq.{take-add}
use Rattle.server.specs.Frames.{length_field, IsFrame, AreFrames, none, more}

-- as many bytes, said otherwise
pub as_many : (n k : ℕ) (bytes : List ℕ) → k ≡ n → AreFrames (take n bytes) → AreFrames (take k bytes)
as_many n k bytes e front = let P : ℕ → Type 0 = λ x. AreFrames (take x bytes) in subst P (sym e) front

-- one frame more
pub further : (n m k : ℕ) (bytes : List ℕ) → k ≡ n + m → AreFrames (take n bytes) → IsFrame (take m (drop n bytes)) → AreFrames (take k bytes)
further n m k bytes e front frame =
    let P : List ℕ → Type 0 = λ x. AreFrames x in
    as_many (n + m) k bytes e (subst P (sym (take-add n m bytes)) (more _ _ front frame))

-- a frame alone
pub one_frame : (frame : List ℕ) → IsFrame frame → AreFrames frame
one_frame frame whole = more [] frame none whole

-- CopyDone is a frame
pub copy_done_is_frame : AreFrames (99 ∷ 0 ∷ 0 ∷ 0 ∷ 4 ∷ [])
unfolding length_field
copy_done_is_frame = one_frame _ (lit≤ tt, refl)
