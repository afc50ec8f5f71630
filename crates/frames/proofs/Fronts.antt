-- The front of a stream, and what stays of it when more bytes come.
use Rattle.std.proofs.Common.{◌≡◌, ◌≢◌, ℕ, ◌+◌, ◌<◌, ◌≤◌, Bool, true, false, cond, ltb, eqb, List, ◌++◌, length, take, drop, Option, Some, None, Result, Ok, Err, refl, ap, ◌∙◌, arith}
use Rattle.std.proofs.lemmas.List.{take-append-le, drop-append-le, length-append, length-drop, get_or_append_left}
use Rattle.std.proofs.lemmas.Bool.{ltb-true, lt-ltb, le-ltb, ltb-false}
use Rattle.frames.specs.declared.fault.FrameFault.TheVariants.{ServerError}
use Rattle.frames.specs.declared.fault.FrameFault.{FrameFault}
use Rattle.frames.specs.declared.item.CopyItem.{CopyItem}
use Rattle.frames.specs.Wire.{tag_of, length_of, content_of, header_fault, copy_item, copy_data, copy_done, error_response, int32}
use Rattle.frames.specs.Stream.{Front, Part, Refused, Skipped, Given, Closing, front, frame_front, content_front, header_front}

-- a front of which more has come behind it
abbrev pub further : Front → List ℕ → Front
further Part more = Part
further (Refused fault) more = Refused fault
further (Skipped rest) more = Skipped (rest ++ more)
further (Given i rest) more = Given i (rest ++ more)
further Closing more = Closing

further-content_front : (r : Result CopyItem FrameFault) (rest more : List ℕ) → content_front r (rest ++ more) ≡ further (content_front r rest) more
further-content_front (Ok i) rest more = refl
further-content_front (Err fault) rest more = refl

further-chosen : (a b c : Bool) (r : Result CopyItem FrameFault) (f : FrameFault) (rest more : List ℕ)
    → cond a (content_front r (rest ++ more)) (cond b Closing (cond c (Refused f) (Skipped (rest ++ more))))
    ≡ further (cond a (content_front r rest) (cond b Closing (cond c (Refused f) (Skipped rest)))) more
further-chosen true b c r f rest more = further-content_front r rest more
further-chosen false true c r f rest more = refl
further-chosen false false true r f rest more = refl
further-chosen false false false r f rest more = refl

further-frame_front : (frame rest more : List ℕ) → frame_front frame (rest ++ more) ≡ further (frame_front frame rest) more
unfolding frame_front
further-frame_front frame rest more = further-chosen _ _ _ (copy_item (content_of frame)) _ rest more

-- what stands behind a frame is shorter than n bytes
abbrev pub Shrinks : Front → ℕ → Type 0
Shrinks Part n = Unit {0}
Shrinks (Refused fault) n = Unit {0}
Shrinks (Skipped rest) n = length rest < n
Shrinks (Given i rest) n = length rest < n
Shrinks Closing n = Unit {0}

Shrinks-cond : (b : Bool) (x y : Front) (n : ℕ) → (b ≡ true → Shrinks x n) → (b ≡ false → Shrinks y n) → Shrinks (cond b x y) n
Shrinks-cond true x y n p q = p refl
Shrinks-cond false x y n p q = q refl

Shrinks-content_front : (r : Result CopyItem FrameFault) (rest : List ℕ) (n : ℕ) → length rest < n → Shrinks (content_front r rest) n
Shrinks-content_front (Ok i) rest n h = h
Shrinks-content_front (Err fault) rest n h = tt

Shrinks-chosen : (a b c : Bool) (r : Result CopyItem FrameFault) (f : FrameFault) (rest : List ℕ) (n : ℕ) → length rest < n
    → Shrinks (cond a (content_front r rest) (cond b Closing (cond c (Refused f) (Skipped rest)))) n
Shrinks-chosen true b c r f rest n h = Shrinks-content_front r rest n h
Shrinks-chosen false true c r f rest n h = tt
Shrinks-chosen false false true r f rest n h = tt
Shrinks-chosen false false false r f rest n h = h

Shrinks-frame_front : (frame rest : List ℕ) (n : ℕ) → length rest < n → Shrinks (frame_front frame rest) n
unfolding frame_front
Shrinks-frame_front frame rest n h =
    Shrinks-chosen (eqb (tag_of frame) copy_data) (eqb (tag_of frame) copy_done) (eqb (tag_of frame) error_response) (copy_item (content_of frame)) ServerError rest n h

Shrinks-header_front : (h : Option FrameFault) (n : ℕ) (bytes : List ℕ) → Shrinks (header_front h n bytes) (length bytes)
Shrinks-header_front (Some fault) n bytes = tt
Shrinks-header_front None n bytes =
    Shrinks-cond (ltb n (length bytes)) (frame_front (take (n + 1) bytes) (drop (n + 1) bytes)) Part (length bytes)
    (λ t. Shrinks-frame_front (take (n + 1) bytes) (drop (n + 1) bytes) (length bytes) (let l = ltb-true n (length bytes) t in rw length-drop (omega arith)))
    (λ _. tt)

pub Shrinks-front : (bytes : List ℕ) → Shrinks (front bytes) (length bytes)
unfolding front
Shrinks-front bytes =
    Shrinks-cond (ltb (length bytes) 5) Part (header_front (header_fault (tag_of bytes) (length_of bytes)) (length_of bytes) bytes) (length bytes) (λ _. tt) (λ _. Shrinks-header_front _ _ bytes)

further-if : (t u : Bool) (x y : Front) (more : List ℕ) → cond u y Part ≢ Part → (u ≡ true → (t ≡ true) × (x ≡ further y more)) → cond t x Part ≡ further (cond u y Part) more
further-if t true x y more apart h = let there = (h refl).0 in rw there (h refl).1
further-if t false x y more apart h = absurd (apart refl)

further-unless : (t u : Bool) (x y : Front) (more : List ℕ) → cond u Part y ≢ Part → (u ≡ false → (t ≡ false) × (y ≢ Part → x ≡ further y more)) → cond t Part x ≡ further (cond u Part y) more
further-unless t true x y more apart h = absurd (apart refl)
further-unless t false x y more apart h = let there = (h refl).0 in rw there ((h refl).1 apart)

-- more bytes behind a frame that is there
header_front-append : (h : Option FrameFault) (n : ℕ) (a b : List ℕ) → header_front h n a ≢ Part → header_front h n (a ++ b) ≡ further (header_front h n a) b
header_front-append (Some fault) n a b apart = refl
header_front-append None n a b apart =
    further-if (ltb n (length (a ++ b))) (ltb n (length a)) (frame_front (take (n + 1) (a ++ b)) (drop (n + 1) (a ++ b))) (frame_front (take (n + 1) a) (drop (n + 1) a)) b apart
    (λ t. let l = ltb-true n (length a) t in let fits : n + 1 ≤ length a = omega arith in
    (lt-ltb n (length (a ++ b)) (rw length-append (omega arith)), rw (take-append-le (n + 1) a b fits, drop-append-le (n + 1) a b fits) (further-frame_front (take (n + 1) a) (drop (n + 1) a) b)))

length_of-append : (a b : List ℕ) → 5 ≤ length a → length_of (a ++ b) ≡ length_of a
length_of-append a b h =
    let one : 1 ≤ length a = omega arith in
    let four : 4 ≤ length (drop 1 a) = rw length-drop (omega arith) in
    ap int32 (ap (take 4) (drop-append-le 1 a b one) ∙ take-append-le 4 (drop 1 a) b four)

header_front-same : (t n t' n' : ℕ) (bytes : List ℕ) → t' ≡ t → n' ≡ n → header_front (header_fault t' n') n' bytes ≡ header_front (header_fault t n) n bytes
header_front-same t n t' n' bytes p q = ap (λ x. header_front (header_fault x n') n' bytes) p ∙ ap (λ x. header_front (header_fault t x) x bytes) q

pub front-append : (a b : List ℕ) → front a ≢ Part → front (a ++ b) ≡ further (front a) b
unfolding front
front-append a b apart =
    further-unless (ltb (length (a ++ b)) 5) (ltb (length a) 5) (header_front (header_fault (tag_of (a ++ b)) (length_of (a ++ b))) (length_of (a ++ b)) (a ++ b)) (header_front (header_fault (tag_of a) (length_of a)) (length_of a) a) b apart
    (λ t. let l = ltb-false (length a) 5 t in (
      le-ltb (length (a ++ b)) 5 (rw length-append (omega arith)),
      λ there. header_front-same _ _ _ _ (a ++ b) (get_or_append_left a b 0 0 (omega arith)) (length_of-append a b l) ∙ header_front-append _ _ a b there,
    ))
