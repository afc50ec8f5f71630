-- Frames as they are spelled are read.
use Rattle.std.proofs.Common.{◌≡◌, ℕ, ◌+◌, ◌<◌, ◌≤◌, ◌^◌, true, false, ltb, leb, eqb, List, [], ◌∷◌, ◌++◌, length, take, drop, None, Ok, refl, ap, ◌∙◌, arith, append_assoc}
use Rattle.std.proofs.lemmas.Nat.{from_be_bytes-to_be_bytes_4, from_be_bytes-to_be_bytes_8}
use Rattle.std.proofs.lemmas.List.{take_at, drop_at, length-append, get_or_at}
use Rattle.std.proofs.lemmas.Bool.{lt-ltb, le-ltb, cond-true, cond-false}
use Rattle.std.proofs.lemmas.Bool.Decides.{nat_tests}
use Rattle.frames.specs.declared.item.CopyItem.{CopyItem}
use Rattle.frames.specs.declared.item.CopyItem.TheVariants.{Wal, Keepalive, Done}
use Rattle.frames.specs.declared.fault.FrameFault.TheVariants.{ServerError}
use Rattle.std.specs.Prelude.{not, slice_index}
use Rattle.frames.specs.Wire.{tag_of, length_of, content_of, is_tag, header_fault, copy_item, copy_data, copy_done, error_response, notice_response, parameter_status, int32, int64, bytes_at, wal_of, keepalive_of, spelled32, spelled64, spelled_frame, spelled_wal, spelled_keepalive}
use Rattle.frames.specs.Stream.{Front, Part, Refused, Skipped, Given, Closing, front, frame_front, content_front, header_front, Closed, Broken, reading, reading_from, after_items}
use Rattle.frames.proofs.Streams.{reading_by_front}

length-spelled32 : (n : ℕ) → length (spelled32 n) ≡ 4
unfolding spelled32
length-spelled32 n = refl

length-spelled64 : (n : ℕ) → length (spelled64 n) ≡ 8
unfolding spelled64
length-spelled64 n = refl

int32-spelled32 : (n : ℕ) → n < 2 ^ 32 → int32 (spelled32 n) ≡ n
unfolding int32 spelled32
int32-spelled32 n h = from_be_bytes-to_be_bytes_4 n h

int64-spelled64 : (n : ℕ) → n < 2 ^ 64 → int64 (spelled64 n) ≡ n
unfolding int64 spelled64
int64-spelled64 n h = from_be_bytes-to_be_bytes_8 n h

-- the number at the front of more bytes
int64_front : (n : ℕ) (more : List ℕ) → n < 2 ^ 64 → int64 (take 8 (spelled64 n ++ more)) ≡ n
int64_front n more h = ap int64 (take_at (spelled64 n) more 8 (length-spelled64 n)) ∙ int64-spelled64 n h

length_of-spelled : (tag : ℕ) (content rest : List ℕ) → length content + 4 < 2 ^ 32 → length_of (spelled_frame tag content ++ rest) ≡ length content + 4
length_of-spelled tag content rest h =
    let n = length content + 4 in
    ap (λ x. int32 (take 4 x)) (append_assoc (spelled32 n) content rest) ∙ ap int32 (take_at (spelled32 n) (content ++ rest) 4 (length-spelled32 n)) ∙ int32-spelled32 n h

length-spelled : (tag : ℕ) (content : List ℕ) → length (spelled_frame tag content) ≡ length content + 4 + 1
length-spelled tag content = let n = length content + 4 in omega (arith, length-append (spelled32 n) content, length-spelled32 n)

content_of-spelled : (tag : ℕ) (content : List ℕ) → content_of (spelled_frame tag content) ≡ content
content_of-spelled tag content = let n = length content + 4 in drop_at (spelled32 n) content 4 (length-spelled32 n)

front_checked : (tag len : ℕ) (bytes : List ℕ) → tag_of bytes ≡ tag → length_of bytes ≡ len → header_fault tag len ≡ None → 5 ≤ length bytes → len < length bytes
    → front bytes ≡ frame_front (take (len + 1) bytes) (drop (len + 1) bytes)
unfolding front
front_checked tag len bytes p q none five fits =
    cond-false (ltb (length bytes) 5) Part _ (le-ltb (length bytes) 5 five)
    ∙ ap (λ x. header_front (header_fault x (length_of bytes)) (length_of bytes) bytes) p ∙ ap (λ x. header_front (header_fault tag x) x bytes) q ∙ ap (λ x. header_front x len bytes) none
    ∙ cond-true (ltb len (length bytes)) _ Part (lt-ltb len (length bytes) fits)

front_spelled : (tag : ℕ) (content rest : List ℕ) → length content + 4 ≤ 67108864 → header_fault tag (length content + 4) ≡ None → front (spelled_frame tag content ++ rest) ≡ frame_front (spelled_frame tag content) rest
front_spelled tag content rest h none =
    let size : length (spelled_frame tag content) ≡ length content + 4 + 1 = length-spelled tag content in
    let all : length (spelled_frame tag content ++ rest) ≡ length content + 4 + 1 + length rest = length-append (spelled_frame tag content) rest ∙ ap (λ x. x + length rest) size in
    front_checked tag (length content + 4) (spelled_frame tag content ++ rest) refl (length_of-spelled tag content rest (omega arith)) none (omega arith) (omega arith)
    ∙ ap (λ x. frame_front x (drop (length content + 4 + 1) (spelled_frame tag content ++ rest))) (take_at (spelled_frame tag content) rest _ size)
    ∙ ap (frame_front (spelled_frame tag content)) (drop_at (spelled_frame tag content) rest _ size)

header_data : (n : ℕ) → 5 ≤ n → n ≤ 67108864 → header_fault copy_data n ≡ None
unfolding header_fault
header_data n p q = grind (arith, nat_tests)

-- a frame that is neither CopyData nor CopyDone
header_other : (tag n : ℕ) → is_tag tag ≡ true → eqb tag copy_data ≡ false → eqb tag copy_done ≡ false → 4 ≤ n → n ≤ 67108864 → header_fault tag n ≡ None
unfolding header_fault
header_other tag n known other unfinished p q = grind (arith, nat_tests)

header_done : header_fault copy_done 4 ≡ None
unfolding header_fault
header_done = refl

-- what a frame gives, and then the rest
reading_spelled : (tag : ℕ) (content rest : List ℕ) (f : Front) → length content + 4 ≤ 67108864 → header_fault tag (length content + 4) ≡ None → frame_front (spelled_frame tag content) rest ≡ f
    → reading (spelled_frame tag content ++ rest) ≡ reading_from f (spelled_frame tag content ++ rest) reading
reading_spelled tag content rest f h none p =
    reading_by_front (spelled_frame tag content ++ rest) ∙ ap (λ x. reading_from x (spelled_frame tag content ++ rest) reading) (front_spelled tag content rest h none ∙ p)

-- a CopyData frame
reading_data : (content rest : List ℕ) (item : CopyItem) → 0 < length content → length content + 4 ≤ 67108864 → copy_item content ≡ Ok item
    → reading (spelled_frame copy_data content ++ rest) ≡ after_items (item ∷ []) (reading rest)
unfolding frame_front
reading_data content rest item some h p =
    reading_spelled copy_data content rest (Given item rest) h (header_data (length content + 4) (omega arith) h)
    (ap (λ x. content_front (copy_item x) rest) (content_of-spelled copy_data content) ∙ ap (λ x. content_front x rest) p)

module _ (start end clock : ℕ) (payload : List ℕ) where
  length-wal : length (spelled_wal start end clock payload) ≡ length payload + 25
  length-wal =
      let a = spelled64 start in let b = spelled64 end in let c = spelled64 clock in
      omega (arith, length-append (a ++ b ++ c) payload, length-append (a ++ b) c, length-append a b, length-spelled64 start, length-spelled64 end, length-spelled64 clock)

  regrouped : spelled64 start ++ spelled64 end ++ spelled64 clock ++ payload ≡ spelled64 start ++ (spelled64 end ++ (spelled64 clock ++ payload))
  regrouped = simp append_assoc

  wal_of-spelled : start < 2 ^ 64 → end < 2 ^ 64 → wal_of (spelled_wal start end clock payload) ≡ Wal start end payload
  wal_of-spelled p q =
      let a = spelled64 start in let b = spelled64 end in let c = spelled64 clock in
      let first : int64 (bytes_at 1 8 (spelled_wal start end clock payload)) ≡ start = ap (λ x. int64 (take 8 x)) regrouped ∙ int64_front start (b ++ (c ++ payload)) p in
      let second : int64 (bytes_at 9 8 (spelled_wal start end clock payload)) ≡ end =
      ap (λ x. int64 (take 8 (drop 8 x))) regrouped ∙ ap (λ x. int64 (take 8 x)) (drop_at a (b ++ (c ++ payload)) 8 (length-spelled64 start)) ∙ int64_front end (c ++ payload) q in
      let rest : drop 25 (spelled_wal start end clock payload) ≡ payload =
      drop_at (a ++ b ++ c) payload 24 (omega (arith, length-append (a ++ b) c, length-append a b, length-spelled64 start, length-spelled64 end, length-spelled64 clock)) in
      rw (first, second, rest) refl

  copy_item-wal : start < 2 ^ 64 → end < 2 ^ 64 → copy_item (spelled_wal start end clock payload) ≡ Ok (Wal start end payload)
  unfolding copy_item
  copy_item-wal p q =
      let enough : leb 25 (length (spelled_wal start end clock payload)) ≡ true = let l = length-wal in grind (arith, nat_tests) in
      rw enough (ap Ok (wal_of-spelled p q))

  pub reading_wal : (rest : List ℕ) → start < 2 ^ 64 → end < 2 ^ 64 → length payload + 29 ≤ 67108864
      → reading (spelled_frame copy_data (spelled_wal start end clock payload) ++ rest) ≡ after_items (Wal start end payload ∷ []) (reading rest)
  reading_wal rest p q h =
      let l = length-wal in reading_data (spelled_wal start end clock payload) rest (Wal start end payload) (omega arith) (omega arith) (copy_item-wal p q)

module _ (end clock reply : ℕ) where
  length-keepalive : length (spelled_keepalive end clock reply) ≡ 18
  length-keepalive =
      let a = spelled64 end in let b = spelled64 clock in
      omega (arith, length-append (a ++ b) (reply ∷ []), length-append a b, length-spelled64 end, length-spelled64 clock)

  last_of : slice_index (spelled_keepalive end clock reply) 17 ≡ reply
  last_of =
      let a = spelled64 end in let b = spelled64 clock in
      get_or_at (a ++ b) reply [] 0 16 (omega (arith, length-append a b, length-spelled64 end, length-spelled64 clock))

  keepalive_of-spelled : end < 2 ^ 64 → keepalive_of (spelled_keepalive end clock reply) ≡ Keepalive end (not (eqb reply 0))
  keepalive_of-spelled p =
      let a = spelled64 end in let b = spelled64 clock in
      let first : int64 (bytes_at 1 8 (spelled_keepalive end clock reply)) ≡ end = ap (λ x. int64 (take 8 x)) (append_assoc a b (reply ∷ [])) ∙ int64_front end (b ++ reply ∷ []) p in
      ap (λ x. Keepalive x (not (eqb (slice_index (spelled_keepalive end clock reply) 17) 0))) first ∙ ap (λ x. Keepalive end (not (eqb x 0))) last_of

  copy_item-keepalive : end < 2 ^ 64 → copy_item (spelled_keepalive end clock reply) ≡ Ok (Keepalive end (not (eqb reply 0)))
  unfolding copy_item
  copy_item-keepalive p =
      let exact : eqb (length (spelled_keepalive end clock reply)) 18 ≡ true = let l = length-keepalive in grind (arith, nat_tests) in
      rw exact (ap Ok (keepalive_of-spelled p))

  pub reading_keepalive : (rest : List ℕ) → end < 2 ^ 64
      → reading (spelled_frame copy_data (spelled_keepalive end clock reply) ++ rest) ≡ after_items (Keepalive end (not (eqb reply 0)) ∷ []) (reading rest)
  reading_keepalive rest p =
      let l = length-keepalive in reading_data (spelled_keepalive end clock reply) rest (Keepalive end (not (eqb reply 0))) (omega arith) (omega arith) (copy_item-keepalive p)

pub reading_done : (rest : List ℕ) → reading (spelled_frame copy_done [] ++ rest) ≡ record { items = Done ∷ []; ending = Closed }
unfolding frame_front
reading_done rest = reading_spelled copy_done [] rest Closing (omega arith) header_done refl

pub reading_notice : (content rest : List ℕ) → length content + 4 ≤ 67108864 → reading (spelled_frame notice_response content ++ rest) ≡ reading rest
unfolding frame_front
reading_notice content rest h = reading_spelled notice_response content rest (Skipped rest) h (header_other notice_response (length content + 4) refl refl refl (omega arith) h) refl

pub reading_parameter : (content rest : List ℕ) → length content + 4 ≤ 67108864 → reading (spelled_frame parameter_status content ++ rest) ≡ reading rest
unfolding frame_front
reading_parameter content rest h = reading_spelled parameter_status content rest (Skipped rest) h (header_other parameter_status (length content + 4) refl refl refl (omega arith) h) refl

pub reading_error : (content rest : List ℕ) → length content + 4 ≤ 67108864 → reading (spelled_frame error_response content ++ rest) ≡ record { items = []; ending = Broken ServerError }
unfolding frame_front
reading_error content rest h = reading_spelled error_response content rest (Refused ServerError) h (header_other error_response (length content + 4) refl refl refl (omega arith) h) refl

-- each kind of frame is read as it is spelled
pub ruleset frames_read = (reading_wal, reading_keepalive, reading_done, reading_notice, reading_parameter, reading_error)
