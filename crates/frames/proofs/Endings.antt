-- How a stream may end.
use Rattle.std.proofs.Common.{◌≡◌, ℕ, zero, suc, ◌+◌, ◌<◌, Bool, true, false, cond, ltb, leb, eqb, List, [], length, take, drop, Option, Some, None, Result, Ok, Err, sym, subst, arith}
use Rattle.std.specs.Prelude.{IfSome, IfErr, not, slice_index}
use Rattle.frames.specs.declared.fault.FrameFault.{FrameFault}
use Rattle.frames.specs.declared.fault.FrameFault.TheVariants.{ServerError, UnknownFrame, BadLength, TooLarge, UnknownCopyTag}
use Rattle.frames.specs.declared.item.CopyItem.{CopyItem}
use Rattle.frames.specs.Wire.{tag_of, length_of, content_of, header_fault, copy_item, is_tag, is_length, copy_data, copy_done, error_response, xlog_data, keepalive, wal_of, keepalive_of}
use Rattle.frames.specs.Stream.{Front, Part, Refused, Skipped, Given, Closing, front, frame_front, content_front, header_front, Ending, Waits, Closed, Broken, Reading, reading, reading_from, ending_of, IsFrameFault}
use Rattle.frames.proofs.Fronts.{Shrinks, Shrinks-front}
use Rattle.frames.proofs.Streams.{reading_by_front}

-- a front that is refused is refused by a fault of a frame
abbrev IsSound : Front → Type 0
IsSound (Refused fault) = IsFrameFault fault
IsSound Part = Unit {0}
IsSound (Skipped rest) = Unit {0}
IsSound (Given item rest) = Unit {0}
IsSound Closing = Unit {0}

header_sound : (a b c : Bool) → IfSome (cond a (Some UnknownFrame) (cond b (Some BadLength) (cond c (Some TooLarge) None))) IsFrameFault
header_sound true b c = tt
header_sound false true c = tt
header_sound false false true = tt
header_sound false false false = tt

item_sound : (a b c d : Bool) (x y : CopyItem) → IfErr (cond a (cond b (Ok x) (Err BadLength)) (cond c (cond d (Ok y) (Err BadLength)) (Err UnknownCopyTag))) IsFrameFault
item_sound true true c d x y = tt
item_sound true false c d x y = tt
item_sound false b true true x y = tt
item_sound false b true false x y = tt
item_sound false b false d x y = tt

header_fault-sound : (tag len : ℕ) → IfSome (header_fault tag len) IsFrameFault
unfolding header_fault
header_fault-sound tag len = header_sound (not (is_tag tag)) (not (is_length tag len)) (ltb 67108864 len)

copy_item-sound : (content : List ℕ) → IfErr (copy_item content) IsFrameFault
unfolding copy_item
copy_item-sound content =
    item_sound (eqb (slice_index content 0) xlog_data) (leb 25 (length content)) (eqb (slice_index content 0) keepalive) (eqb (length content) 18) (wal_of content) (keepalive_of content)

content_front-sound : (r : Result CopyItem FrameFault) (rest : List ℕ) → IfErr r IsFrameFault → IsSound (content_front r rest)
content_front-sound (Ok item) rest h = tt
content_front-sound (Err fault) rest h = h

whole_sound : (a b c : Bool) (r : Result CopyItem FrameFault) (rest : List ℕ) → IfErr r IsFrameFault → IsSound (cond a (content_front r rest) (cond b Closing (cond c (Refused ServerError) (Skipped rest))))
whole_sound true b c r rest h = content_front-sound r rest h
whole_sound false true c r rest h = tt
whole_sound false false true r rest h = tt
whole_sound false false false r rest h = tt

frame_front-sound : (frame rest : List ℕ) → IsSound (frame_front frame rest)
unfolding frame_front
frame_front-sound frame rest =
    whole_sound (eqb (tag_of frame) copy_data) (eqb (tag_of frame) copy_done) (eqb (tag_of frame) error_response) (copy_item (content_of frame)) rest (copy_item-sound (content_of frame))

sound_cond : (b : Bool) (x y : Front) → IsSound x → IsSound y → IsSound (cond b x y)
sound_cond true x y p q = p
sound_cond false x y p q = q

header_front-sound : (h : Option FrameFault) (len : ℕ) (bytes : List ℕ) → IfSome h IsFrameFault → IsSound (header_front h len bytes)
header_front-sound (Some fault) len bytes p = p
header_front-sound None len bytes p = sound_cond (ltb len (length bytes)) (frame_front (take (len + 1) bytes) (drop (len + 1) bytes)) Part (frame_front-sound (take (len + 1) bytes) (drop (len + 1) bytes)) tt

front-sound : (bytes : List ℕ) → IsSound (front bytes)
unfolding front
front-sound bytes =
    sound_cond (ltb (length bytes) 5) Part (header_front (header_fault (tag_of bytes) (length_of bytes)) (length_of bytes) bytes) tt
    (header_front-sound _ (length_of bytes) bytes (header_fault-sound (tag_of bytes) (length_of bytes)))

-- what is known of an ending
abbrev IsEnding : Ending → Type 0
IsEnding (Waits rest) = reading rest ≡ record { items = []; ending = Waits rest }
IsEnding Closed = Unit {0}
IsEnding (Broken fault) = IsFrameFault fault

ending_from : (f : Front) (bytes : List ℕ) → reading bytes ≡ reading_from f bytes reading → IsSound f → Shrinks f (length bytes)
    → ((rest : List ℕ) → length rest < length bytes → IsEnding (ending_of rest)) → IsEnding (reading_from f bytes reading).ending
ending_from Part bytes p s h rec = p
ending_from (Refused fault) bytes p s h rec = s
ending_from (Skipped rest) bytes p s h rec = rec rest h
ending_from (Given item rest) bytes p s h rec = rec rest h
ending_from Closing bytes p s h rec = tt

ending_within : (n : ℕ) (bytes : List ℕ) → length bytes < n → IsEnding (ending_of bytes)
ending_within zero bytes h = absurd (omega arith)
ending_within (suc n) bytes h =
    subst (λ (r : Reading). IsEnding r.ending) (sym (reading_by_front bytes))
    (ending_from (front bytes) bytes (reading_by_front bytes) (front-sound bytes) (Shrinks-front bytes) (λ rest l. ending_within n rest (omega arith)))

is_ending : (bytes : List ℕ) (e : Ending) → ending_of bytes ≡ e → IsEnding e
is_ending bytes e p = subst IsEnding p (ending_within (length bytes + 1) bytes (omega arith))

pub reading-waiting : (bytes rest : List ℕ) → ending_of bytes ≡ Waits rest → reading rest ≡ record { items = []; ending = Waits rest }
reading-waiting bytes rest p = is_ending bytes (Waits rest) p

pub fault_of_frame : (bytes : List ℕ) (fault : FrameFault) → ending_of bytes ≡ Broken fault → IsFrameFault fault
fault_of_frame bytes fault p = is_ending bytes (Broken fault) p
