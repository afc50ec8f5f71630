-- The copy items of a stream of frames.
use Rattle.std.specs.Prelude.{ℕ, suc, zero, ◌+◌, ◌==◌, nat_lt, if◌then◌else◌, List, [], ◌∷◌, ◌++◌, length, take, drop, Option, Some, None, Result, Ok, Err}
use Rattle.frames.specs.declared.fault.FrameFault.{FrameFault}
use Rattle.frames.specs.declared.fault.FrameFault.TheVariants.{Truncated, ServerError, Device, OutOfMemory}
use Rattle.frames.specs.declared.item.CopyItem.{CopyItem}
use Rattle.frames.specs.declared.item.CopyItem.TheVariants.{Done}
use Rattle.frames.specs.Wire.{tag_of, length_of, content_of, header_fault, copy_item, copy_data, copy_done, error_response}

-- How a stream begins: with less than a whole frame, a frame that is refused, one that is skipped, one with an item,
-- or CopyDone. A frame that is skipped or has an item comes with the bytes after it.
pub data Front : Type 0 where
  Part : Front
  Refused : FrameFault → Front
  Skipped : List ℕ → Front
  Given : CopyItem → List ℕ → Front
  Closing : Front

-- a CopyData frame with what comes of its content
abbrev pub content_front : Result CopyItem FrameFault → List ℕ → Front
content_front (Ok item) rest = Given item rest
content_front (Err fault) rest = Refused fault

-- a whole frame, and the bytes after it
unfoldable pub frame_front : List ℕ → List ℕ → Front
frame_front frame rest =
    if tag_of frame == copy_data then content_front (copy_item (content_of frame)) rest
    else (if tag_of frame == copy_done then Closing else (if tag_of frame == error_response then Refused ServerError else Skipped rest))

-- the frame of a header that was checked, if all of it is there
abbrev pub header_front : Option FrameFault → ℕ → List ℕ → Front
header_front (Some fault) len bytes = Refused fault
header_front None len bytes = if nat_lt len (length bytes) then frame_front (take (len + 1) bytes) (drop (len + 1) bytes) else Part

-- how the stream of these bytes begins
unfoldable pub front : List ℕ → Front
front bytes = if nat_lt (length bytes) 5 then Part else header_front (header_fault (tag_of bytes) (length_of bytes)) (length_of bytes) bytes

-- Where a stream stands: it waits for the rest of a frame of which these bytes have come (none at a frame's edge),
-- it was closed by CopyDone, or it was refused.
pub data Ending : Type 0 where
  Waits : List ℕ → Ending
  Closed : Ending
  Broken : FrameFault → Ending

-- items, and where the stream stands after them
pub record Reading : Type 0 where
  pub items : List CopyItem
  pub ending : Ending

-- these items first
abbrev pub after_items : List CopyItem → Reading → Reading
after_items items r = record { items = items ++ r.items; ending = r.ending }

-- what a stream gives that begins so, and of which the rest is read so
abbrev pub reading_from : Front → List ℕ → (List ℕ → Reading) → Reading
reading_from Part bytes read = record { items = []; ending = Waits bytes }
reading_from (Refused fault) bytes read = record { items = []; ending = Broken fault }
reading_from (Skipped rest) bytes read = read rest
reading_from (Given item rest) bytes read = after_items (item ∷ []) (read rest)
reading_from Closing bytes read = record { items = Done ∷ []; ending = Closed }

-- what at most n frames give
unfoldable pub reading_within : ℕ → List ℕ → Reading
reading_within zero bytes = record { items = []; ending = Waits bytes }
reading_within (suc n) bytes = reading_from (front bytes) bytes (reading_within n)

-- what the bytes give: a frame has five bytes or more, so there are fewer frames than bytes
unfoldable pub reading : List ℕ → Reading
reading bytes = reading_within (length bytes) bytes

-- the copy items of the whole frames that the bytes begin with, up to CopyDone or the first frame fault
abbrev pub copy_items : List ℕ → List CopyItem
copy_items bytes = (reading bytes).items

-- what follows those frames
abbrev pub ending_of : List ℕ → Ending
ending_of bytes = (reading bytes).ending

-- what more bytes give at an ending
abbrev pub reading_after : Ending → List ℕ → Reading
reading_after (Waits rest) more = reading (rest ++ more)
reading_after Closed more = record { items = []; ending = Closed }
reading_after (Broken fault) more = record { items = []; ending = Broken fault }

-- the faults of frames: UnknownFrame, BadLength, TooLarge, UnknownCopyTag and ServerError
abbrev pub IsFrameFault : FrameFault → Type 0
IsFrameFault Truncated = ⊥
IsFrameFault Device = ⊥
IsFrameFault OutOfMemory = ⊥
IsFrameFault fault = Unit {0}
