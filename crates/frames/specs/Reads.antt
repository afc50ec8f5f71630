-- What is known of the items that were read, in whatever pieces the bytes came.
use Rattle.std.specs.Prelude.{◌≡◌, ℕ, List, [], ◌∷◌, ◌++◌, Option, Some, None, Result, Ok, Err, MatchResult}
use Rattle.std.specs.Io.KnownBytes.{IsAtEnd}
use Rattle.frames.specs.declared.fault.FrameFault.{FrameFault}
use Rattle.frames.specs.declared.fault.FrameFault.TheVariants.{Truncated, Device, OutOfMemory}
use Rattle.frames.specs.declared.item.CopyItem.{CopyItem}
use Rattle.frames.specs.Stream.{Ending, Waits, Closed, Broken, Reading, copy_items, ending_of}

-- The items are the copy items of the bytes, which end so. Where memory ran out they are a beginning of them. A device
-- that failed says nothing of the bytes.
abbrev pub Reads : List ℕ → List CopyItem → Ending → Type 0
Reads bytes items (Waits rest) = (items ≡ copy_items bytes) × (ending_of bytes ≡ Waits rest)
Reads bytes items Closed = (items ≡ copy_items bytes) × (ending_of bytes ≡ Closed)
Reads bytes items (Broken Device) = items ≡ copy_items bytes
Reads bytes items (Broken OutOfMemory) = (more : List CopyItem) × (items ++ more ≡ copy_items bytes)
Reads bytes items (Broken fault) = (items ≡ copy_items bytes) × (ending_of bytes ≡ Broken fault)

-- Of the bytes fed up to the first refusal, the items handed out and those kept.
abbrev pub HasRead : List ℕ → List CopyItem → Reading → Type 0
HasRead fed out kept = Reads fed (out ++ kept.items) kept.ending

-- the fault that every further call answers
abbrev pub fault_of : Ending → Option FrameFault
fault_of (Waits rest) = None
fault_of Closed = None
fault_of (Broken fault) = Some fault

-- the fault of an input that ends here
abbrev pub fault_at_end : Ending → Option FrameFault
fault_at_end (Waits []) = None
fault_at_end (Waits (byte ∷ bytes)) = Some Truncated
fault_at_end Closed = None
fault_at_end (Broken fault) = Some fault

-- the answer is this fault, or Ok for none
abbrev pub AnswersFault : {T : Type 0} → Result T FrameFault → Option FrameFault → Type 0
AnswersFault result fault = MatchResult result (λ _. fault ≡ None) (λ f. fault ≡ Some f)

-- What is known of all that was handed out, once nothing is kept and the input has ended, by the answer at its end: the
-- items are the copy items of the bytes, and the fault is that of their end. Want of memory may have cut the items
-- short, and a device that failed says nothing of the bytes.
abbrev pub HasEnded : {T : Type 0} → Result T FrameFault → List ℕ → List CopyItem → Type 0
HasEnded (Ok done) fed out = (out ≡ copy_items fed) × (fault_at_end (ending_of fed) ≡ None)
HasEnded (Err Device) fed out = out ≡ copy_items fed
HasEnded (Err OutOfMemory) fed out = (more : List CopyItem) × (out ++ more ≡ copy_items fed)
HasEnded (Err fault) fed out = (out ≡ copy_items fed) × (fault_at_end (ending_of fed) ≡ Some fault)

-- A reader that asks for no more bytes: it was closed or refused, or its source, which has these bytes left, has none.
abbrev pub AtEndOf : Ending → Option (List ℕ) → Type 0
AtEndOf (Waits rest) left = IsAtEnd left
AtEndOf Closed left = Unit {0}
AtEndOf (Broken fault) left = Unit {0}

-- a fault of the stream itself, or want of memory
abbrev pub IsStreamFault : FrameFault → Type 0
IsStreamFault Truncated = ⊥
IsStreamFault Device = ⊥
IsStreamFault fault = Unit {0}
