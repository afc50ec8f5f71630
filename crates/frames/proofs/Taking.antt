-- Frames taken off one after another.
use Rattle.std.proofs.Common.{◌≡◌, ℕ, ◌<◌, List, [], ◌∷◌, ◌++◌, length, refl, sym, ap, ◌∙◌, subst, append_assoc, append-nil}
use Rattle.frames.specs.declared.fault.FrameFault.{FrameFault}
use Rattle.frames.specs.declared.fault.FrameFault.TheVariants.{Device, OutOfMemory}
use Rattle.frames.specs.declared.item.CopyItem.{CopyItem}
use Rattle.frames.specs.declared.item.CopyItem.TheVariants.{Done}
use Rattle.frames.specs.Stream.{Front, Part, Refused, Skipped, Given, Closing, front, Ending, Waits, Closed, Broken, Reading, after_items, reading_from, reading, copy_items, ending_of}
use Rattle.frames.specs.Reads.{Reads}
use Rattle.frames.specs.Steps.{UnlessMemory}
use Rattle.frames.proofs.Fronts.{Shrinks, Shrinks-front}
use Rattle.frames.proofs.Streams.{reading_by_front}
use Rattle.frames.proofs.Handed.{Reads-after_items}

-- the items grew by those of the frames before the rest
abbrev pub Progress : List CopyItem → List CopyItem → List ℕ → List ℕ → Type 0
Progress before items all rest = (given : List CopyItem) × (items ≡ before ++ given) × (reading all ≡ after_items given (reading rest))

-- the items grew by all that the bytes give, which end so
abbrev pub Finished : List CopyItem → List CopyItem → List ℕ → Ending → Type 0
Finished before items all e = (given : List CopyItem) × (items ≡ before ++ given) × Reads all given e

pub Progress-start : (items : List CopyItem) (all : List ℕ) → Progress items items all all
Progress-start items all = ([], sym (append-nil items), refl)

by_front : (bytes : List ℕ) (f : Front) → front bytes ≡ f → reading bytes ≡ reading_from f bytes reading
by_front bytes f p = reading_by_front bytes ∙ ap (λ x. reading_from x bytes reading) p

pub shorter_skipped : (old new : List ℕ) → front old ≡ Skipped new → length new < length old
shorter_skipped old new p = subst (λ f. Shrinks f (length old)) p (Shrinks-front old)

pub shorter_given : (old new : List ℕ) (item : CopyItem) → front old ≡ Given item new → length new < length old
shorter_given old new item p = subst (λ f. Shrinks f (length old)) p (Shrinks-front old)

pub Progress-skipped : (before items : List CopyItem) (all old new : List ℕ) → Progress before items all old → front old ≡ Skipped new → Progress before items all new
Progress-skipped before items all old new h p = (h.0, h.1, h.2 ∙ ap (after_items h.0) (by_front old _ p))

pub Progress-given : (before items more : List CopyItem) (all old new : List ℕ) (item : CopyItem) → Progress before items all old → front old ≡ Given item new → more ≡ items ++ item ∷ [] → Progress before more all new
Progress-given before items more all old new item h p q = (
  h.0 ++ item ∷ [],
  q ∙ ap (λ x. x ++ item ∷ []) h.1 ∙ append_assoc before h.0 (item ∷ []),
  h.2 ∙ ap (after_items h.0) (by_front old _ p) ∙ ap (λ x. record { items = x; ending = ending_of new }) (sym (append_assoc h.0 (item ∷ []) (copy_items new))),
)

finish : (before items kept more : List CopyItem) (all old : List ℕ) (e : Ending) → Progress before items all old → kept ≡ items ++ more → Reads old more e → Finished before kept all e
finish before items kept more all old e h q r =
    (h.0 ++ more, q ∙ ap (λ x. x ++ more) h.1 ∙ append_assoc before h.0 more, Reads-after_items all old h.0 more e h.2 r)

same : (items : List CopyItem) → items ≡ items ++ []
same items = sym (append-nil items)

pub Finished-part : (before items : List CopyItem) (all old rest : List ℕ) → Progress before items all old → front old ≡ Part → rest ≡ old → Finished before items all (Waits rest)
Finished-part before items all old rest h p q =
    let r = by_front old Part p in
    finish before items items [] all old (Waits rest) h (same items) (sym (ap (λ (x : Reading). x.items) r), ap (λ (x : Reading). x.ending) r ∙ ap Waits (sym q))

Reads-refused : (old : List ℕ) (fault : FrameFault) → UnlessMemory fault (front old ≡ Refused fault) → Reads old [] (Broken fault)
Reads-refused old OutOfMemory p = (copy_items old, refl)
Reads-refused old Device p = sym (ap (λ (x : Reading). x.items) (by_front old (Refused Device) p))
Reads-refused old fault p = let r = by_front old (Refused fault) p in (sym (ap (λ (x : Reading). x.items) r), ap (λ (x : Reading). x.ending) r)

pub Finished-refused : (before items : List CopyItem) (all old : List ℕ) (fault : FrameFault) → Progress before items all old → UnlessMemory fault (front old ≡ Refused fault) → Finished before items all (Broken fault)
Finished-refused before items all old fault h p = finish before items items [] all old (Broken fault) h (same items) (Reads-refused old fault p)

pub Finished-closing : (before items kept : List CopyItem) (all old : List ℕ) → Progress before items all old → front old ≡ Closing → kept ≡ items ++ Done ∷ [] → Finished before kept all Closed
Finished-closing before items kept all old h p q =
    let r = by_front old Closing p in
    finish before items kept (Done ∷ []) all old Closed h q (sym (ap (λ (x : Reading). x.items) r), ap (λ (x : Reading). x.ending) r)
