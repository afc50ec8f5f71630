-- What is known of the items read, as more bytes come.
use Rattle.std.specs.Prelude.{IfSome, option_to_list}
use Rattle.std.proofs.Common.{◌≡◌, ℕ, List, [], ◌∷◌, ◌++◌, Option, Some, None, refl, sym, ap, ◌∙◌, subst, append_assoc, append-nil}
use Rattle.frames.specs.declared.fault.FrameFault.TheVariants.{Device, OutOfMemory}
use Rattle.frames.specs.declared.item.CopyItem.{CopyItem}
use Rattle.frames.specs.Stream.{Ending, Waits, Closed, Broken, Reading, after_items, reading, reading_within, copy_items, reading_after}
use Rattle.frames.specs.Reads.{Reads, HasRead}
use Rattle.frames.proofs.Streams.{reading-append}

-- items that were read before
pub Reads-after_items : (all bytes : List ℕ) (given more : List CopyItem) (e : Ending) → reading all ≡ after_items given (reading bytes) → Reads bytes more e → Reads all (given ++ more) e
Reads-after_items all bytes given more (Waits rest) p h = (ap (λ x. given ++ x) h.0 ∙ sym (ap (λ (r : Reading). r.items) p), ap (λ (r : Reading). r.ending) p ∙ h.1)
Reads-after_items all bytes given more Closed p h = (ap (λ x. given ++ x) h.0 ∙ sym (ap (λ (r : Reading). r.items) p), ap (λ (r : Reading). r.ending) p ∙ h.1)
Reads-after_items all bytes given more (Broken Device) p h = ap (λ x. given ++ x) h ∙ sym (ap (λ (r : Reading). r.items) p)
Reads-after_items all bytes given more (Broken OutOfMemory) p h = (h.0, append_assoc given more h.0 ∙ ap (λ x. given ++ x) h.1 ∙ sym (ap (λ (r : Reading). r.items) p))
Reads-after_items all bytes given more (Broken fault) p h = (ap (λ x. given ++ x) h.0 ∙ sym (ap (λ (r : Reading). r.items) p), ap (λ (r : Reading). r.ending) p ∙ h.1)

-- of bytes in two pieces, where the first ends inside a frame or between two
pub reading-waits : (fed piece rest : List ℕ) (items : List CopyItem) → Reads fed items (Waits rest) → reading (fed ++ piece) ≡ after_items items (reading (rest ++ piece))
reading-waits fed piece rest items h = reading-append fed piece ∙ ap (λ e. after_items (copy_items fed) (reading_after e piece)) h.1 ∙ ap (λ x. after_items x (reading (rest ++ piece))) (sym h.0)

-- what a piece adds
pub HasRead-more : (fed piece rest : List ℕ) (out kept given : List CopyItem) (e : Ending) → Reads fed (out ++ kept) (Waits rest) → Reads (rest ++ piece) given e → Reads (fed ++ piece) (out ++ (kept ++ given)) e
HasRead-more fed piece rest out kept given e h more =
    subst (λ x. Reads (fed ++ piece) x e) (append_assoc out kept given) (Reads-after_items (fed ++ piece) (rest ++ piece) (out ++ kept) given e (reading-waits fed piece rest (out ++ kept) h) more)

-- bytes after CopyDone add nothing
pub Reads-closed : (fed piece : List ℕ) (items : List CopyItem) → Reads fed items Closed → Reads (fed ++ piece) items Closed
Reads-closed fed piece items h =
    let p = reading-append fed piece ∙ ap (λ e. after_items (copy_items fed) (reading_after e piece)) h.1 in
    (h.0 ∙ sym (append-nil (copy_items fed)) ∙ sym (ap (λ (r : Reading). r.items) p), ap (λ (r : Reading). r.ending) p)

-- before the first byte
pub Reads-nothing : Reads [] [] (Waits [])
unfolding reading reading_within
Reads-nothing = (refl, refl)

-- what is handed out was kept
pub Reads-handed : (fed : List ℕ) (out old items new : List CopyItem) (e : Ending) → old ≡ items ++ new → Reads fed (out ++ old) e → Reads fed ((out ++ items) ++ new) e
Reads-handed fed out old items new e p h = subst (λ x. Reads fed x e) (ap (λ x. out ++ x) p ∙ sym (append_assoc out items new)) h

-- a closed reader
pub HasRead-closed : (fed piece : List ℕ) (out : List CopyItem) (kept : Reading) → kept.ending ≡ Closed → HasRead fed out kept → HasRead (fed ++ piece) out kept
HasRead-closed fed piece out kept closed h =
    let at_end : Reads fed (out ++ kept.items) Closed = subst (Reads fed (out ++ kept.items)) closed h in
    subst (Reads (fed ++ piece) (out ++ kept.items)) (sym closed) (Reads-closed fed piece (out ++ kept.items) at_end)

-- a reader that took a piece, and more items with it
pub HasRead-fed : (fed piece rest : List ℕ) (out given : List CopyItem) (old new : Reading) → old.ending ≡ Waits rest → new.items ≡ old.items ++ given
    → Reads (rest ++ piece) given new.ending → HasRead fed out old → HasRead (fed ++ piece) out new
HasRead-fed fed piece rest out given old new waits grown more h =
    let before : Reads fed (out ++ old.items) (Waits rest) = subst (Reads fed (out ++ old.items)) waits h in
    subst (λ x. Reads (fed ++ piece) (out ++ x) new.ending) (sym grown) (HasRead-more fed piece rest out old.items given new.ending before more)

-- the next item, if there is one, moves from those kept to those handed out
pub next_read : (r : Option CopyItem) (old new : Reading) → old.items ≡ option_to_list r ++ new.items → old.ending ≡ new.ending
    → IfSome r (λ item. (fed : List ℕ) (out : List CopyItem) → HasRead fed out old → HasRead fed (out ++ item ∷ []) new)
next_read None old new p q = tt
next_read (Some item) old new p q = λ fed out h. subst (Reads fed ((out ++ item ∷ []) ++ new.items)) q (Reads-handed fed out old.items (item ∷ []) new.items old.ending p h)
