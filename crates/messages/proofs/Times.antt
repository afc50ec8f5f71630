-- Reading values one after the other, as a loop does.
use Rattle.std.proofs.Common.{◌≡◌, ℕ, suc, ◌-◌, ◌+◌, ◌≤◌, ◌<◌, List, [], ◌∷◌, ◌++◌, Result, Ok, Err, refl, sym, ◌∙◌, append_assoc, arith}
use Rattle.std.proofs.lemmas.List.{append-nil}
use Rattle.messages.specs.declared.fault.MsgFault.{MsgFault}
use Rattle.messages.specs.declared.fault.MsgFault.TheVariants.{OutOfMemory}
use Rattle.messages.specs.Format.{Format, times}
use Rattle.messages.specs.Reading.{Read, if_read, read, IsFault}

-- what was read before, and what is still read
abbrev pub with_front : {A : Type 0} → List A → Read (List A) → Read (List A)
with_front front reading = if_read reading (λ x. Ok (front ++ x.0, x.1))

regroup : {A : Type 0} (front : List A) (a : A) (reading : Read (List A)) → with_front front (if_read reading (λ x. Ok (a ∷ x.0, x.1))) ≡ with_front (front ++ a ∷ []) reading
regroup {A = A} front a (Ok x) = let same : front ++ a ∷ x.0 ≡ (front ++ a ∷ []) ++ x.0 = sym (append_assoc front (a ∷ []) x.0) in rw same refl
regroup front a (Err fault) = refl

one_more : (count i : ℕ) → i < count → count - i ≡ suc (count - (i + 1))
one_more count i lt = omega arith

pub goes_on : {A : Type 0} (p : Format A) (front : List A) (count i : ℕ) (bytes : List ℕ) (a : A) (after : List ℕ) (total : Read (List A)) → i < count → read p bytes ≡ Ok (a, after)
    → with_front front (read (times (count - i) p) bytes) ≡ total → with_front (front ++ a ∷ []) (read (times (count - (i + 1)) p) after) ≡ total
goes_on p front count i bytes a after total lt h so_far =
    let one : with_front front (read (times (count - i) p) bytes) ≡ with_front (front ++ a ∷ []) (read (times (count - (i + 1)) p) after) = rw (one_more count i lt, h) (regroup front a (read (times (count - (i + 1)) p) after)) in
    sym one ∙ so_far

-- a fault of one reading that is one of another
pub IsFault-map : {B C : Type 0} (fault : MsgFault) (r : Result B MsgFault) (s : Result C MsgFault) → (r ≡ Err fault → s ≡ Err fault) → IsFault fault r → IsFault fault s
IsFault-map OutOfMemory r s h e = tt
IsFault-map _ r s h e = h e

pub ends : {A : Type 0} (p : Format A) (front : List A) (count i : ℕ) (bytes : List ℕ) (fault : MsgFault) (total : Read (List A)) → i < count → IsFault fault (read p bytes)
    → with_front front (read (times (count - i) p) bytes) ≡ total → IsFault fault total
ends p front count i bytes fault total lt met so_far =
    IsFault-map fault (read p bytes) total (λ h.
    let one : with_front front (read (times (count - i) p) bytes) ≡ Err fault = rw (one_more count i lt, h) refl in
    sym so_far ∙ one) met

pub is_done : {A : Type 0} (p : Format A) (front : List A) (count i : ℕ) (bytes : List ℕ) (total : Read (List A)) → count ≤ i → with_front front (read (times (count - i) p) bytes) ≡ total → total ≡ Ok (front, bytes)
is_done p front count i bytes total le so_far =
    let none : count - i ≡ 0 = omega arith in
    let one : with_front front (read (times (count - i) p) bytes) ≡ Ok (front, bytes) = rw (none, append-nil front) refl in
    sym so_far ∙ one
