-- Whole payloads: what is read of all the bytes is what they spell, or the fault that stands.
use Rattle.std.proofs.Common.{◌≡◌, ℕ, Bool, List, [], ◌∷◌, ◌++◌, Result, Ok, Err, refl, sym, ap, subst, ◌∙◌, inl, inr, ◌⊎◌}
use Rattle.std.specs.Prelude.{◌≢◌, IfOk, IfErr}
use Rattle.messages.specs.declared.fault.MsgFault.{MsgFault}
use Rattle.messages.specs.declared.fault.MsgFault.TheVariants.{Trailing, OutOfMemory}
use Rattle.messages.specs.declared.message.Message.{Message}
use Rattle.messages.specs.Format.{Spells}
use Rattle.messages.specs.Messages.{message, Spelled, HasFault, HasXid}
use Rattle.messages.specs.Reading.{read, ended, read_all, IsFault, IsReading}
use Rattle.messages.proofs.Fields.{IsBytes}
use Rattle.messages.proofs.Xids.{spelled_has_xid}
use Rattle.messages.proofs.Formats.{if_read-ok, if_read-err, read-spells, spells-read, read-fails, Spells-more, Spells-one, Fails-read}

abbrev whole : {A : Type 0} → A → Result A MsgFault
whole a = Ok a

abbrev refusal : {A : Type 0} → MsgFault → Result A MsgFault
refusal fault = Err fault

ended-ok : {A : Type 0} (a b : A) (rest : List ℕ) → ended a rest ≡ Ok b → (a ≡ b) × (rest ≡ [])
ended-ok a b [] e = (let same : whole a ≡ Ok b = e in cc, refl)
ended-ok a b (x ∷ rest) e = absurd cc

ended-err : {A : Type 0} (a : A) (rest : List ℕ) (fault : MsgFault) → ended a rest ≡ Err fault → (rest ≢ []) × (fault ≡ Trailing)
ended-err a [] fault e = absurd cc
ended-err a (x ∷ rest) fault e = (λ none. cc, cc)

ended-rest : {A : Type 0} (a : A) (rest : List ℕ) → rest ≢ [] → ended a rest ≡ Err Trailing
ended-rest a [] more = absurd (more refl)
ended-rest a (x ∷ rest) more = refl

-- what all of the bytes read as
read_all-spelled : (payload : List ℕ) (in_block : Bool) (m : Message) → IsBytes payload → read_all (message in_block) payload ≡ Ok m → Spelled payload in_block m
unfolding Spelled
read_all-spelled payload in_block m fits e =
    let p = message in_block in
    let r = if_read-ok (read p payload) (λ x. ended x.0 x.1) m e in
    let done = ended-ok r.0.0 m r.0.1 r.2 in
    let s = (read-spells p payload r.0 fits r.1).spells in
    subst (λ (a : Message). Spells p payload a []) done.0 (subst (λ (rest : List ℕ). Spells p payload r.0.0 rest) done.1 s)

spelled-read_all : (payload : List ℕ) (in_block : Bool) (m : Message) → Spelled payload in_block m → read_all (message in_block) payload ≡ Ok m
unfolding Spelled
spelled-read_all payload in_block m s = rw (spells-read (message in_block) payload m [] s) refl

read_all-stands : (payload : List ℕ) (in_block : Bool) (fault : MsgFault) → IsBytes payload → read_all (message in_block) payload ≡ Err fault → HasFault payload in_block fault
unfolding HasFault
read_all-stands payload in_block fault fits e =
    let p = message in_block in
    elim (if_read-err (read p payload) (λ x. ended x.0 x.1) fault e) [
      | inl failed ↦ inl (read-fails p payload fault fits failed)
      | inr r ↦ let more = ended-err r.0.0 r.0.1 fault r.2 in inr (r.0.0, r.0.1, (read-spells p payload r.0 fits r.1).spells, more.0, more.1)
    ]

stands-read_all : (payload : List ℕ) (in_block : Bool) (fault : MsgFault) → IsBytes payload → HasFault payload in_block fault → read_all (message in_block) payload ≡ Err fault
unfolding HasFault
stands-read_all payload in_block fault fits stands =
    let p = message in_block in
    elim stands [
      | inl failed ↦ rw (Fails-read p payload fault fits failed) refl
      | inr s ↦ rw (spells-read p payload s.0 s.1 s.2) (ended-rest s.0 s.1 s.3 ∙ ap (λ (f : MsgFault). refusal f) (sym s.4))
    ]

-- ---- what a function answered that read all of the bytes

is_memory_or : {A : Type 0} (fault : MsgFault) (reading : Result A MsgFault) → IsFault fault reading → (fault ≡ OutOfMemory) ⊎ (reading ≡ Err fault)
is_memory_or OutOfMemory reading e = inl refl
is_memory_or _ reading e = inr e

pub answer-spelled : (payload : List ℕ) (in_block : Bool) (r : Result Message MsgFault) → IsBytes payload → IsReading r (read_all (message in_block) payload) → IfOk r (λ m. Spelled payload in_block m)
answer-spelled payload in_block (Ok m) fits e = read_all-spelled payload in_block m fits e
answer-spelled payload in_block (Err fault) fits e = tt

pub answer-xid : (payload : List ℕ) (in_block : Bool) (r : Result Message MsgFault) → IsBytes payload → IsReading r (read_all (message in_block) payload) → IfOk r (λ m. HasXid in_block m)
answer-xid payload in_block (Ok m) fits e = spelled_has_xid payload in_block m (read_all-spelled payload in_block m fits e)
answer-xid payload in_block (Err fault) fits e = tt

pub answer-fault : (payload : List ℕ) (in_block : Bool) (r : Result Message MsgFault) → IsBytes payload → IsReading r (read_all (message in_block) payload)
    → IfErr r (λ fault. (fault ≡ OutOfMemory) ⊎ HasFault payload in_block fault)
answer-fault payload in_block (Ok m) fits e = tt
answer-fault payload in_block (Err fault) fits e =
    elim (is_memory_or fault (read_all (message in_block) payload) e) [
      | inl memory ↦ inl memory
      | inr met ↦ inr (read_all-stands payload in_block fault fits met)
    ]

answer-is : (r reading : Result Message MsgFault) → IsReading r reading → (r ≡ reading) ⊎ (r ≡ Err OutOfMemory)
answer-is (Ok m) reading e = inl (sym e)
answer-is (Err fault) reading e =
    elim (is_memory_or fault reading e) [
      | inl memory ↦ inr (ap (λ (f : MsgFault). refusal f) memory)
      | inr met ↦ inl (sym met)
    ]

or_memory : (r reading other : Result Message MsgFault) → reading ≡ other → (r ≡ reading) ⊎ (r ≡ Err OutOfMemory) → (r ≡ other) ⊎ (r ≡ Err OutOfMemory)
or_memory r reading other e (inl same) = inl (same ∙ e)
or_memory r reading other e (inr memory) = inr memory

pub answer-only : (payload : List ℕ) (in_block : Bool) (r : Result Message MsgFault) (m : Message) → IsReading r (read_all (message in_block) payload) → Spelled payload in_block m
    → (r ≡ Ok m) ⊎ (r ≡ Err OutOfMemory)
answer-only payload in_block r m e s = or_memory r _ (Ok m) (spelled-read_all payload in_block m s) (answer-is r _ e)

pub answer-refused : (payload : List ℕ) (in_block : Bool) (r : Result Message MsgFault) (fault : MsgFault) → IsBytes payload → IsReading r (read_all (message in_block) payload)
    → HasFault payload in_block fault → (r ≡ Err fault) ⊎ (r ≡ Err OutOfMemory)
answer-refused payload in_block r fault fits e s = or_memory r _ (Err fault) (stands-read_all payload in_block fault fits s) (answer-is r _ e)

-- ---- laws

-- no spelling of a message begins another's
pub begins_none : (payload more : List ℕ) (in_block : Bool) (m n : Message) → Spelled payload in_block m → Spelled (payload ++ more) in_block n → (more ≡ []) × (m ≡ n)
unfolding Spelled
begins_none payload more in_block m n s t =
    let longer = Spells-more (message in_block) payload m [] more s in
    let same = Spells-one (message in_block) (payload ++ more) m n more [] longer t in
    (same.1, same.0)

-- where a message is spelled no fault stands
pub spelled-or-stands : (payload : List ℕ) (in_block : Bool) (m : Message) (fault : MsgFault) → IsBytes payload → Spelled payload in_block m → HasFault payload in_block fault → ⊥
spelled-or-stands payload in_block m fault fits s t =
    let read_it = spelled-read_all payload in_block m s in
    let refused = stands-read_all payload in_block fault fits t in
    absurd cc

pub one_message-law : (payload : List ℕ) (in_block : Bool) (m n : Message) → Spelled payload in_block m → Spelled payload in_block n → m ≡ n
unfolding Spelled
one_message-law payload in_block m n s t = (Spells-one (message in_block) payload m n [] [] s t).0

same_fault : {A : Type 0} (r : Result A MsgFault) (f g : MsgFault) → r ≡ Err f → r ≡ Err g → f ≡ g
same_fault r f g p q = cc

pub one_fault-law : (payload : List ℕ) (in_block : Bool) (f g : MsgFault) → IsBytes payload → HasFault payload in_block f → HasFault payload in_block g → f ≡ g
one_fault-law payload in_block f g fits s t = same_fault (read_all (message in_block) payload) f g (stands-read_all payload in_block f fits s) (stands-read_all payload in_block g fits t)
