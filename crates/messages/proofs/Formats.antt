-- What reading a format gives is what the bytes spell, or the fault that stands; proved once for every format.
use Rattle.std.proofs.Common.{◌≡◌, ℕ, List, ◌++◌, Result, Ok, Err, refl, sym, ap, subst, ◌∙◌, append_assoc, inl, inr, ◌⊎◌}
use Rattle.messages.specs.declared.fault.MsgFault.{MsgFault}
use Rattle.messages.specs.Field.{Field, Value, Begins, spelling, wrong}
use Rattle.messages.specs.Format.{Format, done, one, followed_by, Spells, Fails}
use Rattle.messages.specs.Reading.{Read, if_read, read_field, read}
use Rattle.messages.proofs.Fields.{IsBytes, field_taken, field_again, field_failed}

-- the value of a step that did not fail, and the fault of a step or of what follows it
pub if_read-ok : {A B : Type 0} (r : Result A MsgFault) (next : A → Result B MsgFault) (y : B) → if_read r next ≡ Ok y → (x : A) × (r ≡ Ok x) × (next x ≡ Ok y)
if_read-ok (Ok x) next y e = (x, refl, e)
if_read-ok (Err fault) next y e = absurd cc

pub if_read-err : {A B : Type 0} (r : Result A MsgFault) (next : A → Result B MsgFault) (fault : MsgFault) → if_read r next ≡ Err fault
    → (r ≡ Err fault) ⊎ ((x : A) × (r ≡ Ok x) × (next x ≡ Err fault))
if_read-err (Ok x) next fault e = inr (x, refl, e)
if_read-err (Err other) next fault e = inl cc

not_both : {A : Type 0} (r : Result A MsgFault) (x : A) (fault : MsgFault) → r ≡ Ok x → r ≡ Err fault → ⊥
not_both r x fault p q = cc

abbrev found : {A : Type 0} → A → List ℕ → Read A
found a rest = Ok (a, rest)

abbrev failed : {A : Type 0} → MsgFault → Read A
failed fault = Err fault

same_found : {A : Type 0} (a : A) (bytes : List ℕ) (x : A × List ℕ) → found a bytes ≡ Ok x → (a, bytes) ≡ x
same_found a bytes x e = cc

pub record Spelling {A : Type 0} (p : Format A) (bytes : List ℕ) (value : A) (rest : List ℕ) : Type 0 where
  pub spells : Spells p bytes value rest
  pub rest_fits : IsBytes rest

-- what is read is spelled
pub read-spells : {A : Type 0} (p : Format A) (bytes : List ℕ) (x : A × List ℕ) → IsBytes bytes → read p bytes ≡ Ok x → Spelling p bytes x.0 x.1
read-spells (done {A = A} a) bytes x fits e = subst (λ (y : A × List ℕ). Spelling (done a) bytes y.0 y.1) (same_found a bytes x e) (record { spells = (refl, refl); rest_fits = fits })
read-spells (one f) bytes x fits e = let t = field_taken f bytes x fits e in record { spells = t.begins; rest_fits = t.rest_fits }
read-spells (followed_by p next) bytes x fits e =
    let r = if_read-ok (read p bytes) (λ y. read (next y.0) y.1) x e in
    let first = read-spells p bytes r.0 fits r.1 in
    let second = read-spells (next r.0.0) r.0.1 x first.rest_fits r.2 in
    record { spells = (r.0.0, r.0.1, first.spells, second.spells); rest_fits = second.rest_fits }

-- what is spelled is read
pub spells-read : {A : Type 0} (p : Format A) (bytes : List ℕ) (value : A) (rest : List ℕ) → Spells p bytes value rest → read p bytes ≡ Ok (value, rest)
spells-read (done a) bytes value rest s = rw (s.0, s.1) refl
spells-read (one f) bytes value rest s = field_again f bytes value rest s
spells-read (followed_by p next) bytes value rest s = rw (spells-read p bytes s.0 s.1 s.2) (spells-read (next s.0) s.1 value rest s.3)

-- the fault that is met stands
pub read-fails : {A : Type 0} (p : Format A) (bytes : List ℕ) (fault : MsgFault) → IsBytes bytes → read p bytes ≡ Err fault → Fails p bytes fault
read-fails (done a) bytes fault fits e = absurd cc
read-fails (one f) bytes fault fits e = (λ value rest b. not_both (read_field f bytes) (value, rest) fault (field_again f bytes value rest b) e, field_failed f bytes fault e)
read-fails (followed_by p next) bytes fault fits e =
    elim (if_read-err (read p bytes) (λ y. read (next y.0) y.1) fault e) [
      | inl first ↦ inl (read-fails p bytes fault fits first)
      | inr r ↦
          let first = read-spells p bytes r.0 fits r.1 in
          inr (r.0.0, r.0.1, first.spells, read-fails (next r.0.0) r.0.1 fault first.rest_fits r.2)
    ]

-- a spelling goes on to be one whatever follows it
pub Spells-more : {A : Type 0} (p : Format A) (bytes : List ℕ) (value : A) (rest more : List ℕ) → Spells p bytes value rest → Spells p (bytes ++ more) value (rest ++ more)
Spells-more (done a) bytes value rest more s = (s.0, ap (λ (b : List ℕ). b ++ more) s.1)
Spells-more (one f) bytes value rest more s = record { fits = s.fits; parts = ap (λ (b : List ℕ). b ++ more) s.parts ∙ append_assoc (spelling f value) rest more }
Spells-more (followed_by p next) bytes value rest more s = (s.0, s.1 ++ more, Spells-more p bytes s.0 s.1 more s.2, Spells-more (next s.0) s.1 value rest more s.3)

-- bytes begin with one spelling of a format at most
pub Spells-one : {A : Type 0} (p : Format A) (bytes : List ℕ) (a b : A) (r s : List ℕ) → Spells p bytes a r → Spells p bytes b s → (a ≡ b) × (r ≡ s)
Spells-one {A = A} p bytes a b r s x y =
    let first = spells-read p bytes a r x in
    let second = spells-read p bytes b s y in
    let same = same_found a r (b, s) (sym first ∙ second) in
    (ap (λ (x : A × List ℕ). x.0) same, ap (λ (x : A × List ℕ). x.1) same)

only_fault : (f : Field) (bytes : List ℕ) (fault : MsgFault) → IsBytes bytes → ((value : Value f) (rest : List ℕ) → ¬ (Begins bytes f value rest)) → fault ≡ wrong f bytes
    → (r : Read (Value f)) → read_field f bytes ≡ r → r ≡ Err fault
only_fault f bytes fault fits none named (Ok x) e = absurd (none x.0 x.1 (field_taken f bytes x fits e).begins)
only_fault f bytes fault fits none named (Err other) e = ap (λ (g : MsgFault). failed g) (field_failed f bytes other e ∙ sym named)

-- one fault stands at most, and none where a value is spelled
pub Fails-read : {A : Type 0} (p : Format A) (bytes : List ℕ) (fault : MsgFault) → IsBytes bytes → Fails p bytes fault → read p bytes ≡ Err fault
Fails-read (done a) bytes fault fits f = absurd f
Fails-read (one g) bytes fault fits f = only_fault g bytes fault fits f.0 f.1 (read_field g bytes) refl
Fails-read (followed_by p next) bytes fault fits f =
    elim f [
      | inl first ↦ rw (Fails-read p bytes fault fits first) refl
      | inr r ↦
          let first = spells-read p bytes r.0 r.1 r.2 in
          rw first (Fails-read (next r.0) r.1 fault (read-spells p bytes (r.0, r.1) fits first).rest_fits r.3)
    ]
