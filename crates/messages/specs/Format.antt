-- A format is a list of fields: what a payload's bytes say, and what is wrong with them.
use Rattle.std.specs.Prelude.{◌≡◌, ℕ, zero, suc, Bool, true, false, List, [], ◌∷◌, ◌⊎◌}
use Rattle.messages.specs.declared.fault.MsgFault.{MsgFault}
use Rattle.messages.specs.Field.{Field, Value, Begins, wrong}

-- A format of values of A: a value with no bytes, one field, or a format and what follows each of its values.
pub data Format : Type 0 → Type 1 where
  done : {A : Type 0} → A → Format A
  one : (f : Field) → Format (Value f)
  followed_by : {A B : Type 0} → Format A → (A → Format B) → Format B

-- a format, and what follows each of its values
infixl 10 ◌>>=◌
abbrev pub ◌>>=◌ : {A B : Type 0} → Format A → (A → Format B) → Format B
p >>= next = followed_by p next

-- the first format if the test holds, else the second
abbrev pub choose : {A : Type 0} → Bool → Format A → Format A → Format A
choose true p q = p
choose false p q = q

-- n values, one after the other
abbrev pub times : {A : Type 0} → ℕ → Format A → Format (List A)
times zero p = done []
times (suc n) p = do
  first ← p
  others ← times n p
  done (first ∷ others)

-- The bytes begin with a spelling of the value, before the rest.
abbrev pub Spells : {A : Type 0} → Format A → List ℕ → A → List ℕ → Type 0
Spells (done a) bytes value rest = (value ≡ a) × (bytes ≡ rest)
Spells (one f) bytes value rest = Begins bytes f value rest
Spells (followed_by {A = A} p next) bytes value rest = (a : A) × (middle : List ℕ) × Spells p bytes a middle × Spells (next a) middle value rest

-- The bytes begin with a spelling of some first fields, and with no spelling of the next one, which names the fault.
abbrev pub Fails : {A : Type 0} → Format A → List ℕ → MsgFault → Type 0
Fails (done a) bytes fault = ⊥
Fails (one f) bytes fault = ((value : Value f) (rest : List ℕ) → ¬ (Begins bytes f value rest)) × (fault ≡ wrong f bytes)
Fails (followed_by {A = A} p next) bytes fault = Fails p bytes fault ⊎ ((a : A) × (middle : List ℕ) × Spells p bytes a middle × Fails (next a) middle fault)
