-- Lawful streams lead to one state, and an answer to a payload follows its message.
use Rattle.std.proofs.Common.{◌≡◌, ℕ, Bool, true, false, List, [], ◌∷◌, length, refl, sym, ap, subst, ◌∙◌, ◌⊎◌, ⊎_elim}
use Rattle.std.specs.Prelude.{Result, Ok, Err, IsErrAnd}
use Rattle.messages.specs.declared.fault.MsgFault.{MsgFault}
use Rattle.messages.specs.declared.fault.MsgFault.TheVariants as faults
use Rattle.messages.specs.declared.message.Message.{Message}
use Rattle.messages.specs.Messages.{Spelled, HasFault}
use Rattle.session.specs.declared.fault.Refused.{Refused}
use Rattle.session.specs.declared.fault.Refused.TheVariants.{Msg, Session, Rel, OutOfMemory}
use Rattle.session.specs.declared.phase.Phase.{Phase}
use Rattle.session.specs.declared.phase.Phase.TheVariants.{Outside, Begun, Block}
use Rattle.session.specs.declared.session.Session as session_type
use Rattle.session.specs.declared.step.Step.{Step}
use Rattle.session.specs.Refusals.{of_message}
use Rattle.session.specs.Represents.{Represents}
use Rattle.session.specs.Answers.{AnswersMessage, NextRefuses, AnswersPayload}
use Rattle.session.specs.State.{State, Setting, in_block}
use Rattle.session.specs.Table.{step}
use Rattle.session.specs.Lawful.{Admits, Leads, Refuses}

-- A payload spells one message at most.
abbrev pub IsOneMessage : Type 0
IsOneMessage = (payload : List ℕ) (inside : Bool) (m n : Message) → Spelled payload inside m → Spelled payload inside n → m ≡ n

admits_one : IsOneMessage → (g : Setting) (s : State) (payload : List ℕ) (m n : Message) (t u : State) → Admits g s payload m t → Admits g s payload n u → t ≡ u
admits_one one g s payload m n t u a b =
    let same : m ≡ n = one payload (in_block s.phase) m n a.spelled b.spelled in
    let both : Ok t ≡ Ok u = sym a.stepped ∙ ap (step g s (length payload)) same ∙ b.stepped in
    cc

pub leads_to_one : IsOneMessage → (g : Setting) (s : State) (payloads : List (List ℕ)) (t u : State) → Leads g s payloads t → Leads g s payloads u → t ≡ u
leads_to_one one g s [] t u a b = sym a ∙ b
leads_to_one one g s (payload ∷ payloads) t u a b =
    let same : a.1 ≡ b.1 = admits_one one g s payload a.0 b.0 a.1 b.1 a.2 b.2 in
    let P : State → Type 0 = λ v. Leads g v payloads t in
    leads_to_one one g b.1 payloads t u (subst P same a.3) b.3

-- ---- the answer to a payload

refusal_of : (g : Setting) (h : State) (payload : List ℕ) (m : Message) (r : Refused) → Spelled payload (in_block h.phase) m → NextRefuses (step g h (length payload) m) r → Refuses g h payload r
refusal_of g h payload m (Msg fault) spelled is = absurd is
refusal_of g h payload m (Session fault) spelled is = (m, spelled, is)
refusal_of g h payload m (Rel fault) spelled is = (m, spelled, is)
refusal_of g h payload m OutOfMemory spelled is = tt

-- what follows the table at a message is the answer to a payload that spells it
pub takes_spelled : (g : Setting) (v : session_type.Session) (h : State) (payload : List ℕ) (inside : Bool) (size : ℕ) (m : Message) (result : Result Step Refused) → Spelled payload inside m → inside ≡ in_block h.phase → size ≡ length payload
    → AnswersMessage g v h (step g h size m) result → AnswersPayload g v h payload result
takes_spelled g v h payload inside size m (Ok answer) spelled here long follows =
    let P : Bool → Type 0 = λ b. Spelled payload b m in
    record {
      message = m;
      state = follows.state;
      told = follows.told;
      admits = record { spelled = subst P here spelled; stepped = ap (λ n. step g h n m) (sym long) ∙ follows.stepped };
      represents = follows.represents;
      tells = follows.tells;
      says = follows.says;
      within = follows.within;
    }
takes_spelled g v h payload inside size m (Err r) spelled here long follows =
    let P : Bool → Type 0 = λ b. Spelled payload b m in
    let Q : ℕ → Type 0 = λ n. NextRefuses (step g h n m) r in
    record { represents = follows.represents; cause = refusal_of g h payload m r (subst P here spelled) (subst Q long follows.cause) }

-- a fault that stands in the payload, or that memory was refused
fault_refuses : (g : Setting) (h : State) (payload : List ℕ) (fault : MsgFault) → (fault ≡ faults.OutOfMemory) ⊎ HasFault payload (in_block h.phase) fault → Refuses g h payload (of_message fault)
fault_refuses g h payload faults.OutOfMemory is = tt
fault_refuses g h payload faults.UnknownTag is = ⊎_elim (λ e. cc) (λ represents. represents) is
fault_refuses g h payload faults.Short is = ⊎_elim (λ e. cc) (λ represents. represents) is
fault_refuses g h payload faults.Trailing is = ⊎_elim (λ e. cc) (λ represents. represents) is
fault_refuses g h payload faults.BadTupleKind is = ⊎_elim (λ e. cc) (λ represents. represents) is
fault_refuses g h payload faults.BadText is = ⊎_elim (λ e. cc) (λ represents. represents) is
fault_refuses g h payload faults.BinaryColumn is = ⊎_elim (λ e. cc) (λ represents. represents) is
fault_refuses g h payload faults.BadFlag is = ⊎_elim (λ e. cc) (λ represents. represents) is
fault_refuses g h payload faults.NegativeCount is = ⊎_elim (λ e. cc) (λ represents. represents) is
fault_refuses g h payload faults.TwoPhase is = ⊎_elim (λ e. cc) (λ represents. represents) is

-- the answer to a payload that is no message
pub takes_fault : (g : Setting) (v : session_type.Session) (h : State) (payload : List ℕ) (inside : Bool) (fault : MsgFault) (result : Result Step Refused) → Represents g v h → (fault ≡ faults.OutOfMemory) ⊎ HasFault payload inside fault → inside ≡ in_block h.phase
    → IsErrAnd result (λ r. r ≡ of_message fault) → AnswersPayload g v h payload result
takes_fault g v h payload inside fault (Ok answer) represents is here err = absurd err
takes_fault g v h payload inside fault (Err r) represents is here err =
    let P : Bool → Type 0 = λ b. (fault ≡ faults.OutOfMemory) ⊎ HasFault payload b fault in
    record { represents = represents; cause = rw err (fault_refuses g h payload fault (subst P here is)) }

-- ---- in a block or not

pub inside_block : (phase : Phase) (xid : ℕ) (inside : Bool) → phase ≡ Block xid → inside ≡ true → inside ≡ in_block phase
inside_block phase xid inside block is = is ∙ sym (ap in_block block)

pub inside_none : (phase : Phase) (inside : Bool) → ((xid : ℕ) → phase ≡ Block xid → ⊥) → inside ≡ false → inside ≡ in_block phase
inside_none Outside inside apart is = is
inside_none (Begun xid final) inside apart is = is
inside_none (Block xid) inside apart is = absurd (apart xid refl)
