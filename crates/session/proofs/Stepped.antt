-- What it takes for a line of the session table to have a next state.
use Rattle.std.proofs.Common.{◌≡◌, Bool, true, false, if◌then◌else◌, List, [], ◌∷◌, ◌++◌, Option, Some, None, refl}
use Rattle.std.specs.Prelude.{Result, Ok, Err}
use Rattle.model.specs.declared.change.Change as change_type
use Rattle.relcache.specs.declared.fault.RelFault.{RelFault}
use Rattle.session.specs.declared.fault.SessionFault.{SessionFault}
use Rattle.session.specs.State.{Open, Committed, State}
use Rattle.session.specs.Table.{Next, refuse, unless_fault, of_open, plans}

pub was_fault_free : (fault : Option SessionFault) (u t : State) → unless_fault fault u ≡ Ok t
    → (fault ≡ None) × (u ≡ t)
was_fault_free None u t e = (refl, cc)
was_fault_free (Some fault) u t e = cc

pub was_open : (found : Option Open) (next : Open → Next) (t : State) → of_open found next ≡ Ok t
    → (o : Open) × (found ≡ Some o) × (next o ≡ Ok t)
was_open None next t e = cc
was_open (Some o) next t e = (o, refl, e)

pub was_so : (b : Bool) (next : Next) (fault : SessionFault) (t : State)
    → (if b then next else refuse fault) ≡ Ok t → next ≡ Ok t
was_so true next fault t e = e
was_so false next fault t e = cc

pub was_true : (b : Bool) (next : Next) (fault : SessionFault) (t : State)
    → (if b then next else refuse fault) ≡ Ok t → (b ≡ true) × (next ≡ Ok t)
was_true true next fault t e = (refl, e)
was_true false next fault t e = cc

pub was_not_so : (b : Bool) (next : Next) (fault : SessionFault) (t : State)
    → (if b then refuse fault else next) ≡ Ok t → (b ≡ false) × (next ≡ Ok t)
was_not_so true next fault t e = cc
was_not_so false next fault t e = (refl, e)

pub was_planned : (planned : Result change_type.Change RelFault) (next : change_type.Change → State) (t : State)
    → plans planned next ≡ Ok t → (c : change_type.Change) × (next c ≡ t)
was_planned (Ok c) next t e = (c, cc)
was_planned (Err fault) next t e = cc

abbrev pub went_to : State → Next
went_to t = Ok t

pub ok_is : (u t : State) → went_to u ≡ went_to t → u ≡ t
ok_is u t e = cc

-- ---- the commits so far

pub last_is : (past : List Committed) (c d : Committed) → past ++ c ∷ [] ≡ past ++ d ∷ [] → c ≡ d
last_is [] c d e = cc
last_is (p ∷ past) c d e = last_is past c d (rest_is (p ∷ []) (past ++ c ∷ []) (past ++ d ∷ []) e)
  where
    rest_is : (one : List Committed) (xs ys : List Committed) → p ∷ xs ≡ p ∷ ys → xs ≡ ys
    rest_is one xs ys e = cc

pub not_longer : (past : List Committed) (c : Committed) → past ++ c ∷ [] ≡ past → ⊥
not_longer [] c e = cc
not_longer (p ∷ past) c e = not_longer past c (rest_is (past ++ c ∷ []) past e)
  where
    rest_is : (xs ys : List Committed) → p ∷ xs ≡ p ∷ ys → xs ≡ ys
    rest_is xs ys e = cc
