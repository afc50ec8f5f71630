-- The changes of the transaction that was begun, as a message is taken.
use Rattle.std.proofs.Common.{◌≡◌, ◌≢◌, ℕ, [], ◌∷◌, ◌++◌, Option, Some, None, refl, sym, ap, ◌∙◌, append-nil, ⊎_elim, inl, inr}
use Rattle.std.specs.Prelude.{◌⊎◌, IsSomeAnd}
use Rattle.std.specs.FinMap as finite
use Rattle.std.proofs.lemmas.Bool.{cases_eq}
use Rattle.model.specs.declared.item.Item.{Item}
use Rattle.model.specs.Survivors.{changes_of}
use Rattle.session.specs.declared.phase.Phase.{Phase}
use Rattle.session.specs.declared.phase.Phase.TheVariants.{Outside, Begun, Block}
use Rattle.session.specs.State.{Direct, Open, OpenTransactions, State, IsHere, GoesAlone, begun_at}
use Rattle.session.specs.Table.{new_open}
use Rattle.session.specs.StreamEvents.{IsOpening, IsGiving, IsChange}
use Rattle.run.specs.Commits.{surviving_changes, begun_changes_in, begun_changes}
use Rattle.run.proofs.States.{get-inserted, get-other, get-left, get-gone, surviving-change}

-- The transaction that goes directly is the one that was begun.
pub record IsSane (s : State) : Type 0 where
  pub here : IsHere s.phase s.transactions
  pub alone : GoesAlone s.phase s.transactions

-- no open transaction goes directly
abbrev pub NoneDirect : State → Type 0
NoneDirect s = (xid : ℕ) (o : Open) → finite.get s.transactions xid ≡ Some o → o.way ≢ Direct

-- some does
abbrev pub SomeDirect : State → Type 0
SomeDirect s = (xid : ℕ) × (o : Open) × (finite.get s.transactions xid ≡ Some o) × (o.way ≡ Direct)

begun_of : (p : Phase) (m : OpenTransactions) (xid : ℕ) (o : Open) → begun_at p ≡ Some xid → finite.get m xid ≡ Some o → begun_changes_in p m ≡ surviving_changes xid o.items
begun_of Outside m xid o is there = cc
begun_of (Begun x final) m xid o is there = let same : x ≡ xid = cc in rw (same, there)
begun_of (Block x) m xid o is there = cc

pub direct_begun : (s : State) (xid : ℕ) (o : Open) → IsSane s → finite.get s.transactions xid ≡ Some o → o.way ≡ Direct → begun_changes s ≡ surviving_changes xid o.items
direct_begun s xid o sane there direct = begun_of s.phase s.transactions xid o (sane.alone xid o there direct) there

some_and : (found : Option Open) (P : Open → Type 0) → IsSomeAnd found P → (o : Open) × (found ≡ Some o) × P o
some_and None P is = absurd is
some_and (Some o) P is = (o, refl, is)

begun_cases_at : (p : Phase) (m : OpenTransactions) → IsHere p m → GoesAlone p m → ((xid : ℕ) × (o : Open) × (finite.get m xid ≡ Some o) × (o.way ≡ Direct)) ⊎ ((begun_changes_in p m ≡ []) × ((xid : ℕ) (o : Open) → finite.get m xid ≡ Some o → o.way ≢ Direct))
begun_cases_at Outside m here alone = inr (refl, λ xid o there direct. let no : None ≡ Some xid = alone xid o there direct in cc)
begun_cases_at (Begun x final) m here alone = let is = some_and (finite.get m x) (λ o. o.way ≡ Direct) here in inl (x, is.0, is.1, is.2)
begun_cases_at (Block x) m here alone = inr (refl, λ xid o there direct. let no : None ≡ Some xid = alone xid o there direct in cc)

pub begun_cases : (s : State) → IsSane s → SomeDirect s ⊎ ((begun_changes s ≡ []) × NoneDirect s)
begun_cases s sane = begun_cases_at s.phase s.transactions sane.here sane.alone

pub none_begun : (s : State) → IsSane s → NoneDirect s → begun_changes s ≡ []
none_begun s sane none = from (begun_cases s sane)
  where
    from : SomeDirect s ⊎ ((begun_changes s ≡ []) × NoneDirect s) → begun_changes s ≡ []
    from (inl (xid, o, there, direct)) = absurd (none xid o there direct)
    from (inr is) = is.0

-- where the same transactions go directly, the same was begun
same_begun : (s t : State) → IsSane s → IsSane t → ((xid : ℕ) (o : Open) → finite.get s.transactions xid ≡ Some o → o.way ≡ Direct → finite.get t.transactions xid ≡ Some o)
    → ((xid : ℕ) (o : Open) → finite.get t.transactions xid ≡ Some o → o.way ≡ Direct → finite.get s.transactions xid ≡ Some o) → begun_changes t ≡ begun_changes s ++ []
same_begun s t first second stays comes = from (begun_cases s first)
  where
    from : SomeDirect s ⊎ ((begun_changes s ≡ []) × NoneDirect s) → begun_changes t ≡ begun_changes s ++ []
    from (inl (xid, o, there, direct)) = direct_begun t xid o second (stays xid o there direct) direct ∙ sym (direct_begun s xid o first there direct) ∙ sym (append-nil (begun_changes s))
    from (inr is) = none_begun t second (λ xid o there direct. is.1 xid o (comes xid o there direct) direct) ∙ rw is.0

pub begun_stays : (s t : State) → IsSane s → IsSane t → t.transactions ≡ s.transactions → begun_changes t ≡ begun_changes s ++ []
begun_stays s t first second same = same_begun s t first second (λ xid o there direct. ap (λ (m : OpenTransactions). finite.get m xid) same ∙ there) (λ xid o there direct. sym (ap (λ (m : OpenTransactions). finite.get m xid) same) ∙ there)

-- a transaction that does not go directly changes
pub begun_beside : (s t : State) (xid : ℕ) (new : Open) → IsSane s → IsSane t → t.transactions ≡ finite.insert s.transactions xid new → new.way ≢ Direct → ((o : Open) → finite.get s.transactions xid ≡ Some o → o.way ≢ Direct) → begun_changes t ≡ begun_changes s ++ []
begun_beside s t xid new first second is streamed was =
    same_begun s t first second
    (λ x o there direct.
    let apart : xid ≡ x → ⊥ = λ same. was o (ap (finite.get s.transactions) same ∙ there) direct in
    ap (λ (m : OpenTransactions). finite.get m x) is ∙ get-other s.transactions xid new x apart ∙ there)
    (λ x o there direct.
    let there_now : finite.get (finite.insert s.transactions xid new) x ≡ Some o = sym (ap (λ (m : OpenTransactions). finite.get m x) is) ∙ there in
    ⊎_elim
    (λ (same : xid ≡ x).
    let here : Some new ≡ Some o = sym (get-inserted s.transactions xid new) ∙ ap (finite.get (finite.insert s.transactions xid new)) same ∙ there_now in
    let one : new ≡ o = cc in absurd (streamed (ap (λ (p : Open). p.way) one ∙ direct)))
    (λ ne. sym (get-other s.transactions xid new x ne) ∙ there_now)
    (cases_eq xid x))

-- and so does one that is dropped
pub begun_without : (s t : State) (xid : ℕ) (o : Open) → IsSane s → IsSane t → t.transactions ≡ finite.remove s.transactions xid → finite.get s.transactions xid ≡ Some o → o.way ≢ Direct → begun_changes t ≡ begun_changes s ++ []
begun_without s t xid o first second is was streamed =
    same_begun s t first second
    (λ x p there direct.
    let apart : xid ≡ x → ⊥ = λ same. let one : Some o ≡ Some p = sym was ∙ ap (finite.get s.transactions) same ∙ there in let e : o ≡ p = cc in streamed (ap (λ (q : Open). q.way) e ∙ direct) in
    ap (λ (m : OpenTransactions). finite.get m x) is ∙ get-left s.transactions xid x apart ∙ there)
    (λ x p there direct.
    let there_now : finite.get (finite.remove s.transactions xid) x ≡ Some p = sym (ap (λ (m : OpenTransactions). finite.get m x) is) ∙ there in
    ⊎_elim
    (λ (same : xid ≡ x). let gone : None ≡ Some p = sym (get-gone s.transactions xid) ∙ ap (finite.get (finite.remove s.transactions xid)) same ∙ there_now in absurd cc)
    (λ ne. sym (get-left s.transactions xid x ne) ∙ there_now)
    (cases_eq xid x))

-- a transaction begins: none was begun before
pub begun_opened : (s t : State) (xid : ℕ) → IsSane s → IsSane t → IsOpening s t xid Direct → begun_changes t ≡ begun_changes s ++ []
begun_opened s t xid first second is =
    let new : finite.get t.transactions xid ≡ Some (new_open Direct) = ap (λ (m : OpenTransactions). finite.get m xid) is.transactions ∙ get-inserted s.transactions xid (new_open Direct) in
    let none : NoneDirect s = λ x o there direct.
    let apart : xid ≡ x → ⊥ = λ same. let no : None ≡ Some o = sym is.absent ∙ ap (finite.get s.transactions) same ∙ there in cc in
    let still : finite.get t.transactions x ≡ Some o = ap (λ (m : OpenTransactions). finite.get m x) is.transactions ∙ get-other s.transactions xid (new_open Direct) x apart ∙ there in
    let two : Some xid ≡ Some x = sym (second.alone xid (new_open Direct) new refl) ∙ second.alone x o still direct in
    apart cc in
    direct_begun t xid (new_open Direct) second new refl ∙ rw (none_begun s first none)

-- a change of the transaction that was begun
pub begun_given : (s t : State) (xid : ℕ) (item : Item) (size : ℕ) (o : Open) → IsSane s → IsSane t → IsGiving s t xid item size o → o.way ≡ Direct → IsChange item → begun_changes t ≡ begun_changes s ++ changes_of (item ∷ [])
begun_given s t xid item size o first second is direct change =
    let there : finite.get t.transactions xid ≡ Some (record { way = o.way; items = o.items ++ (item, size) ∷ [] }) = ap (λ (m : OpenTransactions). finite.get m xid) is.transactions ∙ get-inserted s.transactions xid _ in
    direct_begun t xid _ second there direct ∙ surviving-change xid o.items item size change ∙ ap (λ ds. ds ++ changes_of (item ∷ [])) (sym (direct_begun s xid o first is.present direct))

-- a streamed transaction commits where none was begun
pub unbegun : (s t : State) (xid : ℕ) (o : Open) → IsSane s → IsSane t → finite.get s.transactions xid ≡ Some o → o.way ≢ Direct → t.transactions ≡ finite.remove s.transactions xid → t.phase ≡ Outside → begun_changes s ≡ []
unbegun s t xid o first second was streamed is outside =
    none_begun s first (λ x p there direct.
    let apart : xid ≡ x → ⊥ = λ same. let one : Some o ≡ Some p = sym was ∙ ap (finite.get s.transactions) same ∙ there in let e : o ≡ p = cc in streamed (ap (λ (q : Open). q.way) e ∙ direct) in
    let still : finite.get t.transactions x ≡ Some p = ap (λ (m : OpenTransactions). finite.get m x) is ∙ get-left s.transactions xid x apart ∙ there in
    let no : None ≡ Some x = sym (ap begun_at outside) ∙ second.alone x p still direct in cc)

pub begun_outside : (s : State) → s.phase ≡ Outside → begun_changes s ≡ []
begun_outside s e = ap (λ p. begun_changes_in p s.transactions) e
