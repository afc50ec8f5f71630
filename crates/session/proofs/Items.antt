-- What the session represents after the messages inside of transactions: items, relations, rollbacks.
use Rattle.std.proofs.Common.{◌≡◌, ◌≢◌, ℕ, Bool, true, false, length, Option, Some, None, if◌then◌else◌, refl, sym, ap, subst, ◌∙◌, ◌⊎◌, ⊎_elim}
use Rattle.std.specs.Prelude.{Result, Ok, Err, IsSomeAnd, IsErrAnd}
use Rattle.std.specs.Ordering.{nat_cmp, eq_by_cmp}
use Rattle.std.specs.Cmp.{nat_cmp_total}
use Rattle.std.specs.FinMap as map
use Rattle.std.proofs.lemmas.Bool.{cases_Bool, ne_eqb, eq-eqb}
use Rattle.messages.specs.declared.message.StreamAbort.{StreamAbort}
use Rattle.messages.specs.declared.relation.Relation.{Relation}
use Rattle.model.specs.declared.change.Change as change_type
use Rattle.relcache.specs.declared.fault.RelFault.{RelFault}
use Rattle.relcache.specs.declared.fault.RelFault.TheVariants as faults
use Rattle.relcache.specs.Answer.{IsFaultOf}
use Rattle.relcache.specs.Published.{Relations, learnt}
use Rattle.model.specs.declared.item.Item.{Item}
use Rattle.model.specs.declared.item.Item.TheVariants.{Change, Touch, BackTo}
use Rattle.session.specs.declared.phase.Phase.{Phase}
use Rattle.session.specs.declared.phase.Phase.TheVariants.{Outside, Begun, Block}
use Rattle.session.specs.declared.fault.SessionFault.{SessionFault}
use Rattle.session.specs.declared.fault.SessionFault.TheVariants.{NotInTransaction, UnknownTransaction, SpoolFull}
use Rattle.session.specs.declared.fault.Refused.{Refused}
use Rattle.session.specs.declared.fault.Refused.TheVariants.{Session, Rel, OutOfMemory}
use Rattle.session.specs.declared.fault.Refused.TheVariants as refused
use Rattle.session.specs.declared.session.Session as session_type
use Rattle.session.specs.declared.step.Step.{Step}
use Rattle.session.specs.declared.step.Step.TheVariants as steps
use Rattle.session.specs.Refusals.{of_relation}
use Rattle.session.specs.State.{Way, Direct, Worker, Spooled, Open, OpenTransactions, State, Setting, IsHere, GoesAlone, begun_at}
use Rattle.session.specs.Kept.{is_spooled}
use Rattle.session.specs.Table.{Next, refuse, skip_set, is_skipped, at, of_open, gives, has_room, touches, plans, changes, changes_begun, change_line, subtransaction_named, learns, goes_on, aborts, aborts_open}
use Rattle.session.specs.StreamEvents.{StreamEvent, NoEvent, TransactionOpens, ItemComes, TransactionCommits, TransactionAborts, Tells, IsChange}
use Rattle.session.specs.KeptTransactions.{Represents as TransactionsRepresent, spool_fault, with_item, item_back, Survives}
use Rattle.session.specs.KnownRelations.{Represents}
use Rattle.session.specs.Represents.{Represents as SessionRepresents}
use Rattle.session.specs.Answers.{Says, NextRefuses, IsOfTables, IsWithin, AnswersMessage, AdmitsMessage, RefusesMessage, IsChangeOf}
use Rattle.session.proofs.Totals.{same_key}
use Rattle.session.proofs.Steps.{alone_insert, alone_remove, alone_at, none_begun, nothing_begun, moves-admitted, stays}
use Rattle.session.proofs.Kept.{present}

-- ---- an open transaction

some_and : {A : Type 0} (P : A → Type 0) (o : Option A) → IsSomeAnd o P → (x : A) × (o ≡ Some x) × P x
some_and P None is = absurd is
some_and P (Some x) is = (x, refl, is)

-- the transaction of a block is open
pub block_open : (h : State) (xid : ℕ) → h.phase ≡ Block xid → IsHere h.phase h.transactions → (o : Open) × (map.get h.transactions xid ≡ Some o) × (o.way ≢ Direct)
block_open h xid e here = let P : Phase → Type 0 = λ p. IsHere p h.transactions in some_and (λ o. o.way ≢ Direct) (map.get h.transactions xid) (subst P e here)

-- the one that was begun is, and goes directly
pub begun_open : (h : State) (xid final : ℕ) → h.phase ≡ Begun xid final → IsHere h.phase h.transactions → (o : Open) × (map.get h.transactions xid ≡ Some o) × (o.way ≡ Direct)
begun_open h xid final e here = let P : Phase → Type 0 = λ p. IsHere p h.transactions in some_and (λ o. o.way ≡ Direct) (map.get h.transactions xid) (subst P e here)

-- an open transaction that keeps its way
goes_still : (Q : Way → Type 0) (m : OpenTransactions) (xid x : ℕ) (o p : Open) → map.get m xid ≡ Some o → p.way ≡ o.way → IsSomeAnd (map.get m x) (λ q. Q q.way) → IsSomeAnd (map.get (map.insert m xid p) x) (λ q. Q q.way)
goes_still Q m xid x o p some way is =
    ⊎_elim
    (λ (tie : eq_by_cmp nat_cmp x xid ≡ true).
    let key : x ≡ xid = same_key x xid tie in
    let new : map.get (map.insert m xid p) x ≡ Some p = map.get-insert nat_cmp_total m xid p x ∙ rw tie in
    let old : map.get m x ≡ Some o = ap (map.get m) key ∙ some in
    let P : Option Open → Type 0 = λ q. IsSomeAnd q (λ r. Q r.way) in
    let was : Q o.way = subst P old is in
    let now : Q p.way = subst Q (sym way) was in
    subst P (sym new) now)
    (λ (apart : eq_by_cmp nat_cmp x xid ≡ false).
    let new : map.get (map.insert m xid p) x ≡ map.get m x = map.get-insert nat_cmp_total m xid p x ∙ rw apart in
    let P : Option Open → Type 0 = λ q. IsSomeAnd q (λ r. Q r.way) in
    subst P (sym new) is)
    (cases_Bool (eq_by_cmp nat_cmp x xid))

here_still : (phase : Phase) (m : OpenTransactions) (xid : ℕ) (o p : Open) → map.get m xid ≡ Some o → p.way ≡ o.way → IsHere phase m → IsHere phase (map.insert m xid p)
here_still Outside m xid o p some way here = tt
here_still (Begun x final) m xid o p some way here = goes_still (λ w. w ≡ Direct) m xid x o p some way here
here_still (Block x) m xid o p some way here = goes_still (λ w. w ≢ Direct) m xid x o p some way here

-- ---- an item

-- what is answered to an item that is given back, or kept
abbrev pub step_given : ℕ → Option Item → Step
step_given xid None = steps.Nothing
step_given xid (Some item) = steps.Item xid item

says_given : (xid : ℕ) (way : Way) (item : Item) (size : ℕ) (back : Option Item) → back ≡ item_back way item → Says (ItemComes xid way item size) (step_given xid back)
says_given xid Direct item size back is = ap (step_given xid) is
says_given xid Worker item size back is = ap (step_given xid) is
says_given xid Spooled item size back is = ap (step_given xid) is

within_given : (g : Setting) (xid : ℕ) (way : Way) (item : Item) (size : ℕ) → IsOfTables (length g.catalog) item → (way ≡ Direct → IsChange item) → IsWithin g (ItemComes xid way item size)
within_given g xid Direct item size of_tables directly = (of_tables, directly refl)
within_given g xid Worker item size of_tables directly = of_tables
within_given g xid Spooled item size of_tables directly = of_tables

within_dropped : (g : Setting) (xid : ℕ) (way : Way) → way ≢ Direct → IsWithin g (TransactionAborts xid way)
within_dropped g xid Direct streamed = streamed refl
within_dropped g xid Worker streamed = tt
within_dropped g xid Spooled streamed = tt

-- where no transaction is begun, none goes directly
pub none_direct : (phase : Phase) (m : OpenTransactions) (xid : ℕ) (o : Open) → begun_at phase ≡ None → GoesAlone phase m → map.get m xid ≡ Some o → o.way ≢ Direct
none_direct phase m xid o none alone some direct = let no : None ≡ Some xid = sym none ∙ alone xid o some direct in cc

pub gives-admitted : (g : Setting) (v w : session_type.Session) (h : State) (xid : ℕ) (o : Open) (item : Item) (size : ℕ) (back : Option Item) (next : Next) (step : Step) → SessionRepresents g v h → map.get h.transactions xid ≡ Some o → next ≡ Ok (gives h xid item size o)
    → back ≡ item_back o.way item → TransactionsRepresent g w.transactions (map.insert h.transactions xid (with_item o item size)) → IsOfTables (length g.catalog) item → (o.way ≡ Direct → IsChange item)
    → w.phase ≡ v.phase → w.relations ≡ v.relations → w.position ≡ v.position → w.skip ≡ v.skip → step ≡ step_given xid back
    → AdmitsMessage g w h next step
gives-admitted g v w h xid o item size back next step represents some e given kept of_tables directly phase relations position skip is = record {
  state = gives h xid item size o;
  told = ItemComes xid o.way item size;
  stepped = e;
  represents = record {
    phase = phase ∙ represents.phase;
    here = here_still h.phase h.transactions xid o (with_item o item size) some refl represents.here;
    alone = alone_insert h.phase h.phase h.transactions xid (with_item o item size) represents.alone (λ x begun. begun) (λ direct. represents.alone xid o some direct);
    transactions = kept;
    relations = rw relations represents.relations;
    position = position ∙ represents.position;
    skip = skip ∙ represents.skip;
  };
  tells = (o, refl, record { present = some; transactions = refl; position = refl; past = refl });
  says = rw is (says_given xid o.way item size back given);
  within = within_given g xid o.way item size of_tables directly;
}

-- ---- room

pub has_room-none : (g : Setting) (m : OpenTransactions) (size : ℕ) (found : Option Open) (o : Open) → found ≡ Some o → spool_fault g m size found ≡ None → has_room g m size o.way ≡ true
has_room-none g m size found o some none = by_test (has_room g m size o.way) (sym (ap (spool_fault g m size) some) ∙ none)
  where
    by_test : (b : Bool) → (if b then None else Some SpoolFull) ≡ None → b ≡ true
    by_test true e = refl
    by_test false e = cc

pub has_room-full : (g : Setting) (m : OpenTransactions) (size : ℕ) (found : Option Open) (o : Open) (why : SessionFault) → found ≡ Some o → spool_fault g m size found ≡ Some why → (has_room g m size o.way ≡ false) × (why ≡ SpoolFull)
has_room-full g m size found o why some full = by_test (has_room g m size o.way) (sym (ap (spool_fault g m size) some) ∙ full)
  where
    by_test : (b : Bool) → (if b then None else Some SpoolFull) ≡ Some why → (b ≡ false) × (why ≡ SpoolFull)
    by_test true e = cc
    by_test false e = (refl, cc)

-- `touches`, by what is found of the transaction
abbrev touches_by : Setting → State → ℕ → ℕ → ℕ → Option Open → Next
touches_by g s xid sub size found = of_open found (λ o. if has_room g s.transactions size o.way then Ok (gives s xid (Touch sub) size o) else refuse SpoolFull)

pub touches-taken : (g : Setting) (h : State) (xid sub size : ℕ) (o : Open) → map.get h.transactions xid ≡ Some o → has_room g h.transactions size o.way ≡ true → touches g h xid sub size ≡ Ok (gives h xid (Touch sub) size o)
touches-taken g h xid sub size o some room = ap (touches_by g h xid sub size) some ∙ rw room

pub touches-full : (g : Setting) (h : State) (xid sub size : ℕ) (o : Open) (why : SessionFault) → map.get h.transactions xid ≡ Some o → spool_fault g h.transactions size (map.get h.transactions xid) ≡ Some why → touches g h xid sub size ≡ refuse why
touches-full g h xid sub size o why some full =
    let fault = has_room-full g h.transactions size (map.get h.transactions xid) o why some full in
    ap (touches_by g h xid sub size) some ∙ rw (fault.0, fault.1)

-- ---- changes

changes-room : (g : Setting) (h : State) (xid sub size : ℕ) (o : Open) (planned : Result change_type.Change RelFault) → map.get h.transactions xid ≡ Some o → has_room g h.transactions size o.way ≡ true → changes g h xid sub size planned ≡ plans planned (λ c. gives h xid (Change sub c) size o)
changes-room g h xid sub size o planned some room = ap (λ f. of_open f (λ p. if has_room g h.transactions size p.way then plans planned (λ c. gives h xid (Change sub c) size p) else refuse SpoolFull)) some ∙ rw room

changes-full : (g : Setting) (h : State) (xid sub size : ℕ) (o : Open) (why : SessionFault) (planned : Result change_type.Change RelFault) → map.get h.transactions xid ≡ Some o → spool_fault g h.transactions size (map.get h.transactions xid) ≡ Some why → changes g h xid sub size planned ≡ refuse why
changes-full g h xid sub size o why planned some full =
    let fault = has_room-full g h.transactions size (map.get h.transactions xid) o why some full in
    ap (λ f. of_open f (λ p. if has_room g h.transactions size p.way then plans planned (λ c. gives h xid (Change sub c) size p) else refuse SpoolFull)) some ∙ rw (fault.0, fault.1)

line_at : (g : Setting) (h : State) (size : ℕ) (sub : Option ℕ) (planned : Result change_type.Change RelFault) (phase : Phase) → h.phase ≡ phase
    → change_line g h size sub planned ≡ at phase (refuse NotInTransaction) (λ xid final. changes_begun g h size xid final planned) (λ xid. changes g h xid (subtransaction_named sub xid) size planned)
line_at g h size sub planned phase e = ap (λ p. at p (refuse NotInTransaction) (λ xid final. changes_begun g h size xid final planned) (λ xid. changes g h xid (subtransaction_named sub xid) size planned)) e

pub line_begun : (g : Setting) (h : State) (size : ℕ) (sub : Option ℕ) (xid final : ℕ) (o : Open) (planned : Result change_type.Change RelFault) → h.phase ≡ Begun xid final → is_skipped g h final ≡ false → map.get h.transactions xid ≡ Some o → has_room g h.transactions size o.way ≡ true
    → change_line g h size sub planned ≡ plans planned (λ c. gives h xid (Change xid c) size o)
line_begun g h size sub xid final o planned e taken some room =
    line_at g h size sub planned (Begun xid final) e ∙ ap (λ b. if b then Ok h else changes g h xid xid size planned) taken
    ∙ changes-room g h xid xid size o planned some room

pub line_skipped : (g : Setting) (h : State) (size : ℕ) (sub : Option ℕ) (xid final : ℕ) (planned : Result change_type.Change RelFault) → h.phase ≡ Begun xid final → is_skipped g h final ≡ true
    → change_line g h size sub planned ≡ Ok h
line_skipped g h size sub xid final planned e skipped =
    line_at g h size sub planned (Begun xid final) e ∙ ap (λ b. if b then Ok h else changes g h xid xid size planned) skipped

pub line_block : (g : Setting) (h : State) (size : ℕ) (sub : Option ℕ) (xid : ℕ) (o : Open) (planned : Result change_type.Change RelFault) → h.phase ≡ Block xid → map.get h.transactions xid ≡ Some o → has_room g h.transactions size o.way ≡ true
    → change_line g h size sub planned ≡ plans planned (λ c. gives h xid (Change (subtransaction_named sub xid) c) size o)
line_block g h size sub xid o planned e some room = line_at g h size sub planned (Block xid) e ∙ changes-room g h xid (subtransaction_named sub xid) size o planned some room

pub line_full : (g : Setting) (h : State) (size : ℕ) (sub : Option ℕ) (xid : ℕ) (o : Open) (why : SessionFault) (planned : Result change_type.Change RelFault) → h.phase ≡ Block xid → map.get h.transactions xid ≡ Some o → spool_fault g h.transactions size (map.get h.transactions xid) ≡ Some why
    → change_line g h size sub planned ≡ refuse why
line_full g h size sub xid o why planned e some full = line_at g h size sub planned (Block xid) e ∙ changes-full g h xid (subtransaction_named sub xid) size o why planned some full

pub room_direct : (g : Setting) (m : OpenTransactions) (size : ℕ) (way : Way) → way ≡ Direct → has_room g m size way ≡ true
room_direct g m size Direct e = refl
room_direct g m size Worker e = cc
room_direct g m size Spooled e = cc

pub IsChangeOf-refused : (g : Setting) (h : State) (size : ℕ) (sub : Option ℕ) (result : Result (Option (ℕ × ℕ)) SessionFault) (why : SessionFault) → IsErrAnd result (λ e. e ≡ why)
    → ((planned : Result change_type.Change RelFault) → change_line g h size sub planned ≡ refuse why) → IsChangeOf g h size sub result
IsChangeOf-refused g h size sub (Ok of) why is line = absurd is
IsChangeOf-refused g h size sub (Err e) why is line = λ planned. rw is (line planned)

-- a fault of planning is the table's, unless memory was refused
pub fault_of_relation : (fault : RelFault) (planned : Result change_type.Change RelFault) (next : Next) → IsFaultOf planned fault → (planned ≡ Err fault → next ≡ Err (Rel fault)) → NextRefuses next (of_relation fault)
fault_of_relation faults.UnknownRelation planned next is e = e (is (λ no. cc))
fault_of_relation faults.TableMissing planned next is e = e (is (λ no. cc))
fault_of_relation faults.ColumnMissing planned next is e = e (is (λ no. cc))
fault_of_relation faults.KeyNotSent planned next is e = e (is (λ no. cc))
fault_of_relation faults.ColumnCount planned next is e = e (is (λ no. cc))
fault_of_relation faults.BadValue planned next is e = e (is (λ no. cc))
fault_of_relation faults.NullKey planned next is e = e (is (λ no. cc))
fault_of_relation faults.OutOfMemory planned next is e = tt

-- the session once it knows these relations, with the rest of before
stands_learnt : (g : Setting) (v w : session_type.Session) (h : State) (relations : Relations) → SessionRepresents g v h → Represents g w.relations relations → w.phase ≡ v.phase → w.transactions ≡ v.transactions → w.position ≡ v.position → w.skip ≡ v.skip
    → SessionRepresents g w (record h { relations = relations })
stands_learnt g v w h relations represents known phase transactions position skip = record {
  phase = phase ∙ represents.phase;
  here = represents.here;
  alone = represents.alone;
  transactions = rw transactions represents.transactions;
  relations = known;
  position = position ∙ represents.position;
  skip = skip ∙ represents.skip;
}

-- the session once the relations are known anew
pub stands_known : (g : Setting) (v w : session_type.Session) (h : State) → SessionRepresents g v h → Represents g w.relations h.relations → w.phase ≡ v.phase → w.transactions ≡ v.transactions → w.position ≡ v.position → w.skip ≡ v.skip → SessionRepresents g w h
stands_known g v w h = stands_learnt g v w h h.relations

-- a refusal after which the relations are known as before
pub relation_refused : (g : Setting) (v w : session_type.Session) (h : State) (next : Next) (result : Result Step Refused) (fault : RelFault) → SessionRepresents g v h → Represents g w.relations h.relations
    → w.phase ≡ v.phase → w.transactions ≡ v.transactions → w.position ≡ v.position → w.skip ≡ v.skip → IsErrAnd result (λ r. r ≡ of_relation fault) → NextRefuses next (of_relation fault)
    → AnswersMessage g w h next result
relation_refused g v w h next (Ok s) fault represents known phase transactions position skip is cause = absurd is
relation_refused g v w h next (Err r) fault represents known phase transactions position skip is cause = record { represents = stands_known g v w h represents known phase transactions position skip; cause = rw is cause }

-- ---- relations

-- what is told does not speak of relations
tells_learnt : (h t : State) (r : Relation) (told : StreamEvent) → Tells h t told → Tells h (learns t r) told
tells_learnt h t r NoEvent is = record { transactions = is.transactions; position = is.position; past = is.past }
tells_learnt h t r (TransactionOpens xid way) is = record { absent = is.absent; transactions = is.transactions; position = is.position; past = is.past }
tells_learnt h t r (ItemComes xid way item size) is = (is.0, is.1, record { present = is.2.present; transactions = is.2.transactions; position = is.2.position; past = is.2.past })
tells_learnt h t r (TransactionCommits c) is = record { items = is.items; present = is.present; final = is.final; later = is.later; outside = is.outside; transactions = is.transactions; position = is.position; past = is.past }
tells_learnt h t r (TransactionAborts xid way) is = (is.0, is.1, record { present = is.2.present; transactions = is.2.transactions; position = is.2.position; past = is.2.past })

-- outside of blocks
abbrev pub IsAtRest : Phase → Type 0
IsAtRest phase = (phase ≡ Outside) ⊎ ((xid : ℕ) × (final : ℕ) × (phase ≡ Begun xid final))

pub at_rest : (phase : Phase) (next : Next) (block : ℕ → Next) → IsAtRest phase → at phase next (λ _ _. next) block ≡ next
at_rest phase next block is =
    ⊎_elim
    (λ (outside : phase ≡ Outside). ap (λ p. at p next (λ _ _. next) block) outside)
    (λ (begun : (xid : ℕ) × (final : ℕ) × (phase ≡ Begun xid final)). ap (λ p. at p next (λ _ _. next) block) begun.2)
    is

pub learns-admitted : (g : Setting) (v w : session_type.Session) (h : State) (r : Relation) (next : Next) → SessionRepresents g v h → next ≡ Ok (learns h r) → Represents g w.relations (learnt h.relations r)
    → w.phase ≡ v.phase → w.transactions ≡ v.transactions → w.position ≡ v.position → w.skip ≡ v.skip → AdmitsMessage g w h next steps.Nothing
learns-admitted g v w h r next represents e known phase transactions position skip = record {
  state = learns h r;
  told = NoEvent;
  stepped = e;
  represents = stands_learnt g v w h (learnt h.relations r) represents known phase transactions position skip;
  tells = record { transactions = refl; position = refl; past = refl };
  says = refl;
  within = tt;
}

-- An item was taken that changes no row: the transaction is open, and has it now.
pub record IsTouched (g : Setting) (h : State) (xid sub size : ℕ) (t : State) : Type 0 where
  pub o : Open
  pub present : map.get h.transactions xid ≡ Some o
  pub room : has_room g h.transactions size o.way ≡ true
  pub is : t ≡ gives h xid (Touch sub) size o

pub is_touched : (g : Setting) (h : State) (xid sub size : ℕ) (t : State) → touches g h xid sub size ≡ Ok t → IsTouched g h xid sub size t
is_touched g h xid sub size t e = from (map.get h.transactions xid) refl
  where
    room_of : (o : Open) (b : Bool) → (if b then Ok (gives h xid (Touch sub) size o) else refuse SpoolFull) ≡ Ok t → (b ≡ true) × (t ≡ gives h xid (Touch sub) size o)
    room_of o true is = (refl, cc)
    room_of o false is = cc

    from : (f : Option Open) → map.get h.transactions xid ≡ f → IsTouched g h xid sub size t
    from None none =
        let no : refuse UnknownTransaction ≡ Ok t = sym (ap (touches_by g h xid sub size) none) ∙ e in
        cc
    from (Some o) some =
        let test = room_of o (has_room g h.transactions size o.way) (sym (ap (touches_by g h xid sub size) some) ∙ e) in
        record { o = o; present = some; room = test.0; is = test.1 }

-- learning a relation does not change what is refused
touches-learns_refused : (g : Setting) (h : State) (r : Relation) (xid sub size : ℕ) (why : Refused) → touches g h xid sub size ≡ Err why → touches g (learns h r) xid sub size ≡ Err why
touches-learns_refused g h r xid sub size why e = from (map.get h.transactions xid) refl
  where
    room_of : (o : Open) (b : Bool) → (if b then Ok (gives h xid (Touch sub) size o) else refuse SpoolFull) ≡ Err why → (if b then Ok (gives (learns h r) xid (Touch sub) size o) else refuse SpoolFull) ≡ Err why
    room_of o true is = cc
    room_of o false is = is

    from : (f : Option Open) → map.get h.transactions xid ≡ f → touches g (learns h r) xid sub size ≡ Err why
    from None none = ap (touches_by g (learns h r) xid sub size) none ∙ sym (ap (touches_by g h xid sub size) none) ∙ e
    from (Some o) some = ap (touches_by g (learns h r) xid sub size) some ∙ room_of o (has_room g h.transactions size o.way) (sym (ap (touches_by g h xid sub size) some) ∙ e)

cause-learns : (g : Setting) (h : State) (r : Relation) (xid sub size : ℕ) (why : Refused) → NextRefuses (touches g h xid sub size) why → NextRefuses (touches g (learns h r) xid sub size) why
cause-learns g h r xid sub size (refused.Msg f) is = is
cause-learns g h r xid sub size (Session f) is = touches-learns_refused g h r xid sub size (Session f) is
cause-learns g h r xid sub size (Rel f) is = touches-learns_refused g h r xid sub size (Rel f) is
cause-learns g h r xid sub size OutOfMemory is = tt

-- a relation message in a block that has no room
pub relation_full : (g : Setting) (v : session_type.Session) (h : State) (r : Relation) (xid sub size : ℕ) (a : Next) (b : ℕ → ℕ → Next) (next : ℕ → Next) (result : Result Step Refused) (why : Refused) → h.phase ≡ Block xid
    → next xid ≡ touches g (learns h r) xid sub size → RefusesMessage g v h (touches g h xid sub size) why → result ≡ Err why → AnswersMessage g v h (at h.phase a b next) result
relation_full g v h r xid sub size a b next (Ok s) why block line refused is = cc
relation_full g v h r xid sub size a b next (Err e) why block line refused is =
    let same : e ≡ why = cc in
    let P : Next → Type 0 = λ n. NextRefuses n why in
    let whole : at h.phase a b next ≡ touches g (learns h r) xid sub size = ap (λ p. at p a b next) block ∙ line in
    record { represents = refused.represents; cause = rw same (subst P (sym whole) (cause-learns g h r xid sub size why refused.cause)) }

-- a relation message in a block: the item is taken, and then the relation is learnt
pub relation_taken : (g : Setting) (v w : session_type.Session) (h : State) (r : Relation) (xid sub size : ℕ) (next : Next) (step : Step) → next ≡ touches g (learns h r) xid sub size → (taken : AdmitsMessage g v h (touches g h xid sub size) step)
    → Represents g w.relations (learnt h.relations r) → w.phase ≡ v.phase → w.transactions ≡ v.transactions → w.position ≡ v.position → w.skip ≡ v.skip
    → AdmitsMessage g w h next step
relation_taken g v w h r xid sub size next step line taken known phase transactions position skip =
    let touched = is_touched g h xid sub size taken.state taken.stepped in
    record {
      state = learns taken.state r;
      told = taken.told;
      stepped =
          line
          ∙ touches-taken g (learns h r) xid sub size touched.o touched.present touched.room
          ∙ sym (ap (λ s. Ok (learns s r)) touched.is);
      represents = stands_learnt g v w taken.state (learnt taken.state.relations r) taken.represents (rw touched.is known) phase transactions position skip;
      tells = tells_learnt h taken.state r taken.told taken.tells;
      says = taken.says;
      within = taken.within;
    }

-- the session once the item is dropped again, since the relation was not learnt
pub relation_undone : (g : Setting) (u v w : session_type.Session) (h : State) (xid sub size : ℕ) (step : Step) → SessionRepresents g u h → (taken : AdmitsMessage g v h (touches g h xid sub size) step)
    → ((m : OpenTransactions) (o : Open) (item : Item) (bytes : ℕ) → map.get m xid ≡ Some o → Survives item → TransactionsRepresent g v.transactions (map.insert m xid (with_item o item bytes)) → TransactionsRepresent g w.transactions m)
    → Represents g w.relations taken.state.relations → w.phase ≡ v.phase → w.position ≡ v.position → w.skip ≡ v.skip → SessionRepresents g w h
relation_undone g u v w h xid sub size step was taken undoes known phase position skip =
    let touched = is_touched g h xid sub size taken.state taken.stepped in
    let P : State → Type 0 = λ t. TransactionsRepresent g v.transactions t.transactions in
    let Q : State → Type 0 = λ t. Represents g w.relations t.relations in
    record {
      phase = phase ∙ taken.represents.phase ∙ ap (λ t. t.phase) touched.is;
      here = was.here;
      alone = was.alone;
      transactions = undoes h.transactions touched.o (Touch sub) size touched.present tt (subst P touched.is taken.represents.transactions);
      relations = subst Q touched.is known;
      position = position ∙ taken.represents.position ∙ ap (λ t. t.position) touched.is;
      skip = skip ∙ taken.represents.skip ∙ ap (skip_set g) touched.is;
    }

-- ---- rollbacks

-- an abort, by what is found of the transaction
aborts_found : (h : State) (m : StreamAbort) (found : Option Open) → map.get h.transactions m.xid ≡ found → aborts h m ≡ aborts_open h m found
aborts_found h m found e = ap (aborts_open h m) e

-- the abort of an unknown transaction
pub aborts-unknown : (g : Setting) (v : session_type.Session) (h : State) (m : StreamAbort) → SessionRepresents g v h → map.get h.transactions m.xid ≡ None → AdmitsMessage g v h (Ok (aborts h m)) steps.Nothing
aborts-unknown g v h m represents none = stays g v h (Ok (aborts h m)) represents (ap Ok (aborts_found h m None none))

-- what is answered to the abort of a whole transaction
abbrev pub step_dropped : ℕ → Bool → Step
step_dropped xid true = steps.Nothing
step_dropped xid false = steps.Abort xid

says_dropped : (xid : ℕ) (way : Way) → Says (TransactionAborts xid way) (step_dropped xid (is_spooled way))
says_dropped xid Direct = refl
says_dropped xid Worker = refl
says_dropped xid Spooled = refl

pub drops-admitted : (g : Setting) (v w : session_type.Session) (h : State) (m : StreamAbort) (o : Open) (step : Step) → SessionRepresents g v h → h.phase ≡ Outside → map.get h.transactions m.xid ≡ Some o → m.subtransaction ≡ m.xid
    → TransactionsRepresent g w.transactions (map.remove h.transactions m.xid) → w.phase ≡ v.phase → w.relations ≡ v.relations → w.position ≡ v.position → w.skip ≡ v.skip → step ≡ step_dropped m.xid (is_spooled o.way)
    → AdmitsMessage g w h (Ok (aborts h m)) step
drops-admitted g v w h m o step represents outside some whole kept phase relations position skip is = record {
  state = record h { transactions = map.remove h.transactions m.xid };
  told = TransactionAborts m.xid o.way;
  stepped = ap Ok (aborts_found h m (Some o) some ∙ rw (eq-eqb m.subtransaction m.xid whole));
  represents = record {
    phase = phase ∙ represents.phase;
    here = let P : Phase → Type 0 = λ p. IsHere p (map.remove h.transactions m.xid) in subst P (sym outside) tt;
    alone = alone_at Outside h.phase (map.remove h.transactions m.xid) (alone_remove h.phase h.transactions m.xid represents.alone (nothing_begun h.phase m.xid outside)) (sym (none_begun h.phase outside));
    transactions = kept;
    relations = rw relations represents.relations;
    position = position ∙ represents.position;
    skip = skip ∙ represents.skip;
  };
  tells = (o, refl, record { present = some; transactions = refl; position = refl; past = refl });
  says = rw is (says_dropped m.xid o.way);
  within = within_dropped g m.xid o.way (none_direct h.phase h.transactions m.xid o (none_begun h.phase outside) represents.alone some);
}

-- the rollback of a subtransaction is an item
pub aborts-back : (h : State) (m : StreamAbort) (o : Open) → map.get h.transactions m.xid ≡ Some o → m.subtransaction ≢ m.xid → aborts h m ≡ gives h m.xid (BackTo m.subtransaction) 0 o
aborts-back h m o some part = aborts_found h m (Some o) some ∙ rw (ne_eqb m.subtransaction m.xid part)

pub item_back-kept : (way : Way) (item : Item) → is_spooled way ≡ true → None ≡ item_back way item
item_back-kept Direct item e = cc
item_back-kept Worker item e = cc
item_back-kept Spooled item e = refl

pub item_back-free : (way : Way) (item : Item) → is_spooled way ≡ false → Some item ≡ item_back way item
item_back-free Direct item e = refl
item_back-free Worker item e = refl
item_back-free Spooled item e = cc

-- ---- further blocks

pub goes_on-admitted : (g : Setting) (v w : session_type.Session) (h : State) (xid : ℕ) → SessionRepresents g v h → h.phase ≡ Outside → map.contains_key h.transactions xid ≡ true
    → w.phase ≡ Block xid → w.transactions ≡ v.transactions → w.relations ≡ v.relations → w.position ≡ v.position → w.skip ≡ v.skip → AdmitsMessage g w h (goes_on h xid) steps.Nothing
goes_on-admitted g v w h xid represents outside is_open phase transactions relations position skip =
    let o = present h.transactions xid is_open in
    let streamed : o.0.way ≢ Direct = λ direct. let no : None ≡ Some xid = sym (none_begun h.phase outside) ∙ represents.alone xid o.0 o.1 direct in cc in
    let P : Option Open → Type 0 = λ f. IsSomeAnd f (λ p. p.way ≢ Direct) in
    moves-admitted g v w h (Block xid) (goes_on h xid) represents (subst P (sym o.1) streamed) (none_begun h.phase outside) (rw is_open) phase transactions relations position skip
