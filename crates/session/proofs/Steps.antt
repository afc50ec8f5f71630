-- What the session represents after a message.
use Rattle.std.proofs.Common.{arith, ◌≡◌, ◌≢◌, ℕ, ◌<◌, ◌≤◌, ◌++◌, ◌∷◌, if◌then◌else◌, Bool, true, false, [], Option, Some, None, refl, sym, ap, subst, ◌∙◌, ⊎_elim}
use Rattle.std.specs.Prelude.{Result, Ok, Err, IsErrAnd, is_some, not, ◌&&◌, nat_lt}
use Rattle.std.specs.Ordering.{nat_cmp, eq_by_cmp}
use Rattle.std.specs.Cmp.{nat_cmp_total}
use Rattle.std.proofs.lemmas.Bool.{cases_Bool}
use Rattle.std.specs.FinMap as map
use Rattle.session.specs.declared.phase.Phase.{Phase}
use Rattle.session.specs.declared.phase.Phase.TheVariants.{Outside, Begun, Block}
use Rattle.session.specs.declared.fault.SessionFault.{SessionFault}
use Rattle.session.specs.declared.fault.Refused.{Refused}
use Rattle.session.specs.declared.fault.Refused.TheVariants.{Msg, Session, Rel, OutOfMemory}
use Rattle.session.specs.declared.session.Session as session_type
use Rattle.session.specs.declared.step.Step.{Step}
use Rattle.session.specs.declared.step.Step.TheVariants as steps
use Rattle.messages.specs.declared.message.Begin.{Begin}
use Rattle.session.specs.State.{Open, OpenTransactions, State, Setting, Way, Direct, Worker, Spooled, Committed, IsHere, GoesAlone, begun_at, worker_count}
use Rattle.session.specs.Table.{Next, refuse, skip_set, is_skipped, names, final_items, at, begins, new_open, room_fault, unless_fault, leaves_block, opens, next_way, commits, closes, of_open}
use Rattle.std.proofs.lemmas.Bool.{ltb-true}
use Rattle.session.specs.StreamEvents.{NoEvent, TransactionOpens, TransactionCommits, items_handed_out}
use Rattle.session.specs.KeptTransactions.{way_if, kept_part, Represents, IsFault}
use Rattle.session.specs.Represents.{Represents as SessionRepresents}
use Rattle.session.specs.Answers.{Says, HandsOut, NextRefuses, IsWithin, AnswersMessage, AdmitsMessage}
use Rattle.session.specs.Kept.{items_left}
use Rattle.session.specs.Sized.{SizedItems}
use Rattle.model.specs.declared.item.CommitInfo.{CommitInfo}
use Rattle.session.specs.declared.transactions.OpenTransaction.{OpenTransaction}
use Rattle.session.specs.declared.fault.SessionFault.TheVariants.{UnknownTransaction, OldCommit}
use Rattle.std.proofs.lemmas.Bool.{le-leb, lt-leb}
use Rattle.session.proofs.Finals.{are_final, none_behind}
use Rattle.session.proofs.Totals.{get-insert_same, same_key, ties_itself}
use Rattle.session.proofs.Kept.{absent_from_room}

-- what an error through `?` is
pub err_is : {T E : Type 0} (result : Result T E) (r : E) → IsErrAnd result (λ e. e ≡ r) → result ≡ Err r
err_is (Ok x) r is = absurd is
err_is (Err e) r is = ap Err is

-- a refusal that changed nothing, where the table has it
pub refused : (g : Setting) (v : session_type.Session) (h : State) (next : Next) (result : Result Step Refused) (why : SessionFault) → SessionRepresents g v h → next ≡ refuse why → result ≡ Err (Session why) → AnswersMessage g v h next result
refused g v h next (Ok s) why represents e is = cc
refused g v h next (Err r) why represents e is = let same : r ≡ Session why = cc in record { represents = represents; cause = rw same e }

-- a fault of opening is the table's, unless memory was refused
fault_is_cause : (fault : Option SessionFault) (t : State) (next : Next) (r : Refused) → next ≡ unless_fault fault t → IsFault fault r → NextRefuses next r
fault_is_cause fault t next (Msg f) e is = let why = is (λ m. cc) in let no : Msg f ≡ Session why.0 = why.2 in cc
fault_is_cause fault t next (Session f) e is = let why = is (λ m. cc) in e ∙ ap (λ o. unless_fault o t) why.1 ∙ ap Err (sym why.2)
fault_is_cause fault t next (Rel f) e is = let why = is (λ m. cc) in let no : Rel f ≡ Session why.0 = why.2 in cc
fault_is_cause fault t next OutOfMemory e is = tt

-- ---- outside of transactions

at_outside : (phase : Phase) (outside : Next) (begun : ℕ → ℕ → Next) (block : ℕ → Next) → phase ≡ Outside → at phase outside begun block ≡ outside
at_outside phase outside begun block e = ap (λ p. at p outside begun block) e

-- ---- the transaction that goes directly

-- with one more transaction open
pub alone_insert : (p q : Phase) (m : OpenTransactions) (xid : ℕ) (o : Open) → GoesAlone p m → ((x : ℕ) → begun_at p ≡ Some x → begun_at q ≡ Some x) → (o.way ≡ Direct → begun_at q ≡ Some xid) → GoesAlone q (map.insert m xid o)
alone_insert p q m xid o alone same here x other is_open direct =
    ⊎_elim
    (λ (tie : eq_by_cmp nat_cmp x xid ≡ true).
    let key : x ≡ xid = same_key x xid tie in
    let found : Some o ≡ Some other = sym (map.get-insert nat_cmp_total m xid o x ∙ rw tie) ∙ is_open in
    let way : o.way ≡ Direct = ap (λ p. way_of o p) found ∙ direct in
    here way ∙ ap Some (sym key))
    (λ (apart : eq_by_cmp nat_cmp x xid ≡ false).
    same x (alone x other (sym (map.get-insert nat_cmp_total m xid o x ∙ rw apart) ∙ is_open) direct))
    (cases_Bool (eq_by_cmp nat_cmp x xid))
  where
    way_of : Open → Option Open → Way
    way_of d None = d.way
    way_of d (Some p) = p.way

-- with a transaction closed, where it was the begun one or none was begun
pub alone_remove : (p : Phase) (m : OpenTransactions) (xid : ℕ) → GoesAlone p m → ((x : ℕ) → begun_at p ≡ Some x → x ≡ xid) → GoesAlone Outside (map.remove m xid)
alone_remove p m xid alone only x other is_open direct =
    ⊎_elim
    (λ (tie : eq_by_cmp nat_cmp x xid ≡ true).
    let none : None ≡ Some other = sym (map.get-remove nat_cmp_total m xid x ∙ rw tie) ∙ is_open in cc)
    (λ (apart : eq_by_cmp nat_cmp x xid ≡ false).
    let key : x ≡ xid = only x (alone x other (sym (map.get-remove nat_cmp_total m xid x ∙ rw apart) ∙ is_open) direct) in
    let tie : eq_by_cmp nat_cmp x xid ≡ true = rw key (ties_itself xid) in
    let no : true ≡ false = sym tie ∙ apart in cc)
    (cases_Bool (eq_by_cmp nat_cmp x xid))

-- elsewhere, where the same is begun
pub alone_at : (p q : Phase) (m : OpenTransactions) → GoesAlone p m → begun_at p ≡ begun_at q → GoesAlone q m
alone_at p q m alone same x o is_open direct = sym same ∙ alone x o is_open direct

pub none_begun : (p : Phase) → p ≡ Outside → begun_at p ≡ None
none_begun p e = ap begun_at e

pub nothing_begun : (p : Phase) (xid : ℕ) → p ≡ Outside → (x : ℕ) → begun_at p ≡ Some x → x ≡ xid
nothing_begun p xid e x begun = let no : None ≡ Some x = sym (none_begun p e) ∙ begun in cc

-- the session once it is in this phase and has these transactions, with the relations and the position of before
stands_moved : (g : Setting) (v w : session_type.Session) (h : State) (phase : Phase) (m : OpenTransactions) → SessionRepresents g v h → IsHere phase m → GoesAlone phase m → Represents g w.transactions m
    → w.phase ≡ phase → w.relations ≡ v.relations → w.position ≡ v.position → w.skip ≡ v.skip → SessionRepresents g w (record h { phase = phase; transactions = m })
stands_moved g v w h phase m represents here alone kept is relations position skip = record {
  phase = is;
  here = here;
  alone = alone;
  transactions = kept;
  relations = rw relations represents.relations;
  position = position ∙ represents.position;
  skip = skip ∙ represents.skip;
}

-- a message that changes no more than the phase, by which the same transaction is begun: nothing is told
pub moves-admitted : (g : Setting) (v w : session_type.Session) (h : State) (phase : Phase) (next : Next) → SessionRepresents g v h → IsHere phase h.transactions → begun_at h.phase ≡ begun_at phase → next ≡ Ok (record h { phase = phase })
    → w.phase ≡ phase → w.transactions ≡ v.transactions → w.relations ≡ v.relations → w.position ≡ v.position → w.skip ≡ v.skip → AdmitsMessage g w h next steps.Nothing
moves-admitted g v w h phase next represents here same stepped is transactions relations position skip = record {
  state = record h { phase = phase };
  told = NoEvent;
  stepped = stepped;
  represents = stands_moved g v w h phase h.transactions represents here (alone_at h.phase phase h.transactions represents.alone same) (rw transactions represents.transactions) is relations position skip;
  tells = record { transactions = refl; position = refl; past = refl };
  says = refl;
  within = tt;
}

-- a transaction that was not opened: the session represents the state of before, and the table has the fault of its room, unless memory was refused
opening_refused : (g : Setting) (v w : session_type.Session) (h t : State) (xid : ℕ) (next : Next) (result : Result Step Refused) (r : Refused) → SessionRepresents g v h
    → Represents g w.transactions h.transactions × IsFault (room_fault h.transactions xid) r → next ≡ unless_fault (room_fault h.transactions xid) t
    → w.phase ≡ v.phase → w.relations ≡ v.relations → w.position ≡ v.position → w.skip ≡ v.skip → result ≡ Err r
    → AnswersMessage g w h next result
opening_refused g v w h t xid next (Ok s) r represents kept line phase relations position skip is = cc
opening_refused g v w h t xid next (Err e) r represents kept line phase relations position skip is =
    let same : e ≡ r = cc in
    record {
      represents = stands_moved g v w h h.phase h.transactions represents represents.here represents.alone kept.0 (phase ∙ represents.phase) relations position skip;
      cause = rw same (fault_is_cause (room_fault h.transactions xid) t next r line kept.1);
    }

-- the state once the transaction has begun
abbrev pub begun : State → Begin → State
begun h m = record h { phase = Begun m.xid m.final_lsn; transactions = map.insert h.transactions m.xid (new_open Direct) }

pub begins-admitted : (g : Setting) (v w : session_type.Session) (h : State) (m : Begin) (b : ℕ → ℕ → Next) (c : ℕ → Next) → SessionRepresents g v h → v.phase ≡ Outside
    → (room_fault h.transactions m.xid ≡ None) × Represents g w.transactions (map.insert h.transactions m.xid (new_open Direct))
    → w.phase ≡ Begun m.xid m.final_lsn → w.relations ≡ v.relations → w.position ≡ v.position → w.skip ≡ v.skip
    → AdmitsMessage g w h (at h.phase (begins h m) b c) (steps.Begin m.xid)
begins-admitted g v w h m b c represents outside opened_is phase relations position skip = record {
  state = begun h m;
  told = TransactionOpens m.xid Direct;
  stepped = at_outside h.phase (begins h m) b c (sym represents.phase ∙ outside) ∙ ap (λ o. unless_fault o (begun h m)) opened_is.0;
  represents = record {
    phase = phase;
    here = rw (get-insert_same h.transactions m.xid (new_open Direct)) refl;
    alone =
        let none = none_begun h.phase (sym represents.phase ∙ outside) in
        alone_insert h.phase (Begun m.xid m.final_lsn) h.transactions m.xid (new_open Direct) represents.alone (λ x begun. let no : None ≡ Some x = sym none ∙ begun in cc) (λ direct. refl);
    transactions = opened_is.1;
    relations = rw relations represents.relations;
    position = position ∙ represents.position;
    skip = skip ∙ represents.skip;
  };
  tells = record { absent = absent_from_room h.transactions m.xid opened_is.0; transactions = refl; position = refl; past = refl };
  says = refl;
  within = tt;
}

pub begins-refused : (g : Setting) (v w : session_type.Session) (h : State) (m : Begin) (b : ℕ → ℕ → Next) (c : ℕ → Next) (result : Result Step Refused) (r : Refused) → SessionRepresents g v h → v.phase ≡ Outside
    → Represents g w.transactions h.transactions × IsFault (room_fault h.transactions m.xid) r
    → w.phase ≡ v.phase → w.relations ≡ v.relations → w.position ≡ v.position → w.skip ≡ v.skip → result ≡ Err r
    → AnswersMessage g w h (at h.phase (begins h m) b c) result
begins-refused g v w h m b c result r represents outside kept phase relations position skip is =
    let line = at_outside h.phase (begins h m) b c (sym represents.phase ∙ outside) in
    opening_refused g v w h (begun h m) m.xid (at h.phase (begins h m) b c) result r represents kept line phase relations position skip is

-- ---- in a block

pub stops-admitted : (g : Setting) (v w : session_type.Session) (h : State) (xid : ℕ) (a : Next) (b : ℕ → ℕ → Next) → SessionRepresents g v h → v.phase ≡ Block xid
    → w.phase ≡ Outside → w.transactions ≡ v.transactions → w.relations ≡ v.relations → w.position ≡ v.position → w.skip ≡ v.skip
    → AdmitsMessage g w h (at h.phase a b (λ _. Ok (leaves_block h))) steps.Nothing
stops-admitted g v w h xid a b represents block phase transactions relations position skip =
    let was : h.phase ≡ Block xid = sym represents.phase ∙ block in
    moves-admitted g v w h Outside (at h.phase a b (λ _. Ok (leaves_block h))) represents tt (ap begun_at was) (ap (λ p. at p a b (λ _. Ok (leaves_block h))) was) phase transactions relations position skip

-- ---- a streamed transaction

-- what is answered once it is open
abbrev pub step_if : ℕ → Bool → Step
step_if xid true = steps.Open xid
step_if xid false = steps.Nothing

chosen : (b : Bool) → (if b then Worker else Spooled) ≡ way_if b
chosen true = refl
chosen false = refl

not_direct : (b : Bool) → way_if b ≢ Direct
not_direct true = λ e. cc
not_direct false = λ e. cc

said : (xid : ℕ) (b : Bool) → Says (TransactionOpens xid (way_if b)) (step_if xid b)
said xid true = refl
said xid false = refl

-- the state once its first block is open
abbrev pub streamed : State → ℕ → Way → State
streamed h xid way = record h { phase = Block xid; transactions = map.insert h.transactions xid (new_open way) }

-- a worker is given only where there are any
within_opened : (g : Setting) (n xid : ℕ) (may got : Bool) → got ≡ (may && nat_lt n g.workers) → IsWithin g (TransactionOpens xid (way_if got))
within_opened g n xid true true e = let free : n < g.workers = ltb-true n g.workers (sym e) in omega arith
within_opened g n xid false true e = cc
within_opened g n xid may false e = tt

not_twice : (b : Bool) → not (not b) ≡ b
not_twice true = refl
not_twice false = refl

pub opens-admitted : (g : Setting) (v w : session_type.Session) (h : State) (xid : ℕ) (may got : Bool) (step : Step) → SessionRepresents g v h → h.phase ≡ Outside → is_some v.skip ≡ not may
    → (room_fault h.transactions xid ≡ None) × (got ≡ (may && nat_lt (worker_count h.transactions) g.workers)) × Represents g w.transactions (map.insert h.transactions xid (new_open (way_if got)))
    → w.phase ≡ Block xid → w.relations ≡ v.relations → w.position ≡ v.position → w.skip ≡ v.skip → step ≡ step_if xid got
    → AdmitsMessage g w h (opens h xid (next_way g h) (Block xid)) step
opens-admitted g v w h xid may got step represents outside unset kept phase relations position skip is = record {
  state = streamed h xid (way_if got);
  told = TransactionOpens xid (way_if got);
  stepped =
      let may_have : not (is_some (skip_set g h)) ≡ may = ap (λ s. not (is_some s)) (sym represents.skip) ∙ ap not unset ∙ not_twice may in
      let way : next_way g h ≡ way_if got =
      ap (λ b. if b && nat_lt (worker_count h.transactions) g.workers then Worker else Spooled) may_have
      ∙ ap (λ b. if b then Worker else Spooled) (sym kept.1) ∙ chosen got in
      ap (λ o. unless_fault o (streamed h xid (next_way g h))) kept.0 ∙ ap (λ way'. Ok (streamed h xid way')) way;
  represents = record {
    phase = phase;
    here = rw (get-insert_same h.transactions xid (new_open (way_if got))) (not_direct got);
    alone = alone_insert h.phase (Block xid) h.transactions xid (new_open (way_if got)) represents.alone (λ x begun. let no : None ≡ Some x = sym (none_begun h.phase outside) ∙ begun in cc) (λ direct. absurd (not_direct got direct));
    transactions = kept.2;
    relations = rw relations represents.relations;
    position = position ∙ represents.position;
    skip = skip ∙ represents.skip;
  };
  tells = record { absent = absent_from_room h.transactions xid kept.0; transactions = refl; position = refl; past = refl };
  says = rw is (said xid got);
  within = within_opened g (worker_count h.transactions) xid may got kept.1;
}

pub opens-refused : (g : Setting) (v w : session_type.Session) (h : State) (xid : ℕ) (result : Result Step Refused) (r : Refused) → SessionRepresents g v h
    → Represents g w.transactions h.transactions × IsFault (room_fault h.transactions xid) r
    → w.phase ≡ v.phase → w.relations ≡ v.relations → w.position ≡ v.position → w.skip ≡ v.skip → result ≡ Err r
    → AnswersMessage g w h (opens h xid (next_way g h) (Block xid)) result
opens-refused g v w h xid result r represents kept phase relations position skip is =
    opening_refused g v w h (streamed h xid (next_way g h)) xid (opens h xid (next_way g h) (Block xid)) result r represents kept refl phase relations position skip is

-- ---- commits

items_left-kept_part : (skipped : Bool) (xid : ℕ) (items : SizedItems) (way : Way)
    → items_left skipped (kept_part xid items way) ≡ items_handed_out xid way (final_items skipped way items)
items_left-kept_part true xid items Direct = refl
items_left-kept_part true xid items Worker = refl
items_left-kept_part true xid items Spooled = refl
items_left-kept_part false xid items Direct = refl
items_left-kept_part false xid items Worker = refl
items_left-kept_part false xid items Spooled = refl

-- what a commit makes final
abbrev pub final : Setting → State → ℕ → CommitInfo → Open → Committed
final g h xid info o = record { xid = xid; way = o.way; items = final_items (is_skipped g h info.commit) o.way o.items; info = info }

abbrev pub closed : Setting → State → ℕ → CommitInfo → Open → State
closed g h xid info o = record h { phase = Outside; transactions = map.remove h.transactions xid; position = info.end; past = h.past ++ final g h xid info o ∷ [] }

-- a commit, by what is found of the transaction
abbrev closes_by : Setting → State → ℕ → ℕ → ℕ → Option Open → Next
closes_by g h xid commit end found = of_open found (λ o. closes g h xid (record { commit = commit; end = end }) o)

pub closes-unknown : (g : Setting) (h : State) (xid commit end : ℕ) → map.get h.transactions xid ≡ None → commits g h xid commit end ≡ refuse UnknownTransaction
closes-unknown g h xid commit end none = ap (closes_by g h xid commit end) none

pub closes-old : (g : Setting) (h : State) (xid commit end : ℕ) (o : Open) → map.get h.transactions xid ≡ Some o → end ≤ h.position → commits g h xid commit end ≡ refuse OldCommit
closes-old g h xid commit end o some le = ap (closes_by g h xid commit end) some ∙ rw (le-leb end h.position le)

closes-new : (g : Setting) (h : State) (xid commit end : ℕ) (o : Open) → map.get h.transactions xid ≡ Some o → h.position < end → commits g h xid commit end ≡ Ok (closed g h xid (record { commit = commit; end = end }) o)
closes-new g h xid commit end o some lt = ap (closes_by g h xid commit end) some ∙ rw (lt-leb end h.position lt)

pub closes-admitted : (g : Setting) (v w : session_type.Session) (h : State) (xid commit end : ℕ) (way : OpenTransaction) (step : Step) → SessionRepresents g v h
    → (o : Open) × (map.get h.transactions xid ≡ Some o) × (way ≡ kept_part xid o.items o.way) × Represents g w.transactions (map.remove h.transactions xid)
    → ((x : ℕ) → begun_at h.phase ≡ Some x → x ≡ xid) → h.position < end → w.phase ≡ Outside → w.relations ≡ v.relations → w.position ≡ end → w.skip ≡ None
    → ((c : Committed) → c.xid ≡ xid → c.info ≡ record { commit = commit; end = end } → items_left (names commit v.skip) way ≡ items_handed_out c.xid c.way c.items → HandsOut c step)
    → AdmitsMessage g w h (commits g h xid commit end) step
closes-admitted g v w h xid commit end way step represents was only later phase relations position skip hands = record {
  state = closed g h xid (record { commit = commit; end = end }) was.0;
  told = TransactionCommits (final g h xid (record { commit = commit; end = end }) was.0);
  stepped = closes-new g h xid commit end was.0 was.1 later;
  represents = record {
    phase = phase;
    here = tt;
    alone = alone_remove h.phase h.transactions xid represents.alone only;
    transactions = was.3;
    relations = rw relations represents.relations;
    position = position;
    skip = skip ∙ sym (none_behind g.skip h.past (final g h xid (record { commit = commit; end = end }) was.0));
  };
  tells = record { items = was.0.items; present = was.1; final = are_final (is_skipped g h commit) was.0.way was.0.items; later = later; outside = refl; transactions = refl; position = refl; past = refl };
  says =
      hands (final g h xid (record { commit = commit; end = end }) was.0) refl refl
      (ap (items_left (names commit v.skip)) was.2 ∙ ap (λ s. items_left (names commit s) (kept_part xid was.0.items was.0.way)) represents.skip
      ∙ items_left-kept_part (is_skipped g h commit) xid was.0.items was.0.way);
  within = tt;
}

-- ---- what holds in one phase holds of the line

pub follows_outside : (g : Setting) (v : session_type.Session) (h : State) (next : Next) (b : ℕ → ℕ → Next) (c : ℕ → Next) (result : Result Step Refused) → h.phase ≡ Outside → AnswersMessage g v h next result → AnswersMessage g v h (at h.phase next b c) result
follows_outside g v h next b c result e follows = let P : Next → Type 0 = λ n. AnswersMessage g v h n result in subst P (sym (ap (λ p. at p next b c) e)) follows

pub follows_block : (g : Setting) (v : session_type.Session) (h : State) (xid : ℕ) (a : Next) (b : ℕ → ℕ → Next) (next : ℕ → Next) (result : Result Step Refused) → h.phase ≡ Block xid → AnswersMessage g v h (next xid) result → AnswersMessage g v h (at h.phase a b next) result
follows_block g v h xid a b next result e follows = let P : Next → Type 0 = λ n. AnswersMessage g v h n result in subst P (sym (ap (λ p. at p a b next) e)) follows

pub follows_same : (g : Setting) (v : session_type.Session) (h : State) (next other : Next) (result : Result Step Refused) → other ≡ next → AnswersMessage g v h next result → AnswersMessage g v h other result
follows_same g v h next other result e follows = let P : Next → Type 0 = λ n. AnswersMessage g v h n result in subst P (sym e) follows

-- a message without effect
pub stays : (g : Setting) (v : session_type.Session) (h : State) (next : Next) → SessionRepresents g v h → next ≡ Ok h → AdmitsMessage g v h next steps.Nothing
stays g v h next represents e = record { state = h; told = NoEvent; stepped = e; represents = represents; tells = record { transactions = refl; position = refl; past = refl }; says = refl; within = tt }

-- what is the same in each phase
pub at_same : (phase : Phase) (next : Next) → at phase next (λ _ _. next) (λ _. next) ≡ next
at_same Outside next = refl
at_same (Begun xid final) next = refl
at_same (Block xid) next = refl
