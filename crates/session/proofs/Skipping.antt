-- Of the first transaction that commits nothing is final if its commit LSN is the skip, of any other all.
use Rattle.std.proofs.Common.{◌≡◌, ◌≢◌, ℕ, Bool, true, false, if◌then◌else◌, List, [], ◌∷◌, ◌++◌, length, Option, Some, None, refl, sym, ap, subst, ◌∙◌, ⊎_elim, ◌⊎◌, inl, inr}
use Rattle.std.specs.Prelude.{Result, Ok, is_some, not, ◌==◌, nat_le}
use Rattle.std.specs.Ordering.{nat_cmp, eq_by_cmp}
use Rattle.std.specs.Cmp.{nat_cmp_total}
use Rattle.std.specs.FinMap as map
use Rattle.std.proofs.lemmas.Bool.{cases_Bool, eqb-true, eqb-false, eq-eqb, ne_eqb}
use Rattle.model.specs.declared.change.Change as change_type
use Rattle.model.specs.declared.item.Item.{Item}
use Rattle.model.specs.declared.item.Item.TheVariants.{Change, Touch, BackTo}
use Rattle.model.specs.declared.item.CommitInfo.{CommitInfo}
use Rattle.messages.specs.declared.message.Message.{Message}
use Rattle.messages.specs.declared.message.Message.TheVariants as messages
use Rattle.messages.specs.declared.message.StreamAbort.{StreamAbort}
use Rattle.messages.specs.declared.message.StreamStart.{StreamStart}
use Rattle.messages.specs.declared.message.Commit.{Commit}
use Rattle.relcache.specs.declared.fault.RelFault.{RelFault}
use Rattle.relcache.specs.Published.{Relations}
use Rattle.session.specs.declared.phase.Phase.{Phase}
use Rattle.session.specs.declared.phase.Phase.TheVariants.{Outside, Begun, Block}
use Rattle.session.specs.Sized.{SizedItems}
use Rattle.session.specs.State.{Way, Direct, Worker, Spooled, Open, OpenTransactions, Committed, State, Setting, GoesAlone, begun_at, start}
use Rattle.session.specs.Table.{skip_until, skip_set, names, is_skipped, final_items, room_fault, new_open, opens, next_way, goes_on, is_open, streams, gives, has_room, touches, changes, closes, commits, commits_begun, aborts_open, aborts, subtransaction_named, step}
use Rattle.session.specs.Lawful.{Admits, Leads, IsLawful, IsSkipped, IsFinal}
use Rattle.session.proofs.Stepped.{was_fault_free, was_open, was_so, was_true, was_not_so, was_planned, went_to, ok_is, last_is, not_longer}
use Rattle.session.proofs.Steps.{final, alone_insert, alone_remove, alone_at}
use Rattle.session.proofs.Totals.{same_key, get-insert_same}
use Rattle.session.proofs.Finals.{whole_final, set_by, set_spools, unset_behind}

-- No transaction but the begun one goes directly. While the skip is set none has a worker, and the begun one, if it is
-- skipped, has no items.
record IsReady (g : Setting) (s : State) : Type 0 where
  alone : GoesAlone s.phase s.transactions
  no_worker : is_some (skip_set g s) ≡ true → (xid : ℕ) (o : Open) → map.get s.transactions xid ≡ Some o → o.way ≢ Worker
  no_items : (xid last : ℕ) (o : Open) → s.phase ≡ Begun xid last → is_skipped g s last ≡ true
      → map.get s.transactions xid ≡ Some o → o.items ≡ []

-- A step leaves such a state, and what it commits is final as it should be.
record GoesWell (g : Setting) (s t : State) : Type 0 where
  ready : IsReady g t
  finals : (c : Committed) → t.past ≡ s.past ++ c ∷ [] → IsFinal g s c

-- ---- what is skipped

is_named : (skip commit : ℕ) (b : Bool) → (skip == 0) ≡ b → names commit (if b then None else Some skip) ≡ true
    → (skip ≢ 0) × (commit ≡ skip)
is_named skip commit true e is = cc
is_named skip commit false e is = (eqb-false skip 0 e, sym (eqb-true skip commit is))

skipped_is : (g : Setting) (s : State) (c : Committed) → is_skipped g s c.info.commit ≡ true → IsSkipped g s c
skipped_is g s c is = by_past s.past refl is
  where
    by_past : (past : List Committed) → s.past ≡ past → names c.info.commit (skip_until g.skip past) ≡ true → IsSkipped g s c
    by_past [] first named =
        let both = is_named g.skip c.info.commit (g.skip == 0) refl named in
        record { given = both.0; first = first; named = both.1 }
    by_past (d ∷ past) first named = cc

is_skipped_by : (g : Setting) (s : State) (c : Committed) → IsSkipped g s c → is_skipped g s c.info.commit ≡ true
is_skipped_by g s c is =
    ap (λ past. names c.info.commit (skip_until g.skip past)) is.first
    ∙ ap (λ (b : Bool). names c.info.commit (if b then None else Some g.skip)) (ne_eqb g.skip 0 is.given)
    ∙ eq-eqb g.skip c.info.commit (sym is.named)

-- ---- one transaction among all

same_open : (o p : Open) → Some o ≡ Some p → o ≡ p
same_open o p e = cc

none_there : (o : Open) → None ≡ Some o → ⊥
none_there o e = cc

-- what is found once one was put in
put_in : (m : OpenTransactions) (xid : ℕ) (o : Open) (x : ℕ) (p : Open) → map.get (map.insert m xid o) x ≡ Some p
    → ((x ≡ xid) × (o ≡ p)) ⊎ (map.get m x ≡ Some p)
put_in m xid o x p at =
    ⊎_elim
    (λ (tie : eq_by_cmp nat_cmp x xid ≡ true).
    inl (same_key x xid tie, same_open o p (sym (map.get-insert nat_cmp_total m xid o x ∙ rw tie) ∙ at)))
    (λ (apart : eq_by_cmp nat_cmp x xid ≡ false).
    inr (sym (map.get-insert nat_cmp_total m xid o x ∙ rw apart) ∙ at))
    (cases_Bool (eq_by_cmp nat_cmp x xid))

-- what is found once one was taken out was there before
taken_out : (m : OpenTransactions) (xid x : ℕ) (p : Open) → map.get (map.remove m xid) x ≡ Some p → map.get m x ≡ Some p
taken_out m xid x p at =
    ⊎_elim
    (λ (tie : eq_by_cmp nat_cmp x xid ≡ true).
    absurd (none_there p (sym (map.get-remove nat_cmp_total m xid x ∙ rw tie) ∙ at)))
    (λ (apart : eq_by_cmp nat_cmp x xid ≡ false).
    sym (map.get-remove nat_cmp_total m xid x ∙ rw apart) ∙ at)
    (cases_Bool (eq_by_cmp nat_cmp x xid))

outside_begun : (xid last : ℕ) → Outside ≡ Begun xid last → ⊥
outside_begun xid last e = cc

block_not : (x xid last : ℕ) → Block x ≡ Begun xid last → ⊥
block_not x xid last e = cc

no_xid : (x : ℕ) → None ≡ Some x → ⊥
no_xid x e = cc

direct_not_worker : Direct ≢ Worker
direct_not_worker = λ e. cc

-- ---- steps that commit nothing

-- nothing is committed where the commits are as they were
goes_same : (g : Setting) (s t : State) → IsReady g t → t.past ≡ s.past → GoesWell g s t
goes_same g s t ready same =
    record { ready = ready; finals = λ c more. absurd (not_longer s.past c (sym more ∙ same)) }

goes_to : (g : Setting) (s u t : State) → u ≡ t → GoesWell g s u → GoesWell g s t
goes_to g s u t is goes = subst (GoesWell g s) is goes

-- in this phase
abbrev in_phase : State → Phase → State
in_phase s p = record s { phase = p }

stays : (g : Setting) (s t : State) (relations : Relations) → IsReady g s → went_to (record s { relations = relations }) ≡ went_to t
    → GoesWell g s t
stays g s t relations ready e =
    goes_to g s (record s { relations = relations }) t (ok_is (record s { relations = relations }) t e)
    (goes_same g s (record s { relations = relations })
    (record { alone = ready.alone; no_worker = ready.no_worker; no_items = ready.no_items }) refl)

-- one more is put in, or in another's place, in a phase in which none is begun that is skipped
put_ready : (g : Setting) (s : State) (p : Phase) (xid : ℕ) (o : Open) → IsReady g s → GoesAlone p (map.insert s.transactions xid o)
    → (is_some (skip_set g s) ≡ true → o.way ≢ Worker)
    → ((x last : ℕ) → p ≡ Begun x last → is_skipped g s last ≡ true → (q : Open) → map.get (map.insert s.transactions xid o) x ≡ Some q → q.items ≡ [])
    → IsReady g (record s { phase = p; transactions = map.insert s.transactions xid o })
put_ready g s p xid o ready alone not none = record {
  alone = alone;
  no_worker = λ set x q at works. elim (put_in s.transactions xid o x q at) [
    | inl is ↦ not set (ap (λ (r : Open). r.way) is.1 ∙ works)
    | inr there ↦ ready.no_worker set x q there works
  ];
  no_items = λ x last q begun skipped at. none x last begun skipped q at;
}

begins : (g : Setting) (s : State) (xid last : ℕ) (t : State) → IsReady g (in_phase s Outside)
    → opens (in_phase s Outside) xid Direct (Begun xid last) ≡ Ok t → GoesWell g (in_phase s Outside) t
begins g s xid last t ready e =
    let was = was_fault_free (room_fault s.transactions xid) _ t e in
    goes_to g (in_phase s Outside) _ t was.1
    (goes_same g (in_phase s Outside) _
    (put_ready g (in_phase s Outside) (Begun xid last) xid (new_open Direct) ready
    (alone_insert Outside (Begun xid last) s.transactions xid (new_open Direct) ready.alone (λ x begun. absurd (no_xid x begun)) (λ direct. refl))
    (λ set. direct_not_worker)
    (λ x other begun skipped q at.
    ap (λ (r : Open). r.items)
    (sym (same_open (new_open Direct) q (sym (get-insert_same s.transactions xid (new_open Direct)) ∙ ap (map.get (map.insert s.transactions xid (new_open Direct))) (xid_of x other begun) ∙ at)))))
    refl)
  where
    xid_of : (x other : ℕ) → Begun xid last ≡ Begun x other → xid ≡ x
    xid_of x other begun = cc

not_direct : (b : Bool) → (if b then Worker else Spooled) ≢ Direct
not_direct true = λ e. cc
not_direct false = λ e. cc

begins_block : (g : Setting) (s : State) (xid : ℕ) (t : State) → IsReady g (in_phase s Outside)
    → opens (in_phase s Outside) xid (next_way g (in_phase s Outside)) (Block xid) ≡ Ok t → GoesWell g (in_phase s Outside) t
begins_block g s xid t ready e =
    let way = next_way g (in_phase s Outside) in
    let was = was_fault_free (room_fault s.transactions xid) _ t e in
    goes_to g (in_phase s Outside) _ t was.1
    (goes_same g (in_phase s Outside) _
    (put_ready g (in_phase s Outside) (Block xid) xid (new_open way) ready
    (alone_insert Outside (Block xid) s.transactions xid (new_open way) ready.alone (λ x begun. absurd (no_xid x begun)) (λ direct. absurd (not_direct _ direct)))
    (λ set. set_spools (is_some (skip_set g s)) _ set)
    (λ x other begun. absurd (block_not xid x other begun))) refl)

goes_on_in : (g : Setting) (s : State) (xid : ℕ) (t : State) → IsReady g (in_phase s Outside)
    → goes_on (in_phase s Outside) xid ≡ Ok t → GoesWell g (in_phase s Outside) t
goes_on_in g s xid t ready e =
    goes_to g (in_phase s Outside) (in_phase s (Block xid)) t (ok_is _ t (was_so (is_open (in_phase s Outside) xid) _ _ t e))
    (goes_same g (in_phase s Outside) (in_phase s (Block xid)) (record {
      alone = alone_at Outside (Block xid) s.transactions ready.alone refl;
      no_worker = ready.no_worker;
      no_items = λ x last o begun. absurd (block_not xid x last begun);
    }) refl)

streams_in : (g : Setting) (s : State) (m : StreamStart) (t : State) → IsReady g (in_phase s Outside)
    → streams g (in_phase s Outside) m ≡ Ok t → GoesWell g (in_phase s Outside) t
streams_in g s m t ready e = from m.is_first e
  where
    from : (b : Bool)
        → (if b then opens (in_phase s Outside) m.xid (next_way g (in_phase s Outside)) (Block m.xid) else goes_on (in_phase s Outside) m.xid) ≡ Ok t
        → GoesWell g (in_phase s Outside) t
    from true is = begins_block g s m.xid t ready is
    from false is = goes_on_in g s m.xid t ready is

leaves : (g : Setting) (s : State) (xid : ℕ) → IsReady g (in_phase s (Block xid)) → GoesWell g (in_phase s (Block xid)) (in_phase s Outside)
leaves g s xid ready = goes_same g (in_phase s (Block xid)) (in_phase s Outside) (record {
  alone = alone_at (Block xid) Outside s.transactions ready.alone refl;
  no_worker = ready.no_worker;
  no_items = λ x last o begun. absurd (outside_begun x last begun);
}) refl

-- ---- items

-- none that is skipped was begun
abbrev NoneSkipped : Setting → State → Phase → Type 0
NoneSkipped g s p = (x last : ℕ) → p ≡ Begun x last → is_skipped g s last ≡ true → ⊥

gives_in : (g : Setting) (s : State) (p : Phase) (relations : Relations) (xid : ℕ) (item : Item) (size : ℕ) (o : Open)
    → IsReady g (in_phase s p) → map.get s.transactions xid ≡ Some o → NoneSkipped g s p
    → GoesWell g (in_phase s p) (gives (record (in_phase s p) { relations = relations }) xid item size o)
gives_in g s p relations xid item size o ready at none =
    let more : Open = record o { items = o.items ++ (item, size) ∷ [] } in
    let is = put_ready g (in_phase s p) p xid more ready
    (alone_insert p p s.transactions xid more ready.alone (λ x begun. begun) (λ direct. ready.alone xid o at direct))
    (λ set. ready.no_worker set xid o at) (λ x last begun skipped. absurd (none x last begun skipped)) in
    goes_same g (in_phase s p) _ (record { alone = is.alone; no_worker = is.no_worker; no_items = is.no_items }) refl

touches_block : (g : Setting) (s : State) (relations : Relations) (xid sub size : ℕ) (t : State)
    → IsReady g (in_phase s (Block xid)) → touches g (record (in_phase s (Block xid)) { relations = relations }) xid sub size ≡ Ok t
    → GoesWell g (in_phase s (Block xid)) t
touches_block g s relations xid sub size t ready e =
    let was = was_open (map.get s.transactions xid) _ t e in
    goes_to g (in_phase s (Block xid)) _ t (ok_is _ t (was_so (has_room g s.transactions size was.0.way) _ _ t was.2))
    (gives_in g s (Block xid) relations xid (Touch sub) size was.0 ready was.1 (λ x last begun. absurd (block_not xid x last begun)))

changes_in : (g : Setting) (s : State) (p : Phase) (xid sub size : ℕ) (planned : Result change_type.Change RelFault) (t : State)
    → IsReady g (in_phase s p) → NoneSkipped g s p → changes g (in_phase s p) xid sub size planned ≡ Ok t
    → GoesWell g (in_phase s p) t
changes_in g s p xid sub size planned t ready none e =
    let was = was_open (map.get s.transactions xid) _ t e in
    let is = was_planned planned _ t (was_so (has_room g s.transactions size was.0.way) _ _ t was.2) in
    goes_to g (in_phase s p) _ t is.1 (gives_in g s p s.relations xid (Change sub is.0) size was.0 ready was.1 none)

changes_block : (g : Setting) (s : State) (xid sub size : ℕ) (planned : Result change_type.Change RelFault) (t : State)
    → IsReady g (in_phase s (Block xid)) → changes g (in_phase s (Block xid)) xid sub size planned ≡ Ok t
    → GoesWell g (in_phase s (Block xid)) t
changes_block g s xid sub size planned t ready e =
    changes_in g s (Block xid) xid sub size planned t ready (λ x last begun. absurd (block_not xid x last begun)) e

-- a change of the one that was begun, which is passed over if that is skipped
passes_begun : (g : Setting) (s : State) (xid last size : ℕ) (planned : Result change_type.Change RelFault) (t : State) (skipped : Bool)
    → is_skipped g s last ≡ skipped → IsReady g (in_phase s (Begun xid last))
    → (if skipped then went_to (in_phase s (Begun xid last)) else changes g (in_phase s (Begun xid last)) xid xid size planned) ≡ Ok t
    → GoesWell g (in_phase s (Begun xid last)) t
passes_begun g s xid last size planned t true is ready e = stays g (in_phase s (Begun xid last)) t s.relations ready e
passes_begun g s xid last size planned t false is ready e =
    changes_in g s (Begun xid last) xid xid size planned t ready
    (λ x other begun skipped. apart (sym (ap (is_skipped g s) (last_of x other begun)) ∙ is) skipped) e
  where
    last_of : (x other : ℕ) → Begun xid last ≡ Begun x other → last ≡ other
    last_of x other begun = cc

    apart : {b : Bool} → b ≡ false → b ≡ true → ⊥
    apart e f = let none : false ≡ true = sym e ∙ f in cc

-- ---- commits

-- nothing is final of one that is skipped
none_final : (way : Way) (items : SizedItems) → (way ≡ Direct → items ≡ []) → way ≢ Worker → final_items true way items ≡ []
none_final Direct items empty not = empty refl
none_final Worker items empty not = absurd (not refl)
none_final Spooled items empty not = refl

closes_in : (g : Setting) (s : State) (p : Phase) (xid : ℕ) (info : CommitInfo) (o : Open) (t : State) → IsReady g (in_phase s p)
    → map.get s.transactions xid ≡ Some o → ((x : ℕ) → begun_at p ≡ Some x → x ≡ xid)
    → (is_skipped g s info.commit ≡ true → o.way ≡ Direct → o.items ≡ [])
    → closes g (in_phase s p) xid info o ≡ Ok t → GoesWell g (in_phase s p) t
closes_in g s p xid info o t ready at only empty e =
    let was = was_not_so (nat_le info.end s.position) _ _ t e in
    goes_to g (in_phase s p) _ t (ok_is _ t was.1) (record {
      ready = record {
        alone = alone_remove p s.transactions xid ready.alone only;
        no_worker = λ set. absurd (unset_behind g.skip s.past c set);
        no_items = λ x last q begun. absurd (outside_begun x last begun);
      };
      finals = λ other more. subst (IsFinal g (in_phase s p)) (last_is s.past c other more) is_final;
    })
  where
    c : Committed
    c = final g (in_phase s p) xid info o

    is_final : IsFinal g (in_phase s p) c
    is_final = record {
      transaction = o;
      present = at;
      skipped = λ is.
          let yes = is_skipped_by g (in_phase s p) c is in
          ap (λ b. final_items b o.way o.items) yes
          ∙ none_final o.way o.items (empty yes) (ready.no_worker (set_by info.commit (skip_set g s) yes) xid o at);
      whole = λ not.
          ⊎_elim
          (λ (yes : is_skipped g s info.commit ≡ true). absurd (not (skipped_is g (in_phase s p) c yes)))
          (λ (other : is_skipped g s info.commit ≡ false). ap (λ b. final_items b o.way o.items) other ∙ whole_final o.way o.items)
          (cases_Bool (is_skipped g s info.commit));
    }

commits_direct : (g : Setting) (s : State) (xid last : ℕ) (m : Commit) (t : State) → IsReady g (in_phase s (Begun xid last))
    → commits_begun g (in_phase s (Begun xid last)) xid last m ≡ Ok t → GoesWell g (in_phase s (Begun xid last)) t
commits_direct g s xid last m t ready e =
    let foretold = was_true (m.commit_lsn == last) _ _ t e in
    let was = was_open (map.get s.transactions xid) _ t foretold.1 in
    closes_in g s (Begun xid last) xid (record { commit = m.commit_lsn; end = m.end_lsn }) was.0 t ready was.1 (λ x begun. one x begun)
    (λ skipped direct. ready.no_items xid last was.0 refl (sym (ap (is_skipped g s) (eqb-true m.commit_lsn last foretold.0)) ∙ skipped) was.1) was.2
  where
    one : (x : ℕ) → Some xid ≡ Some x → x ≡ xid
    one x begun = cc

commits_streamed : (g : Setting) (s : State) (xid commit end : ℕ) (t : State) → IsReady g (in_phase s Outside)
    → commits g (in_phase s Outside) xid commit end ≡ Ok t → GoesWell g (in_phase s Outside) t
commits_streamed g s xid commit end t ready e =
    let was = was_open (map.get s.transactions xid) _ t e in
    closes_in g s Outside xid (record { commit = commit; end = end }) was.0 t ready was.1 (λ x begun. absurd (no_xid x begun))
    (λ skipped direct. absurd (no_xid xid (ready.alone xid was.0 was.1 direct))) was.2

-- ---- aborts

dropped : (g : Setting) (s : State) (xid : ℕ) → IsReady g (in_phase s Outside)
    → GoesWell g (in_phase s Outside) (record (in_phase s Outside) { transactions = map.remove s.transactions xid })
dropped g s xid ready = goes_same g (in_phase s Outside) _ (record {
  alone = alone_remove Outside s.transactions xid ready.alone (λ x begun. absurd (no_xid x begun));
  no_worker = λ set x o at. ready.no_worker set x o (taken_out s.transactions xid x o at);
  no_items = λ x last o begun. absurd (outside_begun x last begun);
}) refl

aborts_outside : (g : Setting) (s : State) (m : StreamAbort) → IsReady g (in_phase s Outside)
    → GoesWell g (in_phase s Outside) (aborts (in_phase s Outside) m)
aborts_outside g s m ready = from (map.get s.transactions m.xid) refl
  where
    whole : (o : Open) → map.get s.transactions m.xid ≡ Some o → (b : Bool)
        → GoesWell g (in_phase s Outside) (if b then record (in_phase s Outside) { transactions = map.remove s.transactions m.xid } else gives (in_phase s Outside) m.xid (BackTo m.subtransaction) 0 o)
    whole o at true = dropped g s m.xid ready
    whole o at false =
        gives_in g s Outside s.relations m.xid (BackTo m.subtransaction) 0 o ready at (λ x last begun. absurd (outside_begun x last begun))

    from : (found : Option Open) → map.get s.transactions m.xid ≡ found → GoesWell g (in_phase s Outside) (aborts (in_phase s Outside) m)
    from None e =
        subst (λ (found : Option Open). GoesWell g (in_phase s Outside) (aborts_open (in_phase s Outside) m found)) (sym e)
        (goes_same g (in_phase s Outside) (in_phase s Outside) ready refl)
    from (Some o) e =
        subst (λ (found : Option Open). GoesWell g (in_phase s Outside) (aborts_open (in_phase s Outside) m found)) (sym e)
        (whole o e (m.subtransaction == m.xid))

-- ---- the table

by_phase : (g : Setting) (s : State) (p : Phase) (t : State) (size : ℕ) (m : Message)
    → IsReady g (in_phase s p) → step g (in_phase s p) size m ≡ Ok t → GoesWell g (in_phase s p) t
by_phase g s Outside t size (messages.Begin m) ready e = begins g s m.xid m.final_lsn t ready e
by_phase g s (Begun x f) t size (messages.Commit m) ready e = commits_direct g s x f m t ready e
by_phase g s (Begun x f) t size (messages.Origin m) ready e = stays g (in_phase s (Begun x f)) t s.relations ready e
by_phase g s (Block x) t size (messages.Origin m) ready e = stays g (in_phase s (Block x)) t s.relations ready e
by_phase g s p t size (messages.Message m) ready e = stays g (in_phase s p) t s.relations ready e
by_phase g s (Block x) t size (messages.Relation sub r) ready e = touches_block g s _ x (subtransaction_named sub x) size t ready e
by_phase g s p t size (messages.Relation sub r) ready e = stays g (in_phase s p) t _ ready e
by_phase g s (Block x) t size (messages.TypeName m) ready e = touches_block g s s.relations x (subtransaction_named m.xid x) size t ready e
by_phase g s p t size (messages.TypeName m) ready e = stays g (in_phase s p) t s.relations ready e
by_phase g s (Begun x f) t size (messages.Insert m) ready e = passes_begun g s x f size _ t (is_skipped g s f) refl ready e
by_phase g s (Block x) t size (messages.Insert m) ready e = changes_block g s x (subtransaction_named m.xid x) size _ t ready e
by_phase g s (Begun x f) t size (messages.Update m) ready e = passes_begun g s x f size _ t (is_skipped g s f) refl ready e
by_phase g s (Block x) t size (messages.Update m) ready e = changes_block g s x (subtransaction_named m.xid x) size _ t ready e
by_phase g s (Begun x f) t size (messages.Delete m) ready e = passes_begun g s x f size _ t (is_skipped g s f) refl ready e
by_phase g s (Block x) t size (messages.Delete m) ready e = changes_block g s x (subtransaction_named m.xid x) size _ t ready e
by_phase g s (Begun x f) t size (messages.Truncate m) ready e = passes_begun g s x f size _ t (is_skipped g s f) refl ready e
by_phase g s (Block x) t size (messages.Truncate m) ready e = changes_block g s x (subtransaction_named m.xid x) size _ t ready e
by_phase g s Outside t size (messages.StreamStart m) ready e = streams_in g s m t ready e
by_phase g s (Block x) t size messages.StreamStop ready e = goes_to g (in_phase s (Block x)) (in_phase s Outside) t (ok_is _ t e) (leaves g s x ready)
by_phase g s Outside t size (messages.StreamCommit m) ready e = commits_streamed g s m.xid m.commit_lsn m.end_lsn t ready e
by_phase g s Outside t size (messages.StreamAbort m) ready e = goes_to g (in_phase s Outside) _ t (ok_is _ t e) (aborts_outside g s m ready)
by_phase g s p t size m ready e = cc

goes_well : (g : Setting) (s t : State) (size : ℕ) (m : Message) → IsReady g s → step g s size m ≡ Ok t → GoesWell g s t
goes_well g s t size m ready e = by_phase g s s.phase t size m ready e

-- ---- a stream

ready_start : (g : Setting) → IsReady g start
ready_start g = record {
  alone = λ x o at direct. absurd (none_there o (sym (map.get-empty nat_cmp x) ∙ at));
  no_worker = λ set x o at works. none_there o (sym (map.get-empty nat_cmp x) ∙ at);
  no_items = λ x last o begun. absurd (outside_begun x last begun);
}

ready_led : (g : Setting) (s : State) (payloads : List (List ℕ)) (t : State) → IsReady g s → Leads g s payloads t → IsReady g t
ready_led g s [] t ready is = subst (IsReady g) is ready
ready_led g s (payload ∷ payloads) t ready is =
    ready_led g is.1 payloads t (goes_well g s is.1 (length payload) is.0 ready is.2.stepped).ready is.3

pub final_by_law : (g : Setting) (payloads : List (List ℕ)) (s t : State) (payload : List ℕ) (m : Message) (c : Committed)
    → IsLawful g payloads s → Admits g s payload m t → t.past ≡ s.past ++ c ∷ [] → IsFinal g s c
final_by_law g payloads s t payload m c lawful admits more =
    (goes_well g s t (length payload) m (ready_led g start payloads s (ready_start g) lawful) admits.stepped).finals c more
