-- The ways in which transactions go alter nothing of what is committed, nor of what the publisher is told.
use Rattle.std.proofs.Common.{◌≡◌, ◌≢◌, ℕ, suc, Bool, true, false, if◌then◌else◌, List, [], ◌∷◌, ◌++◌, length, Option, Some, None, refl, sym, ap, subst, ◌∙◌, arith, inl, inr}
use Rattle.std.specs.Prelude.{map, max, option_map, is_some, not, ◌&&◌, nat_lt, nat_le, ◌==◌, Result, Ok, Err}
use Rattle.std.proofs.lemmas.Bool.{le-ltb}
use Rattle.std.proofs.lemmas.List.{map-append}
use Rattle.std.specs.FinMap as finite
use Rattle.model.specs.Definition.{Definition}
use Rattle.model.specs.declared.change.Change as change_type
use Rattle.model.specs.declared.item.Item.{Item}
use Rattle.model.specs.declared.item.Item.TheVariants.{Change, Touch, BackTo}
use Rattle.model.specs.declared.item.CommitInfo.{CommitInfo}
use Rattle.messages.proofs.Payloads.{one_message-law}
use Rattle.messages.specs.declared.message.Message.{Message}
use Rattle.messages.specs.declared.message.Message.TheVariants as messages
use Rattle.messages.specs.declared.message.Commit.{Commit}
use Rattle.messages.specs.declared.message.StreamAbort.{StreamAbort}
use Rattle.messages.specs.declared.message.StreamStart.{StreamStart}
use Rattle.messages.specs.Messages.{Spelled}
use Rattle.relcache.specs.declared.fault.RelFault.{RelFault}
use Rattle.relcache.specs.Published.{Relations}
use Rattle.frames.specs.declared.item.CopyItem.{CopyItem}
use Rattle.frames.specs.declared.item.CopyItem.TheVariants.{Wal, Keepalive, Done}
use Rattle.session.specs.declared.phase.Phase.{Phase}
use Rattle.session.specs.declared.phase.Phase.TheVariants.{Outside, Begun, Block}
use Rattle.session.specs.Sized.{SizedItems}
use Rattle.session.specs.State.{Way, Direct, Worker, Spooled, Open, OpenTransactions, Committed, State, Setting, in_block, worker_count}
use Rattle.session.specs.Table.{skip_until, skip_set, names, final_items, changes_begun, room_fault, new_open, opens, next_way, goes_on, streams, gives, has_room, is_open, touches, changes, closes, commits as commits_line, commits_begun, aborts_open, aborts, subtransaction_named, step}
use Rattle.session.proofs.Finals.{whole_final, set_by, set_spools, unset_behind}
use Rattle.run.specs.Commits.{entry_of_commit, commits}
use Rattle.run.specs.Progress.{Update, Progress, Handles, Leads, start_progress, due_updates, commits_from}
use Rattle.world.specs.ListingLemmas.{xid_cases, got_same, got_other, gone_other, gone_same}
use Rattle.session.proofs.Stepped.{was_fault_free, was_open, was_so, was_not_so, went_to, ok_is}
use Rattle.run_laws.proofs.Telling.{same_open, not_there}

-- ---- transactions that differ in their ways alone

-- it goes directly
abbrev is_direct : Way → Bool
is_direct Direct = true
is_direct Worker = false
is_direct Spooled = false

-- whether an open transaction goes directly, and its items
abbrev kind_of : Open → Bool × SizedItems
kind_of o = (is_direct o.way, o.items)

-- that of one, if it is open
abbrev items_of : Option Open → Option (Bool × SizedItems)
items_of found = option_map kind_of found

-- The same transactions are open, with the same items, and the same go directly.
abbrev pub SameItems : OpenTransactions → OpenTransactions → Type 0
SameItems m n = (xid : ℕ) → items_of (finite.get n xid) ≡ items_of (finite.get m xid)

-- None has a worker.
abbrev pub NoneWorks : OpenTransactions → Type 0
NoneWorks n = (xid : ℕ) (o : Open) → finite.get n xid ≡ Some o → o.way ≢ Worker

items_is : (a b : Bool × SizedItems) → Some a ≡ Some b → a ≡ b
items_is a b e = cc

no_items : (a : Bool × SizedItems) → None ≡ Some a → ⊥
no_items a e = cc

module _ (m n : OpenTransactions) (same : SameItems m n) (xid : ℕ) where
  put_items : (o p : Open) → kind_of p ≡ kind_of o → SameItems (finite.insert m xid o) (finite.insert n xid p)
  put_items o p e other =
      elim (xid_cases other xid) [
        | inl is ↦
            ap (λ x. items_of (finite.get (finite.insert n xid p) x)) is ∙ ap items_of (got_same n xid p) ∙ ap Some e
            ∙ sym (ap (λ x. items_of (finite.get (finite.insert m xid o) x)) is ∙ ap items_of (got_same m xid o))
        | inr differs ↦
            ap items_of (got_other n xid p other differs) ∙ same other ∙ sym (ap items_of (got_other m xid o other differs))
      ]

  gone_items : SameItems (finite.remove m xid) (finite.remove n xid)
  gone_items other =
      elim (xid_cases other xid) [
        | inl is ↦
            ap (λ x. items_of (finite.get (finite.remove n xid) x)) is ∙ ap items_of (gone_same n xid)
            ∙ sym (ap (λ x. items_of (finite.get (finite.remove m xid) x)) is ∙ ap items_of (gone_same m xid))
        | inr differs ↦
            ap items_of (gone_other n xid other differs) ∙ same other ∙ sym (ap items_of (gone_other m xid other differs))
      ]

  same_found : (o p : Open) → finite.get m xid ≡ Some o → finite.get n xid ≡ Some p → kind_of p ≡ kind_of o
  same_found o p at there = items_is (kind_of p) (kind_of o) (sym (ap items_of there) ∙ same xid ∙ ap items_of at)

  found_in_one : (o : Open) → finite.get m xid ≡ None → finite.get n xid ≡ Some o → ⊥
  found_in_one o at there = no_items (kind_of o) (sym (ap items_of at) ∙ sym (same xid) ∙ ap items_of there)

  found_in_other : (o : Open) → finite.get m xid ≡ Some o → finite.get n xid ≡ None → ⊥
  found_in_other o at there = no_items (kind_of o) (sym (ap items_of there) ∙ same xid ∙ ap items_of at)

put_ways : (n : OpenTransactions) (xid : ℕ) (p : Open) → NoneWorks n → p.way ≢ Worker → NoneWorks (finite.insert n xid p)
put_ways n xid p none not other q at works =
    elim (xid_cases other xid) [
      | inl is ↦
          not (ap (λ (r : Open). r.way) (same_open p q (sym (got_same n xid p) ∙ ap (finite.get (finite.insert n xid p)) (sym is) ∙ at)) ∙ works)
      | inr differs ↦ none other q (sym (got_other n xid p other differs) ∙ at) works
    ]

gone_ways : (n : OpenTransactions) (xid : ℕ) → NoneWorks n → NoneWorks (finite.remove n xid)
gone_ways n xid none other q at works =
    elim (xid_cases other xid) [
      | inl is ↦ not_there q (sym (gone_same n xid) ∙ ap (finite.get (finite.remove n xid)) (sym is) ∙ at)
      | inr differs ↦ none other q (sym (gone_other n xid other differs) ∙ at) works
    ]

-- a commit, as if it had gone directly
abbrev pub without_way : Committed → Committed
without_way c = record c { way = Direct }

-- Two states differ in the ways of their transactions alone; where there are no workers, none of the second has one,
-- and while a skip is set, none of either.
pub record Alike (h : Setting) (s t : State) : Type 0 where
  pub phase : t.phase ≡ s.phase
  pub relations : t.relations ≡ s.relations
  pub position : t.position ≡ s.position
  pub items : SameItems s.transactions t.transactions
  pub past : map without_way t.past ≡ map without_way s.past
  pub ways : h.workers ≡ 0 → NoneWorks t.transactions
  pub unset : is_some (skip_set h s) ≡ true → NoneWorks s.transactions × NoneWorks t.transactions

alike_at : (h : Setting) (a b s t : State) → Alike h a b → a ≡ s → b ≡ t → Alike h s t
alike_at h a b s t alike e f = subst (λ u. Alike h u t) e (subst (λ u. Alike h a u) f alike)

-- ---- the skip

-- it is set in both, or in neither
same_skip : (skip : ℕ) (past other : List Committed) → map without_way other ≡ map without_way past
    → skip_until skip other ≡ skip_until skip past
same_skip skip [] [] e = refl
same_skip skip [] (d ∷ other) e = cc
same_skip skip (c ∷ past) [] e = cc
same_skip skip (c ∷ past) (d ∷ other) e = refl

-- the same is final of both
same_final : (skipped : Bool) (o q : Open) → kind_of q ≡ kind_of o
    → (skipped ≡ true → (o.way ≢ Worker) × (q.way ≢ Worker))
    → final_items skipped q.way q.items ≡ final_items skipped o.way o.items
same_final false o q same never = whole_final q.way q.items ∙ ap (λ (k : Bool × SizedItems). k.1) same ∙ sym (whole_final o.way o.items)
same_final true o q same never = by_ways o.way q.way (ap (λ (k : Bool × SizedItems). k.0) same) (never refl).0 (never refl).1
  where
    by_ways : (way other : Way) → is_direct other ≡ is_direct way → way ≢ Worker → other ≢ Worker
        → final_items true other q.items ≡ final_items true way o.items
    by_ways Direct Direct e here there = ap (λ (k : Bool × SizedItems). k.1) same
    by_ways Direct Worker e here there = cc
    by_ways Direct Spooled e here there = cc
    by_ways Worker other e here there = absurd (here refl)
    by_ways Spooled Direct e here there = cc
    by_ways Spooled Worker e here there = absurd (there refl)
    by_ways Spooled Spooled e here there = refl

-- ---- each cell of the table

-- a state of these parts
abbrev state_of : Phase → Relations → ℕ → OpenTransactions → List Committed → State
state_of p relations position m past = record { phase = p; transactions = m; relations = relations; position = position; past = past }

direct_not_worker : Direct ≢ Worker
direct_not_worker = λ e. cc

no_worker : (set b : Bool) → b ≡ false → (if not set && b then Worker else Spooled) ≢ Worker
no_worker set true e = cc
no_worker true false e = λ works. cc
no_worker false false e = λ works. cc

module _ (catalog : List Definition) (some none some_bytes bytes skip : ℕ) (relations : Relations) (position : ℕ) (m n : OpenTransactions) (past other_past : List Committed) (same : SameItems m n) (was : map without_way other_past ≡ map without_way past) (ways : none ≡ 0 → NoneWorks n) (unset : is_some (skip_until skip past) ≡ true → NoneWorks m × NoneWorks n) where
  abbrev g : Setting
  g = record { workers = some; spool = some_bytes; skip = skip; catalog = catalog }

  abbrev h : Setting
  h = record { workers = none; spool = bytes; skip = skip; catalog = catalog }

  abbrev one : Phase → Relations → State
  one p r = state_of p r position m past

  abbrev other : Phase → Relations → State
  other p r = state_of p r position n other_past

  stays : (p : Phase) (r : Relations) → Alike h (one p r) (other p r)
  stays p r = record { phase = refl; relations = refl; position = refl; items = same; past = was; ways = ways; unset = unset }

  stays_at : (p : Phase) (r : Relations) (s t : State) → went_to (one p r) ≡ Ok s → went_to (other p r) ≡ Ok t → Alike h s t
  stays_at p r s t e f = alike_at h _ _ s t (stays p r) (ok_is _ s e) (ok_is _ t f)

  -- the skip is set
  abbrev IsSet : Type 0
  IsSet = is_some (skip_until skip past) ≡ true

  same_set : skip_until skip other_past ≡ skip_until skip past
  same_set = same_skip skip past other_past was

  puts : (p : Phase) (r : Relations) (xid : ℕ) (o q : Open) → kind_of q ≡ kind_of o → (none ≡ 0 → q.way ≢ Worker)
      → (IsSet → (o.way ≢ Worker) × (q.way ≢ Worker))
      → Alike h (record (one p r) { transactions = finite.insert m xid o }) (record (other p r) { transactions = finite.insert n xid q })
  puts p r xid o q e not never = record {
    phase = refl;
    relations = refl;
    position = refl;
    items = put_items m n same xid o q e;
    past = was;
    ways = λ zero. put_ways n xid q (ways zero) (not zero);
    unset = λ set. (put_ways m xid o (unset set).0 (never set).0, put_ways n xid q (unset set).1 (never set).1);
  }

  opens_in : (p q : Phase) (xid : ℕ) (way other_way : Way) (s t : State) → is_direct other_way ≡ is_direct way
      → (none ≡ 0 → other_way ≢ Worker) → (IsSet → (way ≢ Worker) × (other_way ≢ Worker))
      → opens (one p relations) xid way q ≡ Ok s → opens (other p relations) xid other_way q ≡ Ok t → Alike h s t
  opens_in p q xid way other_way s t kind not never e f =
      let first = was_fault_free (room_fault m xid) _ s e in
      let second = was_fault_free (room_fault n xid) _ t f in
      alike_at h _ _ s t (puts q relations xid (new_open way) (new_open other_way) (ap (λ b. (b, [])) kind) not never) first.1 second.1

  gives_in : (p : Phase) (r : Relations) (xid : ℕ) (item : Item) (size : ℕ) (o q : Open)
      → finite.get m xid ≡ Some o → finite.get n xid ≡ Some q
      → Alike h (gives (one p r) xid item size o) (gives (other p r) xid item size q)
  gives_in p r xid item size o q at there =
      puts p r xid (record o { items = o.items ++ (item, size) ∷ [] }) (record q { items = q.items ++ (item, size) ∷ [] })
      (ap (λ (k : Bool × SizedItems). (k.0, k.1 ++ (item, size) ∷ [])) (same_found m n same xid o q at there))
      (λ zero. ways zero xid q there) (λ set. ((unset set).0 xid o at, (unset set).1 xid q there))

  touches_in : (p : Phase) (r : Relations) (xid sub size : ℕ) (s t : State)
      → touches g (one p r) xid sub size ≡ Ok s → touches h (other p r) xid sub size ≡ Ok t → Alike h s t
  touches_in p r xid sub size s t e f =
      let first = was_open (finite.get m xid) _ s e in
      let second = was_open (finite.get n xid) _ t f in
      alike_at h _ _ s t (gives_in p r xid (Touch sub) size first.0 second.0 first.1 second.1)
      (ok_is _ s (was_so (has_room g m size first.0.way) _ _ s first.2)) (ok_is _ t (was_so (has_room h n size second.0.way) _ _ t second.2))

  changes_in : (p : Phase) (xid sub size : ℕ) (planned : Result change_type.Change RelFault) (s t : State)
      → changes g (one p relations) xid sub size planned ≡ Ok s → changes h (other p relations) xid sub size planned ≡ Ok t → Alike h s t
  changes_in p xid sub size (Err fault) s t e f =
      let first = was_open (finite.get m xid) _ s e in
      let is = was_so (has_room g m size first.0.way) _ _ s first.2 in cc
  changes_in p xid sub size (Ok c) s t e f =
      let first = was_open (finite.get m xid) _ s e in
      let second = was_open (finite.get n xid) _ t f in
      alike_at h _ _ s t (gives_in p relations xid (Change sub c) size first.0 second.0 first.1 second.1)
      (ok_is _ s (was_so (has_room g m size first.0.way) _ _ s first.2)) (ok_is _ t (was_so (has_room h n size second.0.way) _ _ t second.2))

  -- a change of the transaction that was begun, which is passed over if that is skipped
  begun_in : (p : Phase) (xid final size : ℕ) (planned : Result change_type.Change RelFault) (s t : State)
      → changes_begun g (one p relations) size xid final planned ≡ Ok s
      → changes_begun h (other p relations) size xid final planned ≡ Ok t → Alike h s t
  begun_in p xid final size planned s t e f =
      from (names final (skip_until skip past)) e
      (subst (λ set. (if names final set then went_to (other p relations) else changes h (other p relations) xid xid size planned) ≡ Ok t) same_set f)
    where
      from : (skipped : Bool)
          → (if skipped then went_to (one p relations) else changes g (one p relations) xid xid size planned) ≡ Ok s
          → (if skipped then went_to (other p relations) else changes h (other p relations) xid xid size planned) ≡ Ok t → Alike h s t
      from true is there = stays_at p relations s t is there
      from false is there = changes_in p xid xid size planned s t is there

  gone : (p : Phase) (xid : ℕ) → Alike h (record (one p relations) { transactions = finite.remove m xid }) (record (other p relations) { transactions = finite.remove n xid })
  gone p xid = record {
    phase = refl;
    relations = refl;
    position = refl;
    items = gone_items m n same xid;
    past = was;
    ways = λ zero. gone_ways n xid (ways zero);
    unset = λ set. (gone_ways m xid (unset set).0, gone_ways n xid (unset set).1);
  }

  -- what is committed
  abbrev final_of : ℕ → CommitInfo → List Committed → Open → Committed
  final_of xid info before o = record {
    xid = xid;
    way = o.way;
    items = final_items (names info.commit (skip_until skip before)) o.way o.items;
    info = info;
  }

  closes_in : (p : Phase) (xid : ℕ) (info : CommitInfo) (o q : Open) (s t : State)
      → finite.get m xid ≡ Some o → finite.get n xid ≡ Some q
      → closes g (one p relations) xid info o ≡ Ok s → closes h (other p relations) xid info q ≡ Ok t → Alike h s t
  closes_in p xid info o q s t at there e f =
      let final : final_items (names info.commit (skip_until skip other_past)) q.way q.items ≡ final_items (names info.commit (skip_until skip past)) o.way o.items =
      ap (λ set. final_items (names info.commit set) q.way q.items) same_set
      ∙ same_final (names info.commit (skip_until skip past)) o q (same_found m n same xid o q at there)
      (λ skipped. let set = set_by info.commit (skip_until skip past) skipped in ((unset set).0 xid o at, (unset set).1 xid q there)) in
      let first = was_not_so (nat_le info.end position) _ _ s e in
      let second = was_not_so (nat_le info.end position) _ _ t f in
      alike_at h _ _ s t (record {
        phase = refl;
        relations = refl;
        position = refl;
        items = gone_items m n same xid;
        past =
            map-append without_way other_past (final_of xid info other_past q ∷ [])
            ∙ ap (λ cs. cs ++ without_way (final_of xid info other_past q) ∷ []) was
            ∙ ap (λ is. map without_way past ++ (record { xid = xid; way = Direct; items = is; info = info }) ∷ []) final
            ∙ sym (map-append without_way past (final_of xid info past o ∷ []));
        ways = λ zero. gone_ways n xid (ways zero);
        unset = λ set. absurd (unset_behind skip past (final_of xid info past o) set);
      })
      (ok_is _ s first.1) (ok_is _ t second.1)

  commits_in : (p : Phase) (xid commit end : ℕ) (s t : State)
      → commits_line g (one p relations) xid commit end ≡ Ok s → commits_line h (other p relations) xid commit end ≡ Ok t → Alike h s t
  commits_in p xid commit end s t e f =
      let first = was_open (finite.get m xid) _ s e in
      let second = was_open (finite.get n xid) _ t f in
      closes_in p xid (record { commit = commit; end = end }) first.0 second.0 s t first.1 second.1 first.2 second.2

  commits_begun_in : (p : Phase) (xid final : ℕ) (c : Commit) (s t : State)
      → commits_begun g (one p relations) xid final c ≡ Ok s → commits_begun h (other p relations) xid final c ≡ Ok t → Alike h s t
  commits_begun_in p xid final c s t e f =
      commits_in p xid c.commit_lsn c.end_lsn s t (was_so (c.commit_lsn == final) _ _ s e) (was_so (c.commit_lsn == final) _ _ t f)

  goes_on_in : (p : Phase) (xid : ℕ) (s t : State) → goes_on (one p relations) xid ≡ Ok s → goes_on (other p relations) xid ≡ Ok t → Alike h s t
  goes_on_in p xid s t e f =
      stays_at (Block xid) relations s t (was_so (is_open (one p relations) xid) _ _ s e) (was_so (is_open (other p relations) xid) _ _ t f)

  streams_in : (p : Phase) (a : StreamStart) (s t : State) → streams g (one p relations) a ≡ Ok s → streams h (other p relations) a ≡ Ok t → Alike h s t
  streams_in p a s t e f = from a.is_first e f
    where
      not : none ≡ 0 → next_way h (other p relations) ≢ Worker
      not zero =
          no_worker (is_some (skip_until skip other_past)) (nat_lt (worker_count n) none)
          (ap (nat_lt (worker_count n)) zero ∙ le-ltb (worker_count n) 0 (omega arith))

      never : IsSet → (next_way g (one p relations) ≢ Worker) × (next_way h (other p relations) ≢ Worker)
      never set = (
        set_spools (is_some (skip_until skip past)) _ set,
        set_spools (is_some (skip_until skip other_past)) _ (ap is_some same_set ∙ set),
      )

      streamed : (b : Bool) → is_direct (if b then Worker else Spooled) ≡ false
      streamed true = refl
      streamed false = refl

      from : (b : Bool)
          → (if b then opens (one p relations) a.xid (next_way g (one p relations)) (Block a.xid) else goes_on (one p relations) a.xid) ≡ Ok s
          → (if b then opens (other p relations) a.xid (next_way h (other p relations)) (Block a.xid) else goes_on (other p relations) a.xid) ≡ Ok t
          → Alike h s t
      from true is there =
          opens_in p (Block a.xid) a.xid (next_way g (one p relations)) (next_way h (other p relations)) s t
          (streamed _ ∙ sym (streamed _)) not never is there
      from false is there = goes_on_in p a.xid s t is there

  aborts_in : (p : Phase) (a : StreamAbort) → Alike h (aborts (one p relations) a) (aborts (other p relations) a)
  aborts_in p a = from (finite.get m a.xid) (finite.get n a.xid) refl refl
    where
      -- either is rolled back or dropped
      dropped : (o q : Open) → finite.get m a.xid ≡ Some o → finite.get n a.xid ≡ Some q → (b : Bool)
          → Alike h (if b then record (one p relations) { transactions = finite.remove m a.xid } else gives (one p relations) a.xid (BackTo a.subtransaction) 0 o)
          (if b then record (other p relations) { transactions = finite.remove n a.xid } else gives (other p relations) a.xid (BackTo a.subtransaction) 0 q)
      dropped o q at there true = gone p a.xid
      dropped o q at there false = gives_in p relations a.xid (BackTo a.subtransaction) 0 o q at there

      both : (found there : Option Open) → finite.get m a.xid ≡ found → finite.get n a.xid ≡ there
          → Alike h (aborts_open (one p relations) a found) (aborts_open (other p relations) a there)
      both None None e f = stays p relations
      both (Some o) None e f = absurd (found_in_other m n same a.xid o e f)
      both None (Some q) e f = absurd (found_in_one m n same a.xid q e f)
      both (Some o) (Some q) e f = dropped o q e f (a.subtransaction == a.xid)

      from : (found there : Option Open) → finite.get m a.xid ≡ found → finite.get n a.xid ≡ there
          → Alike h (aborts (one p relations) a) (aborts (other p relations) a)
      from found there e f =
          subst (λ x. Alike h (aborts_open (one p relations) a x) (aborts (other p relations) a)) (sym e)
          (subst (λ y. Alike h (aborts_open (one p relations) a found) (aborts_open (other p relations) a y)) (sym f) (both found there e f))

  -- ---- the table

  in_phase : (p : Phase) (size : ℕ) (a : Message) (s t : State)
      → step g (one p relations) size a ≡ Ok s → step h (other p relations) size a ≡ Ok t → Alike h s t
  in_phase Outside size (messages.Begin a) s t e f = opens_in Outside (Begun a.xid a.final_lsn) a.xid Direct Direct s t refl (λ zero works. cc) (λ set. (direct_not_worker, direct_not_worker)) e f
  in_phase (Begun x final) size (messages.Commit a) s t e f = commits_begun_in (Begun x final) x final a s t e f
  in_phase (Begun x final) size (messages.Origin a) s t e f = stays_at (Begun x final) relations s t e f
  in_phase (Block x) size (messages.Origin a) s t e f = stays_at (Block x) relations s t e f
  in_phase p size (messages.Message a) s t e f = stays_at p relations s t e f
  in_phase (Block x) size (messages.Relation sub r) s t e f = touches_in (Block x) _ x (subtransaction_named sub x) size s t e f
  in_phase p size (messages.Relation sub r) s t e f = stays_at p _ s t e f
  in_phase (Block x) size (messages.TypeName a) s t e f = touches_in (Block x) relations x (subtransaction_named a.xid x) size s t e f
  in_phase p size (messages.TypeName a) s t e f = stays_at p relations s t e f
  in_phase (Begun x final) size (messages.Insert a) s t e f = begun_in (Begun x final) x final size _ s t e f
  in_phase (Block x) size (messages.Insert a) s t e f = changes_in (Block x) x (subtransaction_named a.xid x) size _ s t e f
  in_phase (Begun x final) size (messages.Update a) s t e f = begun_in (Begun x final) x final size _ s t e f
  in_phase (Block x) size (messages.Update a) s t e f = changes_in (Block x) x (subtransaction_named a.xid x) size _ s t e f
  in_phase (Begun x final) size (messages.Delete a) s t e f = begun_in (Begun x final) x final size _ s t e f
  in_phase (Block x) size (messages.Delete a) s t e f = changes_in (Block x) x (subtransaction_named a.xid x) size _ s t e f
  in_phase (Begun x final) size (messages.Truncate a) s t e f = begun_in (Begun x final) x final size _ s t e f
  in_phase (Block x) size (messages.Truncate a) s t e f = changes_in (Block x) x (subtransaction_named a.xid x) size _ s t e f
  in_phase Outside size (messages.StreamStart a) s t e f = streams_in Outside a s t e f
  in_phase (Block x) size messages.StreamStop s t e f = stays_at Outside relations s t e f
  in_phase Outside size (messages.StreamCommit a) s t e f = commits_in Outside a.xid a.commit_lsn a.end_lsn s t e f
  in_phase Outside size (messages.StreamAbort a) s t e f = alike_at h _ _ s t (aborts_in Outside a) (ok_is _ s e) (ok_is _ t f)
  in_phase p size a s t e f = cc

-- ---- a message

same_rest : (s t : State) → t.phase ≡ s.phase → t.relations ≡ s.relations → t.position ≡ s.position
    → t ≡ record t { phase = s.phase; relations = s.relations; position = s.position }
same_rest s t e f d =
    ap (λ (p : Phase). record t { phase = p }) e ∙ ap (λ (r : Relations). record t { phase = s.phase; relations = r }) f
    ∙ ap (λ (n : ℕ). record t { phase = s.phase; relations = s.relations; position = n }) d

pub stepped : (g h : Setting) (s t u v : State) (size : ℕ) (a : Message) → h.catalog ≡ g.catalog → h.skip ≡ g.skip → Alike h s t
    → step g s size a ≡ Ok u → step h t size a ≡ Ok v → Alike h u v
stepped g h s t u v size a catalog skip alike e f =
    let there : step h (record t { phase = s.phase; relations = s.relations; position = s.position }) size a ≡ Ok v =
    subst (λ (x : State). step h x size a ≡ Ok v) (same_rest s t alike.phase alike.relations alike.position) f in
    let known : step (record h { catalog = g.catalog }) (record t { phase = s.phase; relations = s.relations; position = s.position }) size a ≡ Ok v =
    subst (λ c. step (record h { catalog = c }) (record t { phase = s.phase; relations = s.relations; position = s.position }) size a ≡ Ok v) catalog there in
    let here : step (record h { catalog = g.catalog; skip = g.skip }) (record t { phase = s.phase; relations = s.relations; position = s.position }) size a ≡ Ok v =
    subst (λ n. step (record h { catalog = g.catalog; skip = n }) (record t { phase = s.phase; relations = s.relations; position = s.position }) size a ≡ Ok v) skip known in
    let is : Alike (record h { catalog = g.catalog; skip = g.skip }) u v =
    in_phase g.catalog g.workers h.workers g.spool h.spool g.skip s.relations s.position s.transactions t.transactions s.past t.past alike.items alike.past alike.ways
    (λ set. alike.unset (ap (λ n. is_some (skip_until n s.past)) skip ∙ set)) s.phase size a u v e here in
    let same : record h { catalog = g.catalog; skip = g.skip } ≡ h =
    ap (λ n. record h { catalog = g.catalog; skip = n }) (sym skip) ∙ ap (λ c. record h { catalog = c }) (sym catalog) in
    subst (λ k. Alike k u v) same is

-- ---- an item

-- Two progresses differ in the ways of their transactions alone.
pub record AreAlike (h : Setting) (p q : Progress) : Type 0 where
  pub state : Alike h p.state q.state
  pub seen : q.seen ≡ p.seen
  pub updates : q.updates ≡ p.updates

length_map : (past : List Committed) → length (map without_way past) ≡ length past
length_map [] = refl
length_map (c ∷ past) = ap suc (length_map past)

same_length : (past other : List Committed) → map without_way other ≡ map without_way past → length other ≡ length past
same_length past other e = sym (length_map other) ∙ ap length e ∙ length_map past

same_commits : (h : Setting) (s t u v : State) → Alike h s t → Alike h u v → commits_from t v ≡ commits_from s u
same_commits h s t u v before after =
    ap (λ n. nat_lt n (length v.past)) (same_length s.past t.past before.past) ∙ ap (nat_lt (length s.past)) (same_length u.past v.past after.past)

same_due : (b : Bool) (s t : State) (seen other : ℕ) → t.position ≡ s.position → other ≡ seen
    → due_updates b t other ≡ due_updates b s seen
same_due true s t seen other e f =
    ap (λ (n : ℕ). (record { written = max n t.position; applied = t.position }) ∷ []) f
    ∙ ap (λ (n : ℕ). (record { written = max seen n; applied = n }) ∷ []) e
same_due false s t seen other e f = refl

more_updates : (b c : Bool) (s t : State) (seen other : ℕ) (updates before : List Update) → c ≡ b
    → t.position ≡ s.position → other ≡ seen → before ≡ updates
    → before ++ due_updates c t other ≡ updates ++ due_updates b s seen
more_updates b c s t seen other updates before same e f u =
    ap (λ us. us ++ due_updates c t other) u ∙ ap (λ (d : Bool). updates ++ due_updates d t other) same
    ∙ ap (λ us. updates ++ us) (same_due b s t seen other e f)

pub handled : (g h : Setting) (p q u v : Progress) (item : CopyItem) → h.catalog ≡ g.catalog → h.skip ≡ g.skip → AreAlike h p q
    → Handles g p item u → Handles h q item v → AreAlike h u v
handled g h p q u v (Wal first last payload) catalog skip are is there =
    let message : there.0 ≡ is.0 =
    one_message-law payload (in_block p.state.phase) there.0 is.0
    (subst (λ (x : Phase). Spelled payload (in_block x) there.0) are.state.phase there.1.spelled) is.1.spelled in
    let state : Alike h u.state v.state =
    stepped g h p.state q.state u.state v.state (length payload) is.0 catalog skip are.state is.1.stepped
    (subst (λ (a : Message). step h q.state (length payload) a ≡ Ok v.state) message there.1.stepped) in
    let seen : v.seen ≡ u.seen = there.2 ∙ ap (λ (n : ℕ). max (max n first) last) are.seen ∙ sym is.2 in
    record {
      state = state;
      seen = seen;
      updates =
          there.3
          ∙ more_updates (commits_from p.state u.state) (commits_from q.state v.state) u.state v.state u.seen v.seen p.updates q.updates
          (same_commits h p.state q.state u.state v.state are.state state) state.position seen are.updates
          ∙ sym is.3;
    }
handled g h p q u v (Keepalive last reply) catalog skip are is there =
    let state : Alike h u.state v.state = alike_at h p.state q.state u.state v.state are.state (sym is.0) (sym there.0) in
    let seen : v.seen ≡ u.seen = there.1 ∙ ap (λ (n : ℕ). max n last) are.seen ∙ sym is.1 in
    record {
      state = state;
      seen = seen;
      updates = there.2 ∙ more_updates reply reply u.state v.state u.seen v.seen p.updates q.updates refl state.position seen are.updates ∙ sym is.2;
    }
handled g h p q u v Done catalog skip are is there =
    subst (λ (r : Progress). AreAlike h r v) (sym is) (subst (λ (r : Progress). AreAlike h p r) (sym there) are)

-- ---- items

pub led : (g h : Setting) (p q u v : Progress) (items : List CopyItem) → h.catalog ≡ g.catalog → h.skip ≡ g.skip → AreAlike h p q
    → Leads g p items u → Leads h q items v → AreAlike h u v
led g h p q u v [] catalog skip are is there =
    subst (λ (r : Progress). AreAlike h r v) is (subst (λ (r : Progress). AreAlike h p r) there are)
led g h p q u v (item ∷ items) catalog skip are is there =
    led g h is.0 there.0 u v items catalog skip (handled g h p q is.0 there.0 item catalog skip are is.1 there.1) is.2 there.2

pub start_alike : (h : Setting) → AreAlike h start_progress start_progress
start_alike h = record {
  state = record {
    phase = refl;
    relations = refl;
    position = refl;
    items = λ xid. refl;
    past = refl;
    ways = λ zero xid o at works. not_there o (sym (finite.get-empty _ xid) ∙ at);
    unset = λ set. (λ xid o at works. not_there o (sym (finite.get-empty _ xid) ∙ at), λ xid o at works. not_there o (sym (finite.get-empty _ xid) ∙ at));
  };
  seen = refl;
  updates = refl;
}

without_ways : (past : List Committed) → map entry_of_commit past ≡ map entry_of_commit (map without_way past)
without_ways [] = refl
without_ways (c ∷ past) = ap (λ es. entry_of_commit c ∷ es) (without_ways past)

pub same_transactions : (h : Setting) (s t : State) → Alike h s t → commits t ≡ commits s
same_transactions h s t alike = without_ways t.past ∙ ap (map entry_of_commit) alike.past ∙ sym (without_ways s.past)
