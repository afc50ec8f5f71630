-- What each line of the session table tells.
use Rattle.std.proofs.Common.{◌≡◌, ◌≢◌, ℕ, Bool, true, false, if◌then◌else◌, List, [], ◌∷◌, ◌++◌, Option, Some, None, refl, sym, ap, subst, ◌∙◌, inl, inr}
use Rattle.std.specs.Prelude.{map, Result, Ok, IsSomeAnd, nat_le, ◌==◌}
use Rattle.std.proofs.lemmas.Bool.{leb-false}
use Rattle.std.proofs.lemmas.List.{map-append}
use Rattle.std.specs.FinMap as finite
use Rattle.model.specs.declared.change.Change as change_type
use Rattle.model.specs.declared.item.Item.{Item}
use Rattle.model.specs.declared.item.Item.TheVariants.{Change, Touch, BackTo}
use Rattle.model.specs.declared.item.CommitInfo.{CommitInfo}
use Rattle.messages.specs.declared.message.Message.{Message}
use Rattle.messages.specs.declared.message.Message.TheVariants as messages
use Rattle.messages.specs.declared.message.StreamAbort.{StreamAbort}
use Rattle.messages.specs.declared.message.StreamStart.{StreamStart}
use Rattle.messages.specs.declared.message.Commit.{Commit}
use Rattle.relcache.specs.declared.fault.RelFault.{RelFault}
use Rattle.relcache.specs.Published.{Relations}
use Rattle.session.specs.declared.phase.Phase.{Phase}
use Rattle.session.specs.declared.phase.Phase.TheVariants.{Outside, Begun, Block}
use Rattle.session.specs.declared.fault.SessionFault.TheVariants.{AlreadyOpen, UnknownTransaction}
use Rattle.session.specs.Sized.{SizedItems, item_of}
use Rattle.session.specs.State.{Way, Direct, Worker, Spooled, Open, OpenTransactions, Committed, State, Setting, GoesAlone, begun_at, start}
use Rattle.session.specs.Table.{refuse, is_skipped, final_items, room_fault, new_open, opens, next_way, goes_on, streams, gives, has_room, touches, changes, closes, commits, commits_begun, aborts_open, aborts, subtransaction_named, step}
use Rattle.session.specs.StreamEvents.{NoEvent, TransactionOpens, ItemComes, TransactionCommits, TransactionAborts}
use Rattle.session.proofs.Finals.{are_final}
use Rattle.session.proofs.Stepped.{was_fault_free, was_open, was_so, was_not_so, was_planned, went_to, ok_is}
use Rattle.world.specs.ListingLemmas.{xid_cases, got_same, got_other, gone_other, gone_same}
use Rattle.run_laws.proofs.Begun.{IsSane, open_items, begun, if_direct, Moves, IsTold}

-- ---- opening

none_at : (m : OpenTransactions) (xid : ℕ) → room_fault m xid ≡ None → finite.get m xid ≡ None
none_at m xid e = from (finite.get m xid) refl
  where
    from : (found : Option Open) → finite.get m xid ≡ found → finite.get m xid ≡ None
    from None is = is
    from (Some o) is = let no : Some AlreadyOpen ≡ None = sym (rw is refl) ∙ e in cc

-- ---- which transactions go directly

pub same_open : (o p : Open) → Some o ≡ Some p → o ≡ p
same_open o p e = cc

-- with one put in, or in its place
put_alone : (p : Phase) (m : OpenTransactions) (xid : ℕ) (o : Open)
    → ((x : ℕ) (q : Open) → x ≢ xid → finite.get m x ≡ Some q → q.way ≡ Direct → begun_at p ≡ Some x)
    → (o.way ≡ Direct → begun_at p ≡ Some xid)
    → GoesAlone p (finite.insert m xid o)
put_alone p m xid o others here x q at direct =
    elim (xid_cases x xid) [
      | inl is ↦
          let same : o ≡ q = same_open o q (sym (got_same m xid o) ∙ ap (finite.get (finite.insert m xid o)) (sym is) ∙ at) in
          here (ap (λ (r : Open). r.way) same ∙ direct) ∙ ap Some (sym is)
      | inr differs ↦ others x q differs (sym (got_other m xid o x differs) ∙ at) direct
    ]

pub not_there : (o : Open) → None ≡ Some o → ⊥
not_there o e = cc

-- with one taken out
gone_alone : (p : Phase) (m : OpenTransactions) (xid : ℕ)
    → ((x : ℕ) (q : Open) → x ≢ xid → finite.get m x ≡ Some q → q.way ≡ Direct → begun_at p ≡ Some x)
    → GoesAlone p (finite.remove m xid)
gone_alone p m xid others x q at direct =
    elim (xid_cases x xid) [
      | inl is ↦ absurd (not_there q (sym (gone_same m xid) ∙ ap (finite.get (finite.remove m xid)) (sym is) ∙ at))
      | inr differs ↦ others x q differs (sym (gone_other m xid x differs) ∙ at) direct
    ]

no_xid : (x : ℕ) → None ≡ Some x → ⊥
no_xid x e = cc

-- where none was begun, none goes directly
none_direct : (m : OpenTransactions) → GoesAlone Outside m → (x : ℕ) (o : Open) → finite.get m x ≡ Some o
    → o.way ≢ Direct
none_direct m alone x o at direct = no_xid x (alone x o at direct)

block_direct : (m : OpenTransactions) (b : ℕ) → GoesAlone (Block b) m → (x : ℕ) (o : Open)
    → finite.get m x ≡ Some o → o.way ≢ Direct
block_direct m b alone x o at direct = no_xid x (alone x o at direct)

some_is : (found : Option Open) (P : Open → Type 0) → IsSomeAnd found P → (o : Open) → found ≡ Some o → P o
some_is None P is o e = absurd is
some_is (Some q) P is o e = subst P (same_open q o e) is

is_some_and : (found : Option Open) (P : Open → Type 0) (o : Open) → found ≡ Some o → P o → IsSomeAnd found P
is_some_and None P o e is = absurd (not_there o e)
is_some_and (Some q) P o e is = subst P (sym (same_open q o e)) is

-- ---- what is streamed moves nothing that was begun

given_streamed : (s t : State) (xid : ℕ) (way : Way) (item : Item) (size : ℕ) → way ≢ Direct
    → begun t ≡ begun s → Moves s t (ItemComes xid way item size)
given_streamed s t xid Direct item size streamed e = absurd (streamed refl)
given_streamed s t xid Worker item size streamed e = e
given_streamed s t xid Spooled item size streamed e = e

dropped_streamed : (s t : State) (xid : ℕ) (way : Way) → way ≢ Direct → begun t ≡ begun s
    → Moves s t (TransactionAborts xid way)
dropped_streamed s t xid Direct streamed e = absurd (streamed refl)
dropped_streamed s t xid Worker streamed e = e
dropped_streamed s t xid Spooled streamed e = e

opened_streamed : (s t : State) (xid : ℕ) (way : Way) → way ≢ Direct → begun t ≡ begun s
    → Moves s t (TransactionOpens xid way)
opened_streamed s t xid Direct streamed e = absurd (streamed refl)
opened_streamed s t xid Worker streamed e = e
opened_streamed s t xid Spooled streamed e = e

closed_streamed : (xid : ℕ) (way : Way) (items : SizedItems) → way ≢ Direct → None ≡ if_direct xid way items
closed_streamed xid Direct items streamed = absurd (streamed refl)
closed_streamed xid Worker items streamed = refl
closed_streamed xid Spooled items streamed = refl

closed_direct : (xid : ℕ) (skipped : Bool) (way : Way) (items : SizedItems) → way ≡ Direct
    → Some (xid, map item_of items) ≡ if_direct xid way (final_items skipped way items)
closed_direct xid skipped Direct items direct = refl
closed_direct xid skipped Worker items direct = cc
closed_direct xid skipped Spooled items direct = cc

streamed_way : (b : Bool) → (if b then Worker else Spooled) ≢ Direct
streamed_way true = λ e. cc
streamed_way false = λ e. cc

-- ---- each cell of the table

-- in this phase
abbrev in_phase : State → Phase → State
in_phase s p = record s { phase = p }

-- with other relations
abbrev knowing : State → Relations → State
knowing s relations = record s { relations = relations }

pub tells_nothing : (s : State) (relations : Relations) → IsSane s → IsTold s (knowing s relations)
tells_nothing s relations sane = (
  NoEvent,
  record { transactions = refl; position = refl; past = refl },
  refl,
  record { here = sane.here; alone = sane.alone },
)

stays : (s t : State) (relations : Relations) → IsSane s → went_to (knowing s relations) ≡ went_to t
    → IsTold s t
stays s t relations sane e = subst (IsTold s) (ok_is (knowing s relations) t e) (tells_nothing s relations sane)

begins_direct : (s : State) (xid final : ℕ) (t : State) → IsSane (in_phase s Outside)
    → opens (in_phase s Outside) xid Direct (Begun xid final) ≡ Ok t → IsTold (in_phase s Outside) t
begins_direct s xid final t sane e =
    let was = was_fault_free (room_fault s.transactions xid) _ t e in
    let got = got_same s.transactions xid (new_open Direct) in
    subst (IsTold (in_phase s Outside)) was.1 (
      TransactionOpens xid Direct,
      record { absent = none_at s.transactions xid was.0; transactions = refl; position = refl; past = refl },
      (refl, ap (λ (found : Option Open). Some (xid, open_items found)) got),
      record {
        here = is_some_and _ (λ o. o.way ≡ Direct) (new_open Direct) got refl;
        alone = put_alone (Begun xid final) s.transactions xid (new_open Direct) (λ x q differs at direct. absurd (none_direct s.transactions sane.alone x q at direct)) (λ direct. refl);
      },
    )

begins_block : (s : State) (xid : ℕ) (way : Way) (t : State) → way ≢ Direct → IsSane (in_phase s Outside)
    → opens (in_phase s Outside) xid way (Block xid) ≡ Ok t → IsTold (in_phase s Outside) t
begins_block s xid way t streamed sane e =
    let was = was_fault_free (room_fault s.transactions xid) _ t e in
    let next : State = record s { phase = Block xid; transactions = finite.insert s.transactions xid (new_open way) } in
    subst (IsTold (in_phase s Outside)) was.1 (
      TransactionOpens xid way,
      record { absent = none_at s.transactions xid was.0; transactions = refl; position = refl; past = refl },
      opened_streamed (in_phase s Outside) next xid way streamed refl,
      record {
        here = is_some_and _ (λ o. o.way ≢ Direct) (new_open way) (got_same s.transactions xid (new_open way)) streamed;
        alone = put_alone (Block xid) s.transactions xid (new_open way) (λ x q differs at direct. absurd (none_direct s.transactions sane.alone x q at direct)) (λ direct. absurd (streamed direct));
      },
    )

-- with this item
abbrev with_item : Open → Item → ℕ → Open
with_item o item size = record o { items = o.items ++ (item, size) ∷ [] }

-- a change of the transaction that was begun
gives_begun : (s : State) (xid final : ℕ) (c : change_type.Change) (size : ℕ) (o : Open)
    → IsSane (in_phase s (Begun xid final)) → finite.get s.transactions xid ≡ Some o
    → IsTold (in_phase s (Begun xid final)) (gives (in_phase s (Begun xid final)) xid (Change xid c) size o)
gives_begun s xid final c size o sane at =
    let direct : o.way ≡ Direct = some_is _ (λ p. p.way ≡ Direct) sane.here o at in
    let more = with_item o (Change xid c) size in
    let got = got_same s.transactions xid more in (
      ItemComes xid Direct (Change xid c) size,
      (o, direct, record { present = at; transactions = refl; position = refl; past = refl }),
      (
        tt,
        map item_of o.items,
        ap (λ (found : Option Open). Some (xid, open_items found)) at,
        ap (λ (found : Option Open). Some (xid, open_items found)) got ∙ ap (λ (is : List Item). Some (xid, is)) (map-append item_of o.items ((Change xid c, size) ∷ [])),
      ),
      record {
        here = is_some_and _ (λ p. p.way ≡ Direct) more got direct;
        alone = put_alone (Begun xid final) s.transactions xid more (λ x q differs there is. sane.alone x q there is) (λ is. refl);
      },
    )

-- an item of a streamed transaction, in a block
gives_block : (s : State) (relations : Relations) (xid : ℕ) (item : Item) (size : ℕ) (o : Open)
    → IsSane (in_phase s (Block xid)) → finite.get s.transactions xid ≡ Some o
    → IsTold (in_phase s (Block xid)) (gives (knowing (in_phase s (Block xid)) relations) xid item size o)
gives_block s relations xid item size o sane at =
    let streamed : o.way ≢ Direct = some_is _ (λ p. p.way ≢ Direct) sane.here o at in
    let more = with_item o item size in (
      ItemComes xid o.way item size,
      (o, refl, record { present = at; transactions = refl; position = refl; past = refl }),
      given_streamed (in_phase s (Block xid)) (gives (knowing (in_phase s (Block xid)) relations) xid item size o) xid o.way item size streamed refl,
      record {
        here = is_some_and _ (λ p. p.way ≢ Direct) more (got_same s.transactions xid more) streamed;
        alone = put_alone (Block xid) s.transactions xid more (λ x q differs there is. sane.alone x q there is) (λ is. absurd (streamed is));
      },
    )

-- and between blocks
gives_outside : (s : State) (xid : ℕ) (item : Item) (size : ℕ) (o : Open) → IsSane (in_phase s Outside)
    → finite.get s.transactions xid ≡ Some o
    → IsTold (in_phase s Outside) (gives (in_phase s Outside) xid item size o)
gives_outside s xid item size o sane at =
    let streamed : o.way ≢ Direct = none_direct s.transactions sane.alone xid o at in
    let more = with_item o item size in (
      ItemComes xid o.way item size,
      (o, refl, record { present = at; transactions = refl; position = refl; past = refl }),
      given_streamed (in_phase s Outside) (gives (in_phase s Outside) xid item size o) xid o.way item size streamed refl,
      record {
        here = tt;
        alone = put_alone Outside s.transactions xid more (λ x q differs there is. sane.alone x q there is) (λ is. absurd (streamed is));
      },
    )

touches_block : (g : Setting) (s : State) (relations : Relations) (xid sub size : ℕ) (t : State)
    → IsSane (in_phase s (Block xid))
    → touches g (knowing (in_phase s (Block xid)) relations) xid sub size ≡ Ok t
    → IsTold (in_phase s (Block xid)) t
touches_block g s relations xid sub size t sane e =
    let was = was_open (finite.get s.transactions xid) _ t e in
    let is = ok_is _ t (was_so (has_room g s.transactions size was.0.way) _ _ t was.2) in
    subst (IsTold (in_phase s (Block xid))) is (gives_block s relations xid (Touch sub) size was.0 sane was.1)

changes_block : (g : Setting) (s : State) (xid sub size : ℕ) (planned : Result change_type.Change RelFault) (t : State)
    → IsSane (in_phase s (Block xid)) → changes g (in_phase s (Block xid)) xid sub size planned ≡ Ok t
    → IsTold (in_phase s (Block xid)) t
changes_block g s xid sub size planned t sane e =
    let was = was_open (finite.get s.transactions xid) _ t e in
    let is = was_planned planned _ t (was_so (has_room g s.transactions size was.0.way) _ _ t was.2) in
    subst (IsTold (in_phase s (Block xid))) is.1 (gives_block s s.relations xid (Change sub is.0) size was.0 sane was.1)

changes_begun : (g : Setting) (s : State) (xid final size : ℕ) (planned : Result change_type.Change RelFault) (t : State)
    → IsSane (in_phase s (Begun xid final))
    → changes g (in_phase s (Begun xid final)) xid xid size planned ≡ Ok t
    → IsTold (in_phase s (Begun xid final)) t
changes_begun g s xid final size planned t sane e =
    let was = was_open (finite.get s.transactions xid) _ t e in
    let is = was_planned planned _ t (was_so (has_room g s.transactions size was.0.way) _ _ t was.2) in
    subst (IsTold (in_phase s (Begun xid final))) is.1 (gives_begun s xid final is.0 size was.0 sane was.1)

-- a change of one that is skipped is passed over
passes_begun : (g : Setting) (s : State) (xid final size : ℕ) (planned : Result change_type.Change RelFault) (t : State) (skipped : Bool)
    → IsSane (in_phase s (Begun xid final))
    → (if skipped then went_to (in_phase s (Begun xid final)) else changes g (in_phase s (Begun xid final)) xid xid size planned) ≡ Ok t
    → IsTold (in_phase s (Begun xid final)) t
passes_begun g s xid final size planned t true sane e = stays (in_phase s (Begun xid final)) t s.relations sane e
passes_begun g s xid final size planned t false sane e = changes_begun g s xid final size planned t sane e

-- ---- commits

-- what is committed
abbrev final_of : Bool → ℕ → CommitInfo → Open → Committed
final_of skipped xid info o = record { xid = xid; way = o.way; items = final_items skipped o.way o.items; info = info }

closes_direct : (g : Setting) (s : State) (xid final : ℕ) (info : CommitInfo) (t : State) (o : Open)
    → IsSane (in_phase s (Begun xid final)) → finite.get s.transactions xid ≡ Some o
    → closes g (in_phase s (Begun xid final)) xid info o ≡ Ok t → IsTold (in_phase s (Begun xid final)) t
closes_direct g s xid final info t o sane at e =
    let skipped = is_skipped g s info.commit in
    let was = was_not_so (nat_le info.end s.position) _ _ t e in
    let direct : o.way ≡ Direct = some_is _ (λ p. p.way ≡ Direct) sane.here o at in
    subst (IsTold (in_phase s (Begun xid final))) (ok_is _ t was.1) (
      TransactionCommits (final_of skipped xid info o),
      record { items = o.items; present = at; final = are_final skipped o.way o.items; later = leb-false info.end s.position was.0; outside = refl; transactions = refl; position = refl; past = refl },
      (ap (λ (found : Option Open). Some (xid, open_items found)) at ∙ closed_direct xid skipped o.way o.items direct, refl),
      record {
        here = tt;
        alone = gone_alone Outside s.transactions xid (λ x q differs there is. absurd (differs (sym (same_xid xid x (sane.alone x q there is)))));
      },
    )
  where
    same_xid : (x y : ℕ) → Some x ≡ Some y → x ≡ y
    same_xid x y e = cc

closes_streamed : (g : Setting) (s : State) (xid : ℕ) (info : CommitInfo) (t : State) (o : Open)
    → IsSane (in_phase s Outside) → finite.get s.transactions xid ≡ Some o
    → closes g (in_phase s Outside) xid info o ≡ Ok t → IsTold (in_phase s Outside) t
closes_streamed g s xid info t o sane at e =
    let skipped = is_skipped g s info.commit in
    let was = was_not_so (nat_le info.end s.position) _ _ t e in
    let streamed : o.way ≢ Direct = none_direct s.transactions sane.alone xid o at in
    subst (IsTold (in_phase s Outside)) (ok_is _ t was.1) (
      TransactionCommits (final_of skipped xid info o),
      record { items = o.items; present = at; final = are_final skipped o.way o.items; later = leb-false info.end s.position was.0; outside = refl; transactions = refl; position = refl; past = refl },
      (closed_streamed xid o.way (final_items skipped o.way o.items) streamed, refl),
      record {
        here = tt;
        alone = gone_alone Outside s.transactions xid (λ x q differs there is. sane.alone x q there is);
      },
    )

commits_direct : (g : Setting) (s : State) (xid final : ℕ) (m : Commit) (t : State)
    → IsSane (in_phase s (Begun xid final))
    → commits_begun g (in_phase s (Begun xid final)) xid final m ≡ Ok t
    → IsTold (in_phase s (Begun xid final)) t
commits_direct g s xid final m t sane e =
    let was = was_open (finite.get s.transactions xid) _ t (was_so (m.commit_lsn == final) _ _ t e) in
    closes_direct g s xid final (record { commit = m.commit_lsn; end = m.end_lsn }) t was.0 sane was.1 was.2

commits_streamed : (g : Setting) (s : State) (xid commit end : ℕ) (t : State) → IsSane (in_phase s Outside)
    → commits g (in_phase s Outside) xid commit end ≡ Ok t → IsTold (in_phase s Outside) t
commits_streamed g s xid commit end t sane e =
    let was = was_open (finite.get s.transactions xid) _ t e in
    closes_streamed g s xid (record { commit = commit; end = end }) t was.0 sane was.1 was.2

-- ---- aborts, and blocks

aborts_outside : (s : State) (m : StreamAbort) → IsSane (in_phase s Outside)
    → IsTold (in_phase s Outside) (aborts (in_phase s Outside) m)
aborts_outside s m sane = from (finite.get s.transactions m.xid) refl
  where
    whole : (o : Open) → finite.get s.transactions m.xid ≡ Some o → (b : Bool)
        → IsTold (in_phase s Outside) (if b then record s { phase = Outside; transactions = finite.remove s.transactions m.xid } else gives (in_phase s Outside) m.xid (BackTo m.subtransaction) 0 o)
    whole o at true =
        let streamed : o.way ≢ Direct = none_direct s.transactions sane.alone m.xid o at in (
          TransactionAborts m.xid o.way,
          (o, refl, record { present = at; transactions = refl; position = refl; past = refl }),
          dropped_streamed (in_phase s Outside) (record s { phase = Outside; transactions = finite.remove s.transactions m.xid }) m.xid o.way streamed refl,
          record {
            here = tt;
            alone = gone_alone Outside s.transactions m.xid (λ x q differs there is. sane.alone x q there is);
          },
        )
    whole o at false = gives_outside s m.xid (BackTo m.subtransaction) 0 o sane at

    from : (found : Option Open) → finite.get s.transactions m.xid ≡ found
        → IsTold (in_phase s Outside) (aborts (in_phase s Outside) m)
    from None e = subst (λ (found : Option Open). IsTold (in_phase s Outside) (aborts_open (in_phase s Outside) m found)) (sym e) (tells_nothing (in_phase s Outside) s.relations sane)
    from (Some o) e = subst (λ (found : Option Open). IsTold (in_phase s Outside) (aborts_open (in_phase s Outside) m found)) (sym e) (whole o e (m.subtransaction == m.xid))

goes_on_in : (s : State) (xid : ℕ) (t : State) → IsSane (in_phase s Outside)
    → goes_on (in_phase s Outside) xid ≡ Ok t → IsTold (in_phase s Outside) t
goes_on_in s xid t sane e = from (finite.get s.transactions xid) refl
  where
    from : (found : Option Open) → finite.get s.transactions xid ≡ found → IsTold (in_phase s Outside) t
    from None is = let no : refuse UnknownTransaction ≡ went_to t = sym (rw is refl) ∙ e in cc
    from (Some o) is =
        let on : goes_on (in_phase s Outside) xid ≡ Ok (in_phase s (Block xid)) = rw is refl in
        subst (IsTold (in_phase s Outside)) (ok_is _ t (sym on ∙ e)) (
          NoEvent,
          record { transactions = refl; position = refl; past = refl },
          refl,
          record {
            here = is_some_and _ (λ p. p.way ≢ Direct) o is (none_direct s.transactions sane.alone xid o is);
            alone = λ x q there direct. absurd (none_direct s.transactions sane.alone x q there direct);
          },
        )

streams_in : (g : Setting) (s : State) (m : StreamStart) (t : State) → IsSane (in_phase s Outside)
    → streams g (in_phase s Outside) m ≡ Ok t → IsTold (in_phase s Outside) t
streams_in g s m t sane e = from m.is_first e
  where
    from : (b : Bool)
        → (if b then opens (in_phase s Outside) m.xid (next_way g (in_phase s Outside)) (Block m.xid) else goes_on (in_phase s Outside) m.xid) ≡ Ok t
        → IsTold (in_phase s Outside) t
    from true is = begins_block s m.xid (next_way g (in_phase s Outside)) t (streamed_way _) sane is
    from false is = goes_on_in s m.xid t sane is

leaves : (s : State) (xid : ℕ) → IsSane (in_phase s (Block xid))
    → IsTold (in_phase s (Block xid)) (in_phase s Outside)
leaves s xid sane = (
  NoEvent,
  record { transactions = refl; position = refl; past = refl },
  refl,
  record { here = tt; alone = λ x q there direct. absurd (block_direct s.transactions xid sane.alone x q there direct) },
)

-- ---- the table

by_phase : (g : Setting) (s : State) (p : Phase) (t : State) (size : ℕ) (m : Message)
    → IsSane (in_phase s p) → step g (in_phase s p) size m ≡ Ok t → IsTold (in_phase s p) t
by_phase g s Outside t size (messages.Begin m) sane e = begins_direct s m.xid m.final_lsn t sane e
by_phase g s (Begun x f) t size (messages.Commit m) sane e = commits_direct g s x f m t sane e
by_phase g s (Begun x f) t size (messages.Origin m) sane e = stays (in_phase s (Begun x f)) t s.relations sane e
by_phase g s (Block x) t size (messages.Origin m) sane e = stays (in_phase s (Block x)) t s.relations sane e
by_phase g s p t size (messages.Message m) sane e = stays (in_phase s p) t s.relations sane e
by_phase g s (Block x) t size (messages.Relation sub r) sane e = touches_block g s _ x (subtransaction_named sub x) size t sane e
by_phase g s p t size (messages.Relation sub r) sane e = stays (in_phase s p) t _ sane e
by_phase g s (Block x) t size (messages.TypeName m) sane e = touches_block g s s.relations x (subtransaction_named m.xid x) size t sane e
by_phase g s p t size (messages.TypeName m) sane e = stays (in_phase s p) t s.relations sane e
by_phase g s (Begun x f) t size (messages.Insert m) sane e = passes_begun g s x f size _ t (is_skipped g s f) sane e
by_phase g s (Block x) t size (messages.Insert m) sane e = changes_block g s x (subtransaction_named m.xid x) size _ t sane e
by_phase g s (Begun x f) t size (messages.Update m) sane e = passes_begun g s x f size _ t (is_skipped g s f) sane e
by_phase g s (Block x) t size (messages.Update m) sane e = changes_block g s x (subtransaction_named m.xid x) size _ t sane e
by_phase g s (Begun x f) t size (messages.Delete m) sane e = passes_begun g s x f size _ t (is_skipped g s f) sane e
by_phase g s (Block x) t size (messages.Delete m) sane e = changes_block g s x (subtransaction_named m.xid x) size _ t sane e
by_phase g s (Begun x f) t size (messages.Truncate m) sane e = passes_begun g s x f size _ t (is_skipped g s f) sane e
by_phase g s (Block x) t size (messages.Truncate m) sane e = changes_block g s x (subtransaction_named m.xid x) size _ t sane e
by_phase g s Outside t size (messages.StreamStart m) sane e = streams_in g s m t sane e
by_phase g s (Block x) t size messages.StreamStop sane e = subst (IsTold (in_phase s (Block x))) (ok_is _ t e) (leaves s x sane)
by_phase g s Outside t size (messages.StreamCommit m) sane e = commits_streamed g s m.xid m.commit_lsn m.end_lsn t sane e
by_phase g s Outside t size (messages.StreamAbort m) sane e = subst (IsTold (in_phase s Outside)) (ok_is _ t e) (aborts_outside s m sane)
by_phase g s p t size m sane e = cc

pub told : (g : Setting) (s t : State) (size : ℕ) (m : Message) → IsSane s → step g s size m ≡ Ok t
    → IsTold s t
told g s t size m sane e = by_phase g s s.phase t size m sane e

-- ---- a stream

no_open : (x : ℕ) (o : Open) → finite.get start.transactions x ≡ Some o → ⊥
no_open x o e = not_there o (sym (finite.get-empty _ x) ∙ e)

pub sane_start : IsSane start
sane_start = record { here = tt; alone = λ x o at direct. absurd (no_open x o at) }
